use Rattle.std.proofs.Common.{◌-◌, ◌≤◌, length}
use Rattle.token_stream.specs.Streams.{KeepsShown}
use Rattle.token_stream.specs.Looked.{Looked}
use Rattle.token_stream.proofs.filter.look_on.Given as goal

abbrev pub invariant-loop-cursor : goal.invariant-loop-cursor
invariant-loop-cursor g l = record {
  keeps : KeepsShown g.S.IntStream.tape g.S.IntStream.shown l.fn.below l.below;
  looked : Looked (g.S.IntStream.shown l.fn.below) l.cursor.count l.cursor.ahead;
  not_past : l.cursor.count ≤ l.k;
}

abbrev pub decreases-loop-cursor : goal.decreases-loop-cursor
decreases-loop-cursor g l = length (g.S.IntStream.shown l.below) - l.cursor.ahead
