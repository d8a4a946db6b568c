use Rattle.std.proofs.Common.{◌≡◌, ◌-◌, ◌<◌, ◌≤◌, length, take}
use Rattle.token_stream.specs.Streams.{KeepsShown, filtered}
use Rattle.token_stream.proofs.filter.next_visible.Given as goal

-- no token after the first `from` and before number j is visible
abbrev pub invariant-loop-j : goal.invariant-loop-j
invariant-loop-j g l = record {
  keeps : KeepsShown g.S.IntStream.tape g.S.IntStream.shown l.fn.below l.below;
  after : l.from < l.j;
  within : l.j ≤ length (g.S.IntStream.shown l.fn.below);
  between : filtered (take (l.j - 1) (g.S.IntStream.shown l.fn.below)) ≡ filtered (take l.from (g.S.IntStream.shown l.fn.below));
}

abbrev pub decreases-loop-j : goal.decreases-loop-j
decreases-loop-j g l = length (g.S.IntStream.shown l.below) - l.j
