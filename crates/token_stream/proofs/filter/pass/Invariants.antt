use Rattle.std.proofs.Common.{◌≡◌, drop}
use Rattle.token_stream.proofs.filter.pass.Given as goal

abbrev pub invariant-loop : goal.invariant-loop
invariant-loop g l = record {
  tape : g.S.IntStream.tape l.below ≡ g.S.IntStream.tape l.fn.below;
  shown : g.S.IntStream.shown l.below ≡ drop l.counter (g.S.IntStream.shown l.fn.below);
}
