use Rattle.std.proofs.Common.{ℤ, Decides}
use Rattle.interval_set.specs.Members.{holds}
use Rattle.atn.specs.Checked.{net_of}
use Rattle.ll1_analyzer.specs.Answers.{KeepsNet}
use Rattle.ll1_analyzer.proofs.Joining.{WithinBefore}
use Rattle.ll1_analyzer.proofs.sets.get_error_recovery_set.Given as goal

abbrev pub invariant-loop-f : goal.invariant-loop-f
invariant-loop-f g l = record {
  keeps : KeepsNet g.L.Lookahead.atn g.L.Lookahead.agrees l.fn.l l.l;
  joined : g.L.Lookahead.agrees l.fn.l → (x : ℤ) → Decides (holds l.set x) (WithinBefore (net_of (g.L.Lookahead.atn l.fn.l)) l.f-items l.f-index x);
}
