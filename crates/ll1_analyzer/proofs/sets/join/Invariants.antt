use Rattle.std.proofs.Common.{◌∷◌, drop}
use Rattle.atn.specs.Checked.{net_of}
use Rattle.ll1_analyzer.specs.Answers.{KeepsNet}
use Rattle.ll1_analyzer.proofs.Joining.{SoFar}
use Rattle.ll1_analyzer.proofs.sets.join.Given as goal

abbrev pub invariant-loop-f : goal.invariant-loop-f
invariant-loop-f g l = record {
  keeps : KeepsNet g.L.Lookahead.atn g.L.Lookahead.agrees l.fn.l l.l;
  joined : g.L.Lookahead.agrees l.fn.l → SoFar (net_of (g.L.Lookahead.atn l.fn.l)) (l.s ∷ l.follows) l.set (drop l.f-index l.follows);
}
