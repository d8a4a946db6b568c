use Rattle.fixed_vec.specs.Items.{items}
use Rattle.atn.specs.Checked.{net_of}
use Rattle.ll1_analyzer.proofs.Reading.{ReadSoFar}
use Rattle.ll1_analyzer.proofs.chain.rule_transitions.Given as goal

abbrev pub invariant-loop-s : goal.invariant-loop-s
invariant-loop-s g l = ReadSoFar (net_of (g.L.Lookahead.atn l.l)) l.chain l.s-index (items l.calls)
