use Rattle.std.proofs.Common.{ℤ, Decides}
use Rattle.interval_set.specs.Members.{holds}
use Rattle.atn.specs.Checked.{net_of}
use Rattle.ll1_analyzer.proofs.Within.{TakenBefore}
use Rattle.ll1_analyzer.proofs.analyzer.LL1Analyzer.look.Given as goal

-- the types at the states so far are added
abbrev pub invariant-loop-k : goal.invariant-loop-k
invariant-loop-k l = (x : ℤ) → Decides (holds l.set x) (TakenBefore (net_of l.self.atn.now) l.k-items l.k-index x)
