use Rattle.std.proofs.Common.{ℕ, ◌<◌}
use Rattle.atn_graph.specs.Net.{net}
use Rattle.atn.specs.Walks.{LeftRecursive}
use Rattle.atn.proofs.recursion.is_left_recursive.Given as goal

abbrev pub invariant-loop-rule : goal.invariant-loop-rule
invariant-loop-rule l = (k : ℕ) → k < l.rule-index → LeftRecursive (net l.g.lists) k → ⊥
