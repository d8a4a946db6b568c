use Rattle.std.proofs.Common.{◌-◌}
use Rattle.atn.specs.Found.{found}
use Rattle.atn.specs.Reach.{Listed}
use Rattle.atn.proofs.Searching.{Search}
use Rattle.atn.proofs.nullable.NullableStates.reach.Given as goal

abbrev pub invariant-loop-k : goal.invariant-loop-k
invariant-loop-k l = Search (Listed (found l.self.states)) l.self.graph.now l.s l.next (found l.visits)

abbrev pub decreases-loop-k : goal.decreases-loop-k
decreases-loop-k l = 512 - l.next
