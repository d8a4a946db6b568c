use Rattle.std.proofs.Common.{◌-◌, length}
use Rattle.atn_graph.specs.Net.{net}
use Rattle.atn.specs.Found.{found}
use Rattle.atn.specs.Passes.{AllNullable}
use Rattle.atn.proofs.nullable.NullableStates.of.Given as goal

abbrev pub invariant-loop-states : goal.invariant-loop-states
invariant-loop-states l = AllNullable (net l.graph.lists) (found l.states)

abbrev pub decreases-loop-states : goal.decreases-loop-states
decreases-loop-states l = 512 - length (found l.states)
