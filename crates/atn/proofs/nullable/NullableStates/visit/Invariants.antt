use Rattle.std.proofs.Common.{◌+◌}
use Rattle.atn_graph.specs.Net.{net, state_at}
use Rattle.atn.specs.Marks.{Grown}
use Rattle.atn.specs.Found.{found}
use Rattle.atn.specs.Reach.{Listed}
use Rattle.atn.proofs.Steps.{LeadsAmongOver}
use Rattle.atn.proofs.nullable.NullableStates.visit.Given as goal

abbrev pub invariant-loop-e : goal.invariant-loop-e
invariant-loop-e l =
    Grown (LeadsAmongOver (Listed (found l.self.states)) (net l.self.graph.now.lists) (state_at (net l.self.graph.now.lists) l.s).first ((state_at (net l.self.graph.now.lists) l.s).first + l.e-index)) (found l.initial.visits) (found l.visits)
