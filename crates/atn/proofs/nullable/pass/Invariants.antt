use Rattle.atn_graph.specs.Net.{net}
use Rattle.atn.specs.Found.{found}
use Rattle.atn.specs.Passes.{Pass}
use Rattle.atn.proofs.nullable.pass.Given as goal

abbrev pub invariant-loop-s : goal.invariant-loop-s
invariant-loop-s l = Pass (net l.graph.lists) l.s (found l.initial.states) (found l.states)
