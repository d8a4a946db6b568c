use Rattle.std.proofs.Common.{◌≡◌, length, arith}
use Rattle.atn_graph.specs.Net.{net}
use Rattle.atn.specs.Found.{found}
use Rattle.atn.proofs.Passing.{pass_end}
use Rattle.atn.proofs.nullable.NullableStates.of.Goals as goal

pub returns-then-len-before-clause-known : goal.returns-then-len-before-clause-known
returns-then-len-before-clause-known c =
    let before = found c.loop-states.states in
    let after = found c.pass.new.states in
    let same : length after ≡ length before = omega arith in
    pass_end (net c.args.graph.now.lists) before after c.pass.ensures same c.loop-states.invariant
