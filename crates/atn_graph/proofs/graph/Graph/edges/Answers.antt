use Rattle.std.proofs.Common.{◌≡◌, ◌≤◌, ◌<◌, length, ap, arith, rules}
use Rattle.atn_graph.specs.Net.{net, size, state_at}
use Rattle.atn_graph.proofs.Soundness.{runs_of}
use Rattle.atn_graph.proofs.Inside.{end_inside}
use Rattle.atn_graph.proofs.graph.Graph.edges.Goals as goal
use Rattle.atn_graph.proofs.graph.Graph.edges.Goals.{After-deref-in-Some}

-- the run of the state's edges lies within the edges
within : (c : After-deref-in-Some) → (c.in-Some.state.now.first ≤ c.in-Some.state.now.end) × (c.in-Some.state.now.end ≤ length (net c.args.self.now.lists).edges)
within c =
    let g = c.args.self.now in
    let l : c.args.s < size (net g.lists) = search rules in
    let e : c.in-Some.state.now ≡ state_at (net g.lists) c.args.s = search rules in
    let first = ap (λ x. x.first) e in
    let end = ap (λ x. x.end) e in
    (omega (arith, first, end, (runs_of g c.args.s l).1), omega (arith, end, end_inside g c.args.s l))

pub run-requires : goal.run-requires
run-requires c = let w = within c in search rules
