use Rattle.std.proofs.Common.{◌≡◌, rules}
use Rattle.atn_graph.proofs.graph.GraphClone.clone.Goals as goal

pub invariant_of-result : goal.invariant_of-result
invariant_of-result c =
    let g = c.args.self.now in
    let same : c.in_ok-clone.field-0 ≡ g.lists = search rules in
    rw same (record { limits = g.limits; runs = g.runs; sound = g.sound })
