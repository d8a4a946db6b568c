use Rattle.std.proofs.Common.{sym, subst}
use Rattle.atn_graph.specs.Rules.{LabelFits}
use Rattle.atn_graph.proofs.Inside.{label_fits}
use Rattle.atn.specs.Checked.{net_of}
use Rattle.atn.proofs.atn.Atn.label.Goals as goal

pub add_label-requires : goal.add_label-requires
add_label-requires c =
    let a = c.args.self.now in
    let e = c.in_ok-edge.ensures in
    subst (λ y. LabelFits (net_of a) y.kind) (sym e.1) (label_fits a.graph c.args.j e.0)
