use Rattle.std.proofs.Common.{◌≡◌, Bool, ◌||◌, Decides, sym, ap, ◌∙◌, subst, take_all, true, ◌⊎◌, take, get_or}
use mathlib.Core.Bool.{or_assoc}
use Rattle.std.proofs.lemmas.Bool.Decides.{Decides-or}
use Rattle.std.specs.List.{list_any}
use Rattle.interval_set.specs.Members.{holds}
use Rattle.atn_graph.specs.Net.{net, no_edge, edges_of}
use Rattle.atn_graph.specs.Rules.{LabelFits}
use Rattle.atn_graph.specs.declared.transition.Transition.{Transition}
use Rattle.atn_graph.proofs.Inside.{label_fits, edge_inside}
use Rattle.atn.proofs.Some.{edge_state, item_is, item_of}
use Rattle.atn.specs.Checked.{net_of}
use Rattle.atn.specs.Labels.{takes, TakesAt}
use Rattle.atn.proofs.Labelling.{any_more, decides_takes}
use Rattle.atn.proofs.atn.Atn.add_labels.Goals as goal

pub add_label-requires : goal.add_label-requires
add_label-requires c =
    let g = c.args.self.now.graph in
    let s = c.args.s in
    let i = c.loop-e.e-index in
    let of = item_of g s _ c.edges-e-items.ensures i c.loop-e-test.true in
    subst (λ e. LabelFits (net g.lists) e.kind) (sym (item_is g s _ c.edges-e-items.ensures i c.loop-e-test.true)) (label_fits g _ (edge_inside g s _ (edge_state (net g.lists) s _ of) of))

pub loop-e-preserved : goal.loop-e-preserved
loop-e-preserved c x =
    let n = net_of c.args.self.now in
    let xs = c.edges-e-items.result.now in
    let i = c.loop-e.e-index in
    let p : Transition → Bool = λ e. takes n e.kind x in
    c.add_label.ensures x
    ∙ ap (λ b. b || p (get_or xs i no_edge)) (c.loop-e.invariant x)
    ∙ or_assoc (holds c.args.set.now x) (list_any p (take i xs)) (p (get_or xs i no_edge))
    ∙ ap (λ b. holds c.args.set.now x || b) (sym (any_more p xs i no_edge c.loop-e-test.true))

pub returns : goal.returns
returns c x =
    let a = c.args.self.now in
    let p : Transition → Bool = λ e. takes (net_of a) e.kind x in
    let edges = edges_of (net_of a) c.args.s in
    let told : holds c.loop-e.set x ≡ (holds c.args.set.now x || list_any p edges) = c.loop-e.invariant x ∙ ap (λ es. holds c.args.set.now x || list_any p es) (take_all c.loop-e.e-index _ c.loop-e-test.false ∙ c.edges-e-items.ensures) in
    subst (λ b. Decides b ((holds c.args.set.now x ≡ true) ⊎ TakesAt (net_of a) c.args.s x)) (sym told)
    (Decides-or (holds c.args.set.now x) (list_any p edges) (λ e. e, λ e. e) (decides_takes a.graph c.args.s x))
