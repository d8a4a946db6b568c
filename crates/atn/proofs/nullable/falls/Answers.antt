use Rattle.std.proofs.Common.{◌≡◌, sym, ap, ◌∙◌, inl, inr}
use Rattle.std.specs.List.{list_any}
use Rattle.std.proofs.lemmas.Bool.{both_ways}
use Rattle.atn_graph.specs.Net.{net, edges_of}
use Rattle.atn.specs.Found.{found}
use Rattle.atn.specs.Passes.{over_listed}
use Rattle.atn.proofs.Some.{any_edge}
use Rattle.atn.proofs.nullable.falls.Goals as goal

pub returns-else-is_stop : goal.returns-else-is_stop
returns-else-is_stop c =
    let g = c.args.graph.now in
    let xs = found c.args.states.now in
    let told : c.any_leads_over.result ≡ list_any (over_listed xs) (edges_of (net g.lists) c.args.s) = c.any_leads_over.ensures ∙ ap (list_any (over_listed xs)) c.edges.ensures in
    let edge = any_edge g c.args.s (over_listed xs) in (
      λ e. inr (edge.0 (sym told ∙ e)),
      λ f. elim f [ inl e ↦ absurd (both_ways _ (sym c.if-is_stop.ensures) e) | inr a ↦ told ∙ edge.1 a ],
    )
