use Rattle.std.proofs.Common.{◌≡◌, Decides, sym, ap, ◌∙◌, subst}
use Rattle.std.specs.List.{list_any}
use Rattle.atn.specs.Calls.{calls}
use Rattle.atn.specs.Found.{found}
use Rattle.atn.specs.Walks.{LeftRecursiveFrom}
use Rattle.atn_graph.specs.Net.{net}
use Rattle.atn.proofs.Recursing.{decides_recursive}
use Rattle.atn.proofs.recursion.is_recursive.Goals as goal

pub returns : goal.returns
returns c =
    let g = c.args.nullables.now.graph.now in
    let s = c.args.s in
    let told : c.some_call.result ≡ list_any (λ k. calls (net g.lists) k s) (found c.reach.result) = c.some_call.ensures ∙ ap (list_any (λ k. calls (net g.lists) k s)) c.states.ensures in
    subst (λ b. Decides b (LeftRecursiveFrom (net g.lists) s)) (sym told) (decides_recursive g s (found c.args.nullables.now.states) (found c.reach.result) c.requires c.reach.ensures.inside c.reach.ensures.outside)
