use Rattle.std.proofs.Common.{◌≡◌, sym, ap, subst, rules}
use Rattle.std.proofs.Props.{props}
use Rattle.atn_graph.specs.declared.graph.Graph.{Graph}
use Rattle.atn_graph.specs.Net.{net}
use Rattle.atn.specs.declared.atn.Atn.{Atn}
use Rattle.atn.specs.Walks.{HasLeftRecursion}
use Rattle.atn.proofs.atn.AtnClone.clone.Goals as goal

-- a net with the same graph is the same
same_net : (a : Atn) (g : Graph) → a.graph ≡ g → (p : HasLeftRecursion (net g.lists) → ⊥) → record { graph = g; not_left_recursive = p } ≡ a
same_net a g e = subst (λ x. (p : HasLeftRecursion (net x.lists) → ⊥) → record { graph = x; not_left_recursive = p } ≡ a) e once
  where
    once : (p : HasLeftRecursion (net a.graph.lists) → ⊥) → record { graph = a.graph; not_left_recursive = p } ≡ a
    once p =
        let irrelevant : (x y : HasLeftRecursion (net a.graph.lists) → ⊥) → x ≡ y = Prim.hlevel props in
        ap (λ q. record { graph = a.graph; not_left_recursive = q }) (irrelevant p a.not_left_recursive)

pub returns : goal.returns
returns c =
    let same : c.in_ok-clone.field-0 ≡ c.args.self.now.graph = search rules in
    record { cases = same_net c.args.self.now _ (sym same) _ }
