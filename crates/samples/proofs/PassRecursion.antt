-- No rule of the pass net is left-recursive.
use Rattle.std.proofs.Common.{◌≡◌, ℕ, ◌<◌, ◌≤◌, false, true, ◌⊎◌, List, [], sym, refl, ap, subst, inl, inr, arith, rules, ◌∙◌}
use Rattle.std.proofs.lemmas.List.{get_or_past}
use Rattle.std.proofs.lemmas.Bool.{eq-eqb, both_ways, cases_eq, cases_lt}
use Rattle.atn_graph.specs.declared.transition.Move.TheVariants.{Along, Call, Token}
use Rattle.atn_graph.specs.Kinds.{move_of, is_stop}
use Rattle.atn_graph.specs.Net.{Net, Of, no_edge, state_at, edge_at}
use Rattle.atn.specs.Walks.{HasEdge, Walk, LeftRecursive, LeftRecursiveFrom, HasLeftRecursion}
use Rattle.atn.specs.Calls.{is_call, calls_by}
use Rattle.samples.specs.Pass.{pass, plain_to}
use Rattle.samples.proofs.Each.{Each, each}

-- a walk stays at a state whose edges all take a token
stays : {n : Net} {s k : ℕ} {p q : List ℕ} → Walk n s p k q → is_stop (state_at n s).kind ≡ false → ((j : ℕ) → Of n s j → move_of (edge_at n j).kind ≡ Token) → k ≡ s
stays Walk.here goes tokens = refl
stays (Walk.along e w) goes tokens = let t = tokens e.number e.of in let h = e.moves in cc (t, h)
stays (Walk.call e w) goes tokens = let t = tokens e.number e.of in let h = e.moves in cc (t, h)
stays (Walk.back e w) goes tokens = absurd (both_ways _ goes e)

-- and goes on to t from a state whose edges are all plain ones to t
goes_on : {n : Net} {s k : ℕ} {p q : List ℕ} (t : ℕ) → Walk n s p k q → is_stop (state_at n s).kind ≡ false → ((j : ℕ) → Of n s j → edge_at n j ≡ plain_to t) → (k ≡ s) ⊎ Walk n t p k q
goes_on t Walk.here goes plain = inl refl
goes_on {n} {s} {k} {p} {q} t (Walk.along e w) goes plain =
    let is = plain e.number e.of in
    inr (subst (λ u. Walk n u p k q) (sym e.leads ∙ ap (λ x. x.target) is) w)
goes_on {n} t (Walk.call e w) goes plain =
    let is : move_of (edge_at n e.number).kind ≡ Along = ap (λ x. move_of x.kind) (plain e.number e.of) in
    let h = e.moves in
    cc (is, h)
goes_on t (Walk.back e w) goes plain = absurd (both_ways _ goes e)

call_of_edge : {n : Net} {s t f : ℕ} (e : HasEdge n s t (Call f)) → is_call t (edge_at n e.number) ≡ true
call_of_edge {n} {t = t} e = ap (calls_by t (edge_at n e.number).target) e.moves ∙ eq-eqb (edge_at n e.number).target t e.leads

-- no edge calls state 0
abbrev NoCall : ℕ → Type 0
NoCall j = is_call 0 (edge_at pass j) ≡ false

no_call_listed : Each NoCall 0 10
no_call_listed = search rules

no_call : (j : ℕ) → NoCall j
no_call j = at (cases_lt j 10)
  where
    at : (j < 10) ⊎ (10 ≤ j) → NoCall j
    at (inl l) = each NoCall 0 10 j no_call_listed (omega arith) (omega arith)
    at (inr l) = ap (is_call 0) (get_or_past pass.edges j no_edge l)

from_0 : LeftRecursiveFrom pass 0 → ⊥
from_0 r = both_ways _ (no_call r.calls.number) (call_of_edge r.calls)

-- from state 6 walks come to state 7 alone, and neither makes a call
from_6 : LeftRecursiveFrom pass 6 → ⊥
from_6 r = at (goes_on 7 r.walk refl plain) r.calls
  where
    plain : (j : ℕ) → Of pass 6 j → edge_at pass j ≡ plain_to 7
    plain j of = let is : 6 ≡ j = omega (arith, of) in subst (λ i. edge_at pass i ≡ plain_to 7) is refl

    tokens : (j : ℕ) → Of pass 7 j → move_of (edge_at pass j).kind ≡ Token
    tokens j of = let is : 7 ≡ j = omega (arith, of) in subst (λ i. move_of (edge_at pass i).kind ≡ Token) is refl

    none_6 : HasEdge pass 6 6 (Call r.follow) → ⊥
    none_6 e = let is : move_of (edge_at pass e.number).kind ≡ Along = ap (λ x. move_of x.kind) (plain e.number e.of) in let h = e.moves in cc (is, h)

    none_7 : HasEdge pass 7 6 (Call r.follow) → ⊥
    none_7 e = let is = tokens e.number e.of in let h = e.moves in cc (is, h)

    at : (r.state ≡ 6) ⊎ Walk pass 7 [] r.state r.stack → HasEdge pass r.state 6 (Call r.follow) → ⊥
    at (inl is) e = none_6 (subst (λ k. HasEdge pass k 6 (Call r.follow)) is e)
    at (inr w) e = none_7 (subst (λ k. HasEdge pass k 6 (Call r.follow)) (stays w refl tokens) e)

pub not_left_recursive : HasLeftRecursion pass → ⊥
not_left_recursive r = at (cases_eq r.rule 0)
  where
    at : (r.rule ≡ 0) ⊎ (r.rule ≡ 0 → ⊥) → ⊥
    at (inl is) = from_0 (subst (LeftRecursive pass) is r.recursive)
    at (inr ne) = let is : r.rule ≡ 1 = omega (arith, r.inside, ne) in from_6 (subst (LeftRecursive pass) is r.recursive)
