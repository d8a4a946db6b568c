-- The states that a state reaches, by a search that visits each state found.
use Rattle.std.proofs.Common.{◌≡◌, ℕ, zero, suc, ◌+◌, ◌-◌, ◌<◌, ◌≤◌, ◌⊎◌, List, [], length, get_or, sym, refl, subst, inl, inr, arith}
use Rattle.std.proofs.lemmas.Bool.{cases_lt}
use Rattle.atn_graph.specs.declared.graph.Graph.{Graph}
use Rattle.atn_graph.specs.declared.transition.Move.{Move}
use Rattle.atn_graph.specs.declared.transition.Move.TheVariants.{Along, Call, Token}
use Rattle.atn_graph.specs.declared.transition.Transition.{Transition}
use Rattle.atn_graph.specs.Kinds.{move_of}
use Rattle.atn_graph.specs.Net.{Net, net, size, Of, state_at, edge_at}
use Rattle.atn_graph.proofs.Inside.{few_states, target_inside, follow_inside}
use Rattle.atn_graph.proofs.StateEdges.{run_rises}
use Rattle.atn.specs.Marks.{Grown}
use Rattle.atn.specs.Found.{with_state}
use Rattle.atn.specs.Reach.{StepOver, LeadsByOver, LeadsOver, KnowsReachedOver}
use Rattle.atn.proofs.Growth.{grown_none, grown_like, grown_both}
use Rattle.atn.proofs.Some.{among_more, among_last, edge_state}
use Rattle.atn.proofs.Following.{along_with, call_with, both_with}
use Rattle.atn.proofs.Steps.{LeadsAmongOver, step_leads, leads_step}
use Rattle.atn.proofs.Searching.{Search, search_start, search_more, search_end}
use Rattle.recovery_model.proofs.Rooms.{Room, room_none, room_with, room_few}

-- The list, grown by what P tells.
record Visit (P : ℕ → Type 0) (before : List ℕ) : Type 0 where
  after : List ℕ
  grown : Grown P before after
  room : Room after

-- A list of exactly the states that s reaches.
pub record Reached (N : ℕ → Type 0) (n : Net) (s : ℕ) : Type 0 where
  pub listed : List ℕ
  pub known : KnowsReachedOver N n s listed

module _ (N : ℕ → Type 0) (told : (k : ℕ) → N k ⊎ (N k → ⊥)) where
  -- where one edge leads
  visit_edge : (e : Transition) → e.target < 512 → ((f : ℕ) → move_of e.kind ≡ Call f → f < 512) → (a : List ℕ) → Room a → Visit (LeadsOver N e) a
  visit_edge e t few a r = at (move_of e.kind) refl
    where
      one : Room (with_state e.target a)
      one = room_with e.target a t r

      call : (f : ℕ) → Call f ≡ move_of e.kind → N e.target ⊎ (N e.target → ⊥) → Visit (LeadsOver N e) a
      call f is (inl u) = record {
        after = with_state f (with_state e.target a);
        grown = both_with N e a f (with_state e.target a) _ is u refl refl;
        room = room_with f (with_state e.target a) (few f (sym is)) one;
      }
      call f is (inr never) = record { after = with_state e.target a; grown = call_with N e a f (with_state e.target a) is never refl; room = one }

      at : (m : Move) → m ≡ move_of e.kind → Visit (LeadsOver N e) a
      at Along is = record { after = with_state e.target a; grown = along_with N e a (with_state e.target a) is refl; room = one }
      at (Call f) is = call f is (told e.target)
      at Token is = record { after = a; grown = grown_none a (λ k h. absurd (subst (λ m. LeadsByOver N e.target m k) (sym is) h)); room = r }

  -- where the first edges of a state lead
  visit_some : (g : Graph) (s many : ℕ) → (state_at (net g.lists) s).first + many ≤ (state_at (net g.lists) s).end → (a : List ℕ) → Room a
      → Visit (LeadsAmongOver N (net g.lists) (state_at (net g.lists) s).first ((state_at (net g.lists) s).first + many)) a
  visit_some g s zero l a r = record { after = a; grown = grown_none a (λ k h. absurd (omega (arith, h.from, h.below))); room = r }
  visit_some g s (suc many) l a r =
      let n = net g.lists in
      let first = (state_at n s).first in
      let j = first + many in
      let next : j + 1 ≡ first + suc many = omega arith in
      let low : first ≤ j = omega arith in
      let of : Of n s j = (low, omega (arith, l)) in
      let v = visit_some g s many (omega (arith, l)) a r in
      let w = visit_edge (edge_at n j) (omega (arith, few_states g, target_inside g s j (edge_state n s j of) of))
      (λ f is. omega (arith, few_states g, follow_inside g s j (edge_state n s j of) of f is)) v.after v.room in
      record {
        after = w.after;
        grown = subst (λ i. Grown (LeadsAmongOver N n first i) a w.after) next (grown_like {b = w.after} (λ k. among_more n first j low) (λ k. among_last n first j) (grown_both {b = v.after} {c = w.after} v.grown w.grown));
        room = w.room;
      }

  -- where a state leads
  visit : (g : Graph) (s : ℕ) (a : List ℕ) → Room a → Visit (StepOver N (net g.lists) s) a
  visit g s a r =
      let n = net g.lists in
      let first = (state_at n s).first in
      let end : first + ((state_at n s).end - first) ≡ (state_at n s).end = omega (arith, run_rises g s) in
      let v = visit_some g s ((state_at n s).end - first) (omega (arith, end)) a r in
      record {
        after = v.after;
        grown = grown_like (λ k h. leads_step N n s k (subst (λ x. LeadsAmongOver N n first x k) end h)) (λ k h. subst (λ x. LeadsAmongOver N n first x k) (sym end) (step_leads N n s k h)) v.grown;
        room = v.room;
      }

  -- no state is found twice, so places visits are enough
  search_from : (g : Graph) (s places next : ℕ) (xs : List ℕ) → Search N g s next xs → Room xs → 512 ≤ next + places → Reached N (net g.lists) s
  search_from g s zero next xs w r l = record { listed = xs; known = search_end N g s next xs (omega (arith, room_few xs r, l)) w }
  search_from g s (suc places) next xs w r l =
      elim (cases_lt next (length xs)) [
        | inl more ↦ let v = visit g (get_or xs next 0) xs r in search_from g s places (next + 1) v.after (search_more N g s next xs v.after more w v.grown) v.room (omega (arith, l))
        | inr done ↦ record { listed = xs; known = search_end N g s next xs done w }
      ]

  pub reached_from : (g : Graph) (s : ℕ) → s < size (net g.lists) → Reached N (net g.lists) s
  reached_from g s l =
      search_from g s 512 0 (with_state s []) (search_start N g s [] (with_state s []) refl refl l) (room_with s [] (omega (arith, few_states g, l)) room_none) (omega arith)
