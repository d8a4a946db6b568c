-- The nullable states of a net, by passes until one adds nothing.
use Rattle.std.proofs.Common.{◌≡◌, ℕ, zero, suc, ◌+◌, ◌<◌, ◌≤◌, Bool, true, false, ◌||◌, Decides, ◌⊎◌, List, [], length, refl, subst, inl, inr, arith}
use Rattle.std.specs.List.{list_any}
use Rattle.std.proofs.lemmas.Bool.{cases_Bool, cases_lt, both_ways}
use Rattle.std.proofs.lemmas.Bool.Decides.{Decides-or}
use Rattle.atn_graph.specs.declared.graph.Graph.{Graph}
use Rattle.atn_graph.specs.Kinds.{is_stop}
use Rattle.atn_graph.specs.Net.{Net, net, size, state_at, edges_of}
use Rattle.atn_graph.proofs.Inside.{few_states}
use Rattle.atn.specs.Found.{with_state}
use Rattle.atn.specs.Reach.{KnowsNullable}
use Rattle.atn.specs.Passes.{over_listed, Falls, AllNullable, Pass}
use Rattle.atn.proofs.Some.{any_edge}
use Rattle.atn.proofs.Passing.{pass_skip, pass_note, pass_end}
use Rattle.recovery_model.proofs.Rooms.{Room, room_none, room_with, room_few}

-- a test whether a state is a stop state or leads over states of the list
falls : Graph → List ℕ → ℕ → Bool
falls g xs s = is_stop (state_at (net g.lists) s).kind || list_any (over_listed xs) (edges_of (net g.lists) s)

decides_falls : (g : Graph) (xs : List ℕ) (s : ℕ) → Decides (falls g xs s) (Falls (net g.lists) xs s)
unfolding falls
decides_falls g xs s = Decides-or (is_stop (state_at (net g.lists) s).kind) _ (λ h. h, λ h. h) (any_edge g s (over_listed xs))

-- a pass over the first states
record Passed (n : Net) (upto : ℕ) (before : List ℕ) : Type 0 where
  after : List ℕ
  pass : Pass n upto before after
  room : Room after

pass_none : (n : Net) (a : List ℕ) → Pass n 0 a a
pass_none n a = record { right = λ h. h; longer = omega arith; same = λ _. refl; done = λ e s l f. absurd (none s l) }
  where
    none : (s : ℕ) → s < 0 → ⊥
    none s l = omega arith

pass_to : (g : Graph) (a : List ℕ) → Room a → (s : ℕ) → s ≤ size (net g.lists) → Passed (net g.lists) s a
pass_to g a r zero l = record { after = a; pass = pass_none (net g.lists) a; room = r }
pass_to g a r (suc s) l = by (pass_to g a r s (omega arith))
  where
    next : s + 1 ≡ suc s
    next = omega arith

    at : (p : Passed (net g.lists) s a) → (falls g p.after s ≡ true) ⊎ (falls g p.after s ≡ false) → Passed (net g.lists) (suc s) a
    at p (inl e) = record {
      after = with_state s p.after;
      pass = subst (λ k. Pass (net g.lists) k a (with_state s p.after)) next (pass_note (net g.lists) s a p.after (with_state s p.after) p.pass ((decides_falls g p.after s).0 e) refl);
      room = room_with s p.after (omega (arith, few_states g, l)) p.room;
    }
    at p (inr e) = record {
      after = p.after;
      pass = subst (λ k. Pass (net g.lists) k a p.after) next (pass_skip (net g.lists) s a p.after p.pass (λ f. absurd (both_ways _ e ((decides_falls g p.after s).1 f))));
      room = p.room;
    }

    by : Passed (net g.lists) s a → Passed (net g.lists) (suc s) a
    by p = at p (cases_Bool (falls g p.after s))

-- A list of exactly the nullable states.
pub record NullableFound (n : Net) : Type 0 where
  pub listed : List ℕ
  pub known : KnowsNullable n listed

nullables_end : (g : Graph) (a : List ℕ) (p : Passed (net g.lists) (size (net g.lists)) a) → AllNullable (net g.lists) a → length p.after ≤ length a → NullableFound (net g.lists)
nullables_end g a p h l = record { listed = p.after; known = pass_end (net g.lists) a p.after p.pass (omega (arith, p.pass.longer, l)) h }

-- each pass but the last adds a state, so places passes are enough
nullables_from : (g : Graph) (places : ℕ) (a : List ℕ) → Room a → AllNullable (net g.lists) a → 512 ≤ length a + places → NullableFound (net g.lists)
nullables_from g zero a r h l =
    let p = pass_to g a r (size (net g.lists)) (omega arith) in
    nullables_end g a p h (omega (arith, room_few p.after p.room, l))
nullables_from g (suc places) a r h l =
    let p = pass_to g a r (size (net g.lists)) (omega arith) in
    elim (cases_lt (length a) (length p.after)) [
      | inl more ↦ nullables_from g places p.after p.room (p.pass.right h) (omega (arith, more, l))
      | inr none ↦ nullables_end g a p h none
    ]

pub nullables_of : (g : Graph) → NullableFound (net g.lists)
nullables_of g = nullables_from g 512 [] room_none (λ k h. absurd (both_ways false refl h)) (omega arith)
