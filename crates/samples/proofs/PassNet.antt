-- The sets of the pass net, state by state.
use Rattle.std.proofs.Common.{◌≡◌, ℕ, ◌↔◌, ◌⊎◌, List, [], ◌∷◌, ℤ, pos, Some, None, refl, inl, inr}
use Rattle.std.proofs.Math.Logic.{⊎_map, ⊎_swap}
use Rattle.ll1_analyzer.specs.Sets.{eof, EndsWith, EndsOnStop}
use Rattle.ll1_analyzer.proofs.Within.{one}
use Rattle.samples.specs.Pass.{pass, PassSets}
use Rattle.samples.proofs.Onward.{over_one, over_two, on_stop, no_type}

pub iff_trans : {A B C : Type 0} → (A ↔ B) → (B ↔ C) → (A ↔ C)
iff_trans e f = (λ a. f.0 (e.0 a), λ c. e.1 (f.1 c))

-- with which types walks end from each state, whatever the stack
module _ (x : ℤ) where
  pub from_4 : (p : List ℕ) → (EndsWith pass 4 p x ↔ (x ≡ eof))
  from_4 p = iff_trans (over_one pass (Some x) 4 5 p refl refl refl) (one eof x)

  pub from_7 : (p : List ℕ) → (EndsWith pass 7 p x ↔ (x ≡ pos 1))
  from_7 p = iff_trans (over_one pass (Some x) 7 7 p refl refl refl) (one (pos 1) x)

  pub from_8 : (p : List ℕ) → (EndsWith pass 8 p x ↔ (x ≡ pos 2))
  from_8 p = iff_trans (over_one pass (Some x) 8 8 p refl refl refl) (one (pos 2) x)

  pub from_6 : (p : List ℕ) → (EndsWith pass 6 p x ↔ (x ≡ pos 1))
  from_6 p = iff_trans (over_one pass (Some x) 6 6 p refl refl refl) (from_7 p)

  pub from_2 : (p : List ℕ) → (EndsWith pass 2 p x ↔ (x ≡ pos 1))
  from_2 p = iff_trans (over_one pass (Some x) 2 3 p refl refl refl) (from_6 (3 ∷ p))

  pub from_1 : (p : List ℕ) → (EndsWith pass 1 p x ↔ ((x ≡ eof) ⊎ (x ≡ pos 1)))
  from_1 p = iff_trans (over_two pass (Some x) 1 1 p refl refl refl) (λ h. ⊎_swap (⊎_map (from_2 p).0 (from_4 p).0 h), λ h. ⊎_map (from_2 p).1 (from_4 p).1 (⊎_swap h))

  pub from_3 : (p : List ℕ) → (EndsWith pass 3 p x ↔ ((x ≡ eof) ⊎ (x ≡ pos 1)))
  from_3 p = iff_trans (over_one pass (Some x) 3 4 p refl refl refl) (from_1 p)

-- and none of them ends on a stop state
pub no_end_4 : (p : List ℕ) → EndsOnStop pass 4 p → ⊥
no_end_4 p = (over_one pass None 4 5 p refl refl refl).0

pub no_end_7 : (p : List ℕ) → EndsOnStop pass 7 p → ⊥
no_end_7 p = (over_one pass None 7 7 p refl refl refl).0

pub no_end_8 : (p : List ℕ) → EndsOnStop pass 8 p → ⊥
no_end_8 p = (over_one pass None 8 8 p refl refl refl).0

pub no_end_6 : (p : List ℕ) → EndsOnStop pass 6 p → ⊥
no_end_6 p e = no_end_7 p ((over_one pass None 6 6 p refl refl refl).0 e)

pub no_end_2 : (p : List ℕ) → EndsOnStop pass 2 p → ⊥
no_end_2 p e = no_end_6 (3 ∷ p) ((over_one pass None 2 3 p refl refl refl).0 e)

pub no_end_1 : (p : List ℕ) → EndsOnStop pass 1 p → ⊥
no_end_1 p e = elim ((over_two pass None 1 1 p refl refl refl).0 e) [ inl h ↦ no_end_2 p h | inr h ↦ no_end_4 p h ]

pub no_end_3 : (p : List ℕ) → EndsOnStop pass 3 p → ⊥
no_end_3 p e = no_end_1 p ((over_one pass None 3 4 p refl refl refl).0 e)

pub pass_sets : PassSets
pass_sets = record {
  at_loop_entry = λ x. from_1 x [];
  at_loop_back = λ x. from_3 x [];
  after_one = λ x. from_8 x [];
  at_stop = no_type pass 10 refl;
  no_end_at_loop_entry = no_end_1 [];
  no_end_at_loop_back = no_end_3 [];
  no_end_after_one = no_end_8 [];
  end_at_stop = on_stop pass 10 refl;
}
