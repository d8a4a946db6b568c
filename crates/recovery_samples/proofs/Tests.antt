-- The within-rule sets of all states of the pass net, as tests.
use Rattle.std.proofs.Common.{◌≡◌, ℕ, ◌⊎◌, Bool, true, false, List, [], ◌∷◌, ℤ, pos, Some, None, Decides, refl}
use Rattle.std.proofs.lemmas.Bool.Decides.{Decides-or, Decides-int_eq}
use Rattle.std.specs.Ordering.{int_eq}
use Rattle.ll1_analyzer.specs.Sets.{eof, EndsOnStop, Types, CanEnd}
use Rattle.ll1_analyzer.proofs.Within.{one}
use Rattle.samples.specs.Pass.{pass}
use Rattle.samples.proofs.Each.{Each}
use Rattle.samples.proofs.Onward.{over_one, on_stop, no_type}
use Rattle.samples.proofs.PassNet.{iff_trans, from_1, from_2, from_3, from_4, from_6, from_7, from_8, no_end_1, no_end_2, no_end_3, no_end_4, no_end_6, no_end_7, no_end_8}
use Rattle.recovery_model.specs.Sets.{WithinSets, Agree, no_types}
use Rattle.recovery_model.proofs.Existing.{sets_once}
use Rattle.recovery_samples.specs.Seen.{only, end_or_one}
use Rattle.recovery_samples.proofs.Deciding.{by, always, never, table, agree_by}

abbrev by_state : List (ℤ → Bool)
by_state = end_or_one ∷ end_or_one ∷ only (pos 1) ∷ end_or_one ∷ only eof ∷ no_types ∷ only (pos 1) ∷ only (pos 1) ∷ only (pos 2) ∷ only (pos 3) ∷ no_types ∷ []

abbrev by_end : List Bool
by_end = false ∷ false ∷ false ∷ false ∷ false ∷ true ∷ false ∷ false ∷ false ∷ false ∷ true ∷ []

abbrev pub tests : WithinSets
tests = table by_state by_end

module _ (x : ℤ) where
  one_type : (t : ℤ) → Decides (only t x) (x ≡ t)
  one_type t = Decides-int_eq x t

  at_loop : Decides (end_or_one x) ((x ≡ eof) ⊎ (x ≡ pos 1))
  at_loop = Decides-or (int_eq x eof) (int_eq x (pos 1)) (one_type eof) (one_type (pos 1))

  abbrev TypesRight : ℕ → Type 0
  TypesRight s = Decides (tests.types s x) (Types pass s x)

  types_right : Each TypesRight 0 11
  types_right =
      let rest_10 : Each TypesRight 10 1 = (never (no_type pass 10 refl x), tt) in
      let rest_9 : Each TypesRight 9 2 = (by (only (pos 3) x) (iff_trans (over_one pass (Some x) 9 9 [] refl refl refl) (one (pos 3) x)) (one_type (pos 3)), rest_10) in
      let rest_8 : Each TypesRight 8 3 = (by (only (pos 2) x) (from_8 x []) (one_type (pos 2)), rest_9) in
      let rest_7 : Each TypesRight 7 4 = (by (only (pos 1) x) (from_7 x []) (one_type (pos 1)), rest_8) in
      let rest_6 : Each TypesRight 6 5 = (by (only (pos 1) x) (from_6 x []) (one_type (pos 1)), rest_7) in
      let rest_5 : Each TypesRight 5 6 = (never (no_type pass 5 refl x), rest_6) in
      let rest_4 : Each TypesRight 4 7 = (by (only eof x) (from_4 x []) (one_type eof), rest_5) in
      let rest_3 : Each TypesRight 3 8 = (by (end_or_one x) (from_3 x []) at_loop, rest_4) in
      let rest_2 : Each TypesRight 2 9 = (by (only (pos 1) x) (from_2 x []) (one_type (pos 1)), rest_3) in
      let rest_1 : Each TypesRight 1 10 = (by (end_or_one x) (from_1 x []) at_loop, rest_2) in
      (by (end_or_one x) (iff_trans (over_one pass (Some x) 0 0 [] refl refl refl) (from_1 x [])) at_loop, rest_1)

no_end_0 : EndsOnStop pass 0 [] → ⊥
no_end_0 e = no_end_1 [] ((over_one pass None 0 0 [] refl refl refl).0 e)

no_end_9 : EndsOnStop pass 9 [] → ⊥
no_end_9 = (over_one pass None 9 9 [] refl refl refl).0

abbrev EndsRight : ℕ → Type 0
EndsRight s = Decides (tests.end s) (CanEnd pass s)

ends_right : Each EndsRight 0 11
ends_right =
    let rest_10 : Each EndsRight 10 1 = (always (on_stop pass 10 refl), tt) in
    let rest_9 : Each EndsRight 9 2 = (never no_end_9, rest_10) in
    let rest_8 : Each EndsRight 8 3 = (never (no_end_8 []), rest_9) in
    let rest_7 : Each EndsRight 7 4 = (never (no_end_7 []), rest_8) in
    let rest_6 : Each EndsRight 6 5 = (never (no_end_6 []), rest_7) in
    let rest_5 : Each EndsRight 5 6 = (always (on_stop pass 5 refl), rest_6) in
    let rest_4 : Each EndsRight 4 7 = (never (no_end_4 []), rest_5) in
    let rest_3 : Each EndsRight 3 8 = (never (no_end_3 []), rest_4) in
    let rest_2 : Each EndsRight 2 9 = (never (no_end_2 []), rest_3) in
    let rest_1 : Each EndsRight 1 10 = (never (no_end_1 []), rest_2) in
    (never no_end_0, rest_1)

pub tests_agree : Agree pass tests
tests_agree = agree_by pass by_state by_end refl refl types_right ends_right

-- and any tests that agree with the net are these
pub tests_only : (w : WithinSets) → Agree pass w → w ≡ tests
tests_only w a = sets_once pass w tests a tests_agree
