-- The within-rule sets of the list net are those that its table says.
use Rattle.std.proofs.Common.{◌≡◌, ℕ, ◌↔◌, ◌⊎◌, List, [], ◌∷◌, ℤ, pos, Some, None, Decides, refl, inl, inr}
use Rattle.std.proofs.Math.Logic.{⊎_map}
use Rattle.std.proofs.lemmas.Bool.Decides.{Decides-or, Decides-int_eq}
use Rattle.std.specs.Ordering.{int_eq}
use Rattle.ll1_analyzer.specs.Sets.{EndsWith, EndsOnStop, Types, CanEnd}
use Rattle.ll1_analyzer.proofs.Within.{one}
use Rattle.samples.proofs.Each.{Each}
use Rattle.samples.proofs.Onward.{over_one, over_two, on_stop, no_type}
use Rattle.samples.proofs.PassNet.{iff_trans}
use Rattle.recovery_model.specs.Sets.{WithinSets, Agree}
use Rattle.recovery_model.proofs.Existing.{sets_once}
use Rattle.recovery_samples.specs.Seen.{only}
use Rattle.recovery_samples.specs.ListNet.{list_net, one_or_two, list_types, list_ends, list_sets}
use Rattle.recovery_samples.proofs.Deciding.{by, always, never, agree_by, over_back}

-- with which types walks end: from states of rule 1 with nothing on the stack, and with the state after the list on it
module _ (x : ℤ) where
  from_2 : (p : List ℕ) → (EndsWith list_net 2 p x ↔ (x ≡ pos 2))
  from_2 p = iff_trans (over_one list_net (Some x) 2 2 p refl refl refl) (one (pos 2) x)

  from_6 : (p : List ℕ) → (EndsWith list_net 6 p x ↔ (x ≡ pos 1))
  from_6 p = iff_trans (over_one list_net (Some x) 6 6 p refl refl refl) (one (pos 1) x)

  alone_5 : EndsWith list_net 5 [] x ↔ (x ≡ pos 1)
  alone_5 = iff_trans (over_two list_net (Some x) 5 4 [] refl refl refl) (iff_trans (λ h. at h, inl) (from_6 []))
    where
      at : EndsWith list_net 6 [] x ⊎ EndsWith list_net 8 [] x → EndsWith list_net 6 [] x
      at (inl e) = e
      at (inr e) = absurd (no_type list_net 8 refl x e)

  called_5 : EndsWith list_net 5 (2 ∷ []) x ↔ ((x ≡ pos 1) ⊎ (x ≡ pos 2))
  called_5 =
      let back = iff_trans (over_back list_net (Some x) 8 2 [] refl refl) (from_2 []) in
      iff_trans (over_two list_net (Some x) 5 4 (2 ∷ []) refl refl refl) (⊎_map (from_6 (2 ∷ [])).0 back.0, ⊎_map (from_6 (2 ∷ [])).1 back.1)

  from_1 : EndsWith list_net 1 [] x ↔ ((x ≡ pos 1) ⊎ (x ≡ pos 2))
  from_1 = iff_trans (over_one list_net (Some x) 1 1 [] refl refl refl) (iff_trans (over_one list_net (Some x) 4 3 (2 ∷ []) refl refl refl) called_5)

  one_type : (t : ℤ) → Decides (only t x) (x ≡ t)
  one_type t = Decides-int_eq x t

  at_first : Decides (one_or_two x) ((x ≡ pos 1) ⊎ (x ≡ pos 2))
  at_first = Decides-or (int_eq x (pos 1)) (int_eq x (pos 2)) (one_type (pos 1)) (one_type (pos 2))

  abbrev TypesRight : ℕ → Type 0
  TypesRight s = Decides (list_sets.types s x) (Types list_net s x)

  types_right : Each TypesRight 0 9
  types_right =
      let rest_8 : Each TypesRight 8 1 = (never (no_type list_net 8 refl x), tt) in
      let rest_7 : Each TypesRight 7 2 = (by (only (pos 1) x) (iff_trans (over_one list_net (Some x) 7 7 [] refl refl refl) alone_5) (one_type (pos 1)), rest_8) in
      let rest_6 : Each TypesRight 6 3 = (by (only (pos 1) x) (from_6 []) (one_type (pos 1)), rest_7) in
      let rest_5 : Each TypesRight 5 4 = (by (only (pos 1) x) alone_5 (one_type (pos 1)), rest_6) in
      let rest_4 : Each TypesRight 4 5 = (by (only (pos 1) x) (iff_trans (over_one list_net (Some x) 4 3 [] refl refl refl) alone_5) (one_type (pos 1)), rest_5) in
      let rest_3 : Each TypesRight 3 6 = (never (no_type list_net 3 refl x), rest_4) in
      let rest_2 : Each TypesRight 2 7 = (by (only (pos 2) x) (from_2 []) (one_type (pos 2)), rest_3) in
      let rest_1 : Each TypesRight 1 8 = (by (one_or_two x) from_1 at_first, rest_2) in
      (by (one_or_two x) (iff_trans (over_one list_net (Some x) 0 0 [] refl refl refl) from_1) at_first, rest_1)

-- and where they can end on a stop state
no_end_2 : (p : List ℕ) → EndsOnStop list_net 2 p → ⊥
no_end_2 p = (over_one list_net None 2 2 p refl refl refl).0

no_end_6 : (p : List ℕ) → EndsOnStop list_net 6 p → ⊥
no_end_6 p = (over_one list_net None 6 6 p refl refl refl).0

no_end_5 : EndsOnStop list_net 5 (2 ∷ []) → ⊥
no_end_5 e = at ((over_two list_net None 5 4 (2 ∷ []) refl refl refl).0 e)
  where
    at : EndsOnStop list_net 6 (2 ∷ []) ⊎ EndsOnStop list_net 8 (2 ∷ []) → ⊥
    at (inl d) = no_end_6 (2 ∷ []) d
    at (inr d) = no_end_2 [] ((over_back list_net None 8 2 [] refl refl).0 d)

no_end_1 : EndsOnStop list_net 1 [] → ⊥
no_end_1 e = no_end_5 ((over_one list_net None 4 3 (2 ∷ []) refl refl refl).0 ((over_one list_net None 1 1 [] refl refl refl).0 e))

no_end_0 : EndsOnStop list_net 0 [] → ⊥
no_end_0 e = no_end_1 ((over_one list_net None 0 0 [] refl refl refl).0 e)

end_5 : CanEnd list_net 5
end_5 = (over_two list_net None 5 4 [] refl refl refl).1 (inr (on_stop list_net 8 refl))

abbrev EndsRight : ℕ → Type 0
EndsRight s = Decides (list_sets.end s) (CanEnd list_net s)

ends_right : Each EndsRight 0 9
ends_right =
    let rest_8 : Each EndsRight 8 1 = (always (on_stop list_net 8 refl), tt) in
    let rest_7 : Each EndsRight 7 2 = (always ((over_one list_net None 7 7 [] refl refl refl).1 end_5), rest_8) in
    let rest_6 : Each EndsRight 6 3 = (never (no_end_6 []), rest_7) in
    let rest_5 : Each EndsRight 5 4 = (always end_5, rest_6) in
    let rest_4 : Each EndsRight 4 5 = (always ((over_one list_net None 4 3 [] refl refl refl).1 end_5), rest_5) in
    let rest_3 : Each EndsRight 3 6 = (always (on_stop list_net 3 refl), rest_4) in
    let rest_2 : Each EndsRight 2 7 = (never (no_end_2 []), rest_3) in
    let rest_1 : Each EndsRight 1 8 = (never no_end_1, rest_2) in
    (never no_end_0, rest_1)

pub list_agree : Agree list_net list_sets
list_agree = agree_by list_net list_types list_ends refl refl types_right ends_right

pub list_only : (w : WithinSets) → Agree list_net w → w ≡ list_sets
list_only w a = sets_once list_net w list_sets a list_agree
