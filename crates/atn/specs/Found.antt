-- The states that a search has found, as a list.
use Rattle.std.specs.Prelude.{ℕ, cond, List, [], ◌∷◌, ◌++◌}
use Rattle.fixed_vec.specs.Items.{items}
use Rattle.atn.specs.declared.visits.Visits.{Visits}
use Rattle.atn.specs.Marks.{elem}

abbrev pub found : Visits → List ℕ
found v = items v.order

-- the list with k at its end, unless k is in it already
abbrev pub with_state : ℕ → List ℕ → List ℕ
with_state k xs = cond (elem k xs) xs (xs ++ k ∷ [])
