-- Rows of marks and lists of states.
use Rattle.std.specs.Prelude.{◌≡◌, ℕ, ◌<◌, ◌≤◌, Bool, true, false, not, ◌||◌, ◌⊎◌, List, [], ◌∷◌, length, count_by, ◌==◌, slice_index}

-- k is in the list
abbrev pub elem : ℕ → List ℕ → Bool
elem k [] = false
elem k (x ∷ xs) = k == x || elem k xs

-- how many places of a row are not marked
abbrev pub unmarked : List Bool → ℕ
unmarked xs = count_by not xs

-- The list after begins with the list before, holds what P tells, and nothing else is new.
pub record Grown (P : ℕ → Type 0) (before after : List ℕ) : Type 0 where
  pub longer : length before ≤ length after
  pub front : (i : ℕ) → i < length before → slice_index after i ≡ slice_index before i
  pub keeps : (k : ℕ) → elem k before ≡ true → elem k after ≡ true
  pub marks : (k : ℕ) → P k → elem k after ≡ true
  pub only : (k : ℕ) → elem k after ≡ true → (elem k before ≡ true) ⊎ P k
