-- What adding leaves does to a leaf list.
use Rattle.std.specs.Prelude.{◌≡◌, ℕ, ◌+◌, ◌*◌, List, ◌++◌, length, drop}
use Rattle.leaves.specs.Leaves.{LeafFields}

-- The leaves are appended, each takes a place, and the memory behind them stays as it was.
pub record Grown {S P : Type 0} (leaves : S → List LeafFields) (free : S → ℕ) (rest : S → List P) (size : ℕ) (old : S) (added : List LeafFields) (new : S) : Type 0 where
  pub appended : leaves new ≡ leaves old ++ added
  pub taken : free old ≡ free new + length added
  pub untouched : rest new ≡ drop (length added * size) (rest old)
