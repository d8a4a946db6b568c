-- The items of a vector.
use Rattle.std.specs.Prelude.{ℕ, List, take}
use Rattle.fixed_vec.specs.declared.fixed_vec.FixedVec.{FixedVec}

-- in their order
abbrev pub items : {T : Type 0} {N : ℕ} → FixedVec T N → List T
items v = take v.len v.places
