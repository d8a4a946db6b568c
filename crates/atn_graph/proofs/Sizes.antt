-- How many items a vector holds at most.
use Rattle.std.proofs.Common.{ℕ, ◌≤◌, length, arith}
use Rattle.std.proofs.lemmas.List.{length-take-le}
use Rattle.fixed_vec.specs.declared.fixed_vec.FixedVec.{FixedVec}
use Rattle.fixed_vec.specs.Items.{items}

pub few_items : {T : Type 0} {N : ℕ} (v : FixedVec T N) → length (items v) ≤ N
few_items v = omega (arith, length-take-le v.len v.places (omega (arith, v.whole, v.bounded)), v.bounded)
