-- What a lookahead answers, and what a question leaves.
use Rattle.std.specs.Prelude.{◌≡◌, ℤ, Decides}
use Rattle.interval_set.specs.declared.set.IntervalSet.{IntervalSet}
use Rattle.interval_set.specs.Members.{holds}
use Rattle.atn.specs.declared.atn.Atn.{Atn}

-- the set holds exactly what P tells of
abbrev pub HoldsExactly : IntervalSet → (ℤ → Type 0) → Type 0
HoldsExactly set P = (x : ℤ) → Decides (holds set x) (P x)

-- What a question leaves: the lookahead speaks of the same net, and if what it kept agreed with it, it still does.
pub record KeepsNet {L : Type 0} (atn : L → Atn) (agrees : L → Type 0) (old new : L) : Type 0 where
  pub net : atn new ≡ atn old
  pub agreement : agrees old → agrees new
