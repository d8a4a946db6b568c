-- A leaf is made from its seven numbers alone.
use Rattle.std.proofs.Common.{◌≡◌, ◌∙◌, ◌∷◌, [], length, get_or, refl, arith, List, ℤ, Some, None, Option, MatchOption, sym, ap, subst}
use Rattle.leaves.specs.Leaves.{LeafFields, LeafFits}
use Rattle.leaves.specs.LeafLines.{numbers}
use Rattle.leaves.specs.Single.{numbers_tell}

pub leaf_made : (r : Option LeafFields) (said : LeafFields) (ns : List ℤ) → numbers said ≡ ns → MatchOption r (LeafFits said → ⊥) (λ l. LeafFits said × (l ≡ said)) → MatchOption r ((l : LeafFields) → LeafFits l → numbers l ≡ ns → ⊥) (λ l. LeafFits l × (numbers l ≡ ns))
leaf_made None said ns e m = λ l f n. m (subst LeafFits (numbers_tell l said (n ∙ sym e)) f)
leaf_made (Some l) said ns e m = (subst LeafFits (sym m.1) m.0, ap numbers m.1 ∙ e)

-- seven numbers are a list of them
pub seven : (ns : List ℤ) (d : ℤ) → length ns ≡ 7 → get_or ns 0 d ∷ get_or ns 1 d ∷ get_or ns 2 d ∷ get_or ns 3 d ∷ get_or ns 4 d ∷ get_or ns 5 d ∷ get_or ns 6 d ∷ [] ≡ ns
seven [] d long = absurd (omega (arith, long))
seven (a ∷ []) d long = absurd (omega (arith, long))
seven (a ∷ b ∷ []) d long = absurd (omega (arith, long))
seven (a ∷ b ∷ c ∷ []) d long = absurd (omega (arith, long))
seven (a ∷ b ∷ c ∷ e ∷ []) d long = absurd (omega (arith, long))
seven (a ∷ b ∷ c ∷ e ∷ f ∷ []) d long = absurd (omega (arith, long))
seven (a ∷ b ∷ c ∷ e ∷ f ∷ g ∷ []) d long = absurd (omega (arith, long))
seven (a ∷ b ∷ c ∷ e ∷ f ∷ g ∷ h ∷ []) d long = refl
seven (a ∷ b ∷ c ∷ e ∷ f ∷ g ∷ h ∷ i ∷ ns) d long = absurd (omega (arith, long))
