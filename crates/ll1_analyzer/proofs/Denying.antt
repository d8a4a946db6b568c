-- Which questions about sets are denied.
use Rattle.std.proofs.Common.{◌≡◌, ℕ, ◌<◌, ◌≤◌, Bool, true, false, List, Option, Some, None, Result, Ok, Err, IsErrAnd, sym, refl, ap, ◌∙◌, subst, inl, inr, arith}
use Rattle.std.specs.Prelude.{is_some, nat_lt, if◌then◌else◌}
use Rattle.std.proofs.lemmas.Bool.{ltb-false}
use Rattle.errors.specs.declared.denial.Denial.{Denial}
use Rattle.errors.specs.declared.denial.Denial.TheVariants.{FaultyChain, StateOutside}
use Rattle.errors.specs.Denials.{IsBefore, First, DeniesFirst}
use Rattle.errors.proofs.Firsts.{denies}
use Rattle.atn_graph.specs.declared.atn_state.StateKind.{StateKind}
use Rattle.atn_graph.specs.Net.{Net, size, state_at}
use Rattle.atn.specs.Checked.{kind_of}
use Rattle.ll1_analyzer.specs.Chains.{StateFault, ChainFault, QuestionFault}

-- a denial that is handed on
pub denied_as : {X : Type 0} (fault : Denial → Type 0) (r : Result X Denial) (d : Denial) → IsErrAnd r (λ e. e ≡ d) → First fault d → DeniesFirst fault r
denied_as fault (Ok x) d is w = absurd is
denied_as fault (Err e) d is w = denies fault e (subst (First fault) (sym is) w)

-- a state has a kind exactly if it lies in the net
kind_tells : (n : Net) (s : ℕ) (k : Option StateKind) → k ≡ kind_of n s → is_some k ≡ nat_lt s (size n)
kind_tells n s k is = ap is_some is ∙ at (nat_lt s (size n))
  where
    at : (b : Bool) → is_some (if b then Some (state_at n s).kind else None) ≡ b
    at true = refl
    at false = refl

pub kind_outside : (n : Net) (s : ℕ) (k : Option StateKind) → k ≡ kind_of n s → is_some k ≡ false → size n ≤ s
kind_outside n s k is e = ltb-false s (size n) (sym (kind_tells n s k is) ∙ e)

pub outside_first : (n : Net) (s : ℕ) → size n ≤ s → First (StateFault n s) StateOutside
outside_first n s out = record { fits = out; none_before = before }
  where
    before : (d : Denial) → IsBefore d StateOutside → StateFault n s d → ⊥
    before StateOutside l f = omega arith
    before _ l f = f

pub no_state_fault : (n : Net) (s : ℕ) → s < size n → (d : Denial) → StateFault n s d → ⊥
no_state_fault n s l StateOutside f = omega (arith, l, f)
no_state_fault n s l _ f = f

-- a faulty chain comes before a state outside the net
pub chain_first : (n : Net) (s : ℕ) (chain : List ℕ) (d : Denial) → First (ChainFault n chain) d → First (QuestionFault n s chain) d
chain_first n s chain d w = record { fits = inl w.fits; none_before = before }
  where
    late : (d e : Denial) → ChainFault n chain d → StateFault n s e → IsBefore e d → ⊥
    late FaultyChain StateOutside f g l = omega arith
    late FaultyChain _ f g l = g
    late _ e f g l = absurd f

    before : (e : Denial) → IsBefore e d → QuestionFault n s chain e → ⊥
    before e l (inl f) = w.none_before e l f
    before e l (inr f) = late d e w.fits f l

module _ (n : Net) (s : ℕ) (chain : List ℕ) (none : (d : Denial) → ChainFault n chain d → ⊥) where
  pub state_first : size n ≤ s → First (QuestionFault n s chain) StateOutside
  state_first out = record { fits = inr out; none_before = before }
    where
      before : (e : Denial) → IsBefore e StateOutside → QuestionFault n s chain e → ⊥
      before e l (inl f) = none e f
      before e l (inr f) = (outside_first n s out).none_before e l f

  pub no_fault : s < size n → (d : Denial) → QuestionFault n s chain d → ⊥
  no_fault l d (inl f) = none d f
  no_fault l d (inr f) = no_state_fault n s l d f
