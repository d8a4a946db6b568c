-- The calls of a chain, state by state.
use Rattle.std.proofs.Common.{◌≡◌, ℕ, ◌+◌, ◌<◌, ◌≤◌, ◌⊎◌, List, [], ◌∷◌, ◌++◌, length, get_or, take, Some, None, Result, Ok, Err, IsErrAnd, sym, ap, ◌∙◌, inl, inr, arith}
use Rattle.std.specs.Prelude.{map, unwrap_or}
use Rattle.std.proofs.Math.Seq.{take-length}
use Rattle.std.proofs.lemmas.List.{take_more, length_push, map-append, get_or_default}
use Rattle.std.proofs.lemmas.Bool.{cases_eq}
use Rattle.errors.specs.declared.denial.Denial.{Denial}
use Rattle.errors.specs.declared.denial.Denial.TheVariants.{FaultyChain}
use Rattle.errors.specs.Denials.{IsBefore, First}
use Rattle.errors.proofs.Firsts.{accepts, denies}
use Rattle.fixed_vec.specs.declared.fixed_vec.FixedVec.{FixedVec}
use Rattle.fixed_vec.specs.Items.{items}
use Rattle.atn_graph.specs.Net.{Net}
use Rattle.ll1_analyzer.specs.declared.chain.RuleTransition.{RuleTransition}
use Rattle.ll1_analyzer.specs.Chains.{follow_of, follow_states, Faulty, ChainFault}
use Rattle.ll1_analyzer.specs.Listing.{follow, ReadsCalls}

-- the calls of the first states of the chain are read
pub record ReadSoFar (n : Net) (chain : List ℕ) (upto : ℕ) (calls : List RuleTransition) : Type 0 where
  pub count : length calls ≡ upto
  pub read : map follow calls ≡ follow_states n (take upto chain)
  pub call : (k : ℕ) → k < upto → follow_of n (get_or chain k 0) ≡ None → ⊥

module _ (n : Net) (chain : List ℕ) where
  pub read_more : (i : ℕ) (calls : List RuleTransition) (c : RuleTransition) → i < length chain → Some (follow c) ≡ follow_of n (get_or chain i 0) → ReadSoFar n chain i calls → ReadSoFar n chain (i + 1) (calls ++ c ∷ [])
  read_more i calls c l e so = record { count = length_push calls c ∙ ap (λ k. k + 1) so.count; read = read; call = λ k h. at k h (cases_eq k i) }
    where
      read : map follow (calls ++ c ∷ []) ≡ follow_states n (take (i + 1) chain)
      read =
          map-append follow calls (c ∷ [])
          ∙ ap (λ xs. xs ++ follow c ∷ []) so.read ∙ ap (λ o. follow_states n (take i chain) ++ unwrap_or o 0 ∷ []) e
          ∙ sym (map-append (λ s. unwrap_or (follow_of n s) 0) (take i chain) (get_or chain i 0 ∷ [])) ∙ sym (ap (follow_states n) (take_more chain i 0 l))

      at : (k : ℕ) → k < i + 1 → (k ≡ i) ⊎ (k ≡ i → ⊥) → follow_of n (get_or chain k 0) ≡ None → ⊥
      at k h (inl is) = λ none. let other : Some (follow c) ≡ None = e ∙ ap (λ j. follow_of n (get_or chain j 0)) (sym is) ∙ none in cc
      at k h (inr ne) = so.call k (omega (arith, ne))

-- a faulty chain is denied
pub faulty_first : (n : Net) (chain : List ℕ) → Faulty n chain → First (ChainFault n chain) FaultyChain
faulty_first n chain f = record { fits = f; none_before = before }
  where
    before : (d : Denial) → IsBefore d FaultyChain → ChainFault n chain d → ⊥
    before FaultyChain l f = omega arith
    before _ l f = f

pub denied_faulty : (n : Net) (chain : List ℕ) (r : Result (FixedVec RuleTransition 63) Denial) (d : Denial) → IsErrAnd r (λ e. e ≡ d) → d ≡ FaultyChain → Faulty n chain → ReadsCalls n chain r
denied_faulty n chain (Ok calls) d e is f = absurd e
denied_faulty n chain (Err x) d e is f = rw (e ∙ is) (record { verdict = denies (ChainFault n chain) FaultyChain (faulty_first n chain f); calls = tt })

pub no_call : (n : Net) (chain : List ℕ) (i : ℕ) → i < length chain → follow_of n (get_or chain i 0) ≡ None → Faulty n chain
no_call n chain i l e = inr (i, get_or chain i 0, l, get_or_default chain i (get_or chain i 0) 0 l, e)

pub read_long : (n : Net) (chain : List ℕ) → 63 < length chain → ReadsCalls n chain (Err FaultyChain)
read_long n chain l = record { verdict = denies (ChainFault n chain) FaultyChain (faulty_first n chain (inl l)); calls = tt }

-- and one that is not is read to its end
pub read_all : (n : Net) (chain : List ℕ) (calls : FixedVec RuleTransition 63) (i : ℕ) → length chain ≤ 63 → length chain ≡ i → ReadSoFar n chain i (items calls) → ReadsCalls n chain (Ok calls)
read_all n chain calls i few all so = record {
  verdict = accepts (ChainFault n chain) calls none;
  calls = so.read ∙ ap (λ k. follow_states n (take k chain)) (sym all) ∙ ap (follow_states n) (take-length chain);
}
  where
    none : (d : Denial) → ChainFault n chain d → ⊥
    none FaultyChain (inl long) = omega (arith, long, few)
    none FaultyChain (inr c) = so.call c.0 (omega (arith, c.2, all)) (ap (follow_of n) (get_or_default chain c.0 0 c.1 c.2 ∙ c.3) ∙ c.4)
    none _ f = f

-- past 63 calls there is no room, so the chain is longer
pub too_long : (n : Net) (chain : List ℕ) (i : ℕ) (calls : List RuleTransition) → i < length chain → 63 ≤ length calls → ReadSoFar n chain i calls → Faulty n chain
too_long n chain i calls l full so = inl (omega (arith, so.count))
