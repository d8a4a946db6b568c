-- The chains of a coherent view are not faulty, so no question about them is denied.
use Rattle.std.proofs.Common.{◌≡◌, ℕ, zero, suc, ◌+◌, ◌-◌, ◌<◌, ◌≤◌, Bool, true, false, ◌&&◌, ◌==◌, List, [], ◌∷◌, ◌++◌, length, get_or, Option, Some, None, refl, sym, ap, ◌∙◌, subst, inl, inr, arith, flat_map, option_to_list, unwrap_or}
use Rattle.std.specs.Prelude.{nat_lt, nat_le, is_some}
use Rattle.std.specs.List.{list_all}
use Rattle.std.proofs.lemmas.List.{length-append, get_or_default, get_or_past}
use Rattle.std.proofs.lemmas.Bool.{and_parts, and_from, ltb-true, leb-true, le-leb, cases_lt, both_ways}
use Rattle.errors.specs.declared.denial.Denial.{Denial}
use Rattle.errors.specs.declared.denial.Denial.TheVariants.{FaultyChain, StateOutside}
use Rattle.atn_graph.specs.declared.transition.Transition.{Transition}
use Rattle.atn_graph.specs.declared.transition.TransitionKind.{TransitionKind}
use Rattle.atn_graph.specs.declared.transition.TransitionKind.TheVariants.{Epsilon, Range, Rule, Predicate, Atom, Action, Set, NotSet, Wildcard, Precedence}
use Rattle.atn_graph.specs.Net.{Net, size, state_at, edge_at, edges_of, no_edge, no_state}
use Rattle.atn_graph.proofs.Soundness.{sound_of}
use Rattle.atn_graph.proofs.StateEdges.{edges_length, edge_number, number_of}
use Rattle.atn_graph.proofs.Inside as inside
use Rattle.atn.specs.declared.atn.Atn.{Atn}
use Rattle.atn.specs.Checked.{net_of}
use Rattle.ll1_analyzer.specs.Chains.{first_follow, follow_of, ChainFault, QuestionFault}
use Rattle.recovery_model.specs.declared.open_rule.OpenRule.{OpenRule}
use Rattle.recovery_model.specs.Views.{View, here, chain}
use Rattle.recovery_model.specs.RecoverInline.{next_state}
use Rattle.recovery_model.specs.Denials.{first_calls}
use Rattle.recovery_model.specs.Coherent.{is_in, is_invoked, stands, is_sound_chain, is_sound_pair, is_sound_saved, is_sound_kept, Coherent, NeverDenied}
use Rattle.recovery_model.proofs.Fitting.{Fit, fit_of}

pub fit : (a : Atn) → Fit (net_of a)
fit a = fit_of (net_of a) (sound_of a.graph) a.graph.limits

-- the parts of where a parser stands
pub record Stood (n : Net) (state : Option ℕ) (o : OpenRule) (os : List OpenRule) : Type 0 where
  pub rule : o.rule < length n.rules
  pub is_in : is_in n o.rule state ≡ true
  pub invoked : is_invoked n o.rule o.invoking ≡ true
  pub below : stands n o.invoking os ≡ true

pub stood : (n : Net) (state : Option ℕ) (o : OpenRule) (os : List OpenRule) → stands n state (o ∷ os) ≡ true → Stood n state o os
stood n state o os e =
    let p = and_parts (nat_lt o.rule (length n.rules) && is_in n o.rule state) (is_invoked n o.rule o.invoking && stands n o.invoking os) e in
    let q = and_parts (nat_lt o.rule (length n.rules)) (is_in n o.rule state) p.0 in
    let r = and_parts (is_invoked n o.rule o.invoking) (stands n o.invoking os) p.1 in
    record { rule = ltb-true o.rule (length n.rules) q.0; is_in = q.1; invoked = r.0; below = r.1 }

pub inside_of : (n : Net) (r : ℕ) (state : Option ℕ) → is_in n r state ≡ true → unwrap_or state 0 < size n
inside_of n r None e = cc
inside_of n r (Some s) e = ltb-true s (size n) (and_parts (nat_lt s (size n)) ((state_at n s).rule == r) e).0

-- a state that calls a rule has a follow state
called_follow : (r : ℕ) (es : List Transition) → first_calls r es ≡ true → is_some (first_follow es) ≡ true
called_follow r [] e = e
called_follow r (x ∷ es) e = at x.kind refl
  where
    at : (k : TransitionKind) → x.kind ≡ k → is_some (first_follow (x ∷ es)) ≡ true
    at Epsilon h = let f = rw h at e in cc
    at (Range i) h = let f = rw h at e in cc
    at (Rule q f) h = rw h refl
    at Predicate h = let f = rw h at e in cc
    at (Atom l) h = let f = rw h at e in cc
    at Action h = let f = rw h at e in cc
    at (Set a b) h = let f = rw h at e in cc
    at (NotSet a b) h = let f = rw h at e in cc
    at Wildcard h = let f = rw h at e in cc
    at Precedence h = let f = rw h at e in cc

abbrev chain_of : List OpenRule → List ℕ
chain_of os = flat_map (λ o. option_to_list o.invoking) os

abbrev follows_on : Net → ℕ → Bool
follows_on n s = is_some (follow_of n s)

all_call : (n : Net) (state : Option ℕ) (os : List OpenRule) → stands n state os ≡ true → list_all (follows_on n) (chain_of os) ≡ true
all_call n state [] e = refl
all_call n state (o ∷ os) e = at o.invoking refl (all_call n o.invoking os (stood n state o os e).below)
  where
    at : (i : Option ℕ) → o.invoking ≡ i → list_all (follows_on n) (chain_of os) ≡ true → list_all (follows_on n) (option_to_list o.invoking ++ chain_of os) ≡ true
    at None h rest = subst (λ j. list_all (follows_on n) (option_to_list j ++ chain_of os) ≡ true) (sym h) rest
    at (Some k) h rest =
        let called : first_calls o.rule (edges_of n k) ≡ true = subst (λ j. is_invoked n o.rule j ≡ true) h (stood n state o os e).invoked in
        subst (λ j. list_all (follows_on n) (option_to_list j ++ chain_of os) ≡ true) (sym h) (and_from (follows_on n k) _ (called_follow o.rule (edges_of n k) called) rest)

added_few : (i : Option ℕ) → length (option_to_list i) ≤ 1
added_few None = omega arith
added_few (Some s) = omega arith

-- the outermost rule was invoked at none
chain_few : (n : Net) (state : Option ℕ) (o : OpenRule) (os : List OpenRule) → stands n state (o ∷ os) ≡ true → length (chain_of (o ∷ os)) ≤ length os
chain_few n state o [] e = at o.invoking refl
  where
    at : (i : Option ℕ) → o.invoking ≡ i → length (chain_of (o ∷ [])) ≤ 0
    at None h = subst (λ j. length (option_to_list j ++ []) ≤ 0) (sym h) (omega arith)
    at (Some s) h = absurd (both_ways false refl (subst (λ j. stands n j [] ≡ true) h (stood n state o [] e).below))
chain_few n state o (p ∷ ps) e =
    omega (arith, chain_few n o.invoking p ps (stood n state o (p ∷ ps) e).below, added_few o.invoking, length-append (option_to_list o.invoking) (chain_of (p ∷ ps)))

chain_short : (n : Net) (state : Option ℕ) (os : List OpenRule) → stands n state os ≡ true → length os ≤ 64 → length (chain_of os) ≤ 63
chain_short n state [] e few = omega arith
chain_short n state (o ∷ os) e few = omega (arith, chain_few n state o os e, few)

pub chain_sound : (n : Net) (state : Option ℕ) (os : List OpenRule) → stands n state os ≡ true → length os ≤ 64 → is_sound_chain n (chain_of os) ≡ true
chain_sound n state os e few = and_from _ _ (le-leb (length (chain_of os)) 63 (chain_short n state os e few)) (all_call n state os e)

pub stands_inside : (n : Net) (state : Option ℕ) (os : List OpenRule) → stands n state os ≡ true → 0 < length os → unwrap_or state 0 < size n
stands_inside n state [] e some = absurd (omega (arith, some))
stands_inside n state (o ∷ os) e some = inside_of n o.rule state (stood n state o os e).is_in

-- a sound chain is not faulty
all_at : (n : Net) (ss : List ℕ) → list_all (follows_on n) ss ≡ true → (k : ℕ) → k < length ss → follow_of n (get_or ss k 0) ≡ None → ⊥
all_at n [] e k l none = omega (arith, l)
all_at n (s ∷ ss) e zero l none = both_ways false refl (sym (ap is_some none) ∙ (and_parts (follows_on n s) _ e).0)
all_at n (s ∷ ss) e (suc k) l none = all_at n ss (and_parts (follows_on n s) _ e).1 k (omega (arith, l)) none

pub no_chain_fault : (n : Net) (ss : List ℕ) → is_sound_chain n ss ≡ true → (d : Denial) → ChainFault n ss d → ⊥
no_chain_fault n ss e FaultyChain (inl long) = omega (arith, long, leb-true (length ss) 63 (and_parts (nat_le (length ss) 63) _ e).0)
no_chain_fault n ss e FaultyChain (inr bad) =
    all_at n ss (and_parts (nat_le (length ss) 63) _ e).1 bad.0 bad.2 (ap (follow_of n) (get_or_default ss bad.0 0 bad.1 bad.2 ∙ bad.3) ∙ bad.4)
no_chain_fault n ss e _ f = f

pub no_fault : (n : Net) (s : ℕ) (ss : List ℕ) → s < size n → is_sound_chain n ss ≡ true → (d : Denial) → QuestionFault n s ss d → ⊥
no_fault n s ss l e d (inl f) = no_chain_fault n ss e d f
no_fault n s ss l e StateOutside (inr f) = omega (arith, l, f)
no_fault n s ss l e _ (inr f) = f

pub no_pair_fault : (n : Net) (s : ℕ) (ss : List ℕ) → is_sound_pair n s ss ≡ true → (d : Denial) → QuestionFault n s ss d → ⊥
no_pair_fault n s ss e =
    let p = and_parts (nat_lt s (size n)) (is_sound_chain n ss) e in
    no_fault n s ss (ltb-true s (size n) p.0) p.1

-- the first edge of a state leads to a state of the net
none_there : (es : List Transition) → length es ≤ 0 → (get_or es 0 no_edge).target ≡ 0
none_there [] l = refl
none_there (e ∷ es) l = absurd (omega (arith, l))

pub target_inside : (a : Atn) (s : ℕ) → next_state (net_of a) s < size (net_of a)
target_inside a s =
    let n = net_of a in
    let es = edges_of n s in
    let x = state_at n s in
    elim (cases_lt 0 (length es)) [
      | inl some ↦
          let long : length es ≡ x.end - x.first = edges_length a.graph s in
          let is : get_or es 0 no_edge ≡ edge_at n (x.first + 0) = edge_number a.graph s 0 some in
          elim (cases_lt s (size n)) [
            | inl l ↦ subst (λ e. e.target < size n) (sym is) (inside.target_inside a.graph s (x.first + 0) l (number_of a.graph s 0 some))
            | inr h ↦ let none : x ≡ no_state = get_or_past n.states s no_state h in absurd (omega (arith, some, long, ap (λ y. y.end) none))
          ]
      | inr no_one ↦ subst (λ t. t < size n) (sym (none_there es no_one)) (fit a).some
    ]

-- so nothing that a parser asks is denied
pub never_denied : (a : Atn) (v : View) → Coherent (net_of a) v → NeverDenied (net_of a) v
never_denied a v c =
    let n = net_of a in
    let sound : is_sound_chain n (chain v) ≡ true = chain_sound n v.state v.open_rules c.stands c.open_bounded in
    record {
      at_state = λ some. no_fault n (here v) (chain v) (stands_inside n v.state v.open_rules c.stands some) sound;
      at_next = no_fault n (next_state n (here v)) (chain v) (target_inside a (here v)) sound;
      at_open_rules = no_chain_fault n (chain v) sound;
      at_saved = λ p e. no_pair_fault n p.state p.chain (subst (λ o. is_sound_saved n o ≡ true) e c.saved);
      at_kept = λ m e. no_pair_fault n m.state m.chain (subst (λ o. is_sound_kept n o ≡ true) e c.input_mismatch);
    }
