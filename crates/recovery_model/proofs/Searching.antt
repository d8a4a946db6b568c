-- Where a search ends.
use Rattle.std.proofs.Common.{◌≡◌, ℕ, zero, suc, ◌<◌, Bool, true, false, ◌||◌, List, [], ◌∷◌, ◌++◌, length, map, ℤ, sym, refl, ap, subst, arith, Decides, flat_map, option_to_list}
use Rattle.std.proofs.lemmas.Bool.{cond_both, cond-false, or_parts}
use Rattle.std.proofs.lemmas.List.Folds.{Any-from_list_any, list_any-from_Any}
use Rattle.atn_graph.specs.Net.{Net}
use Rattle.ll1_analyzer.specs.Sets.{Recovery}
use Rattle.token.specs.Tokens.{Fields, type_number, is_eof}
use Rattle.token_stream.specs.Tapes.{token_at, EndsInEof}
use Rattle.token_stream.specs.Streams.{passed}
use Rattle.recovery_model.specs.declared.open_rule.OpenRule.{OpenRule}
use Rattle.recovery_model.specs.Sets.{WithinSets, Agree, recovery}
use Rattle.recovery_model.specs.Views.{View}
use Rattle.recovery_model.specs.Passing.{Reason, before, pass, pass_many}
use Rattle.recovery_model.proofs.Shown.{onward_ends, passed_onward}

-- EOF, or a token of such a type
abbrev pub fits : (ℤ → Bool) → Fields → Bool
fits types t = is_eof t.typ || types (type_number t.typ)

-- the first token that fits, and those before it
pub record Stops (types : ℤ → Bool) (ts rest : List Fields) : Type 0 where
  pub passed : List Fields
  pub parts : ts ≡ passed ++ rest
  pub some : 0 < length rest
  pub stops : fits types (token_at rest 0) ≡ true
  pub passes : (k : ℕ) → k < length passed → fits types (token_at passed k) ≡ false

-- what is shown after so many tokens were passed
abbrev pub passed_many : ℕ → List Fields → List Fields
passed_many zero ts = ts
passed_many (suc k) ts = passed_many k (passed ts)

pub many_shown : (why : Reason) (k : ℕ) (v : View) → (pass_many why k v).shown ≡ passed_many k v.shown
many_shown why zero v = refl
many_shown why (suc k) v = many_shown why k (pass why v)

longer : (types : ℤ → Bool) (t : Fields) (us rest : List Fields) → fits types t ≡ false → Stops types us rest → Stops types (t ∷ us) rest
longer types t us rest e s = record { passed = t ∷ s.passed; parts = ap (λ xs. t ∷ xs) s.parts; some = s.some; stops = s.stops; passes = passes }
  where
    passes : (k : ℕ) → k < length (t ∷ s.passed) → fits types (token_at (t ∷ s.passed) k) ≡ false
    passes zero l = e
    passes (suc k) l = s.passes k (omega arith)

pub stops_before : (types : ℤ → Bool) (ts : List Fields) → EndsInEof ts → Stops types ts (passed_many (before types ts) ts)
stops_before types [] ends = absurd (omega (arith, ends.non_empty))
stops_before types (t ∷ us) ends =
    cond_both (fits types t) 0 (suc (before types us)) (λ k. Stops types (t ∷ us) (passed_many k (t ∷ us)))
    (λ e. record { passed = []; parts = refl; some = ends.non_empty; stops = e; passes = λ k l. absurd (omega arith) })
    (λ e. let same : passed (t ∷ us) ≡ us = cond-false (is_eof t.typ) (t ∷ us) us (or_parts (is_eof t.typ) (types (type_number t.typ)) e).0 in
    let tail : EndsInEof us = subst EndsInEof same (onward_ends (t ∷ us) (passed (t ∷ us)) ends (passed_onward (t ∷ us) ends)) in
    subst (λ xs. Stops types (t ∷ us) (passed_many (before types us) xs)) (sym same) (longer types t us _ e (stops_before types us tail)))

-- the types that may follow an open rule are those of the net's recovery set
pub decides_recovery : (n : Net) (w : WithinSets) → Agree n w → (fs : List ℕ) (x : ℤ) → Decides (recovery w fs x) (Recovery n fs x)
decides_recovery n w agree fs x = (to, from)
  where
    to : recovery w fs x ≡ true → Recovery n fs x
    to e =
        let a = Any-from_list_any (λ f. w.types f x) fs e in
        record { state = a.1; listed = (a.0, a.2, a.3); types = (agree.types a.1 x).0 a.4 }

    from : Recovery n fs x → recovery w fs x ≡ true
    from r = list_any-from_Any (λ f. w.types f x) fs (r.listed.0, r.state, r.listed.1, r.listed.2, (agree.types r.state x).1 r.types)

-- the open rules' invoking states, by the rules or by where the parser stands
pub same_chain : (os : List OpenRule) → flat_map (λ o. option_to_list o.invoking) os ≡ flat_map option_to_list (map (λ o. o.invoking) os)
same_chain [] = refl
same_chain (o ∷ os) = ap (λ xs. option_to_list o.invoking ++ xs) (same_chain os)
