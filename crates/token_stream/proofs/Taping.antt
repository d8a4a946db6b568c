-- Tapes, from what the tests of their tokens answer.
use Rattle.std.proofs.Common.{◌≡◌, ℕ, ◌+◌, ◌<◌, Bool, true, false, List, [], ◌∷◌, ◌++◌, length, get_or, sym, refl, ap, ◌∙◌, subst, ◌⊎◌, inl, inr, arith}
use Rattle.std.specs.Prelude.{map, Decides, MatchBool, EachIndex}
use Rattle.std.specs.List.{AllWithin, HoldsAt, enumerate_from}
use Rattle.std.proofs.lemmas.Bool.{both_ways, cases_eq}
use Rattle.std.proofs.lemmas.List.{get_or-map, get_or_append_left, get_or_push, length-map, length_push}
use Rattle.std.proofs.lemmas.List.FromFn.{get_or-enumerate_from, length-enumerate_from}
use Rattle.errors.specs.declared.denial.Denial.{Denial}
use Rattle.errors.specs.declared.denial.Denial.TheVariants.{FaultyTape}
use Rattle.errors.specs.Denials.{IsBefore, First}
use Rattle.token.specs.Tokens.{Fields, is_eof}
use Rattle.token_stream.specs.Tapes.{no_token, token_at, Placed, EndsInEof, IsTape, TapeFault}

-- what `all` answers: each element passes, or one fails
abbrev pub AllAnswer : {X : Type 0} → (Yes No : X → Type 0) → List X → Bool → Type 0
AllAnswer Yes No xs r = MatchBool r (AllWithin Yes xs 0 (length xs)) ((k : ℕ) × (k < length xs) × HoldsAt No xs k)

decides_all : {X P : Type 0} (Yes No : X → Type 0) (xs : List X) (d : X) (r : Bool) → AllAnswer Yes No xs r → (((k : ℕ) → k < length xs → Yes (get_or xs k d)) → P)
    → (P → (k : ℕ) → k < length xs → No (get_or xs k d) → ⊥) → Decides r P
decides_all Yes No xs d true all all_so some_not = ((λ e. all_so (λ k l. all k d (omega arith) l)), (λ p. refl))
decides_all Yes No xs d false (k, l, fails) all_so some_not = ((λ e. absurd (both_ways false refl e)), (λ p. absurd (some_not p k l (fails d))))

-- the token read at a place
pub read : {T : Type 0} (fields : T → Fields) (xs : List T) (k : ℕ) (t : T) → k < length xs → t ≡ get_or xs k t → token_at (map fields xs) k ≡ fields t
read fields xs k t l is = get_or-map fields xs k t no_token l ∙ ap fields (sym is)

-- a token before the last, with its place
abbrev pub BeforeEof : {T : Type 0} → (T → Fields) → ℕ × T → Type 0
BeforeEof fields p = Placed (fields p.1) p.0 × (is_eof (fields p.1).typ ≡ false)

abbrev pub AllPlaced : List Fields → Type 0
AllPlaced tape = EachIndex tape (λ k. Placed (token_at tape k) k)

-- the last token, and those before it
module _ {T : Type 0} (fields : T → Fields) (xs before : List T) (last : T) (split : xs ≡ before ++ last ∷ []) where
  long : length (map fields xs) ≡ length before + 1
  long = length-map xs fields ∙ ap length split ∙ length_push before last

  at_last : (k : ℕ) → k + 1 ≡ length (map fields xs) → token_at (map fields xs) k ≡ fields last
  at_last k e = read fields xs k last (omega (arith, e, length-map xs fields)) (sym (ap (λ ys. get_or ys k last) split ∙ get_or_push before last last k (omega (arith, e, long))))

  at_before : (k : ℕ) → k < length before → token_at (map fields xs) k ≡ fields (get_or before k last)
  at_before k l = get_or-map fields xs k last no_token (omega (arith, l, long, length-map xs fields)) ∙ ap fields (ap (λ ys. get_or ys k last) split ∙ get_or_append_left before (last ∷ []) last k l)

  pub eof_last : EndsInEof (map fields xs) → is_eof (fields last).typ ≡ true
  eof_last ends = ap (λ t. is_eof t.typ) (sym (at_last (length before) (sym long))) ∙ ends.last (length before) (sym long)

  pub placed_last : AllPlaced (map fields xs) → Placed (fields last) (length before)
  placed_last each = subst (λ t. Placed t (length before)) (at_last (length before) (sym long)) (each (length before) (omega (arith, long)))

  count : length (enumerate_from 0 before) ≡ length before
  count = length-enumerate_from 0 before

  at : (k : ℕ) → k < length before → get_or (enumerate_from 0 before) k (0, last) ≡ (k, get_or before k last)
  at k l = get_or-enumerate_from 0 before k (0, last) l ∙ ap (λ i. (i, get_or before k last)) (omega arith)

  in_place : is_eof (fields last).typ ≡ true → Placed (fields last) (length before) → ((k : ℕ) → k < length (enumerate_from 0 before) → BeforeEof fields (get_or (enumerate_from 0 before) k (0, last)))
      → EndsInEof (map fields xs) × AllPlaced (map fields xs)
  in_place eof own each = (
    record {
      non_empty = omega (arith, long);
      last = λ k e. ap (λ t. is_eof t.typ) (at_last k e) ∙ eof;
      before = λ k l. let m : k < length before = omega (arith, l, long) in ap (λ t. is_eof t.typ) (at_before k m) ∙ (so k m).1;
    },
    (λ k l. place k l (cases_eq (k + 1) (length (map fields xs)))),
  )
    where
      so : (k : ℕ) → k < length before → BeforeEof fields (k, get_or before k last)
      so k m = subst (BeforeEof fields) (at k m) (each k (omega (arith, m, count)))

      place : (k : ℕ) → k < length (map fields xs) → (k + 1 ≡ length (map fields xs)) ⊎ (k + 1 ≡ length (map fields xs) → ⊥) → Placed (token_at (map fields xs) k) k
      place k l (inl e) = subst (λ t. Placed t k) (sym (at_last k e)) (subst (Placed (fields last)) (omega (arith, e, long)) own)
      place k l (inr ne) = let m : k < length before = omega (arith, l, ne, long) in subst (λ t. Placed t k) (sym (at_before k m)) (so k m).0

  pub decides_in_place : (r : Bool) → is_eof (fields last).typ ≡ true → Placed (fields last) (length before) → AllAnswer (BeforeEof fields) (λ p. BeforeEof fields p → ⊥) (enumerate_from 0 before) r
      → Decides r (EndsInEof (map fields xs) × AllPlaced (map fields xs))
  decides_in_place r eof own all = decides_all (BeforeEof fields) (λ p. BeforeEof fields p → ⊥) (enumerate_from 0 before) (0, last) r all (in_place eof own)
      (λ w k l fails. let m : k < length before = omega (arith, l, count) in
      fails (subst (BeforeEof fields) (sym (at k m)) (subst (λ t. Placed t k) (at_before k m) (w.1 k (omega (arith, m, long))), ap (λ t. is_eof t.typ) (sym (at_before k m)) ∙ w.0.before k (omega (arith, m, long)))))

-- a faulty tape is denied
pub faulty_first : (tape : List Fields) → (IsTape tape → ⊥) → First (TapeFault tape) FaultyTape
faulty_first tape faulty = record { fits = faulty; none_before = before }
  where
    before : (d : Denial) → IsBefore d FaultyTape → TapeFault tape d → ⊥
    before FaultyTape l f = omega arith
    before _ l f = f

pub no_tape_fault : (tape : List Fields) → IsTape tape → (d : Denial) → TapeFault tape d → ⊥
no_tape_fault tape w FaultyTape f = f w
no_tape_fault tape w _ f = f
