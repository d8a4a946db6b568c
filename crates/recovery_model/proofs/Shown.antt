-- What is shown after tokens were dropped.
use Rattle.std.proofs.Common.{◌≡◌, append_assoc, ◌⊎◌, inl, inr, le_of_eq, suc, if◌then◌else◌, ℕ, ◌+◌, ◌<◌, ◌≤◌, true, false, List, [], ◌∷◌, ◌++◌, length, Some, pos, sym, refl, ap, ◌∙◌, subst, arith}
use Rattle.std.proofs.lemmas.List.{get_or_append_left, get_or-append-add, length-append}
use Rattle.std.proofs.lemmas.List.Elements.{filter-append}
use Rattle.std.proofs.lemmas.Bool.{cond_both, cond-true, cond-false, both_ways, cases_eq, le-leb, lt-leb}
use Rattle.std.specs.Prelude.{nat_le}
use Rattle.token.specs.Tokens.{Fields, is_eof, token_index}
use Rattle.token_stream.specs.Tapes.{no_token, token_at, EndsInEof}
use Rattle.token_stream.specs.Streams.{passed, shown_at}
use Rattle.recovery_model.specs.Histories.{shown_from, next_place}

-- tokens were dropped, and some are left
pub record Onward (old new : List Fields) : Type 0 where
  pub dropped : List Fields
  pub parts : old ≡ dropped ++ new
  pub some : 0 < length new

pub onward_by : (d new old : List Fields) → old ≡ d ++ new → 0 < length new → Onward old new
onward_by d new old e l = record { dropped = d; parts = e; some = l }

-- token indexes rise
abbrev pub Rises : List Fields → Type 0
Rises ts = (j k : ℕ) → j < k → k < length ts → token_index (token_at ts j) < token_index (token_at ts k)

ends_after : (d ts : List Fields) → EndsInEof (d ++ ts) → 0 < length ts → EndsInEof ts
ends_after d ts ends some = record {
  non_empty = some;
  last = λ k e. ap (λ t. is_eof t.typ) (sym (get_or-append-add d ts k no_token)) ∙ ends.last (length d + k) (omega (arith, e, length-append d ts));
  before = λ k l. ap (λ t. is_eof t.typ) (sym (get_or-append-add d ts k no_token)) ∙ ends.before (length d + k) (omega (arith, l, length-append d ts));
}

pub onward_ends : (old new : List Fields) → EndsInEof old → Onward old new → EndsInEof new
onward_ends old new ends o = ends_after o.dropped new (subst EndsInEof o.parts ends) o.some

-- EOF is never dropped, so some token is left
pub passed_onward : (ts : List Fields) → EndsInEof ts → Onward ts (passed ts)
passed_onward [] ends = absurd (omega (arith, ends.non_empty))
passed_onward (t ∷ []) ends = cond_both (is_eof t.typ) (t ∷ []) [] (Onward (t ∷ [])) (λ e. onward_by [] _ _ refl ends.non_empty) (λ e. absurd (both_ways _ e (ends.last 0 refl)))
passed_onward (t ∷ u ∷ us) ends = cond_both (is_eof t.typ) (t ∷ u ∷ us) (u ∷ us) (Onward (t ∷ u ∷ us)) (λ e. onward_by [] _ _ refl ends.non_empty) (λ e. onward_by (t ∷ []) _ _ refl (omega arith))

-- which tokens are shown from a place on
from_all : (p : ℕ) (ts : List Fields) → ((k : ℕ) → k < length ts → p ≤ token_index (token_at ts k)) → shown_from p ts ≡ ts
from_all p [] h = refl
from_all p (t ∷ ts) h = cond-true (nat_le p (token_index t)) _ _ (le-leb p (token_index t) (h 0 (omega arith))) ∙ ap (λ us. t ∷ us) (from_all p ts (λ k l. h (suc k) (omega arith)))

from_none : (p : ℕ) (ts : List Fields) → ((k : ℕ) → k < length ts → token_index (token_at ts k) < p) → shown_from p ts ≡ []
from_none p [] h = refl
from_none p (t ∷ ts) h = cond-false (nat_le p (token_index t)) _ _ (lt-leb p (token_index t) (h 0 (omega arith))) ∙ from_none p ts (λ k l. h (suc k) (omega arith))

from_parts : (d ts : List Fields) → Rises (d ++ ts) → 0 < length ts → shown_from (token_index (token_at ts 0)) (d ++ ts) ≡ ts
from_parts d ts rises some =
    filter-append (λ t. nat_le (token_index (token_at ts 0)) (token_index t)) d ts
    ∙ ap (λ xs. xs ++ shown_from (token_index (token_at ts 0)) ts) (from_none _ d before)
    ∙ from_all _ ts after
  where
    at : (k : ℕ) → token_index (token_at (d ++ ts) (length d + k)) ≡ token_index (token_at ts k)
    at k = ap token_index (get_or-append-add d ts k no_token)

    before : (k : ℕ) → k < length d → token_index (token_at d k) < token_index (token_at ts 0)
    before k l = omega (arith, ap token_index (get_or_append_left d ts no_token k l), at 0, rises k (length d + 0) (omega arith) (omega (arith, length-append d ts)))

    after : (k : ℕ) → k < length ts → token_index (token_at ts 0) ≤ token_index (token_at ts k)
    after k l = at_zero (cases_eq k 0)
      where
        at_zero : (k ≡ 0) ⊎ (k ≡ 0 → ⊥) → token_index (token_at ts 0) ≤ token_index (token_at ts k)
        at_zero (inl e) = le_of_eq (ap (λ i. token_index (token_at ts i)) (sym e))
        at_zero (inr ne) = omega (arith, at 0, at k, rises (length d + 0) (length d + k) (omega arith) (omega (arith, length-append d ts)))

-- What is shown is what was shown first, from the place of its first token on.
pub onward_from : (old new : List Fields) → Rises old → Onward old new → new ≡ shown_from (token_index (token_at new 0)) old
onward_from old new rises o = sym (ap (shown_from (token_index (token_at new 0))) o.parts ∙ from_parts o.dropped new (subst Rises o.parts rises) o.some)

next_at : (ts old : List Fields) (p : ℕ) → shown_from p old ≡ ts → token_index (token_at ts 0) ≡ p → 0 < length ts → next_place old p ≡ token_index (token_at (passed ts) 0)
next_at [] old p e same some = absurd (omega arith)
next_at (t ∷ ts) old p e same some = rw e (elim (is_eof t.typ) as (λ b. (if b then p else token_index (token_at ts 0)) ≡ token_index (token_at (if b then t ∷ ts else ts) 0)) [ true ↦ sym same | false ↦ refl ])

pub onward_next : (old new : List Fields) → Rises old → Onward old new → next_place old (token_index (token_at new 0)) ≡ token_index (token_at (passed new) 0)
onward_next old new rises o = next_at new old _ (sym (onward_from old new rises o)) refl o.some

pub onward_rises : (old new : List Fields) → Rises old → Onward old new → Rises new
onward_rises old new rises o j k less inside =
    omega (arith, at j, at k, subst Rises o.parts rises (length o.dropped + j) (length o.dropped + k) (omega arith) (omega (arith, length-append o.dropped new)))
  where
    at : (k : ℕ) → token_index (token_at (o.dropped ++ new) (length o.dropped + k)) ≡ token_index (token_at new k)
    at k = ap token_index (get_or-append-add o.dropped new k no_token)

-- a token that is not EOF is passed, and another place is reached
pub passed_moves : (ts : List Fields) → EndsInEof ts → Rises ts → is_eof (token_at ts 0).typ ≡ false → token_index (token_at (passed ts) 0) ≡ token_index (token_at ts 0) → ⊥
passed_moves [] ends rises e same = omega (arith, ends.non_empty)
passed_moves (t ∷ []) ends rises e same = both_ways _ e (ends.last 0 refl)
passed_moves (t ∷ u ∷ us) ends rises e same =
    let other : token_index u ≡ token_index t = ap (λ xs. token_index (token_at xs 0)) (sym (cond-false (is_eof t.typ) (t ∷ u ∷ us) (u ∷ us) e)) ∙ same in
    omega (arith, other, rises 0 1 (omega arith) (omega arith))

-- each has its token index
abbrev pub Numbered : List Fields → Type 0
Numbered ts = (k : ℕ) → k < length ts → (token_at ts k).index ≡ Some (token_index (token_at ts k))

pub onward_numbered : (old new : List Fields) → Numbered old → Onward old new → Numbered new
onward_numbered old new named o k l =
    subst (λ t. t.index ≡ Some (token_index t)) (get_or-append-add o.dropped new k no_token) (subst Numbered o.parts named (length o.dropped + k) (omega (arith, length-append o.dropped new)))

-- past EOF nothing else is ahead
pub ahead_of_eof : (ts : List Fields) → EndsInEof ts → is_eof (token_at ts 0).typ ≡ true → shown_at ts (pos 2) ≡ shown_at ts (pos 1)
ahead_of_eof [] ends e = absurd (omega (arith, ends.non_empty))
ahead_of_eof (t ∷ []) ends e = refl
ahead_of_eof (t ∷ u ∷ us) ends e = absurd (both_ways _ (ends.before 0 (omega arith)) e)

pub onward_more : (old mid new : List Fields) → Onward old mid → Onward mid new → Onward old new
onward_more old mid new a b = onward_by (a.dropped ++ b.dropped) new old (a.parts ∙ ap (λ xs. a.dropped ++ xs) b.parts ∙ sym (append_assoc a.dropped b.dropped new)) b.some
