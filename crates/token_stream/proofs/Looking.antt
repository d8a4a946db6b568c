-- What is ahead, and looking for visible tokens one by one.
use Rattle.std.proofs.Common.{◌≡◌, ℕ, ◌+◌, ◌-◌, ◌<◌, ◌≤◌, true, false, ◌⊎◌, List, [], ◌∷◌, ◌++◌, length, take, pos, sym, ap, ◌∙◌, subst, inl, inr, arith, Bool, Option, Some, None, lt-ltb, drop, append_assoc}
use mathlib.Core.Bool.{Bool-set}
use mathlib.Core.Logic.{∥∥₁_elim}
use native.Mathlib.Bridge.{le_prop}
use native.Mathlib.Nat.{ℕ_set}
use Rattle.std.specs.Prelude.{if◌then◌else◌, MatchOption}
use Rattle.std.specs.Bool.{then_some}
use Rattle.std.proofs.lemmas.Option.{none-some, same_Some}
use Rattle.std.proofs.lemmas.List.{length-drop, get_or-drop, take_more, take-append-drop, drop_all, drop_more, length_push, length-append}
use Rattle.std.proofs.Math.Seq.{get_or-append_seam}
use Rattle.std.proofs.lemmas.List.Elements.{filter-append}
use Rattle.std.proofs.lemmas.Bool.{cases_eq, cases_lt, le-ltb, both_ways, cond-true, cond-false}
use Rattle.token.specs.Tokens.{Fields, is_eof}
use Rattle.token_stream.specs.Tapes.{no_token, token_at, EndsInEof, IsTape}
use Rattle.token_stream.specs.Streams.{capped, shown_at, passed, visible, filtered}
use Rattle.token_stream.specs.Looked.{Looked, IsNext, IsFound}

-- a place within the list
pub capped_inside : (ts : List Fields) (k : ℕ) → k < length ts → capped k ts ≡ k
capped_inside ts k l = ap (λ b. if b then k else length ts - 1) (lt-ltb k (length ts) l)

pub capped_past : (ts : List Fields) (k : ℕ) → length ts ≤ k → capped k ts ≡ length ts - 1
capped_past ts k l = ap (λ b. if b then k else length ts - 1) (le-ltb k (length ts) l)

pub ahead_inside : (ts : List Fields) (ahead : ℕ) → 0 < ahead → ahead ≤ length ts → shown_at ts (pos ahead) ≡ token_at ts (ahead - 1)
ahead_inside ts ahead some l = ap (token_at ts) (capped_inside ts (ahead - 1) (omega (arith, some, l)))

-- the first token that a table shows is the one at its place
pub first_index : (tape : List Fields) (p : ℕ) → p < length tape → IsTape tape → (shown_at (drop p tape) (pos 1)).index ≡ Some p
first_index tape p l w =
    ap (λ t. t.index) (ahead_inside (drop p tape) 1 (omega arith) (omega (arith, l, length-drop p tape)) ∙ get_or-drop p tape 0 no_token)
    ∙ subst (λ k. (token_at tape k).index ≡ Some p) (omega arith) (w.placed p l).index

-- the answer about token number j, from what the stream shows now
pub eof_at : (xs ts : List Fields) (j : ℕ) (b : Bool) → b ≡ is_eof (shown_at xs (pos j)).typ → xs ≡ ts → 0 < j → j ≤ length ts → is_eof (token_at ts (j - 1)).typ ≡ b
eof_at xs ts j b is same some l = ap (λ t. is_eof t.typ) (sym (ahead_inside ts j some l)) ∙ ap (λ ys. is_eof (shown_at ys (pos j)).typ) (sym same) ∙ sym is

-- one token more
pub filtered_more : (ts : List Fields) (k : ℕ) → k < length ts → filtered (take (k + 1) ts) ≡ filtered (take k ts) ++ filtered (token_at ts k ∷ [])
filtered_more ts k l = ap filtered (take_more ts k no_token l) ∙ filter-append visible (take k ts) (token_at ts k ∷ [])

pub filtered_visible : (ts : List Fields) (k : ℕ) → k < length ts → visible (token_at ts k) ≡ true → filtered (take (k + 1) ts) ≡ filtered (take k ts) ++ token_at ts k ∷ []
filtered_visible ts k l h = filtered_more ts k l ∙ ap (λ xs. filtered (take k ts) ++ xs) (cond-true (visible (token_at ts k)) _ _ h)

-- The last token looked at is the visible one of that number.
record Seen (ts : List Fields) (count ahead : ℕ) : Type 0 where
  positive : 0 < count
  inside : count ≤ length (filtered ts)
  same : token_at (filtered ts) (count - 1) ≡ token_at ts (ahead - 1)
  rest : filtered ts ≡ filtered (take ahead ts) ++ filtered (drop ahead ts)

seen_last : (ts : List Fields) (count ahead : ℕ) → Looked ts count ahead → Seen ts count ahead
seen_last ts count ahead so =
    let before : (ahead - 1) + 1 ≡ ahead = omega (arith, so.positive) in
    let front = filtered (take (ahead - 1) ts) in
    let x = token_at ts (ahead - 1) in
    let back = filtered (drop ahead ts) in
    let more : filtered (take ahead ts) ≡ front ++ x ∷ [] =
    subst (λ k. filtered (take k ts) ≡ front ++ x ∷ []) before (filtered_visible ts (ahead - 1) (omega (arith, so.positive, so.within)) so.last) in
    let whole : filtered ts ≡ filtered (take ahead ts) ++ back = ap filtered (sym (take-append-drop ahead ts)) ∙ filter-append visible (take ahead ts) (drop ahead ts) in
    let split : filtered ts ≡ front ++ x ∷ back = whole ∙ ap (λ xs. xs ++ back) more ∙ append_assoc front (x ∷ []) back in
    let long : length front + 1 ≡ count = omega (arith, ap length more, length_push front x, so.seen) in
    let at : count - 1 ≡ length front = omega (arith, long) in
    record {
      positive = omega (arith, long);
      inside = omega (arith, ap length whole, length-append (filtered (take ahead ts)) back, so.seen);
      same = ap (λ k. token_at (filtered ts) k) at ∙ ap (λ xs. token_at xs (length front)) split ∙ get_or-append_seam front x back no_token;
      rest = whole;
    }

pub found_count : (ts : List Fields) (count ahead k : ℕ) → Looked ts count ahead → count ≡ k → IsFound ts k ahead
found_count ts count ahead k so is =
    let s = seen_last ts count ahead so in
    let inside : k - 1 < length (filtered ts) = omega (arith, is, s.inside, s.positive) in
    record {
      positive = so.positive;
      within = so.within;
      same = sym s.same ∙ ap (token_at (filtered ts)) (ap (λ i. i - 1) is ∙ sym (capped_inside (filtered ts) (k - 1) inside));
    }

pub found_eof : (ts : List Fields) (count ahead k : ℕ) → EndsInEof ts → Looked ts count ahead → count ≤ k → is_eof (token_at ts (ahead - 1)).typ ≡ true → IsFound ts k ahead
found_eof ts count ahead k ends so few eof =
    let s = seen_last ts count ahead so in
    let all : ahead ≡ length ts = at_end (cases_eq ahead (length ts)) in
    let back : filtered (drop ahead ts) ≡ [] = ap filtered (drop_all ahead ts (omega (arith, all))) in
    let long : length (filtered ts) ≡ count = omega (arith, ap length s.rest, length-append (filtered (take ahead ts)) (filtered (drop ahead ts)), ap length back, so.seen) in
    record { positive = so.positive; within = so.within; same = sym s.same ∙ ap (token_at (filtered ts)) (sym (last_place (cases_lt (k - 1) (length (filtered ts))) long s.positive)) }
  where
    at_end : (ahead ≡ length ts) ⊎ (ahead ≡ length ts → ⊥) → ahead ≡ length ts
    at_end (inl e) = e
    at_end (inr ne) = absurd (both_ways _ (ends.before (ahead - 1) (omega (arith, so.positive, so.within, ne))) eof)

    last_place : (k - 1 < length (filtered ts)) ⊎ (length (filtered ts) ≤ k - 1) → length (filtered ts) ≡ count → 0 < count → capped (k - 1) (filtered ts) ≡ count - 1
    last_place (inl m) long some = capped_inside (filtered ts) (k - 1) m ∙ omega (arith, m, long, few, some)
    last_place (inr m) long some = capped_past (filtered ts) (k - 1) m ∙ ap (λ i. i - 1) long

-- what a filter carries can be taken out
looked_prop : (ts : List Fields) (count ahead : ℕ) → IsProp (Looked ts count ahead)
looked_prop ts count ahead a b i = record { positive = le_prop a.positive b.positive i; within = le_prop a.within b.within i; seen = ℕ_set _ _ a.seen b.seen i; last = Bool-set _ _ a.last b.last i }

pub looked_of : (ts : List Fields) (count ahead : ℕ) → ∥ Looked ts count ahead ∥₁ → Looked ts count ahead
looked_of ts count ahead w = ∥∥₁_elim w (looked_prop ts count ahead) (λ x. x)

-- what `filter` keeps was there, and passed its test
pub filter_kept : {X : Type 0} (Answers : X → Bool → Type 0) (o r : Option X) → MatchOption o (r ≡ None) (λ x. (b : Bool) × Answers x b × (r ≡ then_some b x)) → (x : X) → r ≡ Some x → (o ≡ Some x) × Answers x true
filter_kept Answers None r none x e = absurd (none-some x (sym none ∙ e))
filter_kept Answers (Some y) r (true, a, is) x e = let same : y ≡ x = same_Some y x (sym is ∙ e) in (ap Some same, subst (λ z. Answers z true) same a)
filter_kept Answers (Some y) r (false, a, is) x e = absurd (none-some x (sym is ∙ e))

-- a token that is not EOF is passed
pub passed_drop : (ts : List Fields) (i : ℕ) → EndsInEof ts → i + 1 < length ts → passed (drop i ts) ≡ drop (i + 1) ts
passed_drop ts i ends l =
    ap passed (drop_more ts i no_token (omega (arith, l))) ∙ cond-false (is_eof (token_at ts i).typ) _ _ (ends.before i l)

-- the first visible token, and what a filter shows after it
pub first_filtered : (ts : List Fields) (j : ℕ) → IsNext ts 0 j → filtered ts ≡ token_at ts (j - 1) ∷ filtered (drop j ts)
first_filtered ts j n =
    let before : (j - 1) + 1 ≡ j = omega (arith, n.after) in
    let x = token_at ts (j - 1) in
    let front : filtered (take j ts) ≡ x ∷ [] =
    subst (λ k. filtered (take k ts) ≡ filtered (take (j - 1) ts) ++ x ∷ []) before (filtered_visible ts (j - 1) (omega (arith, n.after, n.within)) n.seen)
    ∙ ap (λ xs. xs ++ x ∷ []) n.between in
    ap filtered (sym (take-append-drop j ts)) ∙ filter-append visible (take j ts) (drop j ts) ∙ ap (λ xs. xs ++ filtered (drop j ts)) front

pub passed_first : (ts : List Fields) (j : ℕ) → IsNext ts 0 j → is_eof (token_at ts (j - 1)).typ ≡ false → filtered (drop j ts) ≡ passed (filtered ts)
passed_first ts j n e = sym (ap passed (first_filtered ts j n) ∙ cond-false (is_eof (token_at ts (j - 1)).typ) _ _ e)
