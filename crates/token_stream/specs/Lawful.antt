-- Why tables keep the law of streams: nothing here says what a stream is. The rules of a tape are propositions, so a
-- checked table can carry them.
use mathlib.Core.Logic.{∥∥₁_elim}
use mathlib.Core.Bool.{Bool-set}
use native.Mathlib.Bridge.{le_prop}
use Rattle.std.proofs.Common.{◌≡◌, ℕ, ◌+◌, ◌-◌, ◌<◌, List, length, drop, Option, Some, sym, ap, ◌∙◌, arith}
use Rattle.std.proofs.Props.{props}
use Rattle.std.specs.Prelude.{map, unwrap_or}
use Rattle.std.proofs.lemmas.List.{get_or-drop, length-drop, length-map}
use Rattle.token.specs.Tokens.{Fields, is_eof, token_index}
use Rattle.token_stream.specs.Tapes.{no_token, token_at, Placed, EndsInEof, IsTape}
use Rattle.token_stream.specs.Streams.{Shows}

option_prop : (a b : Option ℕ) → IsProp (a ≡ b)
option_prop a b = hlevel props

placed_prop : (t : Fields) (k : ℕ) → IsProp (Placed t k)
placed_prop t k a b i = record { index = option_prop _ _ a.index b.index i; line = le_prop a.line b.line i; column = le_prop a.column b.column i }

ends_prop : (ts : List Fields) → IsProp (EndsInEof ts)
ends_prop ts a b i = record {
  non_empty = le_prop a.non_empty b.non_empty i;
  last = λ k e. Bool-set _ _ (a.last k e) (b.last k e) i;
  before = λ k l. Bool-set _ _ (a.before k l) (b.before k l) i;
}

pub sound_prop : (tape : List Fields) → IsProp (IsTape tape)
sound_prop tape a b i = record { bounded = le_prop a.bounded b.bounded i; ends = ends_prop tape a.ends b.ends i; placed = λ k l. placed_prop (token_at tape k) k (a.placed k l) (b.placed k l) i }

-- from place p of a tape on
module _ (tape : List Fields) (p : ℕ) (l : p < length tape) (w : IsTape tape) where
  at : (k : ℕ) → token_at (drop p tape) k ≡ token_at tape (p + k)
  at k = get_or-drop p tape k no_token

  left : length (drop p tape) ≡ length tape - p
  left = length-drop p tape

  index_at : (k : ℕ) → k < length (drop p tape) → (token_at (drop p tape) k).index ≡ Some (p + k)
  index_at k h = ap (λ t. t.index) (at k) ∙ (w.placed (p + k) (omega (arith, h, left, l))).index

  own_at : (k : ℕ) → k < length (drop p tape) → token_index (token_at (drop p tape) k) ≡ p + k
  own_at k h = ap (λ o. unwrap_or o 0) (index_at k h)

  ends : EndsInEof (drop p tape)
  ends = record {
    non_empty = omega (arith, left, l);
    last = λ k e. ap (λ t. is_eof t.typ) (at k) ∙ w.ends.last (p + k) (omega (arith, e, left, l));
    before = λ k h. ap (λ t. is_eof t.typ) (at k) ∙ w.ends.before (p + k) (omega (arith, h, left, l));
  }

  pub shows_from : Shows tape (drop p tape)
  shows_from = record {
    sound = w;
    ends = ends;
    rises = λ j k h m. omega (arith, h, own_at j (omega (arith, h, m)), own_at k m);
    named = λ k h. record {
      index = index_at k h ∙ ap Some (sym (own_at k h));
      inside = omega (arith, own_at k h, h, left, l);
      same = ap (token_at tape) (own_at k h) ∙ sym (at k);
    };
  }

-- a sound tape is one fact, however it is known
pub sound_of : (tape : List Fields) → ∥ IsTape tape ∥₁ → IsTape tape
sound_of tape s = ∥∥₁_elim s (sound_prop tape) (λ w. w)

-- so a table does
pub table_shows : {T : Type 0} (fields : T → Fields) (xs : List T) (p : ℕ) → p < length xs → ∥ IsTape (map fields xs) ∥₁ → Shows (map fields xs) (drop p (map fields xs))
table_shows fields xs p l s = shows_from (map fields xs) p (omega (arith, l, length-map xs fields)) (sound_of (map fields xs) s)
