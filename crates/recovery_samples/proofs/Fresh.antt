-- A parser over tokens in their places is a new one.
use Rattle.std.proofs.Common.{◌≡◌, ℕ, zero, suc, ◌+◌, ◌<◌, true, false, List, [], ◌∷◌, length, Some, unwrap_or, refl, ap, ◌∙◌, arith}
use Rattle.token.specs.Tokens.{is_eof, token_index}
use Rattle.token_stream.specs.Tapes.{token_at, EndsInEof}
use Rattle.token_stream.specs.Streams.{Shows}
use Rattle.recovery_model.specs.TapeLaw.{New}
use Rattle.recovery_samples.specs.Beginnings.{tokens, made}

long : (p : ℕ) (ts : List ℕ) → length (tokens p ts) ≡ suc (length ts)
long p [] = refl
long p (t ∷ ts) = ap suc (long (p + 1) ts)

in_place : (p : ℕ) (ts : List ℕ) (k : ℕ) → k < length (tokens p ts) → ((token_at (tokens p ts) k).index ≡ Some (p + k)) × ((token_at (tokens p ts) k).position ≡ (1, p + k))
in_place p [] zero l = (ap Some (omega arith), ap (λ c. (1, c)) (omega arith))
in_place p [] (suc k) l = absurd (omega (arith, l))
in_place p (t ∷ ts) zero l = (ap Some (omega arith), ap (λ c. (1, c)) (omega arith))
in_place p (t ∷ ts) (suc k) l =
    let h = in_place (p + 1) ts k (omega (arith, l)) in
    let e : p + 1 + k ≡ p + suc k = omega arith in
    (h.0 ∙ ap Some e, h.1 ∙ ap (λ c. (1, c)) e)

last : (p : ℕ) (ts : List ℕ) (k : ℕ) → k + 1 ≡ length (tokens p ts) → is_eof (token_at (tokens p ts) k).typ ≡ true
last p [] zero e = refl
last p [] (suc k) e = absurd (omega (arith, e))
last p (t ∷ ts) zero e = absurd (omega (arith, e, long (p + 1) ts))
last p (t ∷ ts) (suc k) e = last (p + 1) ts k (omega (arith, e))

others : (p : ℕ) (ts : List ℕ) (k : ℕ) → k + 1 < length (tokens p ts) → is_eof (token_at (tokens p ts) k).typ ≡ false
others p [] k l = absurd (omega (arith, l))
others p (t ∷ ts) zero l = refl
others p (t ∷ ts) (suc k) l = others (p + 1) ts k (omega (arith, l))

ends_in_eof : (ts : List ℕ) → EndsInEof (tokens 0 ts)
ends_in_eof ts = record { non_empty = omega (arith, long 0 ts); last = last 0 ts; before = others 0 ts }

shows_all : (ts : List ℕ) → length ts < 65535 → Shows (tokens 0 ts) (tokens 0 ts)
shows_all ts few = record {
  sound = record {
    bounded = omega (arith, few, long 0 ts);
    ends = ends_in_eof ts;
    placed = λ k l. let h = in_place 0 ts k l in
        record {
          index = h.0 ∙ ap Some (omega arith);
          line = omega (arith, ap (λ p. p.0) h.1);
          column = omega (arith, ap (λ p. p.1) h.1, l, few, long 0 ts);
        };
  };
  ends = ends_in_eof ts;
  rises = λ j k less l. omega (arith, less, owned j (omega (arith, less, l)), owned k l);
  named = λ k l. record { index = (in_place 0 ts k l).0 ∙ ap Some (omega (arith, owned k l)); inside = omega (arith, l, owned k l); same = ap (token_at (tokens 0 ts)) (owned k l) };
}
  where
    owned : (k : ℕ) → k < length (tokens 0 ts) → token_index (token_at (tokens 0 ts) k) ≡ k
    owned k l = ap (λ i. unwrap_or i 0) (in_place 0 ts k l).0 ∙ omega arith

pub new_made : (ts : List ℕ) → length ts < 65535 → New (made ts)
new_made ts few = record { state = refl; none_open = refl; strategy = refl; input_mismatch = refl; shows = shows_all ts few }
