-- What follows from the law of streams.
use Rattle.std.proofs.Common.{◌≡◌, ℕ, zero, suc, ◌-◌, ◌<◌, ◌≤◌, true, List, length, ℤ, pos, negsuc, ap, ◌∙◌, arith}
use Rattle.token.specs.Tokens.{Fields, is_eof, token_index}
use Rattle.token_stream.specs.Tapes.{max_tokens, token_at, IsTape}
use Rattle.token_stream.specs.Streams.{Shows, Outside, tape_at}
use Rattle.token_stream.proofs.Looking.{capped_past}

-- the token index of a shown token is at least its place
own_from : (tape ts : List Fields) → Shows tape ts → (k : ℕ) → k < length ts → k ≤ token_index (token_at ts k)
own_from tape ts s zero l = omega arith
own_from tape ts s (suc k) l = omega (arith, own_from tape ts s k (omega (arith, l)), s.rises k (suc k) (omega arith) l)

-- token indexes rise inside the tape, so no more tokens are shown than it has
pub few_shown : (tape ts : List Fields) → Shows tape ts → length ts ≤ max_tokens
few_shown tape ts s =
    let last : length ts - 1 < length ts = omega (arith, s.ends.non_empty) in
    omega (arith, last, own_from tape ts s (length ts - 1) last, (s.named (length ts - 1) last).inside, s.sound.bounded)

-- outside a tape stands its EOF
pub eof_outside : (tape : List Fields) (i : ℤ) → IsTape tape → Outside i tape → is_eof (tape_at tape i).typ ≡ true
eof_outside tape (pos k) w l = ap (λ j. is_eof (token_at tape j).typ) (capped_past tape k l) ∙ w.ends.last (length tape - 1) (omega (arith, w.ends.non_empty))
eof_outside tape (negsuc k) w l = w.ends.last (length tape - 1) (omega (arith, w.ends.non_empty))
