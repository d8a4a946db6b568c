-- What a stream shows, and what its questions answer.
use Rattle.std.specs.Prelude.{◌≡◌, ℕ, ◌-◌, ◌<◌, ◌≤◌, Bool, ◌||◌, List, [], ◌∷◌, length, ℤ, pos, negsuc, filter, Some, ◌==◌, if◌then◌else◌, nat_lt}
use Rattle.token.specs.Tokens.{Fields, is_eof, token_index}
use Rattle.token_stream.specs.Tapes.{token_at, EndsInEof, IsTape}

-- the token's token index names it on the tape
pub record Named (tape : List Fields) (t : Fields) : Type 0 where
  pub index : t.index ≡ Some (token_index t)
  pub inside : token_index t < length tape
  pub same : token_at tape (token_index t) ≡ t

-- The law of streams: the tape is one; what is shown ends in EOF, token indexes rise strictly, and each names that token of the
-- tape.
pub record Shows (tape shown : List Fields) : Type 0 where
  pub sound : IsTape tape
  pub ends : EndsInEof shown
  pub rises : (j k : ℕ) → j < k → k < length shown → token_index (token_at shown j) < token_index (token_at shown k)
  pub named : (k : ℕ) → k < length shown → Named tape (token_at shown k)

-- What every question leaves as it was: the tape, and what is shown.
pub record KeepsShown {S : Type 0} (tape shown : S → List Fields) (old new : S) : Type 0 where
  pub same_tape : tape new ≡ tape old
  pub same_shown : shown new ≡ shown old

-- place k of a list, or the last place
abbrev pub capped : ℕ → List Fields → ℕ
capped k ts = if nat_lt k (length ts) then k else length ts - 1

-- which place of the list the k-th token ahead is, counted from 1; below 1 counts as 1, and past the end the last is shown
abbrev pub ahead : ℤ → List Fields → ℕ
ahead (pos k) ts = capped (k - 1) ts
ahead (negsuc k) ts = 0

-- the k-th token that is shown
abbrev pub shown_at : List Fields → ℤ → Fields
shown_at ts k = token_at ts (ahead k ts)

-- no place of the list has that number
abbrev pub Outside : ℤ → List Fields → Type 0
Outside (pos k) ts = length ts ≤ k
Outside (negsuc k) ts = Unit {0}

-- the token at a place of the tape; outside it the last, which is EOF
abbrev pub tape_at : List Fields → ℤ → Fields
tape_at ts (pos k) = token_at ts (capped k ts)
tape_at ts (negsuc k) = token_at ts (length ts - 1)

-- the first token is passed, but never EOF
abbrev pub passed : List Fields → List Fields
passed [] = []
passed (t ∷ ts) = if is_eof t.typ then t ∷ ts else ts

-- a filter shows EOF and the tokens of channel 0
abbrev pub visible : Fields → Bool
visible t = is_eof t.typ || t.channel == 0

abbrev pub filtered : List Fields → List Fields
filtered ts = filter visible ts
