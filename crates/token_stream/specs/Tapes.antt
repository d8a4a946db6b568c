-- Tapes of tokens.
use Rattle.std.specs.Prelude.{◌≡◌, ℕ, ◌+◌, ◌<◌, ◌≤◌, true, false, List, length, slice_index_or, Some, None}
use Rattle.errors.specs.declared.denial.Denial.{Denial}
use Rattle.errors.specs.declared.denial.Denial.TheVariants.{FaultyTape}
use Rattle.token.specs.declared.token_type.TokenType.TheVariants.{Eof}
use Rattle.token.specs.Tokens.{Fields, is_eof, max_position}

-- what stands past the end of a list
abbrev pub no_token : Fields
no_token = record { typ = Eof; channel = 0; index = None; position = (0, 0); span = None }

abbrev pub token_at : List Fields → ℕ → Fields
token_at ts k = slice_index_or ts k no_token

-- the token at place k: its token index is its place, and its line and column are at most 1,000,000
pub record Placed (t : Fields) (k : ℕ) : Type 0 where
  pub index : t.index ≡ Some k
  pub line : t.position.0 ≤ max_position
  pub column : t.position.1 ≤ max_position

-- EOF stands last and nowhere else.
pub record EndsInEof (ts : List Fields) : Type 0 where
  pub non_empty : 0 < length ts
  pub last : (k : ℕ) → k + 1 ≡ length ts → is_eof (token_at ts k).typ ≡ true
  pub before : (k : ℕ) → k + 1 < length ts → is_eof (token_at ts k).typ ≡ false

-- how many tokens a tape has at most
abbrev pub max_tokens : ℕ
max_tokens = 65535

-- A tape has 1 to 65,535 tokens, ends in its one EOF, and each token is in its place.
pub record IsTape (tape : List Fields) : Type 0 where
  pub bounded : length tape ≤ max_tokens
  pub ends : EndsInEof tape
  pub placed : (k : ℕ) → k < length tape → Placed (token_at tape k) k

abbrev pub TapeFault : List Fields → Denial → Type 0
TapeFault tape FaultyTape = IsTape tape → ⊥
TapeFault tape _ = ⊥
