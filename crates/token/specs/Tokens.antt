-- What a token says of itself.
use Rattle.std.specs.Prelude.{ℕ, Bool, true, false, ℤ, pos, negsuc, Option, Some, None, unwrap_or, if◌then◌else◌}
use Rattle.token.specs.declared.token_type.TokenType.{TokenType}
use Rattle.token.specs.declared.token_type.TokenType.TheVariants.{Eof, Of}
use Rattle.token.specs.declared.token_type.Span.{Span}

-- All that a token of any kind says of itself. A token that was made up has no token index, and a kind may
-- have no start and stop.
pub record Fields : Type 0 where
  pub typ : TokenType
  pub channel : ℕ
  pub index : Option ℕ
  pub position : ℕ × ℕ
  pub span : Option Span

-- the token with these fields
abbrev pub token_of : TokenType → ℕ → Option ℕ → ℕ × ℕ → Option Span → Fields
token_of typ channel index position span =
    record { typ = typ; channel = channel; index = index; position = position; span = span }

-- the number of a type, and of an token index
abbrev pub type_number : TokenType → ℤ
type_number Eof = negsuc 0
type_number (Of n) = pos n

abbrev pub index_number : Option ℕ → ℤ
index_number None = negsuc 0
index_number (Some i) = pos i

abbrev pub is_eof : TokenType → Bool
is_eof Eof = true
is_eof (Of n) = false

-- the largest line, and the largest column, of a token of a tape
abbrev pub max_position : ℕ
max_position = 1000000

-- the token index of a token of a tape
abbrev pub token_index : Fields → ℕ
token_index f = unwrap_or f.index 0

-- the start and stop that a token has, of those asked for, if its kind has them
abbrev pub kept_span : Bool → Span → Option Span
kept_span has s = if has then Some s else None
