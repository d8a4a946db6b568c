-- What token the row of a script writes.
use Rattle.std.specs.Prelude.{◌≡◌, ◌≤◌, List, ℤ, pos, Option, MatchOption}
use Rattle.std.specs.List.{AllZip}
use Rattle.token.specs.declared.token_type.Span.{Span}
use Rattle.token.specs.declared.token_type.TokenType.{TokenType}
use Rattle.token.specs.declared.token_type.TokenType.TheVariants.{Eof, Of}
use Rattle.token.specs.declared.common_token.CommonToken.{CommonToken}
use Rattle.token.specs.Kinds.{common_fields}
use Rattle.token.specs.Tokens.{Fields, type_number}
use Rattle.script_lines.specs.declared.token_rows.TokenRow.{TokenRow}

-- a type is EOF or 0 to 255
abbrev pub TypeFits : TokenType → Type 0
TypeFits Eof = Unit {0}
TypeFits (Of n) = n ≤ 255

-- The token has the row's numbers, and keeps of its span what its kind keeps. A row says nothing of the token index.
pub record WritesToken {S : Type 0} (kept : S → Option Span) (row : TokenRow S) (t : Fields) : Type 0 where
  pub type_fits : TypeFits t.typ
  pub typ : type_number t.typ ≡ row.token_type
  pub channel_fits : t.channel ≤ 255
  pub channel : pos t.channel ≡ row.channel
  pub line : pos t.position.0 ≡ row.line
  pub column : pos t.position.1 ≡ row.column
  pub span : t.span ≡ kept row.span

-- the type with the number; none where no type has it
abbrev pub TypeRead : ℤ → Option TokenType → Type 0
TypeRead n r = MatchOption r ((t : TokenType) → TypeFits t → type_number t ≡ n → ⊥) (λ t. TypeFits t × (type_number t ≡ n))

-- the token that the row writes; none where it writes none
abbrev pub TokenRead : {S : Type 0} → (S → Option Span) → TokenRow S → Option (CommonToken S) → Type 0
TokenRead kept row r = MatchOption r ((t : Fields) → WritesToken kept row t → ⊥) (λ t. WritesToken kept row (common_fields kept t))

-- The rows write the tokens, one each, in their order.
abbrev pub WritesTape : {S : Type 0} → (S → Option Span) → List (TokenRow S) → List Fields → Type 0
WritesTape kept = AllZip (WritesToken kept)
