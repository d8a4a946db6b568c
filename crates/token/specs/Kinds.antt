-- What a token of either kind says of itself, by what its kind keeps of a span.
use Rattle.std.specs.Prelude.{Option}
use Rattle.token.specs.declared.token_type.Span.{Span}
use Rattle.token.specs.declared.common_token.CommonToken.{CommonToken}
use Rattle.token.specs.Tokens.{Fields, token_of}

abbrev pub common_fields : {S : Type 0} → (S → Option Span) → CommonToken S → Fields
common_fields kept t = token_of t.token_type t.channel t.index (t.line, t.column) (kept t.span)
