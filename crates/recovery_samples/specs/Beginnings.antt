-- New parsers over tapes of given types, and what is seen of where a parser stands.
use Rattle.std.specs.Prelude.{ℕ, ◌+◌, List, [], ◌∷◌, map, Option, Some, None, false}
use Rattle.token.specs.declared.token_type.TokenType.{TokenType}
use Rattle.token.specs.declared.token_type.TokenType.TheVariants.{Eof, Of}
use Rattle.token.specs.Tokens.{Fields}
use Rattle.recovery_model.specs.Views.{View, place, new_strategy_state}

-- the token of that type at place k of a tape, in line 1
abbrev pub token : TokenType → ℕ → Fields
token t k = record { typ = t; channel = 0; index = Some k; position = (1, k); span = None }

-- the tokens of these types from place k on, and EOF
abbrev pub tokens : ℕ → List ℕ → List Fields
tokens k [] = token Eof k ∷ []
tokens k (t ∷ ts) = token (Of t) k ∷ tokens (k + 1) ts

-- A parser that was just made, over the tape of these types: the whole tape is shown, and nine leaves are free.
abbrev pub made : List ℕ → View
made types = record {
  tape = tokens 0 types;
  shown = tokens 0 types;
  leaves = [];
  free = 9;
  state = None;
  open_rules = [];
  strategy = new_strategy_state;
  input_mismatch = None;
  has_span = false;
}

-- where a parser stands: the place of the first token shown, the state, and the states that invoked the open rules, innermost
-- first
pub record Stand : Type 0 where
  pub place : ℕ
  pub state : Option ℕ
  pub invoking : List (Option ℕ)

abbrev pub stand : View → Stand
stand v = record { place = place v; state = v.state; invoking = map (λ o. o.invoking) v.open_rules }
