-- What is answered about the tape that the rows of a script write.
use Rattle.std.specs.Prelude.{◌≡◌, ◌<◌, ◌||◌, ℕ, Bool, true, false, List, length, nat_lt, Option, Some, None, Result, IfOk}
use Rattle.std.specs.Global.{Vec}
use Rattle.std.specs.List.{list_any}
use Rattle.errors.specs.Denials.{DeniesFirst}
use Rattle.errors.specs.declared.denial.Denial.{Denial}
use Rattle.errors.specs.declared.denial.Denial.TheVariants.{FaultyTape}
use Rattle.token.specs.declared.token_type.Span.{Span}
use Rattle.token.specs.Tokens.{Fields}
use Rattle.token_stream.specs.Tapes.{IsTape, token_at}
use Rattle.token_stream.specs.Streams.{filtered}
use Rattle.script_lines.specs.declared.questions.Ask.{Ask}
use Rattle.script_lines.specs.declared.questions.Ask.TheVariants.{Tokens}
use Rattle.script_lines.specs.declared.options.Show.{Show}
use Rattle.script_lines.specs.declared.options.Show.TheVariants.{All, Channel0}
use Rattle.script_lines.specs.declared.token_rows.TokenRow.{TokenRow}
use Rattle.script.specs.Contents.{Content}
use Rattle.script_lines.specs.TokenRows.{WritesTape}

-- all tokens of the tape, or EOF and those of channel 0
abbrev pub shown_by : Show → List Fields → List Fields
shown_by All tape = tape
shown_by Channel0 tape = filtered tape

-- each token's token index is its place
abbrev pub Numbered : List Fields → Type 0
Numbered ts = (k : ℕ) → k < length ts → (token_at ts k).index ≡ Some k

-- The rows are denied if they write no tape.
abbrev pub RowsFault : {S : Type 0} → (S → Option Span) → List (TokenRow S) → Denial → Type 0
RowsFault kept rows d = (d ≡ FaultyTape) × ((tape : List Fields) → WritesTape kept rows tape → IsTape tape → ⊥)

-- The tokens are those shown of the tape that the rows write.
pub record ShowsRows {S : Type 0} (kept : S → Option Span) (rows : List (TokenRow S)) (show : Show) (tokens : List Fields) : Type 0 where
  pub tape : List Fields
  pub written : WritesTape kept rows tape
  pub sound : IsTape tape
  pub shown : tokens ≡ shown_by show tape

abbrev pub RowsAnswered : {S : Type 0} → (S → Option Span) → List (TokenRow S) → Show → Result (Vec Fields) Denial → Type 0
RowsAnswered kept rows show r = DeniesFirst (RowsFault kept rows) r × IfOk r (λ v. ShowsRows kept rows show v.items)

-- A script has a tape of events if it has a row of one, and else of words.
pub record TapeAnswered (k : Content) (r : Result (Vec Fields) Denial) : Type 0 where
  pub lanes : 0 < length k.lanes → RowsAnswered (λ _. None) k.lanes k.show r
  pub words : length k.lanes ≡ 0 → RowsAnswered Some k.words k.show r

abbrev pub asks_tokens : Ask → Bool
asks_tokens Tokens = true
asks_tokens a = false

abbrev pub has_rows : Content → Bool
has_rows k = nat_lt 0 (length k.words) || nat_lt 0 (length k.lanes)

-- something of the script needs a tape: a row of it, or a question for its tokens
abbrev pub needs_tape : Content → Bool
needs_tape k = has_rows k || list_any (λ q. asks_tokens q.ask) k.questions

-- Only a tape that is needed is checked.
abbrev pub NeededTape : Content → Option (Result (Vec Fields) Denial) → Type 0
NeededTape k None = needs_tape k ≡ false
NeededTape k (Some r) = (needs_tape k ≡ true) × TapeAnswered k r
