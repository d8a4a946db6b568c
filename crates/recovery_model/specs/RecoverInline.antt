-- Matching a token, and inline recovery where it does not match.
use Rattle.std.specs.Prelude.{ℕ, ◌-◌, Bool, ℤ, negsuc, Some, None, if◌then◌else◌, get_or, unwrap_or}
use Rattle.atn_graph.specs.Net.{Net, no_edge, edges_of}
use Rattle.leaves.specs.declared.leaf.LeafKind.TheVariants.{Error}
use Rattle.reports.specs.declared.report.ReportKind.TheVariants.{UnwantedToken, MissingToken}
use Rattle.reports.specs.Heard.{Told}
use Rattle.reports.specs.Reports.{smallest_type}
use Rattle.token.specs.declared.token_type.Span.{Span}
use Rattle.token.specs.Tokens.{Fields, is_eof, kept_span}
use Rattle.token_stream.specs.Tapes.{token_at}
use Rattle.recovery_model.specs.Calls.{InputMismatch, Token, Mismatch}
use Rattle.recovery_model.specs.Sets.{WithinSets, expected}
use Rattle.recovery_model.specs.Views.{View, Pair, current, place, ahead, here, follows, own_pair}
use Rattle.recovery_model.specs.Passing.{Taken, Deleted, add, pass, told_of, begin_error_condition, given, end_error_condition}
use Rattle.recovery_model.specs.Outcomes.{Outcome, does, telling}

-- the types that are expected here, by the state and the open rules
abbrev pub expects : Net → WithinSets → View → ℤ → Bool
expects n w v = expected w (here v) (follows n v)

-- where the state's first edge leads
abbrev pub next_state : Net → ℕ → ℕ
next_state n s = (get_or (edges_of n s) 0 no_edge).target

-- A token is unwanted: the token after the current one is what is expected.
abbrev pub is_unwanted : Net → WithinSets → View → Bool
is_unwanted n w v = expects n w v (ahead v 2)

-- A token is missing: the current one is what may come after it.
abbrev pub is_missing : Net → WithinSets → View → Bool
is_missing n w v = expected w (next_state n (here v)) (follows n v) (ahead v 1)

-- the token whose position a missing symbol takes: the current one, or the token before the end of the input
abbrev pub near : View → Fields
near v = if is_eof (current v).typ then token_at v.tape (place v - 1) else current v

abbrev pub nowhere : Span
nowhere = record { start = negsuc 0; stop = negsuc 0 }

-- The missing symbol: a token of the smallest expected type.
abbrev pub missing_symbol : Net → WithinSets → View → Fields
missing_symbol n w v = record { typ = smallest_type (expects n w v); channel = 0; index = None; position = (near v).position; span = kept_span v.has_span nowhere }

-- what is told of an unwanted token, and of a missing one
abbrev pub unwanted_token : Net → WithinSets → View → Told
unwanted_token n w v = told_of UnwantedToken (current v) (expects n w v)

abbrev pub missing_token : Net → WithinSets → View → Told
missing_token n w v = told_of MissingToken (current v) (expects n w v)

-- The error condition is begun by the report of the current token, which is passed, and ended.
abbrev pub single_token_deletion : View → View
single_token_deletion v = end_error_condition (pass Deleted (begin_error_condition v))

-- The error condition is begun by the report of the missing token, which becomes an error leaf.
abbrev pub single_token_insertion : Net → WithinSets → View → View
single_token_insertion n w v = add Error (missing_symbol n w v) (begin_error_condition v)

-- The current token is a mismatch at that pair, and is the latest from then on.
abbrev pub mismatch_at : Pair → View → InputMismatch
mismatch_at p v = record { token = current v; state = p.state; chain = p.chain }

abbrev pub mismatches : InputMismatch → View → Outcome
mismatches m v = does (record v { input_mismatch = Some m }) (Mismatch m)

-- The current token is passed and answered.
abbrev pub take_token : View → Outcome
take_token v = does (pass Taken v) (Token (current v))

abbrev pub recover_inline : Net → WithinSets → View → Outcome
recover_inline n w v =
    if is_unwanted n w v then telling (given (unwanted_token n w v) v) (take_token (single_token_deletion v))
    else if is_missing n w v then telling (given (missing_token n w v) v) (does (single_token_insertion n w v) (Token (missing_symbol n w v)))
    else mismatches (mismatch_at (unwrap_or v.strategy.next_tokens (own_pair v)) v) v

-- how many leaves inline recovery adds
abbrev pub recover_inline_leaves : Net → WithinSets → View → ℕ
recover_inline_leaves n w v = if is_unwanted n w v then 2 else if is_missing n w v then 1 else 0

-- A token that is what is asked for ends the error condition and is taken; for any other the parser recovers inline.
abbrev pub matched : Bool → Net → WithinSets → View → Outcome
matched fit n w v = if fit then take_token (end_error_condition v) else recover_inline n w v

abbrev pub match_leaves : Bool → Net → WithinSets → View → ℕ
match_leaves fit n w v = if fit then 1 else recover_inline_leaves n w v
