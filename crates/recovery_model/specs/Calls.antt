-- The calls and what they answer, by their numbers.
use Rattle.std.specs.Prelude.{ℕ, Bool, true, false, ◌==◌, List, [], ◌∷◌, ◌++◌, map, ℤ, pos, int_lt}
use Rattle.std.specs.Ordering.{int_eq}
use Rattle.errors.specs.declared.denial.Denial.{Denial}
use Rattle.errors.specs.Denials.{denial_number}
use Rattle.fixed_vec.specs.Items.{items}
use Rattle.token.specs.Tokens.{Fields, type_number, index_number}
use Rattle.recovery_model.specs.declared.call.Call.{Call}
use Rattle.recovery_model.specs.declared.call.Call.TheVariants.{State, Enter, Leave, Match, Wildcard, Sync, Report, Recover}
use Rattle.recovery_model.specs.declared.answer.Mismatch.{Mismatch as MismatchAnswer}
use Rattle.recovery_model.specs.declared.answer.Answer.{Answer as AnswerRecord}
use Rattle.recovery_model.specs.declared.answer.Answer.TheVariants as answer

abbrev pub call_number : Call → ℕ
call_number (State s) = 1
call_number (Enter r) = 2
call_number Leave = 3
call_number (Match t) = 4
call_number Wildcard = 5
call_number Sync = 6
call_number (Report k) = 7
call_number Recover = 8

-- Match and wildcard take a token.
abbrev pub takes_token : Call → Bool
takes_token (State s) = false
takes_token (Enter r) = false
takes_token Leave = false
takes_token (Match t) = true
takes_token Wildcard = true
takes_token Sync = false
takes_token (Report k) = false
takes_token Recover = false

-- whether a token of the type is what the call asks for: match asks for one type, wildcard for any above 0
abbrev pub fits : Call → ℤ → Bool
fits (State s) x = false
fits (Enter r) x = false
fits Leave x = false
fits (Match t) x = int_eq x t
fits Wildcard x = int_lt (pos 0) x
fits Sync x = false
fits (Report k) x = false
fits Recover x = false

abbrev pub is_sync : Call → Bool
is_sync c = call_number c == 6

abbrev pub is_report : Call → Bool
is_report c = call_number c == 7

abbrev pub is_recover_call : Call → Bool
is_recover_call c = call_number c == 8

-- a token that did not match, and where the parser stood: its state, and the invoking states of its open rules
pub record InputMismatch : Type 0 where
  pub token : Fields
  pub state : ℕ
  pub chain : List ℕ

abbrev pub input_mismatch : MismatchAnswer → InputMismatch
input_mismatch m = record { token = m.token; state = m.state; chain = items m.chain }

-- what a call answers
pub data Answer : Type 0 where
  Done : Answer
  Left : ℕ → Answer
  Token : Fields → Answer
  Mismatch : InputMismatch → Answer
  Denied : Denial → Answer

abbrev pub answer_of : AnswerRecord → Answer
answer_of answer.Done = Done
answer_of (answer.Left n) = Left n
answer_of (answer.Token t) = Token t
answer_of (answer.Mismatch m) = Mismatch (input_mismatch m)
answer_of (answer.Denied d) = Denied d

abbrev pub answer_number : Answer → ℕ
answer_number Done = 1
answer_number (Left n) = 2
answer_number (Token t) = 3
answer_number (Mismatch m) = 4
answer_number (Denied d) = 5

-- type, token index, line and column
abbrev pub token_values : Fields → List ℤ
token_values t = type_number t.typ ∷ index_number t.index ∷ pos t.position.0 ∷ pos t.position.1 ∷ []

-- the values of an answer: of a mismatch the token's, the state and the chain
abbrev pub answer_values : Answer → List ℤ
answer_values Done = []
answer_values (Left n) = pos n ∷ []
answer_values (Token t) = token_values t
answer_values (Mismatch m) = token_values m.token ++ pos m.state ∷ map pos m.chain
answer_values (Denied d) = pos (denial_number d) ∷ []
