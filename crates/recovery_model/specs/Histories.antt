-- What has happened so far, told by accepted calls, their answers, the tokens shown and the net's sets, and never by the strategy's state.
-- A history has the latest event first.
use Rattle.std.specs.Prelude.{ℕ, Bool, true, false, not, ◌&&◌, ◌==◌, List, [], ◌∷◌, filter, nat_le, Option, Some, None, is_none, unwrap_or, option_to_list, if◌then◌else◌}
use Rattle.std.specs.List.{flat_map}
use Rattle.atn_graph.specs.Net.{Net, rule_at, state_at}
use Rattle.ll1_analyzer.specs.Chains.{follow_states}
use Rattle.token.specs.Tokens.{Fields, type_number, token_index, is_eof}
use Rattle.token_stream.specs.Tapes.{token_at}
use Rattle.recovery_model.specs.declared.call.Call.{Call}
use Rattle.recovery_model.specs.declared.call.Call.TheVariants.{State, Enter, Leave}
use Rattle.recovery_model.specs.Calls.{Answer, Token, Denied, takes_token, is_sync, is_report, is_recover_call}
use Rattle.recovery_model.specs.Journals.{Event}
use Rattle.recovery_model.specs.Sets.{WithinSets}
use Rattle.recovery_model.specs.Sync.{Choice, Begins, GoesBack, choice}

-- the present state, and the open rules by the states that invoked them, innermost first
pub record Standing : Type 0 where
  pub state : Option ℕ
  pub invoking : List (Option ℕ)

abbrev pub is_accepted : Answer → Bool
is_accepted (Denied d) = false
is_accepted a = true

abbrev pub moved : Net → Call → Standing → Standing
moved n (State s) p = record p { state = Some s }
moved n (Enter r) p = record { state = Some (rule_at n r).start; invoking = p.state ∷ p.invoking }
moved n Leave p = at p.invoking
  where
    at : List (Option ℕ) → Standing
    at [] = p
    at (i ∷ is) = record { state = i; invoking = is }
moved n c p = p

-- Accepted state, enter and leave calls move the parser, and nothing else does.
abbrev pub standing : Net → List Event → Standing
standing n [] = record { state = None; invoking = [] }
standing n (e ∷ h) = if is_accepted e.answer then moved n e.call (standing n h) else standing n h

abbrev pub present : Net → List Event → ℕ
present n h = unwrap_or (standing n h).state 0

-- the follow states of the open rules
abbrev pub open_follows : Net → List Event → List ℕ
open_follows n h = follow_states n (flat_map option_to_list (standing n h).invoking)

-- the tokens that are shown from a place on, of those shown at construction
abbrev pub shown_from : ℕ → List Fields → List Fields
shown_from p ts = filter (λ t. nat_le p (token_index t)) ts

-- the place after the token at p: that of the next token shown, or of EOF itself
abbrev pub next_place : List Fields → ℕ → ℕ
next_place ts p = at (shown_from p ts)
  where
    at : List Fields → ℕ
    at [] = p
    at (t ∷ us) = if is_eof t.typ then p else token_index (token_at us 0)

-- a token of the tape is answered: one that is not a missing symbol
abbrev pub is_of_the_tape : Answer → Bool
is_of_the_tape (Token t) = at t.index
  where
    at : Option ℕ → Bool
    at None = false
    at (Some i) = true
is_of_the_tape a = false

abbrev pub begins_choice : Net → ℕ → Bool
begins_choice n s = at (choice (state_at n s).kind)
  where
    at : Choice → Bool
    at Begins = true
    at c = false

-- The error condition is ended by a call that takes a token and answers one of the tape, and by a sync where a choice begins that passes a
-- token.
abbrev pub ends_error_condition : Net → List Event → Event → Bool
ends_error_condition n h e =
    is_accepted e.answer
    && (if takes_token e.call then is_of_the_tape e.answer else is_sync e.call && (begins_choice n (present n h) && not (e.after == e.before)))

-- a missing symbol is answered
abbrev pub is_missing_symbol : Answer → Bool
is_missing_symbol (Token t) = is_none t.index
is_missing_symbol a = false

-- the state is on the way back of a loop
abbrev pub goes_back : Net → ℕ → Bool
goes_back n s = at (choice (state_at n s).kind)
  where
    at : Choice → Bool
    at GoesBack = true
    at c = false

-- the token first shown at the place may not come in the state, and what comes there may not be nothing
abbrev pub is_unfit : WithinSets → List Fields → ℕ → ℕ → Bool
is_unfit w ts s p = not (w.types s (type_number (token_at (shown_from p ts) 0).typ)) && not (w.end s)

-- A fault is reported, unless there is an error condition already: by a call that takes a token and answers a missing symbol, by a sync on the
-- way back of a loop where the token first shown does not fit, and by a report.
abbrev pub begins_error_condition : Net → WithinSets → List Fields → List Event → Event → Bool
begins_error_condition n w ts h e =
    is_accepted e.answer
    && (if takes_token e.call then is_missing_symbol e.answer
    else if is_sync e.call then goes_back n (present n h) && is_unfit w ts (present n h) e.before
    else is_report e.call)

-- a fault was reported since the error condition was last ended
abbrev pub in_error_condition : Net → WithinSets → List Fields → List Event → Bool
in_error_condition n w ts [] = false
in_error_condition n w ts (e ∷ h) = if ends_error_condition n h e then false else if begins_error_condition n w ts h e then true else in_error_condition n w ts h

abbrev pub is_recover : Event → Bool
is_recover e = is_accepted e.answer && is_recover_call e.call

-- a recover was called in the state since the error condition was last ended
abbrev pub recovered_in : Net → List Event → ℕ → Bool
recovered_in n [] s = false
recovered_in n (e ∷ h) s = if ends_error_condition n h e then false else if is_recover e && (present n h == s) then true else recovered_in n h s

-- From where the latest recover since the error condition was last ended searched, if there was one: from the token first shown at its
-- call, or from the one after it if the failsafe skipped that. The failsafe skips if the recover before it searched from the token
-- now first shown, and one of them was called in the present state.
abbrev pub latest_search : Net → List Fields → List Event → Option ℕ
latest_search n ts [] = None
latest_search n ts (e ∷ h) =
    if ends_error_condition n h e then None
    else if is_recover e then Some (if is_place (latest_search n ts h) e.before && recovered_in n h (present n h) then next_place ts e.before else e.before)
    else latest_search n ts h
  where
    is_place : Option ℕ → ℕ → Bool
    is_place None p = false
    is_place (Some q) p = q == p

abbrev pub skips : Net → List Fields → List Event → Event → Bool
skips n ts h e = at (latest_search n ts h) && recovered_in n h (present n h)
  where
    at : Option ℕ → Bool
    at None = false
    at (Some q) = q == e.before

-- where a recover searches from
abbrev pub searched_from : Net → List Fields → List Event → Event → ℕ
searched_from n ts h e = if skips n ts h e then next_place ts e.before else e.before
