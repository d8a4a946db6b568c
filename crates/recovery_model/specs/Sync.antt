-- Sync: whether the parser may go on here, and what it does where it may not.
use Rattle.std.specs.Prelude.{ℕ, Bool, true, false, not, ◌&&◌, ◌||◌, ℤ, Some, None, unwrap_or, if◌then◌else◌}
use Rattle.atn_graph.specs.declared.atn_state.StateKind.{StateKind}
use Rattle.atn_graph.specs.declared.atn_state.StateKind.TheVariants.{BlockStart, PlusBlockStart, StarBlockStart, StarLoopEntry, StarLoopBack, PlusLoopBack}
use Rattle.atn_graph.specs.Net.{Net, state_at}
use Rattle.recovery_model.specs.Calls.{Done}
use Rattle.recovery_model.specs.Sets.{WithinSets, recovery}
use Rattle.recovery_model.specs.Views.{View, ahead, here, follows, own_pair}
use Rattle.recovery_model.specs.Passing.{Searched, before, pass_many, in_error_recovery_mode, begin_error_condition, given}
use Rattle.recovery_model.specs.Outcomes.{Outcome, does, telling}
use Rattle.recovery_model.specs.RecoverInline.{expects, is_unwanted, unwanted_token, single_token_deletion, mismatch_at, mismatches}

-- the kinds of states on which a parser may stand before a choice: at the start of a block or the entry of a loop, on the way
-- back of a loop, or neither
pub data Choice : Type 0 where
  Begins : Choice
  GoesBack : Choice
  Neither : Choice

abbrev pub choice : StateKind → Choice
choice BlockStart = Begins
choice PlusBlockStart = Begins
choice StarBlockStart = Begins
choice StarLoopEntry = Begins
choice StarLoopBack = GoesBack
choice PlusLoopBack = GoesBack
choice kind = Neither

abbrev pub choice_here : Net → View → Choice
choice_here n v = choice (state_at n (here v)).kind

-- the current token may come here, or what comes here may be nothing
abbrev pub may_come : WithinSets → View → Bool
may_come w v = w.types (here v) (ahead v 1)

abbrev pub may_be_nothing : WithinSets → View → Bool
may_be_nothing w v = w.end (here v)

-- the types at which a search ends: what is expected, or may follow an open rule
abbrev pub stops_at : Net → WithinSets → View → ℤ → Bool
stops_at n w v x = expects n w v x || recovery w (follows n v) x

-- the token does not fit, so something must be done about it
abbrev pub must_act : WithinSets → View → Bool
must_act w v = not (in_error_recovery_mode v) && not (may_come w v) && not (may_be_nothing w v)

-- where a choice begins one token is deleted if that helps; on the way back of a loop tokens are passed to one that fits
abbrev pub acts : Choice → Net → WithinSets → View → Outcome
acts Begins n w v =
    if is_unwanted n w v then telling (given (unwanted_token n w v) v) (does (single_token_deletion v) Done) else mismatches (mismatch_at (own_pair v) v) v
acts GoesBack n w v =
    telling (given (unwanted_token n w v) v) (does (pass_many Searched (before (stops_at n w v) v.shown) (begin_error_condition v)) Done)
acts Neither n w v = does v Done

-- In error recovery nothing is done. A token that may come clears the saved pair; where nothing may come the pair is saved, unless
-- one is.
abbrev pub sync : Net → WithinSets → View → Outcome
sync n w v =
    if in_error_recovery_mode v then does v Done
    else if may_come w v then does (record v { strategy = record v.strategy { next_tokens = None } }) Done
    else if may_be_nothing w v then does (record v { strategy = record v.strategy { next_tokens = Some (unwrap_or v.strategy.next_tokens (own_pair v)) } }) Done
    else acts (choice_here n v) n w v

abbrev pub act_leaves : Choice → Net → WithinSets → View → ℕ
act_leaves Begins n w v = if is_unwanted n w v then 1 else 0
act_leaves GoesBack n w v = before (stops_at n w v) v.shown
act_leaves Neither n w v = 0

abbrev pub sync_leaves : Net → WithinSets → View → ℕ
sync_leaves n w v = if must_act w v then act_leaves (choice_here n v) n w v else 0

-- a search on a state of another kind
abbrev pub is_misplaced : Net → WithinSets → View → Bool
is_misplaced n w v = must_act w v && at (choice_here n v)
  where
    at : Choice → Bool
    at Begins = false
    at GoesBack = false
    at Neither = true
