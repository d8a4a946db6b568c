-- Recover: passing tokens to one that may follow an open rule.
use Rattle.std.specs.Prelude.{ℕ, ◌+◌, Bool, true, false, ◌&&◌, ◌==◌, slice_index_or, slice_set, Option, Some, None, if◌then◌else◌}
use Rattle.atn_graph.specs.Net.{Net}
use Rattle.recovery_model.specs.Calls.{Done}
use Rattle.recovery_model.specs.Sets.{WithinSets, recovery}
use Rattle.recovery_model.specs.Views.{View, place, here, follows}
use Rattle.recovery_model.specs.Passing.{Searched, before, pass, pass_many}
use Rattle.recovery_model.specs.Outcomes.{Outcome, does}

-- the last search began at this place
abbrev pub searched_here : View → Bool
searched_here v = at v.strategy.last_error_index
  where
    at : Option ℕ → Bool
    at None = false
    at (Some p) = p == place v

-- The failsafe: it searched from here already, in this state, and stands here again.
abbrev pub failsafe_applies : View → Bool
failsafe_applies v = searched_here v && slice_index_or v.strategy.last_error_states (here v) false

-- what is passed first where it repeats itself
abbrev pub failsafe : View → View
failsafe v = if failsafe_applies v then pass Searched v else v

-- the place and the state of the search are the last error index and one of the last error states
abbrev pub searching : View → View
searching v = record v { strategy = record v.strategy { last_error_index = Some (place v); last_error_states = slice_set v.strategy.last_error_states (here v) true } }

abbrev pub search_length : Net → WithinSets → View → ℕ
search_length n w v = before (recovery w (follows n v)) v.shown

abbrev pub recover : Net → WithinSets → View → Outcome
recover n w v = let u = searching (failsafe v) in does (pass_many Searched (search_length n w u) u) Done

abbrev pub recover_leaves : Net → WithinSets → View → ℕ
recover_leaves n w v = (if failsafe_applies v then 1 else 0) + search_length n w (failsafe v)
