-- When a call is denied, and with what. The first in the order of denials is answered.
use Rattle.std.specs.Prelude.{◌≡◌, ℕ, Bool, true, false, Contains, not, ◌&&◌, ◌||◌, ◌==◌, nat_lt, List, [], ◌∷◌, length, ℤ, pos, negsuc, int_lt, Option, Some, None, is_none, if◌then◌else◌}
use Rattle.errors.specs.declared.denial.Denial.{Denial}
use Rattle.errors.specs.Denials.{First}
use Rattle.errors.specs.declared.denial.Denial.TheVariants.{OutsideLimits, NoRuleOpen, StateOutside, WrongRule, TooManyRules, NoLeafFree, WrongSearch, WrongReport}
use Rattle.atn_graph.specs.declared.transition.Transition.{Transition}
use Rattle.atn_graph.specs.declared.transition.TransitionKind.{TransitionKind}
use Rattle.atn_graph.specs.declared.transition.TransitionKind.TheVariants.{Rule}
use Rattle.atn_graph.specs.Kinds.{is_stop}
use Rattle.atn_graph.specs.Net.{Net, size, state_at, edges_of}
use Rattle.recovery_model.specs.declared.call.Call.{Call}
use Rattle.recovery_model.specs.declared.call.Call.TheVariants.{State, Enter, Leave, Match, Wildcard, Sync, Report, Recover}
use Rattle.recovery_model.specs.Sets.{WithinSets}
use Rattle.recovery_model.specs.Views.{View, here, ahead}
use Rattle.recovery_model.specs.Passing.{innermost}
use Rattle.recovery_model.specs.Calls.{fits}
use Rattle.recovery_model.specs.RecoverInline.{match_leaves}
use Rattle.recovery_model.specs.Sync.{sync_leaves, is_misplaced}
use Rattle.recovery_model.specs.Recover.{recover_leaves}

abbrev pub none_open : View → Bool
none_open v = length v.open_rules == 0

-- the state is none of the net's, not of the innermost rule, or a stop state
abbrev pub is_elsewhere : Net → ℕ → View → Bool
is_elsewhere n s v = not (nat_lt s (size n)) || not ((state_at n s).rule == innermost v.open_rules) || is_stop (state_at n s).kind

-- an edge that calls the rule
abbrev pub first_calls : ℕ → List Transition → Bool
first_calls r [] = false
first_calls r (e ∷ es) = at e.kind
  where
    at : TransitionKind → Bool
    at (Rule q follow) = q == r
    at kind = false

abbrev pub is_called : Net → ℕ → View → Bool
is_called n r v = first_calls r (edges_of n (here v))

-- a type is -1, which is EOF, or 0 to 255
abbrev pub is_token_type : ℤ → Bool
is_token_type t = not (int_lt t (negsuc 0)) && not (int_lt (pos 255) t)

abbrev pub may_report : ℕ → View → Bool
may_report k v = (k == 1) || (k == 3) || ((k == 2) && not (is_none v.input_mismatch))

-- more leaves are needed than are free
abbrev pub too_few : ℕ → View → Bool
too_few needed v = nat_lt v.free needed

-- the denials that a call may meet, in their order, and when each fits
abbrev pub faults : Net → WithinSets → Call → View → List (Denial × Bool)
faults n w (State s) v = (NoRuleOpen, none_open v) ∷ (StateOutside, is_elsewhere n s v) ∷ []
faults n w (Enter r) v = (OutsideLimits, not (nat_lt r (length n.rules))) ∷ (WrongRule, not (none_open v) && not (is_called n r v)) ∷ (TooManyRules, length v.open_rules == 64) ∷ []
faults n w Leave v = (NoRuleOpen, none_open v) ∷ []
faults n w (Match t) v = (OutsideLimits, not (is_token_type t)) ∷ (NoRuleOpen, none_open v) ∷ (NoLeafFree, too_few (match_leaves (fits (Match t) (ahead v 1)) n w v) v) ∷ []
faults n w Wildcard v = (NoRuleOpen, none_open v) ∷ (NoLeafFree, too_few (match_leaves (fits Wildcard (ahead v 1)) n w v) v) ∷ []
faults n w Sync v = (NoRuleOpen, none_open v) ∷ (NoLeafFree, too_few (sync_leaves n w v) v) ∷ (WrongSearch, is_misplaced n w v) ∷ []
faults n w (Report k) v = (NoRuleOpen, none_open v) ∷ (WrongReport, not (may_report k v)) ∷ []
faults n w Recover v = (NoRuleOpen, none_open v) ∷ (NoLeafFree, too_few (recover_leaves n w v) v) ∷ []

abbrev pub first_fault : List (Denial × Bool) → Option Denial
first_fault [] = None
first_fault (f ∷ fs) = if f.1 then Some f.0 else first_fault fs

abbrev pub denial : Net → WithinSets → Call → View → Option Denial
denial n w c v = first_fault (faults n w c v)

-- the call meets the denial
abbrev pub Meets : Net → WithinSets → Call → View → Denial → Type 0
Meets n w c v d = Contains (faults n w c v) (d, true)

-- What a call is denied with is the first of those that it meets, in the order of denials.
pub record DeniedWithFirst (n : Net) (w : WithinSets) (c : Call) (v : View) : Type 0 where
  pub denied : (d : Denial) → denial n w c v ≡ Some d → First (Meets n w c v) d
  pub first : (d : Denial) → First (Meets n w c v) d → denial n w c v ≡ Some d
  pub accepted : denial n w c v ≡ None → (d : Denial) → Meets n w c v d → ⊥
