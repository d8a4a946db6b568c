-- What each call does, answers and tells.
use Rattle.std.specs.Prelude.{◌≡◌, ℕ, ◌==◌, List, [], ◌∷◌, Option, Some, None, if◌then◌else◌}
use Rattle.errors.specs.declared.denial.Denial.{Denial}
use Rattle.atn_graph.specs.Net.{Net, rule_at}
use Rattle.ll1_analyzer.specs.Chains.{follow_states}
use Rattle.reports.specs.declared.report.ReportKind.TheVariants.{NoViableAlternative, InputMismatch as MismatchReport, FailedPredicate}
use Rattle.reports.specs.Heard.{Told}
use Rattle.recovery_model.specs.declared.call.Call.{Call}
use Rattle.recovery_model.specs.declared.call.Call.TheVariants.{State, Enter, Leave, Match, Wildcard, Sync, Report, Recover}
use Rattle.recovery_model.specs.declared.open_rule.OpenRule.{OpenRule}
use Rattle.recovery_model.specs.Calls.{InputMismatch, Done, Left, Denied, fits}
use Rattle.recovery_model.specs.Sets.{WithinSets, expected, no_types}
use Rattle.recovery_model.specs.Views.{View, current, ahead}
use Rattle.recovery_model.specs.Passing.{told_of, begin_error_condition, given}
use Rattle.recovery_model.specs.Outcomes.{Outcome, does, telling}
use Rattle.recovery_model.specs.RecoverInline.{matched}
use Rattle.recovery_model.specs.Sync.{sync}
use Rattle.recovery_model.specs.Recover.{recover}
use Rattle.recovery_model.specs.Denials.{denial}

-- The rule is opened, with the state as its invoking state, and its start state is set.
abbrev pub entered : Net → ℕ → View → View
entered n r v = record v { state = Some (rule_at n r).start; open_rules = record { rule = r; invoking = v.state; leaves = 0 } ∷ v.open_rules }

-- The innermost rule is closed, and its invoking state restored; it is answered how many leaves were added to it.
abbrev pub left : View → Outcome
left v = at v.open_rules
  where
    at : List OpenRule → Outcome
    at [] = does v Done
    at (o ∷ os) = does (record v { state = o.invoking; open_rules = os }) (Left o.leaves)

-- what is told of the latest input mismatch: the types that were expected where it arose
abbrev pub mismatched : Net → WithinSets → InputMismatch → Told
mismatched n w m = told_of MismatchReport m.token (expected w m.state (follow_states n m.chain))

abbrev pub reporting : Told → View → Outcome
reporting t v = telling (given t v) (does (begin_error_condition v) Done)

-- Kind 1 is no viable alternative, 2 the latest input mismatch, 3 a failed predicate. Kinds 1 and 3 tell no expected types.
abbrev pub reports : Net → WithinSets → ℕ → View → Outcome
reports n w k v =
    if k == 2 then at v.input_mismatch
    else reporting (told_of (if k == 1 then NoViableAlternative else FailedPredicate) (current v) no_types) v
  where
    at : Option InputMismatch → Outcome
    at None = does v Done
    at (Some m) = reporting (mismatched n w m) v

-- what an accepted call does
abbrev pub accepted : Net → WithinSets → Call → View → Outcome
accepted n w (State s) v = does (record v { state = Some s }) Done
accepted n w (Enter r) v = does (entered n r v) Done
accepted n w Leave v = left v
accepted n w (Match t) v = matched (fits (Match t) (ahead v 1)) n w v
accepted n w Wildcard v = matched (fits Wildcard (ahead v 1)) n w v
accepted n w Sync v = sync n w v
accepted n w (Report k) v = reports n w k v
accepted n w Recover v = recover n w v

-- what a denied call does: nothing
abbrev pub refused : Denial → View → View
refused d v = v

abbrev pub step : Net → WithinSets → Call → View → Outcome
step n w c v = at (denial n w c v)
  where
    at : Option Denial → Outcome
    at None = accepted n w c v
    at (Some d) = does (refused d v) (Denied d)

-- A call that is denied leaves the whole view, and tells nothing.
pub record DeniedLeavesAll (n : Net) (w : WithinSets) (c : Call) (v : View) : Type 0 where
  pub view : (d : Denial) → (step n w c v).answer ≡ Denied d → (step n w c v).view ≡ v
  pub told : (d : Denial) → (step n w c v).answer ≡ Denied d → (step n w c v).told ≡ []
