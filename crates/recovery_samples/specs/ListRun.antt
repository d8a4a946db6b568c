-- A run in the list net, in which a pair is saved and a report kept back, call by call.
use Rattle.std.specs.Prelude.{◌≡◌, ℕ, List, [], ◌∷◌, ◌++◌, map, pos, Option, Some, None}
use Rattle.errors.specs.declared.denial.Denial.TheVariants.{WrongSearch}
use Rattle.token.specs.declared.token_type.TokenType.TheVariants.{Of}
use Rattle.leaves.specs.Leaves.{LeafFields as Leaf}
use Rattle.leaves.specs.declared.leaf.LeafKind.TheVariants.{Terminal}
use Rattle.reports.specs.declared.report.Report.{Report as Reported}
use Rattle.reports.specs.declared.report.ReportKind.TheVariants.{NoViableAlternative, InputMismatch as MismatchReport}
use Rattle.recovery_model.specs.declared.call.Call.{Call}
use Rattle.recovery_model.specs.declared.call.Call.TheVariants.{State, Enter, Leave, Match, Sync, Report}
use Rattle.recovery_model.specs.declared.strategy_state.Mode.{Mode}
use Rattle.recovery_model.specs.declared.strategy_state.Mode.TheVariants.{Normal, InErrorRecovery}
use Rattle.recovery_model.specs.Calls.{Answer, InputMismatch, Done, Left, Token, Mismatch, Denied}
use Rattle.recovery_model.specs.Sets.{WithinSets, Agree, no_types}
use Rattle.recovery_model.specs.Views.{Pair}
use Rattle.recovery_model.specs.Outcomes.{Outcome}
use Rattle.recovery_model.specs.Steps.{step}
use Rattle.recovery_model.specs.Journals.{run}
use Rattle.recovery_model.specs.TapeLaw.{New}
use Rattle.recovery_samples.specs.Beginnings.{token, made}
use Rattle.recovery_samples.specs.Seen.{Seen, in_caller, report, seen, trace, types_told}
use Rattle.recovery_samples.specs.ListNet.{list_net, one_or_two, ListNet}

-- the types of the tape before EOF
abbrev pub list_tape : List ℕ
list_tape = 2 ∷ 1 ∷ 1 ∷ []

-- what is seen of a call, and the pair that is saved after it
pub record SeenSaved : Type 0 where
  pub seen : Seen
  pub saved : Option Pair

abbrev pub seen_saved : Outcome → SeenSaved
seen_saved o = record { seen = seen o; saved = o.view.strategy.next_tokens }

-- a call, and what is seen of it
pub record Line : Type 0 where
  pub call : Call
  pub shows : SeenSaved

-- by the call, its answer, the leaves and the place after it, the reports that it gave, and the mode and the saved pair after it
abbrev pub line : Call → Answer → List Leaf → ℕ → List Reported → Mode → Option Pair → Line
line call answer leaves place told mode saved =
    record { call = call; shows = record { seen = record { answer = answer; leaves = leaves; place = place; told = told; mode = mode }; saved = saved } }

-- the pair at the entry of the loop, in a rule that was called at state 1
abbrev pub at_entry : Pair
at_entry = record { state = 5; chain = 1 ∷ [] }

-- the report of the 2, and its leaf
abbrev pub two_reported : Reported
two_reported = report NoViableAlternative (token (Of 2) 0) 0 (Of 0)

abbrev pub two_taken : List Leaf
two_taken = in_caller Terminal (token (Of 2) 0) ∷ []

-- the 1 after it, which does not match, with the pair at the entry of the loop, and its report
abbrev pub one_kept : InputMismatch
one_kept = record { token = token (Of 1) 1; state = 5; chain = 1 ∷ [] }

abbrev pub one_reported : Reported
one_reported = report MismatchReport (token (Of 1) 1) 2 (Of 1)

-- Rule 0 calls rule 1.
abbrev pub calling_rule_1 : List Line
calling_rule_1 =
    line (Enter 0) Done [] 0 [] Normal None
    ∷ line (State 1) Done [] 0 [] Normal None
    ∷ line (Enter 1) Done [] 0 [] Normal None ∷ []

-- Outside repair a sync where the 2 may not come is denied in state 6, where no choice is. In state 5 the rule may end, so the
-- pair there is saved; and in state 7 too, but the pair that was saved before stays.
abbrev pub saving : List Line
saving =
    line (State 6) Done [] 0 [] Normal None
    ∷ line Sync (Denied WrongSearch) [] 0 [] Normal None
    ∷ line (State 5) Done [] 0 [] Normal None
    ∷ line Sync Done [] 0 [] Normal (Some at_entry)
    ∷ line (State 7) Done [] 0 [] Normal (Some at_entry)
    ∷ line Sync Done [] 0 [] Normal (Some at_entry) ∷ []

-- A report begins the error condition, in which a second one is not given and a sync does nothing, in state 6 either.
abbrev pub in_error_condition : List Line
in_error_condition =
    line (Report 1) Done [] 0 (two_reported ∷ []) InErrorRecovery (Some at_entry)
    ∷ line (Report 3) Done [] 0 [] InErrorRecovery (Some at_entry)
    ∷ line (State 6) Done [] 0 [] InErrorRecovery (Some at_entry)
    ∷ line Sync Done [] 0 [] InErrorRecovery (Some at_entry) ∷ []

-- Back in rule 0 the 2 is taken, which ends the error condition, but the pair stays saved. So the 1, which does not match in state 2, is kept
-- with that pair, and not with the parser's own. A sync in state 1, where the 1 may come, clears the saved pair. The report of
-- the mismatch tells what was expected at the pair with which it is kept: a 1 or a 2.
abbrev pub mismatching : List Line
mismatching =
    line Leave (Left 0) [] 0 [] InErrorRecovery (Some at_entry)
    ∷ line (State 2) Done [] 0 [] InErrorRecovery (Some at_entry)
    ∷ line (Match (pos 2)) (Token (token (Of 2) 0)) two_taken 1 [] Normal (Some at_entry)
    ∷ line (Match (pos 2)) (Mismatch one_kept) two_taken 1 [] Normal (Some at_entry)
    ∷ line (State 1) Done two_taken 1 [] Normal (Some at_entry)
    ∷ line Sync Done two_taken 1 [] Normal None
    ∷ line (Report 2) Done two_taken 1 (one_reported ∷ []) InErrorRecovery None ∷ []

abbrev pub list_lines : List Line
list_lines = calling_rule_1 ++ saving ++ in_error_condition ++ mismatching

-- the calls of a new parser, one after the other
abbrev pub list_calls : List Call
list_calls = map (λ l. l.call) list_lines

-- Each call is seen as its line says; and the types that are told.
pub record AsSaid (w : WithinSets) : Type 0 where
  pub lines : trace seen_saved (step list_net w) list_calls (made list_tape) ≡ map (λ l. l.shows) list_lines
  pub input_mismatch : (run list_net w list_calls (made list_tape)).input_mismatch ≡ Some one_kept
  pub types : types_told (step list_net w) list_calls (made list_tape) ≡ no_types ∷ one_or_two ∷ []

-- The run is a new parser's, and goes so whatever decides the within-rule sets of the list net.
pub record ListRun : Type 0 where
  pub net : ListNet
  pub new : New (made list_tape)
  pub goes : (w : WithinSets) → Agree list_net w → AsSaid w
