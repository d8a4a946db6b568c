-- Runs of calls, and the journal of one.
use Rattle.std.specs.Prelude.{ℕ, List, [], ◌∷◌, ◌++◌}
use Rattle.atn_graph.specs.Net.{Net}
use Rattle.reports.specs.Heard.{Told}
use Rattle.recovery_model.specs.declared.call.Call.{Call}
use Rattle.recovery_model.specs.declared.event.Event.{Event as EventRecord}
use Rattle.recovery_model.specs.Calls.{Answer, answer_of}
use Rattle.recovery_model.specs.Sets.{WithinSets}
use Rattle.recovery_model.specs.Views.{View, place}
use Rattle.recovery_model.specs.Outcomes.{Outcome}
use Rattle.recovery_model.specs.Steps.{step}

-- a call, what it answered, and the token indexes of the first token shown before it and after it
pub record Event : Type 0 where
  pub call : Call
  pub answer : Answer
  pub before : ℕ
  pub after : ℕ

abbrev pub event_of : EventRecord → Event
event_of e = record { call = e.call; answer = answer_of e.answer; before = e.before; after = e.after }

-- what calls do, by any rule
abbrev pub Machine : Type 0
Machine = Call → View → Outcome

abbrev pub event_by : Machine → Call → View → Event
event_by m c v = record { call = c; answer = (m c v).answer; before = place v; after = place (m c v).view }

-- what the calls leave, one after the other
abbrev pub run_of : Machine → List Call → View → View
run_of m [] v = v
run_of m (c ∷ cs) v = run_of m cs (m c v).view

abbrev pub journal_of : Machine → List Call → View → List Event
journal_of m [] v = []
journal_of m (c ∷ cs) v = event_by m c v ∷ journal_of m cs (m c v).view

-- what the listener is told
abbrev pub told_of_run : Machine → List Call → View → List Told
told_of_run m [] v = []
told_of_run m (c ∷ cs) v = (m c v).told ++ told_of_run m cs (m c v).view

-- the same of the parser
abbrev pub event : Net → WithinSets → Call → View → Event
event n w = event_by (step n w)

abbrev pub run : Net → WithinSets → List Call → View → View
run n w = run_of (step n w)

abbrev pub journal : Net → WithinSets → List Call → View → List Event
journal n w = journal_of (step n w)

abbrev pub told_in : Net → WithinSets → List Call → View → List Told
told_in n w = told_of_run (step n w)
