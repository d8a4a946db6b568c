-- What a call does, answers and tells.
use Rattle.std.specs.Prelude.{List, []}
use Rattle.reports.specs.Heard.{Told}
use Rattle.recovery_model.specs.Calls.{Answer}
use Rattle.recovery_model.specs.Views.{View}

-- what there is to see after a call, what it answers, and what the listener is told
pub record Outcome : Type 0 where
  pub view : View
  pub answer : Answer
  pub told : List Told

abbrev pub does : View → Answer → Outcome
does v a = record { view = v; answer = a; told = [] }

-- the same, and the listener is told these
abbrev pub telling : List Told → Outcome → Outcome
telling ts o = record o { told = ts }
