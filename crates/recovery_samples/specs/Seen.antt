-- What is seen of the calls of a worked example.
use Rattle.std.specs.Prelude.{ℕ, List, [], ◌∷◌, map, Bool, ℤ, pos, ◌||◌}
use Rattle.std.specs.Ordering.{int_eq}
use Rattle.ll1_analyzer.specs.Sets.{eof}
use Rattle.token.specs.declared.token_type.TokenType.{TokenType}
use Rattle.token.specs.Tokens.{Fields}
use Rattle.leaves.specs.declared.leaf.LeafKind.{LeafKind}
use Rattle.reports.specs.declared.report.Report.{Report}
use Rattle.reports.specs.declared.report.ReportKind.{ReportKind}
use Rattle.leaves.specs.Leaves.{LeafFields as Leaf}
use Rattle.recovery_model.specs.declared.call.Call.{Call}
use Rattle.recovery_model.specs.Calls.{Answer}
use Rattle.recovery_model.specs.Views.{View, place}
use Rattle.recovery_model.specs.Outcomes.{Outcome}
use Rattle.recovery_model.specs.Journals.{Machine, told_of_run}
use Rattle.recovery_model.specs.declared.strategy_state.Mode.{Mode}

-- the leaf of a token, by how many rules are open and the innermost of them
abbrev pub leaf : ℕ → ℕ → LeafKind → Fields → Leaf
leaf depth rule kind t = record { kind = kind; depth = depth; rule = rule; typ = t.typ; index = t.index; line = t.position.0; column = t.position.1 }

-- in rule 1, which rule 0 called; in rule 1 alone; and in rule 0
abbrev pub in_called : LeafKind → Fields → Leaf
in_called = leaf 2 1

abbrev pub in_outermost : LeafKind → Fields → Leaf
in_outermost = leaf 1 1

abbrev pub in_caller : LeafKind → Fields → Leaf
in_caller = leaf 1 0

-- the report of a token where so many types were expected, and the smallest of them was this
abbrev pub report : ReportKind → Fields → ℕ → TokenType → Report
report kind t expected smallest = record { kind = kind; index = t.index; line = t.position.0; column = t.position.1; expected = expected; smallest = smallest }

-- what is seen of a call: its answer, the leaves and the place after it, the reports that it gave, and the mode after it
pub record Seen : Type 0 where
  pub answer : Answer
  pub leaves : List Leaf
  pub place : ℕ
  pub told : List Report
  pub mode : Mode

abbrev pub seen : Outcome → Seen
seen o = record { answer = o.answer; leaves = o.view.leaves; place = place o.view; told = map (λ t. t.report) o.told; mode = o.view.strategy.mode }

-- what is seen of some calls, one after the other
abbrev pub trace : {S : Type 0} → (Outcome → S) → Machine → List Call → View → List S
trace sees m [] v = []
trace sees m (c ∷ cs) v = sees (m c v) ∷ trace sees m cs (m c v).view

-- the types that were told with the reports of some calls, as tests
abbrev pub types_told : Machine → List Call → View → List (ℤ → Bool)
types_told m cs v = map (λ t. t.types) (told_of_run m cs v)

-- one type, and what may come at the pass net's loop: EOF, or a 1
abbrev pub only : ℤ → ℤ → Bool
only t x = int_eq x t

abbrev pub end_or_one : ℤ → Bool
end_or_one x = int_eq x eof || int_eq x (pos 1)
