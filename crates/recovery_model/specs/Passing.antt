-- Passing tokens, and reporting.
use Rattle.std.specs.Prelude.{ℕ, zero, suc, ◌+◌, ◌-◌, min, Bool, true, false, ◌||◌, List, [], ◌∷◌, ◌++◌, length, ℤ, None, if◌then◌else◌}
use Rattle.token.specs.Tokens.{Fields, type_number, is_eof}
use Rattle.token_stream.specs.Streams.{passed}
use Rattle.leaves.specs.declared.leaf.LeafKind.{LeafKind}
use Rattle.leaves.specs.declared.leaf.LeafKind.TheVariants.{Terminal, Error}
use Rattle.reports.specs.declared.report.ReportKind.{ReportKind}
use Rattle.leaves.specs.Leaves.{LeafFields}
use Rattle.reports.specs.Heard.{Told, told_at}
use Rattle.recovery_model.specs.declared.strategy_state.Mode.{Mode}
use Rattle.recovery_model.specs.declared.strategy_state.Mode.TheVariants.{Normal, InErrorRecovery}
use Rattle.recovery_model.specs.declared.open_rule.OpenRule.{OpenRule}
use Rattle.recovery_model.specs.Views.{View, current, no_error_states}

-- the innermost open rule
abbrev pub innermost : List OpenRule → ℕ
innermost [] = 0
innermost (o ∷ os) = o.rule

-- a leaf more raises the count of the innermost open rule and no other; the count stays at 4,294,967,295 once it is there
abbrev pub raised : List OpenRule → List OpenRule
raised [] = []
raised (o ∷ os) = record o { leaves = min (o.leaves + 1) 4294967295 } ∷ os

-- the leaf of a token
abbrev pub leaf : LeafKind → Fields → View → LeafFields
leaf kind t v = record { kind = kind; depth = length v.open_rules; rule = innermost v.open_rules; typ = t.typ; index = t.index; line = t.position.0; column = t.position.1 }

abbrev pub add : LeafKind → Fields → View → View
add kind t v = record v { leaves = v.leaves ++ leaf kind t v ∷ []; free = v.free - 1; open_rules = raised v.open_rules }

-- why a token is passed: a call took it, it was deleted alone, or a search passed it
pub data Reason : Type 0 where
  Taken : Reason
  Deleted : Reason
  Searched : Reason

-- in error recovery a token that is passed is an error
abbrev pub leaf_kind : Reason → Mode → LeafKind
leaf_kind Taken Normal = Terminal
leaf_kind Taken InErrorRecovery = Error
leaf_kind Deleted Normal = Terminal
leaf_kind Deleted InErrorRecovery = Error
leaf_kind Searched Normal = Terminal
leaf_kind Searched InErrorRecovery = Error

-- The current token becomes a leaf, and is dropped unless it is EOF.
abbrev pub pass : Reason → View → View
pass why v = record (add (leaf_kind why v.strategy.mode) (current v) v) { shown = passed v.shown }

abbrev pub pass_many : Reason → ℕ → View → View
pass_many why zero v = v
pass_many why (suc k) v = pass_many why k (pass why v)

-- how many tokens stand before EOF or the first of such a type
abbrev pub before : (ℤ → Bool) → List Fields → ℕ
before types [] = 0
before types (t ∷ ts) = if is_eof t.typ || types (type_number t.typ) then 0 else suc (before types ts)

abbrev pub in_error_recovery_mode : View → Bool
in_error_recovery_mode v = at v.strategy.mode
  where
    at : Mode → Bool
    at Normal = false
    at InErrorRecovery = true

-- what is told of a token where these types were expected
abbrev pub told_of : ReportKind → Fields → (ℤ → Bool) → Told
told_of kind t types = told_at kind t.index t.position types

-- A report begins the error condition; in error recovery none is given.
abbrev pub begin_error_condition : View → View
begin_error_condition v = record v { strategy = record v.strategy { mode = InErrorRecovery } }

abbrev pub given : Told → View → List Told
given t v = if in_error_recovery_mode v then [] else t ∷ []

-- The error condition is ended: the mode, the last error index and the last error states are cleared, and the saved pair stays.
abbrev pub end_error_condition : View → View
end_error_condition v = record v { strategy = record v.strategy { mode = Normal; last_error_index = None; last_error_states = no_error_states } }
