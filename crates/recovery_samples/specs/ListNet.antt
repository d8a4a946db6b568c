-- A second worked example, the list net: rule 0 takes rule 1 and then the type 2, and rule 1 takes the type 1 any number of
-- times, or not at all.
use Rattle.std.specs.Prelude.{◌≡◌, Bool, false, true, List, [], ◌∷◌, get_or, ℤ, pos, ◌||◌}
use Rattle.std.specs.Ordering.{int_eq}
use Rattle.atn_graph.specs.declared.atn_state.StateKind.TheVariants.{Basic, RuleStart, RuleStop, StarLoopBack, StarLoopEntry}
use Rattle.atn_graph.specs.Net.{Net}
use Rattle.atn_graph.specs.Rules.{IsSoundNet, beyond_limits}
use Rattle.atn.specs.Walks.{HasLeftRecursion}
use Rattle.samples.specs.Pass.{state, plain_to, taking, calling}
use Rattle.recovery_model.specs.Sets.{WithinSets, Agree, no_types}
use Rattle.recovery_samples.specs.Seen.{only}

-- States 0 to 3 are those of rule 0, states 4 to 8 those of rule 1. State 5 is the entry of the loop, state 7 the way back.
abbrev pub list_net : Net
list_net = record {
  max = pos 3;
  rules = record { start = 0; stop = 3 } ∷ record { start = 4; stop = 8 } ∷ [];
  states =
      state 0 RuleStart 0 1 ∷ state 0 Basic 1 2 ∷ state 0 Basic 2 3 ∷ state 0 RuleStop 3 3
      ∷ state 1 RuleStart 3 4 ∷ state 1 StarLoopEntry 4 6 ∷ state 1 Basic 6 7 ∷ state 1 StarLoopBack 7 8 ∷ state 1 RuleStop 8 8 ∷ [];
  edges =
      plain_to 1 ∷ calling 1 4 2 ∷ taking (pos 2) 3
      ∷ plain_to 5 ∷ plain_to 6 ∷ plain_to 8 ∷ taking (pos 1) 7 ∷ plain_to 5 ∷ [];
  intervals = [];
}

-- what may come first in rule 0: a 1, or the 2 after an empty list
abbrev pub one_or_two : ℤ → Bool
one_or_two x = int_eq x (pos 1) || int_eq x (pos 2)

-- Its within-rule sets, state by state: with which types walks end, and whether one can end on a stop state.
abbrev pub list_types : List (ℤ → Bool)
list_types = one_or_two ∷ one_or_two ∷ only (pos 2) ∷ no_types ∷ only (pos 1) ∷ only (pos 1) ∷ only (pos 1) ∷ only (pos 1) ∷ no_types ∷ []

abbrev pub list_ends : List Bool
list_ends = false ∷ false ∷ false ∷ true ∷ true ∷ true ∷ false ∷ true ∷ true ∷ []

abbrev pub list_sets : WithinSets
list_sets = record { types = λ s. get_or list_types s no_types; end = λ s. get_or list_ends s false }

-- The net keeps every rule and limit of nets, and its sets are these.
pub record ListNet : Type 0 where
  pub limits : beyond_limits list_net ≡ false
  pub sound : IsSoundNet list_net
  pub not_left_recursive : HasLeftRecursion list_net → ⊥
  pub agree : Agree list_net list_sets
