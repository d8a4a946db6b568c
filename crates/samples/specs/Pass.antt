-- A worked example, the pass net: rule 0 takes rule 1 any number of times and then the end of the input,
-- and rule 1 takes the types 1, 2 and 3 in turn.
use Rattle.std.specs.Prelude.{◌≡◌, ℕ, ◌↔◌, ◌⊎◌, [], ◌∷◌, ℤ, pos}
use Rattle.atn_graph.specs.declared.atn_state.StateKind.{StateKind}
use Rattle.atn_graph.specs.declared.atn_state.StateKind.TheVariants.{Basic, RuleStart, RuleStop, StarLoopBack, StarLoopEntry}
use Rattle.atn_graph.specs.declared.atn_state.AtnState.{AtnState}
use Rattle.atn_graph.specs.declared.transition.Transition.{Transition}
use Rattle.atn_graph.specs.declared.transition.TransitionKind.TheVariants.{Epsilon, Rule, Atom}
use Rattle.atn_graph.specs.Net.{Net}
use Rattle.ll1_analyzer.specs.Sets.{eof, Types, CanEnd}

-- a state of the rule, with the edges from number first up to number end
abbrev pub state : ℕ → StateKind → ℕ → ℕ → AtnState
state rule kind first end = record { rule = rule; kind = kind; first = first; end = end }

-- an edge that leads to the target and takes nothing, one that takes a type, and a call of the rule that starts there
abbrev pub plain_to : ℕ → Transition
plain_to target = record { target = target; kind = Epsilon }

abbrev pub taking : ℤ → ℕ → Transition
taking x target = record { target = target; kind = Atom x }

abbrev pub calling : ℕ → ℕ → ℕ → Transition
calling rule start follow = record { target = start; kind = Rule rule follow }

-- States 0 to 5 are those of rule 0, states 6 to 10 those of rule 1. State 1 is the entry of the loop, state 3 the way back.
abbrev pub pass : Net
pass = record {
  max = pos 3;
  rules = record { start = 0; stop = 5 } ∷ record { start = 6; stop = 10 } ∷ [];
  states =
      state 0 RuleStart 0 1 ∷ state 0 StarLoopEntry 1 3 ∷ state 0 Basic 3 4 ∷ state 0 StarLoopBack 4 5 ∷ state 0 Basic 5 6 ∷ state 0 RuleStop 6 6
      ∷ state 1 RuleStart 6 7 ∷ state 1 Basic 7 8 ∷ state 1 Basic 8 9 ∷ state 1 Basic 9 10 ∷ state 1 RuleStop 10 10 ∷ [];
  edges =
      plain_to 1 ∷ plain_to 2 ∷ plain_to 4 ∷ calling 1 6 3 ∷ plain_to 1 ∷ taking eof 5
      ∷ plain_to 7 ∷ taking (pos 1) 8 ∷ taking (pos 2) 9 ∷ taking (pos 3) 10 ∷ [];
  intervals = [];
}

-- The within-rule sets of four states of the pass net: its loop goes on with the type 1, or ends with the input. Walks from the
-- stop state end with no type; of the four, from that state alone a walk can end on a stop state.
pub record PassSets : Type 0 where
  pub at_loop_entry : (x : ℤ) → (Types pass 1 x ↔ ((x ≡ eof) ⊎ (x ≡ pos 1)))
  pub at_loop_back : (x : ℤ) → (Types pass 3 x ↔ ((x ≡ eof) ⊎ (x ≡ pos 1)))
  pub after_one : (x : ℤ) → (Types pass 8 x ↔ (x ≡ pos 2))
  pub at_stop : (x : ℤ) → Types pass 10 x → ⊥
  pub no_end_at_loop_entry : CanEnd pass 1 → ⊥
  pub no_end_at_loop_back : CanEnd pass 3 → ⊥
  pub no_end_after_one : CanEnd pass 8 → ⊥
  pub end_at_stop : CanEnd pass 10
