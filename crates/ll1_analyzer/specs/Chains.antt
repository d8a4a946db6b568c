-- Chains of invoking states: the follow states of the open rules, and when a question is denied.
use Rattle.std.specs.Prelude.{◌≡◌, ℕ, ◌<◌, ◌≤◌, ◌⊎◌, List, [], ◌∷◌, length, map, Any, Option, Some, None, unwrap_or}
use Rattle.errors.specs.declared.denial.Denial.{Denial}
use Rattle.errors.specs.declared.denial.Denial.TheVariants.{FaultyChain, StateOutside}
use Rattle.atn_graph.specs.declared.transition.Move.{Move}
use Rattle.atn_graph.specs.declared.transition.Move.TheVariants.{Along, Call, Token}
use Rattle.atn_graph.specs.declared.transition.Transition.{Transition}
use Rattle.atn_graph.specs.Kinds.{move_of}
use Rattle.atn_graph.specs.Net.{Net, size, edges_of}
use Rattle.ll1_analyzer.specs.declared.chain.TheConstants.{MAX_CHAIN}

-- the follow state of a move, if the move is a call
abbrev pub called_follow : Move → Option ℕ
called_follow Along = None
called_follow (Call follow) = Some follow
called_follow Token = None

-- the follow state of the call that the first of some edges makes
abbrev pub first_follow : List Transition → Option ℕ
first_follow [] = None
first_follow (e ∷ es) = called_follow (move_of e.kind)

-- The follow state of a state that calls a rule. Such a state has no other edge.
abbrev pub follow_of : Net → ℕ → Option ℕ
follow_of n s = first_follow (edges_of n s)

-- the follow states of a chain of invoking states, innermost first
abbrev pub follow_states : Net → List ℕ → List ℕ
follow_states n chain = map (λ s. unwrap_or (follow_of n s) 0) chain

-- A chain holds at most 63 states, and each calls a rule.
abbrev pub Faulty : Net → List ℕ → Type 0
Faulty n chain = (MAX_CHAIN < length chain) ⊎ Any (λ s. follow_of n s ≡ None) chain

-- which denials fit a question about a state, about a chain, and about both
abbrev pub StateFault : Net → ℕ → Denial → Type 0
StateFault n s StateOutside = size n ≤ s
StateFault n s _ = ⊥

abbrev pub ChainFault : Net → List ℕ → Denial → Type 0
ChainFault n chain FaultyChain = Faulty n chain
ChainFault n chain _ = ⊥

abbrev pub QuestionFault : Net → ℕ → List ℕ → Denial → Type 0
QuestionFault n s chain d = ChainFault n chain d ⊎ StateFault n s d
