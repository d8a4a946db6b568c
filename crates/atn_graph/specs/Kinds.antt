-- The numbers of the kinds of states and edges, and what a walk does at an edge.
use Rattle.std.specs.Prelude.{◌≡◌, ◌≢◌, ℕ, Bool, ◌==◌, ℤ, pos, Result, MatchResult}
use Rattle.errors.specs.declared.denial.Denial.{Denial}
use Rattle.errors.specs.declared.denial.Denial.TheVariants.{BrokenRule}
use Rattle.atn_graph.specs.declared.atn_state.StateKind.{StateKind}
use Rattle.atn_graph.specs.declared.atn_state.StateKind.TheVariants.{Basic, RuleStart, BlockStart, PlusBlockStart, StarBlockStart, RuleStop, BlockEnd, StarLoopBack, StarLoopEntry, PlusLoopBack, LoopEnd}
use Rattle.atn_graph.specs.declared.transition.TransitionKind.{TransitionKind}
use Rattle.atn_graph.specs.declared.transition.TransitionKind.TheVariants.{Epsilon, Range, Rule, Predicate, Atom, Action, Set, NotSet, Wildcard, Precedence}
use Rattle.atn_graph.specs.declared.transition.Move.{Move}
use Rattle.atn_graph.specs.declared.transition.Move.TheVariants.{Along, Call, Token}

abbrev pub state_kind_number : StateKind → ℕ
state_kind_number Basic = 1
state_kind_number RuleStart = 2
state_kind_number BlockStart = 3
state_kind_number PlusBlockStart = 4
state_kind_number StarBlockStart = 5
state_kind_number RuleStop = 7
state_kind_number BlockEnd = 8
state_kind_number StarLoopBack = 9
state_kind_number StarLoopEntry = 10
state_kind_number PlusLoopBack = 11
state_kind_number LoopEnd = 12

-- r is the kind with the number n, or the denial where no kind has it
abbrev pub KindNumbered : ℤ → Result StateKind Denial → Type 0
KindNumbered n r = MatchResult r
    (λ k. pos (state_kind_number k) ≡ n)
    (λ d. (d ≡ BrokenRule) × ((k : StateKind) → pos (state_kind_number k) ≢ n))

-- a rule's start or stop state
abbrev pub is_start : StateKind → Bool
is_start k = state_kind_number k == 2

abbrev pub is_stop : StateKind → Bool
is_stop k = state_kind_number k == 7

abbrev pub transition_number : TransitionKind → ℕ
transition_number Epsilon = 1
transition_number (Range i) = 2
transition_number (Rule r f) = 3
transition_number Predicate = 4
transition_number (Atom t) = 5
transition_number Action = 6
transition_number (Set f c) = 7
transition_number (NotSet f c) = 8
transition_number Wildcard = 9
transition_number Precedence = 10

-- Epsilon, predicate, action and precedence edges lead to their target, a rule edge calls, the
-- others take a token.
abbrev pub move_of : TransitionKind → Move
move_of Epsilon = Along
move_of (Range i) = Token
move_of (Rule r f) = Call f
move_of Predicate = Along
move_of (Atom t) = Token
move_of Action = Along
move_of (Set f c) = Token
move_of (NotSet f c) = Token
move_of Wildcard = Token
move_of Precedence = Along
