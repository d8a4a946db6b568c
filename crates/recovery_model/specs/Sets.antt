-- The sets of types by which the parser recovers, as tests of a type's number.
use Rattle.std.specs.Prelude.{ℕ, Bool, false, ◌&&◌, ◌||◌, List, [], ◌∷◌, ℤ, Decides}
use Rattle.std.specs.List.{list_any}
use Rattle.std.specs.Ordering.{int_eq}
use Rattle.atn_graph.specs.Net.{Net}
use Rattle.ll1_analyzer.specs.Sets.{eof, epsilon, Types, CanEnd}

-- Of each state: with which types walks on an empty stack can end, and whether one can end on a stop state.
pub record WithinSets : Type 0 where
  pub types : ℕ → ℤ → Bool
  pub end : ℕ → Bool

-- They are those of the net, by walks.
pub record Agree (n : Net) (w : WithinSets) : Type 0 where
  pub types : (s : ℕ) (x : ℤ) → Decides (w.types s x) (Types n s x)
  pub ends : (s : ℕ) → Decides (w.end s) (CanEnd n s)

-- both as the one set that a lookahead answers, where EPSILON stands for the end
abbrev pub within : WithinSets → ℕ → ℤ → Bool
within w s x = w.types s x || (int_eq x epsilon && w.end s)

-- The types of states in their order, going on only while a walk from the last can end; EOF past the last.
abbrev pub joined : WithinSets → List ℕ → ℤ → Bool
joined w [] x = int_eq x eof
joined w (s ∷ ss) x = w.types s x || (w.end s && joined w ss x)

-- the expected set of a state, and its in-context set: they hold the same types
abbrev pub expected : WithinSets → ℕ → List ℕ → ℤ → Bool
expected w s follows = joined w (s ∷ follows)

-- the types that may follow an open rule
abbrev pub recovery : WithinSets → List ℕ → ℤ → Bool
recovery w follows x = list_any (λ f. w.types f x) follows

-- no type
abbrev pub no_types : ℤ → Bool
no_types x = false
