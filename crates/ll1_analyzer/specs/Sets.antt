-- The four sets of token types that may come next.
use Rattle.std.specs.Prelude.{◌≡◌, ℕ, ◌⊎◌, List, [], ◌∷◌, ℤ, negsuc, Contains}
use Rattle.atn_graph.specs.Net.{Net}
use Rattle.atn.specs.Walks.{Stop, Walk}
use Rattle.atn.specs.Labels.{TakesAt}

-- the end of the input, and what stands for the end of a walk on a stop state
abbrev pub eof : ℤ
eof = negsuc 0

abbrev pub epsilon : ℤ
epsilon = negsuc 1

-- A walk from s on the stack p comes to a state that takes the type x.
pub record EndsWith (n : Net) (s : ℕ) (p : List ℕ) (x : ℤ) : Type 0 where
  pub state : ℕ
  pub stack : List ℕ
  pub walk : Walk n s p state stack
  pub takes : TakesAt n state x

-- A walk from s on the stack p comes to a stop state with nothing left on the stack.
pub record EndsOnStop (n : Net) (s : ℕ) (p : List ℕ) : Type 0 where
  pub state : ℕ
  pub walk : Walk n s p state []
  pub stop : Stop n state

-- The within-rule set of s is two things: the types that walks on an empty stack can end with, and apart from them whether one
-- can end on a stop state.
abbrev pub Types : Net → ℕ → ℤ → Type 0
Types n s x = EndsWith n s [] x

abbrev pub CanEnd : Net → ℕ → Type 0
CanEnd n s = EndsOnStop n s []

-- Both as one set: EPSILON stands in it for the end.
abbrev pub Within : Net → ℕ → ℤ → Type 0
Within n s x = Types n s x ⊎ ((x ≡ epsilon) × CanEnd n s)

-- The in-context set of s: walks begin with the follow states of the open rules stacked, innermost on top; EOF stands for the end.
abbrev pub InContext : Net → ℕ → List ℕ → ℤ → Type 0
InContext n s follows x = EndsWith n s follows x ⊎ ((x ≡ eof) × EndsOnStop n s follows)

-- The types of states in their order, going on only while a walk from the last can end; EOF past the last.
abbrev pub Joined : Net → List ℕ → ℤ → Type 0
Joined n [] x = x ≡ eof
Joined n (s ∷ ss) x = Types n s x ⊎ (CanEnd n s × Joined n ss x)

-- The expected set of s: its own types, joined with those of the follow states of the open rules.
abbrev pub Expected : Net → ℕ → List ℕ → ℤ → Type 0
Expected n s follows x = Joined n (s ∷ follows) x

-- The recovery set: the types of all follow states of the open rules.
pub record Recovery (n : Net) (follows : List ℕ) (x : ℤ) : Type 0 where
  pub state : ℕ
  pub listed : Contains follows state
  pub types : Types n state x
