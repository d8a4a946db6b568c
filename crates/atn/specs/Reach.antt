-- The states that walks come to, without stacks: a walk never looks below the top of its stack.
use Rattle.std.specs.Prelude.{◌≡◌, ℕ, true, ◌⊎◌, List}
use Rattle.atn_graph.specs.declared.transition.Move.{Move}
use Rattle.atn_graph.specs.declared.transition.Move.TheVariants.{Along, Call, Token}
use Rattle.atn_graph.specs.declared.transition.Transition.{Transition}
use Rattle.atn_graph.specs.Kinds.{move_of}
use Rattle.atn_graph.specs.Net.{Net}
use Rattle.atn.specs.Walks.{Stop, HasEdge}
use Rattle.atn.specs.Marks.{elem}

-- A walk on an empty stack from s can end on a stop state.
pub data Nullable (n : Net) : ℕ → Type 0 where
  stops : {s : ℕ} → Stop n s → Nullable n s
  along : {s t : ℕ} → HasEdge n s t Along → Nullable n t → Nullable n s
  over : {s t f : ℕ} → HasEdge n s t (Call f) → Nullable n t → Nullable n f → Nullable n s

-- A step leads along an edge, into a called rule, or over a rule edge to a start state that N tells
-- of.
pub data StepOver (N : ℕ → Type 0) (n : Net) : ℕ → ℕ → Type 0 where
  along : {s t : ℕ} → HasEdge n s t Along → StepOver N n s t
  into : {s t f : ℕ} → HasEdge n s t (Call f) → StepOver N n s t
  over : {s t f : ℕ} → HasEdge n s t (Call f) → N t → StepOver N n s f

pub data ReachesOver (N : ℕ → Type 0) (n : Net) : ℕ → ℕ → Type 0 where
  here : {s : ℕ} → ReachesOver N n s s
  more : {s t k : ℕ} → StepOver N n s t → ReachesOver N n t k → ReachesOver N n s k

-- k is in the list
abbrev pub Listed : List ℕ → ℕ → Type 0
Listed xs k = elem k xs ≡ true

-- where an edge to t leads, by the move that it makes, over rules whose start states N tells of
abbrev pub LeadsByOver : (ℕ → Type 0) → ℕ → Move → ℕ → Type 0
LeadsByOver N t Along k = t ≡ k
LeadsByOver N t (Call f) k = (t ≡ k) ⊎ (N t × (f ≡ k))
LeadsByOver N t Token k = ⊥

abbrev pub LeadsOver : (ℕ → Type 0) → Transition → ℕ → Type 0
LeadsOver N e k = LeadsByOver N e.target (move_of e.kind) k

-- the states of the list are exactly the nullable ones
abbrev pub KnowsNullable : Net → List ℕ → Type 0
KnowsNullable n xs = (k : ℕ) → (Listed xs k → Nullable n k) × (Nullable n k → Listed xs k)

-- the states of the list are exactly those that s reaches
abbrev pub KnowsReachedOver : (ℕ → Type 0) → Net → ℕ → List ℕ → Type 0
KnowsReachedOver N n s xs =
    (k : ℕ) → (Listed xs k → ReachesOver N n s k) × (ReachesOver N n s k → Listed xs k)
