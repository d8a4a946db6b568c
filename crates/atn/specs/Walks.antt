-- Walks over a net, and left recursion.
use Rattle.std.specs.Prelude.{◌≡◌, ℕ, ◌<◌, true, List, [], ◌∷◌, length}
use Rattle.atn_graph.specs.declared.transition.Move.{Move}
use Rattle.atn_graph.specs.declared.transition.Move.TheVariants.{Along, Call}
use Rattle.atn_graph.specs.Kinds.{move_of, is_stop}
use Rattle.atn_graph.specs.Net.{Net, rule_at, state_at, edge_at, Of}

abbrev pub Stop : Net → ℕ → Type 0
Stop n s = is_stop (state_at n s).kind ≡ true

-- The state s has an edge to t at which a walk makes the move m.
pub record HasEdge (n : Net) (s t : ℕ) (m : Move) : Type 0 where
  pub number : ℕ
  pub of : Of n s number
  pub leads : (edge_at n number).target ≡ t
  pub moves : move_of (edge_at n number).kind ≡ m

-- A walk from the state s on the stack p to the state k on the stack q. A rule edge puts its follow
-- state on the stack; a stop state leads to the top of the stack, taken off.
pub data Walk (n : Net) : ℕ → List ℕ → ℕ → List ℕ → Type 0 where
  here : {s : ℕ} {p : List ℕ} → Walk n s p s p
  along : {s t k : ℕ} {p q : List ℕ}
      → HasEdge n s t Along → Walk n t p k q → Walk n s p k q
  call : {s t f k : ℕ} {p q : List ℕ}
      → HasEdge n s t (Call f) → Walk n t (f ∷ p) k q → Walk n s p k q
  back : {s f k : ℕ} {p q : List ℕ} → Stop n s → Walk n f p k q → Walk n s (f ∷ p) k q

-- A walk from s on an empty stack reaches a rule edge to s.
pub record LeftRecursiveFrom (n : Net) (s : ℕ) : Type 0 where
  pub state : ℕ
  pub stack : List ℕ
  pub follow : ℕ
  pub walk : Walk n s [] state stack
  pub calls : HasEdge n state s (Call follow)

-- The rule r is left-recursive.
abbrev pub LeftRecursive : Net → ℕ → Type 0
LeftRecursive n r = LeftRecursiveFrom n (rule_at n r).start

-- A rule of the net is left-recursive.
pub record HasLeftRecursion (n : Net) : Type 0 where
  pub rule : ℕ
  pub inside : rule < length n.rules
  pub recursive : LeftRecursive n rule
