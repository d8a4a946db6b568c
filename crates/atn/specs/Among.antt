-- Some of a net's edges.
use Rattle.std.specs.Prelude.{ℕ, ◌<◌, ◌≤◌}
use Rattle.atn_graph.specs.declared.transition.Transition.{Transition}
use Rattle.atn_graph.specs.Net.{Net, edge_at}

-- P tells of one of the edges from number low up to number high
pub record Among (P : Transition → Type 0) (n : Net) (low high : ℕ) : Type 0 where
  pub number : ℕ
  pub from : low ≤ number
  pub below : number < high
  pub holds : P (edge_at n number)
