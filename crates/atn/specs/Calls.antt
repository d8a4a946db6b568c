-- Calls of a start state.
use Rattle.std.specs.Prelude.{ℕ, Bool, false, ◌==◌}
use Rattle.std.specs.List.{list_any}
use Rattle.atn_graph.specs.declared.transition.Move.{Move}
use Rattle.atn_graph.specs.declared.transition.Move.TheVariants.{Along, Call, Token}
use Rattle.atn_graph.specs.declared.transition.Transition.{Transition}
use Rattle.atn_graph.specs.Kinds.{move_of}
use Rattle.atn_graph.specs.Net.{Net, edges_of}

-- an edge that makes the move m to u is a call of t
abbrev pub calls_by : ℕ → ℕ → Move → Bool
calls_by t u Along = false
calls_by t u (Call f) = u == t
calls_by t u Token = false

abbrev pub is_call : ℕ → Transition → Bool
is_call t e = calls_by t e.target (move_of e.kind)

-- one of the edges of s calls t
abbrev pub calls : Net → ℕ → ℕ → Bool
calls n s t = list_any (is_call t) (edges_of n s)
