use Rattle.std.proofs.Common.{◌≡◌, ◌*◌, ◌^◌, ◌≤◌, length}
use Rattle.fixed_vec.specs.Items.{items}
use Rattle.atn_graph.specs.Net.{end_before}
use Rattle.atn_graph.specs.Reading.{StatesRead}
use Rattle.atn_graph.proofs.read.read_states.Given as goal

abbrev pub invariant-loop-row : goal.invariant-loop-row
invariant-loop-row l = (length (items l.states) ≡ l.row-index) × (l.first ≡ end_before (items l.states) l.row-index) × (l.first ≤ l.row-index * 2 ^ 31) × StatesRead l.rows l.row-index (items l.states)
