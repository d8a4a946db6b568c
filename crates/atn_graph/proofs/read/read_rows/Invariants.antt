use Rattle.std.proofs.Common.{◌≡◌, Some, length, take}
use Rattle.std.specs.List.{AllZip}
use Rattle.fixed_vec.specs.Items.{items}
use Rattle.atn_graph.proofs.read.read_rows.Given as goal

abbrev pub invariant-loop-row : goal.invariant-loop-row
invariant-loop-row g l = (length (items l.xs) ≡ l.row-index) × AllZip (λ row x. goal.F-post g l.read row (Some x)) (take l.row-index l.rows) (items l.xs)
