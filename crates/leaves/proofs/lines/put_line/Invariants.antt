use Rattle.std.proofs.Common.{◌≡◌, ◌*◌, ◌++◌, take, drop}
use Rattle.std.specs.List.{flat_map}
use Rattle.fixed_vec.specs.Lists.{listed, spare}
use Rattle.leaves.specs.LeafLines.{column}
use Rattle.leaves.proofs.lines.put_line.Given as goal

abbrev pub invariant-loop-n : goal.invariant-loop-n
invariant-loop-n l = (listed l.out ≡ listed l.initial.out ++ flat_map column (take l.n-index l.n-items)) × (spare l.out ≡ drop (8 * l.n-index) (spare l.initial.out)) × (l.out.slots.ghost_name ≡ l.initial.out.slots.ghost_name)
