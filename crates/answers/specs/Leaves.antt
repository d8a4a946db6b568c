-- What is answered where a leaf is to be added to the leaf lists of a script.
use Rattle.std.specs.Prelude.{◌≡◌, ◌<◌, ℕ, Bool, true, false, cond, length, Ok, Err, Result}
use Rattle.std.specs.List.{list_any}
use Rattle.errors.specs.declared.denial.Denial.{Denial}
use Rattle.errors.specs.declared.denial.Denial.TheVariants.{NoLeafFree}
use Rattle.leaves.specs.Leaves.{LeafFields}
use Rattle.leaves.specs.LeafLines.{leaf_line}
use Rattle.fixed_vec.specs.Lists.{spare}
use Rattle.fixed_vec.specs.declared.bounded_list.BoundedList.{BoundedList}
use Rattle.answers.specs.declared.leaf_lists.AddedLeaf.{AddedLeaf}
use Rattle.script.specs.Contents.{Content, leaf_places}
use Rattle.script_lines.specs.declared.questions.Ask.{Ask}
use Rattle.script_lines.specs.declared.questions.Ask.TheVariants.{Leaf}

-- how many more leaves the table of the lists takes
abbrev pub room : {T : Type 0} → BoundedList T → ℕ
room t = length (spare t)

-- While there is room, the leaf is answered, and its line; else it is denied.
abbrev pub LeafAnswer : ℕ → LeafFields → Result AddedLeaf Denial → Type 0
LeafAnswer free l (Ok a) = (0 < free) × (a.leaf ≡ l) × (a.line.items ≡ leaf_line l)
LeafAnswer free l (Err d) = (free ≡ 0) × (d ≡ NoLeafFree)

-- whether a question adds a leaf
abbrev pub adds_leaf : Ask → Bool
adds_leaf (Leaf l) = true
adds_leaf a = false

-- how many leaves the lists of a script are to have room for: none where no question adds one
abbrev pub needed_places : Content → ℕ
needed_places k = cond (list_any (λ q. adds_leaf q.ask) k.questions) (leaf_places k) 0
