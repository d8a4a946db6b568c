-- The whole of a lent memory.
use Rattle.std.proofs.Common.{◌≡◌, ◌++◌, sym, ap, ◌∙◌}
use Rattle.std.specs.List.{flat_map}
use Rattle.std.proofs.lemmas.List.{take-append-drop}
use Rattle.fixed_vec.specs.declared.bounded_list.BoundedList.{BoundedList}
use Rattle.leaves.specs.declared.leaf_writer.LeafWriter.{LeafWriter}
use Rattle.fixed_vec.specs.Lists.{listed, spare}
use Rattle.leaves.specs.LeafLines.{leaf_line}
use Rattle.leaves.specs.Writers.{unwritten, leaves_written}
use Rattle.leaves.proofs.Texts.{leaves_lines}

pub whole_list : {T : Type 0} (l : BoundedList T) → l.slots.now ≡ listed l ++ spare l
whole_list l = sym (take-append-drop l.len l.slots.now)

pub whole_text : (w : LeafWriter) → w.memory.now ≡ flat_map leaf_line (leaves_written w) ++ unwritten w
whole_text w = sym (take-append-drop w.len w.memory.now) ∙ ap (λ t. t ++ unwritten w) (leaves_lines w)
