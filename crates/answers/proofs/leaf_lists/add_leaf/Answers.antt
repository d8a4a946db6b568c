use Rattle.std.proofs.Common.{◌≡◌, ◌∙◌, ◌-◌, ◌/◌, ◌<◌, ◌≤◌, length, drop, get_or, ap, sym, subst, arith}
use Rattle.std.proofs.lemmas.List.{get_or_push, length_push, length-drop, take_all}
use Rattle.fixed_vec.specs.Lists.{listed, spare}
use Rattle.leaves.specs.Writers.{unwritten}
use Rattle.answers.proofs.LastLine.{long_enough, last_line}
use Rattle.answers.proofs.leaf_lists.add_leaf.Goals as goal

pub overflow_sub-text : goal.overflow_sub-text
overflow_sub-text c =
    let free : 0 < length (unwritten c.args.writer.now) / 57 = omega (arith, c.free.ensures, c.if-free-eq0.false, c.requires) in
    subst (λ xs. 57 ≤ length xs) (sym c.as_bytes-text.ensures) (long_enough c.add-2.new.self _ c.args.leaf (c.add-2.ensures.room free).1.appended)

pub copy_from_slice-requires : goal.copy_from_slice-requires
copy_from_slice-requires c =
    let text = c.as_bytes-text.result.now in
    let from = length text - 57 in
    let free : 0 < length (unwritten c.args.writer.now) / 57 = omega (arith, c.free.ensures, c.if-free-eq0.false, c.requires) in
    let long : 57 ≤ length text = subst (λ xs. 57 ≤ length xs) (sym c.as_bytes-text.ensures) (long_enough c.add-2.new.self _ c.args.leaf (c.add-2.ensures.room free).1.appended) in
    omega (arith, c.in_ok-line.ensures.len, ap length (take_all (length text - from) (drop from text) (omega (arith, length-drop from text))), length-drop from text, long)

pub returns-clause-answer : goal.returns-clause-answer
returns-clause-answer c =
    let some : 0 < length (spare c.args.table.now) = omega (arith, c.free.ensures, c.if-free-eq0.false) in
    let free : 0 < length (unwritten c.args.writer.now) / 57 = omega (arith, c.requires, some) in
    let grown = (c.add.ensures.room some).1.appended in
    let last : c.len.result - 1 ≡ length (listed c.args.table.now) = omega (arith, c.len.ensures, ap length grown, length_push (listed c.args.table.now) c.args.leaf) in
    let leaf = c.index-as_slice-len.is ∙ ap (λ xs. get_or xs (c.len.result - 1) c.index-as_slice-len.result) (c.as_slice.ensures ∙ grown) ∙ get_or_push (listed c.args.table.now) c.args.leaf _ (c.len.result - 1) (sym last) in
    let text = c.as_bytes-text.result.now in
    let from = length text - 57 in
    let end : c.copy_from_slice.new.self.items ≡ drop from text = c.copy_from_slice.ensures.items ∙ take_all (length text - from) (drop from text) (omega (arith, length-drop from text)) in
    (some, leaf, end ∙ ap (λ xs. drop (length xs - 57) xs) c.as_bytes-text.ensures ∙ last_line c.add-2.new.self _ c.args.leaf (c.add-2.ensures.room free).1.appended)
