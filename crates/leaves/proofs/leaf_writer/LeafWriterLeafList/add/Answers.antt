use Rattle.std.proofs.Common.{length, refl, ap, ◌∙◌, arith}
use Rattle.std.proofs.lemmas.List.{length-drop}
use Rattle.leaves.specs.Writers.{text, unwritten}
use Rattle.leaves.proofs.Texts.{leaves_more, written_more, text_put, rest_put, end_put}
use Rattle.leaves.proofs.leaf_writer.LeafWriterLeafList.add.Goals as goal

pub invariant_of-self : goal.invariant_of-self
invariant_of-self c =
    let w = c.args.self.now in
    let line = c.write_line.new.line in
    let fits = c.write_line.ensures.fits in
    let is = c.write_line.ensures.line in
    record { bounded = end_put w c.args.leaf fits line is; written = written_more (text w) _ c.args.leaf w.written fits (text_put w c.args.leaf fits line is) }

pub returns-clause-room : goal.returns-clause-room
returns-clause-room c = λ some.
    let w = c.args.self.now in
    let line = c.write_line.new.line in
    let fits = c.write_line.ensures.fits in
    let is = c.write_line.ensures.line in
    let rest = rest_put w c.args.leaf fits line is in
    let left = ap length rest ∙ length-drop 57 (unwritten w) in
    (refl, record { appended = leaves_more w _ c.args.leaf fits (text_put w c.args.leaf fits line is); taken = omega (arith, some, left); untouched = rest })
