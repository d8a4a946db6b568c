use Rattle.leaves.proofs.Texts.{leaves_lines}
use Rattle.leaves.proofs.leaf_writer.LeafWriter.as_bytes.Goals as goal

pub returns : goal.returns
returns c = leaves_lines c.args.self.now
