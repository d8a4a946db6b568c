use Rattle.std.proofs.Common.{refl}
use Rattle.leaves.proofs.Texts.{leaves_none}
use Rattle.leaves.proofs.leaf_writer.LeafWriter.new.Goals as goal

pub returns-clause-empty : goal.returns-clause-empty
returns-clause-empty c = leaves_none _ refl
