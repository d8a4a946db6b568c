-- What a writer of leaves has written, and what it has left as it was.
use Rattle.std.specs.Prelude.{ℕ, List, take, drop}
use Rattle.leaves.specs.declared.leaf_writer.LeafWriter.{LeafWriter}
use Rattle.leaves.specs.Leaves.{LeafFields}

-- the lines, as they lie in the memory
abbrev pub text : LeafWriter → List ℕ
text w = take w.len w.memory.now

-- the bytes behind them
abbrev pub unwritten : LeafWriter → List ℕ
unwritten w = drop w.len w.memory.now

-- the leaves of which the text is the lines
unfoldable pub leaves_written : LeafWriter → List LeafFields
leaves_written w = w.written.leaves
