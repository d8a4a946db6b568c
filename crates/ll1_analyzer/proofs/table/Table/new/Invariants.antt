use Rattle.std.proofs.Common.{◌≡◌, length}
use Rattle.atn.specs.Checked.{net_of}
use Rattle.ll1_analyzer.specs.Kept.{AreFirst}
use Rattle.ll1_analyzer.proofs.table.Table.new.Given as goal

-- the sets so far are those of the first states
abbrev pub invariant-loop-s : goal.invariant-loop-s
invariant-loop-s l = record { count : length l.sets.items ≡ l.s; first : AreFirst (net_of l.atn) l.sets.items }
