-- Sets that agree exist for every checked net, and no two that differ.
use Rattle.std.specs.Prelude.{◌≡◌}
use Rattle.atn_graph.specs.Net.{Net}
use Rattle.atn.specs.declared.atn.Atn.{Atn}
use Rattle.atn.specs.Checked.{net_of}
use Rattle.recovery_model.specs.Sets.{WithinSets, Agree}

-- There are sets that agree with the net.
pub record SetsExist (a : Atn) : Type 0 where
  pub sets : WithinSets
  pub agree : Agree (net_of a) sets

-- Two that agree with it are equal.
abbrev pub SetsOnce : Net → Type 0
SetsOnce n = (v w : WithinSets) → Agree n v → Agree n w → v ≡ w
