use Rattle.std.proofs.Common.{◌≡◌, ◌||◌, take, ℤ}
use Rattle.std.specs.List.{list_any}
use Rattle.interval_set.specs.Members.{holds}
use Rattle.atn.specs.Checked.{net_of}
use Rattle.atn.specs.Labels.{takes}
use Rattle.atn.proofs.atn.Atn.add_labels.Given as goal

-- the types of the edges so far are added
abbrev pub invariant-loop-e : goal.invariant-loop-e
invariant-loop-e l = (x : ℤ) → holds l.set x ≡ (holds l.initial.set x || list_any (λ e. takes (net_of l.self) e.kind x) (take l.e-index l.e-items))
