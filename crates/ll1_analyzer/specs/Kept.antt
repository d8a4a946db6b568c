-- What it means that the sets that are kept are within-rule sets.
use Rattle.std.specs.Prelude.{◌≡◌, ℕ, List, length, slice_get, slice_index_or, Some, None, Option}
use Rattle.interval_set.specs.declared.set.IntervalSet.{IntervalSet}
use Rattle.atn_graph.specs.Net.{Net, size}
use Rattle.ll1_analyzer.specs.declared.cache.Slot.{Slot}
use Rattle.ll1_analyzer.specs.Sets.{Within}
use Rattle.ll1_analyzer.specs.Answers.{HoldsExactly}

-- the sets are those of the first states, in their order
abbrev pub AreFirst : Net → List IntervalSet → Type 0
AreFirst n sets = (s : ℕ) (set : IntervalSet) → slice_get sets s ≡ Some set → HoldsExactly set (Within n s)

-- and there is one for each state
abbrev pub AreWithin : Net → List IntervalSet → Type 0
AreWithin n sets = (length sets ≡ size n) × AreFirst n sets

-- each set in a slot is that of the state that the slot names
abbrev pub SlotsWithin : Net → List (Option Slot) → Type 0
SlotsWithin n slots = (i : ℕ) (slot : Slot) → slice_index_or slots i None ≡ Some slot → HoldsExactly slot.set (Within n slot.state)
