-- What it means that the rows of a table have been read.
use Rattle.std.specs.Prelude.{◌≡◌, ℕ, ◌<◌, List, length, take, ℤ, pos, ◌≤ℤ◌, slice_index_or}
use Rattle.atn_graph.specs.declared.tables.StateRow.{StateRow}
use Rattle.atn_graph.specs.declared.tables.EdgeRow.{EdgeRow}
use Rattle.atn_graph.specs.declared.atn_state.AtnState.{AtnState}
use Rattle.atn_graph.specs.declared.transition.TransitionKind.{TransitionKind}
use Rattle.atn_graph.specs.Kinds.{transition_number}
use Rattle.atn_graph.specs.Net.{no_state, end_before}
use Rattle.atn_graph.specs.Written.{Columns, WritesState, no_state_row}

-- the table has at least that count of rows, which is not below 0
abbrev pub IsCount : {R : Type 0} → ℤ → List R → Type 0
IsCount count table = (pos 0 ≤ℤ count) × (count ≤ℤ pos (length table))

-- the first count rows of the table
abbrev pub FirstRows : {R : Type 0} → ℤ → List R → List R → Type 0
FirstRows count table rows = (pos (length rows) ≡ count) × (rows ≡ take (length rows) table)

abbrev pub KindRead : EdgeRow → TransitionKind → Type 0
KindRead row k = (row.kind ≡ pos (transition_number k)) × Columns row k

-- the states of the first count rows, each of whose edges follow those of the one before
abbrev pub StatesRead : List StateRow → ℕ → List AtnState → Type 0
StatesRead rows count ss = (s : ℕ) → s < count
    → WritesState
    (slice_index_or rows s no_state_row) (end_before ss s) (slice_index_or ss s no_state)
