-- The rows of a table, and one more.
use Rattle.std.specs.Prelude.{◌≡◌, ℕ, ◌⊎◌, List, [], ◌∷◌, ◌++◌, length, Some, None, Ok, Err, Option, Result}
use Rattle.script.specs.declared.faults.Fault.{Fault}
use Rattle.script.specs.declared.faults.Fault.TheVariants.{FullTable, Memory}

-- one more at the end
abbrev pub pushed : {X : Type 0} → List X → X → List X
pushed xs x = xs ++ x ∷ []

-- A table takes a million rows, and no more leaves have room.
abbrev pub full : ℕ
full = 1000000

-- The fault f refuses a row: its table of so many rows is full, or memory ran out. An option is never refused.
abbrev pub RefusedAt : Option ℕ → Fault → Type 0
RefusedAt None f = ⊥
RefusedAt (Some n) f = ((f ≡ FullTable) × (n ≡ full)) ⊎ (f ≡ Memory)

-- The row is put at the table's end; or it is refused, and then nothing changes.
abbrev pub RowAdded : {X : Type 0} → List X → X → Result (Unit {0}) Fault → List X → Type 0
RowAdded before x (Ok u) after = after ≡ pushed before x
RowAdded before x (Err f) after = (after ≡ before) × RefusedAt (Some (length before)) f
