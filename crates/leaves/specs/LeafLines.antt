-- How leaves are written as lines of text.
use Rattle.std.specs.Prelude.{◌≡◌, ℕ, ◌-◌, List, [], ◌∷◌, ◌++◌, length, replicate, ℤ, pos, All}
use Rattle.std.specs.List.{flat_map}
use Rattle.std.specs.Fmt.{signed_decimal}
use Rattle.token.specs.Tokens.{type_number, index_number}
use Rattle.leaves.specs.declared.lines.TheConstants.{COLUMN_WIDTH}
use Rattle.leaves.specs.Leaves.{LeafFields, LeafFits, leaf_number}

-- a number, right-justified in a column of eight bytes
unfoldable pub column : ℤ → List ℕ
column n = replicate (COLUMN_WIDTH - length (signed_decimal n)) 32 ++ signed_decimal n

-- the seven numbers of a line
abbrev pub numbers : LeafFields → List ℤ
numbers l = pos (leaf_number l.kind) ∷ pos l.depth ∷ pos l.rule ∷ type_number l.typ ∷ index_number l.index ∷ pos l.line ∷ pos l.column ∷ []

unfoldable pub leaf_line : LeafFields → List ℕ
leaf_line l = flat_map column (numbers l) ++ 10 ∷ []

-- The text is the lines of these leaves.
pub record Written (text : List ℕ) : Type 0 where
  pub leaves : List LeafFields
  pub fit : All LeafFits leaves
  pub lines : text ≡ flat_map leaf_line leaves
