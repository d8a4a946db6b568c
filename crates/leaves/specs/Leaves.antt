-- What a leaf says, and the limits of its fields.
use Rattle.std.specs.Prelude.{ℕ, ◌<◌, ◌≤◌, pos, ◌≤ℤ◌, Option}
use Rattle.std.specs.Option.{ForSome}
use Rattle.token.specs.declared.token.TheConstants.{MAX_POSITION}
use Rattle.token.specs.declared.token_type.TokenType.{TokenType}
use Rattle.token.specs.Tokens.{type_number}
use Rattle.leaves.specs.declared.leaf.TheConstants.{MAX_DEPTH, MAX_RULE, MAX_INDEX}
use Rattle.leaves.specs.declared.leaf.LeafKind.{LeafKind}
use Rattle.leaves.specs.declared.leaf.LeafKind.TheVariants.{Terminal, Error}

-- the numbers of the kinds
abbrev pub leaf_number : LeafKind → ℕ
leaf_number Terminal = 1
leaf_number Error = 2

-- All that a leaf says.
pub record LeafFields : Type 0 where
  pub kind : LeafKind
  pub depth : ℕ
  pub rule : ℕ
  pub typ : TokenType
  pub index : Option ℕ
  pub line : ℕ
  pub column : ℕ

-- the leaf with these fields
abbrev pub leaf_of : LeafKind → ℕ → ℕ → TokenType → Option ℕ → ℕ × ℕ → LeafFields
leaf_of kind depth rule typ index position =
    record { kind = kind; depth = depth; rule = rule; typ = typ; index = index; line = position.0; column = position.1 }

-- Each field is within its limits.
pub record LeafFits (l : LeafFields) : Type 0 where
  pub some_open : 0 < l.depth
  pub depth : l.depth ≤ MAX_DEPTH
  pub rule : l.rule ≤ MAX_RULE
  pub typ : type_number l.typ ≤ℤ pos 255
  pub index : ForSome l.index (λ i. i ≤ MAX_INDEX)
  pub line : l.line ≤ MAX_POSITION
  pub column : l.column ≤ MAX_POSITION
