-- Leaves of the tokens that a stream shows, and of missing symbols in the place of a token of its tape, are within the limits.
use Rattle.std.specs.Prelude.{ℕ, ◌<◌, ◌≤◌, List, length, pos, ◌≤ℤ◌, None}
use Rattle.token.specs.declared.token_type.TokenType.{TokenType}
use Rattle.token.specs.Tokens.{Fields, type_number}
use Rattle.token_stream.specs.Tapes.{token_at}
use Rattle.leaves.specs.declared.leaf.LeafKind.{LeafKind}
use Rattle.leaves.specs.Leaves.{leaf_of, LeafFits}

-- What a leaf says beside its token's place is within the limits: the depth, the rule and the type.
pub record RestFits (d r : ℕ) (t : TokenType) : Type 0 where
  pub some_open : 0 < d
  pub depth : d ≤ 64
  pub rule : r ≤ 63
  pub typ : type_number t ≤ℤ pos 255

-- a leaf of a token that is shown
abbrev pub ShownFits : List Fields → Type 0
ShownFits shown =
    (k : ℕ) → k < length shown → (kind : LeafKind) (depth rule : ℕ) → RestFits depth rule (token_at shown k).typ →
    LeafFits (leaf_of kind depth rule (token_at shown k).typ (token_at shown k).index (token_at shown k).position)

-- a leaf of a missing symbol: it has no token index, and the line and column of a token of the tape
abbrev pub MissingSymbolFits : List Fields → Type 0
MissingSymbolFits tape =
    (k : ℕ) → k < length tape → (kind : LeafKind) (depth rule : ℕ) (typ : TokenType) → RestFits depth rule typ →
    LeafFits (leaf_of kind depth rule typ None (token_at tape k).position)
