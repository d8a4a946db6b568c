-- The tape law: what holds of every list of calls of a parser.
use Rattle.std.specs.Prelude.{◌≡◌, ℕ, ◌+◌, ◌<◌, ◌≤◌, ◌⊎◌, Bool, true, false, not, ◌&&◌, ◌==◌, List, [], ◌∷◌, ◌++◌, length, map, filter, count_by, reverse, Option, Some, None}
use Rattle.atn_graph.specs.Net.{Net, size}
use Rattle.ll1_analyzer.specs.Sets.{Recovery}
use Rattle.leaves.specs.Leaves.{LeafFields as Leaf}
use Rattle.token.specs.declared.token_type.TokenType.{TokenType}
use Rattle.token.specs.Tokens.{Fields, type_number, token_index, is_eof}
use Rattle.token_stream.specs.Tapes.{token_at}
use Rattle.recovery_model.specs.Journals.{Event}
use Rattle.recovery_model.specs.Histories.{open_follows, shown_from, is_recover, searched_from}

-- the event e stands in the journal, with h before it, latest first
pub record Occurs (js : List Event) (h : List Event) (e : Event) : Type 0 where
  pub later : List Event
  pub parts : js ≡ reverse h ++ e ∷ later

-- the place at which a journal ends that began at p
abbrev pub end_place : ℕ → List Event → ℕ
end_place p [] = p
end_place p (e ∷ js) = end_place e.after js

-- each event begins where the one before it ended
abbrev pub Linked : ℕ → List Event → Type 0
Linked p [] = Unit {0}
Linked p (e ∷ js) = (e.before ≡ p) × Linked e.after js

-- a type may follow an open rule
abbrev pub MayFollow : Net → List Event → Fields → Type 0
MayFollow n h t = Recovery n (open_follows n h) (type_number t.typ)

-- A search from the place q ends on the first token shown there that is EOF or may follow an open rule.
pub record EndsOn (n : Net) (h : List Event) (shown : List Fields) (q p : ℕ) : Type 0 where
  pub passed : List Fields
  pub rest : List Fields
  pub parts : shown_from q shown ≡ passed ++ rest
  pub place : token_index (token_at rest 0) ≡ p
  pub some : 0 < length rest
  pub stops : (is_eof (token_at rest 0).typ ≡ true) ⊎ MayFollow n h (token_at rest 0)
  pub passes : (k : ℕ) → k < length passed → (is_eof (token_at passed k).typ ≡ false) × (MayFollow n h (token_at passed k) → ⊥)

-- what a leaf says of its token, and what a token says that becomes a leaf
pub record Mark : Type 0 where
  pub typ : TokenType
  pub index : Option ℕ
  pub line : ℕ
  pub column : ℕ

abbrev pub leaf_mark : Leaf → Mark
leaf_mark l = record { typ = l.typ; index = l.index; line = l.line; column = l.column }

abbrev pub token_mark : Fields → Mark
token_mark t = record { typ = t.typ; index = t.index; line = t.position.0; column = t.position.1 }

-- a leaf of a token that was dropped: it is neither EOF, which stays, nor a missing symbol
abbrev pub is_of_a_dropped : Leaf → Bool
is_of_a_dropped l = not (is_eof l.typ) && at l.index
  where
    at : Option ℕ → Bool
    at None = false
    at (Some i) = true

-- how many recovers were begun at the place
abbrev pub recovers_at : ℕ → List Event → ℕ
recovers_at p js = count_by (λ e. is_recover e && (e.before == p)) js

-- The journal tells where the parser stands; a recover searches from the token first shown, or the failsafe skips that one; and
-- it ends on the first token that is EOF or may follow an open rule. Tokens are dropped in their order, and what was dropped
-- and what is shown is what was shown at first; the leaves that were added are those of the dropped tokens, each once and in
-- their order, beside leaves of EOF and of missing symbols. At a token that is not EOF at most as many recovers are begun as
-- there are states, and one more: then the token is passed.
pub record Law (n : Net) (first : List Fields) (first_leaves : List Leaf) (js : List Event) (shown : List Fields) (leaves : List Leaf) : Type 0 where
  pub linked : Linked (token_index (token_at first 0)) js
  pub ends_on : (h : List Event) (e : Event) → Occurs js h e → is_recover e ≡ true → EndsOn n h first (searched_from n first h e) e.after
  pub dropped : List Fields
  pub dropped_then_shown : first ≡ dropped ++ shown
  pub shown_is_left : shown ≡ shown_from (end_place (token_index (token_at first 0)) js) first
  pub added : List Leaf
  pub leaves_then_added : leaves ≡ first_leaves ++ added
  pub leaves_are_dropped : map leaf_mark (filter is_of_a_dropped added) ≡ map token_mark dropped
  pub bounded_recovers : (t : Fields) (k : ℕ) → k < length first → token_at first k ≡ t → is_eof t.typ ≡ false → recovers_at (token_index t) js ≤ size n + 1
