-- The token indexes, lines and columns of tokens that are shown are within the limits of leaves.
use Rattle.std.proofs.Common.{◌≡◌, ℕ, ◌<◌, ◌≤◌, List, length, Some, sym, ◌∙◌, subst, arith}
use Rattle.std.specs.Option.{ForSome}
use Rattle.token.specs.Tokens.{Fields, token_index}
use Rattle.token_stream.specs.Tapes.{token_at, Placed}
use Rattle.token_stream.specs.Streams.{Shows}
use Rattle.recovery_model.specs.LeafLimits.{ShownFits, MissingSymbolFits}

-- a token that is shown is in its place on the tape
pub shown_placed : (tape shown : List Fields) → Shows tape shown → (k : ℕ) → k < length shown → Placed (token_at shown k) (token_index (token_at shown k))
shown_placed tape shown s k l = let named = s.named k l in subst (λ t. Placed t (token_index (token_at shown k))) named.same (s.sound.placed (token_index (token_at shown k)) named.inside)

pub shtoken_index : (tape shown : List Fields) → Shows tape shown → (k : ℕ) → k < length shown → ForSome (token_at shown k).index (λ i. i ≤ 65534)
shtoken_index tape shown s k l i is =
    let named = s.named k l in
    let same : Some i ≡ Some (token_index (token_at shown k)) = sym is ∙ named.index in
    let own_is : i ≡ token_index (token_at shown k) = cc in
    omega (arith, own_is, named.inside, s.sound.bounded)

pub shown_fit : (tape shown : List Fields) → Shows tape shown → ShownFits shown
shown_fit tape shown s k l kind depth rule rest = record {
  some_open = rest.some_open;
  depth = rest.depth;
  rule = rest.rule;
  typ = rest.typ;
  index = shtoken_index tape shown s k l;
  line = (shown_placed tape shown s k l).line;
  column = (shown_placed tape shown s k l).column;
}

pub missing_symbol_fits : (tape shown : List Fields) → Shows tape shown → MissingSymbolFits tape
missing_symbol_fits tape shown s k l kind depth rule typ rest = record {
  some_open = rest.some_open;
  depth = rest.depth;
  rule = rest.rule;
  typ = rest.typ;
  index = λ i is. cc;
  line = (s.sound.placed k l).line;
  column = (s.sound.placed k l).column;
}
