use Rattle.std.proofs.Common.{◌≡◌, ◌-◌, ◌<◌, length, take}
use Rattle.token_stream.specs.Streams.{KeepsShown}
use Rattle.answers.proofs.shown.list_shown.Given as goal

-- the tokens so far are the first that are shown, and EOF is not among them
abbrev pub invariant-loop-tokens : goal.invariant-loop-tokens
invariant-loop-tokens g l = record {
  keeps : KeepsShown g.S.IntStream.tape g.S.IntStream.shown l.fn.stream l.stream;
  more : length l.tokens.items < length (g.S.IntStream.shown l.fn.stream);
  first : l.tokens.items ≡ take (length l.tokens.items) (g.S.IntStream.shown l.fn.stream);
}

abbrev pub decreases-loop-tokens : goal.decreases-loop-tokens
decreases-loop-tokens g l = length (g.S.IntStream.shown l.fn.stream) - length l.tokens.items
