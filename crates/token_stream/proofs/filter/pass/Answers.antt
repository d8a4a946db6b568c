use Rattle.std.proofs.Common.{ap, ◌∙◌, arith}
use Rattle.token_stream.specs.Streams.{passed}
use Rattle.token_stream.proofs.Looking.{passed_drop}
use Rattle.token_stream.proofs.filter.pass.Goals as goal

pub loop-preserved : goal.loop-preserved
loop-preserved g c =
    let ts = g.S.IntStream.shown c.args.below.now in
    record {
      tape = c.consume.ensures.keeps_tape ∙ c.loop.invariant.tape;
      shown = c.consume.ensures.drops_first_unless_eof ∙ ap passed c.loop.invariant.shown
          ∙ passed_drop ts c.loop.counter (g.S.IntStream.lawful c.args.below.now).ends (omega (arith, c.loop-test.true, c.requires));
    }
