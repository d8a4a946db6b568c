use Rattle.std.proofs.Common.{ap, ◌∙◌, drop}
use Rattle.token_stream.specs.Streams.{filtered}
use Rattle.token_stream.proofs.Looking.{eof_at, passed_first}
use Rattle.token_stream.proofs.filter.FilterIntStream.consume.Goals as goal

pub returns-then-not-is_eof_at-clause-drops_first_unless_eof : goal.returns-then-not-is_eof_at-clause-drops_first_unless_eof
returns-then-not-is_eof_at-clause-drops_first_unless_eof g c =
    let below = c.args.self.now.below in
    let ts = g.S.IntStream.shown below in
    let next = c.next_visible-first.ensures.next in
    let kept = c.next_visible-first.ensures.keeps.same_shown in
    let eof = eof_at (g.S.IntStream.shown c.next_visible-first.new.below) ts c.next_visible-first.result _ c.is_eof_at.ensures.eof kept next.after next.within in
    ap filtered (c.pass.ensures.drops ∙ ap (drop c.next_visible-first.result) (c.is_eof_at.ensures.keeps.same_shown ∙ kept)) ∙ passed_first ts c.next_visible-first.result next (eof ∙ c.if-not-is_eof_at.true)
