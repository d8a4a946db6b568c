use Rattle.std.proofs.Common.{None, Option, rules}
use Rattle.token.specs.declared.token_type.Span.{Span}
use Rattle.answers.proofs.TapeVerdict.{all_answered}
use Rattle.answers.proofs.tape.answer_lanes.Goals as goal

pub returns-in-Some : goal.returns-in-Some
returns-in-Some c =
    let kept : Unit {0} → Option Span = (λ x. None) in
    all_answered kept c.args.rows.now c.args.show c.in-Some.tokens.items c.as_slice.result.now c.as_slice.ensures.value c.answer_tokens.result
    (search rules) (search rules) c.answer_tokens.ensures.verdict c.answer_tokens.ensures.tape c.answer_tokens.ensures.shown
