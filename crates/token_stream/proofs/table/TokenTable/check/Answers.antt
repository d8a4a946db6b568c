use Rattle.std.proofs.Common.{map}
use Rattle.std.proofs.lemmas.Bool.{both_ways}
use Rattle.errors.proofs.Firsts.{denies}
use Rattle.token_stream.specs.Tapes.{TapeFault}
use Rattle.token_stream.proofs.Taping.{faulty_first}
use Rattle.token_stream.proofs.table.TokenTable.check.Goals as goal

pub returns-then-not-is_tape-clause-verdict : goal.returns-then-not-is_tape-clause-verdict
returns-then-not-is_tape-clause-verdict g c =
    let tape = map g.T.Token.fields c.args.tokens.now in
    denies (TapeFault tape) _ (faulty_first tape (λ w. both_ways _ c.if-not-is_tape.true (c.is_tape.ensures.1 w)))
