use Rattle.std.proofs.Common.{ap, sym, ◌∙◌, rules}
use borrow.Author.Tests.{tests}
use Rattle.std.proofs.lemmas.Bool.{both_ways}
use Rattle.std.proofs.lemmas.Iterator.{cases_from_all, YieldsList-from_slice}
use Rattle.std.proofs.lemmas.Iterator.Consumers.{YieldsList-from_enumerate}
use Rattle.token.specs.Tokens.{is_eof}
use Rattle.token_stream.proofs.Taping.{BeforeEof, eof_last, placed_last, decides_in_place}
use Rattle.token_stream.proofs.tape.all_in_place.Goals as goal
use Rattle.token_stream.proofs.tape.all_in_place.Goals.{then-is_eof, else-is_eof}

pub returns-then-is_placed : goal.returns-then-is_placed
returns-then-is_placed g c =
    let fields = g.T.Token.fields in
    let before = c.in-Some.before.now in
    let last = c.in-Some.last.now in
    elim c.if-is_eof.branch [
      | then-is_eof w ↦ decides_in_place fields c.args.tokens.now before last c.in-Some.ensures.cases.0 c.all.result
          (sym (c.is_eof.ensures ∙ ap is_eof c.token_type.ensures) ∙ w.if-is_eof.true) (w.is_placed.ensures.0 (sym w.value-is ∙ c.if-is_placed.true))
          (cases_from_all _ _ _ (BeforeEof fields) (λ p. BeforeEof fields p → ⊥) c.all.ensures.ran (YieldsList-from_enumerate (YieldsList-from_slice before cc) cc) (λ x q k. search (rules, tests)) (λ x q k. search (rules, tests)))
      | else-is_eof w ↦ absurd (both_ways _ (w.value-is ∙ w.if-is_eof.false) c.if-is_placed.true)
    ]

pub returns-else-is_placed : goal.returns-else-is_placed
returns-else-is_placed g c =
    let fields = g.T.Token.fields in
    let xs = c.args.tokens.now in
    let before = c.in-Some.before.now in
    let last = c.in-Some.last.now in
    let split = c.in-Some.ensures.cases.0 in (
      (λ e. absurd (both_ways _ c.if-is_placed.false e)),
      (λ so. elim c.if-is_eof.branch [
        | then-is_eof w ↦ w.value-is ∙ w.is_placed.ensures.1 (placed_last fields xs before last split so.1)
        | else-is_eof w ↦ absurd (both_ways _ w.if-is_eof.false (c.is_eof.ensures ∙ ap is_eof c.token_type.ensures ∙ eof_last fields xs before last split so.0))
      ]),
    )
