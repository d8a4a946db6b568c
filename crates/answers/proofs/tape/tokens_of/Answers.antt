use Rattle.std.proofs.Common.{◌≡◌, ◌∙◌, ◌∷◌, [], length, map, refl, ap, sym, subst, Some, arith, rules}
use Rattle.std.proofs.lemmas.List.{map-append, length-map}
use Rattle.std.proofs.lemmas.Slice.Zip.{AllZip-long}
use Rattle.token.specs.Kinds.{common_fields}
use Rattle.token_stream.specs.Tapes.{no_token, token_at}
use Rattle.script_lines.specs.TokenRows.{WritesToken}
use Rattle.answers.specs.Tapes.{Numbered}
use Rattle.answers.proofs.Written.{numbered_push}
use Rattle.script_lines.proofs.Zipped.{zip_at, zip_more}
use Rattle.answers.proofs.tape.tokens_of.Goals as goal

pub returns-in_default-clause-none : goal.returns-in_default-clause-none
returns-in_default-clause-none g c = (refl, λ tape written sound. c.in_default.ensures (omega (arith, c.len.ensures, sound.bounded, AllZip-long (WritesToken g.S.KeptSpan.kept) c.args.rows.now tape written, c.loop-row-test.true, c.loop-row.invariant.count)))

pub returns-in_default-token-clause-none : goal.returns-in_default-token-clause-none
returns-in_default-token-clause-none g c =
    let writes = WritesToken g.S.KeptSpan.kept in
    let row = c.row-item.result in (
      refl,
      λ tape written sound. c.in_default-token.ensures.written (token_at tape c.loop-row.row-index)
          (subst (λ r. writes r (token_at tape c.loop-row.row-index)) (sym c.row-item.is) (zip_at writes c.args.rows.now tape c.loop-row.row-index row no_token written c.loop-row-test.true)),
    )

pub loop-row-preserved : goal.loop-row-preserved
loop-row-preserved g c =
    let kept = g.S.KeptSpan.kept in
    let fields = common_fields kept in
    let items = c.loop-row.tokens.items in
    let token = c.in-Some.token in
    let pushed = ap (map fields) c.in_ok-push.ensures.items ∙ map-append fields items (token ∷ []) in
    let place : c.in-Ok.place ≡ length items = search rules in
    record {
      count = search rules;
      written = zip_more (WritesToken kept) c.args.rows.now (map fields items) _ c.loop-row.row-index _ _ _ c.loop-row-test.true c.row-item.is pushed c.loop-row.invariant.written c.in-Some.ensures.written;
      numbered = subst Numbered (sym pushed) (numbered_push (map fields items) (fields token) c.loop-row.invariant.numbered (c.in-Some.ensures.index ∙ ap Some (place ∙ sym (length-map items fields))));
    }
