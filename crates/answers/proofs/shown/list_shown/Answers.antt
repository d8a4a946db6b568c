use Rattle.std.proofs.Common.{◌≡◌, ◌∙◌, ◌+◌, length, pos, take, ap, sym, subst, to_z, w32, rules, arith, ◌<◌}
use Rattle.std.proofs.lemmas.Int.{to_z_pos}
use Rattle.std.proofs.lemmas.List.{length_push}
use Rattle.std.proofs.lemmas.Grind.{common_steps}
use Rattle.token.specs.Tokens.{is_eof}
use Rattle.token_stream.specs.Streams.{shown_at}
use Rattle.token_stream.proofs.Shown.{few_shown}
use Rattle.answers.proofs.Listed.{one_more, not_last}
use Rattle.answers.proofs.shown.list_shown.Goals as goal

pub overflow_cast-ahead : goal.overflow_cast-ahead
overflow_cast-ahead g c =
    let stream = c.args.stream.now in
    let few = few_shown (g.S.IntStream.tape stream) (g.S.IntStream.shown stream) (g.S.IntStream.lawful stream) in
    grind (arith, common_steps, few)

pub returns-then-is_eof-clause-shown : goal.returns-then-is_eof-clause-shown
returns-then-is_eof-clause-shown g c =
    let stream = c.args.stream.now in
    let few = few_shown (g.S.IntStream.tape stream) (g.S.IntStream.shown stream) (g.S.IntStream.lawful stream) in
    grind (arith, common_steps, few)

pub loop-tokens-preserved : goal.loop-tokens-preserved
loop-tokens-preserved g c =
    let shown = g.S.IntStream.shown c.args.stream.now in
    let items = c.loop-tokens.tokens.items in
    let law = g.S.IntStream.lawful c.args.stream.now in
    let few = few_shown (g.S.IntStream.tape c.args.stream.now) shown law in
    let count : c.len-ahead.result ≡ length items = search rules in
    let ahead : to_z w32 (c.len-ahead.result + 1) ≡ pos (length items + 1) = to_z_pos w32 (c.len-ahead.result + 1) (omega (arith, count, few, c.loop-tokens.invariant.more)) ∙ ap (λ n. pos (n + 1)) count in
    let is : c.of-token.result ≡ shown_at shown (pos (length items + 1)) =
    c.of-token.ensures ∙ c.lt.ensures.token_ahead ∙ ap (λ ts. shown_at ts (to_z w32 (c.len-ahead.result + 1))) c.loop-tokens.invariant.keeps.same_shown ∙ ap (shown_at shown) ahead in
    let pushed = c.in_ok-push.ensures.items in
    let long = ap length pushed ∙ length_push items c.of-token.result in
    let next = one_more (g.S.IntStream.tape c.args.stream.now) shown law (length items) c.loop-tokens.invariant.more _ is items c.loop-tokens.invariant.first in
    record {
      keeps = search rules;
      more = subst (λ k. k < length shown) (sym long) (not_last (g.S.IntStream.tape c.args.stream.now) shown law (length items) c.loop-tokens.invariant.more _ is (sym (ap (λ f. is_eof f.typ) c.token.view_is) ∙ sym c.is_eof.ensures ∙ c.if-is_eof.false));
      first = pushed ∙ next ∙ ap (λ k. take k shown) (sym long);
    }
