use Rattle.std.proofs.Common.{◌∙◌, ap, sym, subst}
use Rattle.atn.specs.Checked.{net_of}
use Rattle.answers.specs.Asking.{Answer, room_after}
use Rattle.answers.specs.Leaves.{room}
use Rattle.ll1_analyzer.proofs.Keeping.{keeps_both}
use Rattle.answers.proofs.EachMore.{each_more, room_more}
use Rattle.answers.proofs.replies.answer_each.Goals as goal

pub loop-question-preserved : goal.loop-question-preserved
loop-question-preserved g c =
    let n = net_of (g.L.Lookahead.atn c.args.l.now) in
    let shown = c.args.shown.now in
    let qs = c.args.questions.now in
    let i = c.loop-question.question-index in
    let q = c.question-item.result in
    let places = room c.args.lists.now.table in
    record {
      keeps = keeps_both c.loop-question.invariant.keeps c.answer_one.ensures.keeps;
      answered = λ h. each_more n shown qs i q c.loop-question-test.true c.question-item.is places _ _ _ c.in_ok-push.ensures.items (c.loop-question.invariant.answered h)
          (subst (λ k. Answer n shown k q.ask c.in_ok-answer_one.field-0) c.loop-question.invariant.left
          (subst (λ a. Answer (net_of a) shown (room c.loop-question.lists.table) q.ask c.in_ok-answer_one.field-0) c.loop-question.invariant.keeps.net (c.in_ok-answer_one.ensures.answers (c.loop-question.invariant.keeps.agreement h))));
      left = c.in_ok-answer_one.ensures.room ∙ ap (room_after q.ask) c.loop-question.invariant.left ∙ sym (room_more n shown qs i q c.loop-question-test.true c.question-item.is places);
    }
