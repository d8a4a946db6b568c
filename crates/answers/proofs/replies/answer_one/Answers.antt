use Rattle.std.proofs.Common.{sym, subst}
use Rattle.atn.specs.Checked.{net_of}
use Rattle.ll1_analyzer.specs.Chains.{follow_states, ChainFault, QuestionFault}
use Rattle.ll1_analyzer.specs.Sets.{InContext, Expected, Recovery}
use Rattle.answers.specs.Asking.{Answers, SetAnswer}
use Rattle.answers.proofs.replies.answer_one.Goals as goal
use Rattle.answers.proofs.replies.answer_one.Goals.{in-Within, in-InContext, in-Expected, in-Recovery}

pub returns-clause-answers : goal.returns-clause-answers
returns-clause-answers g c h =
    let n = net_of (g.L.Lookahead.atn c.args.l.now) in
    elim c.match-ask.branch [
      | in-Within w ↦
          let r = w.next_tokens-set.result in
          subst (SetAnswer n c.args.ask.now) (sym w.set-is)
          (subst (λ a. SetAnswer n a r) (sym w.in-Within.is) (record { verdict = w.next_tokens-set.ensures.verdict; set = w.next_tokens-set.ensures.holds h }))
      | in-InContext w ↦
          let r = w.next_tokens_in_ctx-set.result in
          let s = w.in-InContext.state in
          subst (SetAnswer n c.args.ask.now) (sym w.set-is)
          (subst (λ a. SetAnswer n a r) (sym w.in-InContext.is)
          (subst (λ chain. Answers (QuestionFault n s chain) (InContext n s (follow_states n chain)) r) w.as_slice.ensures.value (record { verdict = w.next_tokens_in_ctx-set.ensures.verdict; set = w.next_tokens_in_ctx-set.ensures.holds h })))
      | in-Expected w ↦
          let r = w.get_expected_tokens-set.result in
          let s = w.in-Expected.state in
          subst (SetAnswer n c.args.ask.now) (sym w.set-is)
          (subst (λ a. SetAnswer n a r) (sym w.in-Expected.is)
          (subst (λ chain. Answers (QuestionFault n s chain) (Expected n s (follow_states n chain)) r) w.as_slice-in-Expected.ensures.value (record { verdict = w.get_expected_tokens-set.ensures.verdict; set = w.get_expected_tokens-set.ensures.holds h })))
      | in-Recovery w ↦
          let r = w.get_error_recovery_set-set.result in
          subst (SetAnswer n c.args.ask.now) (sym w.set-is)
          (subst (λ a. SetAnswer n a r) (sym w.in-Recovery.is)
          (subst (λ chain. Answers (ChainFault n chain) (Recovery n (follow_states n chain)) r) w.as_slice-in-Recovery.ensures.value (record { verdict = w.get_error_recovery_set-set.ensures.verdict; set = w.get_error_recovery_set-set.ensures.holds h })))
    ]
