use Rattle.std.proofs.Common.{◌+◌, get_or, refl, sym, ◌∙◌, subst, Decides, arith}
use Rattle.atn.specs.Checked.{net_of}
use Rattle.ll1_analyzer.specs.Sets.{Within, Recovery}
use Rattle.ll1_analyzer.specs.Answers.{HoldsExactly}
use Rattle.ll1_analyzer.specs.Chains.{ChainFault}
use Rattle.ll1_analyzer.proofs.Denying.{denied_as}
use Rattle.ll1_analyzer.proofs.Keeping.{keeps_both}
use Rattle.ll1_analyzer.proofs.Joining.{WithinBefore, joined_more, recovered}
use Rattle.ll1_analyzer.proofs.sets.get_error_recovery_set.Goals as goal

pub loop-f-preserved : goal.loop-f-preserved
loop-f-preserved g c =
    let n = net_of (g.L.Lookahead.atn c.args.l.now) in
    let fs = c.as_slice-f-items.result.now in
    let i = c.loop-f.f-index in
    record {
      keeps = keeps_both c.loop-f.invariant.keeps c.within.ensures.keeps;
      joined = λ h x. subst (λ b. Decides b (WithinBefore n fs (i + 1) x)) (sym (c.add_set.ensures x))
          (joined_more n fs x i _ _ c.loop-f-test.true (c.loop-f.invariant.joined h x)
          (subst (λ a. HoldsExactly c.within.result (Within (net_of a) (get_or fs i 0))) c.loop-f.invariant.keeps.net (c.within.ensures.answers (c.loop-f.invariant.keeps.agreement h)) x));
    }

pub returns-clause-holds : goal.returns-clause-holds
returns-clause-holds g c h =
    let a = g.L.Lookahead.atn c.args.l.now in
    subst (λ fs. HoldsExactly c.remove_one.new.self (Recovery (net_of a) fs)) (c.as_slice-f-items.ensures.items ∙ c.in_ok-follows.ensures.follows)
    (recovered a c.as_slice-f-items.result.now c.loop-f.set c.remove_one.new.self c.loop-f.f-index (omega arith) (c.loop-f.invariant.joined h) c.remove_one.ensures)

pub returns-in_err-follows-clause-verdict : goal.returns-in_err-follows-clause-verdict
returns-in_err-follows-clause-verdict g c =
    let d = c.in_err-follows.field-0.0 in
    denied_as (ChainFault (net_of (g.L.Lookahead.atn c.args.l.now)) c.args.chain.now) c.from_residual.result d c.from_residual.ensures.1 (c.in_err-follows.ensures.verdict.denied d refl)
