use Rattle.std.proofs.Common.{rules, ◌≡◌, refl, sym, subst}
use Rattle.errors.specs.declared.denial.Denial.TheVariants.{StateOutside}
use Rattle.errors.specs.Denials.{First}
use Rattle.atn.specs.Checked.{net_of}
use Rattle.ll1_analyzer.specs.Chains.{QuestionFault}
use Rattle.ll1_analyzer.proofs.Denying.{denied_as, kind_outside, chain_first, state_first}
use Rattle.ll1_analyzer.proofs.sets.get_expected_tokens.Goals as goal

pub returns-in_err-follows-clause-verdict : goal.returns-in_err-follows-clause-verdict
returns-in_err-follows-clause-verdict g c =
    let n = net_of (g.L.Lookahead.atn c.args.l.now) in
    let d = c.in_err-follows.field-0.0 in
    denied_as (QuestionFault n c.args.s c.args.chain.now) c.from_residual.result d c.from_residual.ensures.1
    (chain_first n c.args.s c.args.chain.now d (c.in_err-follows.ensures.verdict.denied d refl))

pub returns-in_err-ok_or-clause-verdict : goal.returns-in_err-ok_or-clause-verdict
returns-in_err-ok_or-clause-verdict g c =
    let n = net_of (g.L.Lookahead.atn c.args.l.now) in
    let d = c.in_err-ok_or.field-0.0 in
    let is : d ≡ StateOutside = search rules in
    denied_as (QuestionFault n c.args.s c.args.chain.now) c.from_residual-in_err-ok_or.result d c.from_residual-in_err-ok_or.ensures.1
    (subst (First (QuestionFault n c.args.s c.args.chain.now)) (sym is)
    (state_first n c.args.s c.args.chain.now (c.in_ok-follows.ensures.verdict.accepted refl) (kind_outside n c.args.s c.kind.result c.kind.ensures.kind (sym c.in_err-ok_or.ensures.variant))))
