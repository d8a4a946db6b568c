use Rattle.std.proofs.Common.{rules, ◌≡◌, sym, subst}
use Rattle.errors.specs.declared.denial.Denial.TheVariants.{StateOutside}
use Rattle.errors.specs.Denials.{First}
use Rattle.atn.specs.Checked.{net_of}
use Rattle.ll1_analyzer.specs.Chains.{StateFault}
use Rattle.ll1_analyzer.proofs.Denying.{denied_as, kind_outside, outside_first}
use Rattle.ll1_analyzer.proofs.sets.next_tokens.Goals as goal

pub returns-in_err-ok_or-clause-verdict : goal.returns-in_err-ok_or-clause-verdict
returns-in_err-ok_or-clause-verdict g c =
    let n = net_of (g.L.Lookahead.atn c.args.l.now) in
    let d = c.in_err-ok_or.field-0.0 in
    let is : d ≡ StateOutside = search rules in
    denied_as (StateFault n c.args.s) c.from_residual.result d c.from_residual.ensures.1
    (subst (First (StateFault n c.args.s)) (sym is) (outside_first n c.args.s (kind_outside n c.args.s c.kind.result c.kind.ensures.kind (sym c.in_err-ok_or.ensures.variant))))
