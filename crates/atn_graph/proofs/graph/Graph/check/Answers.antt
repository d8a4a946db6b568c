use Rattle.std.proofs.Common.{◌≡◌, false, Err, sym, ◌∙◌, subst, rules}
use Rattle.errors.specs.Denials.{DeniesFirst}
use Rattle.errors.specs.declared.denial.Denial.TheVariants.{BrokenRule}
use Rattle.errors.proofs.Firsts.{accepts, denies}
use Rattle.atn_graph.specs.Tables.{rows, short_table, outside_limits}
use Rattle.atn_graph.specs.Net.{Net, net}
use Rattle.atn_graph.specs.Written.{WritesNet}
use Rattle.atn_graph.specs.Faults.{TableFault}
use Rattle.atn_graph.proofs.Verdict.{first_short, first_outside, first_broken, no_fault, broken_once}
use Rattle.atn_graph.proofs.graph.Graph.check.Goals as goal

pub returns-then-is_short-clause-verdict : goal.returns-then-is_short-clause-verdict
returns-then-is_short-clause-verdict c =
    let t = rows c.args.t.now in
    denies (TableFault t) _ (first_short t (sym c.is_short.ensures ∙ c.if-is_short.true))

pub returns-then-is_outside-clause-verdict : goal.returns-then-is_outside-clause-verdict
returns-then-is_outside-clause-verdict c =
    let t = rows c.args.t.now in
    let long : short_table t ≡ false = sym c.is_short.ensures ∙ c.if-is_short.false in
    denies (TableFault t) _ (first_outside t long (sym c.is_outside.ensures ∙ c.if-is_outside.true))

pub returns-in_default-clause-verdict : goal.returns-in_default-clause-verdict
returns-in_default-clause-verdict c =
    let t = rows c.args.t.now in
    let long : short_table t ≡ false = sym c.is_short.ensures ∙ c.if-is_short.false in
    let within : outside_limits t ≡ false = sym c.is_outside.ensures ∙ c.if-is_outside.false in
    let none : (n : Net) → WritesNet t n → ⊥ = search rules in
    denies (TableFault t) _ (first_broken t long within (λ n w s. none n w))

pub returns-in_err-check_rules-clause-verdict : goal.returns-in_err-check_rules-clause-verdict
returns-in_err-check_rules-clause-verdict c =
    let t = rows c.args.t.now in
    let long : short_table t ≡ false = sym c.is_short.ensures ∙ c.if-is_short.false in
    let within : outside_limits t ≡ false = sym c.is_outside.ensures ∙ c.if-is_outside.false in
    let w : WritesNet t (net c.in-Some.lists) = search rules in
    let denied : c.from_residual.result ≡ Err BrokenRule = search rules in
    subst (DeniesFirst (TableFault t)) (sym denied) (denies (TableFault t) _ (first_broken t long within (broken_once t _ w c.in_err-check_rules.ensures.1)))

pub returns-clause-verdict : goal.returns-clause-verdict
returns-clause-verdict c =
    let t = rows c.args.t.now in
    let long : short_table t ≡ false = sym c.is_short.ensures ∙ c.if-is_short.false in
    let within : outside_limits t ≡ false = sym c.is_outside.ensures ∙ c.if-is_outside.false in
    let w : WritesNet t (net c.in-Some.lists) = search rules in
    accepts (TableFault t) _ (no_fault t _ long within w c.in_ok-check_rules.ensures)
