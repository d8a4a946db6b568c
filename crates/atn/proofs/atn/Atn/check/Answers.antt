use Rattle.std.proofs.Common.{refl}
use Rattle.std.proofs.lemmas.Result.{err_from_is_err_and}
use Rattle.std.proofs.lemmas.Bool.{both_ways}
use Rattle.errors.proofs.Firsts.{accepts, denies}
use Rattle.atn_graph.specs.Tables.{rows}
use Rattle.atn.specs.Checked.{NetFault}
use Rattle.atn.proofs.Verdict.{first_of_tables, first_recursive, no_fault}
use Rattle.atn.proofs.atn.Atn.check.Goals as goal

pub returns-in_err-graph : goal.returns-in_err-graph
returns-in_err-graph c =
    let t = rows c.args.t.now in
    let p = err_from_is_err_and c.from_residual.result c.from_residual.ensures.1 in
    let d = c.in_err-graph.field-0.0 in
    rw (p.1, p.2) (record { verdict = denies (NetFault t) d (first_of_tables t d (c.in_err-graph.ensures.verdict.denied d refl)); written = tt })

pub returns-then-is_left_recursive : goal.returns-then-is_left_recursive
returns-then-is_left_recursive c =
    let t = rows c.args.t.now in
    let w = c.in_ok-graph.ensures in
    record { verdict = denies (NetFault t) _ (first_recursive t _ w.written (w.verdict.accepted refl) (c.is_left_recursive.ensures.0 c.if-is_left_recursive.true)); written = tt }

pub returns : goal.returns
returns c =
    let t = rows c.args.t.now in
    let w = c.in_ok-graph.ensures in
    record { verdict = accepts (NetFault t) _ (no_fault t _ w.written (w.verdict.accepted refl) (λ r. both_ways _ c.if-is_left_recursive.false (c.is_left_recursive.ensures.1 r))); written = w.written }
