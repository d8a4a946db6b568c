use Rattle.std.proofs.Common.{ap, ◌∙◌}
use Rattle.reports.specs.Reports.{types_in, smallest_type}
use Rattle.reports.proofs.report.Report.new.Goals as goal

pub returns-clause-report : goal.returns-clause-report
returns-clause-report c =
    let count = c.count_of.ensures.count ∙ ap types_in c.types_of-types.ensures.types in
    let least = c.smallest_of.ensures ∙ ap smallest_type c.types_of-types.ensures.types in
    cc
