use Rattle.reports.proofs.Expected.{count_types, few_types, few_fit}
use Rattle.reports.proofs.report.count_of.Goals as goal

pub overflow_cast-result : goal.overflow_cast-result
overflow_cast-result c = few_fit c.length.result (few_types c.args.types.now c.length.result c.requires c.length.ensures)

pub returns-clause-count : goal.returns-clause-count
returns-clause-count c = count_types c.args.types.now c.length.result c.length.ensures

pub returns-clause-bounded : goal.returns-clause-bounded
returns-clause-bounded c = few_types c.args.types.now c.length.result c.requires c.length.ensures
