use mathlib.Core.Path.{fun_ext}
use Rattle.std.proofs.Common.{◌∙◌}
use Rattle.interval_set.specs.Intervals.{smallest}
use Rattle.reports.proofs.Expected.{types_left, no_epsilon}
use Rattle.reports.proofs.report.types_of.Goals as goal

pub returns-clause-types : goal.returns-clause-types
returns-clause-types c = fun_ext (λ x. c.remove_one.ensures x ∙ types_left c.args.expected.now x)

pub returns-clause-no_epsilon : goal.returns-clause-no_epsilon
returns-clause-no_epsilon c = c.remove_one.ensures smallest ∙ types_left c.args.expected.now smallest ∙ no_epsilon c.args.expected.now
