use Rattle.script.specs.Contents.{content}
use Rattle.answers.proofs.Tables.{checked}
use Rattle.answers.proofs.net_answers.NetAnswer.of.Goals as goal

pub returns : goal.returns
returns c = (
  checked (content c.args.script.now) c.in_ok-tables.tables c.check.result c.in_ok-tables.ensures c.check.ensures.verdict c.check.ensures.written,
  c.wants_summary.ensures,
)
