use Rattle.std.proofs.Common.{arith, rules}
use Rattle.std.proofs.lemmas.List.{length_push}
use Rattle.atn_graph.proofs.Rows.{zip_more}
use Rattle.atn_graph.proofs.read.read_rows.Goals as goal

pub loop-row-preserved : goal.loop-row-preserved
loop-row-preserved g c =
    let pushed = (c.push.ensures.room (omega (arith, c.loop-row.invariant.0, c.requires.bounded))).1 in (
      search (rules, length_push),
      zip_more _ c.args.rows.now _ _ c.loop-row.row-index _ _ c.loop-row-test.true c.row-item.is pushed c.loop-row.invariant.1 (search rules),
    )
