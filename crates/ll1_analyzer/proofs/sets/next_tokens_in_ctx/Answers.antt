use Rattle.atn.specs.Checked.{net_of}
use Rattle.ll1_analyzer.specs.Chains.{follow_states}
use Rattle.ll1_analyzer.proofs.Context.{holds_context}
use Rattle.ll1_analyzer.proofs.sets.next_tokens_in_ctx.Goals as goal

pub returns-clause-holds : goal.returns-clause-holds
returns-clause-holds g c h =
    let a = g.L.Lookahead.atn c.args.l.now in
    holds_context a c.args.s (follow_states (net_of a) c.args.chain.now) _ (c.get_expected_tokens.ensures.holds h)
