use Rattle.std.proofs.Common.{◌≡◌, ◌+◌, ◌≤◌, length, sym, ap, subst, arith}
use Rattle.atn_graph.specs.Net.{net, state_at}
use Rattle.atn_graph.proofs.StateEdges.{run_rises, edges_length}
use Rattle.atn.specs.Marks.{Grown}
use Rattle.atn.specs.Found.{found}
use Rattle.atn.specs.Reach.{Listed, LeadsOver}
use Rattle.atn.proofs.Growth.{grown_like, grown_both}
use Rattle.atn.proofs.Some.{among_more, among_last, item_is, item_target, item_follow}
use Rattle.atn.proofs.Steps.{LeadsAmongOver, step_leads, leads_step}
use Rattle.atn.proofs.nullable.NullableStates.visit.Goals as goal

pub follow-requires-clause-target : goal.follow-requires-clause-target
follow-requires-clause-target c = item_target c.args.self.now.graph.now c.args.s _ c.edges-e-items.ensures c.loop-e.e-index c.loop-e-test.true

pub follow-requires-clause-follow : goal.follow-requires-clause-follow
follow-requires-clause-follow c = item_follow c.args.self.now.graph.now c.args.s _ c.edges-e-items.ensures c.loop-e.e-index c.loop-e-test.true

pub loop-e-preserved : goal.loop-e-preserved
loop-e-preserved c =
    let n = net c.args.self.now.graph.now.lists in
    let N = Listed (found c.args.self.now.states) in
    let first = (state_at n c.args.s).first in
    let i = c.loop-e.e-index in
    let next : (first + i) + 1 ≡ first + (i + 1) = omega arith in
    let low : first ≤ first + i = omega arith in
    let led = subst (λ e. Grown (LeadsOver N e) (found c.loop-e.visits) (found c.follow.new.visits)) (item_is c.args.self.now.graph.now c.args.s _ c.edges-e-items.ensures i c.loop-e-test.true) c.follow.ensures in
    subst (λ j. Grown (LeadsAmongOver N n first j) (found c.args.visits.now) (found c.follow.new.visits)) next
    (grown_like (λ k. among_more n first (first + i) low) (λ k. among_last n first (first + i)) (grown_both c.loop-e.invariant led))

pub returns : goal.returns
returns c =
    let g = c.args.self.now.graph.now in
    let n = net g.lists in
    let N = Listed (found c.args.self.now.states) in
    let s = c.args.s in
    let first = (state_at n s).first in
    let end : first + c.loop-e.e-index ≡ (state_at n s).end = omega (arith, c.loop-e-test.false, c.loop-e.auto.e-index-end, ap length c.edges-e-items.ensures, edges_length g s, run_rises g s) in
    grown_like (λ k h. leads_step _ n s k (subst (λ x. LeadsAmongOver N n first x k) end h)) (λ k h. subst (λ x. LeadsAmongOver N n first x k) (sym end) (step_leads _ n s k h)) c.loop-e.invariant
