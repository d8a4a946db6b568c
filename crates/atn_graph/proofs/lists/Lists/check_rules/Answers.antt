use Rattle.std.proofs.Common.{◌≤◌, true, length, sym, refl, ap, ◌∙◌, arith, rules, below_more}
use Rattle.std.proofs.lemmas.Bool.{both_ways}
use Rattle.atn_graph.specs.Net.{net, state_at}
use Rattle.atn_graph.specs.Rules.{StateFits}
use Rattle.atn_graph.proofs.Runs.{run_inside}
use Rattle.atn_graph.proofs.Edges.{of_place, fit_place, all_places}
use Rattle.atn_graph.proofs.lists.Lists.check_rules.Goals as goal
use Rattle.atn_graph.proofs.lists.Lists.check_rules.Goals.{After-deref-in-loop-s}

-- the edges of the state at hand lie among the edges
inside : (c : After-deref-in-loop-s) → let n = net c.args.self.now in ((state_at n c.loop-s.s).first ≤ (state_at n c.loop-s.s).end) × ((state_at n c.loop-s.s).end ≤ length n.edges)
inside c =
    let n = net c.args.self.now in
    run_inside n c.requires c.loop-s.invariant.1 c.loop-s.s (omega (arith, c.loop-s-test.true, ap length c.loop-s.invariant.0))

pub offset_bounds-deref-state : goal.offset_bounds-deref-state
offset_bounds-deref-state c = let l = inside c in search rules

pub slice_bounds-edge-items-end : goal.slice_bounds-edge-items-end
slice_bounds-edge-items-end c = let l = inside c in search rules

pub loop-edge-preserved : goal.loop-edge-preserved
loop-edge-preserved c =
    let n = net c.args.self.now in
    let inv = c.loop-edge.invariant in
    let fits = fit_place n c.loop-s.s _ _ inv.0 inv.1 c.loop-edge.edge-index true c.loop-edge-test.true (sym c.if-not-edge_fits.false ∙ c.edge_fits.ensures) in
    (inv.0, inv.1, below_more _ c.loop-edge.edge-index inv.2 fits)

pub loop-s-preserved : goal.loop-s-preserved
loop-s-preserved c =
    let n = net c.args.self.now in
    let inv = c.loop-edge.invariant in
    let end = ap (λ x. x.end) inv.0 in
    let edges = all_places n c.loop-s.s _ _ inv.0 inv.1 (omega (arith, end, (inside (goal.at.loop-s-preserved c).After-deref-in-loop-s).1)) (λ k h. inv.2 k (omega (arith, c.loop-edge-test.false))) in
    (c.loop-s.invariant.0, c.loop-s.invariant.1, below_more (StateFits n) c.loop-s.s c.loop-s.invariant.2 (record { place = c.place_fits.ensures.0 c.if-not-place_fits.false; edges = edges }))

pub returns-then-not-edge_fits : goal.returns-then-not-edge_fits
returns-then-not-edge_fits c =
    let n = net c.args.self.now in
    let inv = c.loop-edge.invariant in
    let k = c.loop-edge.edge-index in (
      refl,
      λ w. both_ways _ (fit_place n c.loop-s.s _ _ inv.0 inv.1 k _ c.loop-edge-test.true (sym c.if-not-edge_fits.true ∙ c.edge_fits.ensures))
          ((w.states c.loop-s.s (omega (arith, c.loop-s-test.true, ap length c.loop-s.invariant.0))).edges _ (of_place n c.loop-s.s _ _ inv.0 inv.1 k c.loop-edge-test.true)),
    )
