use Rattle.std.proofs.Common.{◌≡◌, ◌<◌, ◌≤◌, length, get_or, subst, arith, rules}
use Rattle.atn_graph.specs.Net.{net}
use Rattle.atn.specs.Marks.{Grown}
use Rattle.atn.specs.Found.{found}
use Rattle.atn.specs.Reach.{StepOver, Listed}
use Rattle.atn.proofs.Searching.{search_start, search_more, search_end}
use Rattle.atn.proofs.nullable.NullableStates.reach.Goals as goal

pub loop-k-init : goal.loop-k-init
loop-k-init c = search_start _ c.args.self.now.graph.now c.args.s _ _ c.new-visits.ensures.empty c.note.ensures (omega (arith, c.if-s-len.false, c.len.ensures.len))

pub loop-k-preserved : goal.loop-k-preserved
loop-k-preserved c =
    let xs = found c.loop-k.visits in
    let l : c.loop-k.next < length xs = search rules in
    let e : c.in-Some.k ≡ get_or xs c.loop-k.next 0 = search rules in
    search_more _ c.args.self.now.graph.now c.args.s c.loop-k.next xs _ l c.loop-k.invariant
    (subst (λ k. Grown (StepOver (Listed (found c.args.self.now.states)) (net c.args.self.now.graph.now.lists) k) xs (found c.visit.new.visits)) e c.visit.ensures)

pub returns-clause-inside : goal.returns-clause-inside
returns-clause-inside c inside =
    let l : length (found c.loop-k.visits) ≤ c.loop-k.next = search rules in
    search_end _ c.args.self.now.graph.now c.args.s c.loop-k.next _ l c.loop-k.invariant
