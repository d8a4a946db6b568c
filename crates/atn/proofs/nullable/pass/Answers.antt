use Rattle.std.proofs.Common.{◌+◌, sym, ap, ◌∙◌, subst}
use Rattle.std.proofs.lemmas.Bool.{both_ways}
use Rattle.atn_graph.specs.Net.{net}
use Rattle.atn.specs.Found.{found}
use Rattle.atn.specs.Passes.{Pass}
use Rattle.atn.proofs.Passing.{pass_skip, pass_note}
use Rattle.atn.proofs.nullable.pass.Goals as goal
use Rattle.atn.proofs.nullable.pass.Goals.{then-falls, else-falls}

pub loop-s-preserved : goal.loop-s-preserved
loop-s-preserved c =
    let n = net c.args.graph.now.lists in
    let s = c.loop-s.s in
    let inv = c.loop-s.invariant in
    elim c.if-falls.branch [
      | then-falls w ↦ pass_note n s _ _ _ inv (c.falls.ensures.0 w.if-falls.true) (ap found w.states-is ∙ w.note.ensures)
      | else-falls w ↦ subst (λ v. Pass n (s + 1) (found c.args.states.now) (found v)) (sym w.states-is) (pass_skip n s _ _ inv (λ f. absurd (both_ways _ w.if-falls.false (c.falls.ensures.1 f))))
    ]
