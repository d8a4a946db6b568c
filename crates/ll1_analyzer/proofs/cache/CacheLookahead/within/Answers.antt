use Rattle.std.proofs.Common.{◌%◌, ◌<◌, length, None, ◌∙◌, subst, arith}
use Rattle.std.proofs.lemmas.List.{get_or_default}
use Rattle.atn.specs.Checked.{net_of}
use Rattle.ll1_analyzer.specs.Sets.{Within}
use Rattle.ll1_analyzer.specs.Answers.{HoldsExactly}
use Rattle.ll1_analyzer.proofs.cache.CacheLookahead.within.Goals as goal

pub returns-clause-answers : goal.returns-clause-answers
returns-clause-answers g c h =
    let slots = c.args.self.now.slots in
    let i = c.args.s % 16 in
    let l : i < length slots = omega (arith, c.args.self.now.places) in
    subst (λ s. HoldsExactly c.in-Some.slot.set (Within (net_of (g.L.Lookahead.atn c.args.self.now.below)) s)) c.if-slot-s.true
    (h.1 i c.in-Some.slot (get_or_default slots i None c.index-self-i.result l ∙ c.in-Some.is))
