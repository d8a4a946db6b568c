use Rattle.std.proofs.Common.{rules, ◌≡◌, ℕ, ◌+◌, ◌<◌, List, ◌∷◌, length, get_or, drop, sym, refl, subst, add-one, drop-cons}
use Rattle.std.proofs.lemmas.List.{drop_all}
use Rattle.interval_set.specs.Intervals.{from_to}
use Rattle.atn.specs.Checked.{net_of}
use Rattle.atn.proofs.Labelling.{added}
use Rattle.ll1_analyzer.specs.Sets.{eof, Within}
use Rattle.ll1_analyzer.specs.Answers.{HoldsExactly}
use Rattle.ll1_analyzer.proofs.Keeping.{keeps_both}
use Rattle.ll1_analyzer.proofs.Joining.{SoFar, begun, next_joined, stopped, ended}
use Rattle.ll1_analyzer.proofs.sets.join.Goals as goal

more_left : (xs : List ℕ) (i : ℕ) → i < length xs → drop i xs ≡ get_or xs i 0 ∷ drop (i + 1) xs
more_left xs i l = rw (add-one, drop-cons xs i 0) refl

pub loop-f-init : goal.loop-f-init
loop-f-init g c = record {
  keeps = search rules;
  joined = λ h. begun (g.L.Lookahead.atn c.args.l.now) c.args.s c.args.follows.now c.within-set.result (c.within-set.ensures.answers h);
}

pub loop-f-preserved : goal.loop-f-preserved
loop-f-preserved g c =
    let a = g.L.Lookahead.atn c.args.l.now in
    let fs = c.args.follows.now in
    let i = c.loop-f.f-index in
    record {
      keeps = keeps_both c.loop-f.invariant.keeps c.within.ensures.keeps;
      joined = λ h. next_joined a (c.args.s ∷ fs) c.loop-f.set c.remove_one.new.self c.within.result c.add_set.new.self (get_or fs i 0) (drop (i + 1) fs)
          (subst (SoFar (net_of a) (c.args.s ∷ fs) c.loop-f.set) (more_left fs i c.loop-f-test.true) (c.loop-f.invariant.joined h))
          (sym c.if-not-contains.ensures) c.remove_one.ensures
          (subst (λ b. HoldsExactly c.within.result (Within (net_of b) (get_or fs i 0))) c.loop-f.invariant.keeps.net (c.within.ensures.answers (c.loop-f.invariant.keeps.agreement h)))
          c.add_set.ensures;
    }

pub returns-then-not-contains-clause-joins : goal.returns-then-not-contains-clause-joins
returns-then-not-contains-clause-joins g c h =
    stopped (net_of (g.L.Lookahead.atn c.args.l.now)) (c.args.s ∷ c.args.follows.now) c.loop-f.set _ (c.loop-f.invariant.joined h) (sym c.if-not-contains.ensures)

pub returns-then-contains-clause-joins : goal.returns-then-contains-clause-joins
returns-then-contains-clause-joins g c h =
    ended (net_of (g.L.Lookahead.atn c.args.l.now)) (c.args.s ∷ c.args.follows.now) c.loop-f.set c.remove_one-then-contains.new.self c.add_one.new.self _ (drop_all c.loop-f.f-index c.args.follows.now c.loop-f-test.false)
    (c.loop-f.invariant.joined h) (sym c.if-contains.ensures) c.remove_one-then-contains.ensures
    (added c.remove_one-then-contains.new.self (from_to eof eof) c.add_one.result c.add_one.new.self c.add_one.ensures refl)

pub returns-else-contains-clause-joins : goal.returns-else-contains-clause-joins
returns-else-contains-clause-joins g c h =
    stopped (net_of (g.L.Lookahead.atn c.args.l.now)) (c.args.s ∷ c.args.follows.now) c.loop-f.set _ (c.loop-f.invariant.joined h) (sym c.if-contains.ensures)
