use Rattle.std.proofs.Common.{◌≡◌, ◌+◌, true, not, ◌&&◌, [], ◌∷◌, ◌++◌, sym, ap, ◌∙◌, subst, arith}
use Rattle.std.proofs.lemmas.Int.{ints}
use Rattle.interval_set.specs.Intervals.{inside, has, rising}
use Rattle.interval_set.specs.Members.{intervals}
use Rattle.interval_set.proofs.Rising.{place, place_fits}
use Rattle.interval_set.proofs.Without.{Removing, Halfway, without_has, half_rises, written_rises, is_under, is_over, write_under, pass_under, write_over, pass_over, all_removed}
use Rattle.interval_set.proofs.set.IntervalSet.remove_interval.Goals as goal
use Rattle.interval_set.proofs.set.IntervalSet.remove_interval.Goals.{then-i-removed, else-i-removed, then-removed-i, else-removed-i}

pub append-requires : goal.append-requires
append-requires c =
    let s = c.intervals-i-items.result.now in
    let rises : rising s ≡ true = ap rising c.intervals-i-items.ensures ∙ c.args.self.now.rising in
    let r = c.args.removed in
    let k = c.loop-i.i-index in
    let out = intervals c.loop-i.out in
    let j = c.below.result in
    let f = place_fits s k c.loop-i-test.true rises in
    half_rises r s k (out ++ j ∷ []) rises (omega (arith, ints))
    (write_under r s k out c.loop-i-test.true c.loop-i.invariant j (is_under r (place s k) j c.below.ensures.low c.below.ensures.high) (omega (arith, ints)))

pub append-requires-then-removed-i : goal.append-requires-then-removed-i
append-requires-then-removed-i c =
    let s = c.intervals-i-items.result.now in
    let rises : rising s ≡ true = ap rising c.intervals-i-items.ensures ∙ c.args.self.now.rising in
    let r = c.args.removed in
    let k = c.loop-i.i-index in
    let out = intervals c.loop-i.out in
    let new = intervals c.if-i-removed.out in
    let i = c.above.result in
    let l = c.loop-i-test.true in
    let f = place_fits s k l rises in
    let half : Halfway r s k new = elim c.if-i-removed.branch [
      | then-i-removed w ↦ let j = w.below.result in let t = w.if-i-removed.true in subst (Halfway r s k) (sym (ap intervals w.out-is ∙ w.append.ensures))
          (write_under r s k out l c.loop-i.invariant j (is_under r (place s k) j w.below.ensures.low w.below.ensures.high) (omega (arith, ints)))
      | else-i-removed w ↦ let t = w.if-i-removed.false in subst (Halfway r s k) (sym (ap intervals w.out-is)) (pass_under r s k out l c.loop-i.invariant (omega (arith, ints)))
    ] in
    written_rises r s (k + 1) (new ++ i ∷ []) rises (omega (arith, ints))
    (write_over r s k new half i (is_over r (place s k) i c.above.ensures.low c.above.ensures.high) (omega (arith, ints)))

pub loop-i-preserved : goal.loop-i-preserved
loop-i-preserved c =
    let s = c.intervals-i-items.result.now in
    let rises : rising s ≡ true = ap rising c.intervals-i-items.ensures ∙ c.args.self.now.rising in
    let r = c.args.removed in
    let k = c.loop-i.i-index in
    let out = intervals c.loop-i.out in
    let new = intervals c.if-i-removed.out in
    let l = c.loop-i-test.true in
    let f = place_fits s k l rises in
    let half : Halfway r s k new = elim c.if-i-removed.branch [
      | then-i-removed w ↦ let j = w.below.result in let t = w.if-i-removed.true in subst (Halfway r s k) (sym (ap intervals w.out-is ∙ w.append.ensures))
          (write_under r s k out l c.loop-i.invariant j (is_under r (place s k) j w.below.ensures.low w.below.ensures.high) (omega (arith, ints)))
      | else-i-removed w ↦ let t = w.if-i-removed.false in subst (Halfway r s k) (sym (ap intervals w.out-is)) (pass_under r s k out l c.loop-i.invariant (omega (arith, ints)))
    ] in
    elim c.if-removed-i.branch [
      | then-removed-i w ↦ let i = w.above.result in let t = w.if-removed-i.true in subst (Removing r s (k + 1)) (sym (ap intervals w.out-is ∙ w.append-then-removed-i.ensures))
          (write_over r s k new half i (is_over r (place s k) i w.above.ensures.low w.above.ensures.high) (omega (arith, ints)))
      | else-removed-i w ↦ let t = w.if-removed-i.false in subst (Removing r s (k + 1)) (sym (ap intervals w.out-is)) (pass_over r s k new half (omega (arith, ints)))
    ]

pub returns : goal.returns
returns c x = ap (λ is. has is x) (all_removed c.args.removed c.intervals-i-items.result.now c.loop-i.i-index (intervals c.loop-i.out) c.loop-i.invariant c.loop-i-test.false) ∙ without_has c.args.removed c.intervals-i-items.result.now x ∙ ap (λ is. has is x && not (inside c.args.removed x)) c.intervals-i-items.ensures
