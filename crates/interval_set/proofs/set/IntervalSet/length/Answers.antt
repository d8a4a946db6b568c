use Rattle.std.proofs.Common.{◌≡◌, true, ◌+◌, ◌≤◌, drop, sym, refl, ap, ◌∙◌, add-zero, arith, lit≤}
use Rattle.std.proofs.lemmas.Int.{ints}
use Rattle.std.proofs.lemmas.List.{drop_all}
use Rattle.interval_set.specs.Intervals.{smallest, has, rising}
use Rattle.interval_set.specs.Members.{how_many}
use Rattle.interval_set.proofs.Rising.{place, place_fits, next}
use Rattle.interval_set.proofs.Counted.{width, total, few_numbers, total_is}
use Rattle.interval_set.proofs.set.IntervalSet.length.Goals as goal

pub overflow_sub-n : goal.overflow_sub-n
overflow_sub-n c = let f = place_fits c.intervals-i-items.result.now c.loop-i.i-index c.loop-i-test.true (ap rising c.intervals-i-items.ensures ∙ c.args.self.now.rising) in omega (arith, ints)

pub overflow_add-n : goal.overflow_add-n
overflow_add-n c = let f = place_fits c.intervals-i-items.result.now c.loop-i.i-index c.loop-i-test.true (ap rising c.intervals-i-items.ensures ∙ c.args.self.now.rising) in omega (arith, ints)

pub overflow_cast-n : goal.overflow_cast-n
overflow_cast-n c = let f = place_fits c.intervals-i-items.result.now c.loop-i.i-index c.loop-i-test.true (ap rising c.intervals-i-items.ensures ∙ c.args.self.now.rising) in (omega (arith, ints), omega (arith, ints))

pub overflow_add-n-in-loop-i : goal.overflow_add-n-in-loop-i
overflow_add-n-in-loop-i c =
    let s = c.intervals-i-items.result.now in
    let rises : rising s ≡ true = ap rising c.intervals-i-items.ensures ∙ c.args.self.now.rising in
    let k = c.loop-i.i-index in
    let f = place_fits s k c.loop-i-test.true rises in
    let inv : c.loop-i.n + total (drop k s) ≡ total s = c.loop-i.invariant in
    let g : total s ≤ 258 = few_numbers 258 s refl rises in
    let h : total (drop k s) ≡ width (place s k) + total (drop (k + 1) s) = ap total (next s k c.loop-i-test.true) in
    omega (arith, ints)

pub loop-i-preserved : goal.loop-i-preserved
loop-i-preserved c =
    let s = c.intervals-i-items.result.now in
    let rises : rising s ≡ true = ap rising c.intervals-i-items.ensures ∙ c.args.self.now.rising in
    let k = c.loop-i.i-index in
    let f = place_fits s k c.loop-i-test.true rises in
    let inv : c.loop-i.n + total (drop k s) ≡ total s = c.loop-i.invariant in
    let h : total (drop k s) ≡ width (place s k) + total (drop (k + 1) s) = ap total (next s k c.loop-i-test.true) in
    omega (arith, ints)

pub returns : goal.returns
returns c =
    let s = c.intervals-i-items.result.now in
    let rises : rising s ≡ true = ap rising c.intervals-i-items.ensures ∙ c.args.self.now.rising in
    let k = c.loop-i.i-index in
    sym (add-zero c.loop-i.n) ∙ ap (λ is. c.loop-i.n + total is) (sym (drop_all k s c.loop-i-test.false)) ∙ c.loop-i.invariant
    ∙ total_is 258 smallest s (lit≤ tt) (omega (arith, ints)) rises ∙ ap (λ is. how_many 258 (has is)) c.intervals-i-items.ensures
