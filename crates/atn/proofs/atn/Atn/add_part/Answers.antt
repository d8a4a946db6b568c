use Rattle.std.proofs.Common.{◌≡◌, ◌+◌, ◌<◌, true, ◌||◌, length, get_or, take, slice_range, pos, sym, ap, ◌∙◌, subst, arith, take_all}
use mathlib.Core.Bool.{or_assoc}
use Rattle.interval_set.specs.Intervals.{from_to, inside, has}
use Rattle.interval_set.specs.Members.{holds}
use Rattle.atn_graph.specs.Rules.{interval_fits, part}
use Rattle.atn_graph.proofs.Sets.{part_length}
use Rattle.atn.specs.Checked.{net_of}
use Rattle.atn.proofs.Labelling.{is_part, max_few, fits_addable, added, any_more, set_inside, set_fits_at}
use Rattle.atn.proofs.atn.Atn.add_part.Goals as goal

pub loop-i-preserved : goal.loop-i-preserved
loop-i-preserved c x =
    let a = c.args.self.now in
    let n = net_of a in
    let first = c.args.first in
    let k = c.loop-i.i-index in
    let none = from_to (pos 0) (pos 0) in
    let xs = slice_range c.deref.result.now first (first + c.args.count) in
    let i = get_or xs k none in
    let part_is : xs ≡ part n first c.args.count = is_part n _ first c.args.count c.deref.ensures.0 in
    let l : k < c.args.count = omega (arith, c.loop-i-test.true, ap length part_is, part_length n first c.args.count (set_inside n first c.args.count c.requires)) in
    let fits : interval_fits n i ≡ true = subst (λ ys. interval_fits n (get_or ys k none) ≡ true) (sym part_is) (set_fits_at n first c.args.count k none c.requires l) in
    added c.loop-i.set i c.add_interval.result c.add_interval.new.self c.add_interval.ensures (fits_addable n i (max_few a.graph) fits) x
    ∙ ap (λ b. b || inside i x) (c.loop-i.invariant x)
    ∙ or_assoc (holds c.args.set.now x) (has (take k xs) x) (inside i x)
    ∙ ap (λ b. holds c.args.set.now x || b) (sym (any_more (λ i. inside i x) xs k none c.loop-i-test.true))

pub returns : goal.returns
returns c x =
    let n = net_of c.args.self.now in
    let xs = slice_range c.deref.result.now c.args.first (c.args.first + c.args.count) in
    c.loop-i.invariant x ∙ ap (λ ys. holds c.args.set.now x || has ys x) (take_all c.loop-i.i-index xs c.loop-i-test.false ∙ is_part n _ c.args.first c.args.count c.deref.ensures.0)
