use Rattle.std.proofs.Common.{◌≡◌, ◌+◌, Bool, true, false, not, ◌&&◌, ◌||◌, get_or, take, slice_range, pos, refl, sym, ap, ap₂, ◌∙◌, take_all}
use Rattle.interval_set.specs.Intervals.{from_to, inside, has}
use Rattle.interval_set.specs.Members.{holds}
use Rattle.atn.specs.Checked.{net_of}
use Rattle.atn.specs.Labels.{is_net_type}
use Rattle.atn.proofs.Labelling.{is_part, any_more}
use Rattle.atn.proofs.atn.Atn.types_but.Goals as goal

but_more : (a h b : Bool) → ((a && not h) && not b) ≡ (a && not (h || b))
but_more true true b = refl
but_more true false b = refl
but_more false h b = refl

pub loop-i-preserved : goal.loop-i-preserved
loop-i-preserved c x =
    let k = c.loop-i.i-index in
    let none = from_to (pos 0) (pos 0) in
    let xs = slice_range c.deref.result.now c.args.first (c.args.first + c.args.count) in
    let i = get_or xs k none in
    let all = holds c.add_types.new.set x in
    c.remove_interval.ensures x
    ∙ ap (λ b. b && not (inside i x)) (c.loop-i.invariant x)
    ∙ but_more all (has (take k xs) x) (inside i x)
    ∙ ap (λ b. all && not b) (sym (any_more (λ i. inside i x) xs k none c.loop-i-test.true))

pub returns : goal.returns
returns c x =
    let n = net_of c.args.self.now in
    let xs = slice_range c.deref.result.now c.args.first (c.args.first + c.args.count) in
    let all : holds c.add_types.new.set x ≡ is_net_type n x = c.add_types.ensures x ∙ ap (λ is. has is x || is_net_type n x) c.new-types.ensures.empty in
    c.loop-i.invariant x ∙ ap₂ (λ a h. a && not h) all (ap (λ ys. has ys x) (take_all c.loop-i.i-index xs c.loop-i-test.false ∙ is_part n _ c.args.first c.args.count c.deref.ensures.0))
