use Rattle.std.proofs.Common.{rules, ◌≡◌, sym, subst}
use Rattle.std.specs.Option.{option_map}
use Rattle.std.specs.List.{slice_get}
use Rattle.interval_set.specs.Members.{Smallest}
use Rattle.interval_set.proofs.Canonical.{smallest_of}
use Rattle.interval_set.proofs.set.IntervalSet.get_min.Goals as goal

pub returns : goal.returns
returns c =
    let is = c.deref.result.now in
    let e : c.map.result ≡ option_map (λ i. i.a) (slice_get is 0) = search rules in
    subst (Smallest c.args.self.now) (sym e) (smallest_of c.args.self.now is c.deref.ensures.0)
