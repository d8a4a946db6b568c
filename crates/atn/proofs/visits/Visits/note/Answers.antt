use Rattle.std.proofs.Common.{true, length, ap, ◌∙◌, arith}
use Rattle.std.proofs.lemmas.List.{length-set, length_push}
use Rattle.fixed_vec.specs.Items.{items}
use Rattle.atn.proofs.Noting.{unmarked_set, agree_more}
use Rattle.atn.proofs.visits.Visits.note.Goals as goal

pub invariant_of-self : goal.invariant_of-self
invariant_of-self c =
    let v = c.args.self.now in
    let one = unmarked_set v.seen c.args.k (omega (arith, v.long, c.requires)) c.if-not-self-k.true in
    let pushed = (c.push.ensures.room (omega (arith, one, v.counted))).1 in
    record {
      long = length-set v.seen c.args.k true ∙ v.long;
      counted = omega (arith, one, v.counted, ap length pushed, length_push (items v.order) c.args.k);
      agree = agree_more v.seen (items v.order) _ c.args.k (omega (arith, v.long, c.requires)) pushed v.agree;
    }
