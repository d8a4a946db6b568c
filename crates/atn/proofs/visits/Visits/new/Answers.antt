use Rattle.std.proofs.Common.{◌+◌, length, refl, ap, ◌∙◌, sym}
use Rattle.atn.specs.Marks.{elem}
use Rattle.atn.proofs.Noting.{blank}
use Rattle.atn.proofs.visits.Visits.new.Goals as goal

pub invariant_of-result : goal.invariant_of-result
invariant_of-result c = record {
  long = refl;
  counted = ap (λ xs. length xs + 512) c.new.ensures.empty;
  agree = λ k. blank 512 k ∙ sym (ap (elem k) c.new.ensures.empty);
}
