use lib.IntN.{nat_abs}
use Rattle.std.proofs.Common.{ℤ, FitsSigned, w32, ap, sym, subst, ◌∙◌, rules}
use Rattle.std.specs.Int.{FitsUnsignedBits}
use Rattle.std.proofs.lemmas.Int.{to_z-of_z}
use Rattle.token.specs.declared.token_type.TokenType.TheVariants.{Of}
use Rattle.interval_set.specs.Members.{holds}
use Rattle.reports.proofs.Expected.{is_eof}
use Rattle.reports.proofs.Smallest.{smallest_of_none, smallest_eof, smallest_byte}
use Rattle.reports.proofs.report.smallest_of.Goals as goal

pub returns-in_default : goal.returns-in_default
returns-in_default c = smallest_of_none (holds c.args.types.now) c.in_default.ensures

pub returns-in-Ok : goal.returns-in-Ok
returns-in-Ok c =
    let m : ℤ = c.in-Some.smallest in
    let fits : FitsSigned w32 m = search rules in
    let same = to_z-of_z w32 m fits in
    ap Of (c.in-Ok.ensures.1 ∙ ap nat_abs same) ∙ smallest_byte (holds c.args.types.now) m (subst (FitsUnsignedBits 8) same c.in-Ok.ensures.0) c.in-Some.ensures.0 c.in-Some.ensures.1

pub returns-in-Err : goal.returns-in-Err
returns-in-Err c =
    let m : ℤ = c.in-Some.smallest in
    let fits : FitsSigned w32 m = search rules in
    let eof = is_eof c.args.types.now m c.requires c.in-Some.ensures.0 (λ f. c.in-Err.ensures (subst (FitsUnsignedBits 8) (sym (to_z-of_z w32 m fits)) f)) in
    smallest_eof (holds c.args.types.now) (ap (holds c.args.types.now) (sym eof) ∙ c.in-Some.ensures.0)
