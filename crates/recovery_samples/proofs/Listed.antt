-- The run in the list net, by its sets.
use Rattle.std.proofs.Common.{◌≡◌, Bool, List, [], ◌∷◌, ◌||◌, false, ℤ, pos, sym, refl, subst, arith}
use Rattle.std.specs.Ordering.{int_eq}
use Rattle.std.proofs.Math.Bool.{or-false}
use Rattle.reports.specs.Reports.{types_in}
use Rattle.recovery_model.specs.Sets.{no_types}
use Rattle.recovery_samples.specs.ListNet.{one_or_two, list_sets}
use Rattle.recovery_samples.specs.ListRun.{list_tape, AsSaid, ListRun}
use Rattle.recovery_samples.proofs.Fresh.{new_made}
use Rattle.recovery_samples.proofs.ListKept.{list_sound, not_left_recursive}
use Rattle.recovery_samples.proofs.ListTests.{list_agree, list_only}

abbrev told : List (ℤ → Bool)
told = no_types ∷ (λ x. int_eq x (pos 1) || (int_eq x (pos 2) || false)) ∷ []

told_is : told ≡ no_types ∷ one_or_two ∷ []
told_is i = no_types ∷ (λ x. int_eq x (pos 1) || or-false (int_eq x (pos 2)) i) ∷ []

by_sets : AsSaid list_sets
unfolding types_in
by_sets = record { lines = refl; input_mismatch = refl; types = told_is }

pub list_run : ListRun
list_run = record {
  net = record { limits = refl; sound = list_sound; not_left_recursive = not_left_recursive; agree = list_agree };
  new = new_made list_tape (omega arith);
  goes = λ w a. subst AsSaid (sym (list_only w a)) by_sets;
}
