-- The worked examples, by the tests of the pass net.
use Rattle.std.proofs.Common.{◌≡◌, Bool, [], ◌∷◌, ◌||◌, false, ℤ, pos, sym, refl, subst, arith}
use Rattle.std.proofs.Math.Bool.{or-false}
use Rattle.reports.specs.Reports.{types_in}
use Rattle.samples.proofs.PassNet.{pass_sets}
use Rattle.recovery_samples.specs.declared.sample.Sample.{Sample}
use Rattle.recovery_samples.specs.declared.sample.Sample.TheVariants.{Extra, Missing, MissingLast, Mismatch, MismatchReported, ToTheEnd, Outermost, LoopEntry, LoopBack}
use Rattle.recovery_samples.specs.Examples.{types_of}
use Rattle.recovery_samples.specs.Seen.{only, end_or_one}
use Rattle.recovery_samples.specs.Samples.{Opened, Repaired, Samples}
use Rattle.recovery_samples.proofs.Fresh.{new_made}
use Rattle.recovery_samples.proofs.Tests.{tests, tests_agree, tests_only}

opened : (s : Sample) → Opened tests s
opened Extra = record { new = new_made (types_of Extra) (omega arith); leads = refl; tells_none = refl; notes_none = refl }
opened Missing = record { new = new_made (types_of Missing) (omega arith); leads = refl; tells_none = refl; notes_none = refl }
opened MissingLast = record { new = new_made (types_of MissingLast) (omega arith); leads = refl; tells_none = refl; notes_none = refl }
opened Mismatch = record { new = new_made (types_of Mismatch) (omega arith); leads = refl; tells_none = refl; notes_none = refl }
opened MismatchReported = record { new = new_made (types_of MismatchReported) (omega arith); leads = refl; tells_none = refl; notes_none = refl }
opened ToTheEnd = record { new = new_made (types_of ToTheEnd) (omega arith); leads = refl; tells_none = refl; notes_none = refl }
opened Outermost = record { new = new_made (types_of Outermost) (omega arith); leads = refl; tells_none = refl; notes_none = refl }
opened LoopEntry = record { new = new_made (types_of LoopEntry) (omega arith); leads = refl; tells_none = refl; notes_none = refl }
opened LoopBack = record { new = new_made (types_of LoopBack) (omega arith); leads = refl; tells_none = refl; notes_none = refl }

-- no types beside those of the state are expected
alone : (f : ℤ → Bool) → (λ x. f x || false) ∷ [] ≡ f ∷ []
alone f i = (λ x. or-false (f x) i) ∷ []

by_tests : Repaired tests
unfolding types_in
by_tests = record {
  opened = opened;
  extra = refl;
  extra_types = alone (only (pos 2));
  missing_token = refl;
  missing_types = alone (only (pos 2));
  missing_last = refl;
  missing_last_types = alone (only (pos 3));
  mismatch = refl;
  mismatch_kept = refl;
  mismatch_reported = refl;
  mismatch_types = alone (only (pos 2));
  to_the_end = refl;
  to_the_end_types = refl;
  outermost = refl;
  outermost_types = refl;
  loop_entry = refl;
  loop_entry_types = alone end_or_one;
  loop_back = refl;
  loop_back_types = alone end_or_one;
}

pub samples : Samples
samples = record { sets = pass_sets; tests = tests; agree = tests_agree; repaired = λ w a. subst Repaired (sym (tests_only w a)) by_tests }
