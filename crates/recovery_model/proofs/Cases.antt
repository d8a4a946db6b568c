-- What calls do, case by case.
use Rattle.std.proofs.Common.{◌≡◌, ℕ, Bool, true, false, ◌==◌, List, [], ◌∷◌, Option, Some, None, unwrap_or, sym, refl, ◌∙◌, subst, if◌then◌else◌}
use Rattle.std.proofs.lemmas.Bool.{cond_both, cond-true, cond-false}
use Rattle.std.proofs.lemmas.Option.{none-some}
use Rattle.errors.specs.declared.denial.Denial.{Denial}
use Rattle.atn_graph.specs.Net.{Net}
use Rattle.reports.specs.declared.report.ReportKind.TheVariants.{NoViableAlternative, FailedPredicate}
use Rattle.reports.specs.Heard.{Told}
use Rattle.recovery_model.specs.declared.call.Call.{Call}
use Rattle.recovery_model.specs.declared.open_rule.OpenRule.{OpenRule}
use Rattle.recovery_model.specs.Calls.{InputMismatch, Denied, Done, Left, Token}
use Rattle.recovery_model.specs.Sets.{WithinSets, no_types}
use Rattle.recovery_model.specs.Views.{View, current, own_pair}
use Rattle.recovery_model.specs.Passing.{Searched, told_of, before, pass, pass_many, in_error_recovery_mode, begin_error_condition, given, end_error_condition}
use Rattle.recovery_model.specs.Outcomes.{Outcome, does, telling}
use Rattle.recovery_model.specs.RecoverInline.{is_unwanted, is_missing, missing_symbol, unwanted_token, missing_token, single_token_deletion, single_token_insertion, mismatch_at, mismatches, take_token, recover_inline, matched}
use Rattle.recovery_model.specs.Sync.{Choice, Begins, GoesBack, Neither, choice_here, may_come, may_be_nothing, stops_at, acts, sync}
use Rattle.recovery_model.specs.Recover.{failsafe_applies, failsafe}
use Rattle.recovery_model.specs.Denials.{denial, first_fault}
use Rattle.recovery_model.specs.Steps.{left, mismatched, reporting, reports, accepted, step}

-- no fault fits
pub no_first : (f : Denial × Bool) (fs : List (Denial × Bool)) → first_fault (f ∷ fs) ≡ None → (f.1 ≡ false) × (first_fault fs ≡ None)
no_first f fs = at (f.1) refl
  where
    at : (b : Bool) → f.1 ≡ b → first_fault (f ∷ fs) ≡ None → (f.1 ≡ false) × (first_fault fs ≡ None)
    at true e none = absurd (none-some f.0 (sym none ∙ cond-true f.1 (Some f.0) (first_fault fs) e))
    at false e none = (e, sym (cond-false f.1 (Some f.0) (first_fault fs) e) ∙ none)

-- what a call does, by what the view holds
left_none : (v : View) → v.open_rules ≡ [] → left v ≡ does v Done
left_none v e = rw e refl

left_one : (v : View) (o : OpenRule) (os : List OpenRule) → v.open_rules ≡ o ∷ os → left v ≡ does (record v { state = o.invoking; open_rules = os }) (Left o.leaves)
left_one v o os e = rw e refl

-- no viable alternative, or a failed predicate
abbrev of_kind : ℕ → View → Told
of_kind k v = told_of (if k == 1 then NoViableAlternative else FailedPredicate) (current v) no_types

reports_none : (n : Net) (w : WithinSets) (k : ℕ) (v : View) → v.input_mismatch ≡ None → reports n w k v ≡ (if k == 2 then does v Done else reporting (of_kind k v) v)
reports_none n w k v e = rw e refl

reports_kept : (n : Net) (w : WithinSets) (k : ℕ) (v : View) (m : InputMismatch) → v.input_mismatch ≡ Some m → reports n w k v ≡ (if k == 2 then reporting (mismatched n w m) v else reporting (of_kind k v) v)
reports_kept n w k v m e = rw e refl

module _ (P : Outcome → Type 0) where
  -- either the call is denied, or it is accepted and does its work
  pub by_step : (n : Net) (w : WithinSets) (c : Call) (v : View) → ((d : Denial) → P (does v (Denied d))) → (denial n w c v ≡ None → P (accepted n w c v)) → P (step n w c v)
  by_step n w c v denied does_it = at (denial n w c v) refl
    where
      at : (o : Option Denial) → denial n w c v ≡ o → P (step n w c v)
      at None e = rw e (does_it e)
      at (Some d) e = rw e (denied d)

  pub by_left : (v : View) → (v.open_rules ≡ [] → P (does v Done)) → ((o : OpenRule) (os : List OpenRule) → v.open_rules ≡ o ∷ os → P (does (record v { state = o.invoking; open_rules = os }) (Left o.leaves))) → P (left v)
  by_left v none some = at v.open_rules refl
    where
      at : (os : List OpenRule) → v.open_rules ≡ os → P (left v)
      at [] e = subst P (sym (left_none v e)) (none e)
      at (o ∷ os) e = subst P (sym (left_one v o os e)) (some o os e)

  pub by_report : (n : Net) (w : WithinSets) (k : ℕ) (v : View) → (v.input_mismatch ≡ None → (k == 2) ≡ true → P (does v Done)) → ((t : Told) → P (reporting t v)) → P (reports n w k v)
  by_report n w k v none some = at v.input_mismatch refl
    where
      at : (m : Option InputMismatch) → v.input_mismatch ≡ m → P (reports n w k v)
      at None e = subst P (sym (reports_none n w k v e)) (cond_both (k == 2) (does v Done) (reporting (of_kind k v) v) P (λ two. none e two) (λ _. some (of_kind k v)))
      at (Some m) e = subst P (sym (reports_kept n w k v m e)) (cond_both (k == 2) (reporting (mismatched n w m) v) (reporting (of_kind k v) v) P (λ _. some (mismatched n w m)) (λ _. some (of_kind k v)))

  pub by_match :
      (fit : Bool) (n : Net) (w : WithinSets) (v : View)
      → (fit ≡ true → P (take_token (end_error_condition v)))
      → (is_unwanted n w v ≡ true → P (telling (given (unwanted_token n w v) v) (take_token (single_token_deletion v))))
      → (is_missing n w v ≡ true → P (telling (given (missing_token n w v) v) (does (single_token_insertion n w v) (Token (missing_symbol n w v)))))
      → P (mismatches (mismatch_at (unwrap_or v.strategy.next_tokens (own_pair v)) v) v)
      → P (matched fit n w v)
  by_match fit n w v taken extra gone neither =
      cond_both fit (take_token (end_error_condition v)) (recover_inline n w v) P taken
      (λ _. cond_both (is_unwanted n w v) (telling (given (unwanted_token n w v) v) (take_token (single_token_deletion v))) _ P extra
      (λ _. cond_both (is_missing n w v) (telling (given (missing_token n w v) v) (does (single_token_insertion n w v) (Token (missing_symbol n w v)))) _ P gone (λ _. neither)))

  pub by_acts :
      (c : Choice) (n : Net) (w : WithinSets) (v : View)
      → (c ≡ Begins → is_unwanted n w v ≡ true → P (telling (given (unwanted_token n w v) v) (does (single_token_deletion v) Done)))
      → (c ≡ Begins → P (mismatches (mismatch_at (own_pair v) v) v))
      → (c ≡ GoesBack → P (telling (given (unwanted_token n w v) v) (does (pass_many Searched (before (stops_at n w v) v.shown) (begin_error_condition v)) Done)))
      → (c ≡ Neither → P (does v Done))
      → P (acts c n w v)
  by_acts Begins n w v extra neither back none =
      cond_both (is_unwanted n w v) (telling (given (unwanted_token n w v) v) (does (single_token_deletion v) Done)) (mismatches (mismatch_at (own_pair v) v) v) P (extra refl) (λ _. neither refl)
  by_acts GoesBack n w v extra neither back none = back refl
  by_acts Neither n w v extra neither back none = none refl

  pub by_sync :
      (n : Net) (w : WithinSets) (v : View)
      → (in_error_recovery_mode v ≡ true → P (does v Done))
      → (may_come w v ≡ true → P (does (record v { strategy = record v.strategy { next_tokens = None } }) Done))
      → (may_be_nothing w v ≡ true → P (does (record v { strategy = record v.strategy { next_tokens = Some (unwrap_or v.strategy.next_tokens (own_pair v)) } }) Done))
      → (may_come w v ≡ false → may_be_nothing w v ≡ false → P (acts (choice_here n v) n w v))
      → P (sync n w v)
  by_sync n w v in_error_condition come nothing act =
      cond_both (in_error_recovery_mode v) (does v Done) _ P in_error_condition
      (λ _. cond_both (may_come w v) (does (record v { strategy = record v.strategy { next_tokens = None } }) Done) _ P come
      (λ e. cond_both (may_be_nothing w v) (does (record v { strategy = record v.strategy { next_tokens = Some (unwrap_or v.strategy.next_tokens (own_pair v)) } }) Done) (acts (choice_here n v) n w v) P nothing (act e)))

-- the failsafe passes a token or none
pub by_guard : (P : View → Type 0) (v : View) → (failsafe_applies v ≡ true → P (pass Searched v)) → (failsafe_applies v ≡ false → P v) → P (failsafe v)
by_guard P v again first = cond_both (failsafe_applies v) (pass Searched v) v P again first
