-- The mode is what the history says, call by call.
use Rattle.std.proofs.Common.{◌≡◌, ℕ, zero, suc, Bool, true, false, not, ◌&&◌, ◌==◌, List, [], ◌∷◌, ◌++◌, ◌-◌, length, arith, reverse, pos, Some, None, sym, refl, ap, ◌∙◌, append_assoc, subst, if◌then◌else◌, unwrap_or}
use Rattle.std.proofs.lemmas.Bool.{cond_both, cond-true, cond-false, and_from, and_left, and_right, both_ways, not-false, lt-ltb, eq-eqb, eqb-true, ne_eqb}
use Rattle.std.proofs.lemmas.List.{reverse-append}
use Rattle.errors.specs.declared.denial.Denial.TheVariants.{NoRuleOpen, WrongReport}
use Rattle.atn_graph.specs.Net.{Net}
use Rattle.token.specs.Tokens.{Fields, type_number, token_index}
use Rattle.token_stream.specs.Tapes.{token_at, EndsInEof}
use Rattle.token_stream.specs.Streams.{Shows, passed, shown_at}
use Rattle.recovery_model.specs.declared.call.Call.{Call}
use Rattle.recovery_model.specs.declared.call.Call.TheVariants.{State, Enter, Leave, Match, Wildcard, Sync, Report, Recover}
use Rattle.recovery_model.specs.Calls.{Token, fits}
use Rattle.recovery_model.specs.Sets.{WithinSets}
use Rattle.recovery_model.specs.Views.{View, current, place, here, ahead, new_strategy_state}
use Rattle.recovery_model.specs.Passing.{Reason, Searched, before, pass, pass_many, in_error_recovery_mode, begin_error_condition}
use Rattle.recovery_model.specs.Outcomes.{Outcome}
use Rattle.recovery_model.specs.RecoverInline.{single_token_deletion, matched}
use Rattle.recovery_model.specs.Sync.{choice_here, may_come, may_be_nothing, stops_at, acts, sync}
use Rattle.recovery_model.specs.Recover.{failsafe, searching, search_length, recover}
use Rattle.recovery_model.specs.Denials.{denial, may_report, none_open}
use Rattle.recovery_model.specs.Steps.{left, reports, accepted, step}
use Rattle.recovery_model.specs.Journals.{Event, event, run, journal}
use Rattle.recovery_model.specs.Histories.{is_accepted, is_of_the_tape, is_missing_symbol, begins_choice, goes_back, is_unfit, ends_error_condition, begins_error_condition, in_error_condition}
use Rattle.recovery_model.specs.Matching.{MatchesHistory}
use Rattle.recovery_model.proofs.Fitting.{Fit}
use Rattle.recovery_model.proofs.Shown.{Rises, Numbered, Onward, onward_rises, onward_numbered, passed_onward}
use Rattle.recovery_model.proofs.Doing.{not_eof, struck_moves}
use Rattle.recovery_model.proofs.Telling.{told, onward, ends, tells_step}
use Rattle.recovery_model.proofs.Cases.{no_first, by_step, by_left, by_report, by_match, by_acts, by_sync, by_guard}

-- whether repair goes on after an event that ends it or begins it or neither
abbrev turned : Bool → Bool → Bool → Bool
turned ends begins was = if ends then false else if begins then true else was

ended_so : (e b was : Bool) → e ≡ true → false ≡ turned e b was
ended_so e b was p = sym (cond-true e false _ p)

begun_so : (e b was : Bool) → e ≡ false → b ≡ true → true ≡ turned e b was
begun_so e b was p q = sym (cond-false e false _ p ∙ cond-true b true was q)

stays_so : (e b was : Bool) → e ≡ false → b ≡ false → was ≡ turned e b was
stays_so e b was p q = sym (cond-false e false _ p ∙ cond-false b true was q)

goes_on : (e b was : Bool) → e ≡ false → was ≡ true → was ≡ turned e b was
goes_on e b was p q = sym (cond-false e false _ p ∙ cond_both b true was (λ x. x ≡ was) (λ f. sym q) (λ f. refl))

-- passing leaves the mode
mode_many : (why : Reason) (k : ℕ) (v : View) → in_error_recovery_mode (pass_many why k v) ≡ in_error_recovery_mode v
mode_many why zero v = refl
mode_many why (suc k) v = mode_many why k (pass why v)

mode_unstuck : (v : View) → in_error_recovery_mode (failsafe v) ≡ in_error_recovery_mode v
mode_unstuck v = by_guard (λ u. in_error_recovery_mode u ≡ in_error_recovery_mode v) v (λ _. refl) (λ _. refl)

of_the_tape : (t : Fields) → t.index ≡ Some (token_index t) → is_of_the_tape (Token t) ≡ true
of_the_tape t e = rw e refl

first_ahead : (ts : List Fields) → shown_at ts (pos 1) ≡ token_at ts 0
first_ahead [] = refl
first_ahead (t ∷ ts) = ap (λ b. token_at (t ∷ ts) (if b then 0 else length (t ∷ ts) - 1)) (lt-ltb 0 (length (t ∷ ts)) (omega arith))

-- a match, by what it answers
abbrev Answers : View → Outcome → Type 0
Answers v o = in_error_recovery_mode o.view ≡ turned (is_accepted o.answer && is_of_the_tape o.answer) (is_accepted o.answer && is_missing_symbol o.answer) (in_error_recovery_mode v)

module _ (v : View) (ends_in : EndsInEof v.shown) (numbered : Numbered v.shown) (n : Net) (w : WithinSets) where
  struck_named : (current (single_token_deletion v)).index ≡ Some (token_index (current (single_token_deletion v)))
  struck_named =
      let one : Onward v.shown (passed v.shown) = passed_onward v.shown ends_in in
      onward_numbered v.shown (passed v.shown) numbered one 0 one.some

  answers_so : (fit : Bool) → Answers v (matched fit n w v)
  answers_so fit =
      by_match (Answers v) fit n w v
      (λ _. ended_so _ (is_missing_symbol (Token (current v))) (in_error_recovery_mode v) (of_the_tape (current v) (numbered 0 ends_in.non_empty)))
      (λ _. ended_so _ (is_missing_symbol (Token (current (single_token_deletion v)))) (in_error_recovery_mode v) (of_the_tape (current (single_token_deletion v)) struck_named))
      (λ _. refl)
      refl

  -- a sync, by where the parser stands
  abbrev Turned : Outcome → Type 0
  Turned o = in_error_recovery_mode o.view ≡ turned (is_accepted o.answer && (begins_choice n (here v) && not (place o.view == place v))) (is_accepted o.answer && (goes_back n (here v) && (not (may_come w v) && not (may_be_nothing w v)))) (in_error_recovery_mode v)

  still : (begins_choice n (here v) && not (place v == place v)) ≡ false
  still = and_right (begins_choice n (here v)) _ (ap not (eq-eqb (place v) (place v) refl))

  fit_so : (not (may_come w v) && not (may_be_nothing w v)) ≡ false → (goes_back n (here v) && (not (may_come w v) && not (may_be_nothing w v))) ≡ false
  fit_so e = and_right (goes_back n (here v)) _ e

  acted : Rises v.shown → may_come w v ≡ false → may_be_nothing w v ≡ false → Turned (acts (choice_here n v) n w v)
  acted rises come nothing =
      by_acts Turned (choice_here n v) n w v
      (λ is e. let begins : begins_choice n (here v) ≡ true = rw is refl in
      ended_so _ (goes_back n (here v) && (not (may_come w v) && not (may_be_nothing w v))) (in_error_recovery_mode v) (and_from _ _ begins (ap not (ne_eqb _ _ (struck_moves n w v ends_in rises numbered (not_eof n w v ends_in rises numbered come nothing e))))))
      (λ is. let not_back : goes_back n (here v) ≡ false = rw is refl in stays_so _ _ _ still (and_left _ _ not_back))
      (λ is. let begins : begins_choice n (here v) ≡ false = rw is refl in
      let back : goes_back n (here v) ≡ true = rw is refl in
      mode_many Searched (before (stops_at n w v) v.shown) (begin_error_condition v)
      ∙ begun_so _ _ _ (and_left _ _ begins) (and_from _ _ back (and_from _ _ (ap not come) (ap not nothing))))
      (λ is. let not_back : goes_back n (here v) ≡ false = rw is refl in stays_so _ _ _ still (and_left _ _ not_back))

  turned_so : Rises v.shown → Turned (sync n w v)
  turned_so rises =
      by_sync Turned n w v
      (λ e. goes_on _ _ _ still e)
      (λ e. stays_so _ _ _ still (fit_so (and_left _ _ (ap not e))))
      (λ e. stays_so _ _ _ still (fit_so (and_right (not (may_come w v)) _ (ap not e))))
      (acted rises)

-- A report that is accepted begins the error condition: a mismatch is reported only if one is kept.
no_report : (k : ℕ) (v : View) → v.input_mismatch ≡ None → (k == 2) ≡ true → may_report k v ≡ false
no_report k v e two = rw (eqb-true k 2 two, e) refl

module _ (tape first : List Fields) (shows : Shows tape first) (n : Net) (fit : Fit n) (w : WithinSets) where
  module _ (h : List Event) (v : View) (t : MatchesHistory n first h v) where
    has_end : EndsInEof v.shown
    has_end = ends tape first shows n fit h v t

    rising : Rises v.shown
    rising = onward_rises first v.shown shows.rises (onward tape first shows n fit h v t)

    token_indexes : Numbered v.shown
    token_indexes = onward_numbered first v.shown (λ k l. (shows.named k l).index) (onward tape first shows n fit h v t)

    abbrev Turns : Call → Outcome → Type 0
    Turns c o = in_error_recovery_mode o.view ≡ turned (ends_error_condition n h (told c v o)) (begins_error_condition n w first h (told c v o)) (in_error_recovery_mode v)

    turns_leave : Turns Leave (left v)
    turns_leave = by_left (Turns Leave) v (λ _. refl) (λ o os _. refl)

    unfit_so : (not (may_come w v) && not (may_be_nothing w v)) ≡ is_unfit w first (here v) (place v)
    unfit_so = ap (λ tok. not (w.types (here v) (type_number tok.typ)) && not (w.end (here v))) (first_ahead v.shown ∙ ap (λ ts. token_at ts 0) t.shown)

    turns_sync : Turns Sync (sync n w v)
    turns_sync =
        let o = sync n w v in
        subst (λ s. in_error_recovery_mode o.view ≡ turned (is_accepted o.answer && (begins_choice n s && not (place o.view == place v))) (is_accepted o.answer && (goes_back n s && is_unfit w first s (place v))) (in_error_recovery_mode v)) (ap (λ p. unwrap_or p.state 0) t.standing)
        (subst (λ b. in_error_recovery_mode o.view ≡ turned (is_accepted o.answer && (begins_choice n (here v) && not (place o.view == place v))) (is_accepted o.answer && (goes_back n (here v) && b)) (in_error_recovery_mode v)) unfit_so
        (turned_so v has_end token_indexes n w rising))

    turns_report : (k : ℕ) → denial n w (Report k) v ≡ None → Turns (Report k) (reports n w k v)
    turns_report k none =
        let f = no_first (WrongReport, not (may_report k v)) [] (no_first (NoRuleOpen, none_open v) ((WrongReport, not (may_report k v)) ∷ []) none).1 in
        by_report (Turns (Report k)) n w k v (λ e two. absurd (both_ways _ (no_report k v e two) (not-false (may_report k v) f.0))) (λ t. refl)

    turns_recover : Turns Recover (recover n w v)
    turns_recover = let u = searching (failsafe v) in mode_many Searched (search_length n w u) u ∙ mode_unstuck v

    turns : (c : Call) → denial n w c v ≡ None → Turns c (accepted n w c v)
    turns (State s) none = refl
    turns (Enter r) none = refl
    turns Leave none = turns_leave
    turns (Match ty) none = answers_so v has_end token_indexes n w (fits (Match ty) (ahead v 1))
    turns Wildcard none = answers_so v has_end token_indexes n w (fits Wildcard (ahead v 1))
    turns Sync none = turns_sync
    turns (Report k) none = turns_report k none
    turns Recover none = turns_recover

    mode_step : (c : Call) → in_error_recovery_mode v ≡ in_error_condition n w first h → in_error_recovery_mode (step n w c v).view ≡ in_error_condition n w first (event n w c v ∷ h)
    mode_step c m =
        let e = event n w c v in
        by_step (Turns c) n w c v (λ d. refl) (turns c) ∙ ap (turned (ends_error_condition n h e) (begins_error_condition n w first h e)) m

  -- and so it is after any calls
  pub mode_run : (cs : List Call) (h : List Event) (v : View) → MatchesHistory n first h v → in_error_recovery_mode v ≡ in_error_condition n w first h → in_error_recovery_mode (run n w cs v) ≡ in_error_condition n w first (reverse (journal n w cs v) ++ h)
  mode_run [] h v t m = m
  mode_run (c ∷ cs) h v t m =
      let now = event n w c v in
      let js = journal n w cs (step n w c v).view in
      let order : reverse (now ∷ js) ++ h ≡ reverse js ++ now ∷ h = ap (λ xs. xs ++ h) (reverse-append (now ∷ []) js) ∙ append_assoc (reverse js) (now ∷ []) h in
      mode_run cs (now ∷ h) (step n w c v).view (tells_step tape first shows n fit h v t w c) (mode_step h v t c m) ∙ ap (in_error_condition n w first) (sym order)

pub mode_none : (v : View) → v.strategy ≡ new_strategy_state → in_error_recovery_mode v ≡ false
mode_none v strategy = rw strategy refl
