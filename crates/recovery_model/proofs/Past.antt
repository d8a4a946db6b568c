-- What ends the error condition passes a token, and so does a recover that the failsafe makes skip one.
use Rattle.std.proofs.Common.{◌≡◌, ℕ, ◌+◌, ◌<◌, ◌≤◌, Bool, true, false, ◌&&◌, ◌||◌, ◌==◌, List, [], ◌∷◌, ◌++◌, length, sym, refl, ap, ◌∙◌, subst, inl, inr, arith}
use Rattle.std.proofs.lemmas.Bool.{cond-true, and_parts, both_ways, eq-eqb, not-true}
use Rattle.std.proofs.lemmas.List.{get_or-append-add, length-append}
use Rattle.atn_graph.specs.Net.{Net}
use Rattle.token.specs.Tokens.{Fields, is_eof, token_index}
use Rattle.token_stream.specs.Tapes.{no_token, token_at, EndsInEof}
use Rattle.token_stream.specs.Streams.{Shows, passed}
use Rattle.recovery_model.specs.declared.call.Call.{Call}
use Rattle.recovery_model.specs.declared.call.Call.TheVariants.{State, Enter, Leave, Match, Wildcard, Sync, Report, Recover}
use Rattle.recovery_model.specs.Calls.{fits}
use Rattle.recovery_model.specs.Sets.{WithinSets}
use Rattle.recovery_model.specs.Views.{View, current, place, ahead}
use Rattle.recovery_model.specs.Passing.{Taken, Searched, pass}
use Rattle.recovery_model.specs.Outcomes.{Outcome}
use Rattle.recovery_model.specs.RecoverInline.{matched}
use Rattle.recovery_model.specs.Sync.{sync}
use Rattle.recovery_model.specs.Recover.{failsafe, searching, search_length, recover}
use Rattle.recovery_model.specs.Steps.{left, reports, accepted, step}
use Rattle.recovery_model.specs.Journals.{Event}
use Rattle.recovery_model.specs.Histories.{is_accepted, is_of_the_tape, begins_choice, present, next_place, ends_error_condition, is_recover, skips}
use Rattle.recovery_model.specs.Matching.{MatchesHistory}
use Rattle.recovery_model.proofs.Fitting.{Fit}
use Rattle.recovery_model.proofs.Cases.{by_step, by_left, by_report, by_match}
use Rattle.recovery_model.proofs.Shown.{Rises, Numbered, Onward, onward_ends, onward_rises, onward_numbered, onward_more, onward_next, passed_onward, passed_moves}
use Rattle.recovery_model.proofs.Moves.{same_self, same_many}
use Rattle.recovery_model.proofs.Doing.{Matches, matched_so, Syncs, syncs_so}
use Rattle.recovery_model.proofs.Telling.{told, onward, ends, same_unstuck, searches_from}

-- what is left begins no earlier
onward_place : (old new : List Fields) → Rises old → Onward old new → token_index (token_at old 0) ≤ token_index (token_at new 0)
onward_place old new rises o = subst (λ ts. token_index (token_at ts 0) ≤ token_index (token_at new 0)) (sym o.parts) (at o.dropped (subst Rises o.parts rises))
  where
    at : (d : List Fields) → Rises (d ++ new) → token_index (token_at (d ++ new) 0) ≤ token_index (token_at new 0)
    at [] r = omega arith
    at (t ∷ d) r = omega (arith, ap token_index (get_or-append-add (t ∷ d) new 0 no_token), r 0 (length (t ∷ d) + 0) (omega arith) (omega (arith, length-append (t ∷ d) new, o.some)))

-- past a token that is not EOF a later place is reached
passed_past : (ts new : List Fields) → EndsInEof ts → Rises ts → is_eof (token_at ts 0).typ ≡ false → Onward (passed ts) new → token_index (token_at ts 0) < token_index (token_at new 0)
passed_past ts new ends rises e o =
    let one = passed_onward ts ends in
    let le : token_index (token_at ts 0) ≤ token_index (token_at (passed ts) 0) = onward_place ts (passed ts) rises one in
    let ne : token_index (token_at (passed ts) 0) ≡ token_index (token_at ts 0) → ⊥ = passed_moves ts ends rises e in
    let on : token_index (token_at (passed ts) 0) ≤ token_index (token_at new 0) = onward_place (passed ts) new (onward_rises ts (passed ts) rises one) o in
    omega (arith, le, ne, on)

left_shown : (v : View) → (left v).view.shown ≡ v.shown
left_shown v = by_left (λ o. o.view.shown ≡ v.shown) v (λ _. refl) (λ o os _. refl)

module _ (v : View) (ends_in : EndsInEof v.shown) (rises : Rises v.shown) where
  -- a token of the tape is answered only where one is passed
  abbrev Answers : Outcome → Type 0
  Answers o = is_of_the_tape o.answer ≡ true → place v < place o.view

  past : (new : List Fields) → is_eof (current v).typ ≡ false → Onward (passed v.shown) new → place v < token_index (token_at new 0)
  past new e o = passed_past v.shown new ends_in rises e o

  kept_on : Onward v.shown v.shown
  kept_on = (same_self v ends_in).onward

  one_on : Onward (passed v.shown) (passed v.shown)
  one_on = (same_self (pass Taken v) (onward_ends v.shown (passed v.shown) ends_in (passed_onward v.shown ends_in))).onward

  two_on : Onward (passed v.shown) (passed (passed v.shown))
  two_on = passed_onward (passed v.shown) (onward_ends v.shown (passed v.shown) ends_in (passed_onward v.shown ends_in))

  matched_past : is_eof (current v).typ ≡ false → (fit : Bool) (n : Net) (w : WithinSets) → Answers (matched fit n w v)
  matched_past e fit n w =
      by_match Answers fit n w v
      (λ _ answer_of. past (passed v.shown) e one_on)
      (λ _ answer_of. past _ e two_on)
      (λ _ answer_of. absurd (both_ways false refl answer_of))
      (λ answer_of. absurd (both_ways false refl answer_of))

-- a call that neither ends the error condition nor recovers, and one that does not recover
none_passes : (a s : Bool) → ((a && false) || ((a && false) && s)) ≡ true → ⊥
none_passes true s e = both_ways false refl e
none_passes false s e = both_ways false refl e

only_ends : (a x s : Bool) → ((a && x) || ((a && false) && s)) ≡ true → x ≡ true
only_ends true true s e = refl
only_ends true false s e = e
only_ends false x s e = absurd (both_ways false refl e)

module _ (tape first : List Fields) (shows : Shows tape first) (n : Net) (fit : Fit n) where
  module _ (h : List Event) (v : View) (t : MatchesHistory n first h v) where
    has_end : EndsInEof v.shown
    has_end = ends tape first shows n fit h v t

    on : Onward first v.shown
    on = onward tape first shows n fit h v t

    rising : Rises v.shown
    rising = onward_rises first v.shown shows.rises on

    token_indexes : Numbered v.shown
    token_indexes = onward_numbered first v.shown (λ k l. (shows.named k l).index) on

    of_matches : (o : Outcome) → Matches v o → Onward v.shown o.view.shown
    of_matches o (inl m) = m.0.onward
    of_matches o (inr m) = m.0.onward

    of_syncs : (o : Outcome) → Syncs n v o → Onward v.shown o.view.shown
    of_syncs o (inl s) = s.cleared.onward
    of_syncs o (inr s) = s.same.onward

    of_report : (k : ℕ) (w : WithinSets) → (reports n w k v).view.shown ≡ v.shown
    of_report k w = by_report (λ o. o.view.shown ≡ v.shown) n w k v (λ _ _. refl) (λ t. refl)

    unstuck_on : Onward v.shown (failsafe v).shown
    unstuck_on = (same_unstuck tape first shows n fit h v t).onward

    searched_on : (w : WithinSets) → Onward (failsafe v).shown (recover n w v).view.shown
    searched_on w =
        let u = searching (failsafe v) in
        (same_many Searched (search_length n w u) u (onward_ends v.shown (failsafe v).shown has_end unstuck_on)).onward

    call_onward : (c : Call) (w : WithinSets) → Onward v.shown (accepted n w c v).view.shown
    call_onward (State s) w = kept_on v has_end rising
    call_onward (Enter r) w = kept_on v has_end rising
    call_onward Leave w = subst (Onward v.shown) (sym (left_shown v)) (kept_on v has_end rising)
    call_onward (Match ty) w = of_matches (accepted n w (Match ty) v) (matched_so v has_end token_indexes (fits (Match ty) (ahead v 1)) n w)
    call_onward Wildcard w = of_matches (accepted n w Wildcard v) (matched_so v has_end token_indexes (fits Wildcard (ahead v 1)) n w)
    call_onward Sync w = of_syncs _ (syncs_so n w v has_end rising token_indexes)
    call_onward (Report k) w = subst (Onward v.shown) (sym (of_report k w)) (kept_on v has_end rising)
    call_onward Recover w = onward_more v.shown (failsafe v).shown _ unstuck_on (searched_on w)

    -- a call drops tokens from the front, and so the place never falls
    pub step_onward : (c : Call) (w : WithinSets) → Onward v.shown (step n w c v).view.shown
    step_onward c w = by_step (λ o. Onward v.shown o.view.shown) n w c v (λ d. kept_on v has_end rising) (λ none. call_onward c w)

    pub step_rises : (c : Call) (w : WithinSets) → place v ≤ place (step n w c v).view
    step_rises c w = onward_place v.shown _ rising (step_onward c w)

    -- what ends the error condition, and a recover that skips, passes the token
    abbrev pub passes : Event → Bool
    passes e = ends_error_condition n h e || (is_recover e && skips n first h e)

    abbrev pub Passes : Call → Outcome → Type 0
    Passes c o = passes (told c v o) ≡ true → place v < place o.view

    skipped_past : (w : WithinSets) → is_eof (current v).typ ≡ false → skips n first h (told Recover v (recover n w v)) ≡ true → place v < place (recover n w v).view
    skipped_past w e answer_of =
        let next : place (failsafe v) ≡ token_index (token_at (passed v.shown) 0) =
        searches_from tape first shows n fit h v t (recover n w v)
        ∙ cond-true (skips n first h (told Recover v (recover n w v))) (next_place first (place v)) (place v) answer_of
        ∙ onward_next first v.shown shows.rises on in
        let past : place v < token_index (token_at (passed v.shown) 0) = passed_past v.shown (passed v.shown) has_end rising e (one_on v has_end rising) in
        let far : place (failsafe v) ≤ place (recover n w v).view = onward_place (failsafe v).shown _ (onward_rises v.shown (failsafe v).shown rising unstuck_on) (searched_on w) in
        omega (arith, next, past, far)

    call_passes : (c : Call) (w : WithinSets) → is_eof (current v).typ ≡ false → Passes c (accepted n w c v)
    call_passes (State s) w e answer_of = absurd (both_ways false refl answer_of)
    call_passes (Enter r) w e answer_of = absurd (both_ways false refl answer_of)
    call_passes Leave w e answer_of = absurd (none_passes (is_accepted (left v).answer) _ answer_of)
    call_passes (Match ty) w e answer_of = matched_past v has_end rising e (fits (Match ty) (ahead v 1)) n w (only_ends _ _ _ answer_of)
    call_passes Wildcard w e answer_of = matched_past v has_end rising e (fits Wildcard (ahead v 1)) n w (only_ends _ _ _ answer_of)
    call_passes Sync w e answer_of =
        let o = sync n w v in
        let moved : (place o.view == place v) ≡ false = not-true _ (and_parts (begins_choice n (present n h)) _ (only_ends (is_accepted o.answer) _ _ answer_of)).1 in
        let ne : place o.view ≡ place v → ⊥ = λ d. both_ways _ moved (eq-eqb (place o.view) (place v) d) in
        let le : place v ≤ place o.view = onward_place v.shown _ rising (call_onward Sync w) in
        omega (arith, ne, le)
    call_passes (Report k) w e answer_of = absurd (none_passes (is_accepted (reports n w k v).answer) _ answer_of)
    call_passes Recover w e answer_of = skipped_past w e answer_of

    pub step_passes : (c : Call) (w : WithinSets) → is_eof (current v).typ ≡ false → Passes c (step n w c v)
    step_passes c w e = by_step (Passes c) n w c v (λ d answer_of. absurd (both_ways false refl answer_of)) (λ none. call_passes c w e)
