-- The notes tell what the history says, call by call.
use Rattle.std.proofs.Common.{◌≡◌, ℕ, zero, suc, ◌<◌, Bool, true, false, not, ◌&&◌, ◌==◌, nat_lt, ◌⊎◌, List, [], ◌∷◌, ◌++◌, length, map, reverse, ℤ, Option, Some, None, sym, refl, ap, ◌∙◌, append_assoc, subst, ap₂, inl, inr, arith, if◌then◌else◌, unwrap_or, All, slice_index_or, slice_set}
use Rattle.std.proofs.lemmas.Bool.{cond-true, cond-false, or_parts, and_from, and_right, not-false, eq-eqb, ne_eqb, cases_eq, ltb-true}
use Rattle.std.proofs.lemmas.List.{get_or-replicate, length-replicate, get_or-set_same, get_or-set_other, length-set, reverse-append}
use Rattle.errors.specs.declared.denial.Denial.TheVariants.{OutsideLimits, StateOutside, NoRuleOpen, WrongRule, TooManyRules}
use Rattle.atn_graph.specs.Net.{Net, size}
use Rattle.token.specs.Tokens.{Fields}
use Rattle.token_stream.specs.Tapes.{EndsInEof}
use Rattle.token_stream.specs.Streams.{Shows}
use Rattle.recovery_model.specs.declared.call.Call.{Call}
use Rattle.recovery_model.specs.declared.call.Call.TheVariants.{State, Enter, Leave, Match, Wildcard, Sync, Report, Recover}
use Rattle.recovery_model.specs.declared.open_rule.OpenRule.{OpenRule}
use Rattle.recovery_model.specs.Calls.{Answer, Denied, Done, Left as LeftAnswer, Token, Mismatch, fits}
use Rattle.recovery_model.specs.Sets.{WithinSets}
use Rattle.recovery_model.specs.Views.{View, place, here, ahead, new_strategy_state}
use Rattle.recovery_model.specs.Passing.{Searched, pass, pass_many}
use Rattle.recovery_model.specs.Outcomes.{Outcome, does}
use Rattle.recovery_model.specs.Recover.{failsafe_applies, failsafe, searching, search_length, recover}
use Rattle.recovery_model.specs.Denials.{denial, is_elsewhere, none_open, is_called}
use Rattle.recovery_model.specs.Steps.{left, reports, accepted, step}
use Rattle.recovery_model.specs.Journals.{Event, event, run, journal}
use Rattle.recovery_model.specs.Histories.{is_accepted, is_of_the_tape, begins_choice, moved, standing, present, shown_from, next_place, ends_error_condition, is_recover, recovered_in, latest_search, skips, searched_from}
use Rattle.recovery_model.specs.Matching.{stands, Inside, MatchesHistory}
use Rattle.recovery_model.proofs.Fitting.{Fit}
use Rattle.recovery_model.proofs.Cases.{no_first, by_step, by_left, by_report, by_guard}
use Rattle.recovery_model.proofs.Shown.{Rises, Numbered, Onward, onward_by, onward_ends, onward_rises, onward_numbered, onward_more, onward_from, onward_next}
use Rattle.recovery_model.proofs.Moves.{Same, Cleared, same_self, same_pass, same_many, same_begun}
use Rattle.recovery_model.proofs.Doing.{Matches, matched_so, Syncs, syncs_so}

-- the event of a call and what it did
abbrev pub told : Call → View → Outcome → Event
told c v o = record { call = c; answer = o.answer; before = place v; after = place o.view }

never : (v : View) → v.strategy.last_error_index ≡ None → failsafe_applies v ≡ false
never v e = rw e refl

repeats_at : (v : View) (p : ℕ) → v.strategy.last_error_index ≡ Some p → failsafe_applies v ≡ (p == place v && slice_index_or v.strategy.last_error_states (here v) false)
repeats_at v p e = rw e refl

module _ (tape first : List Fields) (shows : Shows tape first) (n : Net) (fit : Fit n) where
  numbered : Numbered first
  numbered k l = (shows.named k l).index

  pub onward : (h : List Event) (v : View) → MatchesHistory n first h v → Onward first v.shown
  onward h v t = onward_by t.dropped v.shown first t.dropped_then_shown t.some

  -- what is shown, wherever the tokens were dropped to
  record Left (v : View) : Type 0 where
    shown : v.shown ≡ shown_from (place v) first
    dropped : List Fields
    dropped_then_shown : first ≡ dropped ++ v.shown
    some : 0 < length v.shown

  left_by : (v : View) → Onward first v.shown → Left v
  left_by v o = record { shown = onward_from first v.shown shows.rises o; dropped = o.dropped; dropped_then_shown = o.parts; some = o.some }

  module _ (h : List Event) (v : View) (t : MatchesHistory n first h v) where
    -- The notes are kept, as the history's words are.
    tells_same : (e : Event) (u : View) → Same v u → ends_error_condition n h e ≡ false → is_recover e ≡ false → standing n (e ∷ h) ≡ standing n h → MatchesHistory n first (e ∷ h) u
    tells_same e u s ends rec stand =
        let l = left_by u (onward_more first v.shown u.shown (onward h v t) s.onward) in
        record {
          standing = s.standing ∙ t.standing ∙ sym stand;
          inside = subst (Inside n) (sym s.standing) t.inside;
          last = s.last ∙ t.last ∙ sym (rw (ends, rec) refl);
          long = ap length s.marks ∙ t.long;
          marks = λ k b. ap (λ ms. slice_index_or ms k false) s.marks ∙ t.marks k b ∙ sym (rw (ends, rec) refl);
          shown = l.shown;
          dropped = l.dropped;
          dropped_then_shown = l.dropped_then_shown;
          some = l.some;
        }

    tells_cleared : (e : Event) (u : View) → Cleared v u → ends_error_condition n h e ≡ true → standing n (e ∷ h) ≡ standing n h → MatchesHistory n first (e ∷ h) u
    tells_cleared e u s ends stand =
        let l = left_by u (onward_more first v.shown u.shown (onward h v t) s.onward) in
        record {
          standing = s.standing ∙ t.standing ∙ sym stand;
          inside = subst (Inside n) (sym s.standing) t.inside;
          last = s.last ∙ sym (rw ends refl);
          long = ap length s.marks ∙ length-replicate 512 false;
          marks = λ k b. ap (λ ms. slice_index_or ms k false) s.marks ∙ get_or-replicate 512 k false false b ∙ sym (rw ends refl);
          shown = l.shown;
          dropped = l.dropped;
          dropped_then_shown = l.dropped_then_shown;
          some = l.some;
        }

    -- The parser moves, and notes nothing.
    tells_moved : (e : Event) (u : View) → stands u ≡ standing n (e ∷ h) → Inside n (stands u) → u.strategy ≡ v.strategy → u.shown ≡ v.shown → ends_error_condition n h e ≡ false → is_recover e ≡ false → MatchesHistory n first (e ∷ h) u
    tells_moved e u stand inside strategy shown ends rec =
        let l = left_by u (subst (Onward first) (sym shown) (onward h v t)) in
        record {
          standing = stand;
          inside = inside;
          last = ap (λ m. m.last_error_index) strategy ∙ t.last ∙ sym (rw (ends, rec) refl);
          long = ap (λ m. length m.last_error_states) strategy ∙ t.long;
          marks = λ k b. ap (λ m. slice_index_or m.last_error_states k false) strategy ∙ t.marks k b ∙ sym (rw (ends, rec) refl);
          shown = l.shown;
          dropped = l.dropped;
          dropped_then_shown = l.dropped_then_shown;
          some = l.some;
        }

    pub ends : EndsInEof v.shown
    ends = onward_ends first v.shown shows.ends (onward h v t)

    rises : Rises v.shown
    rises = onward_rises first v.shown shows.rises (onward h v t)

    token_indexes : Numbered v.shown
    token_indexes = onward_numbered first v.shown numbered (onward h v t)

    abbrev Told : Call → Outcome → Type 0
    Told c o = MatchesHistory n first (told c v o ∷ h) o.view

    at_state : (s : ℕ) (w : WithinSets) → denial n w (State s) v ≡ None → Told (State s) (accepted n w (State s) v)
    at_state s w none =
        let rest = (StateOutside, is_elsewhere n s v) ∷ [] in
        let f = no_first (StateOutside, is_elsewhere n s v) [] (no_first (NoRuleOpen, none_open v) rest none).1 in
        let here : nat_lt s (size n) ≡ true = not-false _ (or_parts _ _ (or_parts _ _ f.0).0).0 in
        tells_moved _ _ (ap (moved n (State s)) t.standing) (record { state = ltb-true s (size n) here; invoking = t.inside.invoking }) refl refl refl refl

    at_enter : (r : ℕ) (w : WithinSets) → denial n w (Enter r) v ≡ None → Told (Enter r) (accepted n w (Enter r) v)
    at_enter r w none =
        let f = no_first (OutsideLimits, not (nat_lt r (length n.rules))) ((WrongRule, not (none_open v) && not (is_called n r v)) ∷ (TooManyRules, length v.open_rules == 64) ∷ []) none in
        let inside : nat_lt r (length n.rules) ≡ true = not-false _ f.0 in
        tells_moved _ _ (ap (moved n (Enter r)) t.standing) (record { state = fit.starts r (ltb-true r (length n.rules) inside); invoking = more }) refl refl refl refl
      where
        more : All (λ i. unwrap_or i 0 < size n) (v.state ∷ map (λ o. o.invoking) v.open_rules)
        more zero d l = t.inside.state
        more (suc k) d l = t.inside.invoking k d (omega arith)

    at_leave : Told Leave (left v)
    at_leave = by_left (Told Leave) v none some
      where
        none : v.open_rules ≡ [] → Told Leave (does v Done)
        none e =
            let none : moved n Leave (stands v) ≡ stands v = rw e refl in
            tells_same _ v (same_self v ends) refl refl (ap (moved n Leave) (sym t.standing) ∙ none ∙ t.standing)

        some : (o : OpenRule) (os : List OpenRule) → v.open_rules ≡ o ∷ os → Told Leave (does (record v { state = o.invoking; open_rules = os }) (LeftAnswer o.leaves))
        some o os e =
            let u = record v { state = o.invoking; open_rules = os } in
            let back : stands u ≡ moved n Leave (stands v) = rw e refl in
            let all : All (λ i. unwrap_or i 0 < size n) (map (λ o. o.invoking) (o ∷ os)) = subst (λ rs. All (λ i. unwrap_or i 0 < size n) (map (λ o. o.invoking) rs)) e t.inside.invoking in
            tells_moved _ u (back ∙ ap (moved n Leave) t.standing) (record { state = all 0 None (omega arith); invoking = λ k d l. all (suc k) d (omega arith) }) refl refl refl refl

    -- a call that moves nothing
    unmoved : (a : Answer) → (if is_accepted a then standing n h else standing n h) ≡ standing n h
    unmoved a = elim (is_accepted a) as (λ b. (if b then standing n h else standing n h) ≡ standing n h) [ true ↦ refl | false ↦ refl ]

    no_recover : (a : Answer) → (is_accepted a && false) ≡ false
    no_recover a = and_right (is_accepted a) false refl

    accepts : (a : Answer) → is_of_the_tape a ≡ true → is_accepted a ≡ true
    accepts Done e = refl
    accepts (LeftAnswer k) e = refl
    accepts (Token tok) e = refl
    accepts (Mismatch m) e = refl
    accepts (Denied d) e = e

    at_match : (ty : ℤ) (o : Outcome) → Matches v o → Told (Match ty) o
    at_match ty o (inl (c, e)) = tells_cleared _ o.view c (and_from _ _ (accepts o.answer e) e) (unmoved o.answer)
    at_match ty o (inr (c, e)) = tells_same _ o.view c (and_right _ _ e) (no_recover o.answer) (unmoved o.answer)

    at_wildcard : (o : Outcome) → Matches v o → Told Wildcard o
    at_wildcard o (inl (c, e)) = tells_cleared _ o.view c (and_from _ _ (accepts o.answer e) e) (unmoved o.answer)
    at_wildcard o (inr (c, e)) = tells_same _ o.view c (and_right _ _ e) (no_recover o.answer) (unmoved o.answer)

    is_present : here v ≡ present n h
    is_present = ap (λ p. unwrap_or p.state 0) t.standing

    at_sync : (o : Outcome) → Syncs n v o → Told Sync o
    at_sync o (inl c) =
        let begins : begins_choice n (present n h) ≡ true = subst (λ s. begins_choice n s ≡ true) is_present c.begins in
        tells_cleared _ o.view c.cleared (and_from _ _ c.accepted (and_from _ _ begins (ap not (ne_eqb _ _ c.moves)))) (unmoved o.answer)
    at_sync o (inr s) =
        let none : (begins_choice n (present n h) && not (place o.view == place v)) ≡ false = subst (λ p. (begins_choice n p && not (place o.view == place v)) ≡ false) is_present s.ends_nothing in
        tells_same _ o.view s.same (and_right _ _ none) (no_recover o.answer) (unmoved o.answer)

    at_report : (k : ℕ) (w : WithinSets) → Told (Report k) (reports n w k v)
    at_report k w = by_report (Told (Report k)) n w k v (λ _ _. tells_same _ _ (same_self v ends) refl refl refl) (λ r. tells_same _ _ (same_begun v ends) refl refl refl)

    pub same_unstuck : Same v (failsafe v)
    same_unstuck = by_guard (Same v) v (λ _. same_pass Searched v ends) (λ _. same_self v ends)

    -- from where it searches
    place_if : (b : Bool) → place (if b then pass Searched v else v) ≡ (if b then next_place first (place v) else place v)
    place_if true = sym (onward_next first v.shown shows.rises (onward h v t))
    place_if false = refl

    few : here v < 512
    few = omega (arith, t.inside.state, fit.few)

    at_mark : (s : ℕ) → s < 512 → (present n h ≡ s) ⊎ (present n h ≡ s → ⊥) → slice_index_or (slice_set v.strategy.last_error_states (here v) true) s false ≡ (if present n h == s then true else recovered_in n h s)
    at_mark s b (inl e) =
        ap (λ i. slice_index_or (slice_set v.strategy.last_error_states i true) s false) (is_present ∙ e)
        ∙ get_or-set_same v.strategy.last_error_states s true false (omega (arith, t.long))
        ∙ sym (cond-true (present n h == s) _ _ (eq-eqb (present n h) s e))
    at_mark s b (inr ne) =
        get_or-set_other v.strategy.last_error_states (here v) s true false (λ e. ne (sym (e ∙ is_present)))
        ∙ t.marks s b
        ∙ sym (cond-false (present n h == s) _ _ (ne_eqb (present n h) s ne))

    mark : (s : ℕ) → s < 512 → slice_index_or (slice_set (failsafe v).strategy.last_error_states (here (failsafe v)) true) s false ≡ (if present n h == s then true else recovered_in n h s)
    mark s b =
        ap₂ (λ ms i. slice_index_or (slice_set ms i true) s false) same_unstuck.marks (ap (λ p. unwrap_or p.state 0) same_unstuck.standing)
        ∙ at_mark s b (cases_eq (present n h) s)

    -- the failsafe skips exactly if the history says so
    again : (p : ℕ) → latest_search n first h ≡ Some p → failsafe_applies v ≡ (p == place v && recovered_in n h (present n h))
    again p e = repeats_at v p (t.last ∙ e) ∙ ap (λ b. p == place v && b) (t.marks (here v) few ∙ ap (recovered_in n h) is_present)

    skipped : (o : Outcome) → failsafe_applies v ≡ skips n first h (told Recover v o)
    skipped o = at (latest_search n first h) refl
      where
        at : (l : Option ℕ) → latest_search n first h ≡ l → failsafe_applies v ≡ skips n first h (told Recover v o)
        at None e = never v (t.last ∙ e) ∙ sym (rw e refl)
        at (Some p) e = again p e ∙ sym (rw e refl)

    pub searches_from : (o : Outcome) → place (failsafe v) ≡ searched_from n first h (told Recover v o)
    searches_from o = ap (λ b. place (if b then pass Searched v else v)) (skipped o) ∙ place_if (skips n first h (told Recover v o))

    at_recover : (w : WithinSets) → Told Recover (recover n w v)
    at_recover w = record {
      standing = after.standing ∙ same_unstuck.standing ∙ t.standing;
      inside = subst (Inside n) (sym (after.standing ∙ same_unstuck.standing)) t.inside;
      last = after.last ∙ ap Some (searches_from (recover n w v)) ∙ answer_of (latest_search n first h) refl;
      long = ap length after.marks ∙ length-set (failsafe v).strategy.last_error_states (here (failsafe v)) true ∙ ap length same_unstuck.marks ∙ t.long;
      marks = λ s b. ap (λ ms. slice_index_or ms s false) after.marks ∙ mark s b;
      shown = now.shown;
      dropped = now.dropped;
      dropped_then_shown = now.dropped_then_shown;
      some = now.some;
    }
      where
        u : View
        u = searching (failsafe v)

        e : Event
        e = told Recover v (recover n w v)

        after : Same u (pass_many Searched (search_length n w u) u)
        after = same_many Searched (search_length n w u) u (onward_ends v.shown (failsafe v).shown ends same_unstuck.onward)

        now : Left (recover n w v).view
        now = left_by (recover n w v).view (onward_more first v.shown _ (onward h v t) (onward_more v.shown u.shown _ same_unstuck.onward after.onward))

        answer_of : (l : Option ℕ) → latest_search n first h ≡ l → Some (searched_from n first h e) ≡ latest_search n first (e ∷ h)
        answer_of None l = rw l refl
        answer_of (Some p) l = rw l refl

    at_call : (c : Call) (w : WithinSets) → denial n w c v ≡ None → Told c (accepted n w c v)
    at_call (State s) w none = at_state s w none
    at_call (Enter r) w none = at_enter r w none
    at_call Leave w none = at_leave
    at_call (Match ty) w none = at_match ty (accepted n w (Match ty) v) (matched_so v ends token_indexes (fits (Match ty) (ahead v 1)) n w)
    at_call Wildcard w none = at_wildcard (accepted n w Wildcard v) (matched_so v ends token_indexes (fits Wildcard (ahead v 1)) n w)
    at_call Sync w none = at_sync _ (syncs_so n w v ends rises token_indexes)
    at_call (Report k) w none = at_report k w
    at_call Recover w none = at_recover w

    pub tells_step : (w : WithinSets) (c : Call) → MatchesHistory n first (event n w c v ∷ h) (step n w c v).view
    tells_step w c = by_step (Told c) n w c v (λ d. tells_same _ v (same_self v ends) refl refl refl) (at_call c w)

  -- and so it is after any calls
  pub tells_run : (w : WithinSets) (cs : List Call) (h : List Event) (v : View) → MatchesHistory n first h v → MatchesHistory n first (reverse (journal n w cs v) ++ h) (run n w cs v)
  tells_run w [] h v t = t
  tells_run w (c ∷ cs) h v t =
      let now = event n w c v in
      let js = journal n w cs (step n w c v).view in
      let order : reverse (now ∷ js) ++ h ≡ reverse js ++ now ∷ h = ap (λ xs. xs ++ h) (reverse-append (now ∷ []) js) ∙ append_assoc (reverse js) (now ∷ []) h in
      subst (λ xs. MatchesHistory n first xs (run n w cs (step n w c v).view)) (sym order) (tells_run w cs (now ∷ h) (step n w c v).view (tells_step h v t w c))

  pub tells_none : (v : View) → v.state ≡ None → v.open_rules ≡ [] → v.strategy ≡ new_strategy_state → v.shown ≡ first → MatchesHistory n first [] v
  tells_none v state none strategy shown =
      let l = left_by v (onward_by [] v.shown first (sym shown) (subst (λ ts. 0 < length ts) (sym shown) shows.ends.non_empty)) in
      let stand : stands v ≡ standing n [] = ap₂ (λ s os. record { state = s; invoking = map (λ o. o.invoking) os }) state none in
      record {
        standing = stand;
        inside = subst (Inside n) (sym stand) (record { state = fit.some; invoking = λ k d m. absurd (omega arith) });
        last = ap (λ m. m.last_error_index) strategy;
        long = ap (λ m. length m.last_error_states) strategy ∙ length-replicate 512 false;
        marks = λ s b. ap (λ m. slice_index_or m.last_error_states s false) strategy ∙ get_or-replicate 512 s false false b;
        shown = l.shown;
        dropped = l.dropped;
        dropped_then_shown = l.dropped_then_shown;
        some = l.some;
      }
