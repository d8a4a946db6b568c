-- A recover ends on the first token that is EOF or may follow an open rule.
use Rattle.std.proofs.Common.{◌≡◌, Bool, true, false, ◌||◌, ◌&&◌, ◌⊎◌, List, sym, refl, ap, ◌∙◌, subst, inl, inr, flat_map, option_to_list}
use Rattle.std.proofs.lemmas.Bool.{or_parts, or_cases, and_parts, both_ways}
use Rattle.atn_graph.specs.Net.{Net}
use Rattle.ll1_analyzer.specs.Chains.{follow_states}
use Rattle.token.specs.Tokens.{Fields, type_number, is_eof}
use Rattle.token_stream.specs.Tapes.{token_at}
use Rattle.token_stream.specs.Streams.{Shows}
use Rattle.recovery_model.specs.declared.call.Call.{Call}
use Rattle.recovery_model.specs.declared.call.Call.TheVariants.{State, Enter, Leave, Match, Wildcard, Sync, Report, Recover}
use Rattle.recovery_model.specs.Sets.{WithinSets, Agree, recovery}
use Rattle.recovery_model.specs.Views.{View, place, follows}
use Rattle.recovery_model.specs.Passing.{Searched, pass_many}
use Rattle.recovery_model.specs.Outcomes.{Outcome}
use Rattle.recovery_model.specs.Recover.{failsafe, searching, search_length, recover}
use Rattle.recovery_model.specs.Steps.{step}
use Rattle.recovery_model.specs.Journals.{Event, event}
use Rattle.recovery_model.specs.Histories.{is_accepted, is_recover, open_follows, shown_from, searched_from}
use Rattle.recovery_model.specs.Law.{MayFollow, EndsOn}
use Rattle.recovery_model.specs.Matching.{MatchesHistory}
use Rattle.recovery_model.proofs.Fitting.{Fit}
use Rattle.recovery_model.proofs.Shown.{onward_ends, onward_from, onward_more}
use Rattle.recovery_model.proofs.Searching.{Stops, many_shown, stops_before, decides_recovery, same_chain}
use Rattle.recovery_model.proofs.Telling.{told, onward, ends, same_unstuck, searches_from}
use Rattle.recovery_model.proofs.Cases.{by_step}

module _ (tape first : List Fields) (shows : Shows tape first) (n : Net) (fit : Fit n) (h : List Event) (v : View) (t : MatchesHistory n first h v) (w : WithinSets) (agree : Agree n w) where
  abbrev Ends : Outcome → Type 0
  Ends o = is_recover (told Recover v o) ≡ true → EndsOn n h first (searched_from n first h (told Recover v o)) (place o.view)

  -- where the search goes on, after what the failsafe skips
  abbrev u : View
  u = searching (failsafe v)

  follows_so : follows n u ≡ open_follows n h
  follows_so = ap (follow_states n) (same_chain u.open_rules ∙ ap (λ p. flat_map option_to_list p.invoking) ((same_unstuck tape first shows n fit h v t).standing ∙ t.standing))

  may_follow : (tok : Fields) → (recovery w (follows n u) (type_number tok.typ) ≡ true → MayFollow n h tok) × (MayFollow n h tok → recovery w (follows n u) (type_number tok.typ) ≡ true)
  may_follow tok = rw follows_so (decides_recovery n w agree (open_follows n h) (type_number tok.typ))

  searched : Ends (recover n w v)
  searched e =
      let types = recovery w (follows n u) in
      let away = (same_unstuck tape first shows n fit h v t).onward in
      let k = search_length n w u in
      let s : Stops types u.shown (pass_many Searched k u).shown = subst (Stops types u.shown) (sym (many_shown Searched k u)) (stops_before types u.shown (onward_ends v.shown u.shown (ends tape first shows n fit h v t) away)) in
      record {
        passed = s.passed;
        rest = (pass_many Searched k u).shown;
        parts =
            ap (λ q. shown_from q first) (sym (searches_from tape first shows n fit h v t (recover n w v)))
            ∙ sym (onward_from first u.shown shows.rises (onward_more first v.shown u.shown (onward tape first shows n fit h v t) away))
            ∙ s.parts;
        place = refl;
        some = s.some;
        stops = stop (token_at (pass_many Searched k u).shown 0) s.stops;
        passes = λ j l. pass (token_at s.passed j) (s.passes j l);
      }
    where
      stop : (tok : Fields) → (is_eof tok.typ || recovery w (follows n u) (type_number tok.typ)) ≡ true → (is_eof tok.typ ≡ true) ⊎ MayFollow n h tok
      stop tok f = at (or_cases (is_eof tok.typ) _ f)
        where
          at : (is_eof tok.typ ≡ true) ⊎ (recovery w (follows n u) (type_number tok.typ) ≡ true) → (is_eof tok.typ ≡ true) ⊎ MayFollow n h tok
          at (inl g) = inl g
          at (inr g) = inr ((may_follow tok).0 g)

      pass : (tok : Fields) → (is_eof tok.typ || recovery w (follows n u) (type_number tok.typ)) ≡ false → (is_eof tok.typ ≡ false) × (MayFollow n h tok → ⊥)
      pass tok f = let p = or_parts (is_eof tok.typ) (recovery w (follows n u) (type_number tok.typ)) f in (p.0, λ m. both_ways _ p.1 ((may_follow tok).1 m))

  other : (b : Bool) → (b && false) ≡ true → ⊥
  other b e = both_ways false refl (and_parts b false e).1

  pub step_ends : (c : Call) → is_recover (event n w c v) ≡ true → EndsOn n h first (searched_from n first h (event n w c v)) (place (step n w c v).view)
  step_ends (State s) e = absurd (other (is_accepted (step n w (State s) v).answer) e)
  step_ends (Enter r) e = absurd (other (is_accepted (step n w (Enter r) v).answer) e)
  step_ends Leave e = absurd (other (is_accepted (step n w Leave v).answer) e)
  step_ends (Match ty) e = absurd (other (is_accepted (step n w (Match ty) v).answer) e)
  step_ends Wildcard e = absurd (other (is_accepted (step n w Wildcard v).answer) e)
  step_ends Sync e = absurd (other (is_accepted (step n w Sync v).answer) e)
  step_ends (Report k) e = absurd (other (is_accepted (step n w (Report k) v).answer) e)
  step_ends Recover e = by_step Ends n w Recover v (λ d f. absurd (both_ways false refl f)) (λ none. searched) e
