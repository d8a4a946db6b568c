-- The tape law holds of every list of calls, if few recovers are begun at each token.
use Rattle.std.proofs.Common.{◌≡◌, ℕ, ◌+◌, ◌<◌, ◌≤◌, true, false, List, [], ◌∷◌, ◌++◌, length, reverse, drop, None, sym, refl, ap, ◌∙◌, append_assoc, subst, arith, slice_index_or}
use Rattle.std.proofs.lemmas.List.{append-nil, length-append, reverse-append, reverse-reverse}
use Rattle.atn_graph.specs.Net.{Net, size}
use Rattle.token.specs.Tokens.{Fields, token_index, is_eof}
use Rattle.token_stream.specs.Tapes.{token_at}
use Rattle.token_stream.specs.Streams.{Shows}
use Rattle.recovery_model.specs.declared.call.Call.{Call}
use Rattle.recovery_model.specs.Sets.{WithinSets, Agree}
use Rattle.recovery_model.specs.Views.{View, place, new_strategy_state}
use Rattle.recovery_model.specs.Steps.{step}
use Rattle.recovery_model.specs.Journals.{Event, event, run, journal}
use Rattle.recovery_model.specs.Histories.{is_recover, searched_from, shown_from}
use Rattle.recovery_model.specs.Law.{Occurs, end_place, Linked, EndsOn, recovers_at, Law}
use Rattle.recovery_model.specs.Matching.{MatchesHistory}
use Rattle.recovery_model.proofs.Fitting.{Fit}
use Rattle.recovery_model.proofs.Shown.{Numbered}
use Rattle.recovery_model.proofs.Telling.{tells_step, tells_run, tells_none}
use Rattle.recovery_model.proofs.Ending.{step_ends}
use Rattle.recovery_model.proofs.Leaves.{Adds, adds_run}

-- the journal tells where the parser stands
linked_run : (n : Net) (w : WithinSets) (cs : List Call) (v : View) → Linked (place v) (journal n w cs v)
linked_run n w [] v = tt
linked_run n w (c ∷ cs) v = (refl, linked_run n w cs (step n w c v).view)

end_run : (n : Net) (w : WithinSets) (cs : List Call) (v : View) → end_place (place v) (journal n w cs v) ≡ place (run n w cs v)
end_run n w [] v = refl
end_run n w (c ∷ cs) v = end_run n w cs (step n w c v).view

-- nothing stands in an empty journal
none_stands : (xs later : List Event) (e : Event) → [] ≡ xs ++ e ∷ later → ⊥
none_stands xs later e p = omega (arith, ap length p, length-append xs (e ∷ later))

module _ (tape first : List Fields) (shows : Shows tape first) (n : Net) (fit : Fit n) (w : WithinSets) (agree : Agree n w) where
  -- each recover ends where the law says, with what was before it
  ends_run : (cs : List Call) (h : List Event) (v : View) → MatchesHistory n first h v → (xs later : List Event) (e : Event) → journal n w cs v ≡ xs ++ e ∷ later → is_recover e ≡ true → EndsOn n (reverse xs ++ h) first (searched_from n first (reverse xs ++ h) e) e.after
  ends_run [] h v t xs later e parts rec = absurd (none_stands xs later e parts)
  ends_run (c ∷ cs) h v t [] later e parts rec =
      let same : event n w c v ≡ e = ap (λ js. slice_index_or js 0 e) parts in
      subst (λ d. is_recover d ≡ true → EndsOn n h first (searched_from n first h d) d.after) same (step_ends tape first shows n fit h v t w agree c) rec
  ends_run (c ∷ cs) h v t (x ∷ xs) later e parts rec =
      let now = event n w c v in
      let same : now ≡ x = ap (λ js. slice_index_or js 0 x) parts in
      let order : reverse (x ∷ xs) ++ h ≡ reverse xs ++ x ∷ h = ap (λ ys. ys ++ h) (reverse-append (x ∷ []) xs) ∙ append_assoc (reverse xs) (x ∷ []) h in
      subst (λ g. EndsOn n g first (searched_from n first g e) e.after) (ap (λ d. reverse xs ++ d ∷ h) same ∙ sym order)
      (ends_run cs (now ∷ h) (step n w c v).view (tells_step tape first shows n fit h v t w c) xs later e (ap (drop 1) parts) rec)

  -- A parser that is new shows the first tokens, and has done nothing.
  module _ (v : View) (state : v.state ≡ None) (none : v.open_rules ≡ []) (strategy : v.strategy ≡ new_strategy_state) (shown : v.shown ≡ first) (cs : List Call) where
    new : MatchesHistory n first [] v
    new = tells_none tape first shows n fit v state none strategy shown

    at_first : place v ≡ token_index (token_at first 0)
    at_first = ap (λ ts. token_index (token_at ts 0)) shown

    ends_on : (h : List Event) (e : Event) → Occurs (journal n w cs v) h e → is_recover e ≡ true → EndsOn n h first (searched_from n first h e) e.after
    ends_on h e s rec =
        let back : reverse (reverse h) ++ [] ≡ h = append-nil (reverse (reverse h)) ∙ reverse-reverse h in
        subst (λ g. EndsOn n g first (searched_from n first g e) e.after) back (ends_run cs [] v new (reverse h) s.later e s.parts rec)

    adds : Adds v (run n w cs v)
    adds = adds_run n w cs v (subst Numbered (sym shown) (λ k l. (shows.named k l).index))

    -- All of the law but how many recovers are begun at a token.
    pub law_but_last : ((t : Fields) (k : ℕ) → k < length first → token_at first k ≡ t → is_eof t.typ ≡ false → recovers_at (token_index t) (journal n w cs v) ≤ size n + 1) → Law n first v.leaves (journal n w cs v) (run n w cs v).shown (run n w cs v).leaves
    law_but_last few = record {
      linked = subst (λ p. Linked p (journal n w cs v)) at_first (linked_run n w cs v);
      ends_on = ends_on;
      dropped = adds.dropped;
      dropped_then_shown = sym shown ∙ adds.shown;
      shown_is_left = (tells_run tape first shows n fit w cs [] v new).shown ∙ ap (λ p. shown_from p first) (sym (ap (λ p. end_place p (journal n w cs v)) (sym at_first) ∙ end_run n w cs v));
      added = adds.added;
      leaves_then_added = adds.leaves;
      leaves_are_dropped = adds.marks;
      bounded_recovers = few;
    }
