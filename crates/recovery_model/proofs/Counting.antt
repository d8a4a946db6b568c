-- At a token that is not EOF few recovers are begun.
use Rattle.std.proofs.Common.{◌≡◌, ℕ, suc, ◌+◌, ◌<◌, ◌≤◌, ◌⊎◌, true, false, ◌&&◌, ◌==◌, List, [], ◌∷◌, length, Option, Some, None, sym, refl, ap, ◌∙◌, subst, inl, inr, arith, if◌then◌else◌, unwrap_or}
use Rattle.std.proofs.lemmas.Bool.{cond_both, cond-true, cond-false, and_left, and_right, or_parts, false_from_ne_true, cases_Bool, cases_eq, cases_lt, eq-eqb, ne_eqb}
use Rattle.std.proofs.lemmas.List.{get_or-append-add, length-append}
use Rattle.std.proofs.lemmas.List.Sums.{sum_by-cons}
use Rattle.atn_graph.specs.Net.{Net, size}
use Rattle.token.specs.Tokens.{Fields, is_eof, token_index}
use Rattle.token_stream.specs.Tapes.{no_token, token_at}
use Rattle.token_stream.specs.Streams.{Shows}
use Rattle.recovery_model.specs.declared.call.Call.{Call}
use Rattle.recovery_model.specs.Sets.{WithinSets}
use Rattle.recovery_model.specs.Views.{View, current, place, new_strategy_state}
use Rattle.recovery_model.specs.Steps.{step}
use Rattle.recovery_model.specs.Journals.{Event, event, journal}
use Rattle.recovery_model.specs.Histories.{present, next_place, ends_error_condition, is_recover, recovered_in, latest_search, skips, searched_from}
use Rattle.recovery_model.specs.Matching.{MatchesHistory}
use Rattle.recovery_model.specs.Law.{recovers_at}
use Rattle.recovery_model.proofs.Fitting.{Fit}
use Rattle.recovery_model.proofs.Telling.{tells_step, tells_none}
use Rattle.recovery_model.proofs.Below.{below, below_most, below_some, below_same, below_raised}
use Rattle.recovery_model.proofs.Past.{passes, step_rises, step_passes}

module _ (tape first : List Fields) (shows : Shows tape first) (n : Net) (fit : Fit n) where
  module _ (p : ℕ) where
    -- Before the parser stands at p no recover is begun there; while it does, at most as many as there are states marked; and
    -- after that at most one more than there are states.
    data Counted (h : List Event) (q c : ℕ) : Type 0 where
      Ahead : q < p → c ≡ 0 → Counted h q c
      Present : q ≡ p → c ≤ below (recovered_in n h) (size n) → (c ≡ 0) ⊎ (latest_search n first h ≡ Some p) → Counted h q c
      Behind : p < q → c ≤ size n + 1 → Counted h q c

    -- one, for a recover that was begun at p
    abbrev begun : Event → ℕ
    begun e = if is_recover e && (e.before == p) then 1 else 0

    at_most : (h : List Event) (q c : ℕ) → Counted h q c → c ≤ size n + 1
    at_most h q c (Ahead less none) = omega (arith, none)
    at_most h q c (Present same few last) = omega (arith, few, below_most (recovered_in n h) (size n))
    at_most h q c (Behind more few) = few

    begun_one : (e : Event) → begun e ≤ 1
    begun_one e = cond_both (is_recover e && (e.before == p)) 1 0 (λ m. m ≤ 1) (λ f. omega arith) (λ f. omega arith)

    begun_elsewhere : (e : Event) → (e.before ≡ p → ⊥) → begun e ≡ 0
    begun_elsewhere e ne = cond-false (is_recover e && (e.before == p)) 1 0 (and_right (is_recover e) _ (ne_eqb e.before p ne))

    begun_other : (e : Event) → is_recover e ≡ false → begun e ≡ 0
    begun_other e no_recover = cond-false (is_recover e && (e.before == p)) 1 0 (and_left (is_recover e) _ no_recover)

    -- Nothing is passed, so repair goes on, and a recover is the first in its state.
    module _ (h : List Event) (e : Event) (here : e.before ≡ p) (stays : ends_error_condition n h e ≡ false) where
      unmarked : is_recover e ≡ false → (c : ℕ) → c ≤ below (recovered_in n h) (size n) → (c ≡ 0) ⊎ (latest_search n first h ≡ Some p) → Counted (e ∷ h) p (c + begun e)
      unmarked other c few last = Present refl (omega (arith, begun_other e other, few, same)) (at last)
        where
          same : below (recovered_in n (e ∷ h)) (size n) ≡ below (recovered_in n h) (size n)
          same = below_same (recovered_in n h) (recovered_in n (e ∷ h)) (size n) (λ s l. rw (stays, other) refl)

          at : (c ≡ 0) ⊎ (latest_search n first h ≡ Some p) → (c + begun e ≡ 0) ⊎ (latest_search n first (e ∷ h) ≡ Some p)
          at (inl z) = inl (omega (arith, z, begun_other e other))
          at (inr i) = inr (rw (stays, other) i)

      searched : skips n first h e ≡ false → is_recover e ≡ true → latest_search n first (e ∷ h) ≡ Some p
      searched goes it_is = at (latest_search n first h) refl ∙ ap Some (cond-false (skips n first h e) (next_place first e.before) e.before goes ∙ here)
        where
          at : (l : Option ℕ) → latest_search n first h ≡ l → latest_search n first (e ∷ h) ≡ Some (searched_from n first h e)
          at None i = rw (stays, it_is, i) refl
          at (Some q) i = rw (stays, it_is, i) refl

      marked : skips n first h e ≡ false → is_recover e ≡ true → present n h < size n → (c : ℕ) → c ≤ below (recovered_in n h) (size n) → (c ≡ 0) ⊎ (latest_search n first h ≡ Some p) → Counted (e ∷ h) p (c + begun e)
      marked goes it_is inside c few last = Present refl (at last) (inr (searched goes it_is))
        where
          now : (s : ℕ) → recovered_in n (e ∷ h) s ≡ (if present n h == s then true else recovered_in n h s)
          now s = rw (stays, it_is) refl

          set : recovered_in n (e ∷ h) (present n h) ≡ true
          set = now (present n h) ∙ cond-true (present n h == present n h) _ _ (eq-eqb (present n h) _ refl)

          at : (c ≡ 0) ⊎ (latest_search n first h ≡ Some p) → c + begun e ≤ below (recovered_in n (e ∷ h)) (size n)
          at (inl z) = omega (arith, z, begun_one e, below_some (recovered_in n (e ∷ h)) (present n h) (size n) inside set)
          at (inr i) =
              let told_by : skips n first h e ≡ (p == e.before && recovered_in n h (present n h)) = rw i refl in
              let same : (p == e.before) ≡ true = eq-eqb p e.before (sym here) in
              let off : recovered_in n h (present n h) ≡ false = sym (ap (λ b. b && recovered_in n h (present n h)) same) ∙ sym told_by ∙ goes in
              let more : below (recovered_in n (e ∷ h)) (size n) ≡ suc (below (recovered_in n h) (size n)) =
              below_raised (recovered_in n h) (recovered_in n (e ∷ h)) (present n h) (size n) inside off set
              (λ s ne. now s ∙ cond-false (present n h == s) _ _ (ne_eqb (present n h) s (λ d. ne (sym d)))) in
              omega (arith, few, begun_one e, more)

    module _ (w : WithinSets) (t : Fields) (k : ℕ) (l : k < length first) (is : token_at first k ≡ t) (named : token_index t ≡ p) (other : is_eof t.typ ≡ false) where
      same_place : (j : ℕ) → j < length first → token_at tape (token_index (token_at first j)) ≡ token_at first j
      same_place j m = (shows.named j m).same

      not_eof : (h : List Event) (v : View) → MatchesHistory n first h v → place v ≡ p → is_eof (current v).typ ≡ false
      not_eof h v s at =
          let d = length s.dropped + 0 in
          let now : token_at first d ≡ current v = ap (λ ts. token_at ts d) s.dropped_then_shown ∙ get_or-append-add s.dropped v.shown 0 no_token in
          let inside : d < length first = omega (arith, ap length s.dropped_then_shown, length-append s.dropped v.shown, s.some) in
          let mine : token_at tape (place v) ≡ current v = ap (λ u. token_at tape (token_index u)) (sym now) ∙ same_place d inside ∙ now in
          let its : token_at tape p ≡ t = ap (token_at tape) (sym named ∙ ap token_index (sym is)) ∙ same_place k l ∙ is in
          ap (λ u. is_eof u.typ) (sym mine ∙ ap (token_at tape) at ∙ its) ∙ other

      module _ (h : List Event) (v : View) (s : MatchesHistory n first h v) (call : Call) (c : ℕ) where
        abbrev e : Event
        e = event n w call v

        abbrev u : View
        u = (step n w call v).view

        rose : place v ≤ place u
        rose = step_rises tape first shows n fit h v s call w

        inside_here : present n h < size n
        inside_here = subst (λ q. unwrap_or q.state 0 < size n) s.standing s.inside.state

        stayed : place v ≡ p → place u ≡ p → c ≤ below (recovered_in n h) (size n) → (c ≡ 0) ⊎ (latest_search n first h ≡ Some p) → Counted (e ∷ h) p (c + begun e)
        stayed same still few last = at (cases_Bool (is_recover e))
          where
            passes_none : passes tape first shows n fit h v s e ≡ false
            passes_none = false_from_ne_true _ (λ b. let far : place v < place u = step_passes tape first shows n fit h v s call w (not_eof h v s same) b in omega (arith, far, same, still))

            parts : (ends_error_condition n h e ≡ false) × ((is_recover e && skips n first h e) ≡ false)
            parts = or_parts (ends_error_condition n h e) _ passes_none

            at : (is_recover e ≡ true) ⊎ (is_recover e ≡ false) → Counted (e ∷ h) p (c + begun e)
            at (inl it_is) = marked h e same parts.0 (sym (ap (λ b. b && skips n first h e) it_is) ∙ parts.1) it_is inside_here c few last
            at (inr no_recover) = unmarked h e same parts.0 no_recover c few last

        counted : Counted h (place v) c → Counted (e ∷ h) (place u) (c + begun e)
        counted (Ahead less none) = at (cases_lt (place u) p) (cases_eq (place u) p)
          where
            zero_still : c + begun e ≡ 0
            zero_still = omega (arith, none, begun_elsewhere e (λ d. omega (arith, d, less)))

            at : (place u < p) ⊎ (p ≤ place u) → (place u ≡ p) ⊎ (place u ≡ p → ⊥) → Counted (e ∷ h) (place u) (c + begun e)
            at (inl b) x = Ahead b zero_still
            at (inr b) (inl d) = Present d (omega (arith, zero_still)) (inl zero_still)
            at (inr b) (inr ne) = Behind (omega (arith, b, ne)) (omega (arith, zero_still))
        counted (Present same few last) = at (cases_eq (place u) p)
          where
            at : (place u ≡ p) ⊎ (place u ≡ p → ⊥) → Counted (e ∷ h) (place u) (c + begun e)
            at (inl d) = subst (λ q. Counted (e ∷ h) q (c + begun e)) (sym d) (stayed same d few last)
            at (inr ne) = Behind (omega (arith, rose, same, ne)) (omega (arith, few, below_most (recovered_in n h) (size n), begun_one e))
        counted (Behind more few) = Behind (omega (arith, more, rose)) (omega (arith, few, begun_elsewhere e (λ d. omega (arith, d, more))))

      counted_run : (cs : List Call) (h : List Event) (v : View) → MatchesHistory n first h v → (c : ℕ) → Counted h (place v) c → c + recovers_at p (journal n w cs v) ≤ size n + 1
      counted_run [] h v s c so = omega (arith, at_most h (place v) c so)
      counted_run (call ∷ cs) h v s c so =
          let e = event n w call v in
          let u = (step n w call v).view in
          let next : recovers_at p (journal n w (call ∷ cs) v) ≡ begun e + recovers_at p (journal n w cs u) = sum_by-cons begun e (journal n w cs u) in
          omega (arith, next, counted_run cs (e ∷ h) u (tells_step tape first shows n fit h v s w call) (c + begun e) (counted h v s call c so))

      begins : (q : ℕ) → Counted [] q 0
      begins q = at (cases_lt q p) (cases_eq q p)
        where
          at : (q < p) ⊎ (p ≤ q) → (q ≡ p) ⊎ (q ≡ p → ⊥) → Counted [] q 0
          at (inl b) x = Ahead b refl
          at (inr b) (inl d) = Present d (omega arith) (inl refl)
          at (inr b) (inr ne) = Behind (omega (arith, b, ne)) (omega arith)

  -- Any calls of a new parser begin few recovers at a token that is not EOF.
  pub bounded_recovers : (w : WithinSets) (cs : List Call) (v : View) → v.state ≡ None → v.open_rules ≡ [] → v.strategy ≡ new_strategy_state → v.shown ≡ first → (t : Fields) (k : ℕ) → k < length first → token_at first k ≡ t → is_eof t.typ ≡ false → recovers_at (token_index t) (journal n w cs v) ≤ size n + 1
  bounded_recovers w cs v state none strategy shown t k l is other =
      omega (arith, counted_run (token_index t) w t k l is refl other cs [] v (tells_none tape first shows n fit v state none strategy shown) 0 (begins (token_index t) w t k l is refl other (place v)))
