-- The step keeps the tape law on the runs, and each faulty step breaks it.
use Rattle.std.proofs.Common.{◌≡◌, ℕ, zero, suc, ◌<◌, ◌⊎◌, Bool, true, false, ◌||◌, List, [], ◌∷◌, ◌++◌, length, map, filter, reverse, take, drop, slice_index_or, sym, refl, ap, ◌∙◌, subst, inl, inr, arith, ℤ}
use Rattle.std.proofs.lemmas.Bool.{cond-true, cond-false, or_left, or_right, or_from, false_from_ne_true}
use Rattle.std.proofs.lemmas.List.{length-append, length-map}
use Rattle.token.specs.Tokens.{Fields, type_number, is_eof, token_index}
use Rattle.token_stream.specs.Tapes.{token_at}
use Rattle.token_stream.specs.Streams.{Shows}
use Rattle.samples.specs.Pass.{pass}
use Rattle.atn_graph.specs.Net.{rule_at}
use Rattle.recovery_model.specs.declared.call.Call.TheVariants.{Recover}
use Rattle.recovery_model.specs.Sets.{recovery}
use Rattle.recovery_model.specs.Passing.{before}
use Rattle.recovery_model.specs.Steps.{step}
use Rattle.recovery_model.specs.Journals.{Event, Machine, event_by, run_of, journal_of}
use Rattle.recovery_model.specs.Histories.{open_follows, shown_from, is_recover, searched_from}
use Rattle.recovery_model.specs.Law.{EndsOn, MayFollow, token_mark, leaf_mark, is_of_a_dropped}
use Rattle.recovery_model.specs.TapeLaw.{New, KeepsLaw}
use Rattle.recovery_model.proofs.Searching.{decides_recovery}
use Rattle.recovery_model.proofs.Fitting.{Fit}
use Rattle.recovery_model.proofs.Keeping.{law_but_last}
use Rattle.recovery_model.proofs.Counting.{bounded_recovers}
use Rattle.recovery_samples.specs.declared.faulty.Run.{Run}
use Rattle.recovery_samples.specs.declared.faulty.Run.TheVariants.{Recovers, Rounds}
use Rattle.recovery_samples.specs.Faulty.{stands_still, searches_once, never_skips, passes_one, adds_no_leaf, is_blind, types_of, begins, whole, Breaks, EachBreaks, Faulty}
use Rattle.recovery_samples.proofs.Fresh.{new_made}
use Rattle.recovery_samples.proofs.TooMany.{only_answers, too_many}
use Rattle.recovery_samples.proofs.Tests.{tests, tests_agree, tests_only}

abbrev stops : (ℤ → Bool) → Fields → Bool
stops types t = is_eof t.typ || types (type_number t.typ)

-- the token that stops a search, where none before it does, stands at the counted place
first_stop : (types : ℤ → Bool) (passed rest : List Fields) → 0 < length rest → stops types (token_at rest 0) ≡ true → ((k : ℕ) → k < length passed → stops types (token_at passed k) ≡ false) → token_at (passed ++ rest) (before types (passed ++ rest)) ≡ token_at rest 0
first_stop types [] [] some stop pass = refl
first_stop types [] (t ∷ us) some stop pass = ap (token_at (t ∷ us)) (cond-true (stops types t) 0 (suc (before types us)) stop)
first_stop types (t ∷ ts) rest some stop pass =
    ap (token_at (t ∷ ts ++ rest)) (cond-false (stops types t) 0 (suc (before types (ts ++ rest))) (pass 0 (omega arith)))
    ∙ first_stop types ts rest some stop (λ k l. pass (suc k) (omega (arith, l)))

-- where a search ends, by the tests
module _ (shown : List Fields) where
  abbrev end_of : List Event → ℕ → ℕ
  end_of h q = let ts = shown_from q shown in token_index (token_at ts (before (recovery tests (open_follows pass h)) ts))

  ends_at : (h : List Event) (q p : ℕ) → EndsOn pass h shown q p → end_of h q ≡ p
  ends_at h q p e =
      ap (λ ts. token_index (token_at ts (before types ts))) e.parts
      ∙ ap token_index (first_stop types e.passed e.rest e.some (stop e.stops) (λ k l. let g = e.passes k l in or_from _ _ g.0 (false_from_ne_true _ (λ f. g.1 ((decides (token_at e.passed k)).0 f)))))
      ∙ e.place
    where
      types : ℤ → Bool
      types = recovery tests (open_follows pass h)

      decides : (t : Fields) → (types (type_number t.typ) ≡ true → MayFollow pass h t) × (MayFollow pass h t → types (type_number t.typ) ≡ true)
      decides t = decides_recovery pass tests tests_agree (open_follows pass h) (type_number t.typ)

      stop : (is_eof (token_at e.rest 0).typ ≡ true) ⊎ MayFollow pass h (token_at e.rest 0) → stops types (token_at e.rest 0) ≡ true
      stop (inl f) = or_left _ _ f
      stop (inr f) = or_right _ _ ((decides (token_at e.rest 0)).1 f)

-- the k-th event of a run of recovers, what was before it, and where it had to end
module _ (m : Machine) (k : ℕ) where
  abbrev js : List Event
  js = journal_of m (whole Recovers) (begins Recovers)

  abbrev history : List Event
  history = reverse (take k js)

  abbrev event : Event
  event = slice_index_or js k (event_by m Recover (begins Recovers))

  broken_at : js ≡ reverse history ++ event ∷ drop (suc k) js → is_recover event ≡ true → (end_of (begins Recovers).shown history (searched_from pass (begins Recovers).shown history event) ≡ event.after → ⊥) → Breaks m Recovers
  broken_at parts rec wrong law = wrong (ends_at (begins Recovers).shown history _ event.after (law.ends_on history event (record { later = drop (suc k) js; parts = parts }) rec))

still : Breaks (stands_still tests) Recovers
still = broken_at (stands_still tests) 4 refl refl (λ e. omega (arith, e))

once : Breaks (searches_once tests) Recovers
once = broken_at (searches_once tests) 6 refl refl (λ e. omega (arith, e))

no_skip : Breaks (never_skips tests) Recovers
no_skip = broken_at (never_skips tests) 6 refl refl (λ e. omega (arith, e))

one : Breaks (passes_one tests) Recovers
one = broken_at (passes_one tests) 6 refl refl (λ e. omega (arith, e))

blind : Breaks is_blind Recovers
blind = broken_at is_blind 4 refl refl (λ e. omega (arith, e))

-- Tokens are dropped, and each of them would have a leaf.
no_leaf : Breaks (adds_no_leaf tests) Recovers
no_leaf law = omega (arith, ap length law.dropped_then_shown, length-append law.dropped (run_of (adds_no_leaf tests) (whole Recovers) (begins Recovers)).shown, none)
  where
    none : length law.dropped ≡ 0
    none = sym (length-map law.dropped token_mark) ∙ ap length (sym law.leaves_are_dropped) ∙ ap (λ ls. length (map leaf_mark (filter is_of_a_dropped ls))) (sym law.leaves_then_added)

new : (r : Run) → New (begins r)
new Recovers = new_made (types_of Recovers) (omega arith)
new Rounds = new_made (types_of Rounds) (omega arith)

fit : Fit pass
fit = record { some = omega arith; few = omega arith; starts = starts }
  where
    starts : (r : ℕ) → r < 2 → (rule_at pass r).start < 11
    starts zero l = omega arith
    starts (suc zero) l = omega arith
    starts (suc (suc r)) l = absurd (omega (arith, l))

sound : (r : Run) → KeepsLaw pass (step pass tests) (begins r) (whole r)
sound r =
    let v = begins r in
    let shows : Shows v.tape v.shown = (new r).shows in
    law_but_last v.tape v.shown shows pass fit tests tests_agree v refl refl refl refl (whole r) (bounded_recovers v.tape v.shown shows pass fit tests (whole r) v refl refl refl refl)

pub faulty : Faulty
faulty = record {
  new = new;
  each = λ w a. subst EachBreaks (sym (tests_only w a)) (record { sound = sound; still = still; once = once; no_skip = no_skip; one = one; no_leaf = no_leaf; blind = blind; only_answers = only_answers; too_many = too_many });
}
