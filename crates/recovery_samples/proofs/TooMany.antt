-- A match that answers a token and does not pass it breaks the tape law by the number of recovers, and by nothing else.
use Rattle.std.proofs.Common.{◌≡◌, Bool, true, not, ◌&&◌, ◌||◌, ◌==◌, List, [], ◌∷◌, ◌++◌, length, reverse, drop, slice_index_or, append_assoc, pos, sym, refl, ap, ◌∙◌, subst, inr, arith}
use Rattle.std.proofs.lemmas.Bool.{and_parts, eqb-true}
use Rattle.std.proofs.lemmas.List.{append-nil, length-append, reverse-append, reverse-reverse}
use Rattle.token_stream.specs.Tapes.{token_at}
use Rattle.samples.specs.Pass.{pass}
use Rattle.recovery_model.specs.declared.call.Call.{Call}
use Rattle.recovery_model.specs.Sets.{recovery}
use Rattle.recovery_model.specs.Views.{View, place}
use Rattle.recovery_model.specs.Journals.{Event, Machine, journal_of}
use Rattle.recovery_model.specs.Histories.{open_follows, shown_from, is_recover, searched_from}
use Rattle.recovery_model.specs.Law.{Linked, EndsOn, recovers_at}
use Rattle.recovery_model.proofs.Searching.{decides_recovery}
use Rattle.recovery_samples.specs.declared.faulty.Run.TheVariants.{Rounds}
use Rattle.recovery_samples.specs.Faulty.{answers_only, begins, whole, Breaks, OnlyTooMany}
use Rattle.recovery_samples.proofs.Tests.{tests, tests_agree}

-- Thirteen recovers are begun at the 1.
thirteen : recovers_at 0 (journal_of (answers_only tests) (whole Rounds) (begins Rounds)) ≡ 13
thirteen = refl

pub only_answers : Breaks (answers_only tests) Rounds
only_answers law = omega (arith, law.bounded_recovers (token_at (begins Rounds).shown 0) 0 (omega arith) refl refl, thirteen)

linked_of : (m : Machine) (cs : List Call) (v : View) → Linked (place v) (journal_of m cs v)
linked_of m [] v = tt
linked_of m (c ∷ cs) v = (refl, linked_of m cs (m c v).view)

-- a test of each event of a journal, with what was before it
abbrev along : (List Event → Event → Bool) → List Event → List Event → Bool
along test h [] = true
along test h (e ∷ js) = test h e && along test (e ∷ h) js

along_at : (test : List Event → Event → Bool) (h js xs later : List Event) (e : Event) → js ≡ xs ++ e ∷ later → along test h js ≡ true → test (reverse xs ++ h) e ≡ true
along_at test h [] xs later e parts t = absurd (omega (arith, ap length parts, length-append xs (e ∷ later)))
along_at test h (d ∷ js) [] later e parts t = subst (λ c. test h c ≡ true) (ap (λ l. slice_index_or l 0 e) parts) (and_parts _ _ t).0
along_at test h (d ∷ js) (x ∷ xs) later e parts t =
    let same : d ≡ x = ap (λ l. slice_index_or l 0 x) parts in
    let order : reverse (x ∷ xs) ++ h ≡ reverse xs ++ x ∷ h = ap (λ ys. ys ++ h) (reverse-append (x ∷ []) xs) ∙ append_assoc (reverse xs) (x ∷ []) h in
    subst (λ g. test g e ≡ true) (ap (λ c. reverse xs ++ c ∷ h) same ∙ sym order) (along_at test (d ∷ h) js xs later e (ap (drop 1) parts) (and_parts _ _ t).1)

-- Each recover of the rounds searches from the 1, and ends there, as a 1 may follow.
abbrev at_one : List Event → Event → Bool
at_one h e = not (is_recover e) || ((searched_from pass (begins Rounds).shown h e == 0) && ((e.after == 0) && recovery tests (open_follows pass h) (pos 1)))

all_at_one : along at_one [] (journal_of (answers_only tests) (whole Rounds) (begins Rounds)) ≡ true
all_at_one = refl

ends_on_one : (h : List Event) (e : Event) → at_one h e ≡ true → is_recover e ≡ true → EndsOn pass h (begins Rounds).shown (searched_from pass (begins Rounds).shown h e) e.after
ends_on_one h e t rec = record {
  passed = [];
  rest = (begins Rounds).shown;
  parts = ap (λ q. shown_from q (begins Rounds).shown) (eqb-true _ 0 parts.0);
  place = sym (eqb-true e.after 0 ends.0);
  some = omega arith;
  stops = inr ((decides_recovery pass tests tests_agree (open_follows pass h) (pos 1)).0 ends.1);
  passes = λ k l. absurd (omega (arith, l));
}
  where
    at_end : Bool
    at_end = (e.after == 0) && recovery tests (open_follows pass h) (pos 1)

    parts : ((searched_from pass (begins Rounds).shown h e == 0) ≡ true) × (at_end ≡ true)
    parts = and_parts _ _ (sym (ap (λ b. not b || ((searched_from pass (begins Rounds).shown h e == 0) && at_end)) rec) ∙ t)

    ends : ((e.after == 0) ≡ true) × (recovery tests (open_follows pass h) (pos 1) ≡ true)
    ends = and_parts _ _ parts.1

pub too_many : OnlyTooMany (answers_only tests) Rounds
too_many = record {
  linked = linked_of (answers_only tests) (whole Rounds) (begins Rounds);
  ends_on = λ h e s rec.
      let back : reverse (reverse h) ++ [] ≡ h = append-nil (reverse (reverse h)) ∙ reverse-reverse h in
      ends_on_one h e (subst (λ g. at_one g e ≡ true) back (along_at at_one [] _ (reverse h) s.later e s.parts all_at_one)) rec;
  none_dropped = refl;
  shown_is_left = refl;
  none_added = refl;
  thirteen = thirteen;
}
