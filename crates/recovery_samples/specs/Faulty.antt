-- Steps with one fault each, and runs on which each of them breaks the tape law.
use Rattle.std.specs.Prelude.{◌≡◌, ℕ, List, [], ◌∷◌, ◌++◌, Option, Some, None, is_some, if◌then◌else◌, false, true, min, pos, replicate}
use Rattle.std.specs.List.{flat_map}
use Rattle.errors.specs.declared.denial.Denial.{Denial}
use Rattle.samples.specs.Pass.{pass}
use Rattle.recovery_model.specs.declared.call.Call.{Call}
use Rattle.recovery_model.specs.declared.call.Call.TheVariants.{State, Enter, Match, Recover}
use Rattle.recovery_model.specs.Calls.{Done, Token, Denied, fits}
use Rattle.recovery_model.specs.Sets.{WithinSets, Agree, no_types}
use Rattle.recovery_model.specs.Views.{View, current, place, ahead}
use Rattle.recovery_model.specs.Passing.{Searched, pass_many, end_error_condition}
use Rattle.recovery_model.specs.Outcomes.{Outcome, does}
use Rattle.recovery_model.specs.Recover.{searching, failsafe, search_length, recover}
use Rattle.recovery_model.specs.Denials.{denial}
use Rattle.recovery_model.specs.Steps.{accepted, refused, step}
use Rattle.recovery_model.specs.Journals.{Event, Machine, run_of, journal_of}
use Rattle.recovery_model.specs.Histories.{shown_from, is_recover, searched_from}
use Rattle.recovery_model.specs.Law.{end_place, Linked, Occurs, EndsOn, recovers_at}
use Rattle.recovery_model.specs.TapeLaw.{New, KeepsLaw}
use Rattle.recovery_samples.specs.declared.faulty.Run.{Run}
use Rattle.recovery_samples.specs.declared.faulty.Run.TheVariants.{Recovers, Rounds}
use Rattle.recovery_samples.specs.Beginnings.{made}

-- the step, but for what an accepted call does
abbrev pub accepting : (WithinSets → Call → View → Outcome) → WithinSets → Machine
accepting does_so w c v = at (denial pass w c v)
  where
    at : Option Denial → Outcome
    at None = does_so w c v
    at (Some d) = does (refused d v) (Denied d)

-- but for what an accepted recover does
abbrev pub recovering : (WithinSets → View → Outcome) → WithinSets → Call → View → Outcome
recovering does_so w Recover v = does_so w v
recovering does_so w c v = accepted pass w c v

-- Recover notes its search, and passes nothing.
abbrev pub stands_still : WithinSets → Machine
stands_still = accepting (recovering (λ w v. does (searching v) Done))

-- Recover passes nothing where a search is noted since the error condition was last ended.
abbrev pub searches_once : WithinSets → Machine
searches_once = accepting (recovering (λ w v. if is_some v.strategy.last_error_index then does (searching v) Done else recover pass w v))

-- The failsafe never skips a token.
abbrev pub never_skips : WithinSets → Machine
never_skips = accepting (recovering (λ w v. let u = searching v in does (pass_many Searched (search_length pass w u) u) Done))

-- A search passes at most one of the tokens before the first that fits.
abbrev pub passes_one : WithinSets → Machine
passes_one = accepting (recovering (λ w v. let u = searching (failsafe v) in does (pass_many Searched (min (search_length pass w u) 1) u) Done))

-- No leaf is ever added.
abbrev pub adds_no_leaf : WithinSets → Machine
adds_no_leaf w c v = let o = step pass w c v in record o { view = record (o.view) { leaves = v.leaves; free = v.free } }

-- The sets are empty, whatever the net's are.
abbrev pub is_blind : Machine
is_blind = step pass (record { types = λ s. no_types; end = λ s. false })

-- but for what an accepted match of the token first shown does
abbrev pub matching : (View → Outcome) → WithinSets → Call → View → Outcome
matching does_so w (Match t) v = if fits (Match t) (ahead v 1) then does_so v else accepted pass w (Match t) v
matching does_so w c v = accepted pass w c v

-- A match of the token first shown answers it and ends the error condition, and does not pass it.
abbrev pub answers_only : WithinSets → Machine
answers_only = accepting (matching (λ v. does (end_error_condition v) (Token (current v))))

-- the types of the tape of a run before EOF
abbrev pub types_of : Run → List ℕ
types_of Recovers = 2 ∷ 1 ∷ 2 ∷ 3 ∷ []
types_of Rounds = 1 ∷ 2 ∷ 3 ∷ []

-- Rule 0 is entered, and calls rule 1 in its loop. That takes a 1.
abbrev pub opening : List Call
opening = Enter 0 ∷ State 2 ∷ Enter 1 ∷ State 7 ∷ []

-- What comes then. Where a 2 comes, the first recover ends on the 1, as does the second; and the third skips it, so it ends on
-- EOF. Where a 1 comes, a recover ends on it, and a match asks for it; and this thirteen times.
abbrev pub calls_of : Run → List Call
calls_of Recovers = Recover ∷ Recover ∷ Recover ∷ []
calls_of Rounds = flat_map (λ c. Recover ∷ c ∷ []) (replicate 13 (Match (pos 1)))

abbrev pub begins : Run → View
begins r = made (types_of r)

abbrev pub whole : Run → List Call
whole r = opening ++ calls_of r

-- the tape law of the pass net does not hold of the machine's calls
abbrev pub Breaks : Machine → Run → Type 0
Breaks m r = KeepsLaw pass m (begins r) (whole r) → ⊥

-- All parts of the law hold of the machine's calls but the bound on recovers: nothing is dropped and no leaf is added; but at
-- the first token 13 recovers are begun, and the pass net has 11 states.
pub record OnlyTooMany (m : Machine) (r : Run) : Type 0 where
  pub linked : Linked (place (begins r)) (journal_of m (whole r) (begins r))
  pub ends_on :
      (h : List Event) (e : Event) → Occurs (journal_of m (whole r) (begins r)) h e → is_recover e ≡ true →
      EndsOn pass h (begins r).shown (searched_from pass (begins r).shown h e) e.after
  pub none_dropped : (run_of m (whole r) (begins r)).shown ≡ (begins r).shown
  pub shown_is_left : (run_of m (whole r) (begins r)).shown ≡ shown_from (end_place (place (begins r)) (journal_of m (whole r) (begins r))) (begins r).shown
  pub none_added : (run_of m (whole r) (begins r)).leaves ≡ (begins r).leaves
  pub thirteen : recovers_at 0 (journal_of m (whole r) (begins r)) ≡ 13

-- The step keeps the tape law on the runs, and each step with a fault breaks it on one of them.
pub record EachBreaks (w : WithinSets) : Type 0 where
  pub sound : (r : Run) → KeepsLaw pass (step pass w) (begins r) (whole r)
  pub still : Breaks (stands_still w) Recovers
  pub once : Breaks (searches_once w) Recovers
  pub no_skip : Breaks (never_skips w) Recovers
  pub one : Breaks (passes_one w) Recovers
  pub no_leaf : Breaks (adds_no_leaf w) Recovers
  pub blind : Breaks is_blind Recovers
  pub only_answers : Breaks (answers_only w) Rounds
  pub too_many : OnlyTooMany (answers_only w) Rounds

-- whatever decides the within-rule sets of the pass net
pub record Faulty : Type 0 where
  pub new : (r : Run) → New (begins r)
  pub each : (w : WithinSets) → Agree pass w → EachBreaks w
