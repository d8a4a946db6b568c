-- The view of a new parser is coherent, and each call keeps it so.
use Rattle.std.proofs.Common.{◌≡◌, ℕ, zero, suc, ◌+◌, ◌<◌, ◌≤◌, Bool, true, false, not, ◌&&◌, ◌==◌, List, [], ◌∷◌, ◌++◌, length, Option, Some, None, refl, sym, ap, ◌∙◌, subst, arith, unwrap_or}
use Rattle.std.specs.Prelude.{nat_lt}
use Rattle.std.proofs.lemmas.Bool.{and_from, or_parts, lt-ltb, ltb-true, ne_eqb, eq-eqb, both_ways, not-false}
use Rattle.std.proofs.lemmas.List.{length-replicate, length-set, get_or-append-add, length-append}
use Rattle.errors.specs.declared.denial.Denial.TheVariants.{OutsideLimits, NoRuleOpen, StateOutside, WrongRule, TooManyRules, NoLeafFree, WrongSearch}
use Rattle.atn_graph.specs.Kinds.{is_stop}
use Rattle.atn_graph.specs.Net.{Net, size, state_at}
use Rattle.atn_graph.proofs.Soundness.{sound_of}
use Rattle.atn.specs.declared.atn.Atn.{Atn}
use Rattle.atn.specs.Checked.{net_of}
use Rattle.leaves.specs.declared.leaf.LeafKind.{LeafKind}
use Rattle.leaves.specs.declared.leaf.LeafKind.TheVariants.{Error}
use Rattle.token.specs.Tokens.{Fields}
use Rattle.token_stream.specs.Tapes.{no_token, token_at}
use Rattle.token_stream.specs.Streams.{Named, Shows}
use Rattle.recovery_model.specs.declared.call.Call.{Call}
use Rattle.recovery_model.specs.declared.call.Call.TheVariants.{State, Enter, Leave, Match, Wildcard, Sync, Report, Recover}
use Rattle.recovery_model.specs.declared.open_rule.OpenRule.{OpenRule}
use Rattle.recovery_model.specs.Calls.{fits}
use Rattle.recovery_model.specs.Sets.{WithinSets}
use Rattle.recovery_model.specs.Views.{View, Pair, here, ahead, chain, own_pair}
use Rattle.recovery_model.specs.Passing.{Reason, Taken, Deleted, Searched, innermost, raised, add, pass, pass_many, before, begin_error_condition, end_error_condition}
use Rattle.recovery_model.specs.Outcomes.{Outcome}
use Rattle.recovery_model.specs.RecoverInline.{missing_symbol, single_token_deletion, mismatch_at, mismatches, match_leaves, matched}
use Rattle.recovery_model.specs.Sync.{choice_here, stops_at, sync_leaves, is_misplaced, sync}
use Rattle.recovery_model.specs.Recover.{failsafe, searching, search_length, recover}
use Rattle.recovery_model.specs.Denials.{denial, none_open, is_elsewhere, is_called, is_token_type, too_few}
use Rattle.recovery_model.specs.Steps.{entered, left, reports, accepted, step}
use Rattle.recovery_model.specs.TapeLaw.{New}
use Rattle.recovery_model.specs.Coherent.{is_invoked, stands, is_sound_pair, is_sound_saved, is_sound_kept, Coherent}
use Rattle.recovery_model.proofs.Shown.{Onward, onward_by, onward_ends, onward_rises, passed_onward}
use Rattle.recovery_model.proofs.Cases.{no_first, by_step, by_left, by_report, by_match, by_acts, by_sync, by_guard}
use Rattle.recovery_model.proofs.Chaining.{stood, chain_sound, stands_inside}

-- what is left of what a stream shows is a stream's
pub shows_onward : (tape old new : List Fields) → Shows tape old → Onward old new → Shows tape new
shows_onward tape old new s o = record { sound = s.sound; ends = onward_ends old new s.ends o; rises = onward_rises old new s.rises o; named = named }
  where
    named : (k : ℕ) → k < length new → Named tape (token_at new k)
    named k l =
        let all : (j : ℕ) → j < length (o.dropped ++ new) → Named tape (token_at (o.dropped ++ new) j) = subst (λ ts. (j : ℕ) → j < length ts → Named tape (token_at ts j)) o.parts s.named in
        subst (Named tape) (get_or-append-add o.dropped new k no_token) (all (length o.dropped + k) (omega (arith, l, length-append o.dropped new)))

-- some rule is open
some_open : (v : View) → none_open v ≡ false → 0 < length v.open_rules
some_open v e = at v.open_rules e
  where
    at : (os : List OpenRule) → (length os == 0) ≡ false → 0 < length os
    at [] f = absurd (both_ways _ f refl)
    at (o ∷ os) f = omega arith

-- A view in which the parser stands as before and keeps the same pairs, with what is left of what was shown.
record Like (n : Net) (v u : View) : Type 0 where
  open_bounded : length u.open_rules ≡ length v.open_rules
  stands : stands n u.state u.open_rules ≡ stands n v.state v.open_rules
  saved : u.strategy.next_tokens ≡ v.strategy.next_tokens
  input_mismatch : u.input_mismatch ≡ v.input_mismatch
  marks : length v.strategy.last_error_states ≡ 512 → length u.strategy.last_error_states ≡ 512
  tape : u.tape ≡ v.tape
  onward : Onward v.shown u.shown

module _ (n : Net) where
  like_coherent : (v u : View) → Coherent n v → Like n v u → Coherent n u
  like_coherent v u c l = record {
    open_bounded = subst (λ k. k ≤ 64) (sym l.open_bounded) c.open_bounded;
    stands = l.stands ∙ c.stands;
    saved = ap (is_sound_saved n) l.saved ∙ c.saved;
    input_mismatch = ap (is_sound_kept n) l.input_mismatch ∙ c.input_mismatch;
    marks = l.marks c.marks;
    shows = subst (λ t. Shows t u.shown) (sym l.tape) (shows_onward v.tape v.shown u.shown c.shows l.onward);
  }

  still : (v : View) → Coherent n v → Onward v.shown v.shown
  still v c = onward_by [] v.shown v.shown refl c.shows.ends.non_empty

  raised_few : (os : List OpenRule) → length (raised os) ≡ length os
  raised_few [] = refl
  raised_few (o ∷ os) = refl

  raised_stands : (s : Option ℕ) (os : List OpenRule) → stands n s (raised os) ≡ stands n s os
  raised_stands s [] = refl
  raised_stands s (o ∷ os) = refl

  like_pass : (why : Reason) (v : View) → Coherent n v → Like n v (pass why v)
  like_pass why v c = record {
    open_bounded = raised_few v.open_rules;
    stands = raised_stands v.state v.open_rules;
    saved = refl;
    input_mismatch = refl;
    marks = λ e. e;
    tape = refl;
    onward = passed_onward v.shown c.shows.ends;
  }

  after_pass : (why : Reason) (v : View) → Coherent n v → Coherent n (pass why v)
  after_pass why v c = like_coherent v (pass why v) c (like_pass why v c)

  after_many : (why : Reason) (k : ℕ) (v : View) → Coherent n v → Coherent n (pass_many why k v)
  after_many why zero v c = c
  after_many why (suc k) v c = after_many why k (pass why v) (after_pass why v c)

  after_add : (kind : LeafKind) (t : Fields) (v : View) → Coherent n v → Coherent n (add kind t v)
  after_add kind t v c = like_coherent v (add kind t v) c (record {
    open_bounded = raised_few v.open_rules;
    stands = raised_stands v.state v.open_rules;
    saved = refl;
    input_mismatch = refl;
    marks = λ e. e;
    tape = refl;
    onward = still v c;
  })

  after_begun : (v : View) → Coherent n v → Coherent n (begin_error_condition v)
  after_begun v c = like_coherent v (begin_error_condition v) c (record { open_bounded = refl; stands = refl; saved = refl; input_mismatch = refl; marks = λ e. e; tape = refl; onward = still v c })

  after_ended : (v : View) → Coherent n v → Coherent n (end_error_condition v)
  after_ended v c = like_coherent v (end_error_condition v) c (record { open_bounded = refl; stands = refl; saved = refl; input_mismatch = refl; marks = λ e. length-replicate 512 false; tape = refl; onward = still v c })

  after_searching : (v : View) → Coherent n v → Coherent n (searching v)
  after_searching v c = like_coherent v (searching v) c (record { open_bounded = refl; stands = refl; saved = refl; input_mismatch = refl; marks = λ e. length-set v.strategy.last_error_states (here v) true ∙ e; tape = refl; onward = still v c })

  after_struck : (v : View) → Coherent n v → Coherent n (single_token_deletion v)
  after_struck v c = after_ended (pass Deleted (begin_error_condition v)) (after_pass Deleted (begin_error_condition v) (after_begun v c))

  -- where the parser stands is a sound pair
  own_sound : (v : View) → Coherent n v → 0 < length v.open_rules → is_sound_pair n (here v) (chain v) ≡ true
  own_sound v c some = and_from _ _ (lt-ltb (here v) (size n) (stands_inside n v.state v.open_rules c.stands some)) (chain_sound n v.state v.open_rules c.stands c.open_bounded)

  either_sound : (v : View) → Coherent n v → 0 < length v.open_rules → let p = unwrap_or v.strategy.next_tokens (own_pair v) in is_sound_pair n p.state p.chain ≡ true
  either_sound v c some = at v.strategy.next_tokens c.saved
    where
      at : (o : Option Pair) → is_sound_saved n o ≡ true → is_sound_pair n (unwrap_or o (own_pair v)).state (unwrap_or o (own_pair v)).chain ≡ true
      at None e = own_sound v c some
      at (Some p) e = e

  after_mismatch : (v : View) (p : Pair) → Coherent n v → is_sound_pair n p.state p.chain ≡ true → Coherent n (mismatches (mismatch_at p v) v).view
  after_mismatch v p c e = record { open_bounded = c.open_bounded; stands = c.stands; saved = c.saved; input_mismatch = e; marks = c.marks; shows = c.shows }

  abbrev Does : Outcome → Type 0
  Does o = Coherent n o.view

  module _ (w : WithinSets) (v : View) (c : Coherent n v) where
    after_match : (fit : Bool) → 0 < length v.open_rules → Does (matched fit n w v)
    after_match fit some =
        by_match Does fit n w v
        (λ _. after_pass Taken (end_error_condition v) (after_ended v c))
        (λ _. after_pass Taken (single_token_deletion v) (after_struck v c))
        (λ _. after_add Error (missing_symbol n w v) (begin_error_condition v) (after_begun v c))
        (after_mismatch v (unwrap_or v.strategy.next_tokens (own_pair v)) c (either_sound v c some))

    after_sync : 0 < length v.open_rules → Does (sync n w v)
    after_sync some =
        by_sync Does n w v
        (λ _. c)
        (λ _. record { open_bounded = c.open_bounded; stands = c.stands; saved = refl; input_mismatch = c.input_mismatch; marks = c.marks; shows = c.shows })
        (λ _. record { open_bounded = c.open_bounded; stands = c.stands; saved = either_sound v c some; input_mismatch = c.input_mismatch; marks = c.marks; shows = c.shows })
        (λ _ _. by_acts Does (choice_here n v) n w v
        (λ _ _. after_struck v c)
        (λ _. after_mismatch v (own_pair v) c (own_sound v c some))
        (λ _. after_many Searched (before (stops_at n w v) v.shown) (begin_error_condition v) (after_begun v c))
        (λ _. c))

    after_report : (k : ℕ) → Does (reports n w k v)
    after_report k = by_report Does n w k v (λ _ _. c) (λ t. after_begun v c)

    after_recover : Does (recover n w v)
    after_recover =
        let u = searching (failsafe v) in
        after_many Searched (search_length n w u) u (after_searching (failsafe v) (by_guard (Coherent n) v (λ _. after_pass Searched v c) (λ _. c)))

    after_leave : Does (left v)
    after_leave = by_left Does v (λ _. c) (λ o os e. closed o os e)
      where
        closed : (o : OpenRule) (os : List OpenRule) → v.open_rules ≡ o ∷ os → Coherent n (record v { state = o.invoking; open_rules = os })
        closed o os e = record {
          open_bounded = omega (arith, ap length e, c.open_bounded);
          stands = (stood n v.state o os (subst (λ rs. stands n v.state rs ≡ true) e c.stands)).below;
          saved = c.saved;
          input_mismatch = c.input_mismatch;
          marks = c.marks;
          shows = c.shows;
        }

    -- a state of the innermost rule
    after_state : (s : ℕ) → none_open v ≡ false → is_elsewhere n s v ≡ false → Coherent n (record v { state = Some s })
    after_state s open_is here_is = record { open_bounded = c.open_bounded; stands = at v.open_rules refl; saved = c.saved; input_mismatch = c.input_mismatch; marks = c.marks; shows = c.shows }
      where
        p : (not (nat_lt s (size n)) ≡ false) × (not ((state_at n s).rule == innermost v.open_rules) ≡ false)
        p = or_parts (not (nat_lt s (size n))) _ (or_parts _ (is_stop (state_at n s).kind) here_is).0

        at : (os : List OpenRule) → v.open_rules ≡ os → stands n (Some s) v.open_rules ≡ true
        at [] e = absurd (both_ways _ open_is (ap (λ os. length os == 0) e))
        at (o ∷ os) e =
            let st = stood n v.state o os (subst (λ rs. stands n v.state rs ≡ true) e c.stands) in
            let mine : ((state_at n s).rule == o.rule) ≡ true = subst (λ rs. ((state_at n s).rule == innermost rs) ≡ true) e (not-false _ p.1) in
            subst (λ rs. stands n (Some s) rs ≡ true) (sym e)
            (and_from _ _ (and_from _ _ (lt-ltb o.rule (length n.rules) st.rule) (and_from _ _ (not-false _ p.0) mine)) (and_from _ _ st.invoked st.below))

-- a rule that is entered stands where it was called
module _ (a : Atn) (w : WithinSets) (v : View) (c : Coherent (net_of a) v) where
  abbrev n : Net
  n = net_of a

  after_enter : (r : ℕ) → r < length n.rules → (none_open v ≡ false → is_called n r v ≡ true) → (length v.open_rules == 64) ≡ false → Coherent n (entered n r v)
  after_enter r known called some = record {
    open_bounded = omega (arith, c.open_bounded, few);
    stands = and_from _ _ (and_from _ _ (lt-ltb r (length n.rules) known) ((sound_of a.graph).rules r known).start) (and_from _ _ (invoked v.state v.open_rules refl refl c.stands) c.stands);
    saved = c.saved;
    input_mismatch = c.input_mismatch;
    marks = c.marks;
    shows = c.shows;
  }
    where
      few : length v.open_rules ≡ 64 → ⊥
      few e = both_ways _ some (eq-eqb (length v.open_rules) 64 e)

      invoked : (s : Option ℕ) (os : List OpenRule) → v.state ≡ s → v.open_rules ≡ os → stands n v.state v.open_rules ≡ true → is_invoked n r v.state ≡ true
      invoked None os e f st = subst (λ s. is_invoked n r s ≡ true) (sym e) refl
      invoked (Some s) [] e f st = absurd (both_ways false refl (subst (λ rs. stands n (Some s) rs ≡ true) f (subst (λ x. stands n x v.open_rules ≡ true) e st)))
      invoked (Some s) (o ∷ os) e f st =
          let some_open : none_open v ≡ false = ap (λ rs. length rs == 0) f ∙ ne_eqb (length (o ∷ os)) 0 (λ g. omega (arith, g)) in
          subst (λ x. is_invoked n r x ≡ true) (sym e) (subst (λ x. is_called n r (record v { state = x }) ≡ true) e (called some_open))

  after_accepted : (call : Call) → denial n w call v ≡ None → Coherent n (accepted n w call v).view
  after_accepted (State s) none =
      let f = no_first (NoRuleOpen, none_open v) ((StateOutside, is_elsewhere n s v) ∷ []) none in
      after_state n w v c s f.0 (no_first (StateOutside, is_elsewhere n s v) [] f.1).0
  after_accepted (Enter r) none =
      let more = (WrongRule, not (none_open v) && not (is_called n r v)) ∷ (TooManyRules, length v.open_rules == 64) ∷ [] in
      let f = no_first (OutsideLimits, not (nat_lt r (length n.rules))) more none in
      let g = no_first (WrongRule, not (none_open v) && not (is_called n r v)) ((TooManyRules, length v.open_rules == 64) ∷ []) f.1 in
      let h = no_first (TooManyRules, length v.open_rules == 64) [] g.1 in
      after_enter r (ltb-true r (length n.rules) (not-false _ f.0)) (λ some. not-false _ (called (none_open v) (is_called n r v) some g.0)) h.0
    where
      called : (b d : Bool) → b ≡ false → (not b && not d) ≡ false → not d ≡ false
      called b d e f = sym (ap (λ x. not x && not d) e) ∙ f
  after_accepted Leave none = after_leave n w v c
  after_accepted (Match t) none =
      let rest = (NoRuleOpen, none_open v) ∷ (NoLeafFree, too_few (match_leaves (fits (Match t) (ahead v 1)) n w v) v) ∷ [] in
      let f = no_first (OutsideLimits, not (is_token_type t)) rest none in
      after_match n w v c (fits (Match t) (ahead v 1)) (some_open v (no_first (NoRuleOpen, none_open v) ((NoLeafFree, too_few (match_leaves (fits (Match t) (ahead v 1)) n w v) v) ∷ []) f.1).0)
  after_accepted Wildcard none =
      after_match n w v c (fits Wildcard (ahead v 1)) (some_open v (no_first (NoRuleOpen, none_open v) ((NoLeafFree, too_few (match_leaves (fits Wildcard (ahead v 1)) n w v) v) ∷ []) none).0)
  after_accepted Sync none =
      after_sync n w v c (some_open v (no_first (NoRuleOpen, none_open v) ((NoLeafFree, too_few (sync_leaves n w v) v) ∷ (WrongSearch, is_misplaced n w v) ∷ []) none).0)
  after_accepted (Report k) none = after_report n w v c k
  after_accepted Recover none = after_recover n w v c

  pub after_step : (call : Call) → Coherent n (step n w call v).view
  after_step call = by_step (Does n) n w call v (λ d. c) (after_accepted call)

pub new_coherent : (n : Net) (v : View) → New v → Coherent n v
new_coherent n v new = record {
  open_bounded = omega (arith, ap length new.none_open);
  stands = subst (λ s. stands n s v.open_rules ≡ true) (sym new.state) (subst (λ os. stands n None os ≡ true) (sym new.none_open) refl);
  saved = ap (λ m. is_sound_saved n m.next_tokens) new.strategy;
  input_mismatch = ap (is_sound_kept n) new.input_mismatch;
  marks = ap (λ m. length m.last_error_states) new.strategy ∙ length-replicate 512 false;
  shows = new.shows;
}
