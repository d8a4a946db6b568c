-- What matching and sync do to the notes, and what they answer.
use Rattle.std.proofs.Common.{◌≡◌, ℕ, Bool, true, false, not, ◌&&◌, ◌==◌, ◌⊎◌, List, ◌∷◌, ℤ, Option, Some, refl, ap, ◌∙◌, inl, inr}
use Rattle.std.proofs.lemmas.Bool.{both_ways, cases_Bool, and_right, eq-eqb}
use Rattle.atn_graph.specs.Net.{Net}
use Rattle.leaves.specs.declared.leaf.LeafKind.TheVariants.{Error}
use Rattle.token.specs.Tokens.{Fields, type_number, is_eof, token_index}
use Rattle.token_stream.specs.Tapes.{EndsInEof}
use Rattle.recovery_model.specs.Calls.{Token}
use Rattle.recovery_model.specs.Sets.{WithinSets, joined}
use Rattle.recovery_model.specs.Views.{View, Pair, current, place, ahead, here, follows}
use Rattle.recovery_model.specs.Passing.{Taken, Deleted, Searched, before, pass, pass_many, begin_error_condition, end_error_condition}
use Rattle.recovery_model.specs.Outcomes.{Outcome}
use Rattle.recovery_model.specs.RecoverInline.{expects, is_unwanted, missing_symbol, single_token_deletion, single_token_insertion, take_token, matched}
use Rattle.recovery_model.specs.Sync.{choice_here, may_come, may_be_nothing, stops_at, acts, sync}
use Rattle.recovery_model.specs.Histories.{is_accepted, is_of_the_tape, begins_choice}
use Rattle.recovery_model.proofs.Shown.{Rises, Numbered, onward_ends, onward_numbered, passed_moves, ahead_of_eof}
use Rattle.recovery_model.proofs.Cases.{by_match, by_acts, by_sync}
use Rattle.recovery_model.proofs.Moves.{Same, Cleared, same_self, same_on, cleared_on, cleared_ended, same_add, same_pass, same_many, same_begun}

-- a token of the tape is answered exactly if the notes are cleared
abbrev pub Matches : View → Outcome → Type 0
Matches v o = (Cleared v o.view × (is_of_the_tape o.answer ≡ true)) ⊎ (Same v o.view × (is_of_the_tape o.answer ≡ false))

of_the_tape : (t : Fields) → t.index ≡ Some (token_index t) → is_of_the_tape (Token t) ≡ true
of_the_tape t e = rw e refl

module _ (v : View) (ends : EndsInEof v.shown) (numbered : Numbered v.shown) where
  taken : (u : View) → Cleared v u → Matches v (take_token u)
  taken u c =
      let still = onward_ends v.shown u.shown ends c.onward in
      inl (cleared_on v u (pass Taken u) c (same_pass Taken u still), of_the_tape (current u) (onward_numbered v.shown u.shown numbered c.onward 0 still.non_empty))

  cleared_struck : Cleared v (single_token_deletion v)
  cleared_struck = let u = begin_error_condition v in cleared_ended v (pass Deleted u) (same_on v u _ (same_begun v ends) (same_pass Deleted u ends))

  same_inserted : (n : Net) (w : WithinSets) → Same v (single_token_insertion n w v)
  same_inserted n w =
      let u = begin_error_condition v in same_on v u _ (same_begun v ends) (same_add Error (missing_symbol n w v) u ends)

  still_same : Same v v
  still_same = same_self v ends

  pub matched_so : (fit : Bool) (n : Net) (w : WithinSets) → Matches v (matched fit n w v)
  matched_so fit n w =
      by_match (Matches v) fit n w v
      (λ _. taken (end_error_condition v) (cleared_ended v v still_same))
      (λ _. taken (single_token_deletion v) cleared_struck)
      (λ _. inr (same_inserted n w, refl))
      (inr (record { standing = refl; last = refl; marks = refl; onward = still_same.onward }, refl))

-- a type is not expected where it is none of the state's own and no walk can end there
joined_here : (w : WithinSets) (s : ℕ) (ss : List ℕ) (x : ℤ) → w.types s x ≡ false → w.end s ≡ false → joined w (s ∷ ss) x ≡ false
joined_here w s ss x e f = rw (e, f) refl

-- a sync clears the notes exactly where a choice begins and another place is reached
pub record Clears (n : Net) (v : View) (o : Outcome) : Type 0 where
  pub cleared : Cleared v o.view
  pub accepted : is_accepted o.answer ≡ true
  pub begins : begins_choice n (here v) ≡ true
  pub moves : place o.view ≡ place v → ⊥

pub record Stays (n : Net) (v : View) (o : Outcome) : Type 0 where
  pub same : Same v o.view
  pub ends_nothing : (begins_choice n (here v) && not (place o.view == place v)) ≡ false

abbrev pub Syncs : Net → View → Outcome → Type 0
Syncs n v o = Clears n v o ⊎ Stays n v o

module _ (n : Net) (w : WithinSets) (v : View) (ends : EndsInEof v.shown) (rises : Rises v.shown) (numbered : Numbered v.shown) where
  in_place : (o : Outcome) → Same v o.view → place o.view ≡ place v → Syncs n v o
  in_place o same e = inr (record { same = same; ends_nothing = and_right (begins_choice n (here v)) _ (ap not (eq-eqb (place o.view) (place v) e)) })

  pub not_eof : may_come w v ≡ false → may_be_nothing w v ≡ false → is_unwanted n w v ≡ true → is_eof (current v).typ ≡ false
  not_eof come nothing extra = at (cases_Bool (is_eof (current v).typ))
    where
      at : (is_eof (current v).typ ≡ true) ⊎ (is_eof (current v).typ ≡ false) → is_eof (current v).typ ≡ false
      at (inl e) =
          let none : expects n w v (ahead v 1) ≡ false = joined_here w (here v) (follows n v) (ahead v 1) come nothing in
          absurd (both_ways (is_unwanted n w v) (ap (λ t. expects n w v (type_number t.typ)) (ahead_of_eof v.shown ends e) ∙ none) extra)
      at (inr e) = e

  pub struck_moves : is_eof (current v).typ ≡ false → place (single_token_deletion v) ≡ place v → ⊥
  struck_moves e same = passed_moves v.shown ends rises e same

  acted : may_come w v ≡ false → may_be_nothing w v ≡ false → Syncs n v (acts (choice_here n v) n w v)
  acted come nothing =
      let k = before (stops_at n w v) v.shown in
      let u = begin_error_condition v in
      by_acts (Syncs n v) (choice_here n v) n w v
      (λ is e. inl (record { cleared = cleared_struck v ends numbered; accepted = refl; begins = rw is refl; moves = struck_moves (not_eof come nothing e) }))
      (λ _. in_place _ (record { standing = refl; last = refl; marks = refl; onward = (still_same v ends numbered).onward }) refl)
      (λ is. inr (record { same = same_on v u (pass_many Searched k u) (same_begun v ends) (same_many Searched k u ends); ends_nothing = rw is refl }))
      (λ _. in_place _ (still_same v ends numbered) refl)

  pub syncs_so : Syncs n v (sync n w v)
  syncs_so = by_sync (Syncs n v) n w v (λ _. in_place _ (still_same v ends numbered) refl) (λ _. in_place _ strategy refl) (λ _. in_place _ strategy refl) acted
    where
      strategy : {p : Option Pair} → Same v (record v { strategy = record v.strategy { next_tokens = p } })
      strategy = record { standing = refl; last = refl; marks = refl; onward = (still_same v ends numbered).onward }
