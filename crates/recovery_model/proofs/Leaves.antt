-- Which leaves are added: those of the tokens that are dropped, beside leaves of EOF and of made-up tokens.
use Rattle.std.proofs.Common.{◌≡◌, ℕ, zero, suc, ◌+◌, Bool, true, false, not, ◌⊎◌, List, [], ◌∷◌, ◌++◌, length, map, filter, Some, None, sym, refl, ap, ◌∙◌, append_assoc, subst, ap₂, inl, inr, arith}
use Rattle.std.proofs.lemmas.Bool.{cond-true, cond-false, cases_Bool, and_right}
use Rattle.std.proofs.lemmas.List.{append-nil, map-append, length-append, get_or-append-add}
use Rattle.std.proofs.lemmas.List.Elements.{filter-append}
use Rattle.atn_graph.specs.Net.{Net}
use Rattle.leaves.specs.declared.leaf.LeafKind.{LeafKind}
use Rattle.leaves.specs.declared.leaf.LeafKind.TheVariants.{Error}
use Rattle.leaves.specs.Leaves.{LeafFields as Leaf}
use Rattle.token.specs.Tokens.{Fields, is_eof, token_index}
use Rattle.token_stream.specs.Tapes.{no_token, token_at}
use Rattle.token_stream.specs.Streams.{passed}
use Rattle.recovery_model.specs.declared.call.Call.{Call}
use Rattle.recovery_model.specs.declared.call.Call.TheVariants.{State, Enter, Leave, Match, Wildcard, Sync, Report, Recover}
use Rattle.recovery_model.specs.Calls.{fits}
use Rattle.recovery_model.specs.Sets.{WithinSets}
use Rattle.recovery_model.specs.Views.{View, current, ahead}
use Rattle.recovery_model.specs.Passing.{Reason, Taken, Deleted, Searched, leaf, add, pass, pass_many, before, begin_error_condition, end_error_condition}
use Rattle.recovery_model.specs.Outcomes.{Outcome}
use Rattle.recovery_model.specs.RecoverInline.{missing_symbol, single_token_deletion, single_token_insertion, matched}
use Rattle.recovery_model.specs.Sync.{Choice, choice_here, stops_at, acts, sync}
use Rattle.recovery_model.specs.Recover.{failsafe, searching, search_length, recover}
use Rattle.recovery_model.specs.Steps.{left, reports, accepted, step}
use Rattle.recovery_model.specs.Journals.{run}
use Rattle.recovery_model.specs.Law.{leaf_mark, token_mark, is_of_a_dropped}
use Rattle.recovery_model.proofs.Shown.{Numbered}
use Rattle.recovery_model.proofs.Cases.{by_step, by_left, by_report, by_match, by_acts, by_sync, by_guard}

-- leaves were added and tokens dropped
pub record Adds (v u : View) : Type 0 where
  pub added : List Leaf
  pub leaves : u.leaves ≡ v.leaves ++ added
  pub dropped : List Fields
  pub shown : v.shown ≡ dropped ++ u.shown
  pub marks : map leaf_mark (filter is_of_a_dropped added) ≡ map token_mark dropped

pub adds_none : (v u : View) → u.leaves ≡ v.leaves → u.shown ≡ v.shown → Adds v u
adds_none v u leaves shown = record { added = []; leaves = leaves ∙ sym (append-nil v.leaves); dropped = []; shown = sym shown; marks = refl }

pub adds_then : (v u x : View) → Adds v u → Adds u x → Adds v x
adds_then v u x a b = record {
  added = a.added ++ b.added;
  leaves = b.leaves ∙ ap (λ ls. ls ++ b.added) a.leaves ∙ append_assoc v.leaves a.added b.added;
  dropped = a.dropped ++ b.dropped;
  shown = a.shown ∙ ap (λ ts. a.dropped ++ ts) b.shown ∙ sym (append_assoc a.dropped b.dropped x.shown);
  marks =
      ap (map leaf_mark) (filter-append is_of_a_dropped a.added b.added)
      ∙ map-append leaf_mark (filter is_of_a_dropped a.added) (filter is_of_a_dropped b.added)
      ∙ ap₂ (λ ls ks. ls ++ ks) a.marks b.marks
      ∙ sym (map-append token_mark a.dropped b.dropped);
}

-- what is shown after it is numbered still
numbered_after : (d ts : List Fields) → Numbered (d ++ ts) → Numbered ts
numbered_after d ts numbered k l =
    subst (λ t. t.index ≡ Some (token_index t)) (get_or-append-add d ts k no_token) (numbered (length d + k) (omega (arith, length-append d ts)))

pub adds_numbered : (v u : View) → Numbered v.shown → Adds v u → Numbered u.shown
adds_numbered v u numbered a = numbered_after a.dropped u.shown (subst Numbered a.shown numbered)

-- A token that is passed is dropped, or it is EOF.
record Drops (l : Leaf) (ts : List Fields) : Type 0 where
  dropped : List Fields
  shown : ts ≡ dropped ++ passed ts
  marks : map leaf_mark (filter is_of_a_dropped (l ∷ [])) ≡ map token_mark dropped

drops : (kind : LeafKind) (v : View) (ts : List Fields) → Numbered ts → Drops (leaf kind (token_at ts 0) v) ts
drops kind v [] numbered = record { dropped = []; shown = refl; marks = refl }
drops kind v (t ∷ ts) numbered = at (cases_Bool (is_eof t.typ))
  where
    at : (is_eof t.typ ≡ true) ⊎ (is_eof t.typ ≡ false) → Drops (leaf kind t v) (t ∷ ts)
    at (inl e) = record { dropped = []; shown = sym (cond-true (is_eof t.typ) (t ∷ ts) ts e); marks = rw e refl }
    at (inr e) = record { dropped = t ∷ []; shown = ap (λ us. t ∷ us) (sym (cond-false (is_eof t.typ) (t ∷ ts) ts e)); marks = rw (e, numbered 0 (omega arith)) refl }

adds_leaf : (kind : LeafKind) (v : View) → Numbered v.shown → Adds v (record (add kind (current v) v) { shown = passed v.shown })
adds_leaf kind v numbered =
    let d = drops kind v v.shown numbered in
    record { added = leaf kind (current v) v ∷ []; leaves = refl; dropped = d.dropped; shown = d.shown; marks = d.marks }

pub adds_pass : (why : Reason) (v : View) → Numbered v.shown → Adds v (pass why v)
adds_pass why v numbered = adds_leaf _ v numbered

pub adds_many : (why : Reason) (k : ℕ) (v : View) → Numbered v.shown → Adds v (pass_many why k v)
adds_many why zero v numbered = adds_none v v refl refl
adds_many why (suc k) v numbered =
    let one = adds_pass why v numbered in
    let u = pass why v in
    adds_then v u (pass_many why k u) one (adds_many why k u (adds_numbered v u numbered one))

-- a made-up token is of no place
adds_made : (kind : LeafKind) (t : Fields) (v : View) → t.index ≡ None → Adds v (add kind t v)
adds_made kind t v e = record { added = leaf kind t v ∷ []; leaves = refl; dropped = []; shown = refl; marks = ap (map leaf_mark) (cond-false (is_of_a_dropped (leaf kind t v)) (leaf kind t v ∷ []) [] none) }
  where
    none : is_of_a_dropped (leaf kind t v) ≡ false
    none = rw e (and_right (not (is_eof t.typ)) false refl)

adds_begun : (v : View) → Adds v (begin_error_condition v)
adds_begun v = adds_none v (begin_error_condition v) refl refl

module _ (n : Net) (w : WithinSets) (v : View) (numbered : Numbered v.shown) where
  adds_struck : Adds v (single_token_deletion v)
  adds_struck =
      let u = begin_error_condition v in
      let two = adds_then v u (pass Deleted u) (adds_begun v) (adds_pass Deleted u numbered) in
      adds_then v (pass Deleted u) (single_token_deletion v) two (adds_none (pass Deleted u) (single_token_deletion v) refl refl)

  adds_inserted : Adds v (single_token_insertion n w v)
  adds_inserted = adds_then v (begin_error_condition v) (single_token_insertion n w v) (adds_begun v) (adds_made Error (missing_symbol n w v) (begin_error_condition v) refl)

  adds_taken : (u : View) → Adds v u → Adds v (pass Taken u)
  adds_taken u a = adds_then v u (pass Taken u) a (adds_pass Taken u (adds_numbered v u numbered a))

  abbrev Does : Outcome → Type 0
  Does o = Adds v o.view

  adds_matched : (fit : Bool) → Does (matched fit n w v)
  adds_matched fit =
      by_match Does fit n w v
      (λ _. adds_taken (end_error_condition v) (adds_none v (end_error_condition v) refl refl))
      (λ _. adds_taken (single_token_deletion v) adds_struck)
      (λ _. adds_inserted)
      (adds_none v _ refl refl)

  adds_acts : (c : Choice) → Does (acts c n w v)
  adds_acts c =
      let u = begin_error_condition v in
      let k = before (stops_at n w v) v.shown in
      by_acts Does c n w v
      (λ _ _. adds_struck)
      (λ _. adds_none v _ refl refl)
      (λ _. adds_then v u (pass_many Searched k u) (adds_begun v) (adds_many Searched k u numbered))
      (λ _. adds_none v v refl refl)

  adds_syncs : Does (sync n w v)
  adds_syncs =
      by_sync Does n w v
      (λ _. adds_none v v refl refl)
      (λ _. adds_none v _ refl refl)
      (λ _. adds_none v _ refl refl)
      (λ _ _. adds_acts (choice_here n v))

  adds_unstuck : Adds v (failsafe v)
  adds_unstuck = by_guard (Adds v) v (λ _. adds_pass Searched v numbered) (λ _. adds_none v v refl refl)

  adds_recovers : Does (recover n w v)
  adds_recovers =
      let u = searching (failsafe v) in
      let a = adds_then v (failsafe v) u adds_unstuck (adds_none (failsafe v) u refl refl) in
      adds_then v u (pass_many Searched (search_length n w u) u) a (adds_many Searched (search_length n w u) u (adds_numbered v u numbered a))

  adds_left : Does (left v)
  adds_left = by_left Does v (λ _. adds_none v v refl refl) (λ o os _. adds_none v _ refl refl)

  adds_reports : (k : ℕ) → Does (reports n w k v)
  adds_reports k = by_report Does n w k v (λ _ _. adds_none v v refl refl) (λ t. adds_begun v)

  pub adds_step : (c : Call) → Adds v (step n w c v).view
  adds_step c = by_step Does n w c v (λ d. adds_none v v refl refl) (λ none. at c)
    where
      at : (c : Call) → Does (accepted n w c v)
      at (State s) = adds_none v _ refl refl
      at (Enter r) = adds_none v _ refl refl
      at Leave = adds_left
      at (Match ty) = adds_matched (fits (Match ty) (ahead v 1))
      at Wildcard = adds_matched (fits Wildcard (ahead v 1))
      at Sync = adds_syncs
      at (Report k) = adds_reports k
      at Recover = adds_recovers

-- and so it is after any calls
pub adds_run : (n : Net) (w : WithinSets) (cs : List Call) (v : View) → Numbered v.shown → Adds v (run n w cs v)
adds_run n w [] v numbered = adds_none v v refl refl
adds_run n w (c ∷ cs) v numbered =
    let u = (step n w c v).view in
    let one = adds_step n w v numbered c in
    adds_then v u (run n w cs u) one (adds_run n w cs u (adds_numbered v u numbered one))
