-- The tape is denied exactly if the rows write none.
use Rattle.std.specs.Global.{Vec}
use Rattle.std.proofs.Common.{◌≡◌, List, map, Option, IfOk, Ok, Err, Result, refl, sym, subst, ap, arith}
use Rattle.errors.specs.declared.denial.Denial.{Denial}
use Rattle.errors.specs.declared.denial.Denial.TheVariants.{ShortTable, OutsideLimits, BrokenRule, LeftRecursion, FaultyChain, FaultyTape, NoRuleOpen, StateOutside, WrongRule, TooManyRules, NoLeafFree, WrongSearch, WrongReport, SetValue}
use Rattle.errors.specs.Denials.{in_order, place_in, DeniesFirst}
use Rattle.errors.proofs.Firsts.{denies, accepts}
use Rattle.token.specs.declared.token_type.Span.{Span}
use Rattle.token.specs.declared.common_token.CommonToken.{CommonToken}
use Rattle.token.specs.Kinds.{common_fields}
use Rattle.token.specs.Tokens.{Fields}
use Rattle.token_stream.specs.Tapes.{IsTape, TapeFault}
use Rattle.script_lines.specs.declared.options.Show.{Show}
use Rattle.script_lines.specs.declared.token_rows.TokenRow.{TokenRow}
use Rattle.script_lines.specs.TokenRows.{WritesTape}
use Rattle.answers.specs.Tapes.{Numbered, RowsFault, RowsAnswered, shown_by}
use Rattle.answers.proofs.Written.{same_tape}

-- where one denial alone can fit
module _ (e : Denial) (P : Type 0) where
  pub only_denies : {X : Type 0} → P → DeniesFirst {X = X} (λ d. (d ≡ e) × P) (Err e)
  only_denies p = denies (λ d. (d ≡ e) × P) e record { fits = (refl, p); none_before = λ f l h. omega (arith, l, ap (place_in in_order) h.0) }

  pub only_accepts : {X : Type 0} (x : X) → (P → ⊥) → DeniesFirst (λ d. (d ≡ e) × P) (Ok x)
  only_accepts x n = accepts (λ d. (d ≡ e) × P) x (λ d h. n h.1)

-- only that it is no tape speaks against tokens
pub only_tape : (tape : List Fields) (d : Denial) → TapeFault tape d → (d ≡ FaultyTape) × (IsTape tape → ⊥)
only_tape tape ShortTable h = absurd h
only_tape tape OutsideLimits h = absurd h
only_tape tape BrokenRule h = absurd h
only_tape tape LeftRecursion h = absurd h
only_tape tape FaultyChain h = absurd h
only_tape tape FaultyTape h = (refl, h)
only_tape tape NoRuleOpen h = absurd h
only_tape tape StateOutside h = absurd h
only_tape tape WrongRule h = absurd h
only_tape tape TooManyRules h = absurd h
only_tape tape NoLeafFree h = absurd h
only_tape tape WrongSearch h = absurd h
only_tape tape WrongReport h = absurd h
only_tape tape SetValue h = absurd h

-- what is answered about the tokens that the rows write is the answer about the rows
module _ {S : Type 0} (kept : S → Option Span) (rows : List (TokenRow S)) (show : Show) (ts : List Fields) (written : WritesTape kept rows ts) (numbered : Numbered ts) where
  no_tape : (IsTape ts → ⊥) → (us : List Fields) → WritesTape kept rows us → IsTape us → ⊥
  no_tape n us w sound = n (subst IsTape (sym (same_tape kept rows ts us written w numbered sound)) sound)

  rows_answered : (r : Result (Vec Fields) Denial) → DeniesFirst (TapeFault ts) r → IfOk r (λ _. IsTape ts) → IfOk r (λ v. v.items ≡ shown_by show ts) → RowsAnswered kept rows show r
  rows_answered (Ok v) d sound shown = (
    only_accepts FaultyTape _ v (λ none. none ts written sound),
    record { tape = ts; written = written; sound = sound; shown = shown },
  )
  rows_answered (Err e) d sound shown =
      let fits = only_tape ts e (d.denied e refl).fits in
      (subst (λ f. DeniesFirst {X = Vec Fields} (RowsFault kept rows) (Err f)) (sym fits.0) (only_denies FaultyTape _ (no_tape fits.1)), tt)

-- the tokens as they were checked
module _ {S : Type 0} (kept : S → Option Span) (rows : List (TokenRow S)) (show : Show) (items checked : List (CommonToken S)) (same : checked ≡ items) where
  abbrev ts : List Fields
  ts = map (common_fields kept) checked

  pub all_answered : {E : Type 0} (r : Result (Result (Vec Fields) Denial) E) → WritesTape kept rows (map (common_fields kept) items) → Numbered (map (common_fields kept) items) → IfOk r (DeniesFirst (TapeFault ts)) → IfOk r (λ o. IfOk o (λ _. IsTape ts)) → IfOk r (λ o. IfOk o (λ v. v.items ≡ shown_by show ts)) → IfOk r (RowsAnswered kept rows show)
  all_answered (Ok o) written numbered d sound shown = rows_answered kept rows show ts (subst (λ xs. WritesTape kept rows (map (common_fields kept) xs)) (sym same) written) (subst (λ xs. Numbered (map (common_fields kept) xs)) (sym same) numbered) o d sound shown
  all_answered (Err e) written numbered d sound shown = tt
