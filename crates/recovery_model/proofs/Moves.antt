-- What passing and reporting keep.
use Rattle.std.proofs.Common.{◌≡◌, ℕ, zero, suc, List, [], ◌∷◌, map, None, refl, ap, ◌∙◌}
use Rattle.token_stream.specs.Tapes.{EndsInEof}
use Rattle.token.specs.Tokens.{Fields}
use Rattle.leaves.specs.declared.leaf.LeafKind.{LeafKind}
use Rattle.recovery_model.specs.declared.open_rule.OpenRule.{OpenRule}
use Rattle.recovery_model.specs.Views.{View, no_error_states}
use Rattle.recovery_model.specs.Passing.{Reason, raised, add, pass, pass_many, begin_error_condition, end_error_condition}
use Rattle.recovery_model.specs.Matching.{stands}
use Rattle.recovery_model.proofs.Shown.{Onward, onward_by, onward_ends, onward_more, passed_onward}

-- the notes of searches are kept, and where the parser stands
pub record Same (v u : View) : Type 0 where
  pub standing : stands u ≡ stands v
  pub last : u.strategy.last_error_index ≡ v.strategy.last_error_index
  pub marks : u.strategy.last_error_states ≡ v.strategy.last_error_states
  pub onward : Onward v.shown u.shown

-- the notes of searches are cleared
pub record Cleared (v u : View) : Type 0 where
  pub standing : stands u ≡ stands v
  pub last : u.strategy.last_error_index ≡ None
  pub marks : u.strategy.last_error_states ≡ no_error_states
  pub onward : Onward v.shown u.shown

still : (ts : List Fields) → EndsInEof ts → Onward ts ts
still ts ends = onward_by [] ts ts refl ends.non_empty

pub same_self : (v : View) → EndsInEof v.shown → Same v v
same_self v ends = record { standing = refl; last = refl; marks = refl; onward = still v.shown ends }

pub same_on : (v u x : View) → Same v u → Same u x → Same v x
same_on v u x a b = record { standing = b.standing ∙ a.standing; last = b.last ∙ a.last; marks = b.marks ∙ a.marks; onward = onward_more _ _ _ a.onward b.onward }

pub cleared_on : (v u x : View) → Cleared v u → Same u x → Cleared v x
cleared_on v u x a b = record { standing = b.standing ∙ a.standing; last = b.last ∙ a.last; marks = b.marks ∙ a.marks; onward = onward_more _ _ _ a.onward b.onward }

pub cleared_ended : (v u : View) → Same v u → Cleared v (end_error_condition u)
cleared_ended v u a = record { standing = a.standing; last = refl; marks = refl; onward = a.onward }

raised_invoking : (os : List OpenRule) → map (λ o. o.invoking) (raised os) ≡ map (λ o. o.invoking) os
raised_invoking [] = refl
raised_invoking (o ∷ os) = refl

pub same_add : (kind : LeafKind) (t : Fields) (v : View) → EndsInEof v.shown → Same v (add kind t v)
same_add kind t v ends = record { standing = ap (λ is. record { state = v.state; invoking = is }) (raised_invoking v.open_rules); last = refl; marks = refl; onward = still v.shown ends }

pub same_pass : (why : Reason) (v : View) → EndsInEof v.shown → Same v (pass why v)
same_pass why v ends = record { standing = ap (λ is. record { state = v.state; invoking = is }) (raised_invoking v.open_rules); last = refl; marks = refl; onward = passed_onward v.shown ends }

pub same_many : (why : Reason) (k : ℕ) (v : View) → EndsInEof v.shown → Same v (pass_many why k v)
same_many why zero v ends = same_self v ends
same_many why (suc k) v ends =
    let one = same_pass why v ends in
    let u = pass why v in
    same_on v u (pass_many why k u) one (same_many why k u (onward_ends v.shown u.shown ends one.onward))

pub same_begun : (v : View) → EndsInEof v.shown → Same v (begin_error_condition v)
same_begun v ends = record { standing = refl; last = refl; marks = refl; onward = still v.shown ends }
