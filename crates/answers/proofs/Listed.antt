-- One more of the tokens that are shown, in their order.
use Rattle.std.proofs.Common.{◌≡◌, ◌∙◌, ℕ, ◌+◌, ◌<◌, List, [], ◌∷◌, ◌++◌, length, take, false, true, pos, ap, sym, subst, inl, inr, arith}
use Rattle.std.proofs.lemmas.Bool.{cases_lt, both_ways}
use Rattle.std.proofs.lemmas.List.{take_more}
use Rattle.std.proofs.lemmas.Grind.{common_steps}
use Rattle.token.specs.Tokens.{Fields, is_eof}
use Rattle.token_stream.specs.Tapes.{no_token, token_at}
use Rattle.token_stream.specs.Streams.{Shows, shown_at}

module _ (tape shown : List Fields) (s : Shows tape shown) (n : ℕ) (more : n < length shown) (t : Fields) (is : t ≡ shown_at shown (pos (n + 1))) where
  ahead_is : shown_at shown (pos (n + 1)) ≡ token_at shown n
  ahead_is = grind (arith, common_steps, more)

  pub one_more : (ts : List Fields) → ts ≡ take n shown → ts ++ t ∷ [] ≡ take (n + 1) shown
  one_more ts so = ap (λ us. us ++ t ∷ []) so ∙ ap (λ u. take n shown ++ u ∷ []) (is ∙ ahead_is) ∙ sym (take_more shown n no_token more)

  pub not_last : is_eof t.typ ≡ false → n + 1 < length shown
  not_last other = elim (cases_lt (n + 1) (length shown)) [ inl l ↦ l | inr m ↦ absurd (both_ways _ other (subst (λ u. is_eof u.typ ≡ true) (sym (is ∙ ahead_is)) (s.ends.last n (omega (arith, m, more))))) ]
