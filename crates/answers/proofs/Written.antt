-- The rows of a script write at most one tape.
use Rattle.std.proofs.Common.{◌≡◌, ◌∙◌, ℕ, ◌<◌, List, [], ◌∷◌, ◌++◌, length, Option, Some, pos, ap, sym, refl, inl, inr, suc, arith}
use Rattle.std.proofs.lemmas.Int.{ints}
use Rattle.std.proofs.lemmas.Bool.{cases_lt}
use Rattle.std.proofs.lemmas.List.{get_or_push, get_or_append_left, length_push}
use Rattle.std.proofs.lemmas.Slice.Zip.{AllZip-long}
use Rattle.token.specs.declared.token_type.Span.{Span}
use Rattle.token.specs.declared.token_type.TokenType.{TokenType}
use Rattle.token.specs.declared.token_type.TokenType.TheVariants.{Eof, Of}
use Rattle.token.specs.Tokens.{Fields, type_number}
use Rattle.token_stream.specs.Tapes.{no_token, token_at, IsTape}
use Rattle.script_lines.specs.declared.token_rows.TokenRow.{TokenRow}
use Rattle.script_lines.specs.TokenRows.{WritesToken, WritesTape}
use Rattle.answers.specs.Tapes.{Numbered}

same_type : (t u : TokenType) → type_number t ≡ type_number u → t ≡ u
same_type Eof Eof e = refl
same_type Eof (Of n) e = absurd (omega (arith, ints, e))
same_type (Of n) Eof e = absurd (omega (arith, ints, e))
same_type (Of n) (Of m) e = ap Of (omega (arith, ints, e))

same_number : (m n : ℕ) → pos m ≡ pos n → m ≡ n
same_number m n e = omega (arith, ints, e)

-- but for its token index, a row writes one token
same_token : {S : Type 0} (kept : S → Option Span) (row : TokenRow S) (t u : Fields) → WritesToken kept row t → WritesToken kept row u → t.index ≡ u.index → t ≡ u
same_token kept row t u v w e =
    let typ = same_type t.typ u.typ (v.typ ∙ sym w.typ) in
    let channel = same_number t.channel u.channel (v.channel ∙ sym w.channel) in
    let line = same_number t.position.0 u.position.0 (v.line ∙ sym w.line) in
    let column = same_number t.position.1 u.position.1 (v.column ∙ sym w.column) in
    let span = v.span ∙ sym w.span in
    λ i. record { typ = typ i; channel = channel i; index = e i; position = (line i, column i); span = span i }

same_tokens : {S : Type 0} (kept : S → Option Span) (rows : List (TokenRow S)) (ts us : List Fields) → WritesTape kept rows ts → WritesTape kept rows us → ((k : ℕ) → k < length ts → (token_at ts k).index ≡ (token_at us k).index) → ts ≡ us
same_tokens kept [] [] [] v w e = refl
same_tokens kept [] [] (u ∷ us) v w e = absurd w
same_tokens kept [] (t ∷ ts) us v w e = absurd v
same_tokens kept (row ∷ rows) [] us v w e = absurd v
same_tokens kept (row ∷ rows) (t ∷ ts) [] v w e = absurd w
same_tokens kept (row ∷ rows) (t ∷ ts) (u ∷ us) v w e =
    let head = same_token kept row t u v.0 w.0 (e 0 (omega arith)) in
    let tail = same_tokens kept rows ts us v.1 w.1 (λ k l. e (suc k) (omega (arith, l))) in
    λ i. head i ∷ tail i

pub same_tape : {S : Type 0} (kept : S → Option Span) (rows : List (TokenRow S)) (ts us : List Fields) → WritesTape kept rows ts → WritesTape kept rows us → Numbered ts → IsTape us → ts ≡ us
same_tape kept rows ts us v w numbered sound =
    let long : length ts ≡ length rows = AllZip-long (WritesToken kept) rows ts v in
    let same : length us ≡ length rows = AllZip-long (WritesToken kept) rows us w in
    same_tokens kept rows ts us v w (λ k l. numbered k l ∙ sym (sound.placed k (omega (arith, l, long, same))).index)

-- one more token, with its place as its token index
pub numbered_push : (ts : List Fields) (t : Fields) → Numbered ts → t.index ≡ Some (length ts) → Numbered (ts ++ t ∷ [])
numbered_push ts t numbered is k l =
    elim (cases_lt k (length ts)) [
      | inl before ↦ ap (λ u. u.index) (get_or_append_left ts (t ∷ []) no_token k before) ∙ numbered k before
      | inr last ↦
          let at : k ≡ length ts = omega (arith, l, last, length_push ts t) in
          ap (λ u. u.index) (get_or_push ts t no_token k (sym at)) ∙ is ∙ ap Some (sym at)
    ]
