-- Why filters keep the law of streams: nothing here says what a filter shows.
use Rattle.std.proofs.Common.{◌≡◌, ℕ, ◌+◌, ◌-◌, ◌<◌, true, false, List, [], ◌∷◌, ◌++◌, length, take, filter, All, AllPairs, sym, ap, ◌∙◌, subst₂, arith}
use Rattle.std.proofs.lemmas.Bool.{or_left, cond-true}
use Rattle.std.proofs.lemmas.List.{take_all, length_push, get_or_push, get_or_default}
use Rattle.std.proofs.lemmas.List.Elements.{All-filter, All-from_get_or, filter_more}
use Rattle.std.proofs.lemmas.List.Kept.{AllPairs-filter}
use Rattle.token.specs.Tokens.{Fields, is_eof, token_index}
use Rattle.token_stream.specs.Tapes.{no_token, token_at}
use Rattle.token_stream.specs.Streams.{Named, Shows, visible, filtered}

-- any token and a later one: the first is not EOF, and their token indexes rise
abbrev Later : Fields → Fields → Type 0
Later t u = (is_eof t.typ ≡ false) × (token_index t < token_index u)

module _ (tape ts : List Fields) (s : Shows tape ts) where
  later : AllPairs Later (filtered ts)
  later = AllPairs-filter Later visible ts (λ i j d l m. subst₂ Later (get_or_default ts i no_token d (omega (arith, l, m))) (get_or_default ts j no_token d m) (s.ends.before i (omega (arith, l, m)), s.rises i j l m))

  named : All (Named tape) (filtered ts)
  named = All-filter visible (Named tape) ts (All-from_get_or (Named tape) ts no_token s.named)

  -- the last token is EOF, so it is kept
  abbrev end : ℕ
  end = length ts - 1

  abbrev last : Fields
  last = token_at ts end

  abbrev kept : List Fields
  kept = filter visible (take end ts)

  last_eof : is_eof last.typ ≡ true
  last_eof = s.ends.last end (omega (arith, s.ends.non_empty))

  split : filtered ts ≡ kept ++ last ∷ []
  split =
      ap (filter visible) (sym (take_all (end + 1) ts (omega arith))) ∙ filter_more visible ts end no_token (omega (arith, s.ends.non_empty))
      ∙ ap (λ us. kept ++ us) (cond-true (visible last) (last ∷ []) [] (or_left (is_eof last.typ) _ last_eof))

  long : length (filtered ts) ≡ length kept + 1
  long = ap length split ∙ length_push kept last

  pub filter_shows : Shows tape (filtered ts)
  filter_shows = record {
    sound = s.sound;
    ends = record {
      non_empty = omega (arith, long);
      last = λ k e. ap (λ us. is_eof (token_at us k).typ) split ∙ ap (λ t. is_eof t.typ) (get_or_push kept last no_token k (omega (arith, e, long))) ∙ last_eof;
      before = λ k l. (later k (k + 1) no_token (omega arith) l).0;
    };
    rises = λ j k l m. (later j k no_token l m).1;
    named = λ k l. named k no_token l;
  }
