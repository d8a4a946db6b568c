-- The words of a line, as `split_ascii_whitespace` cuts them off it.
use Rattle.std.proofs.Common.{◌≡◌, ◌∙◌, ◌⊎◌, ◌<◌, ◌≤◌, ◌++◌, [], ◌∷◌, ap, append_assoc, false, true, List, ℕ, Some, None, arith, get_or, inl, inr, length, refl, sym}
use Rattle.std.specs.Prelude.{All, codes, cond, map, nat_lt}
use Rattle.std.specs.Borrow.{Bor}
use Rattle.std.specs.Char.{is_ascii_whitespace}
use Rattle.std.specs.Str.{NoCharPasses}
use Rattle.std.specs.Str.Iter.{IsAsciiSeparator, CutsAsciiWord, split_ascii_whitespace_steps}
use Rattle.std.specs.declared.str.SplitAsciiWhitespace.{SplitAscii}
use Rattle.std.proofs.lemmas.Bool.{cases_lt}
use Rattle.std.proofs.lemmas.Str.{NoCharPasses-byte}
use Rattle.std.proofs.lemmas.List.{append-nil, map-append}
use Rattle.std.proofs.lemmas.List.Elements.{All-from_get_or, All-tail}
use Rattle.std.proofs.lemmas.List.Splits.{slice_split_none, slice_split_at, slice_split-cons_yes}
use Rattle.std.proofs.lemmas.Grind.{common_steps, flat_map-append}
use Rattle.std.specs.List.{filter, flat_map, slice_split}
use Rattle.script_lines.specs.Words.{in_one, words, words_left}

-- what borrowed words are
abbrev pub texts : List (Bor (List ℕ)) → List (List ℕ)
texts = map (λ w. w.now)

-- a byte past ASCII is no white space
not_white : (b : ℕ) → 128 ≤ b → is_ascii_whitespace b ≡ false
not_white b past = grind (arith, common_steps)

-- a text with no white space has none among its bytes
free_word : (w : List ℕ) → NoCharPasses is_ascii_whitespace w → All (λ b. is_ascii_whitespace b ≡ false) w
free_word w free = All-from_get_or (λ b. is_ascii_whitespace b ≡ false) w 0 (λ i lt. elim (cases_lt (get_or w i 0) 128) [ inl ascii ↦ NoCharPasses-byte is_ascii_whitespace w i free lt ascii | inr past ↦ not_white _ past ])

-- white space before the first word does not count
after_gap : (gap t : List ℕ) → All (λ b. is_ascii_whitespace b ≡ true) gap → words (gap ++ t) ≡ words t
after_gap [] t blank = refl
after_gap (c ∷ gap) t blank =
    ap (filter (λ w. nat_lt 0 (length w))) (slice_split-cons_yes is_ascii_whitespace c (gap ++ t) (blank 0 0 (omega arith)))
    ∙ after_gap gap t (All-tail (λ b. is_ascii_whitespace b ≡ true) c gap blank)

-- a word is not empty
kept : (w : List ℕ) (ws : List (List ℕ)) → 0 < length w → filter (λ v. nat_lt 0 (length v)) (w ∷ ws) ≡ w ∷ filter (λ v. nat_lt 0 (length v)) ws
kept w ws some = let more : nat_lt 0 (length w) ≡ true = grind (arith, common_steps) in
    ap (λ b. cond b (w ∷ filter (λ v. nat_lt 0 (length v)) ws) (filter (λ v. nat_lt 0 (length v)) ws)) more

-- a word, and white space or nothing behind it
at_word : (w sep rest : List ℕ) → 0 < length w → All (λ b. is_ascii_whitespace b ≡ false) w → IsAsciiSeparator sep rest → words (w ++ (sep ++ rest)) ≡ w ∷ words rest
at_word w [] [] some free ended = ap words (append-nil w) ∙ ap (filter (λ v. nat_lt 0 (length v))) (slice_split_none is_ascii_whitespace w free) ∙ kept w [] some
at_word w [] (b ∷ rest) some free ended = absurd (omega (arith, ended.2 refl))
at_word w (c ∷ []) rest some free ended =
    ap (filter (λ v. nat_lt 0 (length v))) (slice_split_at is_ascii_whitespace w c rest free (ended.0 0 0 (omega arith)))
    ∙ kept w (slice_split is_ascii_whitespace rest) some
at_word w (c ∷ d ∷ sep) rest some free ended = absurd (omega (arith, ended.1))

-- the words that are cut off a text are its words
pub first_cut : (text rest : List ℕ) (x : Bor (List ℕ)) → CutsAsciiWord text (Some x) rest (λ gap w sep. gap ++ (w ++ (sep ++ rest))) → words text ≡ x.now ∷ words rest
first_cut text rest x h = ap words h.3.2 ∙ after_gap h.3.0 (x.now ++ (h.3.1 ++ rest)) h.3.3 ∙ at_word x.now h.3.1 rest h.0 (free_word x.now h.1) h.3.4

pub none_cut : (text rest : List ℕ) → CutsAsciiWord text None rest (λ gap w sep. gap ++ (w ++ (sep ++ rest))) → words text ≡ []
none_cut text rest h = ap words (sym (append-nil text)) ∙ after_gap text [] h.0

-- one word more among those cut off
pub texts_more : (xs : List (Bor (List ℕ))) (x : Bor (List ℕ)) → texts (xs ++ x ∷ []) ≡ texts xs ++ x.now ∷ []
texts_more xs x = map-append (λ w. w.now) xs (x ∷ [])

-- a word that is cut off is the next of the line
pub cut_more : (line : List (List ℕ)) (xs : List (Bor (List ℕ))) (x : Bor (List ℕ)) (s t : SplitAscii) → line ≡ texts xs ++ words_left s → split_ascii_whitespace_steps s (Some x) t → line ≡ texts (xs ++ x ∷ []) ++ words_left t
cut_more line xs x s t so step = so ∙ ap (λ l. texts xs ++ l) (first_cut _ _ x step)
    ∙ sym (ap (λ l. l ++ words_left t) (texts_more xs x) ∙ append_assoc (texts xs) (x.now ∷ []) (words_left t))

pub cut_all : (line : List (List ℕ)) (xs : List (Bor (List ℕ))) (s t : SplitAscii) → line ≡ texts xs ++ words_left s → split_ascii_whitespace_steps s None t → line ≡ texts xs
cut_all line xs s t so step = so ∙ ap (λ l. texts xs ++ l) (none_cut _ _ step) ∙ append-nil (texts xs)

-- the words so far in one text: a blank stands before the next where the text has begun
pub joined_more : (ws : List (List ℕ)) (w text before : List ℕ) → text ≡ in_one ws → (length text ≡ 0 → ws ≡ []) → ((0 < length text) × (before ≡ text ++ codes " ")) ⊎ ((length text ≡ 0) × (before ≡ text)) → before ++ w ≡ in_one (ws ++ w ∷ [])
joined_more [] w text before is begun (inl more) = absurd (omega (arith, more.0, ap length is))
joined_more [] w text before is begun (inr none) = ap (λ l. l ++ w) (none.1 ∙ is) ∙ sym (append-nil w)
joined_more (v ∷ ws) w text before is begun (inr none) = absurd (omega (arith, ap length (begun none.0)))
joined_more (v ∷ ws) w text before is begun (inl more) =
    ap (λ l. l ++ w) (more.1 ∙ ap (λ l. l ++ codes " ") is) ∙ append_assoc (in_one (v ∷ ws)) (codes " ") w ∙ append_assoc v (flat_map (λ x. codes " " ++ x) ws) (codes " " ++ w)
    ∙ sym (ap (λ l. v ++ l) (flat_map-append (λ x. codes " " ++ x) ws (w ∷ []) ∙ ap (λ l. flat_map (λ x. codes " " ++ x) ws ++ l) (append-nil (codes " " ++ w))))
