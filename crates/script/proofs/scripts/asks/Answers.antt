use Rattle.std.specs.Prelude.{codes}
use Rattle.std.specs.Borrow.{Bor}
use Rattle.std.specs.Str.Iter.{CutsAsciiWord}
use Rattle.std.proofs.Common.{◌≡◌, ◌∙◌, ◌++◌, ℕ, List, [], ◌∷◌, Some, true, ap, refl, sym}
use Rattle.script_lines.specs.declared.keywords.Keyword.{Keyword}
use Rattle.script_lines.specs.declared.keywords.Keyword.TheVariants as keyword
use Rattle.script_lines.specs.Questions.{asks}
use Rattle.script_lines.specs.Words.{spelling, words}
use Rattle.script_lines.proofs.Words.{first_cut, none_cut}
use Rattle.script.specs.Taking.{AsksFirst}
use Rattle.script.proofs.scripts.asks.Goals as goal

-- the line's first word is x
module _ (line text rest : List ℕ) (x : Bor (List ℕ)) (whole : text ≡ line) (off : CutsAsciiWord text (Some x) rest (λ gap w sep. gap ++ (w ++ (sep ++ rest)))) where
  cut : words line ≡ x.now ∷ words rest
  cut = ap words (sym whole) ∙ first_cut text rest x off

  asks_first : (k : Keyword) → asks k ≡ true → x.now ≡ spelling k → AsksFirst (words line)
  asks_first k asked is = record { keyword = k; rest = words rest; spelt = cut ∙ ap (λ w. w ∷ words rest) is; asks = asked }

  spelt : (a : AsksFirst (words line)) → x.now ≡ spelling a.keyword
  spelt a =
      let both : x.now ∷ words rest ≡ spelling a.keyword ∷ a.rest = sym cut ∙ a.spelt in
      cc

none_of_seven : (w : List ℕ) (k : Keyword) → asks k ≡ true → w ≡ spelling k → (w ≡ codes "within" → ⊥) → (w ≡ codes "in-context" → ⊥) → (w ≡ codes "expected" → ⊥) → (w ≡ codes "recovery" → ⊥) → (w ≡ codes "tokens" → ⊥) → (w ≡ codes "leaf" → ⊥) → (w ≡ codes "picture" → ⊥) → ⊥
none_of_seven w keyword.Net asked is within text expected recovery tokens leaf picture = absurd (cc)
none_of_seven w keyword.Counts asked is within text expected recovery tokens leaf picture = absurd (cc)
none_of_seven w keyword.Rule asked is within text expected recovery tokens leaf picture = absurd (cc)
none_of_seven w keyword.State asked is within text expected recovery tokens leaf picture = absurd (cc)
none_of_seven w keyword.Edge asked is within text expected recovery tokens leaf picture = absurd (cc)
none_of_seven w keyword.Interval asked is within text expected recovery tokens leaf picture = absurd (cc)
none_of_seven w keyword.Word asked is within text expected recovery tokens leaf picture = absurd (cc)
none_of_seven w keyword.Lane asked is within text expected recovery tokens leaf picture = absurd (cc)
none_of_seven w keyword.Leaves asked is within text expected recovery tokens leaf picture = absurd (cc)
none_of_seven w keyword.Summary asked is within text expected recovery tokens leaf picture = absurd (cc)
none_of_seven w keyword.Lookahead asked is within text expected recovery tokens leaf picture = absurd (cc)
none_of_seven w keyword.Show asked is within text expected recovery tokens leaf picture = absurd (cc)
none_of_seven w keyword.Within asked is within text expected recovery tokens leaf picture = within is
none_of_seven w keyword.InContext asked is within text expected recovery tokens leaf picture = text is
none_of_seven w keyword.Expected asked is within text expected recovery tokens leaf picture = expected is
none_of_seven w keyword.Recovery asked is within text expected recovery tokens leaf picture = recovery is
none_of_seven w keyword.Tokens asked is within text expected recovery tokens leaf picture = tokens is
none_of_seven w keyword.Leaf asked is within text expected recovery tokens leaf picture = leaf is
none_of_seven w keyword.Picture asked is within text expected recovery tokens leaf picture = picture is

pub returns-in_default-clause-asks_not : goal.returns-in_default-clause-asks_not
returns-in_default-clause-asks_not c no_word a =
    let none : words c.args.line.now ≡ [] = ap words (sym c.split_ascii_whitespace.ensures.text) ∙ none_cut _ _ c.in_default.ensures.steps in
    let first : [] ≡ spelling a.keyword ∷ a.rest = sym none ∙ a.spelt in
    cc

pub returns-in_default-matches-clause-asks_not : goal.returns-in_default-matches-clause-asks_not
returns-in_default-matches-clause-asks_not c other a =
    let not = c.in_default-matches in
    none_of_seven c.in-Some.first.now a.keyword a.asks (spelt _ _ _ c.in-Some.first c.split_ascii_whitespace.ensures.text c.in-Some.ensures.steps a) not.not-within not.not-text not.not-expected not.not-recovery not.not-tokens not.not-leaf not.not-picture

pub returns-in-within-clause-asks : goal.returns-in-within-clause-asks
returns-in-within-clause-asks c asked = asks_first _ _ _ c.in-Some.first c.split_ascii_whitespace.ensures.text c.in-Some.ensures.steps keyword.Within refl c.in-within.is-within

pub returns-in-within-2-clause-asks : goal.returns-in-within-2-clause-asks
returns-in-within-2-clause-asks c asked = asks_first _ _ _ c.in-Some.first c.split_ascii_whitespace.ensures.text c.in-Some.ensures.steps keyword.InContext refl c.in-within.is-text

pub returns-in-within-3-clause-asks : goal.returns-in-within-3-clause-asks
returns-in-within-3-clause-asks c asked = asks_first _ _ _ c.in-Some.first c.split_ascii_whitespace.ensures.text c.in-Some.ensures.steps keyword.Expected refl c.in-within.is-expected

pub returns-in-within-4-clause-asks : goal.returns-in-within-4-clause-asks
returns-in-within-4-clause-asks c asked = asks_first _ _ _ c.in-Some.first c.split_ascii_whitespace.ensures.text c.in-Some.ensures.steps keyword.Recovery refl c.in-within.is-recovery

pub returns-in-within-5-clause-asks : goal.returns-in-within-5-clause-asks
returns-in-within-5-clause-asks c asked = asks_first _ _ _ c.in-Some.first c.split_ascii_whitespace.ensures.text c.in-Some.ensures.steps keyword.Tokens refl c.in-within.is-tokens

pub returns-in-within-6-clause-asks : goal.returns-in-within-6-clause-asks
returns-in-within-6-clause-asks c asked = asks_first _ _ _ c.in-Some.first c.split_ascii_whitespace.ensures.text c.in-Some.ensures.steps keyword.Leaf refl c.in-within.is-leaf

pub returns-in-within-7-clause-asks : goal.returns-in-within-7-clause-asks
returns-in-within-7-clause-asks c asked = asks_first _ _ _ c.in-Some.first c.split_ascii_whitespace.ensures.text c.in-Some.ensures.steps keyword.Picture refl c.in-within.is-picture
