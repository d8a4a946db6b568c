-- What a question asks, by its first word and its numbers.
use Rattle.std.specs.Prelude.{◌≡◌, ℕ, ◌-◌, ◌^◌, ◌<◌, List, length, [], ◌∷◌, map, ℤ, pos, negsuc, true, false, Bool, Option, Some, None, MatchOption}
use Rattle.script_lines.specs.declared.keywords.Keyword.{Keyword}
use Rattle.script_lines.specs.declared.keywords.Keyword.TheVariants as keyword
use Rattle.script_lines.specs.declared.questions.Ask.{Ask}
use Rattle.script_lines.specs.declared.questions.Ask.TheVariants.{Within, InContext, Expected, Recovery, Tokens, Leaf, Picture}
use Rattle.leaves.specs.declared.leaf.LeafKind.{LeafKind}
use Rattle.leaves.specs.Leaves.{leaf_number, LeafFits, LeafFields}
use Rattle.leaves.specs.LeafLines.{numbers}

-- the state that a number names; one below 0 names none
abbrev pub state_number : ℤ → ℕ
state_number (pos n) = n
state_number (negsuc n) = 2 ^ 64 - 1

abbrev pub state_numbers : List ℤ → List ℕ
state_numbers ns = map state_number ns

-- the word that a question begins with
abbrev pub ask_word : Ask → Keyword
ask_word (Within s) = keyword.Within
ask_word (InContext s chain) = keyword.InContext
ask_word (Expected s chain) = keyword.Expected
ask_word (Recovery chain) = keyword.Recovery
ask_word Tokens = keyword.Tokens
ask_word (Leaf l) = keyword.Leaf
ask_word Picture = keyword.Picture

-- The question is written with these numbers.
abbrev pub IsAskedWith : Ask → List ℤ → Type 0
IsAskedWith (Within s) ns = s ∷ [] ≡ state_numbers ns
IsAskedWith (InContext s chain) ns = s ∷ chain.items ≡ state_numbers ns
IsAskedWith (Expected s chain) ns = s ∷ chain.items ≡ state_numbers ns
IsAskedWith (Recovery chain) ns = (0 < length ns) × (chain.items ≡ state_numbers ns)
IsAskedWith Tokens ns = ns ≡ []
IsAskedWith Picture ns = ns ≡ []
IsAskedWith (Leaf l) ns = LeafFits l × (numbers l ≡ ns)

-- The word's question with these numbers; none where no question is so written.
abbrev pub Forms : Keyword → List ℤ → Option Ask → Type 0
Forms k ns (Some a) = (ask_word a ≡ k) × IsAskedWith a ns
Forms k ns None = (a : Ask) → ask_word a ≡ k → IsAskedWith a ns → ⊥

-- the kind of leaf with the number; none where no kind has it
abbrev pub KindRead : ℤ → Option LeafKind → Type 0
KindRead n r = MatchOption r ((k : LeafKind) → pos (leaf_number k) ≡ n → ⊥) (λ k. pos (leaf_number k) ≡ n)

-- the leaf with the numbers; none where no leaf within its limits has them
abbrev pub LeafRead : List ℤ → Option LeafFields → Type 0
LeafRead ns r = MatchOption r ((l : LeafFields) → LeafFits l → numbers l ≡ ns → ⊥) (λ l. LeafFits l × (numbers l ≡ ns))

-- a line with the word asks a question
abbrev pub asks : Keyword → Bool
asks keyword.Within = true
asks keyword.InContext = true
asks keyword.Expected = true
asks keyword.Recovery = true
asks keyword.Tokens = true
asks keyword.Leaf = true
asks keyword.Picture = true
asks k = false
