-- The words of a line, and what each is the spelling of.
use Rattle.std.specs.Prelude.{◌≡◌, ◌≢◌, ◌⊎◌, ℕ, List, [], ◌∷◌, length, nat_lt, Some, None, Option, Result, IfErr, codes, slice_index}
use Rattle.std.specs.Char.{is_ascii_whitespace}
use Rattle.std.specs.List.{filter, join_by, slice_split}
use Rattle.std.specs.Result.{result_ok}
use Rattle.std.specs.Str.Iter.{split_ascii_whitespace_text}
use Rattle.std.specs.declared.str.SplitAsciiWhitespace.{SplitAscii}
use Rattle.script_lines.specs.declared.keywords.Keyword.{Keyword}
use Rattle.script_lines.specs.declared.keywords.Keyword.TheVariants as keyword
use Rattle.script_lines.specs.declared.options.LookaheadKind.{LookaheadKind}
use Rattle.script_lines.specs.declared.options.LookaheadKind.TheVariants.{Walker, Table, Cache}
use Rattle.script_lines.specs.declared.options.Show.{Show}
use Rattle.script_lines.specs.declared.options.Show.TheVariants.{All, Channel0}

-- the words of a line: what stands between its ASCII white space, where that is not empty
abbrev pub words : List ℕ → List (List ℕ)
words line = filter (λ w. nat_lt 0 (length w)) (slice_split is_ascii_whitespace line)

-- the words that are still to be cut off a line
abbrev pub words_left : SplitAscii → List (List ℕ)
words_left s = words (split_ascii_whitespace_text s)

-- the words with one blank between two
abbrev pub in_one : List (List ℕ) → List ℕ
in_one = join_by (λ w. w) (codes " ")

-- no word stands on a blank line, and a comment's first begins with '#'
abbrev pub SaysNothing : List (List ℕ) → Type 0
SaysNothing [] = Unit {0}
SaysNothing (w ∷ ws) = slice_index w 0 ≡ 35

-- the word as it is written
abbrev pub spelling : Keyword → List ℕ
spelling keyword.Net = codes "net"
spelling keyword.Counts = codes "counts"
spelling keyword.Rule = codes "rule"
spelling keyword.State = codes "state"
spelling keyword.Edge = codes "edge"
spelling keyword.Interval = codes "interval"
spelling keyword.Word = codes "word"
spelling keyword.Lane = codes "lane"
spelling keyword.Leaves = codes "leaves"
spelling keyword.Summary = codes "summary"
spelling keyword.Lookahead = codes "lookahead"
spelling keyword.Show = codes "show"
spelling keyword.Within = codes "within"
spelling keyword.InContext = codes "in-context"
spelling keyword.Expected = codes "expected"
spelling keyword.Recovery = codes "recovery"
spelling keyword.Tokens = codes "tokens"
spelling keyword.Leaf = codes "leaf"
spelling keyword.Picture = codes "picture"

-- the words that only calls of the parser begin with
abbrev pub IsCallWord : List ℕ → Type 0
IsCallWord w = (w ≡ codes "enter") ⊎ (w ≡ codes "leave") ⊎ (w ≡ codes "match") ⊎ (w ≡ codes "wildcard") ⊎ (w ≡ codes "sync") ⊎ (w ≡ codes "report") ⊎ (w ≡ codes "recover")

-- the lookahead's name as it is written
abbrev pub lookahead_spelling : LookaheadKind → List ℕ
lookahead_spelling Walker = codes "walker"
lookahead_spelling Table = codes "table"
lookahead_spelling Cache = codes "cache"

-- the choice of the tokens shown, as it is written
abbrev pub show_spelling : Show → List ℕ
show_spelling All = codes "all"
show_spelling Channel0 = codes "channel0"

-- the word is x as it is spelt, or the spelling of none
abbrev pub IsSpelt : {X : Type 0} → (X → List ℕ) → List ℕ → Option X → Type 0
IsSpelt spelling w (Some x) = w ≡ spelling x
IsSpelt {X} spelling w None = (x : X) → w ≢ spelling x

-- The word is read as what it is the spelling of; the spelling of none is refused with the fault.
abbrev pub IsRead : {X E : Type 0} → (X → List ℕ) → E → List ℕ → Result X E → Type 0
IsRead spelling fault w r = IsSpelt spelling w (result_ok r) × IfErr r (λ f. f ≡ fault)
