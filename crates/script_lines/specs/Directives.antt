-- What a line says: the row, option or question that its first word gives with the words after it.
use Rattle.std.specs.Prelude.{◌≡◌, ◌⊎◌, ℕ, List, [], ◌∷◌, length, ℤ, pos, Some, None, Ok, Err, Option, Result, slice_index_or}
use Rattle.std.specs.String.{string_bytes}
use Rattle.script_lines.specs.declared.directives.Directive.{Directive}
use Rattle.script_lines.specs.declared.directives.Directive.TheVariants.{Net, Counts, Rule, State, Edge, Interval, Word, Lane, Leaves, Summary, Lookahead, Show, Asked}
use Rattle.script_lines.specs.declared.token_rows.TokenRow.{TokenRow}
use Rattle.script_lines.specs.declared.faults.LineFault.{LineFault}
use Rattle.script_lines.specs.declared.faults.LineFault.TheVariants.{UnknownWord, Call, WrongForm, TooLarge, Memory}
use Rattle.script_lines.specs.declared.keywords.Keyword.{Keyword}
use Rattle.script_lines.specs.declared.keywords.Keyword.TheVariants as keyword
use Rattle.script_lines.specs.declared.questions.Ask.{Ask}
use Rattle.script_lines.specs.declared.questions.Question.{Question}
use Rattle.script_lines.specs.Numbers.{OneIsTooLarge, StandFor}
use Rattle.script_lines.specs.Questions.{ask_word, IsAskedWith}
use Rattle.script_lines.specs.Words.{IsCallWord, IsSpelt, SaysNothing, in_one, lookahead_spelling, show_spelling, spelling}

-- the word that the directive's line begins with
abbrev pub keyword_of : Directive → Keyword
keyword_of (Net n) = keyword.Net
keyword_of (Counts n) = keyword.Counts
keyword_of (Rule r) = keyword.Rule
keyword_of (State s) = keyword.State
keyword_of (Edge e) = keyword.Edge
keyword_of (Interval i) = keyword.Interval
keyword_of (Word w) = keyword.Word
keyword_of (Lane l) = keyword.Lane
keyword_of (Leaves n) = keyword.Leaves
keyword_of Summary = keyword.Summary
keyword_of (Lookahead l) = keyword.Lookahead
keyword_of (Show s) = keyword.Show
keyword_of (Asked q) = ask_word q.ask

-- how many numbers follow the word of a row or of an option with numbers
abbrev pub numbers_after : Keyword → Option ℕ
numbers_after keyword.Net = Some 1
numbers_after keyword.Counts = Some 4
numbers_after keyword.Rule = Some 2
numbers_after keyword.State = Some 3
numbers_after keyword.Edge = Some 4
numbers_after keyword.Interval = Some 2
numbers_after keyword.Word = Some 6
numbers_after keyword.Lane = Some 4
numbers_after keyword.Leaves = Some 1
numbers_after keyword.Summary = Some 0
numbers_after k = None

-- how many numbers follow the word of a row or of a question where the line is a call of the parser
abbrev pub call_numbers : Keyword → Option ℕ
call_numbers keyword.State = Some 1
call_numbers keyword.Expected = Some 0
call_numbers keyword.Recovery = Some 0
call_numbers k = None

-- number i of the line, from 0
abbrev pub number : List ℤ → ℕ → ℤ
number ns i = slice_index_or ns i (pos 0)

-- the numbers that rows of both kinds of token begin with
abbrev pub HoldsToken : {S : Type 0} → List ℤ → TokenRow S → Type 0
HoldsToken ns t = (t.token_type ≡ number ns 0) × (t.channel ≡ number ns 1) × (t.line ≡ number ns 2) × (t.column ≡ number ns 3)

-- what the directive holds is the line's numbers, in their order
abbrev pub Holds : List ℤ → Directive → Type 0
Holds ns (Net n) = n ≡ number ns 0
Holds ns (Counts n) = (n.rules ≡ number ns 0) × (n.states ≡ number ns 1) × (n.edges ≡ number ns 2) × (n.intervals ≡ number ns 3)
Holds ns (Rule r) = (r.start ≡ number ns 0) × (r.stop ≡ number ns 1)
Holds ns (State s) = (s.rule ≡ number ns 0) × (s.kind ≡ number ns 1) × (s.edges ≡ number ns 2)
Holds ns (Edge e) = (e.kind ≡ number ns 0) × (e.target ≡ number ns 1) × (e.a ≡ number ns 2) × (e.b ≡ number ns 3)
Holds ns (Interval i) = (i.a ≡ number ns 0) × (i.b ≡ number ns 1)
Holds ns (Word w) = HoldsToken ns w × (w.span.start ≡ number ns 4) × (w.span.stop ≡ number ns 5)
Holds ns (Lane l) = HoldsToken ns l
Holds ns (Leaves n) = n ≡ number ns 0
Holds ns Summary = Unit {0}
Holds ns d = ⊥

-- The word's row or option with these numbers; none where their number is wrong.
abbrev pub Formed : Keyword → List ℤ → Option Directive → Type 0
Formed k ns (Some d) = (keyword_of d ≡ k) × (Some (length ns) ≡ numbers_after k) × Holds ns d
Formed k ns None = Some (length ns) ≡ numbers_after k → ⊥

-- The words after the first give the row or option its numbers.
pub record IsRowOf (ws : List (List ℕ)) (d : Directive) : Type 0 where
  pub numbers : List ℤ
  pub stand : StandFor ws numbers
  pub many : Some (length numbers) ≡ numbers_after (keyword_of d)
  pub held : Holds numbers d

-- The question is asked by the words after the first, and it keeps the words of its line.
pub record IsAskedBy (w : List ℕ) (ws : List (List ℕ)) (q : Question) : Type 0 where
  pub numbers : List ℤ
  pub stand : StandFor ws numbers
  pub asked : IsAskedWith q.ask numbers
  pub words : string_bytes q.words ≡ in_one (w ∷ ws)

-- the words after the first are not the numbers that k takes
abbrev pub IsNoRow : Keyword → List (List ℕ) → Type 0
IsNoRow k ws = (ns : List ℤ) → StandFor ws ns → Some (length ns) ≡ numbers_after k → ⊥

-- no question that begins with k is asked by the words after the first
abbrev pub IsNoQuestion : Keyword → List (List ℕ) → Type 0
IsNoQuestion k ws = (a : Ask) → ask_word a ≡ k → (ns : List ℤ) → StandFor ws ns → IsAskedWith a ns → ⊥

-- what the words after the first, w, give the directive
abbrev pub Follows : List ℕ → List (List ℕ) → Directive → Type 0
Follows w ws (Lookahead l) = ws ≡ lookahead_spelling l ∷ []
Follows w ws (Show s) = ws ≡ show_spelling s ∷ []
Follows w ws (Asked q) = IsAskedBy w ws q
Follows w ws d = IsRowOf ws d

-- The words say the directive.
pub record Says (w : List ℕ) (ws : List (List ℕ)) (d : Directive) : Type 0 where
  pub first : w ≡ spelling (keyword_of d)
  pub follows : Follows w ws d

-- The words are a call of the parser that begins with k's word.
pub record IsCallOf (k : Keyword) (ws : List (List ℕ)) : Type 0 where
  pub numbers : List ℤ
  pub stand : StandFor ws numbers
  pub many : Some (length numbers) ≡ call_numbers k

-- what the fault says of the line's first word, w, and of those after it
abbrev pub NamesWord : List ℕ → List (List ℕ) → LineFault → Type 0
NamesWord w ws UnknownWord = IsSpelt spelling w None × (IsCallWord w → ⊥)
NamesWord w ws Call = IsCallWord w ⊎ ((k : Keyword) × (w ≡ spelling k) × IsCallOf k ws)
NamesWord w ws (WrongForm k) = (w ≡ spelling k) × (IsCallOf k ws → ⊥)
NamesWord w ws TooLarge = (k : Keyword) × (w ≡ spelling k) × OneIsTooLarge ws
NamesWord w ws Memory = (k : Keyword) × (w ≡ spelling k)

-- The words are read as a directive that they say. They are refused only if they say none, or if memory runs out.
abbrev pub WordsRead : List ℕ → List (List ℕ) → Result Directive LineFault → Type 0
WordsRead w ws (Ok d) = Says w ws d
WordsRead w ws (Err f) = NamesWord w ws f × ((f ≡ Memory) ⊎ ((d : Directive) → Says w ws d → ⊥))

-- A line that says nothing is read as nothing, and any other as its words say.
abbrev pub LineRead : List (List ℕ) → Result (Option Directive) LineFault → Type 0
LineRead ws (Ok None) = SaysNothing ws
LineRead [] r = ⊥
LineRead (w ∷ ws) (Ok (Some d)) = (SaysNothing (w ∷ ws) → ⊥) × WordsRead w ws (Ok d)
LineRead (w ∷ ws) (Err f) = (SaysNothing (w ∷ ws) → ⊥) × WordsRead w ws (Err f)
