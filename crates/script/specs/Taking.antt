-- What a directive, a line and a text do to what a script says.
use Rattle.std.specs.Prelude.{◌≡◌, ◌<◌, ◌⊎◌, ℕ, ◌+◌, true, List, [], ◌∷◌, ◌++◌, length, cond, fold, ◌==◌, Some, None, Ok, Err, Option, Result}
use Rattle.script_lines.specs.declared.directives.Directive.{Directive}
use Rattle.script_lines.specs.declared.directives.Directive.TheVariants.{Net, Counts as GivenCounts, Rule, State, Edge, Interval as GivenInterval, Word, Lane, Leaves, Summary, Lookahead, Show as GivenShow, Asked}
use Rattle.script_lines.specs.declared.faults.LineFault.{LineFault}
use Rattle.script_lines.specs.declared.faults.LineFault.TheVariants.{Call, Memory as OutOfMemory}
use Rattle.script_lines.specs.declared.keywords.Keyword.{Keyword}
use Rattle.script_lines.specs.Directives.{LineRead}
use Rattle.script_lines.specs.Questions.{asks}
use Rattle.script_lines.specs.Words.{spelling, words}
use Rattle.script.specs.declared.faults.Fault.{Fault}
use Rattle.script.specs.declared.faults.Fault.TheVariants.{Line, Memory, OtherKind, TooLate}
use Rattle.script.specs.Contents.{Content, nothing_said}
use Rattle.script.specs.Rows.{pushed, RefusedAt}

-- what the script says once the directive is taken in: a row goes to its own table, an option replaces an earlier one
abbrev pub taken_in : Directive → Content → Content
taken_in (Net n) k = record k { max = Some n }
taken_in (GivenCounts n) k = record k { counts = Some n }
taken_in (Rule r) k = record k { rules = pushed k.rules r }
taken_in (State r) k = record k { states = pushed k.states r }
taken_in (Edge r) k = record k { edges = pushed k.edges r }
taken_in (GivenInterval i) k = record k { intervals = pushed k.intervals i }
taken_in (Word w) k = record k { words = pushed k.words w }
taken_in (Lane l) k = record k { lanes = pushed k.lanes l }
taken_in (Leaves n) k = record k { leaves = Some n }
taken_in Summary k = record k { summary = true }
taken_in (Lookahead l) k = record k { lookahead = l }
taken_in (GivenShow s) k = record k { show = s }
taken_in (Asked q) k = record k { questions = pushed k.questions q }

-- how many rows the table has that the directive is for; an option is for none
abbrev pub rows_for : Directive → Content → Option ℕ
rows_for (Rule r) k = Some (length k.rules)
rows_for (State r) k = Some (length k.states)
rows_for (Edge r) k = Some (length k.edges)
rows_for (GivenInterval i) k = Some (length k.intervals)
rows_for (Word w) k = Some (length k.words)
rows_for (Lane l) k = Some (length k.lanes)
rows_for (Asked q) k = Some (length k.questions)
rows_for d k = None

-- how many tokens of the other kind the script has
abbrev pub other_tokens : Directive → Content → ℕ
other_tokens (Word w) k = length k.lanes
other_tokens (Lane l) k = length k.words
other_tokens d k = 0

-- The directive is taken in; or it is refused, as a token of the other kind or by its table, and then nothing changes.
abbrev pub Applied : Directive → Content → Result (Unit {0}) Fault → Content → Type 0
Applied d before (Ok u) after = (other_tokens d before ≡ 0) × (after ≡ taken_in d before)
Applied d before (Err f) after = (after ≡ before) × (((f ≡ OtherKind) × (0 < other_tokens d before)) ⊎ RefusedAt (rows_for d before) f)

-- The directive is a row or an option, and stands after a question.
abbrev pub IsLate : Directive → Content → Type 0
IsLate (Asked q) k = ⊥
IsLate d k = 0 < length k.questions

-- A directive that is late is refused, and nothing changes; any other does what it does.
pub record Taken (d : Directive) (k : Content) (r : Result (Unit {0}) Fault) (k' : Content) : Type 0 where
  pub late : IsLate d k → (r ≡ Err TooLate) × (k' ≡ k)
  pub in_time : (IsLate d k → ⊥) → Applied d k r k'

-- The first word is that of a question.
pub record AsksFirst (ws : List (List ℕ)) : Type 0 where
  pub keyword : Keyword
  pub rest : List (List ℕ)
  pub spelt : ws ≡ spelling keyword ∷ rest
  pub asks : asks keyword ≡ true

-- what a line that says no directive for a fault is refused for
abbrev pub own_fault : LineFault → Fault
own_fault OutOfMemory = Memory
own_fault f = Line f

-- and what after a question, where the line asks nothing: that it comes too late, but for a call of the parser and lack of memory
abbrev pub late_fault : LineFault → Fault
late_fault OutOfMemory = Memory
late_fault Call = Line Call
late_fault f = TooLate

-- The line says no directive for the fault f, and is refused for that, or for coming after a question: a question always for
-- that, and any other line after one for coming too late.
pub record Refused (ws : List (List ℕ)) (f : LineFault) (k : Content) (g : Fault) : Type 0 where
  pub fault : (g ≡ own_fault f) ⊎ ((g ≡ TooLate) × (0 < length k.questions))
  pub asked : AsksFirst ws → g ≡ own_fault f
  pub late : 0 < length k.questions → (AsksFirst ws → ⊥) → g ≡ late_fault f

-- what is done with what the words of a line were read as: nothing, where they say nothing; a line that says no directive is
-- refused, and nothing changes
abbrev pub Done : List (List ℕ) → Result (Option Directive) LineFault → Content → Result (Unit {0}) Fault → Content → Type 0
Done ws (Ok None) k r k' = (r ≡ Ok tt) × (k' ≡ k)
Done ws (Ok (Some d)) k r k' = Taken d k r k'
Done ws (Err f) k (Ok u) k' = ⊥
Done ws (Err f) k (Err g) k' = Refused ws f k g × (k' ≡ k)

-- A line of text, read and taken in.
pub record LineTaken (line : List ℕ) (k : Content) (r : Result (Unit {0}) Fault) (k' : Content) : Type 0 where
  pub said : Result (Option Directive) LineFault
  pub read : LineRead (words line) said
  pub done : Done (words line) said k r k'

-- The lines, taken one after the other into an empty script, give one that says k.
pub data Reads : List (List ℕ) → Content → Type 0 where
  none : Reads [] nothing_said
  more : {lines : List (List ℕ)} {line : List ℕ} {k k' : Content} → Reads lines k → LineTaken line k (Ok tt) k' → Reads (lines ++ line ∷ []) k'

-- how many newlines the text has
abbrev pub newlines : List ℕ → ℕ
newlines bs = fold (λ n c. n + cond (c == 10) 1 0) 0 bs
