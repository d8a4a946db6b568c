-- What the questions of a script are answered.
use Rattle.std.specs.Prelude.{◌≡◌, ℕ, ◌-◌, List, [], ◌∷◌, ℤ, Result, IfOk}
use Rattle.errors.specs.declared.denial.Denial.{Denial}
use Rattle.errors.specs.Denials.{DeniesFirst}
use Rattle.interval_set.specs.declared.set.IntervalSet.{IntervalSet}
use Rattle.atn_graph.specs.Net.{Net}
use Rattle.ll1_analyzer.specs.Answers.{HoldsExactly}
use Rattle.ll1_analyzer.specs.Chains.{follow_states, StateFault, ChainFault, QuestionFault}
use Rattle.ll1_analyzer.specs.Sets.{Within as WithinRule, InContext as InContextSet, Expected as ExpectedSet, Recovery as RecoverySet}
use Rattle.script_lines.specs.declared.questions.Ask.{Ask}
use Rattle.script_lines.specs.declared.questions.Ask.TheVariants.{Within, InContext, Expected, Recovery, Tokens, Leaf, Picture}
use Rattle.script_lines.specs.declared.questions.Question.{Question}
use Rattle.answers.specs.declared.replies.Reply.{Reply}
use Rattle.answers.specs.declared.replies.Reply.TheVariants.{Set, Tokens as TokenList, Leaf as LeafReply, Picture as PictureReply}
use Rattle.token.specs.Tokens.{Fields}
use Rattle.answers.specs.Leaves.{LeafAnswer}

-- A question about a set is denied with the first denial that fits, and else answered with a set that holds exactly what P
-- tells of.
pub record Answers (fault : Denial → Type 0) (P : ℤ → Type 0) (r : Result IntervalSet Denial) : Type 0 where
  pub verdict : DeniesFirst fault r
  pub set : IfOk r (λ s. HoldsExactly s P)

-- the set that is asked for, or why it is denied
abbrev pub SetAnswer : Net → Ask → Result IntervalSet Denial → Type 0
SetAnswer n (Within s) = Answers (StateFault n s) (WithinRule n s)
SetAnswer n (InContext s chain) = Answers (QuestionFault n s chain.items) (InContextSet n s (follow_states n chain.items))
SetAnswer n (Expected s chain) = Answers (QuestionFault n s chain.items) (ExpectedSet n s (follow_states n chain.items))
SetAnswer n (Recovery chain) = Answers (ChainFault n chain.items) (RecoverySet n (follow_states n chain.items))
SetAnswer n a = λ r. ⊥

-- A question about the net is answered by its set, one for the tokens by those that are shown, a leaf by what the leaf
-- lists do with it, one for the picture by the picture.
abbrev pub Answer : Net → List Fields → ℕ → Ask → Reply → Type 0
Answer n shown room a (Set r) = SetAnswer n a r
Answer n shown room Tokens (TokenList v) = v.items ≡ shown
Answer n shown room a (TokenList v) = ⊥
Answer n shown room (Leaf l) (LeafReply r) = LeafAnswer room l r
Answer n shown room a (LeafReply r) = ⊥
Answer n shown room Picture PictureReply = Unit {0}
Answer n shown room a PictureReply = ⊥

-- how many leaves there is room for after a question, and after several
abbrev pub room_after : Ask → ℕ → ℕ
room_after (Leaf l) room = room - 1
room_after a room = room

abbrev pub room_left : List Question → ℕ → ℕ
room_left [] room = room
room_left (q ∷ qs) room = room_left qs (room_after q.ask room)

-- one answer for each question, in their order, where so many leaves have room
abbrev pub EachAnswered : Net → List Fields → ℕ → List Question → List Reply → Type 0
EachAnswered n shown room [] [] = Unit {0}
EachAnswered n shown room (q ∷ qs) (r ∷ rs) = Answer n shown room q.ask r × EachAnswered n shown (room_after q.ask room) qs rs
EachAnswered n shown room qs rs = ⊥
