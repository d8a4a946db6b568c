-- What a script is answered.
use Rattle.std.specs.Prelude.{◌≡◌, ◌-◌, List, [], Some, None, Ok, Err, Option, Result}
use Rattle.std.specs.Global.{Vec}
use Rattle.errors.specs.declared.denial.Denial.{Denial}
use Rattle.atn.specs.declared.atn.Atn.{Atn}
use Rattle.atn.specs.Checked.{net_of}
use Rattle.atn_graph.specs.Net.{Net}
use Rattle.answers.specs.NetAnswers.{Answered, checked_net}
use Rattle.script.specs.Contents.{Content, leaf_places}
use Rattle.answers.specs.Asking.{EachAnswered, room_left}
use Rattle.answers.specs.Tapes.{NeededTape}
use Rattle.answers.specs.declared.script_answers.ScriptAnswer.{ScriptAnswer}
use Rattle.answers.specs.declared.script_answers.Replies.{Replies}
use Rattle.token.specs.Tokens.{Fields}

-- Each question of the script is answered where that is shown, and then so many leaves are added, and so many more have
-- room.
pub record AllReplied (n : Net) (shown : List Fields) (k : Content) (r : Replies) : Type 0 where
  pub answered : EachAnswered n shown (leaf_places k) k.questions r.replies.items
  pub free : r.free ≡ room_left k.questions (leaf_places k)
  pub added : r.added ≡ leaf_places k - r.free

-- The questions are answered, unless there is a tape and it is denied.
abbrev pub Replied : Net → Option (Result (Vec Fields) Denial) → Content → Option Replies → Type 0
Replied n None k (Some r) = AllReplied n [] k r
Replied n (Some (Ok v)) k (Some r) = AllReplied n v.items k r
Replied n (Some (Err d)) k None = Unit {0}
Replied n tape k r = ⊥

-- After a net that is denied nothing more is answered.
abbrev pub RestAnswered : Content → Result Atn Denial → Option (Result (Vec Fields) Denial) → Option Replies → Type 0
RestAnswered k (Ok n) tape replies = NeededTape k tape × Replied (net_of n) tape k replies
RestAnswered k (Err d) tape replies = (tape ≡ None) × (replies ≡ None)

-- A script with a net line is answered about its net, and so are its tape and its questions.
abbrev pub AllAnswered : Content → Option ScriptAnswer → Type 0
AllAnswered k None = Answered k None
AllAnswered k (Some a) = Answered k (Some a.about_net) × (a.questions.now ≡ k.questions) × RestAnswered k (checked_net a.about_net) a.tape a.replies
