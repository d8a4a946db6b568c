use Rattle.std.proofs.Common.{◌≡◌, take}
use Rattle.atn.specs.Checked.{net_of}
use Rattle.ll1_analyzer.specs.Answers.{KeepsNet}
use Rattle.answers.specs.Asking.{EachAnswered, room_left}
use Rattle.answers.specs.Leaves.{room}
use Rattle.answers.proofs.replies.answer_each.Given as goal

-- the questions so far are answered
abbrev pub invariant-loop-question : goal.invariant-loop-question
invariant-loop-question g l = record {
  keeps : KeepsNet g.L.Lookahead.atn g.L.Lookahead.agrees l.fn.l l.l;
  answered : g.L.Lookahead.agrees l.fn.l → EachAnswered (net_of (g.L.Lookahead.atn l.fn.l)) l.shown (room l.fn.lists.table) (take l.question-index l.questions) l.answers.items;
  left : room l.lists.table ≡ room_left (take l.question-index l.questions) (room l.fn.lists.table);
}
