use Rattle.std.proofs.Common.{◌≡◌, ◌∙◌, ◌+◌, ◌-◌, ap, subst, arith, rules}
use Rattle.atn.specs.Checked.{net_of}
use Rattle.script.specs.Contents.{content, leaf_places}
use Rattle.answers.specs.Asking.{EachAnswered, room_left}
use Rattle.answers.specs.Leaves.{needed_places, room}
use Rattle.answers.proofs.NeededRoom.{all_answered, all_left, left_falls, needed_few}
use Rattle.answers.proofs.script_answers.answer_where.Goals as goal

pub overflow_add-free : goal.overflow_add-free
overflow_add-free c =
    let k = content c.args.script.now in
    let made : room c.new-lists.result.table ≡ needed_places k = search rules in
    let left : c.free.result ≡ room_left k.questions (needed_places k) =
    c.free.ensures ∙ c.in_ok-replies.ensures.room ∙ ap (λ qs. room_left qs (room c.new-lists.result.table)) c.questions.ensures ∙ ap (room_left k.questions) made in
    omega (arith, left, left_falls k.questions (needed_places k), needed_few k, c.leaf_places-places.ensures, c.needed_places-needed.ensures)

pub returns : goal.returns
returns c =
    let k = content c.args.script.now in
    let n = net_of c.args.atn.now in
    let shown = c.args.shown.now in
    let rs = c.in_ok-replies.replies.items in
    let made : room c.new-lists.result.table ≡ needed_places k = search rules in
    let left : c.free.result ≡ room_left k.questions (needed_places k) =
    c.free.ensures ∙ c.in_ok-replies.ensures.room ∙ ap (λ qs. room_left qs (room c.new-lists.result.table)) c.questions.ensures ∙ ap (room_left k.questions) made in
    let free : c.free.result + (c.leaf_places-places.result - c.needed_places-needed.result) ≡ room_left k.questions (leaf_places k) =
    omega (arith, left, all_left k, c.leaf_places-places.ensures, c.needed_places-needed.ensures) in
    record {
      answered = all_answered k n shown rs (subst (λ x. EachAnswered n shown x k.questions rs) made (subst (λ qs. EachAnswered n shown (room c.new-lists.result.table) qs rs) c.questions.ensures c.in_ok-replies.ensures.answered));
      free = free;
      added = omega (arith, free, c.leaf_places-places.ensures);
    }
