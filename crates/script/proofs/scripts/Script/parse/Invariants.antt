use Rattle.std.proofs.Common.{◌≡◌, ◌+◌, ◌≤◌, length, map}
use Rattle.script.specs.Contents.{content}
use Rattle.script.specs.Taking.{Reads}
use Rattle.script.proofs.scripts.Script.parse.Given as goal

-- each line uses up one of those that may still come, and the lines so far are read
abbrev pub invariant-loop-before : goal.invariant-loop-before
invariant-loop-before l =
    (goal.iterator-loop-before).can_next l.before-iterator ×
    (goal.iterator-loop-before).is_finite l.before-iterator ×
    (length l.yielded + (goal.iterator-loop-before).remaining l.before-iterator ≤ (goal.iterator-loop-before).remaining l.initial.before-iterator) ×
    (l.before-iterator.count ≡ length l.yielded) ×
    Reads (map (λ x. x.1.now) l.yielded) (content l.script)
