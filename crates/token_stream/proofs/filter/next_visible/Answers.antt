use Rattle.std.proofs.Common.{arith}
use Rattle.std.proofs.lemmas.Grind.{common_steps}
use Rattle.token_stream.proofs.Shown.{few_shown}
use Rattle.token_stream.proofs.filter.next_visible.Goals as goal

pub overflow_add-j : goal.overflow_add-j
overflow_add-j g c =
    let below = c.args.below.now in
    record { fits = omega (arith, c.requires, few_shown (g.S.IntStream.tape below) (g.S.IntStream.shown below) (g.S.IntStream.lawful below)) }

pub overflow_add-j-in-loop-j : goal.overflow_add-j-in-loop-j
overflow_add-j-in-loop-j g c =
    let below = c.args.below.now in
    let few = few_shown (g.S.IntStream.tape below) (g.S.IntStream.shown below) (g.S.IntStream.lawful below) in
    grind (arith, common_steps, few)
