use Rattle.std.proofs.Common.{arith, rules, ◌∙◌}
use Rattle.std.proofs.lemmas.Grind.{common_steps}
use Rattle.token_stream.proofs.Looking.{found_count, found_eof, eof_at}
use Rattle.token_stream.proofs.filter.look_on.Goals as goal
use Rattle.token_stream.proofs.filter.look_on.Goals.{in-Some, in-None}

pub loop-cursor-init : goal.loop-cursor-init
loop-cursor-init g c = elim c.match-seen.branch [
  | in-Some w ↦ let looked = c.requires.looked _ w.in-Some.is in let more = c.requires.more _ w.in-Some.is in search rules
  | in-None w ↦ grind (arith, common_steps)
]

pub returns-after-loop-cursor-clause-found : goal.returns-after-loop-cursor-clause-found
returns-after-loop-cursor-clause-found g c =
    found_count (g.S.IntStream.shown c.args.below.now) c.loop-cursor.cursor.count c.loop-cursor.cursor.ahead c.args.k c.loop-cursor.invariant.looked (omega arith)

pub returns-else-not-is_eof_at-clause-found : goal.returns-else-not-is_eof_at-clause-found
returns-else-not-is_eof_at-clause-found g c =
    let ts = g.S.IntStream.shown c.args.below.now in
    let so = c.loop-cursor.invariant in
    let eof = eof_at (g.S.IntStream.shown c.loop-cursor.below) ts c.loop-cursor.cursor.ahead _ c.is_eof_at.ensures.eof so.keeps.same_shown so.looked.positive so.looked.within in
    found_eof ts c.loop-cursor.cursor.count c.loop-cursor.cursor.ahead c.args.k (g.S.IntStream.lawful c.args.below.now).ends so.looked so.not_past (eof ∙ c.if-not-is_eof_at.false)
