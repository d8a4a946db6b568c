use Rattle.std.proofs.Common.{length}
use Rattle.ll1_analyzer.proofs.chain.+add_follow_states.Given as goal

-- fewer calls are left each time
abbrev pub decreases-add_follow_states : goal.decreases-add_follow_states
decreases-add_follow_states l = length l.calls.now
