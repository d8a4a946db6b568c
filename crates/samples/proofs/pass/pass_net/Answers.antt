use Rattle.samples.proofs.PassAccepted.{pass_no_fault, net_is}
use Rattle.samples.proofs.PassNet.{pass_sets}
use Rattle.samples.proofs.pass.pass_net.Goals as goal

pub returns-clause-accepted : goal.returns-clause-accepted
returns-clause-accepted c = c.check.ensures.verdict.none pass_no_fault

pub returns-clause-net : goal.returns-clause-net
returns-clause-net c = net_is c.check.result c.check.ensures.written

pub returns-clause-sets : goal.returns-clause-sets
returns-clause-sets c = pass_sets
