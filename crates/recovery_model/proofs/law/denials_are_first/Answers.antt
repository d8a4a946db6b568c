use Rattle.recovery_model.proofs.Judging.{denied_with_first, denied_leaves_all}
use Rattle.recovery_model.proofs.law.denials_are_first.Goals as goal

pub returns : goal.returns
returns c = record { first = denied_with_first; leave_all = denied_leaves_all }
