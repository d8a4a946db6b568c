use Rattle.recovery_model.proofs.Existing.{sets_exist, sets_once}
use Rattle.recovery_model.proofs.law.sets_exist.Goals as goal

pub returns : goal.returns
returns c = record { exist = sets_exist; once = sets_once }
