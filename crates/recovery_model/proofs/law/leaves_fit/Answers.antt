use Rattle.recovery_model.proofs.LeafLimits.{shown_fit, missing_symbol_fits}
use Rattle.recovery_model.proofs.law.leaves_fit.Goals as goal

pub returns : goal.returns
returns c = record { shown_leaves = shown_fit; missing_symbols = missing_symbol_fits }
