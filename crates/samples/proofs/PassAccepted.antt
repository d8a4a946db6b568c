-- The check accepts the rows of the pass net, and answers the net that they write.
use Rattle.std.proofs.Common.{◌≡◌, Ok, Err, Result, IfOk, refl}
use Rattle.errors.specs.declared.denial.Denial.{Denial}
use Rattle.atn_graph.specs.Written.{WritesNet}
use Rattle.atn_graph.proofs.Verdict.{net_once, no_fault as no_table_fault}
use Rattle.atn.specs.declared.atn.Atn.{Atn}
use Rattle.atn.specs.Checked.{net_of, NetFault}
use Rattle.atn.proofs.Verdict.{no_fault}
use Rattle.samples.specs.Pass.{pass}
use Rattle.samples.proofs.PassKept.{pass_rows, pass_written, pass_sound}
use Rattle.samples.proofs.PassRecursion.{not_left_recursive}

pub pass_no_fault : (d : Denial) → NetFault pass_rows d → ⊥
pass_no_fault = no_fault pass_rows pass pass_written (no_table_fault pass_rows pass refl refl pass_written pass_sound) not_left_recursive

pub net_is : (r : Result Atn Denial) → IfOk r (λ a. WritesNet pass_rows (net_of a)) → IfOk r (λ a. net_of a ≡ pass)
net_is (Ok a) w = net_once pass_rows (net_of a) pass w pass_written
net_is (Err d) w = tt
