-- The tables of a script are those that it gives.
use Rattle.std.proofs.Common.{◌≡◌, IfOk, Result, subst}
use Rattle.errors.specs.declared.denial.Denial.{Denial}
use Rattle.errors.specs.Denials.{DeniesFirst}
use Rattle.atn_graph.specs.declared.tables.Tables.{Tables}
use Rattle.atn_graph.specs.Tables.{rows}
use Rattle.atn_graph.specs.Written.{WritesNet}
use Rattle.atn.specs.declared.atn.Atn.{Atn}
use Rattle.atn.specs.Checked.{net_of, NetFault}
use Rattle.script.specs.Contents.{Content, ItsTables}
use Rattle.answers.specs.NetAnswers.{said_tables, Checked}

same_tables : (k : Content) (t : Tables) → ItsTables k t → rows t ≡ said_tables k t.max_token_type
same_tables k t w i = record { max = t.max_token_type; counts = w.counts i; rules = w.rules i; states = w.states i; edges = w.edges i; intervals = w.intervals i }

pub checked : (k : Content) (t : Tables) (net : Result Atn Denial) → ItsTables k t → DeniesFirst (NetFault (rows t)) net → IfOk net (λ n. WritesNet (rows t) (net_of n)) → Checked k net
checked k t net w verdict written = record {
  m = t.max_token_type;
  given = w.max;
  verdict = subst (λ r. DeniesFirst (NetFault r) net) (same_tables k t w) verdict;
  written = subst (λ r. IfOk net (λ n. WritesNet r (net_of n))) (same_tables k t w) written;
}
