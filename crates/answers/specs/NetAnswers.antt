-- What is answered about a net, and how it is written.
use Rattle.std.specs.Prelude.{◌≡◌, ℕ, List, ◌++◌, ℤ, IfOk, Some, None, Ok, Err, codes, Option, Result}
use Rattle.std.specs.Option.{unwrap_or}
use Rattle.errors.specs.Denials.{denial_text, DeniesFirst}
use Rattle.errors.specs.declared.denial.Denial.{Denial}
use Rattle.atn_graph.specs.Tables.{Rows}
use Rattle.atn_graph.specs.Written.{WritesNet}
use Rattle.atn.specs.declared.atn.Atn.{Atn}
use Rattle.atn.specs.Checked.{net_of, NetFault}
use Rattle.script.specs.Contents.{Content, row_counts}
use Rattle.answers.specs.declared.net_answers.NetAnswer.{NetAnswer}
use Rattle.answers.specs.declared.net_answers.Verdict.{Verdict}

-- a net that was made is accepted
abbrev pub verdict_of : Result Atn Denial → Verdict
verdict_of (Ok n) = record { 0 = Ok tt }
verdict_of (Err d) = record { 0 = Err d }

-- what is printed of a net that is accepted or denied
abbrev pub result_text : Result (Unit {0}) Denial → List ℕ
result_text (Ok u) = codes "net ok"
result_text (Err d) = codes "net " ++ denial_text d

abbrev pub verdict_text : Verdict → List ℕ
verdict_text v = result_text v.0

-- the tables that the script gives, with m as the largest token type
abbrev pub said_tables : Content → ℤ → Rows
said_tables k m = record { max = m; counts = unwrap_or k.counts (row_counts k); rules = k.rules; states = k.states; edges = k.edges; intervals = k.intervals }

-- The script has m as its largest token type, and its tables are answered with the first denial that fits them, or with
-- the net that they write.
pub record Checked (k : Content) (net : Result Atn Denial) : Type 0 where
  pub m : ℤ
  pub given : k.max ≡ Some m
  pub verdict : DeniesFirst (NetFault (said_tables k m)) net
  pub written : IfOk net (λ n. WritesNet (said_tables k m) (net_of n))

-- A script with a net line is answered, with a summary if it asks for one.
abbrev pub Answered : Content → Option NetAnswer → Type 0
Answered k None = k.max ≡ None
Answered k (Some a) = Checked k a.net × (a.summary ≡ k.summary)

-- the net that was checked, or why it was denied
abbrev pub checked_net : NetAnswer → Result Atn Denial
checked_net a = a.net
