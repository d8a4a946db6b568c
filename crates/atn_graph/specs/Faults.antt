-- Which denials fit the tables of a net, left recursion apart.
use Rattle.std.specs.Prelude.{◌≡◌, true}
use Rattle.errors.specs.declared.denial.Denial.{Denial}
use Rattle.errors.specs.declared.denial.Denial.TheVariants.{ShortTable, OutsideLimits, BrokenRule}
use Rattle.atn_graph.specs.Tables.{Rows, short_table, outside_limits}
use Rattle.atn_graph.specs.Net.{Net}
use Rattle.atn_graph.specs.Written.{WritesNet}
use Rattle.atn_graph.specs.Rules.{IsSoundNet}

-- A rule is broken if the tables write no net that keeps the rules.
abbrev pub TableFault : Rows → Denial → Type 0
TableFault t ShortTable = short_table t ≡ true
TableFault t OutsideLimits = outside_limits t ≡ true
TableFault t BrokenRule = (n : Net) → WritesNet t n → IsSoundNet n → ⊥
TableFault t _ = ⊥
