-- Tables write at most one net, so the net that was read is the one that the verdict is about.
use Rattle.std.proofs.Common.{◌≡◌, true, false, length, get_or, take, sym, ap, ◌∙◌, subst, arith}
use Rattle.std.proofs.lemmas.List.{ext_get_or}
use Rattle.std.proofs.lemmas.Bool.{both_ways}
use Rattle.errors.specs.declared.denial.Denial.{Denial}
use Rattle.errors.specs.declared.denial.Denial.TheVariants.{ShortTable, OutsideLimits, BrokenRule}
use Rattle.errors.specs.Denials.{IsBefore, First}
use Rattle.atn_graph.specs.declared.lists.Rule.{Rule}
use Rattle.atn_graph.specs.Tables.{Rows, short_table, outside_limits}
use Rattle.atn_graph.specs.Net.{Net, size, no_rule, no_state, no_edge, rule_at, edge_at}
use Rattle.atn_graph.specs.Written.{WritesNet, rule_row, no_edge_row}
use Rattle.atn_graph.specs.Rules.{IsSoundNet}
use Rattle.atn_graph.specs.Faults.{TableFault}
use Rattle.atn_graph.proofs.ReadTables.{same_count}
use Rattle.atn_graph.proofs.Once.{index_of, states_once, edge_once}

rule_once : (x y : Rule) → rule_row x ≡ rule_row y → x ≡ y
rule_once x y e i = record { start = index_of (e i).start; stop = index_of (e i).stop }

-- tables write at most one net
pub net_once : (t : Rows) (n m : Net) → WritesNet t n → WritesNet t m → n ≡ m
net_once t n m w v i = record { max = max i; rules = rules i; states = states i; edges = edges i; intervals = intervals i }
  where
    max : n.max ≡ m.max
    max = w.max ∙ sym v.max

    rule_count : length n.rules ≡ length m.rules
    rule_count = same_count _ _ _ w.rule_count v.rule_count

    rules : n.rules ≡ m.rules
    rules = ext_get_or no_rule n.rules m.rules rule_count (λ r l. rule_once (rule_at n r) (rule_at m r) (w.rules r l ∙ sym (v.rules r (omega (arith, rule_count)))))

    state_count : size n ≡ size m
    state_count = same_count _ _ _ w.state_count v.state_count

    states : n.states ≡ m.states
    states = ext_get_or no_state n.states m.states state_count (states_once t.states (size n) n.states m.states w.states (λ s l. v.states s (omega (arith, state_count))))

    edge_count : length n.edges ≡ length m.edges
    edge_count = same_count _ _ _ w.edge_count v.edge_count

    edges : n.edges ≡ m.edges
    edges = ext_get_or no_edge n.edges m.edges edge_count (λ j l. edge_once (get_or t.edges j no_edge_row) (edge_at n j) (edge_at m j) (w.edges j l) (v.edges j (omega (arith, edge_count))))

    interval_count : length n.intervals ≡ length m.intervals
    interval_count = same_count _ _ _ w.interval_count v.interval_count

    intervals : n.intervals ≡ m.intervals
    intervals = w.intervals ∙ ap (λ k. take k t.intervals) interval_count ∙ sym v.intervals

-- the first denials, and none
pub first_short : (t : Rows) → short_table t ≡ true → First (TableFault t) ShortTable
first_short t e = record { fits = e; none_before = before }
  where
    before : (d : Denial) → IsBefore d ShortTable → TableFault t d → ⊥
    before ShortTable l f = omega arith
    before OutsideLimits l f = omega arith
    before BrokenRule l f = omega arith
    before _ l f = f

pub first_outside : (t : Rows) → short_table t ≡ false → outside_limits t ≡ true → First (TableFault t) OutsideLimits
first_outside t long e = record { fits = e; none_before = before }
  where
    before : (d : Denial) → IsBefore d OutsideLimits → TableFault t d → ⊥
    before ShortTable l f = both_ways _ long f
    before OutsideLimits l f = omega arith
    before BrokenRule l f = omega arith
    before _ l f = f

pub first_broken : (t : Rows) → short_table t ≡ false → outside_limits t ≡ false → ((n : Net) → WritesNet t n → IsSoundNet n → ⊥) → First (TableFault t) BrokenRule
first_broken t long within broken = record { fits = broken; none_before = before }
  where
    before : (d : Denial) → IsBefore d BrokenRule → TableFault t d → ⊥
    before ShortTable l f = both_ways _ long f
    before OutsideLimits l f = both_ways _ within f
    before BrokenRule l f = omega arith
    before _ l f = f

pub no_fault : (t : Rows) (n : Net) → short_table t ≡ false → outside_limits t ≡ false → WritesNet t n → IsSoundNet n → (d : Denial) → TableFault t d → ⊥
no_fault t n long within w s ShortTable f = both_ways _ long f
no_fault t n long within w s OutsideLimits f = both_ways _ within f
no_fault t n long within w s BrokenRule f = f n w s
no_fault t n long within w s _ f = f

-- the net that was read breaks a rule, so every net that the tables write does
pub broken_once : (t : Rows) (n : Net) → WritesNet t n → (IsSoundNet n → ⊥) → (m : Net) → WritesNet t m → IsSoundNet m → ⊥
broken_once t n w broken m v s = broken (subst IsSoundNet (net_once t m n v w) s)
