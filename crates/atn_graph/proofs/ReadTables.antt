-- The net in tables that were read row by row.
use Rattle.std.proofs.Common.{◌≡◌, ℕ, ◌<◌, List, length, get_or, take, ℤ, pos, false, sym, ap, ◌∙◌, subst, arith, w32, SFits, to_z, of_z}
use Rattle.std.specs.List.{Any, AllZip}
use lib.Signed.{lt_z}
use Rattle.std.proofs.lemmas.Bool.{or_parts}
use Rattle.std.proofs.lemmas.Int.{ints, to_z-of_z}
use Rattle.std.proofs.lemmas.List.{get_or-take, get_or_default}
use Rattle.std.proofs.lemmas.Slice.Zip.{AllZip-long}
use Rattle.interval_set.specs.declared.interval.Interval.{Interval}
use Rattle.atn_graph.specs.declared.tables.RuleRow.{RuleRow}
use Rattle.atn_graph.specs.declared.tables.StateRow.{StateRow}
use Rattle.atn_graph.specs.declared.tables.EdgeRow.{EdgeRow}
use Rattle.atn_graph.specs.declared.atn_state.AtnState.{AtnState}
use Rattle.atn_graph.specs.Tables.{Rows, shorter, short_table, outside, counts_outside, type_outside, outside_limits}
use Rattle.atn_graph.specs.Net.{Net, no_rule, no_state, no_edge, end_before}
use Rattle.atn_graph.specs.Written.{WritesNet, rule_row, no_rule_row, WritesState, no_state_row, WritesEdge, no_edge_row}
use Rattle.atn_graph.specs.Reading.{IsCount, FirstRows, StatesRead}
use Rattle.atn_graph.proofs.Rows.{at_place}

pub same_count : (a b : ℕ) (z : ℤ) → pos a ≡ z → pos b ≡ z → a ≡ b
same_count a b z p q = omega (arith, ints, p, q)

-- a count as the code holds it
pub cut_of : {R : Type 0} (count : ℤ) (table rows : List R) → SFits w32 count → FirstRows (to_z w32 (of_z w32 count)) table rows → FirstRows count table rows
cut_of count table rows f = subst (λ z. FirstRows z table rows) (to_z-of_z w32 count f)

-- a row that counts stands in the table
row_cut : {R : Type 0} (count : ℤ) (table rows : List R) → FirstRows count table rows → (k : ℕ) (r : R) → k < length rows → get_or rows k r ≡ get_or table k r
row_cut count table rows cut k r l = ap (λ xs. get_or xs k r) cut.1 ∙ get_or-take (length rows) table k r l

module _ {R X : Type 0} (P : R → X → Type 0) (count : ℤ) (table rows : List R) (cut : FirstRows count table rows) (xs : List X) (r : R) (x : X) where
  pub each_written : AllZip P rows xs → (k : ℕ) → k < length xs → P (get_or table k r) (get_or xs k x)
  each_written z k l =
      let m = AllZip-long P rows xs z in
      subst (λ y. P y (get_or xs k x)) (row_cut count table rows cut k r (omega (arith, m))) (at_place P rows xs z k r x l)

  -- a row that cannot be read is not written
  pub none_written : Any (λ y. (z : X) → P y z → ⊥) rows → pos (length xs) ≡ count → ((k : ℕ) → k < length xs → P (get_or table k r) (get_or xs k x)) → ⊥
  none_written broken m each =
      let k = broken.0 in
      let same = same_count (length xs) (length rows) count m cut.0 in
      let here = get_or_default rows k r broken.1 broken.2 ∙ broken.3 in
      broken.4 (get_or xs k x) (subst (λ y. P y (get_or xs k x)) (sym (row_cut count table rows cut k r broken.2) ∙ here) (each k (omega (arith, same, broken.2))))

pub states_cut : (count : ℤ) (table rows : List StateRow) → FirstRows count table rows → (ss : List AtnState) → length ss ≡ length rows
    → ((s : ℕ) → s < length ss → WritesState (get_or table s no_state_row) (end_before ss s) (get_or ss s no_state)) → StatesRead rows (length rows) ss
states_cut count table rows cut ss m each s l =
    subst (λ y. WritesState y (end_before ss s) (get_or ss s no_state)) (sym (row_cut count table rows cut s no_state_row l)) (each s (omega (arith, m)))

pub writes_lists : (t : Rows) (n : Net) (rules : List RuleRow) (states : List StateRow) (edges : List EdgeRow) (intervals : List Interval) → n.max ≡ t.max
    → FirstRows t.counts.rules t.rules rules → AllZip (λ row r. rule_row r ≡ row) rules n.rules
    → FirstRows t.counts.states t.states states → length n.states ≡ length states → StatesRead states (length states) n.states
    → FirstRows t.counts.edges t.edges edges → AllZip WritesEdge edges n.edges
    → FirstRows t.counts.intervals t.intervals intervals → n.intervals ≡ intervals → WritesNet t n
writes_lists t n rules states edges intervals m cr zr cs ls zs ce ze ci zi = record {
  max = m;
  rule_count = ap pos (AllZip-long (λ row r. rule_row r ≡ row) rules n.rules zr) ∙ cr.0;
  rules = each_written (λ row r. rule_row r ≡ row) t.counts.rules t.rules rules cr n.rules no_rule_row no_rule zr;
  state_count = ap pos ls ∙ cs.0;
  states = λ s h. let b : s < length states = omega (arith, ls) in
      subst (λ y. WritesState y (end_before n.states s) (get_or n.states s no_state)) (row_cut t.counts.states t.states states cs s no_state_row b) (zs s b);
  edge_count = ap pos (AllZip-long WritesEdge edges n.edges ze) ∙ ce.0;
  edges = each_written WritesEdge t.counts.edges t.edges edges ce n.edges no_edge_row no_edge ze;
  interval_count = ap (λ is. pos (length is)) zi ∙ ci.0;
  intervals = zi ∙ ci.1 ∙ ap (λ k. take k t.intervals) (sym (ap length zi));
}

-- tables that are long enough have as many rows as their counts say
pub record CountsThere (t : Rows) : Type 0 where
  pub rules : IsCount t.counts.rules t.rules
  pub states : IsCount t.counts.states t.states
  pub edges : IsCount t.counts.edges t.edges
  pub intervals : IsCount t.counts.intervals t.intervals

pub counts_there : (t : Rows) → short_table t ≡ false → outside_limits t ≡ false → CountsThere t
counts_there t long limits =
    let a = or_parts (shorter (length t.rules) t.counts.rules) _ long in
    let b = or_parts (shorter (length t.states) t.counts.states) _ a.1 in
    let d = or_parts (shorter (length t.edges) t.counts.edges) _ b.1 in
    let few = (or_parts (counts_outside t.counts) (type_outside t.max) limits).0 in
    let p = or_parts (outside 1 64 t.counts.rules) _ few in
    let q = or_parts (outside 2 512 t.counts.states) _ p.1 in
    let r = or_parts (outside 0 2048 t.counts.edges) _ q.1 in
    record {
      rules = there 1 64 t.counts.rules t.rules a.0 p.0;
      states = there 2 512 t.counts.states t.states b.0 q.0;
      edges = there 0 2048 t.counts.edges t.edges d.0 r.0;
      intervals = there 0 1024 t.counts.intervals t.intervals d.1 r.1;
    }
  where
    there : {R : Type 0} (low high : ℕ) (count : ℤ) (table : List R) → shorter (length table) count ≡ false → outside low high count ≡ false → IsCount count table
    there low high count table s o =
        let below = (or_parts (lt_z count (pos low)) _ o).0 in
        (omega (arith, ints, below), omega (arith, ints, s))
