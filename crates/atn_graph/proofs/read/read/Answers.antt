use Rattle.std.proofs.Common.{◌≡◌, length, rules, w32}
use Rattle.std.proofs.lemmas.Int.{to_z-of_z}
use Rattle.std.proofs.lemmas.List.Elements.{same_from_all_zip}
use Rattle.atn_graph.specs.Tables.{rows}
use Rattle.atn_graph.specs.Net.{Net, no_rule, no_edge}
use Rattle.atn_graph.specs.Written.{WritesNet, rule_row, no_rule_row, WritesEdge, no_edge_row}
use Rattle.atn_graph.proofs.ReadTables.{same_count, cut_of, counts_there, none_written, states_cut, writes_lists}
use Rattle.atn_graph.proofs.read.read.Goals as goal

pub returns-in_err-read_rows : goal.returns-in_err-read_rows
returns-in_err-read_rows c =
    let t = rows c.args.t.now in
    let cut = cut_of t.counts.rules t.rules _ (search rules) c.counted.ensures in
    let none : (n : Net) → WritesNet t n → ⊥ = λ n w.
    none_written (λ row r. rule_row r ≡ row) t.counts.rules t.rules c.counted.result.now cut n.rules no_rule_row no_rule c.in_err-read_rows.ensures w.rule_count w.rules in
    search rules

pub counted-requires-2 : goal.counted-requires-2
counted-requires-2 c = let there = counts_there (rows c.args.t.now) c.requires.long c.requires.limits in search rules

pub returns-in_err-read_states : goal.returns-in_err-read_states
returns-in_err-read_states c =
    let t = rows c.args.t.now in
    let cut = cut_of t.counts.states t.states _ (search rules) c.counted-2.ensures in
    let none : (n : Net) → WritesNet t n → ⊥ = λ n w.
    let same : length n.states ≡ length c.counted-2.result.now = same_count _ _ _ w.state_count cut.0 in
    c.in_err-read_states.ensures n.states (states_cut t.counts.states t.states c.counted-2.result.now cut n.states same w.states) in
    search rules

pub counted-requires-3 : goal.counted-requires-3
counted-requires-3 c = let there = counts_there (rows c.args.t.now) c.requires.long c.requires.limits in search rules

pub returns-in_err-read_rows-2 : goal.returns-in_err-read_rows-2
returns-in_err-read_rows-2 c =
    let t = rows c.args.t.now in
    let cut = cut_of t.counts.edges t.edges _ (search rules) c.counted-3.ensures in
    let none : (n : Net) → WritesNet t n → ⊥ = λ n w.
    none_written WritesEdge t.counts.edges t.edges c.counted-3.result.now cut n.edges no_edge_row no_edge c.in_err-read_rows-2.ensures w.edge_count w.edges in
    search rules

pub returns : goal.returns
returns c =
    let t = rows c.args.t.now in
    writes_lists t _ _ _ _ _ (to_z-of_z w32 t.max (search rules))
    (cut_of t.counts.rules t.rules _ (search rules) c.counted.ensures) c.in_ok-read_rows.ensures
    (cut_of t.counts.states t.states _ (search rules) c.counted-2.ensures) c.in_ok-read_states.ensures.0 c.in_ok-read_states.ensures.1
    (cut_of t.counts.edges t.edges _ (search rules) c.counted-3.ensures) c.in_ok-read_rows-2.ensures
    (cut_of t.counts.intervals t.intervals _ (search rules) c.counted-4.ensures) (same_from_all_zip _ _ _ c.in_ok-read_rows-3.ensures (λ x y e. search rules))
