use Rattle.std.proofs.Common.{◌≡◌, ◌+◌, List, length, get_or, sym, ap, ◌∙◌, subst, arith, rules}
use Rattle.std.proofs.lemmas.List.{length_push}
use Rattle.fixed_vec.specs.Items.{items}
use Rattle.atn_graph.specs.declared.atn_state.AtnState.{AtnState}
use Rattle.atn_graph.specs.Net.{no_state, end_before}
use Rattle.atn_graph.specs.Written.{WritesState, no_state_row}
use Rattle.atn_graph.specs.Reading.{StatesRead}
use Rattle.atn_graph.proofs.Rows.{end_at_last, state_more}
use Rattle.atn_graph.proofs.Once.{ends_once}
use Rattle.atn_graph.proofs.read.read_states.Goals as goal

pub loop-row-preserved : goal.loop-row-preserved
loop-row-preserved c =
    let rows = c.args.rows.now in
    let k = c.loop-row.row-index in
    let inv = c.loop-row.invariant in
    let x = c.in_ok-state.state in
    let e = c.in_ok-state.ensures in
    let pushed = sym (c.push.ensures.room (omega (arith, inv.0, c.requires.bounded))).1 in
    let more = state_more rows (items c.loop-row.states) k x inv.0 inv.3 (subst (λ b. WritesState (get_or rows k no_state_row) b x) inv.1 e.0) in (
      ap length (sym pushed) ∙ length_push _ _ ∙ ap (λ n. n + 1) inv.0,
      subst (λ ss. x.end ≡ end_before ss (k + 1)) pushed (end_at_last (items c.loop-row.states) k x inv.0),
      omega (arith, e.1, inv.2),
      subst (λ ss. StatesRead rows (k + 1) ss) pushed more,
    )

-- the states before are the same in every reading, so the row that writes no state here writes none at all
pub returns-in_err-state : goal.returns-in_err-state
returns-in_err-state c =
    let rows = c.args.rows.now in
    let s = c.loop-row.row-index in
    let ss = items c.loop-row.states in
    let inv = c.loop-row.invariant in
    let none : (others : List AtnState) → StatesRead rows (length rows) others → ⊥ = λ others r.
    let same : end_before others s ≡ c.loop-row.first = ends_once rows s others ss (λ k h. r k (omega (arith, c.loop-row-test.true))) inv.3 s (omega arith) ∙ sym inv.1 in
    c.in_err-state.ensures (get_or others s no_state) (subst (λ b. WritesState (get_or rows s no_state_row) b (get_or others s no_state)) same (r s c.loop-row-test.true)) in
    search rules
