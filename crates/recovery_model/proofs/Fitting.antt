-- A net that keeps the rules and limits of tables.
use Rattle.std.proofs.Common.{◌≡◌, ℕ, ◌<◌, ◌≤◌, false, ◌||◌, length, arith, pos}
use Rattle.std.proofs.lemmas.Bool.{or_parts, and_parts, ltb-true, ltb-false}
use Rattle.atn_graph.specs.Tables.{outside, counts_outside}
use Rattle.atn_graph.specs.Net.{Net, size, rule_at, state_at}
use Rattle.atn_graph.specs.Rules.{IsSoundNet, counts_of, beyond_limits}
use Rattle.std.specs.Prelude.{nat_lt, int_lt, ◌==◌}

-- it has states, few enough for the marks, and each rule starts in one
pub record Fit (n : Net) : Type 0 where
  pub some : 0 < size n
  pub few : size n ≤ 512
  pub starts : (r : ℕ) → r < length n.rules → (rule_at n r).start < size n

within : (low high k : ℕ) → outside low high (pos k) ≡ false → (low ≤ k) × (k ≤ high)
within low high k e =
    let p = or_parts (int_lt (pos k) (pos low)) (int_lt (pos high) (pos k)) e in
    (ltb-false k low p.0, ltb-false high k p.1)

pub fit_of : (n : Net) → IsSoundNet n → beyond_limits n ≡ false → Fit n
fit_of n sound limits =
    let counts : counts_outside (counts_of n) ≡ false = (or_parts (counts_outside (counts_of n)) (outside 1 255 n.max) limits).0 in
    let rest = outside 2 512 (pos (size n)) || (outside 0 2048 (pos (length n.edges)) || outside 0 1024 (pos (length n.intervals))) in
    let states : outside 2 512 (pos (size n)) ≡ false = (or_parts (outside 2 512 (pos (size n))) _ (or_parts (outside 1 64 (pos (length n.rules))) rest counts).1).0 in
    let l = within 2 512 (size n) states in
    record {
      some = omega (arith, l.0);
      few = l.1;
      starts = λ r b. ltb-true _ _ (and_parts (nat_lt (rule_at n r).start (size n)) ((state_at n (rule_at n r).start).rule == r) (sound.rules r b).start).0;
    }
