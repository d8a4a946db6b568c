-- Runs of edges that follow one another.
use Rattle.std.proofs.Common.{◌≡◌, ℕ, zero, suc, ◌+◌, ◌-◌, ◌<◌, ◌≤◌, length, subst, arith}
use Rattle.atn_graph.specs.Net.{Net, Runs, size, state_at}

ends_rise_by : (n : Net) → Runs n → (s d : ℕ) → s + d < size n → (state_at n s).end ≤ (state_at n (s + d)).end
ends_rise_by n r s zero l = let e : s ≡ s + 0 = omega arith in subst (λ k. (state_at n s).end ≤ (state_at n k).end) e (omega arith)
ends_rise_by n r s (suc d) l =
    let e : suc (s + d) ≡ s + suc d = omega arith in
    let next = r (suc (s + d)) (omega arith) in
    let before = ends_rise_by n r s d (omega arith) in
    subst (λ k. (state_at n s).end ≤ (state_at n k).end) e (omega (arith, next.0, next.1, before))

-- the edges of a state end where those of a later one end, or before
pub ends_rise : (n : Net) → Runs n → (s k : ℕ) → s ≤ k → k < size n → (state_at n s).end ≤ (state_at n k).end
ends_rise n r s k l h =
    let e : s + (k - s) ≡ k = omega arith in
    subst (λ x. (state_at n s).end ≤ (state_at n x).end) e (ends_rise_by n r s (k - s) (omega arith))

-- where the last state's edges end with the last edge, each state's lie among the edges
pub run_inside : (n : Net) → Runs n → (state_at n (size n - 1)).end ≡ length n.edges → (s : ℕ) → s < size n → ((state_at n s).first ≤ (state_at n s).end) × ((state_at n s).end ≤ length n.edges)
run_inside n r used s l =
    let rise = ends_rise n r s (size n - 1) (omega arith) (omega arith) in
    ((r s l).1, omega (arith, rise, used))
