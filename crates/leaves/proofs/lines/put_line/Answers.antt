use Rattle.std.proofs.Common.{◌≡◌, ◌<◌, ◌++◌, ◌∷◌, [], length, take, drop, get_or, ℤ, pos, ◌+◌, ◌-◌, ◌*◌, ◌∙◌, ap, sym, subst, rules, arith, FitsSigned, w32}
use Rattle.std.specs.List.{flat_map}
use Rattle.std.proofs.lemmas.Int.{to_z-of_z}
use Rattle.std.proofs.lemmas.List.{length-drop, drop-drop, append_assoc, take_all}
use Rattle.fixed_vec.specs.Lists.{listed, spare}
use Rattle.leaves.specs.LeafLines.{column, numbers, leaf_line}
use Rattle.leaves.specs.Lengths.{Small, all_small, small_short, length_column, flat_map_step}
use Rattle.leaves.proofs.lines.put_line.Goals as goal

pub column-requires : goal.column-requires
column-requires c =
    let items = c.numbers-n-items.result in
    let i = c.loop-n.n-index in
    let n : ℤ = get_or items i (pos 0) in
    let seven : length items ≡ 7 = ap length c.numbers-n-items.ensures.numbers in
    let fits : FitsSigned w32 n = search rules in
    let small : Small n = subst (λ ns. Small (get_or ns i (pos 0))) (sym c.numbers-n-items.ensures.numbers) (all_small c.args.leaf c.numbers-n-items.ensures.fits i (pos 0) c.loop-n-test.true) in
    rw (to_z-of_z w32 n fits) (small_short n small)

pub loop-n-preserved : goal.loop-n-preserved
loop-n-preserved c =
    let items = c.numbers-n-items.result in
    let i = c.loop-n.n-index in
    let n : ℤ = get_or items i (pos 0) in
    let seven : length items ≡ 7 = ap length c.numbers-n-items.ensures.numbers in
    let fits : FitsSigned w32 n = search rules in
    let small : Small n = subst (λ ns. Small (get_or ns i (pos 0))) (sym c.numbers-n-items.ensures.numbers) (all_small c.args.leaf c.numbers-n-items.ensures.fits i (pos 0) c.loop-n-test.true) in
    let inside : i < length items = omega (arith, seven, c.loop-n-test.true) in
    let col : c.column.result ≡ column n = c.column.ensures ∙ ap column (to_z-of_z w32 n fits) in
    let long : length c.column.result ≡ 8 = ap length col ∙ length_column n small in
    let left : length (spare c.loop-n.out) ≡ length (spare c.args.out.now) - 8 * i = ap length c.loop-n.invariant.1 ∙ length-drop (8 * i) (spare c.args.out.now) in
    let done = c.extend_from_slice.ensures.room (omega (arith, long, left, c.requires, c.loop-n-test.true)) in (
      done.1 ∙ ap (λ xs. xs ++ c.column.result) c.loop-n.invariant.0 ∙ ap (λ xs. (listed c.args.out.now ++ flat_map column (take i items)) ++ xs) col
          ∙ append_assoc (listed c.args.out.now) (flat_map column (take i items)) (column n) ∙ ap (λ xs. listed c.args.out.now ++ xs) (sym (flat_map_step column items i (pos 0) inside)),
      done.2 ∙ ap (λ k. drop k (spare c.loop-n.out)) long ∙ ap (drop 8) c.loop-n.invariant.1 ∙ drop-drop 8 (8 * i) (spare c.args.out.now) ∙ ap (λ k. drop k (spare c.args.out.now)) (omega arith),
      c.extend_from_slice.ensures.same_memory ∙ c.loop-n.invariant.2,
    )

pub returns-clause-line : goal.returns-clause-line
unfolding leaf_line
returns-clause-line c =
    let i = c.loop-n.n-index in
    let items = c.numbers-n-items.result in
    let seven : length items ≡ 7 = ap length c.numbers-n-items.ensures.numbers in
    let end : i ≡ 7 = omega (arith, c.loop-n-test.false, c.loop-n.auto.n-index-end) in
    let all : take i items ≡ items = take_all i items (omega (arith, end, seven)) in
    let left : length (spare c.loop-n.out) ≡ length (spare c.args.out.now) - 8 * i = ap length c.loop-n.invariant.1 ∙ length-drop (8 * i) (spare c.args.out.now) in
    let done = c.push.ensures.room (omega (arith, end, left, c.requires)) in
    done.1 ∙ ap (λ xs. xs ++ 10 ∷ []) (c.loop-n.invariant.0 ∙ ap (λ xs. listed c.args.out.now ++ flat_map column xs) (all ∙ c.numbers-n-items.ensures.numbers))
    ∙ append_assoc (listed c.args.out.now) (flat_map column (numbers c.args.leaf)) (10 ∷ [])

pub returns-clause-untouched : goal.returns-clause-untouched
returns-clause-untouched c =
    let i = c.loop-n.n-index in
    let end : i ≡ 7 = omega (arith, c.loop-n-test.false, c.loop-n.auto.n-index-end) in
    let left : length (spare c.loop-n.out) ≡ length (spare c.args.out.now) - 8 * i = ap length c.loop-n.invariant.1 ∙ length-drop (8 * i) (spare c.args.out.now) in
    let done = c.push.ensures.room (omega (arith, end, left, c.requires)) in
    let whole : 8 * i + 1 ≡ 57 = omega (arith, end) in
    done.2 ∙ ap (drop 1) c.loop-n.invariant.1 ∙ drop-drop 1 (8 * i) (spare c.args.out.now) ∙ ap (λ k. drop k (spare c.args.out.now)) whole
