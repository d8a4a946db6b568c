-- The intervals of a checked net can go into a set.
use Rattle.std.proofs.Common.{◌≡◌, ℕ, ◌+◌, ◌-◌, ◌<◌, ◌≤◌, Bool, true, false, Decides, ◌||◌, leb, List, [], ◌∷◌, length, get_or, take, drop, slice_range, ℤ, pos, negsuc, ◌≤ℤ◌, Ok, Err, Result, sym, ap, ◌∙◌, inl, inr, arith}
use mathlib.Core.Bool.{or-false}
use lib.Signed.{le_z, lt_z}
use Rattle.std.specs.List.{list_any}
use Rattle.std.proofs.lemmas.List.{take_more}
use Rattle.std.proofs.lemmas.List.Folds.{list_any-append}
use Rattle.std.proofs.lemmas.Int.{ints}
use Rattle.std.proofs.lemmas.Bool.{or_parts, or_cases, or_right, and_parts, and_from, leb-true, both_ways}
use Rattle.errors.specs.declared.denial.Denial.{Denial}
use Rattle.interval_set.specs.declared.interval.Interval.{Interval}
use Rattle.interval_set.specs.declared.set.IntervalSet.{IntervalSet}
use Rattle.interval_set.specs.Intervals.{from_to, inside, addable, smallest, largest}
use Rattle.interval_set.specs.Members.{holds, Added}
use Rattle.interval_set.proofs.Rising.{between}
use Rattle.atn_graph.specs.declared.graph.Graph.{Graph}
use Rattle.atn_graph.specs.Tables.{outside, counts_outside}
use Rattle.atn_graph.specs.Net.{Net, net, edges_of}
use Rattle.atn_graph.specs.Rules.{eof_only, range_fits, interval_fits, all_fit, part, set_fits, counts_of}
use Rattle.atn.specs.Labels.{takes, TakesAt}
use Rattle.atn.proofs.Some.{any_edge}
use Rattle.atn_graph.proofs.Sets.{all_fit_at, part_length}

pub max_few : (g : Graph) → outside 1 255 (net g.lists).max ≡ false
max_few g = (or_parts (counts_outside (counts_of (net g.lists))) (outside 1 255 (net g.lists).max) g.limits).1

within : (i : Interval) → smallest ≤ℤ i.a → i.b ≤ℤ largest → addable i ≡ true
within i low high = or_right (lt_z i.b i.a) _ (and_from (le_z smallest i.a) (le_z i.b largest) (sym (omega (arith, ints))) (sym (omega (arith, ints))))

eof_addable : (i : Interval) → eof_only i ≡ true → addable i ≡ true
eof_addable i e =
    let p = and_parts (inside (from_to (negsuc 0) (negsuc 0)) i.a) (inside (from_to (negsuc 0) (negsuc 0)) i.b) e in
    let a = between (from_to (negsuc 0) (negsuc 0)) i.a p.0 in
    let b = between (from_to (negsuc 0) (negsuc 0)) i.b p.1 in
    within i (omega (arith, ints, a.low)) (omega (arith, ints, b.high))

range_addable : (n : Net) (i : Interval) → outside 1 255 n.max ≡ false → range_fits n i ≡ true → addable i ≡ true
range_addable n i m e =
    let p = and_parts (le_z (pos 1) i.a) _ e in
    let q = and_parts (le_z i.a i.b) (le_z i.b n.max) p.1 in
    let top = (or_parts (lt_z n.max (pos 1)) (lt_z (pos 255) n.max) m).1 in
    within i (omega (arith, ints, p.0)) (omega (arith, ints, q.1, top))

pub fits_addable : (n : Net) (i : Interval) → outside 1 255 n.max ≡ false → interval_fits n i ≡ true → addable i ≡ true
fits_addable n i m e = elim (or_cases (eof_only i) (range_fits n i) e) [ inl h ↦ eof_addable i h | inr h ↦ range_addable n i m h ]

-- what can be added is added
pub added : (before : IntervalSet) (i : Interval) (r : Result (Unit {0}) Denial) (after : IntervalSet) → Added before i r after → addable i ≡ true → (x : ℤ) → holds after x ≡ (holds before x || inside i x)
added before i (Ok u) after w e = w.1
added before i (Err d) after w e = absurd (both_ways _ w.0 e)

-- a test of one more
pub any_more : {X : Type 0} (p : X → Bool) (xs : List X) (k : ℕ) (d : X) → k < length xs → list_any p (take (k + 1) xs) ≡ (list_any p (take k xs) || p (get_or xs k d))
any_more p xs k d l = ap (list_any p) (take_more xs k d l) ∙ list_any-append p (take k xs) (get_or xs k d ∷ []) ∙ ap (λ b. list_any p (take k xs) || b) (or-false (p (get_or xs k d)))

-- a set that fits has its intervals in the net, and each fits
pub set_inside : (n : Net) (first count : ℕ) → set_fits n first count ≡ true → first + count ≤ length n.intervals
set_inside n first count e = leb-true (first + count) (length n.intervals) (and_parts (leb (first + count) (length n.intervals)) (all_fit n (part n first count)) (and_parts (leb 1 count) _ e).1).0

pub set_fits_at : (n : Net) (first count k : ℕ) (d : Interval) → set_fits n first count ≡ true → k < count → interval_fits n (get_or (part n first count) k d) ≡ true
set_fits_at n first count k d e l =
    let p = and_parts (leb (first + count) (length n.intervals)) (all_fit n (part n first count)) (and_parts (leb 1 count) _ e).1 in
    all_fit_at n (part n first count) k d p.1 (omega (arith, part_length n first count (set_inside n first count e)))

-- the slice gone through is the set's part of the net's intervals
pub is_part : (n : Net) (all : List Interval) (first count : _) → all ≡ n.intervals → slice_range all first (first + count) ≡ part n first count
is_part n all first count e =
    let k : (first + count) - first ≡ count = omega arith in
    ap (λ j. take j (drop first all)) k ∙ ap (λ xs. take count (drop first xs)) e

-- a test of a state's edges tells whether one of them takes the type
pub decides_takes : (g : Graph) (s : ℕ) (x : ℤ) → Decides (list_any (λ e. takes (net g.lists) e.kind x) (edges_of (net g.lists) s)) (TakesAt (net g.lists) s x)
decides_takes g s x =
    let d = any_edge g s (λ e. takes (net g.lists) e.kind x) in (
      λ h. let a = d.0 h in record { edge = a.number; of = (a.from, a.below); takes = a.holds },
      λ t. d.1 (record { number = t.edge; from = t.of.0; below = t.of.1; holds = t.takes }),
    )
