-- EPSILON is no label.
use Rattle.std.proofs.Common.{◌≡◌, ℕ, ◌+◌, true, false, not, leb, List, [], ◌∷◌, length, ℤ, pos, negsuc, ◌⊎◌, refl, subst, inl, inr, arith}
use lib.Signed.{le_z}
use Rattle.std.proofs.lemmas.Int.{ints}
use Rattle.std.proofs.lemmas.Bool.{and_parts, or_cases, both_ways}
use Rattle.interval_set.specs.declared.interval.Interval.{Interval}
use Rattle.interval_set.specs.Intervals.{from_to, inside, has}
use Rattle.interval_set.proofs.Rising.{between}
use Rattle.atn_graph.specs.declared.transition.TransitionKind.{TransitionKind}
use Rattle.atn_graph.specs.declared.transition.TransitionKind.TheVariants.{Epsilon, Range, Rule, Predicate, Atom, Action, Set, NotSet, Wildcard, Precedence}
use Rattle.atn_graph.specs.Net.{Net, edge_at}
use Rattle.atn_graph.specs.Rules.{eof_only, range_fits, interval_fits, all_fit, part, LabelFits}
use Rattle.atn_graph.proofs.Inside.{label_fits, edge_inside}
use Rattle.atn.specs.declared.atn.Atn.{Atn}
use Rattle.atn.specs.Checked.{net_of}
use Rattle.atn.specs.Labels.{takes}
use Rattle.atn.proofs.Some.{edge_state}
use Rattle.ll1_analyzer.specs.Sets.{epsilon}
use Rattle.atn.specs.Labels.{TakesAt}

-- an interval that fits the net begins at EOF or later
interval_none : (n : Net) (i : Interval) → interval_fits n i ≡ true → inside i epsilon ≡ true → ⊥
interval_none n i fits e = let b = between i epsilon e in at (or_cases (eof_only i) (range_fits n i) fits)
  where
    at : (eof_only i ≡ true) ⊎ (range_fits n i ≡ true) → ⊥
    at (inl h) =
        let p = and_parts (inside (from_to (negsuc 0) (negsuc 0)) i.a) _ h in
        let a = between (from_to (negsuc 0) (negsuc 0)) i.a p.0 in
        let b = between i epsilon e in
        omega (arith, ints, a.low, b.low)
    at (inr h) =
        let p = and_parts (le_z (pos 1) i.a) _ h in
        let b = between i epsilon e in
        omega (arith, ints, p.0, b.low)

intervals_none : (n : Net) (is : List Interval) → all_fit n is ≡ true → has is epsilon ≡ true → ⊥
intervals_none n [] fits e = both_ways false refl e
intervals_none n (i ∷ is) fits e =
    let p = and_parts (interval_fits n i) (all_fit n is) fits in
    elim (or_cases (inside i epsilon) (has is epsilon) e) [ inl h ↦ interval_none n i p.0 h | inr h ↦ intervals_none n is p.1 h ]

type_none : (n : Net) → inside (from_to (pos 1) n.max) epsilon ≡ true → ⊥
type_none n e = let b = between (from_to (pos 1) n.max) epsilon e in omega (arith, ints, b.low)

kind_none : (n : Net) (k : TransitionKind) → LabelFits n k → takes n k epsilon ≡ true → ⊥
kind_none n Epsilon f e = both_ways false refl e
kind_none n (Range i) f e = interval_none n i f e
kind_none n (Rule r s) f e = both_ways false refl e
kind_none n Predicate f e = both_ways false refl e
kind_none n (Atom t) f e = interval_none n (from_to t t) f e
kind_none n Action f e = both_ways false refl e
kind_none n (Set first count) f e =
    let p = and_parts (leb (first + count) (length n.intervals)) (all_fit n (part n first count)) (and_parts (leb 1 count) _ f).1 in
    intervals_none n (part n first count) p.1 e
kind_none n (NotSet first count) f e = type_none n (and_parts (inside (from_to (pos 1) n.max) epsilon) (not (has (part n first count) epsilon)) e).0
kind_none n Wildcard f e = type_none n e
kind_none n Precedence f e = both_ways false refl e

-- so no state takes it
pub takes_some : (a : Atn) (k : ℕ) (x : ℤ) → TakesAt (net_of a) k x → x ≡ epsilon → ⊥
takes_some a k x t e =
    let n = net_of a in
    kind_none n (edge_at n t.edge).kind (label_fits a.graph t.edge (edge_inside a.graph k t.edge (edge_state n k t.edge t.of) t.of))
    (subst (λ y. takes n (edge_at n t.edge).kind y ≡ true) e t.takes)
