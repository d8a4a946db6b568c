-- The states that a state reaches take the types of its within-rule set.
use Rattle.std.proofs.Common.{◌≡◌, ℕ, ◌+◌, ◌<◌, ◌≤◌, Bool, true, ◌||◌, ◌⊎◌, List, [], length, get_or, ℤ, Decides, sym, refl, ap, subst, inl, inr, arith}
use Rattle.std.proofs.lemmas.Int.{ints}
use Rattle.std.proofs.lemmas.Bool.{cases_eq, both_ways}
use Rattle.std.proofs.lemmas.Bool.Decides.{Decides-or}
use Rattle.interval_set.specs.Intervals.{from_to, inside, has}
use Rattle.interval_set.specs.Members.{intervals}
use Rattle.interval_set.specs.declared.set.IntervalSet.{IntervalSet}
use Rattle.interval_set.proofs.Rising.{between, inside_from}
use Rattle.atn_graph.specs.Net.{Net, size}
use Rattle.atn.specs.Reach.{Nullable, KnowsReachedOver}
use Rattle.atn.proofs.Growth.{elem_at, place_of}
use Rattle.ll1_analyzer.specs.Sets.{epsilon, EndsWith, Within}
use Rattle.atn.specs.Labels.{TakesAt}
use Rattle.ll1_analyzer.specs.Answers.{HoldsExactly}
use Rattle.ll1_analyzer.proofs.Ends.{ends_of_reached, reached_of_ends, nullable_of_stop, stop_of_nullable, takes_inside, nullable_inside}

-- a test that decides a fact decides what is as much as that
pub decides_like : {P Q : Type 0} (b : Bool) → (P → Q) → (Q → P) → Decides b P → Decides b Q
decides_like b to from d = (λ e. to (d.0 e), λ q. d.1 (from q))

-- one of the first states of the list takes x
pub record TakenBefore (n : Net) (xs : List ℕ) (upto : ℕ) (x : ℤ) : Type 0 where
  pub place : ℕ
  pub inside : place < length xs
  pub before : place < upto
  pub takes : TakesAt n (get_or xs place 0) x

module _ (n : Net) (xs : List ℕ) (x : ℤ) where
  pub before_more : (i : ℕ) (b c : Bool) → i < length xs → Decides b (TakenBefore n xs i x) → Decides c ((b ≡ true) ⊎ TakesAt n (get_or xs i 0) x) → Decides c (TakenBefore n xs (i + 1) x)
  before_more i b c l d e = decides_like c to from e
    where
      to : (b ≡ true) ⊎ TakesAt n (get_or xs i 0) x → TakenBefore n xs (i + 1) x
      to (inl h) = let t = d.0 h in record { place = t.place; inside = t.inside; before = omega (arith, t.before); takes = t.takes }
      to (inr t) = record { place = i; inside = l; before = omega arith; takes = t }

      at : (t : TakenBefore n xs (i + 1) x) → (t.place ≡ i) ⊎ (t.place ≡ i → ⊥) → (b ≡ true) ⊎ TakesAt n (get_or xs i 0) x
      at t (inl e) = inr (subst (λ k. TakesAt n (get_or xs k 0) x) e t.takes)
      at t (inr ne) = inl (d.1 (record { place = t.place; inside = t.inside; before = omega (arith, t.before, ne); takes = t.takes }))

      from : TakenBefore n xs (i + 1) x → (b ≡ true) ⊎ TakesAt n (get_or xs i 0) x
      from t = at t (cases_eq t.place i)

  -- past the last state, that is how a walk ends
  pub all_taken : (s : ℕ) (b : Bool) → KnowsReachedOver (Nullable n) n s xs → Decides b (TakenBefore n xs (length xs) x) → Decides b (EndsWith n s [] x)
  all_taken s b known d = decides_like b to from d
    where
      to : TakenBefore n xs (length xs) x → EndsWith n s [] x
      to t = ends_of_reached x ((known (get_or xs t.place 0)).0 (elem_at xs t.place t.inside)) t.takes

      from : EndsWith n s [] x → TakenBefore n xs (length xs) x
      from e =
          let p = place_of e.state xs ((known e.state).1 (reached_of_ends x e)) in
          record { place = p.0; inside = p.1; before = p.1; takes = subst (λ k. TakesAt n k x) (sym p.2) e.takes }

  -- and outside the net no walk ends so
  pub none_outside : (s i : ℕ) (b : Bool) → size n ≤ s → xs ≡ [] → Decides b (TakenBefore n xs i x) → Decides b (EndsWith n s [] x)
  none_outside s i b out e d = decides_like b (λ t. absurd (omega (arith, t.inside, ap length e))) (λ w. absurd (omega (arith, out, takes_inside x w.walk refl w.takes))) d

-- the one number of an interval
pub one : (v x : ℤ) → Decides (inside (from_to v v) x) (x ≡ v)
one v x = (λ e. let b = between (from_to v v) x e in omega (arith, ints, b.low, b.high), λ e. inside_from (from_to v v) x (omega (arith, ints, e)) (omega (arith, ints, e)))

module _ (n : Net) (s : ℕ) (x : ℤ) (b : Bool) (d : Decides b (EndsWith n s [] x)) where
  -- EPSILON belongs to the set of a nullable state
  pub with_epsilon : Nullable n s → Decides (b || inside (from_to epsilon epsilon) x) (Within n s x)
  with_epsilon u = decides_like _ to from (Decides-or b _ d (one epsilon x))
    where
      to : EndsWith n s [] x ⊎ (x ≡ epsilon) → Within n s x
      to (inl e) = inl e
      to (inr e) = let w = stop_of_nullable u [] in inr (e, record { state = w.0; walk = w.1; stop = w.2 })

      from : Within n s x → EndsWith n s [] x ⊎ (x ≡ epsilon)
      from (inl e) = inl e
      from (inr e) = inr e.0

  pub without_epsilon : (Nullable n s → ⊥) → Decides b (Within n s x)
  without_epsilon never = decides_like b inl from d
    where
      from : Within n s x → EndsWith n s [] x
      from (inl e) = e
      from (inr e) = absurd (never (nullable_of_stop e.1))

-- the empty set is that of a state outside the net
pub outside_empty : (n : Net) (s : ℕ) (set : IntervalSet) → intervals set ≡ [] → size n ≤ s → HoldsExactly set (Within n s)
outside_empty n s set e out x = (λ h. absurd (both_ways _ (ap (λ is. has is x) e) h), λ w. absurd (none w))
  where
    none : Within n s x → ⊥
    none (inl w) = omega (arith, out, takes_inside x w.walk refl w.takes)
    none (inr w) = omega (arith, out, nullable_inside (nullable_of_stop w.1))
