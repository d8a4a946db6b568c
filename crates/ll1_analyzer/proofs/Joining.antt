-- Joining within-rule sets one by one.
use Rattle.std.proofs.Common.{◌≡◌, ℕ, ◌+◌, ◌<◌, length, get_or, Bool, true, false, ◌&&◌, ◌||◌, not, ◌⊎◌, List, [], ◌∷◌, ℤ, Decides, sym, refl, ap, ◌∙◌, subst, inl, inr, arith}
use Rattle.std.proofs.lemmas.List.{get_or_default}
use Rattle.std.proofs.lemmas.Bool.Decides.{Decides-or}
use Rattle.std.proofs.lemmas.Bool.{and_parts, and_from, or_cases, or_left, or_right, cases_Bool, cases_eq, both_ways}
use Rattle.interval_set.specs.declared.set.IntervalSet.{IntervalSet}
use Rattle.interval_set.specs.Intervals.{from_to, inside}
use Rattle.interval_set.specs.Members.{holds}
use Rattle.atn_graph.specs.Net.{Net}
use Rattle.atn.specs.declared.atn.Atn.{Atn}
use Rattle.atn.specs.Checked.{net_of}
use Rattle.ll1_analyzer.specs.Sets.{eof, epsilon, CanEnd, Within, Joined, Recovery}
use Rattle.ll1_analyzer.specs.Answers.{HoldsExactly}
use Rattle.ll1_analyzer.proofs.Apart.{type_is_some, end_of_within, within_of_end, types_of_within}
use Rattle.ll1_analyzer.proofs.Within.{decides_like, one}

-- EPSILON is taken out of a set
abbrev pub TakenOut : IntervalSet → IntervalSet → Type 0
TakenOut before after = (x : ℤ) → holds after x ≡ (holds before x && not (inside (from_to epsilon epsilon) x))

module _ (before after : IntervalSet) (out : TakenOut before after) (x : ℤ) where
  pub still : (x ≡ epsilon → ⊥) → holds before x ≡ true → holds after x ≡ true
  still ne h = out x ∙ and_from (holds before x) _ h (at (cases_Bool (inside (from_to epsilon epsilon) x)))
    where
      at : (inside (from_to epsilon epsilon) x ≡ true) ⊎ (inside (from_to epsilon epsilon) x ≡ false) → not (inside (from_to epsilon epsilon) x) ≡ true
      at (inl e) = absurd (ne ((one epsilon x).0 e))
      at (inr e) = ap not e

  pub was : holds after x ≡ true → (x ≡ epsilon → ⊥) × (holds before x ≡ true)
  was h =
      let p = and_parts (holds before x) (not (inside (from_to epsilon epsilon) x)) (sym (out x) ∙ h) in
      (λ e. both_ways false refl (sym (ap not ((one epsilon x).1 e)) ∙ p.1), p.0)

-- what is held already, and, if EPSILON is held, what the states that are left join to
abbrev pub Part : Net → IntervalSet → List ℕ → ℤ → Type 0
Part n set rest x = ((x ≡ epsilon → ⊥) × (holds set x ≡ true)) ⊎ ((holds set epsilon ≡ true) × Joined n rest x)

pub record SoFar (n : Net) (all : List ℕ) (set : IntervalSet) (rest : List ℕ) : Type 0 where
  pub to : (x : ℤ) → Joined n all x → Part n set rest x
  pub from : (x : ℤ) → Part n set rest x → Joined n all x

-- at the first state its own set
pub begun : (a : Atn) (s : ℕ) (rest : List ℕ) (set : IntervalSet) → HoldsExactly set (Within (net_of a) s) → SoFar (net_of a) (s ∷ rest) set rest
begun a s rest set h = record { to = to; from = from }
  where
    to : (x : ℤ) → Joined (net_of a) (s ∷ rest) x → Part (net_of a) set rest x
    to x (inl e) = inl (type_is_some a s x e, (h x).1 (inl e))
    to x (inr j) = inr ((h epsilon).1 (within_of_end (net_of a) s j.0), j.1)

    from : (x : ℤ) → Part (net_of a) set rest x → Joined (net_of a) (s ∷ rest) x
    from x (inl p) = inl (types_of_within (net_of a) s x p.0 ((h x).0 p.1))
    from x (inr p) = inr (end_of_within a s ((h epsilon).0 p.0), p.1)

pub next_joined : (a : Atn) (all : List ℕ) (set mid more after : IntervalSet) (f : ℕ) (rest : List ℕ) → SoFar (net_of a) all set (f ∷ rest) → holds set epsilon ≡ true → TakenOut set mid → HoldsExactly more (Within (net_of a) f) → ((x : ℤ) → holds after x ≡ (holds mid x || holds more x)) → SoFar (net_of a) all after rest
next_joined a all set mid more after f rest so on out h both = record { to = λ x j. to x (so.to x j); from = λ x p. so.from x (from x p) }
  where
    to : (x : ℤ) → Part (net_of a) set (f ∷ rest) x → Part (net_of a) after rest x
    to x (inl p) = inl (p.0, both x ∙ or_left (holds mid x) _ (still set mid out x p.0 p.1))
    to x (inr (e, inl j)) = inl (type_is_some a f x j, both x ∙ or_right (holds mid x) _ ((h x).1 (inl j)))
    to x (inr (e, inr j)) = inr (both epsilon ∙ or_right (holds mid epsilon) _ ((h epsilon).1 (within_of_end (net_of a) f j.0)), j.1)

    at : (x : ℤ) → (x ≡ epsilon → ⊥) → (holds mid x ≡ true) ⊎ (holds more x ≡ true) → Part (net_of a) set (f ∷ rest) x
    at x ne (inl m) = inl (was set mid out x m)
    at x ne (inr m) = inr (on, inl (types_of_within (net_of a) f x ne ((h x).0 m)))

    again : (holds mid epsilon ≡ true) ⊎ (holds more epsilon ≡ true) → CanEnd (net_of a) f
    again (inl m) = absurd ((was set mid out epsilon m).0 refl)
    again (inr m) = end_of_within a f ((h epsilon).0 m)

    from : (x : ℤ) → Part (net_of a) after rest x → Part (net_of a) set (f ∷ rest) x
    from x (inl p) = at x p.0 (or_cases (holds mid x) (holds more x) (sym (both x) ∙ p.1))
    from x (inr p) = inr (on, inr (again (or_cases (holds mid epsilon) (holds more epsilon) (sym (both epsilon) ∙ p.0)), p.1))

-- it goes on no further
pub stopped : (n : Net) (all : List ℕ) (set : IntervalSet) (rest : List ℕ) → SoFar n all set rest → holds set epsilon ≡ false → HoldsExactly set (Joined n all)
stopped n all set rest so off x = (λ h. so.from x (inl (λ e. both_ways _ off (subst (λ y. holds set y ≡ true) e h), h)), λ j. at (so.to x j))
  where
    at : Part n set rest x → holds set x ≡ true
    at (inl p) = p.1
    at (inr p) = absurd (both_ways _ off p.0)

-- or it has come to the end
pub ended : (n : Net) (all : List ℕ) (set mid after : IntervalSet) (rest : List ℕ) → rest ≡ [] → SoFar n all set rest → holds set epsilon ≡ true → TakenOut set mid → ((x : ℤ) → holds after x ≡ (holds mid x || inside (from_to eof eof) x)) → HoldsExactly after (Joined n all)
ended n all set mid after rest none so on out both x =
    (λ h. so.from x (from (or_cases (holds mid x) (inside (from_to eof eof) x) (sym (both x) ∙ h))), λ j. to (so.to x j))
  where
    from : (holds mid x ≡ true) ⊎ (inside (from_to eof eof) x ≡ true) → Part n set rest x
    from (inl m) = inl (was set mid out x m)
    from (inr m) = inr (on, subst (λ r. Joined n r x) (sym none) ((one eof x).0 m))

    to : Part n set rest x → holds after x ≡ true
    to (inl p) = both x ∙ or_left (holds mid x) _ (still set mid out x p.0 p.1)
    to (inr p) = both x ∙ or_right (holds mid x) _ ((one eof x).1 (subst (λ r. Joined n r x) none p.1))

-- the within-rule sets of the first follow states are joined
pub record WithinBefore (n : Net) (follows : List ℕ) (upto : ℕ) (x : ℤ) : Type 0 where
  pub place : ℕ
  pub inside : place < length follows
  pub before : place < upto
  pub within : Within n (get_or follows place 0) x

module _ (n : Net) (follows : List ℕ) (x : ℤ) where
  pub joined_more : (i : ℕ) (b more : Bool) → i < length follows → Decides b (WithinBefore n follows i x) → Decides more (Within n (get_or follows i 0) x) → Decides (b || more) (WithinBefore n follows (i + 1) x)
  joined_more i b more l d e = decides_like (b || more) to from (Decides-or b more d e)
    where
      to : WithinBefore n follows i x ⊎ Within n (get_or follows i 0) x → WithinBefore n follows (i + 1) x
      to (inl t) = record { place = t.place; inside = t.inside; before = omega (arith, t.before); within = t.within }
      to (inr w) = record { place = i; inside = l; before = omega arith; within = w }

      at : (t : WithinBefore n follows (i + 1) x) → (t.place ≡ i) ⊎ (t.place ≡ i → ⊥) → WithinBefore n follows i x ⊎ Within n (get_or follows i 0) x
      at t (inl e) = inr (subst (λ k. Within n (get_or follows k 0) x) e t.within)
      at t (inr ne) = inl (record { place = t.place; inside = t.inside; before = omega (arith, t.before, ne); within = t.within })

      from : WithinBefore n follows (i + 1) x → WithinBefore n follows i x ⊎ Within n (get_or follows i 0) x
      from t = at t (cases_eq t.place i)

-- those of all of them without EPSILON are the recovery set
pub recovered : (a : Atn) (follows : List ℕ) (set after : IntervalSet) (i : ℕ) → length follows ≡ i → ((x : ℤ) → Decides (holds set x) (WithinBefore (net_of a) follows i x)) → TakenOut set after → HoldsExactly after (Recovery (net_of a) follows)
recovered a follows set after i all h out x =
    (λ e. let p = was set after out x e in to p.0 ((h x).0 p.1), λ r. still set after out x (type_is_some a r.state x r.types) ((h x).1 (from r)))
  where
    to : (x ≡ epsilon → ⊥) → WithinBefore (net_of a) follows i x → Recovery (net_of a) follows x
    to ne t = record {
      state = get_or follows t.place 0;
      listed = (t.place, t.inside, get_or_default follows t.place _ 0 t.inside);
      types = types_of_within (net_of a) (get_or follows t.place 0) x ne t.within;
    }

    from : Recovery (net_of a) follows x → WithinBefore (net_of a) follows i x
    from r = record {
      place = r.listed.0;
      inside = r.listed.1;
      before = omega (arith, r.listed.1, all);
      within = subst (λ s. Within (net_of a) s x) (sym (get_or_default follows r.listed.0 0 r.state r.listed.1 ∙ r.listed.2)) (inl r.types);
    }
