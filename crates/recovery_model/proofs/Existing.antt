-- The within-rule sets of a checked net, computed.
use Rattle.std.proofs.Common.{◌≡◌, ℕ, ◌<◌, ◌≤◌, Bool, true, false, Decides, ◌⊎◌, List, [], get_or, ℤ, refl, ap, ◌∙◌, inl, inr, arith}
use Rattle.std.specs.List.{list_any}
use Rattle.std.proofs.lemmas.Bool.{cases_Bool, cases_lt, both_ways}
use Rattle.std.proofs.lemmas.Bool.Decides.{same_from_decides}
use Rattle.atn_graph.specs.declared.graph.Graph.{Graph}
use Rattle.atn_graph.specs.Net.{Net, net, size, edges_of}
use Rattle.atn.specs.declared.atn.Atn.{Atn}
use Rattle.atn.specs.Labels.{takes}
use Rattle.atn.specs.Marks.{elem}
use Rattle.atn.specs.Reach.{Nullable, Listed, KnowsReachedOver}
use Rattle.atn.proofs.Growth.{elem_at, place_of}
use Rattle.atn.proofs.Labelling.{decides_takes}
use Rattle.atn.proofs.Over.{knows_over}
use Rattle.atn.proofs.Some.{any_place, place_any}
use Rattle.ll1_analyzer.specs.Sets.{Types, CanEnd}
use Rattle.ll1_analyzer.proofs.Ends.{ends_of_reached, reached_of_ends, nullable_of_stop, stop_of_nullable, takes_inside}
use Rattle.recovery_model.specs.Existing.{SetsExist, SetsOnce}
use Rattle.recovery_model.proofs.NullableFound.{NullableFound, nullables_of}
use Rattle.recovery_model.proofs.Reached.{Reached, reached_from}

-- a test whether one of the states takes x
any_takes : Net → List ℕ → ℤ → Bool
any_takes n xs x = list_any (λ k. list_any (λ e. takes n e.kind x) (edges_of n k)) xs

-- the states that s reaches take what walks from s end with
decides_types : (g : Graph) (s : ℕ) (xs : List ℕ) → KnowsReachedOver (Nullable (net g.lists)) (net g.lists) s xs → (x : ℤ) → Decides (any_takes (net g.lists) xs x) (Types (net g.lists) s x)
unfolding any_takes
decides_types g s xs reached x = (there, back)
  where
    test : ℕ → Bool
    test k = list_any (λ e. takes (net g.lists) e.kind x) (edges_of (net g.lists) k)

    there : any_takes (net g.lists) xs x ≡ true → Types (net g.lists) s x
    there h =
        let p = any_place test 0 xs h in
        let k = get_or xs p.0 0 in
        ends_of_reached x ((reached k).0 (elem_at xs p.0 p.1)) ((decides_takes g k x).0 p.2)

    back : Types (net g.lists) s x → any_takes (net g.lists) xs x ≡ true
    back e =
        let p = place_of e.state xs ((reached e.state).1 (reached_of_ends x e)) in
        place_any test 0 xs p.0 p.1 (ap test p.2 ∙ (decides_takes g e.state x).1 e.takes)

-- A test for the types of one state.
record TypesOf (n : Net) (s : ℕ) : Type 0 where
  test : ℤ → Bool
  right : (x : ℤ) → Decides (test x) (Types n s x)

-- in a net
types_inside : (g : Graph) → NullableFound (net g.lists) → (s : ℕ) → s < size (net g.lists) → TypesOf (net g.lists) s
types_inside g u s l = record { test = any_takes (net g.lists) r.listed; right = decides_types g s r.listed (knows_over (net g.lists) s r.listed u.listed u.known r.known) }
  where
    told : (k : ℕ) → Listed u.listed k ⊎ (Listed u.listed k → ⊥)
    told k = elim (cases_Bool (elem k u.listed)) [ inl h ↦ inl h | inr h ↦ inr (λ e. both_ways _ h e) ]

    r : Reached (Listed u.listed) (net g.lists) s
    r = reached_from (Listed u.listed) told g s l

-- and past its states
types_outside : (n : Net) (s : ℕ) → size n ≤ s → TypesOf n s
types_outside n s out = record { test = λ x. false; right = λ x. (λ h. absurd (both_ways false refl h), λ e. absurd (omega (arith, out, takes_inside x e.walk refl e.takes))) }

types_of : (g : Graph) → NullableFound (net g.lists) → (s : ℕ) → TypesOf (net g.lists) s
types_of g u s = elim (cases_lt s (size (net g.lists))) [ inl l ↦ types_inside g u s l | inr l ↦ types_outside (net g.lists) s l ]

-- a walk can end where the state is nullable
decides_end : {n : Net} (u : NullableFound n) (s : ℕ) → Decides (elem s u.listed) (CanEnd n s)
decides_end {n} u s = (λ h. let w = stop_of_nullable ((u.known s).0 h) [] in record { state = w.0; walk = w.1; stop = w.2 }, λ e. (u.known s).1 (nullable_of_stop e))

pub sets_exist : (a : Atn) → SetsExist a
sets_exist a = record {
  sets = record { types = λ s. (types_of a.graph u s).test; end = λ s. elem s u.listed };
  agree = record { types = λ s. (types_of a.graph u s).right; ends = decides_end u };
}
  where
    u : NullableFound (net a.graph.lists)
    u = nullables_of a.graph

pub sets_once : (n : Net) → SetsOnce n
sets_once n v w a b = λ i. record {
  types = λ s x. same_from_decides (v.types s x) (w.types s x) (a.types s x) (b.types s x) i;
  end = λ s. same_from_decides (v.end s) (w.end s) (a.ends s) (b.ends s) i;
}
