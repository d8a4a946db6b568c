-- What a checked graph names lies inside it.
use Rattle.std.proofs.Common.{◌≡◌, ℕ, zero, suc, ◌+◌, ◌-◌, ◌<◌, ◌≤◌, true, ◌&&◌, eqb, ltb, ◌⊎◌, length, pos, sym, subst, inl, inr, arith}
use lib.Signed.{lt_z}
use Rattle.std.proofs.lemmas.Int.{ints}
use Rattle.std.proofs.lemmas.Bool.{and_parts, or_parts, or_right, ltb-true, eqb-true, cases_lt}
use Rattle.interval_set.specs.Intervals.{from_to}
use Rattle.atn_graph.specs.declared.atn_state.AtnState.{AtnState}
use Rattle.atn_graph.specs.declared.graph.Graph.{Graph}
use Rattle.atn_graph.specs.declared.transition.Move.{Move}
use Rattle.atn_graph.specs.declared.transition.Move.TheVariants.{Along, Call, Token}
use Rattle.atn_graph.specs.declared.transition.TransitionKind.{TransitionKind}
use Rattle.atn_graph.specs.declared.transition.TransitionKind.TheVariants.{Epsilon, Range, Rule, Predicate, Atom, Action, Set, NotSet, Wildcard, Precedence}
use Rattle.atn_graph.specs.Kinds.{move_of}
use Rattle.atn_graph.specs.Tables.{outside, counts_outside, type_outside}
use Rattle.atn_graph.specs.Net.{Net, net, size, Of, Runs, end_before, rule_at, state_at, edge_at}
use Rattle.atn_graph.specs.Rules.{IsSoundNet, in_rule, eof_only, range_fits, interval_fits, set_fits, kind_fits, LabelFits, counts_of}
use Rattle.atn_graph.proofs.Sizes.{few_items}
use Rattle.atn_graph.proofs.Runs.{ends_rise}
use Rattle.atn_graph.proofs.Soundness.{sound_of, runs_of}

-- a state of a rule is a state of the net
in_net : (n : Net) (t r : ℕ) → in_rule n t r ≡ true → t < size n
in_net n t r h = ltb-true t (size n) (and_parts (ltb t (size n)) (eqb (state_at n t).rule r) h).0

kind_target : (n : Net) → IsSoundNet n → (s : AtnState) (t : ℕ) (k : TransitionKind) → kind_fits n s t k ≡ true → t < size n
kind_target n w s t Epsilon h = in_net n t s.rule h
kind_target n w s t (Range i) h = in_net n t s.rule (and_parts (in_rule n t s.rule) (range_fits n i) h).0
kind_target n w s t (Rule r f) h =
    let a = (and_parts (eqb s.end (s.first + 1)) (ltb r (length n.rules) && (eqb t (rule_at n r).start && in_rule n f s.rule)) h).1 in
    let b = and_parts (ltb r (length n.rules)) (eqb t (rule_at n r).start && in_rule n f s.rule) a in
    let e = eqb-true t (rule_at n r).start (and_parts (eqb t (rule_at n r).start) (in_rule n f s.rule) b.1).0 in
    subst (λ x. x < size n) (sym e) (in_net n (rule_at n r).start r (w.rules r (ltb-true r (length n.rules) b.0)).start)
kind_target n w s t Predicate h = in_net n t s.rule h
kind_target n w s t (Atom l) h = in_net n t s.rule (and_parts (in_rule n t s.rule) (interval_fits n (from_to l l)) h).0
kind_target n w s t Action h = in_net n t s.rule h
kind_target n w s t (Set f c) h = in_net n t s.rule (and_parts (in_rule n t s.rule) (set_fits n f c) h).0
kind_target n w s t (NotSet f c) h = in_net n t s.rule (and_parts (in_rule n t s.rule) (set_fits n f c) h).0
kind_target n w s t Wildcard h = in_net n t s.rule h
kind_target n w s t Precedence h = in_net n t s.rule h

-- the follow state of a call, if the move is one, is a state of the net
abbrev GoesOnInside : Net → Move → Type 0
GoesOnInside n Along = Unit {0}
GoesOnInside n (Call f) = f < size n
GoesOnInside n Token = Unit {0}

kind_follow : (n : Net) (s : AtnState) (t : ℕ) (k : TransitionKind) → kind_fits n s t k ≡ true → GoesOnInside n (move_of k)
kind_follow n s t Epsilon h = tt
kind_follow n s t (Range i) h = tt
kind_follow n s t (Rule r f) h =
    let a = (and_parts (eqb s.end (s.first + 1)) (ltb r (length n.rules) && (eqb t (rule_at n r).start && in_rule n f s.rule)) h).1 in
    let b = (and_parts (ltb r (length n.rules)) (eqb t (rule_at n r).start && in_rule n f s.rule) a).1 in
    in_net n f s.rule (and_parts (eqb t (rule_at n r).start) (in_rule n f s.rule) b).1
kind_follow n s t Predicate h = tt
kind_follow n s t (Atom l) h = tt
kind_follow n s t Action h = tt
kind_follow n s t (Set f c) h = tt
kind_follow n s t (NotSet f c) h = tt
kind_follow n s t Wildcard h = tt
kind_follow n s t Precedence h = tt

-- a net has a state
some_states : (g : Graph) → 0 < size (net g.lists)
some_states g =
    let n = net g.lists in
    let few = (or_parts (counts_outside (counts_of n)) (type_outside n.max) g.limits).0 in
    let states = (or_parts (outside 2 512 (pos (size n))) _ (or_parts (outside 1 64 (pos (length n.rules))) _ few).1).0 in
    omega (arith, ints, (or_parts (lt_z (pos (size n)) (pos 2)) _ states).0)

pub few_states : (g : Graph) → size (net g.lists) ≤ 512
few_states g = few_items g.lists.states

pub end_inside : (g : Graph) (s : ℕ) → s < size (net g.lists) → (state_at (net g.lists) s).end ≤ length (net g.lists).edges
end_inside g s l =
    let n = net g.lists in
    let rise = ends_rise n (runs_of g) s (size n - 1) (omega arith) (omega arith) in
    omega (arith, rise, (sound_of g).used_up)

module _ (g : Graph) (s j : ℕ) (l : s < size (net g.lists)) (of : Of (net g.lists) s j) where
  pub edge_inside : j < length (net g.lists).edges
  edge_inside = omega (arith, end_inside g s l, of.1)

  pub target_inside : (edge_at (net g.lists) j).target < size (net g.lists)
  target_inside = let n = net g.lists in kind_target n (sound_of g) (state_at n s) (edge_at n j).target (edge_at n j).kind (((sound_of g).states s l).edges j of)

  pub follow_inside : (f : ℕ) → move_of (edge_at (net g.lists) j).kind ≡ Call f → f < size (net g.lists)
  follow_inside f e = let n = net g.lists in subst (GoesOnInside n) e (kind_follow n (state_at n s) (edge_at n j).target (edge_at n j).kind (((sound_of g).states s l).edges j of))

-- each edge before the place where the first k states' edges end is one of theirs
owner_before : (n : Net) → Runs n → (j k : ℕ) → k ≤ size n → j < end_before n.states k → (s : ℕ) × (s < size n) × Of n s j
owner_before n r j zero l h = absurd (none h)
  where
    none : j < 0 → ⊥
    none h = omega arith
owner_before n r j (suc k) l h = at (λ b. owner_before n r j k (omega arith) b) (cases_lt j (end_before n.states k))
  where
    at : (j < end_before n.states k → (s : ℕ) × (s < size n) × Of n s j) → (j < end_before n.states k) ⊎ (end_before n.states k ≤ j) → (s : ℕ) × (s < size n) × Of n s j
    at earlier (inl b) = earlier b
    at earlier (inr b) = (k, omega arith, (omega (arith, (r k (omega arith)).0), h))

-- so every edge is some state's
pub owner : (g : Graph) (j : ℕ) → j < length (net g.lists).edges → (s : ℕ) × (s < size (net g.lists)) × Of (net g.lists) s j
owner g j l =
    let n = net g.lists in
    let e : suc (size n - 1) ≡ size n = omega (arith, some_states g) in
    owner_before n (runs_of g) j (size n) (omega arith) (subst (λ k. j < end_before n.states k) e (omega (arith, (sound_of g).used_up)))

kind_label : (n : Net) (s : AtnState) (t : ℕ) (k : TransitionKind) → kind_fits n s t k ≡ true → LabelFits n k
kind_label n s t Epsilon h = tt
kind_label n s t (Range i) h = or_right (eof_only i) _ (and_parts (in_rule n t s.rule) (range_fits n i) h).1
kind_label n s t (Rule r f) h = tt
kind_label n s t Predicate h = tt
kind_label n s t (Atom l) h = (and_parts (in_rule n t s.rule) (interval_fits n (from_to l l)) h).1
kind_label n s t Action h = tt
kind_label n s t (Set f c) h = (and_parts (in_rule n t s.rule) (set_fits n f c) h).1
kind_label n s t (NotSet f c) h = (and_parts (in_rule n t s.rule) (set_fits n f c) h).1
kind_label n s t Wildcard h = tt
kind_label n s t Precedence h = tt

pub label_fits : (g : Graph) (j : ℕ) → j < length (net g.lists).edges → LabelFits (net g.lists) (edge_at (net g.lists) j).kind
label_fits g j l =
    let n = net g.lists in
    let o = owner g j l in
    kind_label n (state_at n o.0) (edge_at n j).target (edge_at n j).kind (((sound_of g).states o.0 o.1).edges j o.2)
