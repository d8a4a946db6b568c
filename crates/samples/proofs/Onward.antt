-- How a walk ends, by the edges of the state that it begins at.
use Rattle.std.proofs.Common.{◌≡◌, ℕ, ◌+◌, ◌↔◌, true, false, ◌⊎◌, List, [], ◌∷◌, Option, Some, None, ℤ, sym, refl, subst, inl, inr, arith}
use Rattle.std.proofs.lemmas.Bool.{both_ways, cases_eq}
use Rattle.atn_graph.specs.declared.transition.Move.{Move}
use Rattle.atn_graph.specs.declared.transition.Move.TheVariants.{Along, Call, Token}
use Rattle.atn_graph.specs.declared.transition.TransitionKind.{TransitionKind}
use Rattle.atn_graph.specs.declared.transition.TransitionKind.TheVariants.{Epsilon, Range, Rule, Predicate, Atom, Action, Set, NotSet, Wildcard, Precedence}
use Rattle.atn_graph.specs.Kinds.{move_of, is_stop}
use Rattle.atn_graph.specs.Net.{Net, Of, state_at, edge_at}
use Rattle.atn.specs.Walks.{Stop, HasEdge, Walk}
use Rattle.atn.specs.Labels.{takes, TakesAt}
use Rattle.ll1_analyzer.specs.Sets.{EndsWith, EndsOnStop, Types, CanEnd}

-- A walk from s on the stack p ends with a type, or on a stop state.
abbrev pub Ends : Net → Option ℤ → ℕ → List ℕ → Type 0
Ends n (Some x) s p = EndsWith n s p x
Ends n None s p = EndsOnStop n s p

-- It ends at an edge of the kind k if that takes the type.
abbrev pub Taken : Net → Option ℤ → TransitionKind → Type 0
Taken n (Some x) k = takes n k x ≡ true
Taken n None k = ⊥

-- How it ends over an edge to t of the kind k, by the move that it makes there.
abbrev pub Over : Net → Option ℤ → List ℕ → TransitionKind → ℕ → Move → Type 0
Over n o p k t Along = Ends n o t p
Over n o p k t (Call f) = Ends n o t (f ∷ p)
Over n o p k t Token = Taken n o k

abbrev pub Ahead : Net → Option ℤ → List ℕ → ℕ → Type 0
Ahead n o p j = Over n o p (edge_at n j).kind (edge_at n j).target (move_of (edge_at n j).kind)

-- One of the edges of s leads to such an end.
pub record Onward (n : Net) (o : Option ℤ) (s : ℕ) (p : List ℕ) : Type 0 where
  pub edge : ℕ
  pub of : Of n s edge
  pub ahead : Ahead n o p edge

-- an edge that takes a type ends the walk
token_of_takes : (n : Net) (k : TransitionKind) (x : ℤ) → takes n k x ≡ true → move_of k ≡ Token
token_of_takes n Epsilon x e = cc
token_of_takes n (Range i) x e = refl
token_of_takes n (Rule r f) x e = cc
token_of_takes n Predicate x e = cc
token_of_takes n (Atom t) x e = refl
token_of_takes n Action x e = cc
token_of_takes n (Set f c) x e = refl
token_of_takes n (NotSet f c) x e = refl
token_of_takes n Wildcard x e = refl
token_of_takes n Precedence x e = cc

module _ (n : Net) where
  -- a walk over an edge
  over : (o : Option ℤ) (s : ℕ) (p : List ℕ) {t : ℕ} {m : Move} (e : HasEdge n s t m) → Over n o p (edge_at n e.number).kind t m → Onward n o s p
  over o s p {t} {m} e a =
      let k = (edge_at n e.number).kind in
      record { edge = e.number; of = e.of; ahead = subst (λ u. Over n o p k u (move_of k)) (sym e.leads) (subst (Over n o p k t) (sym e.moves) a) }

  -- a walk takes one of the edges where it begins, unless that is a stop state
  onward_with : (x : ℤ) {s k : ℕ} {p q : List ℕ} → Walk n s p k q → is_stop (state_at n s).kind ≡ false → TakesAt n k x → Onward n (Some x) s p
  onward_with x {p = p} Walk.here goes t =
      let k = (edge_at n t.edge).kind in
      record { edge = t.edge; of = t.of; ahead = subst (Over n (Some x) p k (edge_at n t.edge).target) (sym (token_of_takes n k x t.takes)) t.takes }
  onward_with x {s} {k} {p} {q} (Walk.along e w) goes t = over (Some x) s p e (record { state = k; stack = q; walk = w; takes = t })
  onward_with x {s} {k} {p} {q} (Walk.call e w) goes t = over (Some x) s p e (record { state = k; stack = q; walk = w; takes = t })
  onward_with x (Walk.back e w) goes t = absurd (both_ways _ goes e)

  onward_on_stop : {s k : ℕ} {p q : List ℕ} → Walk n s p k q → q ≡ [] → is_stop (state_at n s).kind ≡ false → Stop n k → Onward n None s p
  onward_on_stop Walk.here is goes stop = absurd (both_ways _ goes stop)
  onward_on_stop {s} {k} {p} (Walk.along {t = t} e w) is goes stop = over None s p e (record { state = k; walk = subst (Walk n t p k) is w; stop = stop })
  onward_on_stop {s} {k} {p} (Walk.call {t = t} {f = f} e w) is goes stop = over None s p e (record { state = k; walk = subst (Walk n t (f ∷ p) k) is w; stop = stop })
  onward_on_stop (Walk.back e w) is goes stop = absurd (both_ways _ goes e)

  pub onward : (o : Option ℤ) (s : ℕ) (p : List ℕ) → is_stop (state_at n s).kind ≡ false → Ends n o s p → Onward n o s p
  onward (Some x) s p goes e = onward_with x e.walk goes e.takes
  onward None s p goes e = onward_on_stop e.walk refl goes e.stop

  -- and an edge that leads to such an end begins a walk that ends so
  longer : (o : Option ℤ) {s t : ℕ} {p q : List ℕ} → ((k : ℕ) (r : List ℕ) → Walk n t q k r → Walk n s p k r) → Ends n o t q → Ends n o s p
  longer (Some x) first e = record { state = e.state; stack = e.stack; walk = first e.state e.stack e.walk; takes = e.takes }
  longer None first e = record { state = e.state; walk = first e.state [] e.walk; stop = e.stop }

  ends_here : (o : Option ℤ) (s : ℕ) (p : List ℕ) (j : ℕ) → Of n s j → Taken n o (edge_at n j).kind → Ends n o s p
  ends_here (Some x) s p j of e = record { state = s; stack = p; walk = Walk.here; takes = record { edge = j; of = of; takes = e } }
  ends_here None s p j of e = absurd e

  pub ends_of_onward : (o : Option ℤ) (s : ℕ) (p : List ℕ) → Onward n o s p → Ends n o s p
  ends_of_onward o s p w = at (move_of (edge_at n w.edge).kind) refl w.ahead
    where
      at : (m : Move) → move_of (edge_at n w.edge).kind ≡ m → Over n o p (edge_at n w.edge).kind (edge_at n w.edge).target m → Ends n o s p
      at Along is e = longer o (λ k r. Walk.along (record { number = w.edge; of = w.of; leads = refl; moves = is })) e
      at (Call f) is e = longer o (λ k r. Walk.call (record { number = w.edge; of = w.of; leads = refl; moves = is })) e
      at Token is e = ends_here o s p w.edge w.of e

  module _ (o : Option ℤ) where
    -- so no walk ends that begins at a state with no edge
    pub over_none : (s : ℕ) (p : List ℕ) → is_stop (state_at n s).kind ≡ false → (state_at n s).first ≡ (state_at n s).end → Ends n o s p → ⊥
    over_none s p goes none e = let w = onward o s p goes e in omega (arith, w.of, none)

    -- walks from a state with one edge end as those over that edge do
    pub over_one : (s j : ℕ) (p : List ℕ) → is_stop (state_at n s).kind ≡ false → (state_at n s).first ≡ j → (state_at n s).end ≡ j + 1 → (Ends n o s p ↔ Ahead n o p j)
    over_one s j p goes first end = (to, from)
      where
        to : Ends n o s p → Ahead n o p j
        to e = let w = onward o s p goes e in let is : w.edge ≡ j = omega (arith, w.of, first, end) in subst (Ahead n o p) is w.ahead

        from : Ahead n o p j → Ends n o s p
        from a = ends_of_onward o s p (record { edge = j; of = (omega arith, omega arith); ahead = a })

    -- and those from a state with two edges as those over one of them
    pub over_two : (s j : ℕ) (p : List ℕ) → is_stop (state_at n s).kind ≡ false → (state_at n s).first ≡ j → (state_at n s).end ≡ j + 2 → (Ends n o s p ↔ (Ahead n o p j ⊎ Ahead n o p (j + 1)))
    over_two s j p goes first end = (to, from)
      where
        at : (w : Onward n o s p) → (w.edge ≡ j) ⊎ (w.edge ≡ j → ⊥) → Ahead n o p j ⊎ Ahead n o p (j + 1)
        at w (inl is) = inl (subst (Ahead n o p) is w.ahead)
        at w (inr ne) = let is : w.edge ≡ j + 1 = omega (arith, w.of, first, end, ne) in inr (subst (Ahead n o p) is w.ahead)

        to : Ends n o s p → Ahead n o p j ⊎ Ahead n o p (j + 1)
        to e = let w = onward o s p goes e in at w (cases_eq w.edge j)

        from : Ahead n o p j ⊎ Ahead n o p (j + 1) → Ends n o s p
        from (inl a) = ends_of_onward o s p (record { edge = j; of = (omega arith, omega arith); ahead = a })
        from (inr a) = ends_of_onward o s p (record { edge = j + 1; of = (omega arith, omega arith); ahead = a })

  -- a walk on an empty stack ends at once on a stop state
  pub on_stop : (s : ℕ) → Stop n s → CanEnd n s
  on_stop s stop = record { state = s; walk = Walk.here; stop = stop }

  -- and ends with no type at a state that has no edge
  no_type_of_walk : (x : ℤ) {s k : ℕ} {p q : List ℕ} → Walk n s p k q → p ≡ [] → (state_at n s).first ≡ (state_at n s).end → TakesAt n k x → ⊥
  no_type_of_walk x Walk.here is none t = omega (arith, t.of, none)
  no_type_of_walk x (Walk.along e w) is none t = omega (arith, e.of, none)
  no_type_of_walk x (Walk.call e w) is none t = omega (arith, e.of, none)
  no_type_of_walk x (Walk.back e w) is none t = cc

  pub no_type : (s : ℕ) → (state_at n s).first ≡ (state_at n s).end → (x : ℤ) → Types n s x → ⊥
  no_type s none x e = no_type_of_walk x e.walk refl none e.takes
