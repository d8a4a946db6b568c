-- Tests that agree with a net, from what they are at each of its states.
use Rattle.std.proofs.Common.{◌≡◌, ℕ, ◌<◌, ◌≤◌, ◌↔◌, ◌⊎◌, Bool, true, false, List, [], ◌∷◌, length, get_or, ℤ, Some, None, Option, Decides, refl, sym, ap, subst, inl, inr, arith, ◌∙◌}
use Rattle.std.proofs.lemmas.List.{get_or_past}
use Rattle.std.proofs.lemmas.Bool.{both_ways, cases_lt}
use Rattle.atn_graph.specs.Kinds.{is_stop}
use Rattle.atn_graph.specs.Net.{Net, no_state, state_at, size}
use Rattle.atn.specs.Walks.{Stop, Walk}
use Rattle.atn.specs.Labels.{TakesAt}
use Rattle.ll1_analyzer.specs.Sets.{Types, CanEnd}
use Rattle.ll1_analyzer.proofs.Within.{decides_like}
use Rattle.samples.proofs.Each.{Each, each}
use Rattle.samples.proofs.Onward.{Ends, over_none, no_type}
use Rattle.recovery_model.specs.Sets.{WithinSets, Agree, no_types}

-- how facts are decided: as others are, always, or never
pub by : (b : Bool) {P Q : Type 0} → (Q ↔ P) → Decides b P → Decides b Q
by b e d = decides_like b e.1 e.0 d

pub always : {P : Type 0} → P → Decides true P
always p = (λ h. p, λ q. refl)

pub never : {P : Type 0} → (P → ⊥) → Decides false P
never none = (λ h. absurd (both_ways false refl h), λ p. absurd (none p))

abbrev pub table : List (ℤ → Bool) → List Bool → WithinSets
table ts es = record { types = λ s. get_or ts s no_types; end = λ s. get_or es s false }

module _ (n : Net) where
  outside : (s : ℕ) → size n ≤ s → ((state_at n s).first ≡ (state_at n s).end) × (is_stop (state_at n s).kind ≡ false)
  outside s l =
      let is : state_at n s ≡ no_state = get_or_past n.states s no_state l in
      (ap (λ k. k.first) is ∙ sym (ap (λ k. k.end) is), ap (λ k. is_stop k.kind) is)

  pub agree_by :
      (ts : List (ℤ → Bool)) (es : List Bool) → length ts ≡ size n → length es ≡ size n →
      ((x : ℤ) → Each (λ s. Decides (get_or ts s no_types x) (Types n s x)) 0 (size n)) →
      Each (λ s. Decides (get_or es s false) (CanEnd n s)) 0 (size n) → Agree n (table ts es)
  agree_by ts es types_long ends_long types ends = record {
    types = λ s x. types_at s x (cases_lt s (size n));
    ends = λ s. end_at s (cases_lt s (size n));
  }
    where
      types_at : (s : ℕ) (x : ℤ) → (s < size n) ⊎ (size n ≤ s) → Decides (get_or ts s no_types x) (Types n s x)
      types_at s x (inl l) = each (λ k. Decides (get_or ts k no_types x) (Types n k x)) 0 (size n) s (types x) (omega arith) (omega (arith, l))
      types_at s x (inr l) =
          subst (λ f. Decides (f x) (Types n s x)) (sym (get_or_past ts s no_types (omega (arith, l, types_long))))
          (never (no_type n s (outside s l).0 x))

      end_at : (s : ℕ) → (s < size n) ⊎ (size n ≤ s) → Decides (get_or es s false) (CanEnd n s)
      end_at s (inl l) = each (λ k. Decides (get_or es k false) (CanEnd n k)) 0 (size n) s ends (omega arith) (omega (arith, l))
      end_at s (inr l) =
          subst (λ b. Decides b (CanEnd n s)) (sym (get_or_past es s false (omega (arith, l, ends_long))))
          (never (over_none n None s [] (outside s l).1 (outside s l).0))

  -- walks from a stop state with no edge go on at the top of the stack
  with_back : (x : ℤ) {s k : ℕ} {p q : List ℕ} → Walk n s p k q → (f : ℕ) (r : List ℕ) → p ≡ f ∷ r → (state_at n s).first ≡ (state_at n s).end → TakesAt n k x → Ends n (Some x) f r
  with_back x Walk.here f r is none t = absurd (omega (arith, t.of, none))
  with_back x (Walk.along e w) f r is none t = absurd (omega (arith, e.of, none))
  with_back x (Walk.call e w) f r is none t = absurd (omega (arith, e.of, none))
  with_back x {k = k} {q = q} (Walk.back {f = g} {p = u} stop w) f r is none t =
      let top : g ≡ f = cc in
      let rest : u ≡ r = cc in
      record { state = k; stack = q; walk = subst (λ a. Walk n a r k q) top (subst (λ b. Walk n g b k q) rest w); takes = t }

  stop_back : {s k : ℕ} {p q : List ℕ} → Walk n s p k q → q ≡ [] → (f : ℕ) (r : List ℕ) → p ≡ f ∷ r → (state_at n s).first ≡ (state_at n s).end → Stop n k → Ends n None f r
  stop_back Walk.here end f r is none stop = cc
  stop_back (Walk.along e w) end f r is none stop = absurd (omega (arith, e.of, none))
  stop_back (Walk.call e w) end f r is none stop = absurd (omega (arith, e.of, none))
  stop_back {k = k} {q = q} (Walk.back {f = g} {p = u} now w) end f r is none stop =
      let top : g ≡ f = cc in
      let rest : u ≡ r = cc in
      record { state = k; walk = subst (λ c. Walk n f r k c) end (subst (λ a. Walk n a r k q) top (subst (λ b. Walk n g b k q) rest w)); stop = stop }

  pub over_back : (o : Option ℤ) (s f : ℕ) (r : List ℕ) → Stop n s → (state_at n s).first ≡ (state_at n s).end → (Ends n o s (f ∷ r) ↔ Ends n o f r)
  over_back (Some x) s f r stop none = (λ e. with_back x e.walk f r refl none e.takes, λ e. record { state = e.state; stack = e.stack; walk = Walk.back stop e.walk; takes = e.takes })
  over_back None s f r stop none = (λ e. stop_back e.walk refl f r refl none e.stop, λ e. record { state = e.state; walk = Walk.back stop e.walk; stop = e.stop })
