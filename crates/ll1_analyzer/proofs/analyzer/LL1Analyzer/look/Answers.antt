use Rattle.std.proofs.Common.{◌≡◌, ◌<◌, ◌≤◌, ◌⊎◌, Bool, ℕ, List, [], length, ℤ, Decides, sym, refl, ◌∙◌, subst, inl, inr, arith}
use Rattle.std.proofs.lemmas.Bool.{cases_lt, both_ways}
use Rattle.interval_set.specs.Intervals.{from_to, inside}
use Rattle.atn_graph.specs.Net.{Net, net, size}
use Rattle.atn.specs.Checked.{net_of}
use Rattle.atn.specs.Found.{found}
use Rattle.atn.specs.Reach.{Listed, KnowsNullable, KnowsReachedOver}
use Rattle.atn.proofs.Over.{knows_over}
use Rattle.atn.proofs.Labelling.{added}
use Rattle.ll1_analyzer.specs.Sets.{epsilon, EndsWith, Within}
use Rattle.ll1_analyzer.proofs.Within.{TakenBefore, before_more, all_taken, none_outside, with_epsilon, without_epsilon}
use Rattle.ll1_analyzer.proofs.analyzer.LL1Analyzer.look.Goals as goal

pub loop-k-preserved : goal.loop-k-preserved
loop-k-preserved c x =
    before_more (net_of c.args.self.now.atn.now) c.states-k-items.result.now x c.loop-k.k-index _ _ c.loop-k-test.true (c.loop-k.invariant x) (c.add_labels.ensures x)

-- the states found are all that s reaches, so their types are those that walks end with
taken : (n : Net) (s : ℕ) (x : ℤ) (b : Bool) (nullables xs found : List ℕ) (i : ℕ) → xs ≡ found → KnowsNullable n nullables
    → (s < size n → KnowsReachedOver (Listed nullables) n s found) → (size n ≤ s → found ≡ []) → length xs ≡ i
    → Decides b (TakenBefore n xs i x) → Decides b (EndsWith n s [] x)
taken n s x b nullables xs found i is known inside outside all d = at (cases_lt s (size n))
  where
    at : (s < size n) ⊎ (size n ≤ s) → Decides b (EndsWith n s [] x)
    at (inl l) = all_taken n xs x s b (knows_over n s xs nullables known (subst (KnowsReachedOver (Listed nullables) n s) (sym is) (inside l))) (subst (λ k. Decides b (TakenBefore n xs k x)) (sym all) d)
    at (inr l) = none_outside n xs x s i b l (is ∙ outside l) d

pub returns-then-has : goal.returns-then-has
returns-then-has c known x =
    let n = net_of c.args.self.now.atn.now in
    let d = taken n c.args.s x _ _ c.states-k-items.result.now (found c.reach-reached.result) c.loop-k.k-index c.states-k-items.ensures known
    (subst (λ g. c.args.s < size (net g.lists) → KnowsReachedOver (Listed (found c.args.self.now.nullables.states)) (net g.lists) c.args.s (found c.reach-reached.result)) c.args.self.now.of_the_net c.reach-reached.ensures.inside)
    (subst (λ g. size (net g.lists) ≤ c.args.s → found c.reach-reached.result ≡ []) c.args.self.now.of_the_net c.reach-reached.ensures.outside) (omega arith) (c.loop-k.invariant x) in
    subst (λ b. Decides b (Within n c.args.s x)) (sym (added c.loop-k.set (from_to epsilon epsilon) c.add_one.result c.add_one.new.self c.add_one.ensures refl x))
    (with_epsilon n c.args.s x _ d ((known c.args.s).0 (sym c.if-has.ensures)))

pub returns-else-has : goal.returns-else-has
returns-else-has c known x =
    let n = net_of c.args.self.now.atn.now in
    let d = taken n c.args.s x _ _ c.states-k-items.result.now (found c.reach-reached.result) c.loop-k.k-index c.states-k-items.ensures known
    (subst (λ g. c.args.s < size (net g.lists) → KnowsReachedOver (Listed (found c.args.self.now.nullables.states)) (net g.lists) c.args.s (found c.reach-reached.result)) c.args.self.now.of_the_net c.reach-reached.ensures.inside)
    (subst (λ g. size (net g.lists) ≤ c.args.s → found c.reach-reached.result ≡ []) c.args.self.now.of_the_net c.reach-reached.ensures.outside) (omega arith) (c.loop-k.invariant x) in
    without_epsilon n c.args.s x _ d (λ u. both_ways _ (sym c.if-has.ensures) ((known c.args.s).1 u))
