use Rattle.std.proofs.Common.{rules, ◌≡◌, ℕ, ◌+◌, ◌<◌, ◌≤◌, true, false, length, Result, Ok, Err, is_ok, option_map, ◌⊎◌, sym, ap, ◌∙◌, subst, inl, inr, arith}
use Rattle.std.proofs.lemmas.Bool.{cases_lt, false≢true}
use Rattle.errors.specs.declared.denial.Denial.TheVariants.{FaultyChain}
use Rattle.fixed_vec.specs.Items.{items}
use Rattle.atn.specs.Checked.{net_of}
use Rattle.ll1_analyzer.specs.declared.chain.RuleTransition.{RuleTransition}
use Rattle.ll1_analyzer.specs.Chains.{first_follow}
use Rattle.ll1_analyzer.specs.Listing.{follow}
use Rattle.ll1_analyzer.proofs.Reading.{ReadSoFar, read_more, read_long, read_all, denied_faulty, no_call, too_long}
use Rattle.ll1_analyzer.proofs.chain.rule_transitions.Goals as goal

-- what was not pushed had no room
no_room : (k : ℕ) (r : Result (Unit {0}) RuleTransition) (P : Type 0) → false ≡ is_ok r → (k < 63 → (r ≡ Ok tt) × P) → 63 ≤ k
no_room k r P e room = at (cases_lt k 63)
  where
    at : (k < 63) ⊎ (63 ≤ k) → 63 ≤ k
    at (inl l) = absurd (false≢true (e ∙ ap is_ok (room l).0))
    at (inr l) = l

-- and what was pushed stands at the end
room : (k : ℕ) (r : Result (Unit {0}) RuleTransition) (t : RuleTransition) (P : Type 0) → true ≡ is_ok r → (63 ≤ k → (r ≡ Err t) × P) → k < 63
room k r t P e full = at (cases_lt k 63)
  where
    at : (k < 63) ⊎ (63 ≤ k) → k < 63
    at (inl l) = l
    at (inr l) = absurd (false≢true (sym (e ∙ ap is_ok (full l).0)))

pub returns-in_err-call : goal.returns-in_err-call
returns-in_err-call g c =
    let n = net_of (g.L.Lookahead.atn c.args.l.now) in
    let d = c.in_err-call.field-0.0 in
    let is : d ≡ FaultyChain = search rules in
    denied_faulty n c.args.chain.now c.from_residual.result d c.from_residual.ensures.1 is
    (no_call n c.args.chain.now c.loop-s.s-index c.loop-s-test.true (ap first_follow (sym c.edges.ensures) ∙ sym c.rule_transition.ensures ∙ ap (option_map follow) c.in_err-call.ensures.ok_part))

pub returns-in_err-map_err : goal.returns-in_err-map_err
returns-in_err-map_err g c =
    let n = net_of (g.L.Lookahead.atn c.args.l.now) in
    let d = c.in_err-map_err.field-0.0 in
    let is : d ≡ FaultyChain = search rules in
    let full = no_room (length (items c.loop-s.calls)) c.push.result _ c.in_err-map_err.ensures.variant c.push.ensures.room in
    denied_faulty n c.args.chain.now c.from_residual-in_err-map_err.result d c.from_residual-in_err-map_err.ensures.1 is
    (too_long n c.args.chain.now c.loop-s.s-index (items c.loop-s.calls) c.loop-s-test.true full c.loop-s.invariant)

pub loop-s-preserved : goal.loop-s-preserved
loop-s-preserved g c =
    let n = net_of (g.L.Lookahead.atn c.args.l.now) in
    let t = c.in_ok-call.call in
    let is = ap (option_map follow) (sym c.in_ok-call.ensures.ok_part) ∙ c.rule_transition.ensures ∙ ap first_follow c.edges.ensures in
    let fits = room (length (items c.loop-s.calls)) c.push.result t _ c.in_ok-map_err.ensures.variant c.push.ensures.full in
    subst (ReadSoFar n c.args.chain.now (c.loop-s.s-index + 1)) (sym (c.push.ensures.room fits).1)
    (read_more n c.args.chain.now c.loop-s.s-index (items c.loop-s.calls) t c.loop-s-test.true is c.loop-s.invariant)

pub returns-then-chain-gt-MAX_CHAIN : goal.returns-then-chain-gt-MAX_CHAIN
returns-then-chain-gt-MAX_CHAIN g c = read_long (net_of (g.L.Lookahead.atn c.args.l.now)) c.args.chain.now c.if-chain-gt-MAX_CHAIN.true

pub returns : goal.returns
returns g c =
    read_all (net_of (g.L.Lookahead.atn c.args.l.now)) c.args.chain.now c.loop-s.calls c.loop-s.s-index
    (omega (arith, c.if-chain-gt-MAX_CHAIN.false)) (omega arith) c.loop-s.invariant
