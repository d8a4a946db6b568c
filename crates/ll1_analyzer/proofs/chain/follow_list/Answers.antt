use Rattle.std.proofs.Common.{◌≡◌, ℕ, List, Result, Ok, Err, IsErrAnd, refl, sym, subst}
use Rattle.errors.specs.declared.denial.Denial.{Denial}
use Rattle.errors.specs.Denials.{First}
use Rattle.errors.proofs.Firsts.{denies}
use Rattle.fixed_vec.specs.declared.fixed_vec.FixedVec.{FixedVec}
use Rattle.atn_graph.specs.Net.{Net}
use Rattle.atn.specs.Checked.{net_of}
use Rattle.ll1_analyzer.specs.Chains.{ChainFault}
use Rattle.ll1_analyzer.specs.Listing.{Lists}
use Rattle.ll1_analyzer.proofs.chain.follow_list.Goals as goal

denied : (n : Net) (chain : List ℕ) (r : Result (FixedVec ℕ 63) Denial) (d : Denial) → IsErrAnd r (λ e. e ≡ d) → First (ChainFault n chain) d → Lists n chain r
denied n chain (Ok f) d is w = absurd is
denied n chain (Err e) d is w = record { verdict = denies (ChainFault n chain) e (subst (First (ChainFault n chain)) (sym is) w); follows = tt }

pub returns-in_err-calls : goal.returns-in_err-calls
returns-in_err-calls g c =
    let d = c.in_err-calls.field-0.0 in
    denied (net_of (g.L.Lookahead.atn c.args.l.now)) c.args.chain.now c.from_residual.result d c.from_residual.ensures.1 (c.in_err-calls.ensures.verdict.denied d refl)
