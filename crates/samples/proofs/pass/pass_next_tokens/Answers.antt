use Rattle.std.proofs.Common.{◌≡◌, ◌∙◌, IfOk, ap, subst}
use Rattle.errors.specs.Denials.{DeniesFirst}
use Rattle.atn.specs.Checked.{net_of}
use Rattle.ll1_analyzer.specs.Answers.{HoldsExactly}
use Rattle.ll1_analyzer.specs.Chains.{StateFault}
use Rattle.ll1_analyzer.specs.Sets.{Within}
use Rattle.samples.specs.Pass.{pass}
use Rattle.samples.proofs.pass.pass_next_tokens.Goals as goal

pub returns-clause-verdict : goal.returns-clause-verdict
returns-clause-verdict c =
    let is : net_of c.new-analyzer.result.atn.now ≡ pass = ap net_of c.new-analyzer.ensures.net ∙ c.in_ok-atn.ensures.net in
    subst (λ n. DeniesFirst (StateFault n c.args.s) c.next_tokens.result) is c.next_tokens.ensures.verdict

pub returns-clause-holds : goal.returns-clause-holds
returns-clause-holds c =
    let is : net_of c.new-analyzer.result.atn.now ≡ pass = ap net_of c.new-analyzer.ensures.net ∙ c.in_ok-atn.ensures.net in
    subst (λ n. IfOk c.next_tokens.result (λ set. HoldsExactly set (Within n c.args.s))) is (c.next_tokens.ensures.holds c.new-analyzer.ensures.agrees)
