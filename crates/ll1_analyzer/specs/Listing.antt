-- Follow states in their order.
use Rattle.std.specs.Prelude.{◌≡◌, ℕ, List, map, Result, IfOk}
use Rattle.errors.specs.declared.denial.Denial.{Denial}
use Rattle.errors.specs.Denials.{DeniesFirst}
use Rattle.fixed_vec.specs.declared.fixed_vec.FixedVec.{FixedVec}
use Rattle.fixed_vec.specs.Items.{items}
use Rattle.atn_graph.specs.Net.{Net}
use Rattle.ll1_analyzer.specs.Chains.{follow_states, ChainFault}
use Rattle.ll1_analyzer.specs.declared.chain.TheConstants.{MAX_CHAIN}
use Rattle.ll1_analyzer.specs.declared.chain.RuleTransition.{RuleTransition}

abbrev pub follow : RuleTransition → ℕ
follow t = t.follow_state

-- A faulty chain is denied; else the calls of its states are read, in their order.
pub record ReadsCalls (n : Net) (chain : List ℕ) (r : Result (FixedVec RuleTransition MAX_CHAIN) Denial) : Type 0 where
  pub verdict : DeniesFirst (ChainFault n chain) r
  pub calls : IfOk r (λ es. map follow (items es) ≡ follow_states n chain)

-- and the follow states are those of the calls
pub record Lists (n : Net) (chain : List ℕ) (r : Result (FixedVec ℕ MAX_CHAIN) Denial) : Type 0 where
  pub verdict : DeniesFirst (ChainFault n chain) r
  pub follows : IfOk r (λ f. items f ≡ follow_states n chain)
