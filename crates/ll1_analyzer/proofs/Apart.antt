-- In a within-rule set the types and the end stand apart: EPSILON is no type.
use Rattle.std.proofs.Common.{◌≢◌, ◌↔◌, ℕ, ℤ, refl, inl, inr}
use Rattle.atn_graph.specs.Net.{Net}
use Rattle.atn.specs.declared.atn.Atn.{Atn}
use Rattle.atn.specs.Checked.{net_of}
use Rattle.ll1_analyzer.specs.Sets.{epsilon, Types, CanEnd, Within}
use Rattle.ll1_analyzer.proofs.Labels.{takes_some}

-- a type of a checked net is not EPSILON
pub type_is_some : (a : Atn) (s : ℕ) (x : ℤ) → Types (net_of a) s x → x ≢ epsilon
type_is_some a s x e = takes_some a e.state x e.takes

pub epsilon_is_no_type : (a : Atn) (s : ℕ) → Types (net_of a) s epsilon → ⊥
epsilon_is_no_type a s e = type_is_some a s epsilon e refl

-- so EPSILON stands for the end alone
pub end_of_within : (a : Atn) (s : ℕ) → Within (net_of a) s epsilon → CanEnd (net_of a) s
end_of_within a s (inl e) = absurd (epsilon_is_no_type a s e)
end_of_within a s (inr e) = e.1

pub within_of_end : (n : Net) (s : ℕ) → CanEnd n s → Within n s epsilon
within_of_end n s e = inr (refl, e)

pub within_epsilon : (a : Atn) (s : ℕ) → (Within (net_of a) s epsilon ↔ CanEnd (net_of a) s)
within_epsilon a s = (end_of_within a s, within_of_end (net_of a) s)

-- and what is not EPSILON is a type, in any net
pub types_of_within : (n : Net) (s : ℕ) (x : ℤ) → x ≢ epsilon → Within n s x → Types n s x
types_of_within n s x ne (inl e) = e
types_of_within n s x ne (inr e) = absurd (ne e.0)

pub within_type : (n : Net) (s : ℕ) (x : ℤ) → x ≢ epsilon → (Within n s x ↔ Types n s x)
within_type n s x ne = (types_of_within n s x ne, λ e. inl e)
