-- What holds of every view that the calls of a new parser lead to.
use Rattle.std.specs.Prelude.{◌≡◌, ℕ, ◌<◌, ◌≤◌, Bool, true, false, ◌&&◌, ◌==◌, nat_lt, nat_le, List, [], ◌∷◌, length, Option, Some, None, is_none, is_some}
use Rattle.std.specs.List.{list_all}
use Rattle.std.specs.Option.{option_map_or}
use Rattle.errors.specs.declared.denial.Denial.{Denial}
use Rattle.atn.specs.declared.atn.Atn.{Atn}
use Rattle.atn.specs.Checked.{net_of}
use Rattle.atn_graph.specs.Net.{Net, size, state_at, edges_of}
use Rattle.ll1_analyzer.specs.Chains.{follow_of, ChainFault, QuestionFault}
use Rattle.token_stream.specs.Streams.{Shows}
use Rattle.recovery_model.specs.declared.call.Call.{Call}
use Rattle.recovery_model.specs.declared.open_rule.OpenRule.{OpenRule}
use Rattle.recovery_model.specs.Calls.{InputMismatch}
use Rattle.recovery_model.specs.Sets.{WithinSets}
use Rattle.recovery_model.specs.Views.{View, Pair, here, chain}
use Rattle.recovery_model.specs.RecoverInline.{next_state}
use Rattle.recovery_model.specs.Denials.{first_calls}
use Rattle.recovery_model.specs.Steps.{step}
use Rattle.recovery_model.specs.TapeLaw.{New}

-- the state is one of the rule's
abbrev pub is_in : Net → ℕ → Option ℕ → Bool
is_in n r None = false
is_in n r (Some s) = nat_lt s (size n) && (state_at n s).rule == r

-- a rule was invoked at a state that calls it, or, as the outermost, at none
abbrev pub is_invoked : Net → ℕ → Option ℕ → Bool
is_invoked n r None = true
is_invoked n r (Some s) = first_calls r (edges_of n s)

-- With no rule open there is no state. Else the state is one of the innermost rule, which is a rule of the net; and where that
-- was invoked, the parser stood in the same way in the rules below.
abbrev pub stands : Net → Option ℕ → List OpenRule → Bool
stands n state [] = is_none state
stands n state (o ∷ os) = (nat_lt o.rule (length n.rules) && is_in n o.rule state) && (is_invoked n o.rule o.invoking && stands n o.invoking os)

-- a pair of a state of the net and a chain that is not faulty
abbrev pub is_sound_chain : Net → List ℕ → Bool
is_sound_chain n ss = nat_le (length ss) 63 && list_all (λ s. is_some (follow_of n s)) ss

abbrev pub is_sound_pair : Net → ℕ → List ℕ → Bool
is_sound_pair n s ss = nat_lt s (size n) && is_sound_chain n ss

-- the same of the saved pair, and of the latest input mismatch, if there is one
abbrev pub is_sound_saved : Net → Option Pair → Bool
is_sound_saved n p = option_map_or (λ q. is_sound_pair n q.state q.chain) p true

abbrev pub is_sound_kept : Net → Option InputMismatch → Bool
is_sound_kept n m = option_map_or (λ k. is_sound_pair n k.state k.chain) m true

-- At most 64 rules are open, and the parser stands in them; the saved pair and the latest input mismatch are sound; there is a mark for each of 512 states;
-- and the stream keeps its law.
pub record Coherent (n : Net) (v : View) : Type 0 where
  pub open_bounded : length v.open_rules ≤ 64
  pub stands : stands n v.state v.open_rules ≡ true
  pub saved : is_sound_saved n v.strategy.next_tokens ≡ true
  pub input_mismatch : is_sound_kept n v.input_mismatch ≡ true
  pub marks : length v.strategy.last_error_states ≡ 512
  pub shows : Shows v.tape v.shown

-- So no question about sets that a parser asks is denied: about its state while a rule is open, about the state where the first
-- edge leads, about its open rules, and about the pairs that it keeps.
pub record NeverDenied (n : Net) (v : View) : Type 0 where
  pub at_state : 0 < length v.open_rules → (d : Denial) → QuestionFault n (here v) (chain v) d → ⊥
  pub at_next : (d : Denial) → QuestionFault n (next_state n (here v)) (chain v) d → ⊥
  pub at_open_rules : (d : Denial) → ChainFault n (chain v) d → ⊥
  pub at_saved : (p : Pair) → v.strategy.next_tokens ≡ Some p → (d : Denial) → QuestionFault n p.state p.chain d → ⊥
  pub at_kept : (m : InputMismatch) → v.input_mismatch ≡ Some m → (d : Denial) → QuestionFault n m.state m.chain d → ⊥

-- A new parser's view is coherent, each call keeps it so, and then no question is denied.
pub record ViewsCohere (a : Atn) : Type 0 where
  pub new : (v : View) → New v → Coherent (net_of a) v
  pub input_mismatch : (w : WithinSets) (c : Call) (v : View) → Coherent (net_of a) v → Coherent (net_of a) (step (net_of a) w c v).view
  pub asks : (v : View) → Coherent (net_of a) v → NeverDenied (net_of a) v
