-- What there is to see of a parser.
use Rattle.std.specs.Prelude.{ℕ, Bool, List, ℤ, pos, Option, None, unwrap_or, replicate, false, option_to_list}
use Rattle.std.specs.List.{flat_map}
use Rattle.atn_graph.specs.Net.{Net}
use Rattle.ll1_analyzer.specs.Chains.{follow_states}
use Rattle.leaves.specs.Leaves.{LeafFields}
use Rattle.token.specs.Tokens.{Fields, type_number, token_index}
use Rattle.token_stream.specs.Tapes.{token_at}
use Rattle.token_stream.specs.Streams.{shown_at}
use Rattle.recovery_model.specs.Calls.{InputMismatch}
use Rattle.recovery_model.specs.declared.strategy_state.Mode.{Mode}
use Rattle.recovery_model.specs.declared.strategy_state.Mode.TheVariants.{Normal}
use Rattle.recovery_model.specs.declared.open_rule.OpenRule.{OpenRule}

-- where a parser stood: its state, and the invoking states of its open rules
pub record Pair : Type 0 where
  pub state : ℕ
  pub chain : List ℕ

-- the strategy's state: its mode, the place from which it last searched, the states in which it was called to recover since the
-- error condition was last ended, and the pair that sync saved
pub record StrategyState : Type 0 where
  pub mode : Mode
  pub last_error_index : Option ℕ
  pub last_error_states : List Bool
  pub next_tokens : Option Pair

-- The stream's tape, and what it shows; the leaves, and the room for more; the state; the open rules, innermost first; the
-- strategy's state; the latest input mismatch; and whether tokens of the stream's kind have a start and a stop.
pub record View : Type 0 where
  pub tape : List Fields
  pub shown : List Fields
  pub leaves : List LeafFields
  pub free : ℕ
  pub state : Option ℕ
  pub open_rules : List OpenRule
  pub strategy : StrategyState
  pub input_mismatch : Option InputMismatch
  pub has_span : Bool

abbrev pub no_error_states : List Bool
no_error_states = replicate 512 false

abbrev pub new_strategy_state : StrategyState
new_strategy_state = record { mode = Normal; last_error_index = None; last_error_states = no_error_states; next_tokens = None }

-- the current token, and its place; the k-th type ahead
abbrev pub current : View → Fields
current v = token_at v.shown 0

abbrev pub place : View → ℕ
place v = token_index (current v)

abbrev pub ahead : View → ℕ → ℤ
ahead v k = type_number (shown_at v.shown (pos k)).typ

-- the state, which is one of the net's while a rule is open
abbrev pub here : View → ℕ
here v = unwrap_or v.state 0

-- the invoking states of the open rules but the outermost, innermost first, and their follow states
abbrev pub chain : View → List ℕ
chain v = flat_map (λ o. option_to_list o.invoking) v.open_rules

abbrev pub follows : Net → View → List ℕ
follows n v = follow_states n (chain v)

abbrev pub own_pair : View → Pair
own_pair v = record { state = here v; chain = chain v }
