-- The theorems: every list of calls of a new parser keeps the tape law, and the strategy's state is what the law's words say.
use Rattle.std.specs.Prelude.{◌≡◌, List, [], reverse, None, ℕ, ℤ, Decides}
use Rattle.atn.specs.declared.atn.Atn.{Atn}
use Rattle.atn.specs.Checked.{net_of}
use Rattle.atn_graph.specs.Net.{Net}
use Rattle.token.specs.Tokens.{Fields}
use Rattle.token_stream.specs.Streams.{Shows}
use Rattle.recovery_model.specs.declared.call.Call.{Call}
use Rattle.ll1_analyzer.specs.Sets.{Within, Expected, InContext, Recovery}
use Rattle.recovery_model.specs.Sets.{WithinSets, Agree, within as within_test, expected as expected_test, recovery as recovery_test}
use Rattle.recovery_model.specs.Views.{View, new_strategy_state}
use Rattle.recovery_model.specs.Passing.{in_error_recovery_mode}
use Rattle.recovery_model.specs.Steps.{step}
use Rattle.recovery_model.specs.Journals.{Event, Machine, run_of, journal_of, run, journal}
use Rattle.recovery_model.specs.Histories.{in_error_condition}
use Rattle.recovery_model.specs.Law.{Law}
use Rattle.recovery_model.specs.Matching.{MatchesHistory}

-- a parser that was just made, over a stream that shows these tokens of its tape: any leaves, free places and reports may be
-- there already
pub record New (v : View) : Type 0 where
  pub state : v.state ≡ None
  pub none_open : v.open_rules ≡ []
  pub strategy : v.strategy ≡ new_strategy_state
  pub input_mismatch : v.input_mismatch ≡ None
  pub shows : Shows v.tape v.shown

-- The calls keep the tape law, of what was shown and which leaves there were at first and of what they leave, by whatever rule.
abbrev pub KeepsLaw : Net → Machine → View → List Call → Type 0
KeepsLaw n m v cs = Law n v.shown v.leaves (journal_of m cs v) (run_of m cs v).shown (run_of m cs v).leaves

-- The tape law, for every checked net, every sets that are the net's by walks, every new parser and every list of calls,
-- denied ones too.
abbrev pub TapeLaw : Type 0
TapeLaw = (a : Atn) (w : WithinSets) → Agree (net_of a) w → (v : View) → New v → (cs : List Call) → KeepsLaw (net_of a) (step (net_of a) w) v cs

-- The strategy's state is what the history says: the mode, by faults that were reported, and the rest.
pub record Told (n : Net) (w : WithinSets) (first : List Fields) (h : List Event) (v : View) : Type 0 where
  pub tells : MatchesHistory n first h v
  pub mode : in_error_recovery_mode v ≡ in_error_condition n w first h

-- The second theorem: place, mode, marks, state and open rules follow from the calls, whatever the sets.
abbrev pub StrategyMatches : Type 0
StrategyMatches =
    (a : Atn) (w : WithinSets) (v : View) → New v → (cs : List Call) →
    Told (net_of a) w v.shown (reverse (journal (net_of a) w cs v)) (run (net_of a) w cs v)

-- By sets that agree, the steps look at the sets that walks define.
pub record SetsAreWalks (a : Atn) (w : WithinSets) : Type 0 where
  pub within : (s : ℕ) (x : ℤ) → Decides (within_test w s x) (Within (net_of a) s x)
  pub expected : (s : ℕ) (follows : List ℕ) (x : ℤ) → Decides (expected_test w s follows x) (Expected (net_of a) s follows x)
  pub in_context : (s : ℕ) (follows : List ℕ) (x : ℤ) → Decides (expected_test w s follows x) (InContext (net_of a) s follows x)
  pub recovery : (follows : List ℕ) (x : ℤ) → Decides (recovery_test w follows x) (Recovery (net_of a) follows x)
