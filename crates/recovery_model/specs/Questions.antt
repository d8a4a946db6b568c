-- The questions that a parser answers about itself: what may come next, by its state and its open rules.
use Rattle.std.specs.Prelude.{◌≡◌, ℤ, [], Decides}
use Rattle.errors.specs.declared.denial.Denial.{Denial}
use Rattle.errors.specs.declared.denial.Denial.TheVariants.{NoRuleOpen}
use Rattle.atn_graph.specs.Net.{Net}
use Rattle.ll1_analyzer.specs.Sets.{Within, Expected, InContext, Recovery}
use Rattle.recovery_model.specs.Sets.{WithinSets, within, recovery}
use Rattle.recovery_model.specs.Views.{View, here, follows}
use Rattle.recovery_model.specs.RecoverInline.{expects}

-- With no rule open each is denied; and nothing else is.
abbrev pub OwnFault : View → Denial → Type 0
OwnFault v NoRuleOpen = v.open_rules ≡ []
OwnFault v _ = ⊥

-- its within-rule set, its expected set, its in-context set and its recovery set
abbrev pub OwnWithin : Net → View → ℤ → Type 0
OwnWithin n v = Within n (here v)

abbrev pub OwnExpected : Net → View → ℤ → Type 0
OwnExpected n v = Expected n (here v) (follows n v)

abbrev pub OwnInContext : Net → View → ℤ → Type 0
OwnInContext n v = InContext n (here v) (follows n v)

abbrev pub OwnRecovery : Net → View → ℤ → Type 0
OwnRecovery n v = Recovery n (follows n v)

-- By sets that agree with the net, these are the types that the steps look at.
pub record OwnSets (n : Net) (w : WithinSets) (v : View) : Type 0 where
  pub within : (x : ℤ) → Decides (within w (here v) x) (OwnWithin n v x)
  pub expected : (x : ℤ) → Decides (expects n w v x) (OwnExpected n v x)
  pub in_context : (x : ℤ) → Decides (expects n w v x) (OwnInContext n v x)
  pub recovery : (x : ℤ) → Decides (recovery w (follows n v) x) (OwnRecovery n v x)
