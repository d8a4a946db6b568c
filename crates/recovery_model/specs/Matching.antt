-- The strategy's state is what a history says.
use Rattle.std.specs.Prelude.{◌≡◌, ℕ, ◌<◌, false, List, ◌++◌, length, map, unwrap_or, slice_index_or, All}
use Rattle.atn_graph.specs.Net.{Net, size}
use Rattle.token.specs.Tokens.{Fields}
use Rattle.recovery_model.specs.Views.{View, place}
use Rattle.recovery_model.specs.Journals.{Event}
use Rattle.recovery_model.specs.Histories.{Standing, standing, shown_from, recovered_in, latest_search}

-- where a parser stands
abbrev pub stands : View → Standing
stands v = record { state = v.state; invoking = map (λ o. o.invoking) v.open_rules }

-- the states are some of the net's
pub record Inside (n : Net) (p : Standing) : Type 0 where
  pub state : unwrap_or p.state 0 < size n
  pub invoking : All (λ i. unwrap_or i 0 < size n) p.invoking

-- The parser stands where its calls brought it, the last error index and the last error states are as the history tells
-- them, and the tokens shown are those of the first from the present place on, after some that were dropped.
pub record MatchesHistory (n : Net) (first : List Fields) (h : List Event) (v : View) : Type 0 where
  pub standing : stands v ≡ standing n h
  pub inside : Inside n (stands v)
  pub last : v.strategy.last_error_index ≡ latest_search n first h
  pub long : length v.strategy.last_error_states ≡ 512
  pub marks : (s : ℕ) → s < 512 → slice_index_or v.strategy.last_error_states s false ≡ recovered_in n h s
  pub shown : v.shown ≡ shown_from (place v) first
  pub dropped : List Fields
  pub dropped_then_shown : first ≡ dropped ++ v.shown
  pub some : 0 < length v.shown
