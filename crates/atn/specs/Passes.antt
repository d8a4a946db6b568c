-- One pass over the states of a net that adds nullable states to a list.
use Rattle.std.specs.Prelude.{◌≡◌, ℕ, ◌<◌, ◌≤◌, Bool, true, false, ◌&&◌, ◌⊎◌, List, length}
use Rattle.atn_graph.specs.declared.transition.Move.{Move}
use Rattle.atn_graph.specs.declared.transition.Move.TheVariants.{Along, Call, Token}
use Rattle.atn_graph.specs.declared.transition.Transition.{Transition}
use Rattle.atn_graph.specs.Kinds.{move_of}
use Rattle.atn_graph.specs.Net.{Net, state_at}
use Rattle.atn.specs.Among.{Among}
use Rattle.atn.specs.Walks.{Stop}
use Rattle.atn.specs.Marks.{elem}
use Rattle.atn.specs.Reach.{Nullable}

-- an edge to t leads over states of the list
abbrev pub over_by : List ℕ → ℕ → Move → Bool
over_by xs t Along = elem t xs
over_by xs t (Call f) = elem t xs && elem f xs
over_by xs t Token = false

abbrev pub over_listed : List ℕ → Transition → Bool
over_listed xs e = over_by xs e.target (move_of e.kind)

-- s is a stop state, or one of its edges does
abbrev pub Falls : Net → List ℕ → ℕ → Type 0
Falls n xs s =
    Stop n s ⊎ Among (λ e. over_listed xs e ≡ true) n (state_at n s).first (state_at n s).end

abbrev pub AllNullable : Net → List ℕ → Type 0
AllNullable n xs = (k : ℕ) → elem k xs ≡ true → Nullable n k

-- Nullable states stay nullable states; if nothing is new, the states before upto have nothing to
-- add.
pub record Pass (n : Net) (upto : ℕ) (before after : List ℕ) : Type 0 where
  pub right : AllNullable n before → AllNullable n after
  pub longer : length before ≤ length after
  pub same : length after ≡ length before → after ≡ before
  pub done : length after ≡ length before
      → (s : ℕ) → s < upto → Falls n before s → elem s before ≡ true
