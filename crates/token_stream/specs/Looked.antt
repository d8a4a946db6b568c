-- How far a filter has looked.
use Rattle.std.specs.Prelude.{◌≡◌, ℕ, ◌-◌, ◌<◌, ◌≤◌, true, List, length, take}
use Rattle.token.specs.Tokens.{Fields}
use Rattle.token_stream.specs.Tapes.{token_at}
use Rattle.token_stream.specs.Streams.{capped, visible, filtered}

-- Token number `ahead` below, counted from 1, is visible, and it is number `count` of the visible ones.
pub record Looked (below : List Fields) (count ahead : ℕ) : Type 0 where
  pub positive : 0 < ahead
  pub within : ahead ≤ length below
  pub seen : length (filtered (take ahead below)) ≡ count
  pub last : visible (token_at below (ahead - 1)) ≡ true

-- Token number j below, counted from 1, is the next visible one after the first `from`.
pub record IsNext (below : List Fields) (from j : ℕ) : Type 0 where
  pub after : from < j
  pub within : j ≤ length below
  pub seen : visible (token_at below (j - 1)) ≡ true
  pub between : filtered (take (j - 1) below) ≡ filtered (take from below)

-- Token number j below, counted from 1, is the k-th visible one, or EOF if there are fewer.
pub record IsFound (below : List Fields) (k j : ℕ) : Type 0 where
  pub positive : 0 < j
  pub within : j ≤ length below
  pub same : token_at below (j - 1) ≡ token_at (filtered below) (capped (k - 1) (filtered below))
