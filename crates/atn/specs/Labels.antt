-- Which token types an edge takes.
use Rattle.std.specs.Prelude.{◌≡◌, ℕ, ◌<◌, ◌≤◌, Bool, true, false, not, ◌&&◌, length, ℤ, pos, Option, MatchOption}
use Rattle.interval_set.specs.declared.set.IntervalSet.{IntervalSet}
use Rattle.interval_set.specs.Intervals.{from_to, inside, has}
use Rattle.interval_set.specs.Members.{holds}
use Rattle.atn_graph.specs.declared.transition.TransitionKind.{TransitionKind}
use Rattle.atn_graph.specs.declared.transition.TransitionKind.TheVariants.{Epsilon, Range, Rule, Predicate, Atom, Action, Set, NotSet, Wildcard, Precedence}
use Rattle.atn_graph.specs.Net.{Net, Of, edge_at}
use Rattle.atn_graph.specs.Rules.{part}

-- x is a token type of the net
abbrev pub is_net_type : Net → ℤ → Bool
is_net_type n x = inside (from_to (pos 1) n.max) x

-- An atom takes its type, a range and a set those they hold, a not-set every type of the net but
-- those it holds, a wildcard every type of the net; the other edges take none.
abbrev pub takes : Net → TransitionKind → ℤ → Bool
takes n Epsilon x = false
takes n (Range i) x = inside i x
takes n (Rule r f) x = false
takes n Predicate x = false
takes n (Atom t) x = inside (from_to t t) x
takes n Action x = false
takes n (Set f c) x = has (part n f c) x
takes n (NotSet f c) x = is_net_type n x && not (has (part n f c) x)
takes n Wildcard x = is_net_type n x
takes n Precedence x = false

-- the label of edge number j, and none exactly past the last edge
abbrev pub Labels : Net → ℕ → Option IntervalSet → Type 0
Labels n j r = MatchOption r
    (length n.edges ≤ j)
    (λ s. (j < length n.edges) × ((x : ℤ) → holds s x ≡ takes n (edge_at n j).kind x))

-- one of the edges of state s takes the type x
pub record TakesAt (n : Net) (s : ℕ) (x : ℤ) : Type 0 where
  pub edge : ℕ
  pub of : Of n s edge
  pub takes : takes n (edge_at n edge).kind x ≡ true
