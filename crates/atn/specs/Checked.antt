-- The checked net, when tables are denied one, and what it tells of itself.
use Rattle.std.specs.Prelude.{◌≡◌, ℕ, ◌<◌, ◌≤◌, List, length, ℤ, pos, negsuc, Option, Some, None, MatchOption, nat_lt, if◌then◌else◌, slice_index_or}
use Rattle.errors.specs.declared.denial.Denial.{Denial}
use Rattle.errors.specs.declared.denial.Denial.TheVariants.{ShortTable, OutsideLimits, BrokenRule, LeftRecursion}
use Rattle.atn_graph.specs.declared.atn_state.StateKind.{StateKind}
use Rattle.atn_graph.specs.Kinds.{state_kind_number}
use Rattle.atn_graph.specs.Tables.{Rows}
use Rattle.atn_graph.specs.Net.{Net, net, size, rule_at, state_at}
use Rattle.atn_graph.specs.Written.{WritesNet}
use Rattle.atn_graph.specs.Faults.{TableFault}
use Rattle.atn.specs.declared.atn.Atn.{Atn}
use Rattle.atn.specs.Walks.{HasLeftRecursion}

abbrev pub net_of : Atn → Net
net_of a = net a.graph.lists

-- Which denials fit the tables of a net.
abbrev pub NetFault : Rows → Denial → Type 0
NetFault t ShortTable = TableFault t ShortTable
NetFault t OutsideLimits = TableFault t OutsideLimits
NetFault t BrokenRule = TableFault t BrokenRule
NetFault t LeftRecursion = (n : Net) × WritesNet t n × HasLeftRecursion n
NetFault t _ = ⊥

-- the kind of state s, none past the last state
abbrev pub kind_of : Net → ℕ → Option StateKind
kind_of n s = if nat_lt s (size n) then Some (state_at n s).kind else None

-- the number by which a kind is answered: 0 if there is none
abbrev pub kind_number : Option StateKind → ℕ
kind_number None = 0
kind_number (Some k) = state_kind_number k

-- so the number of the kind of state s is 0 past the last state
abbrev pub kind_number_at : Net → ℕ → ℕ
kind_number_at n s = if nat_lt s (size n) then state_kind_number (state_at n s).kind else 0

-- the start state of rule r, none past the last rule
abbrev pub start_of : Net → ℕ → Option ℕ
start_of n r = if nat_lt r (length n.rules) then Some (rule_at n r).start else None

-- the number by which a start state is answered: -1 if there is none
abbrev pub start_number : Option ℕ → ℤ
start_number None = negsuc 0
start_number (Some s) = pos s

-- so the number of the start state of rule r is -1 past the last rule
abbrev pub start_number_at : Net → ℕ → ℤ
start_number_at n r = if nat_lt r (length n.rules) then pos (rule_at n r).start else negsuc 0

-- The one with that number, and none exactly past the last; d is what stands past the end of the
-- list.
abbrev pub Picks : {X : Type 0} → List X → X → ℕ → Option X → Type 0
Picks xs d i r = MatchOption r
    (length xs ≤ i)
    (λ x. (i < length xs) × (x ≡ slice_index_or xs i d))
