-- The verdict on tables, with left recursion.
use Rattle.std.proofs.Common.{subst, arith}
use Rattle.errors.specs.declared.denial.Denial.{Denial}
use Rattle.errors.specs.declared.denial.Denial.TheVariants.{ShortTable, OutsideLimits, BrokenRule, LeftRecursion}
use Rattle.errors.specs.Denials.{IsBefore, First}
use Rattle.atn_graph.specs.Tables.{Rows}
use Rattle.atn_graph.specs.Net.{Net}
use Rattle.atn_graph.specs.Written.{WritesNet}
use Rattle.atn_graph.specs.Faults.{TableFault}
use Rattle.atn_graph.proofs.Verdict.{net_once}
use Rattle.atn.specs.Walks.{HasLeftRecursion}
use Rattle.atn.specs.Checked.{NetFault}

-- a first denial of the tables is the first of all, since left recursion comes after them
pub first_of_tables : (t : Rows) (d : Denial) → First (TableFault t) d → First (NetFault t) d
first_of_tables t d w = record { fits = fits d w.fits; none_before = λ e. before e (last d w.fits) (w.none_before e) }
  where
    fits : (d : Denial) → TableFault t d → NetFault t d
    fits ShortTable f = f
    fits OutsideLimits f = f
    fits BrokenRule f = f
    fits _ f = absurd f

    last : (d : Denial) → TableFault t d → IsBefore d LeftRecursion
    last ShortTable f = omega arith
    last OutsideLimits f = omega arith
    last BrokenRule f = omega arith
    last _ f = absurd f

    before : (e : Denial) → IsBefore d LeftRecursion → (IsBefore e d → TableFault t e → ⊥) → IsBefore e d → NetFault t e → ⊥
    before ShortTable b none l f = none l f
    before OutsideLimits b none l f = none l f
    before BrokenRule b none l f = none l f
    before LeftRecursion b none l f = omega arith
    before _ b none l f = f

module _ (t : Rows) (n : Net) (w : WritesNet t n) (none : (d : Denial) → TableFault t d → ⊥) where
  pub first_recursive : HasLeftRecursion n → First (NetFault t) LeftRecursion
  first_recursive r = record { fits = (n, w, r); none_before = before }
    where
      before : (e : Denial) → IsBefore e LeftRecursion → NetFault t e → ⊥
      before ShortTable l f = none ShortTable f
      before OutsideLimits l f = none OutsideLimits f
      before BrokenRule l f = none BrokenRule f
      before LeftRecursion l f = omega arith
      before _ l f = f

  pub no_fault : (HasLeftRecursion n → ⊥) → (d : Denial) → NetFault t d → ⊥
  no_fault none_recursive ShortTable f = none ShortTable f
  no_fault none_recursive OutsideLimits f = none OutsideLimits f
  no_fault none_recursive BrokenRule f = none BrokenRule f
  no_fault none_recursive LeftRecursion f = none_recursive (subst HasLeftRecursion (net_once t f.0 n f.1 w) f.2)
  no_fault none_recursive _ f = f
