-- What a listener is told, and what it has heard and keeps of it.
use Rattle.std.specs.Prelude.{◌≡◌, ℕ, ◌+◌, min, Bool, List, [], ◌∷◌, ◌++◌, length, take, drop, ℤ, Option, Some}
use Rattle.reports.specs.declared.report.Report.{Report}
use Rattle.reports.specs.declared.report.ReportKind.{ReportKind}
use Rattle.reports.specs.Reports.{report_at}

-- What a listener is told: a report, and the types that were expected with it.
pub record Told : Type 0 where
  pub report : Report
  pub types : ℤ → Bool

-- this report, and these types
abbrev pub told_of : Report → (ℤ → Bool) → Told
told_of report types = record { report = report; types = types }

-- the report of a token where these types were expected, and those types
abbrev pub told_at : ReportKind → Option ℕ → ℕ × ℕ → (ℤ → Bool) → Told
told_at kind index position types = told_of (report_at kind index position types) types

-- How many reports were heard, and the latest of them.
pub record Heard : Type 0 where
  pub count : ℕ
  pub latest : Option Report

-- One more: the count stays at 4,294,967,295 once it is there.
abbrev pub hears : Told → Heard → Heard
hears t h = record { count = min (h.count + 1) 4294967295; latest = Some t.report }

-- what is kept of all that was told, in its order, by what is kept of each
abbrev pub all_told : {K : Type 0} → (Told → K → K) → List Told → K → K
all_told keeps [] k = k
all_told keeps (t ∷ ts) k = all_told keeps ts (keeps t k)

-- The listener was told these and nothing else: it heard each, and kept of each what it keeps.
pub record Hears {S K : Type 0} (heard : S → Heard) (kept : S → K) (keeps : Told → K → K) (told : List Told) (old new : S) : Type 0 where
  pub heard_each : heard new ≡ all_told hears told (heard old)
  pub kept_each : kept new ≡ all_told keeps told (kept old)

-- The reports that a recorder lists, and the free places behind them.
pub record Listing : Type 0 where
  pub listed : List Report
  pub free : List Report

-- a report is listed while a place is free
abbrev pub lists : Told → Listing → Listing
lists t l = record { listed = l.listed ++ take (length l.free) (t.report ∷ []); free = drop 1 l.free }
