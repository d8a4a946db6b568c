-- Sets and not-sets: each of their intervals fits.
use Rattle.std.proofs.Common.{◌≡◌, ℕ, ◌+◌, ◌<◌, ◌≤◌, true, List, length, get_or, drop, arith}
use Rattle.std.proofs.lemmas.List.{length-take-le, length-drop}
use Rattle.std.proofs.lemmas.List.Sums.{AllPass-from_list_all}
use Rattle.interval_set.specs.declared.interval.Interval.{Interval}
use Rattle.atn_graph.specs.Net.{Net}
use Rattle.atn_graph.specs.Rules.{interval_fits, all_fit, part}

-- of those that fit, each fits
pub all_fit_at : (n : Net) (xs : List Interval) (k : ℕ) (d : Interval) → all_fit n xs ≡ true → k < length xs → interval_fits n (get_or xs k d) ≡ true
all_fit_at n xs k d h l = AllPass-from_list_all (interval_fits n) xs h k d l

pub part_length : (n : Net) (first count : ℕ) → first + count ≤ length n.intervals → length (part n first count) ≡ count
part_length n first count l = length-take-le count (drop first n.intervals) (simp length-drop (omega arith))
