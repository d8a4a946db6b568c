use Rattle.std.proofs.Common.{rules, ◌≡◌, ℕ, ◌<◌, ◌≤◌, ◌⊎◌, [], length, get_or, List, Some, None, MatchOption, option_copied, sym, ◌∙◌, subst, inl, inr, arith}
use Rattle.std.specs.Prelude.{slice_get}
use Rattle.std.proofs.lemmas.Option.{gets, slice_get_cases}
use Rattle.interval_set.specs.declared.set.IntervalSet.{IntervalSet}
use Rattle.interval_set.specs.Members.{intervals}
use Rattle.atn_graph.specs.Net.{Net}
use Rattle.atn.specs.Checked.{net_of}
use Rattle.ll1_analyzer.specs.Sets.{Within}
use Rattle.ll1_analyzer.specs.Answers.{HoldsExactly}
use Rattle.ll1_analyzer.specs.Kept.{AreWithin}
use Rattle.ll1_analyzer.proofs.Within.{outside_empty}
use Rattle.ll1_analyzer.proofs.table.TableLookahead.within.Goals as goal

-- what is read out of the table, or the empty set past its end
read : (n : Net) (sets : List IntervalSet) (s : ℕ) (r : IntervalSet) → AreWithin n sets → MatchOption (slice_get sets s) (intervals r ≡ []) (λ x. r ≡ x) → HoldsExactly r (Within n s)
read n sets s r kept is = at (slice_get_cases sets s).1
  where
    at : ((x : IntervalSet) × (s < length sets) × (slice_get sets s ≡ Some x) × (get_or sets s x ≡ x)) ⊎ ((length sets ≤ s) × (slice_get sets s ≡ None)) → HoldsExactly r (Within n s)
    at (inl p) = subst (λ w. HoldsExactly w (Within n s)) (sym (subst (λ o. MatchOption o (intervals r ≡ []) (λ x. r ≡ x)) p.2 is)) (kept.1 s p.0 p.2)
    at (inr p) = outside_empty n s r (subst (λ o. MatchOption o (intervals r ≡ []) (λ x. r ≡ x)) p.1 is) (omega (arith, p.0, kept.0))

pub returns-clause-answers : goal.returns-clause-answers
returns-clause-answers c h =
    let sets = c.args.self.now.sets.items in
    let r = c.unwrap_or_else.result in
    let at : option_copied c.get.result ≡ slice_get sets c.args.s = search (rules, gets) in
    read (net_of c.args.self.now.atn.now) sets c.args.s r h (subst (λ o. MatchOption o (intervals r ≡ []) (λ x. r ≡ x)) (c.copied.ensures ∙ at) c.unwrap_or_else.ensures)
