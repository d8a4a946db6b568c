use Rattle.std.proofs.Common.{◌≡◌, ◌∙◌, ◌+◌, ◌<◌, ℕ, Bor, List, map, ap, refl, Option, Some, OnSome, [], ◌∷◌, Ok, Err, Result, is_ok, true, true≢false, sym, subst, arith, rules}
use Rattle.std.specs.List.{enumerate_from}
use Rattle.std.specs.Str.Iter.{lines_rest}
use Rattle.std.specs.Str.Lines.{lines}
use Rattle.std.specs.Iterator.{Count, IsFinite, MakesProgress, size}
use Rattle.std.proofs.lemmas.Grind.{common_steps}
use Rattle.std.proofs.lemmas.List.{length_push, map-append}
use Rattle.std.proofs.lemmas.Iterator.Consumers.{YieldsList-at, YieldsList-end, YieldsList-from_enumerate}
use Rattle.std.proofs.lemmas.Iterator.Splits.{YieldsList-from_lines}
use Rattle.script.specs.Contents.{content}
use Rattle.script.specs.Taking.{LineTaken, Reads}
use Rattle.script.specs.declared.faults.Fault.{Fault}
use Rattle.script.proofs.scripts.Script.parse.Goals as goal

-- an item leaves fewer
lowers : {S A : Type 0} {can : S → Type 0} {left : S → Count} {s t : S} {r : Option A} {x : A} → MakesProgress can left s r t → IsFinite (left s) → r ≡ Some x → size (left t) < size (left s)
lowers {can = can} {left = left} {s = s} {t = t} m f is = (subst (λ r. OnSome r (can t × IsFinite (left t) × (size (left t) < size (left s)))) is (m.on f)).2

when_ok : (P : Result (Unit {0}) Fault → Type 0) (r : Result (Unit {0}) Fault) → is_ok r ≡ true → P r → P (Ok tt)
when_ok P (Ok u) ok p = p
when_ok P (Err f) ok p = absurd (true≢false (sym ok))

lines_numbered : {X : Type 0} (n : ℕ) (xs : List X) → map (λ p. p.1) (enumerate_from n xs) ≡ xs
lines_numbered n [] = refl
lines_numbered n (x ∷ xs) = ap (λ l. x ∷ l) (lines_numbered (n + 1) xs)

numbers_kept : (ps : List (ℕ × Bor (List ℕ))) → map (λ p. p.1) (map {B = ℕ × List ℕ} (λ p. (p.0, p.1.now)) ps) ≡ map (λ p. p.1.now) ps
numbers_kept [] = refl
numbers_kept (p ∷ ps) = ap (λ l. p.1.now ∷ l) (numbers_kept ps)

-- the lines that were numbered
without_numbers : (ps : List (ℕ × Bor (List ℕ))) (n : ℕ) (ls : List (List ℕ)) → map {B = ℕ × List ℕ} (λ p. (p.0, p.1.now)) ps ≡ enumerate_from n ls → map (λ p. p.1.now) ps ≡ ls
without_numbers ps n ls e = sym (numbers_kept ps) ∙ ap (map (λ p. p.1)) e ∙ lines_numbered n ls

pub loop-before-init : goal.loop-before-init
loop-before-init c = (
  search rules,
  search rules,
  omega arith,
  search rules,
  subst (Reads []) (sym c.new-script.ensures) Reads.none,
)

-- one line more is read
pub loop-before-preserved : goal.loop-before-preserved
loop-before-preserved c =
    let (_, finite, few, count, so_far) = c.loop-before.invariant in
    let fewer = lowers c.next.ensures.goes finite c.in-Some.is in
    let taken = when_ok (λ r. LineTaken c.in-Some.line.now (content c.loop-before.script) r (content c.take_line.new.script))
    c.take_line.result (grind (arith, c.map_err.ensures.variant, c.in_ok-map_err.was)) c.take_line.ensures.taken in (
      search rules,
      search rules,
      omega (arith, few, fewer, length_push c.loop-before.yielded (c.in-Some.before, c.in-Some.line)),
      grind (arith, common_steps, count),
      subst (λ ls. Reads ls (content c.take_line.new.script)) (sym (map-append (λ x. x.1.now) c.loop-before.yielded ((c.in-Some.before, c.in-Some.line) ∷ []))) (Reads.more so_far taken),
    )

-- the loop has seen just the text's lines
pub returns-clause-reads : goal.returns-clause-reads
returns-clause-reads c =
    let (_, _, _, _, so_far) = c.loop-before.invariant in
    let seen = YieldsList-end
    (YieldsList-at c.into_iter-before-iterator.ensures.into_iter_gives (YieldsList-from_enumerate (YieldsList-from_lines c.args.text.now (ap lines_rest c.enumerate-before-items.ensures.source ∙ c.lines.ensures.rest)) c.enumerate-before-items.ensures.count))
    c.loop-before.yielded _ c.loop-before.yielded_by _ _ c.in-None.is c.next.ensures.steps in
    subst (λ ls. Reads ls (content c.loop-before.script)) (without_numbers c.loop-before.yielded 0 (lines c.args.text.now) seen.0) so_far
