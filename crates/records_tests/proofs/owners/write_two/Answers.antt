use Rattle.std.proofs.Common.{rules, ◌≡◌, List, [], ◌∷◌, ◌++◌, drop, length, ℕ, ◌∙◌, ap, ap₂, arith}
use Rattle.std.specs.List.{flat_map}
use Rattle.std.proofs.lemmas.List.{append-nil}
use Rattle.leaves.specs.LeafLines.{leaf_line}
use Rattle.leaves.specs.Writers.{unwritten, leaves_written}
use Rattle.leaves.proofs.Memory.{whole_text}
use Rattle.records_tests.proofs.owners.write_two.Goals as goal

pub returns : goal.returns
returns c =
    let free : length (unwritten c.new-w.result) ≡ length c.args.table.now = ap length c.new-w.ensures.untouched in
    let two = c.add_two.ensures.two (omega (arith, free, c.requires)) in
    let w = c.add_two.new.l in
    let lines : leaves_written w ≡ c.args.a ∷ c.args.b ∷ [] = two.appended ∙ ap (λ ls. ls ++ c.args.a ∷ c.args.b ∷ []) c.new-w.ensures.empty in
    let rest : unwritten w ≡ drop 114 c.args.table.now = two.untouched ∙ ap (drop 114) c.new-w.ensures.untouched in
    let whole : w.memory.now ≡ leaf_line c.args.a ++ (leaf_line c.args.b ++ []) ++ drop 114 c.args.table.now = whole_text w ∙ ap₂ (λ ls t. flat_map leaf_line ls ++ t) lines rest in
    let ends : (t : List ℕ) → t ≡ w.memory.now → t ≡ leaf_line c.args.a ++ leaf_line c.args.b ++ drop 114 c.args.table.now =
    λ t e. e ∙ whole ∙ ap (λ l. leaf_line c.args.a ++ l ++ drop 114 c.args.table.now) (append-nil (leaf_line c.args.b)) in
    ends _ (search rules)
