use Rattle.std.proofs.Common.{◌≡◌, ◌++◌, [], List, ℕ, ◌≤◌, length, rules, arith, ap, ap₂, ◌∙◌}
use Rattle.std.proofs.lemmas.List.{append-nil, drop_all}
use Rattle.leaves.specs.LeafLines.{leaf_line}
use Rattle.fixed_vec.specs.Lists.{listed, spare}
use Rattle.leaves.proofs.Memory.{whole_list}
use Rattle.leaves.proofs.lines.write_line.Goals as goal

pub returns-clause-line : goal.returns-clause-line
returns-clause-line c =
    let out = c.put_line.new.out in
    let old = c.new-out.result in
    let line : listed out ≡ leaf_line c.args.leaf = c.put_line.ensures.line ∙ ap (λ t. t ++ leaf_line c.args.leaf) c.new-out.ensures.empty in
    let some : length (spare old) ≤ 57 = omega (arith, ap length c.new-out.ensures.untouched, c.requires) in
    let none : spare out ≡ [] = c.put_line.ensures.untouched ∙ drop_all 57 (spare old) some in
    let whole : out.slots.now ≡ leaf_line c.args.leaf = whole_list out ∙ ap₂ (λ a b. a ++ b) line none ∙ append-nil (leaf_line c.args.leaf) in
    let ends : (t : List ℕ) → t ≡ out.slots.now → t ≡ leaf_line c.args.leaf = λ t e. e ∙ whole in
    ends _ (search rules)
