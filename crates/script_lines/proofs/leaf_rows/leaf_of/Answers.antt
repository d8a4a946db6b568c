use Rattle.std.proofs.Common.{◌≡◌, ◌∙◌, ◌∷◌, [], pos, get_or, length, rules}
use Rattle.leaves.specs.Leaves.{leaf_number}
use Rattle.token.specs.Tokens.{type_number, index_number}
use Rattle.script_lines.proofs.LeafRows.{leaf_made, seven}
use Rattle.script_lines.proofs.leaf_rows.leaf_of.Goals as goal

pub returns : goal.returns
returns c =
    let ns = c.args.ns.now in
    let long : length ns ≡ 7 = search rules in
    let kind : pos (leaf_number c.in_ok-leaf_kind.field-0) ≡ get_or ns 0 (pos 0) = search rules in
    let depth : pos c.in_ok-ok.field-0 ≡ get_or ns 1 (pos 0) = search rules in
    let rule : pos c.in_ok-ok-2.field-0 ≡ get_or ns 2 (pos 0) = search rules in
    let typ : type_number c.in_ok-token_type.field-0 ≡ get_or ns 3 (pos 0) = search rules in
    let index : index_number c.match-index.index ≡ get_or ns 4 (pos 0) = search rules in
    let line : pos c.in_ok-ok-3.field-0 ≡ get_or ns 5 (pos 0) = search rules in
    let column : pos c.in_ok-ok-4.field-0 ≡ get_or ns 6 (pos 0) = search rules in
    leaf_made c.new.result _ ns ((λ i. kind i ∷ depth i ∷ rule i ∷ typ i ∷ index i ∷ line i ∷ column i ∷ []) ∙ seven ns (pos 0) long) c.new.ensures
