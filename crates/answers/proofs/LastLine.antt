-- The last line of a writer is that of the leaf that was added last.
use Rattle.std.proofs.Common.{◌≡◌, ◌∙◌, ℕ, ◌+◌, ◌-◌, ◌≤◌, List, [], ◌∷◌, ◌++◌, length, drop, get_or, All, refl, ap, subst, arith}
use Rattle.std.specs.List.{flat_map}
use Rattle.std.proofs.lemmas.List.{length-append, length_push, get_or_push, append-nil, drop_at}
use Rattle.std.proofs.lemmas.Grind.{flat_map-append}
use Rattle.leaves.specs.declared.leaf_writer.LeafWriter.{LeafWriter}
use Rattle.leaves.specs.Leaves.{LeafFields, LeafFits}
use Rattle.leaves.specs.LeafLines.{leaf_line}
use Rattle.leaves.specs.Lengths.{length_line}
use Rattle.leaves.specs.Writers.{leaves_written}

leaves_fit : (w : LeafWriter) → All LeafFits (leaves_written w)
unfolding leaves_written
leaves_fit w = w.written.fit

module _ (w : LeafWriter) (old : List LeafFields) (l : LeafFields) (is : leaves_written w ≡ old ++ l ∷ []) where
  abbrev text : List ℕ
  text = flat_map leaf_line (leaves_written w)

  fits : LeafFits l
  fits =
      let at : get_or (old ++ l ∷ []) (length old) l ≡ l = get_or_push old l l (length old) refl in
      subst LeafFits at (subst (All LeafFits) is (leaves_fit w) (length old) l (omega (arith, length_push old l)))

  split : text ≡ flat_map leaf_line old ++ leaf_line l
  split = ap (flat_map leaf_line) is ∙ flat_map-append leaf_line old (l ∷ []) ∙ ap (λ ys. flat_map leaf_line old ++ ys) (append-nil (leaf_line l))

  long : length text ≡ length (flat_map leaf_line old) + 57
  long = ap length split ∙ length-append (flat_map leaf_line old) (leaf_line l) ∙ ap (λ k. length (flat_map leaf_line old) + k) (length_line l fits)

  pub long_enough : 57 ≤ length text
  long_enough = omega (arith, long)

  pub last_line : drop (length text - 57) text ≡ leaf_line l
  last_line =
      let before : length text - 57 ≡ length (flat_map leaf_line old) = omega (arith, long) in
      ap (λ k. drop k text) before ∙ ap (drop (length (flat_map leaf_line old))) split ∙ drop_at (flat_map leaf_line old) (leaf_line l) (length (flat_map leaf_line old)) refl
