-- The leaves of a text as it grows.
use Rattle.std.proofs.Common.{◌≡◌, ℕ, ◌+◌, ◌-◌, ◌≤◌, take, drop, length, arith, List, [], ◌∷◌, ◌++◌, sym, ap, ◌∙◌}
use borrow.Rule.Slice.PartMut.{put_mid, post_of}
use Rattle.std.specs.List.{flat_map}
use Rattle.std.proofs.lemmas.Grind.{flat_map-append}
use Rattle.std.proofs.lemmas.List.{append-nil, length-append, length-take-le, drop-drop}
use Rattle.std.proofs.lemmas.Slice.{take-put_mid, drop-put_mid}
use Rattle.std.proofs.lemmas.List.Elements.{All-nil, All-push}
use Rattle.leaves.specs.declared.leaf_writer.LeafWriter.{LeafWriter}
use Rattle.leaves.specs.Leaves.{LeafFields, LeafFits}
use Rattle.leaves.specs.LeafLines.{leaf_line, Written}
use Rattle.leaves.specs.Lengths.{length_line}
use Rattle.leaves.specs.Single.{lines_tell}
use Rattle.leaves.specs.Writers.{text, unwritten, leaves_written}

abbrev pub written_more : (old new : List ℕ) (l : LeafFields) → Written old → LeafFits l → new ≡ old ++ leaf_line l → Written new
written_more old new l w f e = record {
  leaves = w.leaves ++ l ∷ [];
  fit = All-push LeafFits w.leaves l w.fit f;
  lines = e ∙ ap (λ t. t ++ leaf_line l) w.lines ∙ ap (λ t. flat_map leaf_line w.leaves ++ t) (sym (append-nil (leaf_line l))) ∙ sym (flat_map-append leaf_line w.leaves (l ∷ []));
}

-- however it is known of which leaves a text is the lines, they are the same
same_leaves : {text : List ℕ} (v w : Written text) → v.leaves ≡ w.leaves
same_leaves v w = lines_tell v.leaves w.leaves v.fit w.fit (sym v.lines ∙ w.lines)

pub leaves_none : (w : LeafWriter) → text w ≡ [] → leaves_written w ≡ []
unfolding leaves_written
leaves_none w e = same_leaves w.written (record { leaves = []; fit = All-nil LeafFits; lines = e })

pub leaves_more : (old new : LeafWriter) (l : LeafFields) → LeafFits l → text new ≡ text old ++ leaf_line l → leaves_written new ≡ leaves_written old ++ l ∷ []
unfolding leaves_written
leaves_more old new l f e = same_leaves new.written (written_more (text old) (text new) l old.written f e)

pub leaves_lines : (w : LeafWriter) → text w ≡ flat_map leaf_line (leaves_written w)
unfolding leaves_written
leaves_lines w = w.written.lines

-- The memory once a line was put behind the text.
module _ (w : LeafWriter) (l : LeafFields) (f : LeafFits l) (line : List ℕ) (e : line ≡ leaf_line l) where
  abbrev end : ℕ
  end = w.len + 57

  abbrev memory : List ℕ
  memory = put_mid w.len (end - w.len) w.memory.now line

  long : length line ≡ 57
  long = ap length e ∙ length_line l f

  pub text_put : take end memory ≡ text w ++ leaf_line l
  text_put = take-put_mid w.len (end - w.len) w.memory.now line end (omega (arith, long)) w.bounded ∙ ap (λ t. text w ++ t) e

  pub rest_put : drop end memory ≡ drop 57 (unwritten w)
  rest_put = drop-put_mid w.len (end - w.len) w.memory.now line end (omega arith) w.bounded (omega (arith, long)) ∙ sym (drop-drop 57 w.len w.memory.now)

  pub end_put : end ≤ length memory
  end_put =
      let here : length (text w) ≡ w.len = length-take-le w.len w.memory.now w.bounded in
      let spare : List ℕ = post_of w.len (end - w.len) w.memory.now in
      omega (arith, here, long, length-append (text w) (line ++ spare), length-append line spare)
