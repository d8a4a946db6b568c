use Rattle.std.proofs.Common.{refl, sym, ◌∙◌, ap, ◌-◌, ◌+◌, ◌≡◌, length, drop, arith, ◌≤◌, ◌++◌, take}
use Rattle.std.proofs.lemmas.Slice.{take-put_mid, drop-put_mid}
use Rattle.std.proofs.lemmas.List.{length-drop, drop-drop}
use Rattle.fixed_vec.proofs.bounded_list.BoundedList.extend_from_slice.Goals as goal

pub returns-clause-room : goal.returns-clause-room
returns-clause-room g c = λ h.
    let l = c.args.self.now in
    let s = l.slots.now in
    let xs = c.args.xs.now in
    let n = l.len + length xs in
    let ys = c.copy_from_slice.new.self in
    let e : length ys ≡ length xs = ap length c.copy_from_slice.ensures.after in
    let m : length (drop l.len s) ≡ length s - l.len = length-drop l.len s in
    let bounded : l.len ≤ length s = l.bounded in (
      refl,
      take-put_mid l.len (n - l.len) s ys n (omega (arith, e)) bounded ∙ ap (λ zs. take l.len s ++ zs) c.copy_from_slice.ensures.after,
      drop-put_mid l.len (n - l.len) s ys n (omega arith) bounded (omega (arith, e)) ∙ sym (drop-drop (length xs) l.len s),
    )
