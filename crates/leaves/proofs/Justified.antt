-- What a column of blanks holds once digits are put into its end.
use borrow.Rule.Slice.PartMut.{put_mid}
use Rattle.std.proofs.Common.{◌≡◌, ℕ, ◌+◌, ◌-◌, ◌≤◌, List, [], ◌++◌, take, drop, length, replicate, ap, ◌∙◌, arith}
use Rattle.std.proofs.lemmas.List.{take-replicate, drop-drop, drop_all, append-nil}

abbrev pub blanks : List ℕ
blanks = replicate 8 32

pub put_last : (digits : List ℕ) → length digits ≤ 8 → put_mid (8 - length digits) (8 - (8 - length digits)) blanks digits ≡ replicate (8 - length digits) 32 ++ digits
put_last digits few =
    let a : ℕ = 8 - length digits in
    let eight : length blanks ≤ a + (8 - a) = omega arith in
    let none : drop (8 - a) (drop a blanks) ≡ [] = drop-drop (8 - a) a blanks ∙ drop_all (a + (8 - a)) blanks eight in
    let few' : a ≤ 8 = omega arith in
    let start : take a blanks ≡ replicate a 32 = take-replicate a 8 32 few' in
    ap (λ xs. take a blanks ++ (digits ++ xs)) none ∙ ap (λ xs. take a blanks ++ xs) (append-nil digits) ∙ ap (λ xs. xs ++ digits) start
