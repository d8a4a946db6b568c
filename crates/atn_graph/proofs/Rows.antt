-- One row more of a table that is read from its first row on.
use Rattle.std.proofs.Common.{◌≡◌, ℕ, zero, suc, ◌+◌, ◌<◌, ◌≤◌, List, [], ◌∷◌, ◌++◌, length, get_or, take, sym, refl, ap, ◌∙◌, subst, add-one, arith, below_more}
use Rattle.std.specs.List.{AllZip}
use Rattle.std.proofs.lemmas.List.{take_more, get_or_append_left, get_or_push}
use Rattle.std.proofs.lemmas.Slice.Zip.{all_zipped_more}
use Rattle.atn_graph.specs.declared.tables.StateRow.{StateRow}
use Rattle.atn_graph.specs.declared.atn_state.AtnState.{AtnState}
use Rattle.atn_graph.specs.Net.{no_state, end_before}
use Rattle.atn_graph.specs.Written.{WritesState, no_state_row}
use Rattle.atn_graph.specs.Reading.{StatesRead}

pub zip_more : {R X : Type 0} (P : R → X → Type 0) (rows : List R) (xs ys : List X) (i : ℕ) (r : R) (x : X) → i < length rows → r ≡ get_or rows i r → ys ≡ xs ++ x ∷ []
    → AllZip P (take i rows) xs → P r x → AllZip P (take (i + 1) rows) ys
zip_more P rows xs ys i r x l e m z p =
    subst (AllZip P (take (i + 1) rows)) (sym m)
    (subst (λ rs. AllZip P rs (xs ++ x ∷ [])) (sym (take_more rows i r l ∙ ap (λ y. take i rows ++ y ∷ []) (sym e))) (all_zipped_more P (take i rows) xs r x z p))

-- what holds of two lists place by place holds at each place
pub at_place : {R X : Type 0} (P : R → X → Type 0) (rows : List R) (xs : List X) → AllZip P rows xs → (k : ℕ) (r : R) (x : X) → k < length xs → P (get_or rows k r) (get_or xs k x)
at_place P [] [] z k r x l = absurd (omega arith)
at_place P [] (y ∷ ys) z k r x l = absurd z
at_place P (q ∷ qs) [] z k r x l = absurd z
at_place P (q ∷ qs) (y ∷ ys) z zero r x l = z.0
at_place P (q ∷ qs) (y ∷ ys) z (suc k) r x l = at_place P qs ys z.1 k r x (omega arith)

-- one state more does not change where earlier runs end
end_before_push : (ss : List AtnState) (x : AtnState) (s : ℕ) → s ≤ length ss → end_before (ss ++ x ∷ []) s ≡ end_before ss s
end_before_push ss x zero l = refl
end_before_push ss x (suc s) l = ap (λ y. y.end) (get_or_append_left ss (x ∷ []) no_state s (omega arith))

pub end_at_last : (ss : List AtnState) (i : ℕ) (x : AtnState) → length ss ≡ i → x.end ≡ end_before (ss ++ x ∷ []) (i + 1)
end_at_last ss i x e = subst (λ j. x.end ≡ end_before (ss ++ x ∷ []) j) (sym (add-one i)) (ap (λ y. y.end) (sym (get_or_push ss x no_state i e)))

pub state_more : (rows : List StateRow) (ss : List AtnState) (i : ℕ) (x : AtnState) → length ss ≡ i → StatesRead rows i ss
    → WritesState (get_or rows i no_state_row) (end_before ss i) x → StatesRead rows (i + 1) (ss ++ x ∷ [])
state_more rows ss i x e before here k h =
    subst (λ b. WritesState (get_or rows k no_state_row) b (get_or (ss ++ x ∷ []) k no_state)) (sym (end_before_push ss x k (omega arith)))
    (below_more (λ j. WritesState (get_or rows j no_state_row) (end_before ss j) (get_or (ss ++ x ∷ []) j no_state)) i
    (λ j l. subst (WritesState (get_or rows j no_state_row) (end_before ss j)) (sym (get_or_append_left ss (x ∷ []) no_state j (omega arith))) (before j l))
    (subst (WritesState (get_or rows i no_state_row) (end_before ss i)) (sym (get_or_push ss x no_state i e)) here) k h)
