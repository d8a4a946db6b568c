-- Words stand for one list of numbers, so what is not formed of it is not formed of them; and what the fault of words that
-- are refused says of them.
use Rattle.std.proofs.Common.{◌≡◌, ◌≢◌, ◌∙◌, ◌⊎◌, ℕ, suc, List, [], ◌∷◌, ◌++◌, ℤ, pos, arith, get_or, length, Some, None, Ok, Err, ap, inl, inr, refl, sym, subst}
use Rattle.std.specs.Prelude.{slice_index}
use Rattle.std.specs.List.{Any}
use Rattle.script_lines.specs.declared.directives.Directive.{Directive}
use Rattle.script_lines.specs.declared.faults.LineFault.{LineFault}
use Rattle.script_lines.specs.declared.faults.LineFault.TheVariants.{Call, Memory, WrongForm}
use Rattle.script_lines.specs.declared.keywords.Keyword.{Keyword}
use Rattle.script_lines.specs.Directives.{Formed, IsNoQuestion, IsNoRow, LineRead, NamesWord, WordsRead, call_numbers, numbers_after}
use Rattle.script_lines.specs.Numbers.{IsNumber, NumbersRead, StandFor, StandsFor}
use Rattle.script_lines.specs.Questions.{Forms, IsAskedWith}
use Rattle.script_lines.specs.Words.{spelling}
use Rattle.script_lines.proofs.Zipped.{zip_at}

same_numbers : (ws : List (List ℕ)) (ns ms : List ℤ) → StandFor ws ns → StandFor ws ms → ns ≡ ms
same_numbers [] [] [] s t = refl
same_numbers [] [] (m ∷ ms) s t = absurd t
same_numbers [] (n ∷ ns) ms s t = absurd s
same_numbers (w ∷ ws) [] ms s t = absurd s
same_numbers (w ∷ ws) (n ∷ ns) [] s t = absurd t
same_numbers (w ∷ ws) (n ∷ ns) (m ∷ ms) s t = λ i. (s.0.1 ∙ sym t.0.1) i ∷ same_numbers ws ns ms s.1 t.1 i

-- a word of the line has P
pub any_at : (P : List ℕ → Type 0) (before : List (List ℕ)) (w : List ℕ) (behind : List (List ℕ)) → P w → Any P (before ++ w ∷ behind)
any_at P [] w behind p = (0, w, omega arith, refl, p)
any_at P (v ∷ before) w behind p = let a = any_at P before w behind p in (suc a.0, a.1, omega (arith, a.2), a.3, a.4)

-- where one word is no number, the words stand for no list of numbers
-- one of the words is no number
abbrev OneIsNone : List (List ℕ) → Type 0
OneIsNone = Any (λ w. StandsFor w None)

pub none_stand : (ws : List (List ℕ)) → OneIsNone ws → (ns : List ℤ) → StandFor ws ns → ⊥
none_stand ws none ns s =
    let at : StandsFor (get_or ws none.0 none.1) (Some (get_or ns none.0 (pos 0))) = zip_at (λ w n. StandsFor w (Some n)) ws ns none.0 none.1 (pos 0) s none.2 in
    none.4 (subst IsNumber none.3 at.0)

one_none : (ws : List (List ℕ)) {R : List ℕ → Type 0} → Any (λ w. StandsFor w None × R w) ws → OneIsNone ws
one_none ws some = (some.0, some.1, some.2, some.3, some.4.0)

pub no_row : (k : Keyword) (ws : List (List ℕ)) (ns : List ℤ) → StandFor ws ns → Formed k ns None → IsNoRow k ws
no_row k ws ns s none = λ ms t many. none (subst (λ l. Some (length l) ≡ numbers_after k) (same_numbers ws ms ns t s) many)

pub no_question : (k : Keyword) (ws : List (List ℕ)) (ns : List ℤ) → StandFor ws ns → Forms k ns None → IsNoQuestion k ws
no_question k ws ns s none = λ a is ms t asked. none a is (subst (IsAskedWith a) (same_numbers ws ms ns t s) asked)

-- what the fault of words that are no numbers says
pub numbers_names : (k : Keyword) (ws : List (List ℕ)) (f : LineFault) → NumbersRead (WrongForm k) ws (Err f) → NamesWord (spelling k) ws f
numbers_names k ws f (inl memory) = subst (NamesWord (spelling k) ws) (sym memory) (k, refl)
numbers_names k ws f (inr some) = elim some.4.1 [
  | inl wrong ↦ subst (NamesWord (spelling k) ws) (sym wrong.0) (refl, λ call. none_stand ws (one_none ws some) call.numbers call.stand)
  | inr large ↦ subst (NamesWord (spelling k) ws) (sym large.0) (k, refl, (some.0, some.1, some.2, some.3, (large.1, λ fits. some.4.0 (large.1, fits))))
]

pub no_numbers : (wrong : LineFault) (ws : List (List ℕ)) (f : LineFault) → NumbersRead wrong ws (Err f) → (f ≡ Memory) ⊎ ((ns : List ℤ) → StandFor ws ns → ⊥)
no_numbers wrong ws f (inl memory) = inl memory
no_numbers wrong ws f (inr some) = inr (none_stand ws (one_none ws some))

-- and that of numbers that the word doesn't take
pub misfit_names : (k : Keyword) (ws : List (List ℕ)) (ns : List ℤ) (n : ℕ) (f : LineFault) → StandFor ws ns → n ≡ length ns → ((f ≡ WrongForm k) × (Some n ≢ call_numbers k)) ⊎ ((f ≡ Call) × (Some n ≡ call_numbers k)) → NamesWord (spelling k) ws f
misfit_names k ws ns n f s many (inl wrong) = subst (NamesWord (spelling k) ws) (sym wrong.0)
    (refl, λ call. wrong.1 (ap Some (many ∙ ap length (same_numbers ws ns call.numbers s call.stand)) ∙ call.many))
misfit_names k ws ns n f s many (inr called) = subst (NamesWord (spelling k) ws) (sym called.0)
    (inr (k, refl, record { numbers = ns; stand = s; many = ap Some (sym many) ∙ called.1 }))

pub read_ok : (line : List (List ℕ)) (w : List ℕ) (ws : List (List ℕ)) (d : Directive) → line ≡ w ∷ ws → (slice_index w 0 ≡ 35 → ⊥) → WordsRead w ws (Ok d) → LineRead line (Ok (Some d))
read_ok line w ws d is says read = subst (λ l. LineRead l (Ok (Some d))) (sym is) (says, read)

pub read_err : (line : List (List ℕ)) (w : List ℕ) (ws : List (List ℕ)) (f : LineFault) → line ≡ w ∷ ws → (slice_index w 0 ≡ 35 → ⊥) → WordsRead w ws (Err f) → LineRead line (Err f)
read_err line w ws f is says read = subst (λ l. LineRead l (Err f)) (sym is) (says, read)
