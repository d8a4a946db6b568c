use Rattle.std.proofs.Common.{◌≡◌, ◌⊎◌, None, Err, IfErr, inl, inr, length, sym, subst, rules}
use Rattle.script_lines.specs.Directives.{IsNoQuestion, NamesWord}
use Rattle.script_lines.specs.Questions.{Forms}
use Rattle.script_lines.specs.Words.{spelling, words_left}
use Rattle.script_lines.specs.declared.faults.LineFault.TheVariants.{Memory}
use Rattle.script_lines.proofs.LinesRead.{misfit_names, no_numbers, no_question, numbers_names}
use Rattle.script_lines.proofs.directives.read_question.Goals as goal

pub returns-in_err-numbers-clause-names : goal.returns-in_err-numbers-clause-names
returns-in_err-numbers-clause-names c =
    let refused : c.from_residual.result ≡ Err c.in_err-numbers.field-0.0 = search rules in
    subst (λ r. IfErr r (NamesWord (spelling c.args.keyword) (words_left c.args.rest))) (sym refused) (numbers_names c.args.keyword _ _ c.in_err-numbers.ensures)

pub returns-in_err-numbers-clause-fault : goal.returns-in_err-numbers-clause-fault
returns-in_err-numbers-clause-fault c =
    let refused : c.from_residual.result ≡ Err c.in_err-numbers.field-0.0 = search rules in
    subst (λ r. IfErr r (λ f. (f ≡ Memory) ⊎ IsNoQuestion c.args.keyword (words_left c.args.rest))) (sym refused)
    (elim (no_numbers _ _ _ c.in_err-numbers.ensures) [ inl memory ↦ inl memory | inr none ↦ inr (λ a is ns s asked. none ns s) ])

pub returns-in_default-clause-names : goal.returns-in_default-clause-names
returns-in_default-clause-names c =
    let many : c.len.result ≡ length c.in_ok-numbers.numbers.items = search rules in
    misfit_names c.args.keyword _ c.in_ok-numbers.numbers.items _ _ c.in_ok-numbers.ensures many c.misfit.ensures

pub returns-in_default-clause-fault : goal.returns-in_default-clause-fault
returns-in_default-clause-fault c =
    let none : Forms c.args.keyword c.in_ok-numbers.numbers.items None = search rules in
    inr (no_question c.args.keyword _ c.in_ok-numbers.numbers.items c.in_ok-numbers.ensures none)
