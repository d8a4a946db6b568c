use Rattle.std.proofs.Common.{◌≡◌, ◌∙◌, ◌<◌, sym, subst, length, rules}
use Rattle.std.specs.Str.Parse.{AllDigits, without_leading_sign}
use Rattle.script_lines.proofs.Digits.{all_of_digits, digits_of_all}
use Rattle.script_lines.proofs.numbers.is_numeral.Goals as goal

pub returns-then-not-is_empty : goal.returns-then-not-is_empty
returns-then-not-is_empty c =
    let there : 0 < length (without_leading_sign c.args.word.now) = search rules in
    let is = c.are_digits.ensures in
    let text : c.after_sign-digits.result.now ≡ without_leading_sign c.args.word.now = search rules in (
      (λ e. (there, subst (AllDigits 10) text (digits_of_all c.after_sign-digits.result.now (sym is ∙ e)))),
      (λ w. is ∙ all_of_digits c.after_sign-digits.result.now (subst (AllDigits 10) (sym text) w.1)),
    )
