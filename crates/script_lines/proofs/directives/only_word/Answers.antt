use Rattle.std.proofs.Common.{◌∙◌, ◌∷◌, ap, arith, length, refl}
use Rattle.script_lines.proofs.Words.{first_cut, none_cut}
use Rattle.script_lines.proofs.directives.only_word.Goals as goal
use Rattle.script_lines.proofs.directives.only_word.Goals.{in_default-via-in-Some+in_default, in_default-via-in_default}

pub returns-in-Some-None-clause-word : goal.returns-in-Some-None-clause-word
returns-in-Some-None-clause-word c =
    first_cut _ _ c.in-Some-None.word c.in-Some-None.ensures.steps ∙ ap (λ l. c.in-Some-None.word.now ∷ l) (none_cut _ _ c.in-Some-None.ensures'.steps)

pub returns-in_default-clause-fault : goal.returns-in_default-clause-fault
returns-in_default-clause-fault c = (
  refl,
  λ one. elim c.in_default.branch [
    | in_default-via-in-Some+in_default w ↦
        let first = first_cut _ _ w.in_default.field-0-0 w.in_default.ensures.steps in
        let second = first_cut _ _ w.in_default.field-0-1 w.in_default.ensures'.steps in
        omega (arith, one, ap length (first ∙ ap (λ l. w.in_default.field-0-0.now ∷ l) second))
    | in_default-via-in_default w ↦ let none = none_cut _ _ w.in_default.ensures.steps in omega (arith, one, ap length none)
  ],
)
