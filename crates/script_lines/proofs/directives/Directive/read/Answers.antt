use Rattle.std.proofs.Common.{◌≡◌, ◌∙◌, [], ap, sym, subst, arith, rules, Err}
use Rattle.std.proofs.lemmas.Bool.{both_ways}
use Rattle.std.proofs.lemmas.Str.Pattern.{starts_char}
use Rattle.script_lines.specs.Directives.{LineRead}
use Rattle.script_lines.specs.Words.{SaysNothing, words}
use Rattle.script_lines.proofs.LinesRead.{read_err, read_ok}
use Rattle.script_lines.proofs.Words.{first_cut, none_cut}
use Rattle.script_lines.proofs.directives.Directive.read.Goals as goal

pub returns-in_default : goal.returns-in_default
returns-in_default c =
    let none : words c.args.line.now ≡ [] = ap words (sym c.split_ascii_whitespace-words.ensures.text) ∙ none_cut _ _ c.in_default.ensures.steps in
    subst SaysNothing (sym none) tt

pub returns-then-starts_with : goal.returns-then-starts_with
returns-then-starts_with c =
    let cut = ap words (sym c.split_ascii_whitespace-words.ensures.text) ∙ first_cut _ _ c.in-Some.first c.in-Some.ensures.steps in
    subst SaysNothing (sym cut) (c.if-starts_with.ensures.cases.1.byte (omega arith))

pub of_words-requires : goal.of_words-requires
of_words-requires c = ap words (sym c.split_ascii_whitespace-words.ensures.text) ∙ first_cut _ _ c.in-Some.first c.in-Some.ensures.steps

pub returns-in_err-of_words : goal.returns-in_err-of_words
returns-in_err-of_words c =
    let refused : c.from_residual.result ≡ Err c.in_err-of_words.field-0.0 = search rules in
    let cut = ap words (sym c.split_ascii_whitespace-words.ensures.text) ∙ first_cut _ _ c.in-Some.first c.in-Some.ensures.steps in
    subst (LineRead (words c.args.line.now)) (sym refused) (read_err _ _ _ _ cut
    (λ hash. both_ways _ c.if-starts_with.false ((starts_char 35 _ _ c.starts_with.ensures.cases (omega arith) (omega arith)).1 hash)) c.in_err-of_words.ensures)

pub returns : goal.returns
returns c =
    let cut = ap words (sym c.split_ascii_whitespace-words.ensures.text) ∙ first_cut _ _ c.in-Some.first c.in-Some.ensures.steps in
    read_ok _ _ _ _ cut (λ hash. both_ways _ c.if-starts_with.false ((starts_char 35 _ _ c.starts_with.ensures.cases (omega arith) (omega arith)).1 hash)) c.in_ok-of_words.ensures
