use Rattle.std.proofs.Common.{◌≡◌, ◌∙◌, ◌++◌, ◌∷◌, [], ap, inr, Some, None, Err, subst, sym, rules}
use Rattle.std.specs.List.{Any}
use Rattle.script_lines.specs.Numbers.{NumbersRead, StandFor, StandsFor, WhyNone}
use Rattle.script_lines.specs.Words.{words_left}
use Rattle.script_lines.proofs.LinesRead.{any_at}
use Rattle.script_lines.proofs.Words.{cut_all, cut_more, first_cut, texts, texts_more}
use Rattle.script_lines.proofs.Zipped.{zip_push}
use Rattle.script_lines.proofs.numbers.read_numbers.Goals as goal

pub returns-in_err-number : goal.returns-in_err-number
returns-in_err-number c =
    let f = c.in_err-number.field-0.0 in
    let refused : c.from_residual.result ≡ Err f = search rules in
    let cut = c.loop-word.invariant.cut ∙ ap (λ l. texts c.loop-word.yielded ++ l) (first_cut _ _ c.in-Some.word c.in-Some.ensures.steps) in
    subst (NumbersRead c.args.wrong (words_left c.args.words)) (sym refused) (inr (subst (Any (λ w. StandsFor w None × WhyNone c.args.wrong w f)) (sym cut)
    (any_at (λ w. StandsFor w None × WhyNone c.args.wrong w f) (texts c.loop-word.yielded) c.in-Some.word.now _ (c.in_err-number.ensures.number, c.in_err-number.ensures.fault))))

pub loop-word-preserved : goal.loop-word-preserved
loop-word-preserved c =
    let pushed : c.push.new.self.items ≡ c.loop-word.numbers.items ++ c.in_ok-number.number ∷ [] = search rules in
    record {
      cut = cut_more _ c.loop-word.yielded c.in-Some.word c.loop-word.word-iterator c.next.new.self c.loop-word.invariant.cut c.in-Some.ensures.steps;
      stand = subst (λ l. StandFor l c.push.new.self.items) (sym (texts_more c.loop-word.yielded c.in-Some.word)) (subst (StandFor (texts c.loop-word.yielded ++ c.in-Some.word.now ∷ [])) (sym pushed)
          (zip_push (λ w n. StandsFor w (Some n)) (texts c.loop-word.yielded) c.loop-word.numbers.items c.in-Some.word.now c.in_ok-number.number c.loop-word.invariant.stand c.in_ok-number.ensures.number));
    }

pub returns : goal.returns
returns c = subst (λ l. StandFor l c.loop-word.numbers.items) (sym (cut_all _ c.loop-word.yielded c.loop-word.word-iterator c.next.new.self c.loop-word.invariant.cut c.in-None.ensures.steps)) c.loop-word.invariant.stand
