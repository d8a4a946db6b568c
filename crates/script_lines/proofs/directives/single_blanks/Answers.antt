use Rattle.std.proofs.Common.{◌≡◌, ◌∙◌, ◌⊎◌, ◌++◌, ◌<◌, inl, inr, length, ap, length-append, sym, arith, rules}
use Rattle.std.proofs.lemmas.Bool.Decides.{nat_tests}
use Rattle.std.specs.Prelude.{codes}
use Rattle.std.specs.String.{string_bytes}
use Rattle.script_lines.specs.Words.{in_one}
use Rattle.script_lines.proofs.Words.{cut_all, cut_more, joined_more, texts, texts_more}
use Rattle.script_lines.proofs.directives.single_blanks.Goals as goal
use Rattle.script_lines.proofs.directives.single_blanks.Goals.{then-not-is_empty+in_ok-push_str, else-not-is_empty}

pub loop-word-preserved : goal.loop-word-preserved
loop-word-preserved c =
    let text = string_bytes c.loop-word.text in
    let before = string_bytes c.if-not-is_empty.text in
    let blank : ((0 < length text) × (before ≡ text ++ codes " ")) ⊎ ((length text ≡ 0) × (before ≡ text)) = elim c.if-not-is_empty.branch [
      | then-not-is_empty+in_ok-push_str w ↦ inl (grind (arith, nat_tests, w.if-not-is_empty.ensures), ap string_bytes w.text-is ∙ w.in_ok-push_str.ensures.bytes)
      | else-not-is_empty w ↦ inr (grind (arith, nat_tests, w.if-not-is_empty.ensures), ap string_bytes w.text-is)
    ] in
    let pushed : string_bytes c.push_str-in-loop-word.new.self ≡ before ++ c.in-Some.word.now = search rules in
    record {
      cut = cut_more _ c.loop-word.yielded c.in-Some.word c.loop-word.word-iterator c.next.new.self c.loop-word.invariant.cut c.in-Some.ensures.steps;
      joined = pushed ∙ joined_more (texts c.loop-word.yielded) c.in-Some.word.now text before c.loop-word.invariant.joined (λ none. ap texts (c.loop-word.invariant.begun none)) blank ∙ ap in_one (sym (texts_more c.loop-word.yielded c.in-Some.word));
      begun = λ none. absurd (omega (arith, none, ap length pushed, length-append before c.in-Some.word.now, c.in-Some.ensures.steps.0));
    }

pub returns : goal.returns
returns c = c.loop-word.invariant.joined ∙ ap in_one (sym (cut_all _ c.loop-word.yielded c.loop-word.word-iterator c.next.new.self c.loop-word.invariant.cut c.in-None.ensures.steps))
