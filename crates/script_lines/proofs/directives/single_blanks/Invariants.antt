use Rattle.std.proofs.Common.{◌≡◌, ◌++◌, [], length}
use Rattle.std.specs.String.{string_bytes}
use Rattle.script_lines.specs.Words.{in_one, words, words_left}
use Rattle.script_lines.proofs.Words.{texts}
use Rattle.script_lines.proofs.directives.single_blanks.Given as goal

-- the words so far stand in the text, and the others are left
abbrev pub invariant-loop-word : goal.invariant-loop-word
invariant-loop-word l = record {
  cut : words l.line ≡ texts l.yielded ++ words_left l.word-iterator;
  joined : string_bytes l.text ≡ in_one (texts l.yielded);
  begun : length (string_bytes l.text) ≡ 0 → l.yielded ≡ [];
}
