use Rattle.std.proofs.Common.{◌≡◌, ◌++◌}
use Rattle.script_lines.specs.Numbers.{StandFor}
use Rattle.script_lines.specs.Words.{words_left}
use Rattle.script_lines.proofs.Words.{texts}
use Rattle.script_lines.proofs.numbers.read_numbers.Given as goal

-- the words so far stand for the numbers, and the others are left
abbrev pub invariant-loop-word : goal.invariant-loop-word
invariant-loop-word l = record {
  cut : words_left l.words ≡ texts l.yielded ++ words_left l.word-iterator;
  stand : StandFor (texts l.yielded) l.numbers.items;
}
