use Rattle.std.proofs.Common.{◌≡◌, length, map, take}
use Rattle.token.specs.Kinds.{common_fields}
use Rattle.script_lines.specs.TokenRows.{WritesTape}
use Rattle.answers.specs.Tapes.{Numbered}
use Rattle.answers.proofs.tape.tokens_of.Given as goal

-- the rows so far write the tokens
abbrev pub invariant-loop-row : goal.invariant-loop-row
invariant-loop-row g l = record {
  count : length l.tokens.items ≡ l.row-index;
  written : WritesTape g.S.KeptSpan.kept (take l.row-index l.rows) (map (common_fields g.S.KeptSpan.kept) l.tokens.items);
  numbered : Numbered (map (common_fields g.S.KeptSpan.kept) l.tokens.items);
}
