use Rattle.std.proofs.Common.{◌≡◌, rules}
use Rattle.std.specs.Fmt.{signed_decimal}
use Rattle.leaves.specs.LeafLines.{column}
use Rattle.leaves.proofs.Justified.{put_last}
use Rattle.leaves.proofs.lines.column.Goals as goal

pub returns : goal.returns
unfolding column
returns c =
    let n = c.args.n in
    let text : c.as_bytes-digits.result.now ≡ signed_decimal n = search rules in
    rw (c.copy_from_slice.ensures.after, text) (put_last (signed_decimal n) c.requires)
