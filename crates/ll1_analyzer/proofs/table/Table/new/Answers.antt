use Rattle.std.proofs.Common.{◌≡◌, ◌++◌, ◌∷◌, [], length, sym, ap, subst, arith}
use Rattle.std.proofs.lemmas.List.{length_push}
use Rattle.atn.specs.Checked.{net_of}
use Rattle.ll1_analyzer.specs.Sets.{Within}
use Rattle.ll1_analyzer.specs.Answers.{HoldsExactly}
use Rattle.ll1_analyzer.specs.Kept.{AreFirst}
use Rattle.ll1_analyzer.proofs.Keeping.{first_push}
use Rattle.ll1_analyzer.proofs.table.Table.new.Goals as goal

pub loop-s-preserved : goal.loop-s-preserved
loop-s-preserved c =
    let n = net_of c.args.atn.now in
    let sets = c.loop-s.sets.items in
    let items : c.push.new.self.items ≡ sets ++ c.look.result ∷ [] = c.in_ok-push.ensures.items in
    record {
      count = omega (arith, ap length items, length_push sets c.look.result, c.loop-s.invariant.count);
      first = subst (AreFirst n) (sym items) (first_push n sets c.look.result c.loop-s.s (sym c.loop-s.invariant.count) c.loop-s.invariant.first
          (subst (λ a. HoldsExactly c.look.result (Within (net_of a) c.loop-s.s)) c.new-analyzer.ensures.net (c.look.ensures c.new-analyzer.ensures.agrees)));
    }
