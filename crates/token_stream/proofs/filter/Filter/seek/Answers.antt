use Rattle.std.proofs.Common.{refl, rules}
use borrow.Author.Tests.{tests}
use Rattle.token_stream.proofs.Looking.{looked_of, filter_kept}
use Rattle.token_stream.proofs.filter.Filter.seek.Goals as goal

pub look_on-cursor-requires : goal.look_on-cursor-requires
look_on-cursor-requires g c κs =
    let s = c.args.self.now in (
      (refl, tt),
      (
        (λ x e. looked_of (g.S.IntStream.shown s.below) x.count x.ahead (s.looked x (filter_kept _ _ _ c.filter-seen.ensures x e).0)),
        ((λ x e. let passed = (filter_kept _ _ _ c.filter-seen.ensures x e).1 in search (rules, tests)), c.at_least_one-k.ensures.positive),
      ),
    )
