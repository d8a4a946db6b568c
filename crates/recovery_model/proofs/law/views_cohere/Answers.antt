use Rattle.std.proofs.Common.{◌∷◌}
use Rattle.atn.specs.Checked.{net_of}
use Rattle.ll1_analyzer.proofs.Context.{context_of_joined, joined_of_context}
use Rattle.recovery_model.specs.Views.{here, follows}
use Rattle.recovery_model.proofs.Chaining.{never_denied}
use Rattle.recovery_model.proofs.Cohering.{new_coherent, after_step}
use Rattle.recovery_model.proofs.Searching.{decides_recovery}
use Rattle.recovery_model.proofs.Setting.{decides_joined, decides_within}
use Rattle.recovery_model.proofs.law.views_cohere.Goals as goal

pub returns : goal.returns
returns c = record {
  cohere = λ a. record { new = new_coherent (net_of a); input_mismatch = λ w call v h. after_step a w v h call; asks = never_denied a };
  own_sets = λ a w v agree.
      let n = net_of a in
      record {
        within = decides_within n w agree (here v);
        expected = decides_joined n w agree (here v ∷ follows n v);
        in_context = λ x. (
          (λ e. context_of_joined a (here v) (follows n v) x ((decides_joined n w agree (here v ∷ follows n v) x).0 e)),
          (λ i. (decides_joined n w agree (here v ∷ follows n v) x).1 (joined_of_context a (here v) (follows n v) x i)),
        );
        recovery = decides_recovery n w agree (follows n v);
      };
}
