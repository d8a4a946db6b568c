use Rattle.std.proofs.Common.{[], reverse, subst, refl, ◌∷◌}
use Rattle.std.proofs.lemmas.List.{append-nil}
use Rattle.atn.specs.Checked.{net_of}
use Rattle.atn_graph.proofs.Soundness.{sound_of}
use Rattle.recovery_model.specs.Journals.{run, journal}
use Rattle.recovery_model.specs.TapeLaw.{Told}
use Rattle.recovery_model.proofs.Fitting.{fit_of}
use Rattle.ll1_analyzer.proofs.Context.{context_of_joined, joined_of_context}
use Rattle.recovery_model.proofs.Searching.{decides_recovery}
use Rattle.recovery_model.proofs.Setting.{decides_joined, decides_within}
use Rattle.recovery_model.proofs.Keeping.{law_but_last}
use Rattle.recovery_model.proofs.Counting.{bounded_recovers}
use Rattle.recovery_model.proofs.Telling.{tells_none, tells_run}
use Rattle.recovery_model.proofs.Repairing.{mode_run, mode_none}
use Rattle.recovery_model.proofs.law.tape_law.Goals as goal

pub returns : goal.returns
returns c = record {
  sets = λ a w agree.
      let n = net_of a in
      record {
        within = decides_within n w agree;
        expected = λ s fs x. decides_joined n w agree (s ∷ fs) x;
        in_context = λ s fs x. (
          (λ e. context_of_joined a s fs x ((decides_joined n w agree (s ∷ fs) x).0 e)),
          (λ i. (decides_joined n w agree (s ∷ fs) x).1 (joined_of_context a s fs x i)),
        );
        recovery = decides_recovery n w agree;
      };
  law = λ a w agree v new cs.
      let n = net_of a in
      let fit = fit_of n (sound_of a.graph) a.graph.limits in
      law_but_last v.tape v.shown new.shows n fit w agree v new.state new.none_open new.strategy refl cs
      (bounded_recovers v.tape v.shown new.shows n fit w cs v new.state new.none_open new.strategy refl);
  notes = λ a w v new cs.
      let n = net_of a in
      let fit = fit_of n (sound_of a.graph) a.graph.limits in
      let none = tells_none v.tape v.shown new.shows n fit v new.state new.none_open new.strategy refl in
      subst (λ h. Told n w v.shown h (run n w cs v)) (append-nil (reverse (journal n w cs v)))
      (record {
        tells = tells_run v.tape v.shown new.shows n fit w cs [] v none;
        mode = mode_run v.tape v.shown new.shows n fit w cs [] v none (mode_none v new.strategy);
      });
}
