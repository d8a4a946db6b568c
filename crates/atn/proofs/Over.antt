-- What is reached depends on the states stepped over alone.
use Rattle.std.proofs.Common.{ℕ, List}
use Rattle.atn_graph.specs.Net.{Net}
use Rattle.atn.specs.Reach.{Nullable, StepOver, ReachesOver, Listed, KnowsNullable, KnowsReachedOver}

pub reaches_more : {M N : ℕ → Type 0} {n : Net} {s k : ℕ} → ((i : ℕ) → M i → N i) → ReachesOver M n s k → ReachesOver N n s k
reaches_more f ReachesOver.here = ReachesOver.here
reaches_more f (ReachesOver.more (StepOver.along e) r) = ReachesOver.more (StepOver.along e) (reaches_more f r)
reaches_more f (ReachesOver.more (StepOver.into e) r) = ReachesOver.more (StepOver.into e) (reaches_more f r)
reaches_more f (ReachesOver.more (StepOver.over e u) r) = ReachesOver.more (StepOver.over e (f _ u)) (reaches_more f r)

pub knows_over : (n : Net) (s : ℕ) (xs ys : List ℕ) → KnowsNullable n ys → KnowsReachedOver (Listed ys) n s xs → KnowsReachedOver (Nullable n) n s xs
knows_over n s xs ys known r k = (λ h. reaches_more (λ i. (known i).0) ((r k).0 h), λ h. (r k).1 (reaches_more (λ i. (known i).1) h))
