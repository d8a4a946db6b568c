-- The sets of types by which the parser repairs are those of the net.
use Rattle.std.proofs.Common.{ℕ, List, [], ◌∷◌, ℤ, Decides}
use Rattle.std.proofs.lemmas.Bool.Decides.{Decides-or, Decides-and, Decides-int_eq}
use Rattle.atn_graph.specs.Net.{Net}
use Rattle.ll1_analyzer.specs.Sets.{eof, epsilon, Joined, Within}
use Rattle.recovery_model.specs.Sets.{WithinSets, Agree, joined, within}

pub decides_joined : (n : Net) (w : WithinSets) → Agree n w → (ss : List ℕ) (x : ℤ) → Decides (joined w ss x) (Joined n ss x)
decides_joined n w agree [] x = Decides-int_eq x eof
decides_joined n w agree (s ∷ ss) x = Decides-or _ _ (agree.types s x) (Decides-and _ _ (agree.ends s) (decides_joined n w agree ss x))

pub decides_within : (n : Net) (w : WithinSets) → Agree n w → (s : ℕ) (x : ℤ) → Decides (within w s x) (Within n s x)
decides_within n w agree s x = Decides-or _ _ (agree.types s x) (Decides-and _ _ (Decides-int_eq x epsilon) (agree.ends s))
