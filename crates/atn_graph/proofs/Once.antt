-- Rows write at most one net: each number is read in one way.
use Rattle.std.proofs.Common.{◌≡◌, ℕ, zero, suc, ◌-◌, ◌<◌, ◌≤◌, List, [], ◌∷◌, get_or, ℤ, pos, negsuc, sym, refl, ap, ◌∙◌, subst, arith}
use Rattle.interval_set.specs.Intervals.{from_to}
use Rattle.atn_graph.specs.declared.tables.StateRow.{StateRow}
use Rattle.atn_graph.specs.declared.tables.EdgeRow.{EdgeRow}
use Rattle.atn_graph.specs.declared.atn_state.StateKind.{StateKind}
use Rattle.atn_graph.specs.declared.atn_state.StateKind.TheVariants.{Basic, RuleStart, BlockStart, PlusBlockStart, StarBlockStart, RuleStop, BlockEnd, StarLoopBack, StarLoopEntry, PlusLoopBack, LoopEnd}
use Rattle.atn_graph.specs.declared.atn_state.AtnState.{AtnState}
use Rattle.atn_graph.specs.declared.transition.Transition.{Transition}
use Rattle.atn_graph.specs.declared.transition.TransitionKind.{TransitionKind}
use Rattle.atn_graph.specs.declared.transition.TransitionKind.TheVariants.{Epsilon, Range, Rule, Predicate, Atom, Action, Set, NotSet, Wildcard, Precedence}
use Rattle.atn_graph.specs.Kinds.{state_kind_number, transition_number}
use Rattle.atn_graph.specs.Net.{no_state, end_before}
use Rattle.atn_graph.specs.Written.{WritesState, no_state_row, WritesEdge, Columns}
use Rattle.atn_graph.specs.Reading.{StatesRead, KindRead}

-- the number that an index's column holds
abbrev pub index_of : ℤ → ℕ
index_of (pos n) = n
index_of (negsuc n) = 0

-- the kind with a number
abbrev kind_numbered : ℕ → StateKind
kind_numbered n = get_or (Basic ∷ Basic ∷ RuleStart ∷ BlockStart ∷ PlusBlockStart ∷ StarBlockStart ∷ Basic ∷ RuleStop ∷ BlockEnd ∷ StarLoopBack ∷ StarLoopEntry ∷ PlusLoopBack ∷ LoopEnd ∷ []) n Basic

kind_numbered_is : (k : StateKind) → kind_numbered (state_kind_number k) ≡ k
kind_numbered_is Basic = refl
kind_numbered_is RuleStart = refl
kind_numbered_is BlockStart = refl
kind_numbered_is PlusBlockStart = refl
kind_numbered_is StarBlockStart = refl
kind_numbered_is RuleStop = refl
kind_numbered_is BlockEnd = refl
kind_numbered_is StarLoopBack = refl
kind_numbered_is StarLoopEntry = refl
kind_numbered_is PlusLoopBack = refl
kind_numbered_is LoopEnd = refl

same_kind : (j k : StateKind) → state_kind_number j ≡ state_kind_number k → j ≡ k
same_kind j k e = sym (kind_numbered_is j) ∙ ap kind_numbered e ∙ kind_numbered_is k

-- a row and a place to begin write one state
pub state_once : (row : StateRow) (before : ℕ) (x y : AtnState) → WritesState row before x → WritesState row before y → x ≡ y
state_once row before x y w v i =
    let e = w.numbers ∙ sym v.numbers in
    let rule : x.rule ≡ y.rule = ap (λ r. index_of r.rule) e in
    let kind : x.kind ≡ y.kind = same_kind x.kind y.kind (ap (λ r. index_of r.kind) e) in
    let first : x.first ≡ y.first = w.begins ∙ sym v.begins in
    let runs : x.end - x.first ≡ y.end - y.first = ap (λ r. index_of r.edges) e in
    let end : x.end ≡ y.end = omega (arith, w.rises, v.rises) in
    record { rule = rule i; kind = kind i; first = first i; end = end i }

-- the states that rows write end their runs at the same places
pub ends_once : (rows : List StateRow) (i : ℕ) (a b : List AtnState) → StatesRead rows i a → StatesRead rows i b → (k : ℕ) → k ≤ i → end_before a k ≡ end_before b k
ends_once rows i a b r q zero l = refl
ends_once rows i a b r q (suc k) l =
    let h : k < i = omega arith in
    let same = ends_once rows i a b r q k (omega arith) in
    ap (λ s. s.end) (state_once (get_or rows k no_state_row) (end_before a k) (get_or a k no_state) (get_or b k no_state) (r k h)
    (subst (λ x. WritesState (get_or rows k no_state_row) x (get_or b k no_state)) (sym same) (q k h)))

pub states_once : (rows : List StateRow) (i : ℕ) (a b : List AtnState) → StatesRead rows i a → StatesRead rows i b → (k : ℕ) → k < i → get_or a k no_state ≡ get_or b k no_state
states_once rows i a b r q k h =
    let same = ends_once rows i a b r q k (omega arith) in
    state_once (get_or rows k no_state_row) (end_before a k) (get_or a k no_state) (get_or b k no_state) (r k h)
    (subst (λ x. WritesState (get_or rows k no_state_row) x (get_or b k no_state)) (sym same) (q k h))

-- the kind of edge that a row with that number writes
abbrev edge_numbered : ℕ → ℤ → ℤ → TransitionKind
edge_numbered n a b = get_or (Epsilon ∷ Epsilon ∷ Range (from_to a b) ∷ Rule (index_of a) (index_of b) ∷ Predicate ∷ Atom a ∷ Action ∷ Set (index_of a) (index_of b) ∷ NotSet (index_of a) (index_of b) ∷ Wildcard ∷ Precedence ∷ []) n Epsilon

columns_are : (row : EdgeRow) (k : TransitionKind) → Columns row k → edge_numbered (transition_number k) row.a row.b ≡ k
columns_are row Epsilon c = refl
columns_are row (Range i) c = ap (λ x. Range (from_to x row.b)) c.0 ∙ ap (λ x. Range (from_to i.a x)) c.1
columns_are row (Rule r f) c = ap (λ x. Rule (index_of x) (index_of row.b)) c.0 ∙ ap (λ x. Rule r (index_of x)) c.1
columns_are row Predicate c = refl
columns_are row (Atom t) c = ap Atom c
columns_are row Action c = refl
columns_are row (Set f n) c = ap (λ x. Set (index_of x) (index_of row.b)) c.0 ∙ ap (λ x. Set f (index_of x)) c.1
columns_are row (NotSet f n) c = ap (λ x. NotSet (index_of x) (index_of row.b)) c.0 ∙ ap (λ x. NotSet f (index_of x)) c.1
columns_are row Wildcard c = refl
columns_are row Precedence c = refl

kind_once : (row : EdgeRow) (j k : TransitionKind) → KindRead row j → KindRead row k → j ≡ k
kind_once row j k w v =
    let number : transition_number j ≡ transition_number k = ap index_of (sym w.0 ∙ v.0) in
    sym (columns_are row j w.1) ∙ ap (λ n. edge_numbered n row.a row.b) number ∙ columns_are row k v.1

pub edge_once : (row : EdgeRow) (x y : Transition) → WritesEdge row x → WritesEdge row y → x ≡ y
edge_once row x y w v i =
    let target : x.target ≡ y.target = ap index_of (sym w.target ∙ v.target) in
    let kind : x.kind ≡ y.kind = kind_once row x.kind y.kind (w.kind, w.columns) (v.kind, v.columns) in
    record { target = target i; kind = kind i }
