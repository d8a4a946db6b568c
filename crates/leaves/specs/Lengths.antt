-- How long columns and lines are: nothing here says how they are written.
use Rattle.std.proofs.Common.{◌≡◌, ℕ, suc, ◌+◌, ◌-◌, ◌*◌, ◌≤◌, ◌<◌, List, [], ◌∷◌, ◌++◌, take, length, replicate, ℤ, pos, ◌≤ℤ◌, All, Option, Some, None, refl, sym, ap, ap₂, mul-zero, mul-suc, ◌∙◌, arith, lit≤, get_or}
use native.Mathlib.Nat.{add_comm}
use Rattle.std.specs.Option.{ForSome}
use Rattle.std.specs.Fmt.{signed_decimal}
use Rattle.std.specs.List.{flat_map}
use Rattle.std.specs.Int.Signed.{mag}
use Rattle.std.proofs.lemmas.Int.{ints}
use Rattle.std.proofs.lemmas.Fmt.{length_signed_le}
use Rattle.std.proofs.lemmas.List.{length-append, length-replicate, take_more, append-nil}
use Rattle.std.proofs.lemmas.Grind.{flat_map-append}
use Rattle.std.proofs.lemmas.List.Elements.{All-cons, All-nil}
use Rattle.token.specs.declared.token.TheConstants.{MAX_POSITION}
use Rattle.token.specs.declared.token_type.TokenType.{TokenType}
use Rattle.token.specs.declared.token_type.TokenType.TheVariants.{Eof, Of}
use Rattle.token.specs.Tokens.{type_number, index_number}
use Rattle.leaves.specs.declared.lines.TheConstants.{COLUMN_WIDTH, LINE_LENGTH}
use Rattle.leaves.specs.declared.leaf.LeafKind.{LeafKind}
use Rattle.leaves.specs.declared.leaf.LeafKind.TheVariants.{Terminal, Error}
use Rattle.leaves.specs.Leaves.{LeafFields, LeafFits, leaf_number}
use Rattle.leaves.specs.LeafLines.{column, numbers, leaf_line}

-- a number that a leaf may have
abbrev pub Small : ℤ → Type 0
Small n = mag n ≤ MAX_POSITION

pub small_short : (n : ℤ) → Small n → length (signed_decimal n) ≤ COLUMN_WIDTH
small_short n h = length_signed_le 7 n (omega (arith, h)) (omega (arith, h))

pub length_column : (n : ℤ) → Small n → length (column n) ≡ COLUMN_WIDTH
unfolding column
length_column n h =
    let d = signed_decimal n in
    length-append (replicate (COLUMN_WIDTH - length d) 32) d ∙ ap (λ k. k + length d) (length-replicate (COLUMN_WIDTH - length d) 32) ∙ omega (arith, small_short n h)

kind_small : (k : LeafKind) → Small (pos (leaf_number k))
kind_small Terminal = lit≤ tt
kind_small Error = lit≤ tt

type_small : (t : TokenType) → type_number t ≤ℤ pos 255 → Small (type_number t)
type_small Eof h = lit≤ tt
type_small (Of n) h =
    let few : pos n ≤ℤ pos 255 = h in
    let small : n ≤ 1000000 = omega (arith, ints, few) in
    small

index_small : (i : Option ℕ) → ForSome i (λ k. k ≤ 65534) → Small (index_number i)
index_small None h = lit≤ tt
index_small (Some k) h =
    let few : k ≤ 65534 = h k refl in
    let small : k ≤ 1000000 = omega (arith, few) in
    small

pub all_small : (l : LeafFields) → LeafFits l → All Small (numbers l)
all_small l f =
    let depth : l.depth ≤ 1000000 = omega (arith, f.depth) in
    let rule : l.rule ≤ 1000000 = omega (arith, f.rule) in
    let after_line : List ℤ = pos l.column ∷ [] in
    let after_index : List ℤ = pos l.line ∷ after_line in
    let after_type : List ℤ = index_number l.index ∷ after_index in
    let after_rule : List ℤ = type_number l.typ ∷ after_type in
    let after_depth : List ℤ = pos l.rule ∷ after_rule in
    let after_kind : List ℤ = pos l.depth ∷ after_depth in
    All-cons Small (pos (leaf_number l.kind)) after_kind (kind_small l.kind) (All-cons Small (pos l.depth) after_depth depth
    (All-cons Small (pos l.rule) after_rule rule (All-cons Small (type_number l.typ) after_type (type_small l.typ f.typ)
    (All-cons Small (index_number l.index) after_index (index_small l.index f.index) (All-cons Small (pos l.line) after_line f.line
    (All-cons Small (pos l.column) [] f.column (All-nil Small)))))))

-- one element more
pub flat_map_step : {X A : Type 0} (f : X → List A) (xs : List X) (i : ℕ) (d : X) → i < length xs → flat_map f (take (i + 1) xs) ≡ flat_map f (take i xs) ++ f (get_or xs i d)
flat_map_step f xs i d l =
    ap (flat_map f) (take_more xs i d l) ∙ flat_map-append f (take i xs) (get_or xs i d ∷ []) ∙ ap (λ ys. flat_map f (take i xs) ++ ys) (append-nil (f (get_or xs i d)))

-- as long as each piece times their number
pub length_pieces : {X A : Type 0} (f : X → List A) (k : ℕ) (xs : List X) → All (λ x. length (f x) ≡ k) xs → length (flat_map f xs) ≡ k * length xs
length_pieces f k [] all = sym (mul-zero k)
length_pieces f k (x ∷ xs) all =
    let one : length (f x) ≡ k = all 0 x (omega arith) in
    let rest : length (flat_map f xs) ≡ k * length xs = length_pieces f k xs (λ i d l. all (suc i) d (omega (arith, l))) in
    length-append (f x) (flat_map f xs) ∙ ap₂ (λ a b. a + b) one rest ∙ add_comm k (k * length xs) ∙ sym (mul-suc k (length xs))

pub length_line : (l : LeafFields) → LeafFits l → length (leaf_line l) ≡ LINE_LENGTH
unfolding leaf_line
length_line l f = length-append (flat_map column (numbers l)) (10 ∷ []) ∙ ap (λ k. k + 1) (length_pieces column COLUMN_WIDTH (numbers l) (λ i d h. length_column (get_or (numbers l) i d) (all_small l f i d h)))
