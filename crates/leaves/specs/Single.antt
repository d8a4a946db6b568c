-- Why a text is the lines of one list of leaves alone: nothing here says how lines are written.
use lib.Dec.{T_prop}
use native.Mathlib.Bridge.{le_prop}
use mathlib.Core.HLevel.{is_prop→PathP}
use Rattle.std.proofs.Common.{◌≡◌, ℕ, zero, suc, ◌+◌, ◌-◌, ◌%◌, ◌^◌, ◌<◌, Bool, List, [], ◌∷◌, ◌++◌, take, drop, length, replicate, filter, get_or, ℤ, pos, negsuc, All, Option, Some, None, nat_lt, refl, sym, ap, ap₂, ◌∙◌, arith}
use Rattle.std.proofs.Props.{props}
use Rattle.std.specs.Fmt.{decimal, signed_decimal}
use Rattle.std.specs.List.{flat_map}
use Rattle.std.specs.Int.Signed.{mag}
use Rattle.std.proofs.lemmas.Fmt.{decimal_by_steps, signed_decimal_injective}
use Rattle.std.proofs.lemmas.List.{take_at, drop_at, append_cancel_right, length-append}
use Rattle.std.proofs.lemmas.List.Elements.{filter-append}
use Rattle.std.proofs.lemmas.Bool.{lt-ltb, cond-true}
use Rattle.token.specs.declared.token_type.TokenType.{TokenType}
use Rattle.token.specs.declared.token_type.TokenType.TheVariants.{Eof, Of}
use Rattle.token.specs.Tokens.{type_number, index_number}
use Rattle.leaves.specs.declared.lines.TheConstants.{COLUMN_WIDTH, LINE_LENGTH}
use Rattle.leaves.specs.declared.leaf.LeafKind.{LeafKind}
use Rattle.leaves.specs.declared.leaf.LeafKind.TheVariants.{Terminal, Error}
use Rattle.leaves.specs.Leaves.{LeafFields, LeafFits, leaf_number}
use Rattle.leaves.specs.LeafLines.{column, numbers, leaf_line, Written}
use Rattle.leaves.specs.Lengths.{Small, all_small, length_column, length_line}

module _ {X A : Type 0} (P : X → Type 0) (f : X → List A) (k : ℕ) (some : 0 < k) (long : (x : X) → P x → length (f x) ≡ k) where
  apart : (x : X) (xs : List X) → P x → [] ≡ f x ++ flat_map f xs → ⊥
  apart x xs p e = let l : 0 ≡ length (f x ++ flat_map f xs) = ap length e in omega (arith, l, length-append (f x) (flat_map f xs), long x p, some)

  -- pieces that are alike long and tell their elements tell the list
  pieces_tell : (tell : (x y : X) → P x → P y → f x ≡ f y → x ≡ y) (xs ys : List X) → All P xs → All P ys → flat_map f xs ≡ flat_map f ys → xs ≡ ys
  pieces_tell tell [] [] p q e = refl
  pieces_tell tell [] (y ∷ ys) p q e = absurd (apart y ys (q 0 y (omega arith)) e)
  pieces_tell tell (x ∷ xs) [] p q e = absurd (apart x xs (p 0 x (omega arith)) (sym e))
  pieces_tell tell (x ∷ xs) (y ∷ ys) p q e =
      let px : P x = p 0 x (omega arith) in
      let py : P y = q 0 y (omega arith) in
      let first : f x ≡ f y = sym (take_at (f x) (flat_map f xs) k (long x px)) ∙ ap (take k) e ∙ take_at (f y) (flat_map f ys) k (long y py) in
      let rest : flat_map f xs ≡ flat_map f ys = sym (drop_at (f x) (flat_map f xs) k (long x px)) ∙ ap (drop k) e ∙ drop_at (f y) (flat_map f ys) k (long y py) in
      ap₂ (λ z zs. z ∷ zs) (tell x y px py first) (pieces_tell tell xs ys (λ i d l. p (suc i) d (omega (arith, l))) (λ i d l. q (suc i) d (omega (arith, l))) rest)

-- what is no blank
abbrev shows : ℕ → Bool
shows b = nat_lt 32 b

blanks_gone : (k : ℕ) → filter shows (replicate k 32) ≡ []
blanks_gone zero = refl
blanks_gone (suc k) = blanks_gone k

digit_stays : (n : ℕ) → filter shows ((48 + n) ∷ []) ≡ (48 + n) ∷ []
digit_stays n = cond-true (shows (48 + n)) _ _ (lt-ltb 32 (48 + n) (omega arith))

decimal_stays : (n : ℕ) → n < 2 ^ 64 → filter shows (decimal n) ≡ decimal n
decimal_stays = decimal_by_steps (λ _ ds. filter shows ds ≡ ds) (λ n _. digit_stays n) (λ n ds _ e. filter-append shows ds ((48 + n % 10) ∷ []) ∙ ap₂ (λ a b. a ++ b) e (digit_stays (n % 10)))

signed_stays : (n : ℤ) → Small n → filter shows (signed_decimal n) ≡ signed_decimal n
signed_stays (pos n) h = decimal_stays n (omega (arith, h))
signed_stays (negsuc n) h = ap (λ ds. 45 ∷ ds) (decimal_stays (suc n) (omega (arith, h)))

digits_of_column : (n : ℤ) → Small n → filter shows (column n) ≡ signed_decimal n
unfolding column
digits_of_column n h = filter-append shows (replicate (COLUMN_WIDTH - length (signed_decimal n)) 32) (signed_decimal n) ∙ ap₂ (λ a b. a ++ b) (blanks_gone (COLUMN_WIDTH - length (signed_decimal n))) (signed_stays n h)

column_tells : (m n : ℤ) → Small m → Small n → column m ≡ column n → m ≡ n
column_tells m n p q e = signed_decimal_injective m n (omega (arith, p)) (omega (arith, q)) (sym (digits_of_column m p) ∙ ap (filter shows) e ∙ digits_of_column n q)

kind_tells : (j k : LeafKind) → leaf_number j ≡ leaf_number k → j ≡ k
kind_tells Terminal Terminal e = refl
kind_tells Terminal Error e = absurd (omega (arith, e))
kind_tells Error Terminal e = absurd (omega (arith, e))
kind_tells Error Error e = refl

type_tells : (t u : TokenType) → type_number t ≡ type_number u → t ≡ u
type_tells Eof Eof e = refl
type_tells Eof (Of n) e = cc
type_tells (Of m) Eof e = cc
type_tells (Of m) (Of n) e = cc

index_tells : (i j : Option ℕ) → index_number i ≡ index_number j → i ≡ j
index_tells None None e = refl
index_tells None (Some n) e = cc
index_tells (Some m) None e = cc
index_tells (Some m) (Some n) e = cc

natural : ℤ → ℕ
natural (pos n) = n
natural (negsuc n) = 0

pub numbers_tell : (l m : LeafFields) → numbers l ≡ numbers m → l ≡ m
numbers_tell l m e =
    let at : (k : ℕ) → get_or (numbers l) k (pos 0) ≡ get_or (numbers m) k (pos 0) = λ k. ap (λ ns. get_or ns k (pos 0)) e in
    λ i. record {
      kind = kind_tells l.kind m.kind (ap mag (at 0)) i;
      depth = ap mag (at 1) i;
      rule = ap mag (at 2) i;
      typ = type_tells l.typ m.typ (at 3) i;
      index = index_tells l.index m.index (at 4) i;
      line = ap mag (at 5) i;
      column = ap mag (at 6) i;
    }

line_tells : (l m : LeafFields) → LeafFits l → LeafFits m → leaf_line l ≡ leaf_line m → l ≡ m
unfolding leaf_line
line_tells l m p q e = numbers_tell l m (pieces_tell Small column COLUMN_WIDTH (omega arith) length_column column_tells (numbers l) (numbers m) (all_small l p) (all_small m q) (append_cancel_right (flat_map column (numbers l)) (flat_map column (numbers m)) (10 ∷ []) e))

pub lines_tell : (ls ms : List LeafFields) → All LeafFits ls → All LeafFits ms → flat_map leaf_line ls ≡ flat_map leaf_line ms → ls ≡ ms
lines_tell = pieces_tell LeafFits leaf_line LINE_LENGTH (omega arith) length_line line_tells

fits_prop : (l : LeafFields) → IsProp (LeafFits l)
fits_prop l a b i = record {
  some_open = le_prop a.some_open b.some_open i;
  depth = le_prop a.depth b.depth i;
  rule = le_prop a.rule b.rule i;
  typ = record { le = T_prop _ a.typ.le b.typ.le i };
  index = λ k e. le_prop (a.index k e) (b.index k e) i;
  line = le_prop a.line b.line i;
  column = le_prop a.column b.column i;
}

all_fit_prop : (ls : List LeafFields) → IsProp (All LeafFits ls)
all_fit_prop ls a b i k d l = fits_prop (get_or ls k d) (a k d l) (b k d l) i

pub written_prop : (text : List ℕ) → IsProp (Written text)
written_prop text a b i =
    let same : a.leaves ≡ b.leaves = lines_tell a.leaves b.leaves a.fit b.fit (sym a.lines ∙ b.lines) in
    record {
      leaves = same i;
      fit = is_prop→PathP (λ j. All LeafFits (same j)) (λ j. all_fit_prop (same j)) a.fit b.fit i;
      lines = is_prop→PathP (λ j. text ≡ flat_map leaf_line (same j)) (λ j. hlevel props) a.lines b.lines i;
    }
