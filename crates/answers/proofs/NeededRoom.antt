-- Where no question adds a leaf, the room of the leaf lists does not count.
use Rattle.std.proofs.Common.{◌≡◌, ◌∙◌, ℕ, ◌+◌, ◌-◌, ◌≤◌, Bool, ◌||◌, ◌⊎◌, List, [], ◌∷◌, true, false, ap, inl, inr, refl, sym, subst, arith}
use Rattle.std.specs.List.{list_any}
use Rattle.std.proofs.lemmas.Bool.{cases_Bool, cond-true, cond-false}
use Rattle.atn_graph.specs.Net.{Net}
use Rattle.token.specs.Tokens.{Fields}
use Rattle.script.specs.Contents.{Content, leaf_places}
use Rattle.script_lines.specs.declared.questions.Ask.{Ask}
use Rattle.script_lines.specs.declared.questions.Ask.TheVariants.{Within, InContext, Expected, Recovery, Tokens, Leaf, Picture}
use Rattle.script_lines.specs.declared.questions.Question.{Question}
use Rattle.answers.specs.Asking.{Answer, EachAnswered, room_after, room_left}
use Rattle.answers.specs.Leaves.{adds_leaf, needed_places}
use Rattle.answers.specs.declared.replies.Reply.{Reply}
use Rattle.answers.specs.declared.replies.Reply.TheVariants.{Set, Tokens as TokenList, Leaf as LeafReply, Picture as PictureReply}

neither : (b c : Bool) → (b || c) ≡ false → (b ≡ false) × (c ≡ false)
neither true c e = absurd (cc)
neither false c e = (refl, e)

abbrev any_adds : List Question → Bool
any_adds qs = list_any (λ q. adds_leaf q.ask) qs

apart : (q : Question) (qs : List Question) → any_adds (q ∷ qs) ≡ false → (adds_leaf q.ask ≡ false) × (any_adds qs ≡ false)
apart q qs none = neither (adds_leaf q.ask) (any_adds qs) none

same_room : (a : Ask) → adds_leaf a ≡ false → (x : ℕ) → room_after a x ≡ x
same_room (Within s) none x = refl
same_room (InContext s chain) none x = refl
same_room (Expected s chain) none x = refl
same_room (Recovery chain) none x = refl
same_room Tokens none x = refl
same_room (Leaf l) none x = absurd (cc)
same_room Picture none x = refl

room_stays : (qs : List Question) → any_adds qs ≡ false → (x : ℕ) → room_left qs x ≡ x
room_stays [] none x = refl
room_stays (q ∷ qs) none x =
    let (head, tail) = apart q qs none in
    ap (room_left qs) (same_room q.ask head x) ∙ room_stays qs tail x

module _ (n : Net) (shown : List Fields) (x y : ℕ) where
  same_answer : (a : Ask) (r : Reply) → adds_leaf a ≡ false → Answer n shown x a r → Answer n shown y a r
  same_answer a (Set r) none h = h
  same_answer Tokens (TokenList v) none h = h
  same_answer (Within s) (TokenList v) none h = absurd h
  same_answer (InContext s chain) (TokenList v) none h = absurd h
  same_answer (Expected s chain) (TokenList v) none h = absurd h
  same_answer (Recovery chain) (TokenList v) none h = absurd h
  same_answer (Leaf l) (TokenList v) none h = absurd h
  same_answer Picture (TokenList v) none h = absurd h
  same_answer (Leaf l) (LeafReply r) none h = absurd (cc)
  same_answer (Within s) (LeafReply r) none h = absurd h
  same_answer (InContext s chain) (LeafReply r) none h = absurd h
  same_answer (Expected s chain) (LeafReply r) none h = absurd h
  same_answer (Recovery chain) (LeafReply r) none h = absurd h
  same_answer Tokens (LeafReply r) none h = absurd h
  same_answer Picture (LeafReply r) none h = absurd h
  same_answer Picture PictureReply none h = tt
  same_answer (Within s) PictureReply none h = absurd h
  same_answer (InContext s chain) PictureReply none h = absurd h
  same_answer (Expected s chain) PictureReply none h = absurd h
  same_answer (Recovery chain) PictureReply none h = absurd h
  same_answer Tokens PictureReply none h = absurd h
  same_answer (Leaf l) PictureReply none h = absurd h

  same_answers : (qs : List Question) (rs : List Reply) → any_adds qs ≡ false → EachAnswered n shown x qs rs → EachAnswered n shown y qs rs
  same_answers [] [] none e = tt
  same_answers [] (r ∷ rs) none e = absurd e
  same_answers (q ∷ qs) [] none e = absurd e
  same_answers (q ∷ qs) (r ∷ rs) none e =
      let (head, tail) = apart q qs none in (
        same_answer q.ask r head e.0,
        subst (λ z. EachAnswered n shown z qs rs) (sym (same_room q.ask head y))
            (same_answers qs rs tail (subst (λ z. EachAnswered n shown z qs rs) (same_room q.ask head x) e.1)),
      )

room_falls : (a : Ask) (x : ℕ) → room_after a x ≤ x
room_falls (Within s) x = omega arith
room_falls (InContext s chain) x = omega arith
room_falls (Expected s chain) x = omega arith
room_falls (Recovery chain) x = omega arith
room_falls Tokens x = omega arith
room_falls (Leaf l) x = omega arith
room_falls Picture x = omega arith

-- no more room is left than there was
pub left_falls : (qs : List Question) (x : ℕ) → room_left qs x ≤ x
left_falls [] x = omega arith
left_falls (q ∷ qs) x = omega (arith, room_falls q.ask x, left_falls qs (room_after q.ask x))

-- lists that have the room that is needed answer as those that have all that the script says
module _ (k : Content) where
  needs : (needed_places k ≡ leaf_places k) ⊎ ((needed_places k ≡ 0) × (any_adds k.questions ≡ false))
  needs = elim (cases_Bool (any_adds k.questions)) [
    | inl adds ↦ inl (cond-true (any_adds k.questions) (leaf_places k) 0 adds)
    | inr none ↦ inr (cond-false (any_adds k.questions) (leaf_places k) 0 none, none)
  ]

  pub needed_few : needed_places k ≤ leaf_places k
  needed_few = elim needs [ inl all ↦ omega (arith, all) | inr (none, stays) ↦ omega (arith, none) ]

  pub all_left : room_left k.questions (needed_places k) + (leaf_places k - needed_places k) ≡ room_left k.questions (leaf_places k)
  all_left = elim needs [
    | inl all ↦ omega (arith, all, ap (room_left k.questions) all)
    | inr (none, stays) ↦ omega (arith, none, room_stays k.questions stays (needed_places k), room_stays k.questions stays (leaf_places k))
  ]

  pub all_answered : (n : Net) (shown : List Fields) (rs : List Reply) → EachAnswered n shown (needed_places k) k.questions rs → EachAnswered n shown (leaf_places k) k.questions rs
  all_answered n shown rs e = elim needs [
    | inl all ↦ subst (λ x. EachAnswered n shown x k.questions rs) all e
    | inr (none, stays) ↦ same_answers n shown (needed_places k) (leaf_places k) k.questions rs stays e
  ]
