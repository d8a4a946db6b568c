-- One more question, and its answer.
use Rattle.std.proofs.Common.{◌≡◌, ◌∙◌, ℕ, ◌+◌, ◌<◌, List, [], ◌∷◌, ◌++◌, length, get_or, take, ap, subst, sym, refl}
use Rattle.std.proofs.lemmas.List.{take_more}
use Rattle.atn_graph.specs.Net.{Net}
use Rattle.token.specs.Tokens.{Fields}
use Rattle.script_lines.specs.declared.questions.Question.{Question}
use Rattle.answers.specs.Asking.{Answer, EachAnswered, room_after, room_left}
use Rattle.answers.specs.declared.replies.Reply.{Reply}

room_push : (qs : List Question) (q : Question) (room : ℕ) → room_left (qs ++ q ∷ []) room ≡ room_after q.ask (room_left qs room)
room_push [] q room = refl
room_push (p ∷ qs) q room = room_push qs q (room_after p.ask room)

module _ (n : Net) (shown : List Fields) where
  each_push : (room : ℕ) (qs : List Question) (rs : List Reply) (q : Question) (r : Reply) → EachAnswered n shown room qs rs → Answer n shown (room_left qs room) q.ask r → EachAnswered n shown room (qs ++ q ∷ []) (rs ++ r ∷ [])
  each_push room [] [] q r e a = (a, tt)
  each_push room [] (s ∷ rs) q r e a = absurd e
  each_push room (p ∷ qs) [] q r e a = absurd e
  each_push room (p ∷ qs) (s ∷ rs) q r e a = (e.0, each_push (room_after p.ask room) qs rs q r e.1 a)

  module _ (qs : List Question) (i : ℕ) (q : Question) (within : i < length qs) (is : q ≡ get_or qs i q) where
    next : take (i + 1) qs ≡ take i qs ++ q ∷ []
    next = take_more qs i q within ∙ ap (λ z. take i qs ++ z ∷ []) (sym is)

    pub room_more : (room : ℕ) → room_left (take (i + 1) qs) room ≡ room_after q.ask (room_left (take i qs) room)
    room_more room = ap (λ l. room_left l room) next ∙ room_push (take i qs) q room

    pub each_more : (room : ℕ) (rs ts : List Reply) (r : Reply) → ts ≡ rs ++ r ∷ [] → EachAnswered n shown room (take i qs) rs → Answer n shown (room_left (take i qs) room) q.ask r → EachAnswered n shown room (take (i + 1) qs) ts
    each_more room rs ts r pushed e a = subst (EachAnswered n shown room (take (i + 1) qs)) (sym pushed) (subst (λ l. EachAnswered n shown room l (rs ++ r ∷ [])) (sym next) (each_push room (take i qs) rs q r e a))
