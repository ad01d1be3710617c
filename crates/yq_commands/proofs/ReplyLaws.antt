-- Replies, and the bytes that the output took of them.
use Rattle.std.proofs.Common.{rules, ◌≡◌, ℕ, ◌+◌, ◌-◌, ◌^◌, ◌<◌, min, false, if◌then◌else◌, List, [], ◌∷◌, ◌++◌, append_assoc, Result}
use Rattle.std.{proofs.Common.{MatchResult, sym, ap, ap₂, ◌∙◌, refl}, proofs.lemmas.List.append-nil}
use Rattle.yq_commands.{specs.declared.answer.Answer.Answer, specs.declared.answer.Answer.TheVariants.{Done, NoMatch, Refused}}
use Rattle.yq_commands.specs.Lists.{Reply, answers_in, printed_in, IsAnswer, reports_output}
use Rattle.yq_history.specs.Report.{Report}
use Rattle.yq_fault.specs.declared.fault.Fault.{Fault}
use Rattle.yq_store.specs.Count.{count_plus_one}

-- the reply of an answer: only what is carried out prints
abbrev pub reply : Answer → List ℕ → Reply
reply Done o = record { answer = Done; printed = o }
reply NoMatch o = record { answer = NoMatch; printed = o }
reply (Refused e) o = record { answer = Refused e; printed = [] }

pub reply-answer : (a : Answer) (o : List ℕ) → (reply a o).answer ≡ a
reply-answer a o = search rules

answers_push : (rs : List Reply) (r : Reply) → answers_in (rs ++ r ∷ []) ≡ answers_in rs ++ r.answer ∷ []
answers_push [] r = refl
answers_push (x ∷ rs) r = ap (λ as'. x.answer ∷ as') (answers_push rs r)

-- the answers, one reply more
pub answers_more : (rs : List Reply) (as' : List Answer) (a : Answer) (o : List ℕ) → answers_in rs ≡ as' → answers_in (rs ++ reply a o ∷ []) ≡ as' ++ a ∷ []
answers_more rs as' a o is = answers_push rs (reply a o) ∙ ap₂ (λ xs x. xs ++ x ∷ []) is (reply-answer a o)

printed_push : (rs : List Reply) (r : Reply) → printed_in (rs ++ r ∷ []) ≡ printed_in rs ++ r.printed
printed_push [] r = append-nil r.printed
printed_push (x ∷ rs) r = ap (λ os. x.printed ++ os) (printed_push rs r) ∙ sym (append_assoc x.printed (printed_in rs) r.printed)

-- the output failed at no answer, if its count is where it was
not_output : (a : Answer) (c start n m : ℕ) → n ≡ min (start + c) (2 ^ 64 - 1) → m ≡ (if reports_output a then count_plus_one n else n) → m ≡ start → m < 2 ^ 64 - 1 → (reports_output a ≡ false) × (n ≡ start)
not_output a c start n m before after same below = search rules

took : {T : Type 0} (r : Result T Fault) (a : Answer) (s : Report) (now after : List ℕ) →
    IsAnswer r a s → reports_output a ≡ false → MatchResult r (λ _. reports_output a ≡ false → after ≡ now ++ s.printed) (λ _. after ≡ now) → after ≡ now ++ (reply a s.printed).printed
took r a s now after is no_output puts = search rules

-- the bytes that were put, one command more
pub taken_more : {T : Type 0} (r : Result T Fault) (a : Answer) (s : Report) (rs : List Reply) (start now after : List ℕ) (c first n m : ℕ) → IsAnswer r a s →
    (first < 2 ^ 64 → n ≡ min (first + c) (2 ^ 64 - 1)) → m ≡ (if reports_output a then count_plus_one n else n) → m ≡ first → m < 2 ^ 64 - 1 →
    (n ≡ first → n < 2 ^ 64 - 1 → now ≡ start ++ printed_in rs) →
    MatchResult r (λ _. reports_output a ≡ false → after ≡ now ++ s.printed) (λ _. after ≡ now) → after ≡ start ++ printed_in (rs ++ reply a s.printed ∷ [])
taken_more r a s rs start now after c first n m is sum count same below before puts = search (rules, not_output, took, append_assoc, printed_push)
