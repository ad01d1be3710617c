-- The documents of a text that reads are ready, with the room that the text has.
use Rattle.std.{proofs.Common.{◌≡◌, ℕ, zero, suc, ◌+◌, List, [], ◌∷◌, Some, refl, subst, arith}, specs.List.slice_get}
use Rattle.yq_documents.{specs.Documents.Document, specs.Reading.documents_of, specs.Ready.{IsReady, TextIsReady}}
use Rattle.yq_semantics.{specs.Changes.Room, specs.Meaning.AreReady, specs.Rooms.room_of}

ready_from : (rooms : ℕ → Room) (n : ℕ) (docs : List Document) → ((i : ℕ) (d : Document) → slice_get docs i ≡ Some d → IsReady (rooms (n + i)).block d) → AreReady rooms n docs
ready_from rooms n [] h = tt
ready_from rooms n (d ∷ ds) h =
    let same : n + 0 ≡ n = omega arith in
    let here : IsReady (rooms n).block d = subst (λ k. IsReady (rooms k).block d) same (h zero d refl) in
    ((here.tree, here.led), ready_from rooms (suc n) ds (λ i e at. let next : n + suc i ≡ suc n + i = omega arith in subst (λ k. IsReady (rooms k).block e) next (h (suc i) e at)))

pub rooms_are_ready : (t : List ℕ) → TextIsReady t → AreReady (room_of t) 0 (documents_of t)
rooms_are_ready t h = ready_from (room_of t) 0 (documents_of t) (λ i d at. let same : i ≡ 0 + i = omega arith in subst (λ k. IsReady (room_of t k).block d) same (h i d at))
