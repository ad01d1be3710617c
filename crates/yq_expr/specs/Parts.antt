-- What is left of a plan from one place of a document on, where it is made part by part (own).
use Rattle.std.specs.Prelude.{◌≡◌, ℕ, suc, ◌+◌, ◌*◌, ◌^◌, ◌<◌, true, false, List, [], ◌∷◌, ◌++◌, drop, Option, Some, None}
use Rattle.yq_core.specs.Tree.{Node}
use Rattle.yq_documents.specs.Documents.{Document}
use Rattle.yq_semantics.{specs.Changes.{Room, changes_at, has_comment, left_pipe}, specs.Judgement.{Judgement, and_then, gives}}
use Rattle.yq_semantics.{specs.Meaning.roots_of, specs.Operations.Operation, specs.Pipes.places, specs.Plans.{is_removal, ops_of}}
use Rattle.yq_semantics.specs.Program.{Update}
use Rattle.yq_eval.specs.PlaceView.{put_after}

-- how many bytes the values of a part may take, more or less (own)
abbrev pub values_limit : ℕ
values_limit = 2 ^ 28

-- the operations of an update in the document of that number, at its places from the one of an index on (own)
abbrev pub document_ops : Update → ℕ → Room → Node → ℕ → Judgement (List Operation)
document_ops u doc room root place =
    and_then (λ ps. and_then (λ cs. gives (ops_of doc cs)) (changes_at doc room root u (drop place ps))) (places doc (left_pipe u) root)

-- the same in documents from the one of that number on, of that one at its places from the one of an index on (own)
abbrev pub ops_from : Update → (ℕ → Room) → ℕ → ℕ → List Node → Judgement (List Operation)
ops_from u rooms doc place [] = gives []
ops_from u rooms doc place (root ∷ roots) =
    and_then (λ xs. and_then (λ ys. gives (xs ++ ys)) (ops_from u rooms (suc doc) 0 roots)) (document_ops u doc (rooms doc) root place)

-- what is left of the plan of an update of documents, from a place of the document of that number on (own)
abbrev pub rest_ops : Update → (ℕ → Room) → List Document → ℕ → ℕ → Judgement (List Operation)
rest_ops u rooms docs doc place = ops_from u rooms doc place (roots_of (drop doc docs))

-- operations after others are what is left from a place on: all of it, or, where there is a next place, all but what is left from there on (own)
abbrev pub IsPlanPart : (ℕ → Judgement (List Operation)) → ℕ → List Operation → List Operation → Option ℕ → Type 0
IsPlanPart rest place before after None = put_after before (rest place) ≡ gives after
IsPlanPart rest place before after (Some next) = put_after before (rest place) ≡ put_after after (rest next)

-- operations are what is left of a plan from a place on, but for what is left from another one on (own)
abbrev pub LeavesOps : Update → (ℕ → Room) → List Document → ℕ → ℕ → List Operation → ℕ → ℕ → Type 0
LeavesOps u rooms docs doc place ops doc_after place_after = rest_ops u rooms docs doc place ≡ put_after ops (rest_ops u rooms docs doc_after place_after)

-- a place of a document comes later than another one: of a later document, or of the same (own)
abbrev pub IsLater : ℕ → ℕ → ℕ → ℕ → Type 0
IsLater doc place doc_after place_after = doc * 2 ^ 64 + place < doc_after * 2 ^ 64 + place_after

-- The operations of an update are in the order of its places: it is no removal, and sets no comment that there can't be (own).
pub record IsInOrder (u : Update) : Type 0 where
  pub stays : is_removal u ≡ false
  pub comment : has_comment u ≡ true
