-- The first operation of a plan fits the text on which it was planned.
use Rattle.std.proofs.Common.{◌≡◌, ℕ, ◌<◌, List, [], ◌∷◌, slice_get, Some, refl, ◌∙◌, subst, arith}
use Rattle.std.proofs.lemmas.Option.{none-some, same_Some}
use Rattle.yq_documents.{specs.Documents.ReadsDocuments, specs.Reading.documents_of}
use Rattle.yq_semantics.{specs.Fits.{AllFit, Fits}, specs.Operations.{operation_of, operations_of}, specs.declared.op.Op.Op}
use Rattle.yq_semantics.{specs.Rooms.room_of, specs.Program.{Program, Update, read, updates, update_at, update_count}}
use Rattle.yq_edit_laws.specs.Theorems.{IsFitting}

some_update : (p : Program) → 0 < update_count p → (u : Update) × (update_at 0 p ≡ Some u)
some_update (read stages) h = absurd (omega (arith, h))
some_update (updates []) h = absurd (omega (arith, h))
some_update (updates (u ∷ us)) h = (u, refl)

pub first_fits : (t b d : List ℕ) (p : Program) (ops : List Op) → b ≡ t → d ≡ b → ReadsDocuments b (documents_of d) → 0 < update_count p →
    ((u : Update) → update_at 0 p ≡ Some u → AllFit (room_of d) (operations_of ops) (documents_of d)) →
    (op : Op) → slice_get ops 0 ≡ Some op → IsFitting (operation_of op) t
first_fits t b d p [] text same reads within fit op at = absurd (none-some op at)
first_fits t b d p (x ∷ xs) text same reads within fit op at =
    let u = some_update p within in
    let fits : Fits (room_of t) (operation_of x) (documents_of d) =
    subst (λ (s : List ℕ). Fits (room_of s) (operation_of x) (documents_of d)) (same ∙ text) (fit u.0 u.1).0 in
    record {
      before = documents_of d;
      read = subst (λ (s : List ℕ). ReadsDocuments s (documents_of d)) text reads;
      fits = subst (λ (y : Op). Fits (room_of t) (operation_of y) (documents_of d)) (same_Some x op at) fits;
    }
