-- The documents of a cut are those of its parts.
use Rattle.std.{proofs.Common.{◌≡◌, ℕ, zero, suc, List, [], ◌∷◌, map, Some, refl, sym, ap}, proofs.lemmas.Option.{none-some, same_Some}}
use Rattle.std.specs.List.{slice_get}
use Rattle.yq_row_table.specs.Rows.{Part, Cut}
use Rattle.yq_documents.{specs.Documents.{Document, document_parts}, specs.Reading.{part_document, documents, root_of}}

-- A document of a cut is that of a part.
pub record PartOf (c : Cut) (n : ℕ) (d : Document) : Type 0 where
  pub part : Part
  pub there : slice_get (document_parts c) n ≡ Some part
  pub root : d.root ≡ root_of part

mapped : (n : ℕ) (ps : List Part) (d : Document) → slice_get (map part_document ps) n ≡ Some d → (p : Part) × (slice_get ps n ≡ Some p) × (d ≡ part_document p)
mapped n [] d e = absurd (none-some _ e)
mapped zero (p ∷ ps) d e = (p, refl, sym (same_Some _ _ e))
mapped (suc n) (p ∷ ps) d e = mapped n ps d e

pub part_of : (c : Cut) (n : ℕ) (d : Document) → slice_get (documents c) n ≡ Some d → PartOf c n d
part_of c n d e = let p = mapped n (document_parts c) d e in record { part = p.0; there = p.1; root = ap (λ (x : Document). x.root) p.2 }
