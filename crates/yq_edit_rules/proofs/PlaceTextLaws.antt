-- The text around a document, and the lines that are printed there.
use Rattle.std.{proofs.Common.{rules, ◌≡◌, ℕ, List, ◌++◌, Some, ap, ◌∙◌}, specs.List.slice_get}
use Rattle.yq_row_table.specs.Rows.{Part, part_text, Cut, cut_text}
use Rattle.yq_documents.{specs.Documents.document_parts, specs.PartNumbers.part_number, proofs.PartNumberLaws.part_there}
use Rattle.yq_places.{specs.PathPieces.printed_document, specs.PlacedRows.before_part, specs.PrintedLines.printed_lines}
use Rattle.yq_places.proofs.PlacedPartLaws.{text_at}
use Rattle.yq_edit_rules.{specs.Changed.put_document, specs.DocumentRows.after_document, proofs.PlacedPartLaws.put_text}

-- The text before document k, whose lines are printed between it and what is after them, and which stays where the document has another part.
pub record IsAround (k : ℕ) (c : Cut) (p : Part) : Type 0 where
  pub start : List ℕ
  pub printed : printed_document k c ≡ Some (record { before = start; lines = printed_lines p.rows; after = p.end ++ after_document k c })
  pub text : cut_text c ≡ start ++ part_text p (after_document k c)
  pub put : (q : Part) → cut_text (put_document k q c) ≡ start ++ part_text q (after_document k c)

pub around : (k : ℕ) (c : Cut) (p : Part) → slice_get (document_parts c) k ≡ Some p → IsAround k c p
around k c p e =
    let i : ℕ = part_number k c in
    let is = part_there c k p e in
    record {
      start = before_part i c;
      printed = search rules;
      text = text_at i c ∙ ap (λ (x : Part). before_part i c ++ part_text x (after_document k c)) is;
      put = λ q. put_text i q c;
    }
