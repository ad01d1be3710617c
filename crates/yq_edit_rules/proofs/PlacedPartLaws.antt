-- Where a document that has other rows is in its text.
use Rattle.std.proofs.Common.{rules, ◌≡◌, ℕ, zero, suc, ◌++◌, refl}
use Rattle.yq_row_table.{specs.Rows.{Part, part_text, Cut, last, marked, cut_text}, specs.Splices.after_part}
use Rattle.yq_places.{specs.PlacedRows.before_part, proofs.PlacedPartLaws.{part_is_there, following_text}}
use Rattle.yq_edit_rules.{specs.Changed.put_part, specs.PlacedParts.DocumentIsThereAt}

pub put_text : (i : ℕ) (q : Part) (c : Cut) → cut_text (put_part i q c) ≡ before_part i c ++ part_text q (after_part i c)
put_text i q (last p) = refl
put_text zero q (marked p marker c) = refl
put_text (suc i) q (marked p marker c) = following_text p marker (before_part i c) (part_text q (after_part i c)) (cut_text (put_part i q c)) (put_text i q c)

pub document_is_there_at : DocumentIsThereAt
document_is_there_at c k s e = search (rules, part_is_there k c s e, put_text)
