-- Where nodes are that are alone on their lines: as roots, and under a key or dash.
use Rattle.std.proofs.Common.{◌≡◌, ℕ, Bool, true, cond, List, [], ◌∷◌, ◌++◌, Option, Some, option_map, ap, ◌∙◌}
use Rattle.std.proofs.lemmas.Option.{slice_get-map}
use Rattle.yq_core.{specs.Answers.◌>>=◌, specs.Paths.{Step, node_at}}
use Rattle.yq_row_table.specs.Rows.{Cut, Row, print_row, rows_text}
use Rattle.yq_documents.{specs.Documents.{Document, document_parts}, specs.Pieces.TextPiece, specs.Reading.part_document}
use Rattle.yq_places.{specs.NodesAt.node_in, specs.PlacedRows.{PlacedPart, placed_document}, proofs.PrintedTexts.map_some}
use Rattle.yq_places.specs.Placements.{Placement, RowsOfEntry, alone, before_entry, after_entry, below, entry_placement, held, is_alone}
use Rattle.yq_places.specs.Placements.{lone, root, root_lines, root_placement, rows_of_entry, placement_at, under}
use Rattle.yq_edit_rules.proofs.PlacedPartLaws.{document_is_there_at}
use Rattle.yq_batch.{specs.RowEnds.HasNoHead, proofs.EntryShapes.{entry_bare, entry_by, root_by}}

-- ---- roots

-- A root that is alone on its line, by what is there.
pub record IsLoneRoot (c : Cut) (n : ℕ) (w : TextPiece) : Type 0 where
  pub part : PlacedPart
  pub placed : placed_document n c ≡ Some part
  pub row : Row
  pub back : List Row
  pub rows : part.part.rows ≡ row ∷ back
  pub one : is_alone row ≡ true
  pub same : lone part.before row (rows_text back (part.part.end ++ part.after)) ≡ w

pub lone_root : (c : Cut) (n : ℕ) (w : TextPiece) → placement_at n [] c ≡ Some (alone w) → IsLoneRoot c n w
lone_root c n w is =
    let d = map_some (placed_document n c) is in
    root_by d.0 (λ (x : Placement). x ≡ alone w → IsLoneRoot c n w) d.0.part.rows (λ x same. absurd (cc))
    (λ r rs are one same. record { part = d.0; placed = d.1; row = r; back = rs; rows = are; one = one; same = cc }) (λ r rs are one same. absurd (cc)) d.2

-- in another cut, with another text before it
pub root_is_there : (c : Cut) (n : ℕ) (d : PlacedPart) (r : Row) (rs : List Row) → placed_document n c ≡ Some d → d.part.rows ≡ r ∷ rs → is_alone r ≡ true →
    placement_at n [] c ≡ Some (alone (lone d.before r (rows_text rs (d.part.end ++ d.after))))
root_is_there c n d r rs placed are one =
    let w : TextPiece = lone d.before r (rows_text rs (d.part.end ++ d.after)) in
    ap (option_map (λ (x : PlacedPart). root_placement x x.part.rows)) placed
    ∙ ap Some (ap (root_placement d) are ∙ ap (λ (b : Bool). cond b (alone w) (root r.column (root_lines d r rs))) one)

-- the node of a document without steps is its root
pub root_node : (c : Cut) (n : ℕ) (d : PlacedPart) → placed_document n c ≡ Some d → node_in n [] c ≡ Some (part_document d.part).root
root_node c n d placed =
    ap (λ (o : Option Document). o >>= λ x. node_at [] x.root)
    (slice_get-map part_document (document_parts c) n ∙ ap (option_map part_document) (document_is_there_at c n d placed).there)

-- ---- under a key or dash

-- A row that is alone under the line of an item or entry, by what is there.
pub record IsLoneUnder (c : Cut) (n : ℕ) (steps : List Step) (w : TextPiece) : Type 0 where
  pub entry : RowsOfEntry
  pub found : rows_of_entry n steps c ≡ Some entry
  pub bare : HasNoHead entry
  pub row : Row
  pub back : List Row
  pub are : entry.under ≡ row ∷ back
  pub one : is_alone row ≡ true
  pub same : lone (before_entry entry ++ print_row entry.row []) row (rows_text back (after_entry entry)) ≡ w

pub lone_under : (c : Cut) (n : ℕ) (s : Step) (ss : List Step) (w : TextPiece) → placement_at n (s ∷ ss) c ≡ Some (alone w) → IsLoneUnder c n (s ∷ ss) w
lone_under c n s ss w is =
    let e = map_some (rows_of_entry n (s ∷ ss) c) is in
    entry_by e.0 (λ (x : Placement). x ≡ alone w → IsLoneUnder c n (s ∷ ss) w) (λ bare none same. absurd (cc))
    (λ bare r rs are one same. record { entry = e.0; found = e.1; bare = bare; row = r; back = rs; are = are; one = one; same = cc })
    (λ bare r rs are one same. absurd (cc)) (λ head same. absurd (cc)) (λ indent same. absurd (cc)) (λ dash same. absurd (cc)) e.2

-- in another cut, with other rows before them
pub under_is_there : (c : Cut) (n : ℕ) (s : Step) (ss : List Step) (e : RowsOfEntry) (r : Row) (rs : List Row) → rows_of_entry n (s ∷ ss) c ≡ Some e → HasNoHead e →
    e.under ≡ r ∷ rs → is_alone r ≡ true → placement_at n (s ∷ ss) c ≡ Some (alone (lone (before_entry e ++ print_row e.row []) r (rows_text rs (after_entry e))))
under_is_there c n s ss e r rs found bare are one =
    let w : TextPiece = lone (before_entry e ++ print_row e.row []) r (rows_text rs (after_entry e)) in
    ap (option_map entry_placement) found ∙ ap Some (entry_bare e bare ∙ (ap (below e) are ∙ ap (λ (b : Bool). cond b (alone w) (under (held e) r.column)) one))
