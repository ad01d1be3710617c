-- One row of a document in the place of another.
use Rattle.std.proofs.Common.{rules, ◌≡◌, ⊎_elim, inl, ℕ, ◌≤◌, true, false, List, [], ◌∷◌, ◌++◌, length, map, refl, sym, ap, ◌∙◌, subst}
use Rattle.std.{proofs.Common.{append_assoc, Some}, proofs.lemmas.Bool.false≢true, proofs.lemmas.List.map-append}
use Rattle.yq_core.{specs.Paths.{Step, changed_at, within}, specs.Tree.{Children, Node}}
use Rattle.yq_text.{specs.Limit.text_limit, specs.Script.{Segment, old_text, new_text, are_kept, kept_front, kept_back}}
use Rattle.yq_outline.{specs.Group.group, specs.Lines.lines_of_rows}
use Rattle.yq_row_table.{specs.Grammar.no_rows, specs.Rows.{Row, print_row, rows_text, Part, Cut, cut_text, part_text}}
use Rattle.yq_row_table.proofs.splices.SpliceTexts.{own_gap, own_end}
use Rattle.yq_documents.{specs.Documents.lead_of, specs.Reading.{read_at, root_of}, specs.TreeEdits.at_end}
use Rattle.yq_places.{specs.RowPaths.IsReadable, specs.Placements.RowsOfEntry}
use Rattle.yq_edit_rules.{specs.Appends.inserted, specs.Changed.{IsChanged, put_document}}
use Rattle.yq_edit_rules.{specs.DocumentRows.{IsDocumentPart, after_document}, specs.Done.ArePieces, specs.EditLaws.CarriedOut}
use Rattle.yq_edit_rules.{specs.Local.IsLocal, specs.ReadsAfter.ReadsAfter, specs.RowChanges.ChangesRow}
use Rattle.yq_edit_rules.{specs.Rooms.{EqualRoom, LeadGoes, is_block_root, row_shape}, specs.Siblings.HasEntries}
use Rattle.yq_edit_rules.{specs.PlacementLaws.HasItsRows, proofs.AfterLaws.end_is_change, proofs.CommentRowLaws.{lines_some, rows_front}}
use Rattle.yq_edit_rules.{proofs.DoneLaws.document_done, proofs.LeadLaws.{block_entries, block_lead_goes}}
use Rattle.yq_edit_rules.{proofs.LocalLaws.{cut_known, row_by_size}, proofs.ReplaceLaws.rows_before_some}
use Rattle.yq_edit_rules.{proofs.SegmentLaws.segments_readable, proofs.ShapeLaws.shapes_are_alike}
use Rattle.yq_semantics.{specs.After.{op_document, root_after}, specs.Operations.Operation, specs.RoomsKept.SetsComment}

-- A row of document k of a cut.
pub record RowIn (k : ℕ) (c : Cut) : Type 0 where
  pub part : Part
  pub old : IsDocumentPart (cut_text c) c k part
  pub start : List ℕ
  pub put : (q : Part) → cut_text (put_document k q c) ≡ start ++ part_text q (after_document k c)
  pub front : List Row
  pub row : Row
  pub back : List Row
  pub rows_are : part.rows ≡ front ++ (row ∷ back)

-- the first row of an item or entry
abbrev pub first_row : (n : ℕ) (s : Step) (ss : List Step) (c : Cut) (e : RowsOfEntry) → HasItsRows n s ss c e → RowIn n c
first_row n s ss c e t = record { part = t.part; old = t.old; start = e.start; put = t.put; front = e.front; row = e.row; back = e.under ++ e.back; rows_are = t.rows_are }

-- a change at the end of steps is one within what holds that
pub at_last : (g : Step → Children → Children) (steps init : List Step) (l : Step) (root : Node) → steps ≡ init ++ l ∷ [] → changed_at init (within (g l)) root ≡ at_end g steps root
at_last g steps init l root e = sym (end_is_change g init l root) ∙ ap (λ (ts : List Step). at_end g ts root) (sym e)

has_entries : (front : List Row) (r : Row) (back : List Row) (q : Part) → q.rows ≡ front ++ (r ∷ back) → is_block_root q ≡ true → HasEntries (group (lines_of_rows q.rows))
has_entries front r back q e block = ⊎_elim {0, 0, 0} (λ h. h) (λ none. absurd (lines_some front r back (sym (ap lines_of_rows e) ∙ none))) (block_entries (lines_of_rows q.rows) block)

module _ (op : Operation) (c : Cut) (h : RowIn (op_document op) c) (new : Row) where
  -- the document with a new row
  abbrev pub row_put : Part
  row_put = inserted h.front (new ∷ []) h.back h.part

  rows_now : row_put.rows ≡ h.front ++ (new ∷ h.back)
  rows_now = ap (λ (b : List Row). h.front ++ (new ∷ b)) (own_gap h.back h.part.end)

  pub text_now : cut_text (put_document (op_document op) row_put c) ≡ (h.start ++ rows_text h.front []) ++ print_row new (rows_text h.back (h.part.end ++ after_document (op_document op) c))
  text_now = search (rules, rows_now, own_end, rows_front, append_assoc)

  -- Segments of the text make that with the new row, and keep what is before the row and after it.
  pub record PutsRow (us : List Segment) : Type 0 where
    pub old : old_text us ≡ cut_text c
    pub text : new_text us ≡ cut_text (put_document (op_document op) row_put c)
    pub puts : are_kept us ≡ false
    pub front : length (h.start ++ rows_text h.front []) ≤ length (kept_front us)
    pub after : length (rows_text h.back (h.part.end ++ after_document (op_document op) c)) ≤ length (kept_back us)
    pub pieces : ArePieces us

  -- Its document has the room of the old one, and its lead goes with the root.
  pub record KeepsRoom : Type 0 where
    pub block : is_block_root row_put ≡ is_block_root h.part
    pub lead : LeadGoes h.part row_put
    pub room : SetsComment op → EqualRoom h.part row_put

  -- in a block root, where the row has the shape of the old one
  pub shape_keeps : row_shape new ≡ row_shape h.row → is_block_root h.part ≡ true → KeepsRoom
  shape_keeps shape block =
      let all : map row_shape row_put.rows ≡ map row_shape h.part.rows = search (rules, rows_now, map-append) in
      let alike = shapes_are_alike h.part row_put all in
      record { block = alike.1; lead = block_lead_goes h.part row_put block (has_entries h.front new h.back row_put rows_now (alike.1 ∙ block)); room = λ sets. alike.0 }

  -- The document with the new row is the one that the operation makes.
  pub record MakesRow (change : Node → Node) : Type 0 where
    pub lead : List (List ℕ)
    pub changed : IsReadable (cut_text (put_document (op_document op) row_put c)) → IsChanged c (put_document (op_document op) row_put c) (op_document op) lead change
    pub root : change (root_of h.part) ≡ root_after (is_block_root h.part) (lead_of h.part) op (root_of h.part)
    pub keeps : KeepsRoom

  module _ (us : List Segment) (k : PutsRow us) (change : Node → Node) (m : MakesRow change) (size : length (new_text us) ≤ text_limit) where
    changed : IsChanged c (put_document (op_document op) row_put c) (op_document op) m.lead change
    changed = m.changed (subst IsReadable k.text (segments_readable us k.pieces size))

    local : IsLocal us c (put_document (op_document op) row_put c)
    local =
        row_by_size c (op_document op) h.part h.old.there h.start h.put h.front h.row new h.back row_put us h.rows_are rows_now (own_end h.back h.part.end) k.puts k.old k.text k.front k.after

    -- the cut of the text that they make
    pub row_made : read_at (new_text us) ≡ Some (put_document (op_document op) row_put c)
    row_made = ap read_at k.text ∙ changed.read

    -- in it the row of an item or entry is replaced by that one
    pub row_changes : (e : RowsOfEntry) → length h.front ≡ length e.front → row_shape new ≡ row_shape h.row → ChangesRow (op_document op) c e us
    row_changes e front shape = search (rules, row_made) depth 9

    pub row_carried : CarriedOut op c us
    row_carried = record {
      reads = subst (ReadsAfter op c) (sym k.text)
          (document_done op c h.part row_put m.lead change (record {
            read = h.old.read;
            there = h.old.there;
            rows = λ none. absurd (false≢true (sym (rows_before_some h.front (new ∷ h.back) refl) ∙ (sym (ap no_rows rows_now) ∙ none)));
            changed = changed;
            root = m.root;
            lead_goes = m.keeps.lead;
            block = λ keeps. m.keeps.block;
            equal_room = m.keeps.room;
          }));
      local = inl (cut_known us c (put_document (op_document op) row_put c) changed.read (sym k.text) local);
    }
