-- A value as the root of a document in which that is a block collection, or isn't written: what the text then reads as.
use Rattle.std.proofs.lemmas.Grind.{common_steps}
use Rattle.std.proofs.Common.{arith, Some, ◌≡◌, ℕ, ◌≤◌, List, [], ◌∷◌, ◌++◌, map, replicate, None, true, false, sym, ap, ◌∙◌, subst}
use Rattle.std.{proofs.Common.{append-nil, rules}, proofs.lemmas.Bool.false≢true, proofs.lemmas.Option.same_Some, specs.List.slice_get}
use Rattle.yq_core.{specs.Paths.within, specs.Tree.{Node, children_of, anchor_of}, specs.Anchors.names_of}
use Rattle.yq_flow_edits.specs.Valued.{IsValueTree}
use Rattle.yq_outline.{specs.Comments.head_comment, specs.Outline.anchored, proofs.NodeLaws.anchored_none}
use Rattle.yq_row_table.{specs.Grammar.no_rows, specs.Rows.{Row, rows_text, Part, Cut, cut_text}, specs.SpliceFits.is_after}
use Rattle.yq_row_table.specs.Splices.{first_gap, marker_before}
use Rattle.yq_documents.{specs.Documents.{Document, document_parts, lead_of}, specs.TreeEdits.{headed, lead_by, led, replaced_node}}
use Rattle.yq_documents.{specs.Reading.{root_of, read_at, documents}, specs.PartNumbers.part_number}
use Rattle.yq_places.{specs.PlacedRows.PlacedPart, specs.RowPaths.IsReadable}
use Rattle.yq_edit_rules.{specs.declared.layout.Layout.Layout, specs.BlockText.block_value, specs.BlockValues.HasNearKeys}
use Rattle.yq_edit_rules.{specs.Changed.{changed as part_changed, IsChanged, KeepsRows, put_document}, specs.Conditions.AreSpared}
use Rattle.yq_edit_rules.{specs.DocumentRows.IsDocumentPart, specs.PlacedParts.IsDocumentAt, specs.Replaces.{TakesRoot, rooted}}
use Rattle.yq_edit_rules.{specs.Rooms.{is_block_root, LeadGoes}, specs.SoundRoots.{inner_names, IsNewValue}, proofs.AfterLaws.nth_is}
use Rattle.yq_edit_rules.{proofs.ChangedLaws.document_put, proofs.EditedLaws.led_same, proofs.RootLaws.root_rows_replaced}
use Rattle.yq_edit_rules.{specs.ReadsAfter.ReadsAfter, proofs.DoneLaws.document_done, specs.EditLaws.CarriedOut, specs.Local.IsLocal}
use Rattle.yq_edit_rules.{proofs.LocalLaws.cut_known, proofs.EditsFitLaws.fits_replace}
use Rattle.yq_semantics.{specs.Operations.replace, specs.Fits.Fits, specs.Rooms.room_of}
use Rattle.yq_edit_laws.{proofs.RootRows.{root_rows, HasRoom, AreRootRows}, proofs.RootValues.value_root_rows}
use Rattle.yq_text.specs.Script.{Segment, new_text}
use Rattle.yq_documents.specs.Reading as reading

block_unnamed : (p : Part) → is_block_root p ≡ true → anchor_of (root_of p) ≡ None
block_unnamed p h = search (rules, false≢true)

-- a new value under a lead
headed_new : (above : List (List ℕ)) (v : Node) → IsNewValue v 0 → IsNewValue (within (headed above) v) 0
headed_new above v h = search (rules, led_same above v)

-- A value may come as the root of document n, between a gap that tells its lead and the end of the document.
pub record TakesValue (n : ℕ) (c : Cut) (d : PlacedPart) (gap last back : List ℕ) : Type 0 where
  pub is_located : IsDocumentAt c n d
  pub old : IsDocumentPart (cut_text c) c n d.part
  pub block : is_block_root d.part ≡ true
  pub room : HasRoom gap last back d.after
  pub lead : head_comment gap ≡ lead_of d.part
  pub starts : (t : List ℕ) → no_rows d.part.rows ≡ true → is_after (marker_before [] (part_number n c) c) t ≡ true

module _ (n : ℕ) (c : Cut) (d : PlacedPart) (gap last back : List ℕ) (h : TakesValue n c d gap last back) (v : Node) (l : Layout) (column : ℕ) (step : 1 ≤ l.mapping) (value_tree : IsValueTree v) (near : HasNearKeys v) where
  abbrev p : Part
  p = d.part

  abbrev rs : List Row
  rs = root_rows l gap column last v

  abbrev pub q : Part
  q = rooted (root_rows l gap column last v) back d.part

  abbrev lead : List (List ℕ)
  lead = lead_of d.part

  -- what is written as a root
  abbrev new : Node
  new = within (headed (lead_of d.part)) v

  pub are : AreRootRows v gap (replicate column 32 ++ (block_value l column v ++ (last ++ (back ++ d.after)))) rs back d.after
  are = value_root_rows v l gap column last back d.after step value_tree near h.room

  -- the new text
  pub text_is : cut_text (put_document n q c) ≡ d.before ++ (gap ++ (replicate column 32 ++ (block_value l column v ++ (last ++ (back ++ d.after)))))
  text_is = h.is_located.put q ∙ ap (λ t. d.before ++ t) (ap (λ xs. rows_text xs (back ++ d.after)) (append-nil rs) ∙ are.spelled)

  takes : TakesRoot c n p rs back
  takes = grind (arith, common_steps, are)

  gap_first : (xs : List Row) → no_rows xs ≡ false → first_gap xs [] ≡ gap → first_gap (xs ++ []) back ≡ gap
  gap_first [] some e = absurd (false≢true (sym some))
  gap_first (x ∷ xs) some e = e

  lead_is : lead_of q ≡ lead
  lead_is = ap head_comment (gap_first rs are.some are.first) ∙ h.lead

  some_rows : KeepsRows p q
  some_rows e = absurd (false≢true (sym (ap no_rows (append-nil rs) ∙ are.some) ∙ e))

  module _ (is : IsNewValue v 0) (spared : AreSpared (inner_names (root_of d.part)) [] (names_of (root_of d.part))) (readable : IsReadable (cut_text (put_document n q c))) where
    changed : IsChanged c (put_document n q c) n (lead_of q) (replaced_node new)
    changed =
        root_rows_replaced (cut_text c) c n p new rs back are.level are.lines h.old takes
        (record {
          deep = are.deep;
          even = are.even;
          value_is = are.value_is ∙ (ap (λ c. within (headed c) v) h.lead ∙ (sym (anchored_none new) ∙ ap (λ a. anchored a new) (sym (block_unnamed p h.block))));
          anchors = are.anchors;
        }) are.lines_are (record { value_is = headed_new lead v is; spared = spared }) readable

    root_is : root_of q ≡ new
    root_is =
        ap (λ (x : Document). x.root)
        (nth_is n p q (part_changed (lead_of q) (replaced_node new)) (document_parts c) h.old.there (sym (ap (map reading.part_document) (document_put c n p q h.old.there some_rows)) ∙ changed.documents_are))
        ∙ (ap (λ a. anchored a new) (block_unnamed p h.block) ∙ anchored_none new)

    lead_goes : LeadGoes p q
    lead_goes = lead_is ∙ (sym (search rules) ∙ (λ i. lead_by (sym h.block i) (children_of (sym root_is i)) lead))

    pub root_read : read_at (cut_text (put_document n q c)) ≡ Some (put_document n q c)
    root_read = changed.read

    pub root_reads : ReadsAfter (replace n [] v) c (cut_text (put_document n q c))
    root_reads =
        document_done (replace n [] v) c p q (lead_of q) (replaced_node new)
        (record {
          read = h.old.read;
          there = h.old.there;
          rows = some_rows;
          changed = changed;
          root = ap (λ b. replaced_node (led b lead [] v) (root_of p)) (sym h.block);
          lead_goes = lead_goes;
          block = λ keeps. absurd keeps;
          equal_room = λ sets. absurd sets;
        })

-- ---- a value that fits as the root of a document: what that says of it, and the text in which it comes there

-- A value may be in the place of the root of a part.
pub record FitsPart (v : Node) (p : Part) : Type 0 where
  pub near : HasNearKeys v
  pub value_is : IsNewValue v 0
  pub spared : AreSpared (inner_names (root_of p)) [] (names_of (root_of p))

pub fits_part : (n : ℕ) (v : Node) (c : Cut) (p : Part) → slice_get (document_parts c) n ≡ Some p → IsValueTree v → Fits (room_of (cut_text c)) (replace n [] v) (documents c) → FitsPart v p
fits_part n v c p there value_tree fits =
    let f = fits_replace n [] v c p there value_tree fits in
    record { near = f.near; value_is = f.may.value_is; spared = subst (λ m. AreSpared (inner_names m) [] (names_of (root_of p))) (sym (same_Some _ _ f.there)) f.may.spared }

-- what is asked of segments that write the root, besides that they make this text
abbrev pub LocalRoot : (n : ℕ) (c : Cut) (d : PlacedPart) (rs : List Row) (back : List ℕ) (ss : List Segment) → Type 0
LocalRoot n c d rs back ss =
    new_text ss ≡ cut_text (put_document n (rooted rs back d.part) c) →
    read_at (cut_text (put_document n (rooted rs back d.part) c)) ≡ Some (put_document n (rooted rs back d.part) c) →
    IsLocal ss c (put_document n (rooted rs back d.part) c)

pub value_carried : (n : ℕ) (c : Cut) (d : PlacedPart) (gap last back : List ℕ) (v : Node) (l : Layout) (column : ℕ) (ss : List Segment) → TakesValue n c d gap last back → 1 ≤ l.mapping → IsValueTree v → FitsPart v d.part →
    d.before ++ (gap ++ (replicate column 32 ++ (block_value l column v ++ (last ++ (back ++ d.after))))) ≡ new_text ss → IsReadable (new_text ss) → LocalRoot n c d (root_rows l gap column last v) back ss → CarriedOut (replace n [] v) c ss
value_carried n c d gap last back v l column ss takes step value_tree fits text readable local =
    search (rules, text_is, root_rows, root_read, root_reads, cut_known)
