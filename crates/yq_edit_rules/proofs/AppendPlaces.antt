-- The place of one more item or entry in a text, and its rows there.
use Rattle.std.proofs.Common.{inl, inr, ◌≡◌, ℕ, suc, true, false, List, [], ◌∷◌, ◌++◌, length, Option, Some, None, sym, ap, ◌∙◌, subst}
use Rattle.std.{proofs.Common.{append_assoc, append-nil, rules}, proofs.lemmas.Bool.false≢true, proofs.lemmas.Option.same_Some}
use Rattle.std.specs.List.{slice_get}
use Rattle.yq_core.{specs.Keys.HasUniqueKeys, specs.Paths.{Step, append_child, changed_at, node_at, within}, specs.Tree.Node}
use Rattle.yq_flow_edits.specs.Valued.{IsValueTree}
use Rattle.yq_outline.{specs.Outline.label, specs.Places.content_under, specs.Comments.line_comment as said}
use Rattle.yq_row_table.{specs.Grammar.{unlimited, AreRows, no_rows, Limit, allows}, specs.Rows.{rows_text, Part, Cut, cut_text}}
use Rattle.yq_row_table.{proofs.seams.SeamLaws.rows_text-append, specs.Gap.IsGap}
use Rattle.yq_places.{specs.CollectionEnds.CollectionEnd, proofs.CommentPieceLaws.Ended, proofs.RunSpans.rows_then}
use Rattle.yq_documents.{specs.Documents.{document_parts, lead_of}, specs.Reading.{part_outline, read_at, root_of}}
use Rattle.yq_edit_rules.proofs.AppendEntryLaws.{rows_gap, alone_value, alone_writable, IsEntryOf, entry_of, entry_keys, entry_anchors}
use Rattle.yq_edit_rules.{proofs.AppendEntryLaws.entry_bare, proofs.LaidRows.laid_rows, proofs.RowLaws.value_laid}
use Rattle.yq_edit_rules.{specs.declared.layout.Layout.Layout, specs.Alone.singleton, specs.BlockRows.node_rows}
use Rattle.yq_edit_rules.{specs.BlockValues.{IsFilledValue, IsEnd}, proofs.CharacterLaws.value_sound, specs.Appends.AreAppendedRows}
use Rattle.yq_edit_rules.{specs.Changed.{IsChanged, put_document}, specs.CollectionPlaces.IsCollectionEnd}
use Rattle.yq_edit_rules.{specs.DocumentRows.{IsDocumentPart, after_document}, specs.Rooms.is_block_root, specs.TextPieces.IsPiece}
use Rattle.yq_edit_rules.{proofs.AppendPlaceLaws.{EndAllows, end_allows}, proofs.EditedLaws.lines_are_there, proofs.EndedRowLaws.rows_ended}
use Rattle.yq_edit_rules.{proofs.LeadLaws.same_lead_goes, proofs.TextPieceLaws.{text_is_piece, pieces_joined, line_cut, nothing}}
use Rattle.yq_edit_rules.{specs.Layouts.layout_of, specs.EntryEdits.entry_lines, specs.Operands.KeyIsUtf8, specs.ReadsAfter.ReadsAfter}
use Rattle.yq_edit_rules.{proofs.DoneLaws.document_done, proofs.EditsFitLaws.{new_value, key_near, near_keys}}
use Rattle.yq_edit_rules.{proofs.RemovalPieceLaws.spaces_piece, proofs.AppendTakers.{IsTaker, taker}, proofs.LayoutLaws.steps_least}
use Rattle.yq_semantics.{specs.Changes.{is_overlong_key, has_long_key, is_deep}, specs.Fits.Takes, specs.Operations.append}
use Rattle.yq_text.specs.Script.{Segment, keep, put}

-- The place of one more item or entry: the end of the block collection to which steps lead in document doc.
pub record IsAppendPlace (doc : ℕ) (steps : List Step) (c : Cut) (x : CollectionEnd) : Type 0 where
  pub part : Part
  pub there : slice_get (document_parts c) doc ≡ Some part
  pub end : IsCollectionEnd c doc part steps x

-- the segments of a text in which another one is put there
abbrev pub put_segments : CollectionEnd → List ℕ → List Segment
put_segments x new = keep x.before ∷ (put [] new ∷ (keep x.after ∷ []))

module _ (doc : ℕ) (steps : List Step) (c : Cut) (x : CollectionEnd) (read : read_at (cut_text c) ≡ Some c) (at : IsAppendPlace doc steps c x) where
  abbrev rest : List ℕ
  rest = after_document doc c

  abbrev pub p : Part
  p = at.part

  pub there : IsDocumentPart (cut_text c) c doc p
  there = record { read = read; there = at.there }

  pub e : IsCollectionEnd c doc p steps x
  e = at.end

  pub allows_there : EndAllows c doc p x e.front e.back
  allows_there = end_allows (cut_text c) c doc p steps x there e

  -- the old text
  pub old_is : x.before ++ x.after ≡ (cut_text c)
  old_is = search (rules, append_assoc, rows_then, rows_text-append)

  pub kept_pieces : IsPiece x.before × IsPiece x.after
  kept_pieces = go (subst (λ z. Ended z (rows_text e.back (p.end ++ rest))) (ap (λ rs. rows_text rs []) (sym e.front_is)) (rows_ended unlimited e.others e.last e.back p.end rest rows_there))
    where
      rows_there : AreRows unlimited (e.others ++ (e.last ∷ e.back)) p.end rest
      rows_there = subst (λ rs. AreRows unlimited rs p.end rest) (ap (λ rs. rs ++ e.back) e.front_is ∙ append_assoc e.others (e.last ∷ []) e.back) allows_there.rows

      whole : IsPiece (x.before ++ x.after)
      whole = subst IsPiece (sym old_is) (text_is_piece c read)

      go : Ended (rows_text e.front []) (rows_text e.back (p.end ++ rest)) → IsPiece x.before × IsPiece x.after
      go (inl lf) =
          let text : x.before ≡ (e.start ++ lf.0) ++ 10 ∷ [] = e.before_is ∙ (ap (λ z. e.start ++ z) lf.1 ∙ sym (append_assoc e.start lf.0 (10 ∷ []))) in
          subst (λ z. IsPiece z × IsPiece x.after) (sym text) (line_cut (e.start ++ lf.0) x.after (subst (λ z. IsPiece (z ++ x.after)) text whole))
      go (inr none_following) =
          let no_rest : x.after ≡ [] = e.following_is ∙ none_following in
          (subst IsPiece (ap (λ z. x.before ++ z) no_rest ∙ append-nil x.before) whole, subst IsPiece (sym no_rest) nothing)

-- What is known of an operation that appends, and of the node to which its steps lead in a part.
pub record IsAsked (steps : List Step) (key : Option (List ℕ)) (v : Node) (part : Part) : Type 0 where
  pub key_utf8 : KeyIsUtf8 key
  pub value_tree : IsValueTree v
  pub unique : HasUniqueKeys v
  pub short : is_overlong_key key ≡ false
  pub near : has_long_key v ≡ false
  pub deep : is_deep (suc (length steps)) v ≡ false
  pub node : Node
  pub node_is : node_at steps (root_of part) ≡ Some node
  pub takes : Takes key node

module _ (doc : ℕ) (steps : List Step) (key : Option (List ℕ)) (v : Node) (c : Cut) (x : CollectionEnd) (read : read_at (cut_text c) ≡ Some c) (at : IsAppendPlace doc steps c x) (g : IsAsked steps key v (p doc steps c x read at)) where
  abbrev l : Layout
  l = layout_of doc c

  abbrev part : Part
  part = p doc steps c x read at

  abbrev place : IsCollectionEnd c doc (p doc steps c x read at) steps x
  place = e doc steps c x read at

  pub filled : IsFilledValue (singleton key v)
  filled = alone_value key v g.key_utf8 g.value_tree

  pub entry_piece : IsPiece (entry_lines l x.column key v)
  entry_piece = search (rules, value_sound (singleton key v) l x.column filled.value, pieces_joined, spaces_piece)

  -- the rows of the item or entry, the last of which has this end
  pub entry : (last : List ℕ) → said last ≡ None → IsEntryOf key v x.column (node_rows l x.column last (singleton key v))
  entry last uncommented = entry_of key v l x.column last uncommented (steps_least (slice_get (document_parts c) doc)) g.key_utf8 g.value_tree

  known_taker : IsTaker key place.h.lines x.column
  known_taker =
      taker key g.node place.h.anchor place.h.lines x.column g.takes (same_Some _ _ (sym g.node_is ∙ lines_are_there steps (part_outline part) place.h place.collection.place_is)) place.collection.block place.first

  pub written : (last : List ℕ) (uncommented : said last ≡ None) →
      AreAppendedRows place.h (node_rows l x.column last (singleton key v)) (entry last uncommented).deep.0 (entry last uncommented).line
      (entry last uncommented).under (length steps)
  written last uncommented =
      let w = entry last uncommented in
      search (rules, entry_bare, known_taker, entry_anchors, entry_keys, new_value)

  pub new_rows_are : (last gap rest : List ℕ) (limit : Limit) → IsEnd x.column last (gap ++ rest) → allows limit x.column ≡ true → IsGap gap rest → AreRows limit (node_rows l x.column last (singleton key v)) gap rest
  new_rows_are last gap rest limit ends allowed h = search (rules, rows_gap, laid_rows, value_laid, alone_writable, key_near, near_keys)

  -- a part with such rows, in which the first row stays, is what the operation asks
  pub finished : (q : Part) (last : List ℕ) (uncommented : said last ≡ None) →
      IsChanged c (put_document doc q c) doc (lead_of part) (changed_at steps (within (append_child (label (entry last uncommented).line) (content_under (entry last uncommented).line (entry last uncommented).under)))) →
      lead_of q ≡ lead_of part → is_block_root q ≡ is_block_root part → no_rows q.rows ≡ false → ReadsAfter (append doc steps key v) c (cut_text (put_document doc q c))
  finished q last uncommented changed lead block some =
      let w = entry last uncommented in
      document_done (append doc steps key v) c part q (lead_of part) (changed_at steps (within (append_child (label w.line) (content_under w.line w.under))))
      (record {
        read = read;
        there = at.there;
        rows = λ none_left. absurd (false≢true (sym some ∙ none_left));
        changed = changed;
        root = λ i. changed_at steps (within (append_child (w.label_is i) (w.node_is i))) (root_of part);
        lead_goes = same_lead_goes part q lead block;
        block = λ keeps. block;
        equal_room = λ sets. absurd sets;
      })
