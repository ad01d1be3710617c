-- The row in which a head is, and its flow collections, in a text and in one of which the rows in front are others.
use Rattle.std.proofs.Common.{◌≡◌, ℕ, ◌+◌, ◌≤◌, Bool, true, cond, List, [], ◌∷◌, ◌++◌, length, take, Option, Some, None, is_some}
use Rattle.std.proofs.Common.{option_map, option_and_then, refl, sym, ap, ◌∙◌, append-nil, arith, length-append}
use Rattle.std.{proofs.Math.Seq.take-append_seam, proofs.lemmas.Option.{none-some, same_Some, slice_get_within}}
use Rattle.std.{proofs.lemmas.List.length-take-le, specs.List.slice_get}
use Rattle.yq_core.{specs.Answers.◌>>=◌, specs.Paths.Step, proofs.Bools.bind_some}
use Rattle.yq_outline.{specs.Ends.{found_line, line_at_steps}, specs.Group.group, specs.Outline.{Line, level}}
use Rattle.yq_outline.{specs.Places.{FoundLine, find}, specs.Comments.head_comment, specs.Lines.{head_of, lines_of_rows}}
use Rattle.yq_row_table.{specs.Exchange.after_row, specs.Rows.{Cut, Part, Row, cut_text, rows_text}}
use Rattle.yq_documents.{specs.LinesInRows.{RowLine, document_row, row_line, row_line_of}, specs.Reading.read_at}
use Rattle.yq_places.{specs.FlowNodes.{content_flow, flow_collection, line_collection}, specs.FlowViews.LeadsToHead}
use Rattle.yq_places.specs.PlacedRows.{PlacedPart, placed_document}
use Rattle.yq_places.specs.NodeReading.{at_head, at_lines, head_line_of, line_with_steps, place_line, with_steps}
use Rattle.yq_places.{specs.Placements.{RowsOfEntry, entry_rows_at, rows_of_entry}, proofs.FlowNodeLaws.{collection_is, rows_collection}}
use Rattle.yq_places.{proofs.FlowViewLaws.numbered, proofs.FoundEntries.middle, proofs.HeadSteps.stem_at}
use Rattle.yq_places.{proofs.PlacedPartLaws.{map_some, part_is_there}, proofs.RowLineSpans.steps_row, proofs.RemovalViewLaws.slice_seam}
use Rattle.yq_places.proofs.WalkDocuments.{row_line_number}
use Rattle.yq_edit_rules.{proofs.FlowPathLaws.row_in_cut, proofs.LineLaws.{dashes_count, row_line_splits}, proofs.CommentPutLaws.last_lines}
use Rattle.yq_edit_rules.{proofs.PlacementRows.rows_located, proofs.UnderLaws.{dashes_of, line_with}, specs.PlacementLaws.HasItsRows}
use Rattle.yq_batch.specs.HeadRows.{IsHeadInRow}

-- ---- among lines

abbrev Reached : Type 0
Reached = FoundLine × List Step

-- the line to which steps lead, if it has a head
head_line : (steps : List Step) (ls : List Line) (n : ℕ) (l : Line) → line_at_steps steps ls ≡ Some n → slice_get ls n ≡ Some l → is_some l.head ≡ true → head_line_of steps ls ≡ Some (n, [])
head_line [] ls n l e at h = absurd (none-some _ e)
head_line (s ∷ ss) ls n l e at h = go (find s ss (group ls)) refl e
  where
    there : (f : FoundLine) (left : List Step) → find s ss (group ls) ≡ Some (f, left) → found_line f left ≡ Some n → head_line_of (s ∷ ss) ls ≡ Some (n, [])
    there f (t ∷ ts) is e = absurd (none-some _ e)
    there f [] is e =
        ap (λ (r : Option Reached). (option_map numbered r >>= λ x. line_with_steps x.0 x.1 (slice_get ls x.0)) >>= λ x. with_steps x.1 (place_line ls x.0)) is
        ∙ (ap (λ (k : ℕ). line_with_steps k [] (slice_get ls k) >>= λ x. with_steps x.1 (place_line ls x.0)) (same_Some _ _ e)
        ∙ (ap (λ (o : Option Line). line_with_steps n [] o >>= λ x. with_steps x.1 (place_line ls x.0)) at
        ∙ ap (λ (b : Bool). with_steps [] (place_line ls (cond b (at_head n) (at_lines (n + 1) (level l))))) h))

    go : (r : Option Reached) → find s ss (group ls) ≡ r → option_and_then (λ x. found_line x.0 x.1) r ≡ Some n → head_line_of (s ∷ ss) ls ≡ Some (n, [])
    go None is e = absurd (none-some _ e)
    go (Some x) is e = there x.0 x.1 is e

-- the line of the mark of a row
line_of_mark : (rs : List Row) (n : ℕ) (x : RowLine) → row_line n rs ≡ Some x → x.line ≡ length x.row.dashes → slice_get (lines_of_rows rs) n ≡ Some (line_with x.row x.row.content)
line_of_mark rs n x e last =
    let w = row_line_splits n rs x e in
    let a : List Line = lines_of_rows w.front ++ dashes_of x.row in
    let b : List Line = lines_of_rows w.back in
    let lines : lines_of_rows rs ≡ a ++ (line_with x.row x.row.content ∷ b) = ap lines_of_rows w.rows_are ∙ last_lines w.front x.row w.back x.row.content in
    let size : n ≡ length a =
    omega (arith, w.lines, last, dashes_count (head_comment x.row.gap) x.row.column x.row.dashes, length-append (lines_of_rows w.front) (dashes_of x.row)) in
    (λ i. slice_get (lines i) (size i)) ∙ middle a b (line_with x.row x.row.content)

-- the line of the mark of a row between others, by its number
pub mark_between : (rs front : List Row) (r : Row) (back : List Row) → rs ≡ front ++ (r ∷ back) → row_line (length (lines_of_rows front) + length r.dashes) rs ≡ Some (record { before = length front; row = r; line = length r.dashes })
mark_between rs front r back are =
    let first : take (length front) rs ≡ front = ap (take (length front)) are ∙ take-append_seam front (r ∷ back) in
    ap (λ (ys : List Row). row_line (length (lines_of_rows ys) + length r.dashes) rs) (sym first)
    ∙ row_line_number rs (length front) (length r.dashes) r (ap (λ (ys : List Row). slice_get ys (length front)) are ∙ slice_seam front r back) (omega arith)

-- ---- the head in a row

module _ (c : Cut) (n : ℕ) (steps : List Step) (i : ℕ) (h : IsHeadInRow c n steps i) where
  abbrev ls : List Line
  ls = lines_of_rows h.part.rows

  pub number : (m : ℕ) × (line_at_steps steps (lines_of_rows h.part.rows) ≡ Some m) × (row_line m h.part.rows ≡ Some h.line)
  number = bind_some (line_at_steps steps (lines_of_rows h.part.rows)) h.found

  head_is : head_line_of steps ls ≡ Some (number.0, [])
  head_is = head_line steps ls number.0 (line_with h.line.row h.line.row.content) number.1 (line_of_mark h.part.rows number.0 h.line number.2 h.last) h.headed

  leads : (left : List Step) → head_line_of (steps ++ left) ls ≡ Some (number.0, left)
  leads left =
      let s = stem_at steps ls (number.0, []) head_is in
      ap (λ (ss : List Step). head_line_of (ss ++ left) ls) (s.steps_are ∙ append-nil s.stem) ∙ s.leads left

  pub leads_there : LeadsToHead c n steps
  leads_there = record { part = h.part; there = h.there; number = number.0; leads = leads }

  -- by the number of its line
  pub number_is : (g : LeadsToHead c n steps) → g.number ≡ number.0
  number_is g =
      let same : g.part ≡ h.part = same_Some _ _ (sym g.there ∙ h.there) in
      ap (λ (x : ℕ × List Step). x.0)
      (same_Some _ _ (sym (g.leads []) ∙ (ap (λ (p : Part). head_line_of (steps ++ []) (lines_of_rows p.rows)) same ∙ (ap (λ (ss : List Step). head_line_of ss ls) (append-nil steps) ∙ head_is))))

  -- the collections in it
  pub collections : (left : List Step) → flow_collection n (steps ++ left) c ≡ content_flow left h.line.row.content (after_row (document_row n c + h.line.before) c)
  collections left =
      sym (collection_is c n (steps ++ left))
      ∙ (ap (λ (o : Option Part). o >>= λ p. rows_collection (document_row n c) c p.rows (steps ++ left)) h.there
      ∙ (ap (λ (o : Option (ℕ × List Step)). o >>= λ x. line_collection (document_row n c) c h.part.rows x.0 x.1) (leads left)
      ∙ ap (λ (o : Option RowLine). o >>= λ s. content_flow left s.row.content (after_row (document_row n c + s.before) c)) number.2))

  -- it is in no other row
  pub same_row : (j : ℕ) → IsHeadInRow c n steps j → i ≡ j
  same_row j g =
      let same : h.part ≡ g.part = same_Some _ _ (sym h.there ∙ g.there) in
      sym h.row ∙ (ap (λ (x : RowLine). x.before) (same_Some _ _ (sym h.found ∙ (ap (λ (p : Part). row_line_of steps p.rows) same ∙ g.found))) ∙ g.row)

-- ---- by the rows of its item or entry

module _ (c : Cut) (n : ℕ) (s : Step) (ss : List Step) (e : RowsOfEntry) (read : read_at (cut_text c) ≡ Some c)
    (at : rows_of_entry n (s ∷ ss) c ≡ Some e) (last : e.line ≡ length e.row.dashes) (headed : is_some (head_of e.row.content) ≡ true) where
  pub d : (d : PlacedPart) × (placed_document n c ≡ Some d) × (option_map (entry_rows_at d) (row_line_of (s ∷ ss) d.part.rows) ≡ Some e)
  d = bind_some (placed_document n c) at

  pub x : (x : RowLine) × (row_line_of (s ∷ ss) d.0.part.rows ≡ Some x) × (entry_rows_at d.0 x ≡ e)
  x = map_some (entry_rows_at d.0) (row_line_of (s ∷ ss) d.0.part.rows) e d.2

  within : x.0.before ≤ length d.0.part.rows
  within =
      let less = slice_get_within d.0.part.rows x.0.before x.0.row (steps_row (line_at_steps (s ∷ ss) (lines_of_rows d.0.part.rows)) d.0.part.rows x.0 x.1) in
      omega (arith, less)

  pub row_size : x.0.before ≡ length e.front
  row_size = sym (length-take-le x.0.before d.0.part.rows within) ∙ ap (λ (y : RowsOfEntry). length y.front) x.2

  pub row_is : x.0.row ≡ e.row
  row_is = ap (λ (y : RowsOfEntry). y.row) x.2

  abbrev pub entry_head : IsHeadInRow c n (s ∷ ss) (length e.front)
  entry_head = record {
    part = d.0.part;
    there = (part_is_there n c d.0 d.1).there;
    line = x.0;
    found = x.1;
    last = ap (λ (y : RowsOfEntry). y.line) x.2 ∙ (last ∙ ap (λ (r : Row). length r.dashes) (sym row_is));
    headed = ap (λ (r : Row). is_some (head_of r.content)) row_is ∙ headed;
    row = row_size;
  }

  there : HasItsRows n s ss c e
  there = rows_located n s ss c e read at

  following_is : after_row (document_row n c + x.0.before) c ≡ rows_text (e.under ++ e.back) (e.end ++ e.after)
  following_is =
      ap (λ (k : ℕ). after_row (document_row n c + k) c) row_size
      ∙ ((row_in_cut c n there.part e.front e.row (e.under ++ e.back) there.old.there there.rows_are).after ∙ (λ i. rows_text (e.under ++ e.back) (sym there.end_is i ++ sym there.following_is i)))

  pub entry_collections : (left : List Step) → flow_collection n ((s ∷ ss) ++ left) c ≡ content_flow left e.row.content (rows_text (e.under ++ e.back) (e.end ++ e.after))
  entry_collections left = own_collections left ∙ (λ i. content_flow left (row_is i).content (following_is i))
    where
      own_collections : (left : List Step) → flow_collection n ((s ∷ ss) ++ left) c ≡ content_flow left x.0.row.content (after_row (document_row n c + x.0.before) c)
      own_collections = collections c n (s ∷ ss) (length e.front) entry_head
