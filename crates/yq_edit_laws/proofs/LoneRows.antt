-- Rows that are alone on their lines: under a key or dash, and as roots.
use Rattle.std.proofs.lemmas.Grind.{common_steps}
use Rattle.std.proofs.Common.{option_map, append-nil, ◌≡◌, inl, inr, ℕ, ◌≤◌, true, false, List, [], ◌∷◌, ◌++◌, length, Option, Some, None}
use Rattle.std.proofs.Common.{refl, sym, ap, ◌∙◌, subst, arith, append_assoc, length-append, rules}
use Rattle.std.{proofs.lemmas.Bool.{and_parts, false≢true}, proofs.lemmas.Option.same_Some}
use Rattle.yq_core.{specs.Answers.◌>>=◌, specs.Paths.Step, specs.Text.is_empty, specs.Tree.Node, proofs.Bools.bind_some}
use Rattle.yq_core.proofs.LineLaws.{is_empty_is}
use Rattle.yq_outline.{specs.Comments.head_comment, specs.Group.level_or, specs.Outline.{Line, Outline, end, row, flatten, IsEven, IsOpen}}
use Rattle.yq_outline.{specs.Places.find, specs.Positions.has_no_mark, proofs.Decides.flatten-group}
use Rattle.yq_outline.{specs.Lines.{lines_from, lines_of_rows, mark_line, line_mark, row_lines}, proofs.Plug.headless}
use Rattle.yq_row_table.{specs.Grammar.{AreRows, unlimited}, specs.Rows.{Row, rows_text, print_row, Part, Cut, cut_text}}
use Rattle.yq_row_table.proofs.seams.SeamLaws.{rows_text-append}
use Rattle.yq_text.{specs.Limit.text_limit, specs.Script.new_text}
use Rattle.yq_documents.{specs.Pieces.TextPiece, specs.Reading.{documents, part_outline, read_at}, specs.LinesInRows.{RowLine, row_line_of}}
use Rattle.yq_places.specs.PlacedRows.{PlacedPart, placed_document}
use Rattle.yq_places.specs.Placements.{RowsOfEntry, before_entry, after_entry, entry_rows_at, is_alone, lone, rows_of_entry}
use Rattle.yq_places.{proofs.CommentPieceLaws.Ended, proofs.PrintedTexts.map_some, proofs.RemovalLines.LineSeam, proofs.RunSpans.rows_then}
use Rattle.yq_places.proofs.UnderExchange.{lines_append}
use Rattle.yq_edit_rules.{specs.DocumentRows.{IsDocumentPart, after_document}, specs.InlineRows.{LeadsBelow, IsRootRow}}
use Rattle.yq_edit_rules.{specs.PlacedParts.IsDocumentAt, specs.PlacementLaws.HasItsRows, proofs.EndedRowLaws.rows_ended}
use Rattle.yq_edit_rules.{proofs.LineLaws.row_count, proofs.NodeLineLaws.under_even, proofs.PartLaws.{document_known, part_rows}}
use Rattle.yq_edit_rules.{proofs.PlacedPartLaws.document_is_there_at, proofs.PlacementRows.rows_located, proofs.UnderLaws.under_is}
use Rattle.yq_edit_rules.{specs.EditLaws.IsEdit, specs.ReplaceEdits.lone_put, proofs.PlacementMarks.under_it, specs.Operands.HasOperand}
use Rattle.yq_edit_rules.specs.RowChanges.{ChangesRow, lone_rows, root_rows}
use Rattle.yq_semantics.{specs.Fits.Fits, specs.Operations.replace, specs.Rooms.room_of}
use Rattle.yq_edit_laws.proofs.LoneCarried.{lone_carried, lone_changes, place}
use Rattle.yq_outline.specs.Outline as outline
use Rattle.yq_row_table.specs.Rows as rows

-- ---- a row alone

-- such a row has neither dashes nor a mark
alone_row : (r : Row) → is_alone r ≡ true → (r.mark ≡ rows.Bare) × (r.dashes ≡ [])
alone_row r h = let p = and_parts (is_empty r.dashes) (has_no_mark (line_mark r.mark)) h in ((search (rules, false≢true, p.1)), is_empty_is r.dashes p.0)

-- it is one line
alone_line : (r : Row) → is_alone r ≡ true → (l : Line) × (row_lines r ≡ l ∷ []) × (l.mark ≡ outline.Bare)
alone_line r h = let p = alone_row r h in go r.dashes r.mark p.1 p.0
  where
    go : (ns : List ℕ) (m : rows.RowMark) → ns ≡ [] → m ≡ rows.Bare → (l : Line) × (lines_from (head_comment r.gap) r.column ns m r.content ≡ l ∷ []) × (l.mark ≡ outline.Bare)
    go [] m e is = (mark_line (head_comment r.gap) r.column m r.content, refl, ap line_mark is)
    go (n ∷ ns) m e is = absurd (let no : n ∷ ns ≡ [] = e in cc)

-- an outline of lines of which the first one is bare is of one line
one_line : (m : ℕ) (o : Outline) (l : Line) (ls : List Line) → IsEven m o → l ∷ ls ≡ flatten o → l.mark ≡ outline.Bare → length (flatten o) ≡ 1
one_line m end l ls even e bare = absurd (let no : l ∷ ls ≡ [] = e in cc)
one_line m (row x u a) l ls even e bare = search (rules, false≢true)

-- What a value does in the place of a node that is alone on its line: it is an edit, which changes one row, and leaves the shape of that (own).
pub record PutsLone (n : ℕ) (steps : List Step) (v : Node) (c : Cut) (e : RowsOfEntry) (w : TextPiece) : Type 0 where
  pub edit : IsEdit (replace n steps v) c (lone_put w v)
  pub some : is_empty w.text ≡ false
  pub changes : HasOperand (replace n steps v) → Fits (room_of (cut_text c)) (replace n steps v) (documents c) → length (new_text (lone_put w v)) ≤ text_limit → ChangesRow n c e (lone_put w v)

-- ---- under a key or dash

module _ (n : ℕ) (s : Step) (ss : List Step) (v : Node) (c : Cut) (read : read_at (cut_text c) ≡ Some c) (d : PlacedPart)
    (placed : placed_document n c ≡ Some d) (x : RowLine) (printed_line : row_line_of (s ∷ ss) d.part.rows ≡ Some x) (r : Row) (rs : List Row)
    (last : (entry_rows_at d x).line ≡ length (entry_rows_at d x).row.dashes) (under : (entry_rows_at d x).under ≡ r ∷ rs) (alone : is_alone r ≡ true) where
  abbrev e : RowsOfEntry
  e = entry_rows_at d x

  abbrev front : List Row
  front = e.front ++ (e.row ∷ [])

  at : rows_of_entry n (s ∷ ss) c ≡ Some e
  at = ap (λ (o : Option PlacedPart). o >>= λ q. option_map (entry_rows_at q) (row_line_of (s ∷ ss) q.part.rows)) placed ∙ ap (option_map (entry_rows_at d)) printed_line

  there : HasItsRows n s ss c e
  there = rows_located n s ss c e read at

  is_located : IsDocumentAt c n d
  is_located = document_is_there_at c n d placed

  same : there.part ≡ d.part
  same = same_Some _ _ (sym there.old.there ∙ is_located.there)

  even : IsEven (level_or 0 (part_outline there.part)) (part_outline there.part)
  even = (document_known (cut_text c) c n there.part there.old).even

  lines : lines_of_rows (r ∷ rs) ≡ flatten there.found.under
  lines = ap lines_of_rows (sym under) ∙ under_is there.part s ss e.front e.row e.under e.back (under_it n s ss c e there last) even

  one : (l : Line) × (row_lines r ≡ l ∷ []) × (l.mark ≡ outline.Bare)
  one = alone_line r alone

  first : one.0 ∷ lines_of_rows rs ≡ flatten there.found.under
  first = ap (λ (ls : List Line). ls ++ lines_of_rows rs) (sym one.1) ∙ lines

  below : IsOpen there.found.line.head there.found.under × (m : ℕ) × IsEven m there.found.under
  below = let old = (under_even (level_or 0 (part_outline there.part)) (part_outline there.part) s ss there.found even there.is).1 in (old.1, old.3.0, old.3.2)

  no_head : there.found.line.head ≡ None
  no_head = grind (arith, common_steps, there, first, below, one, headless)

  leads : LeadsBelow d.part s ss front r
  leads = record {
    found = there.found;
    is = subst (λ (p : Part). find s ss (part_outline p) ≡ Some (there.found, [])) same there.is;
    open' = no_head;
    count = one_line below.1 there.found.under one.0 (lines_of_rows rs) below.2 first one.2;
    mark = (alone_row r alone).0;
    number = search (rules, arith, lines_append, length-append, row_count, alone_row);
  }

  rows_are : d.part.rows ≡ front ++ (r ∷ (rs ++ e.back))
  rows_are = search (rules, same, append_assoc)

  ended : LineSeam (rows_text front []) (rows_text (r ∷ (rs ++ e.back)) (d.part.end ++ d.after))
  ended =
      let all : AreRows unlimited (e.front ++ (e.row ∷ (r ∷ (rs ++ e.back)))) d.part.end (after_document n c) =
      subst (λ (us : List Row). AreRows unlimited us d.part.end (after_document n c)) (rows_are ∙ append_assoc e.front (e.row ∷ []) (r ∷ (rs ++ e.back)))
      (part_rows (cut_text c) c n d.part (record { read = read; there = is_located.there }) (document_known (cut_text c) c n d.part (record { read = read; there = is_located.there })).cut) in
      inr (subst (λ u. Ended (rows_text front []) (rows_text (r ∷ (rs ++ e.back)) (d.part.end ++ u))) is_located.after (rows_ended unlimited e.front e.row (r ∷ (rs ++ e.back)) d.part.end (after_document n c) all))

  -- the texts round it
  before_is : d.before ++ rows_text front [] ≡ before_entry e ++ print_row e.row []
  before_is = ap (λ t. d.before ++ t) (rows_text-append e.front (e.row ∷ []) [] ∙ rows_then e.front (print_row e.row [])) ∙ sym (append_assoc d.before (rows_text e.front []) (print_row e.row []))

  following_is : rows_text (rs ++ e.back) (d.part.end ++ d.after) ≡ rows_text rs (after_entry e)
  following_is = rows_text-append rs e.back (d.part.end ++ d.after)

  puts_raw : PutsLone n (s ∷ ss) v c (lone_rows e r rs) (lone (d.before ++ rows_text front []) r (rows_text (rs ++ e.back) (d.part.end ++ d.after)))
  puts_raw = record {
    edit = lone_carried n (s ∷ ss) v c read d placed front r (rs ++ e.back) rows_are (alone_row r alone).0 (alone_row r alone).1 leads ended;
    some = (place n (s ∷ ss) v c read d placed front r (rs ++ e.back) rows_are (alone_row r alone).0 (alone_row r alone).1 leads ended).some;
    changes = λ operand fits.
        lone_changes n (s ∷ ss) v c read d placed front r (rs ++ e.back) rows_are (alone_row r alone).0 (alone_row r alone).1 leads ended operand fits (lone_rows e r rs) refl;
  }

  puts_there : PutsLone n (s ∷ ss) v c (lone_rows e r rs) (lone (before_entry e ++ print_row e.row []) r (rows_text rs (after_entry e)))
  puts_there = search (rules, before_is, following_is, puts_raw)

pub lone_puts_under : (n : ℕ) (s : Step) (ss : List Step) (v : Node) (c : Cut) (e : RowsOfEntry) (r : Row) (rs : List Row) → read_at (cut_text c) ≡ Some c → rows_of_entry n (s ∷ ss) c ≡ Some e → e.line ≡ length e.row.dashes →
    e.under ≡ r ∷ rs → is_alone r ≡ true → PutsLone n (s ∷ ss) v c (lone_rows e r rs) (lone (before_entry e ++ print_row e.row []) r (rows_text rs (after_entry e)))
lone_puts_under n s ss v c e r rs read at last under alone =
    let d = bind_some (placed_document n c) at in
    let x = map_some (row_line_of (s ∷ ss) d.0.part.rows) d.2 in
    subst (λ (y : RowsOfEntry). y.line ≡ length y.row.dashes → y.under ≡ r ∷ rs → PutsLone n (s ∷ ss) v c (lone_rows y r rs) (lone (before_entry y ++ print_row y.row []) r (rows_text rs (after_entry y)))) x.2
    (λ own below. puts_there n s ss v c read d.0 d.1 x.0 x.1 r rs own below alone) last under

pub lone_edit : (n : ℕ) (s : Step) (ss : List Step) (v : Node) (c : Cut) (e : RowsOfEntry) (r : Row) (rs : List Row) → read_at (cut_text c) ≡ Some c → rows_of_entry n (s ∷ ss) c ≡ Some e → e.line ≡ length e.row.dashes →
    e.under ≡ r ∷ rs → is_alone r ≡ true → IsEdit (replace n (s ∷ ss) v) c (lone_put (lone (before_entry e ++ print_row e.row []) r (rows_text rs (after_entry e))) v)
lone_edit n s ss v c e r rs read at last under alone = (lone_puts_under n s ss v c e r rs read at last under alone).edit

-- ---- a root

module _ (n : ℕ) (v : Node) (c : Cut) (d : PlacedPart) (r : Row) (rs : List Row) (read : read_at (cut_text c) ≡ Some c) (placed : placed_document n c ≡ Some d) (are : d.part.rows ≡ r ∷ rs) (alone : is_alone r ≡ true) where
  root_old : IsDocumentPart (cut_text c) c n d.part
  root_old = record { read = read; there = (document_is_there_at c n d placed).there }

  root : IsRootRow d.part r
  root =
      let l = alone_line r alone in
      let lines : lines_of_rows d.part.rows ≡ l.0 ∷ lines_of_rows rs = ap lines_of_rows are ∙ ap (λ (ls : List Line). ls ++ lines_of_rows rs) l.1 in
      let flat : flatten (part_outline d.part) ≡ lines_of_rows d.part.rows = flatten-group (lines_of_rows d.part.rows) in
      record { count = sym (ap length flat) ∙ one_line _ (part_outline d.part) l.0 (lines_of_rows rs) (document_known (cut_text c) c n d.part root_old).even (sym lines ∙ sym flat) l.2; mark = (alone_row r alone).0 }

  root_raw : PutsLone n [] v c (root_rows d r rs) (lone (d.before ++ []) r (rows_text rs (d.part.end ++ d.after)))
  root_raw = record {
    edit = lone_carried n [] v c read d placed [] r rs are (alone_row r alone).0 (alone_row r alone).1 root (inl refl);
    some = (place n [] v c read d placed [] r rs are (alone_row r alone).0 (alone_row r alone).1 root (inl refl)).some;
    changes = λ operand fits. lone_changes n [] v c read d placed [] r rs are (alone_row r alone).0 (alone_row r alone).1 root (inl refl) operand fits (root_rows d r rs) refl;
  }

  pub lone_puts_root : PutsLone n [] v c (root_rows d r rs) (lone d.before r (rows_text rs (d.part.end ++ d.after)))
  lone_puts_root = subst (λ (b : List ℕ). PutsLone n [] v c (root_rows d r rs) (lone b r (rows_text rs (d.part.end ++ d.after)))) (append-nil d.before) root_raw

  pub lone_root_edit : IsEdit (replace n [] v) c (lone_put (lone d.before r (rows_text rs (d.part.end ++ d.after))) v)
  lone_root_edit = lone_puts_root.edit
