-- The sole item or entry of a block collection under a key or dash: its rows are those under that.
use Rattle.std.proofs.Common.{◌≡◌, ℕ, zero, suc, ◌+◌, ◌<◌, ◌≤◌, Bool, true, false, ◌&&◌, cond, List, [], ◌∷◌, ◌++◌, length, Option, Some}
use Rattle.std.proofs.Common.{None, option_map, refl, sym, ap, ◌∙◌, subst, arith, append_assoc, length-append}
use Rattle.std.{proofs.lemmas.Bool.false≢true, proofs.lemmas.Option.{none-some, same_Some, slice_get-map}}
use mathlib.Core.List.{head-eq_of_cons-eq}
use Rattle.yq_core.{specs.Answers.◌>>=◌, specs.Paths.{Step, To, Nth, further, is_here, node_at}, specs.Text.is_empty}
use Rattle.yq_core.specs.Tree.{Label, Node, child, list, map, none}
use Rattle.yq_outline.{specs.Group.level_or, specs.Lines.{line_mark, lines_from, lines_of_rows, row_lines}, specs.Positions.has_no_mark}
use Rattle.yq_outline.specs.Outline.{LineMark, Bare, Key, Dash, Line, level, Outline, end, row, flatten, IsEven, anchored, head_or, key_of}
use Rattle.yq_outline.specs.Outline.{label, outline_node, value}
use Rattle.yq_outline.specs.Places.{Context, here, below, beside, compose, FoundLine, content_under, find_row, lines_after, lines_before}
use Rattle.yq_outline.{specs.Places.next_to, specs.Comments.head_comment, proofs.Finding.{FoundNode, path_node}}
use Rattle.yq_row_table.specs.Rows.{Row, Part, Cut, cut_text}
use Rattle.yq_documents.{specs.Documents.{Document, document_parts}, specs.Reading.{part_document, part_outline, read_at}}
use Rattle.yq_places.{specs.NodesAt.node_in, specs.PlacedRows.{PlacedPart, placed_document}}
use Rattle.yq_places.{specs.Placements.{RowsOfEntry, is_alone, rows_of_entry}, specs.RemovalPlaces.{OwnRows, own_rows}}
use Rattle.yq_places.{proofs.PlacedPartLaws.map_some, proofs.UnderExchange.lines_append}
use Rattle.yq_edit_rules.{specs.LineRows.{Begins, following_lines}, specs.PlacementLaws.HasItsRows, specs.RemovalChanges.HasOwnRows}
use Rattle.yq_edit_rules.{specs.Siblings.{IsEntry, HasEntries, NodeLines, under_line}, proofs.NodeLineLaws.{Under, lines_even, lines_found}}
use Rattle.yq_edit_rules.{proofs.PartLaws.document_known, proofs.PlacedPartLaws.document_is_there_at}
use Rattle.yq_edit_rules.{proofs.PlacementMarks.{even_there, under_it}, proofs.PlacementRows.rows_located}
use Rattle.yq_edit_rules.proofs.UnderLaws.{line_is, line_with}
use Rattle.yq_edit_laws.{proofs.NodeRowLaws.{next_begins, mark_node}, proofs.SoleParts.IsEmptiedBy}
use Rattle.yq_batch.{proofs.EntryRemains.{back_lines, has, here as even_here, own_lines}, proofs.OwnRowsStay.row_size}
use Rattle.yq_batch.proofs.RowFronts.{equal_parts, parts_by_lines}

-- ---- what comes after the rows of an item or entry

pub entry_begins : (n : ℕ) (s : Step) (ss : List Step) (c : Cut) (e : RowsOfEntry) → HasItsRows n s ss c e → e.line ≡ length e.row.dashes → Begins (level (line_with e.row e.row.content)) (lines_of_rows e.back)
entry_begins n s ss c e there last =
    let line : line_with e.row e.row.content ≡ there.found.line = line_is there.part s ss e.front e.row e.under e.back (under_it n s ss c e there last) (even_there n s ss c e there last) in
    subst (λ (l : Line). Begins (level l) (lines_of_rows e.back)) (sym line) (next_begins n s ss c (mark_node n s ss c e there last))

-- ---- the first of several

before_inside : (p : Context) (l : Line) (a : Outline) → length (lines_before (compose p (below l here a))) ≡ suc (length (lines_before p))
before_inside here l a = refl
before_inside (below m p b) l a = ap suc (before_inside p l a)
before_inside (beside m u p) l a =
    let more = before_inside p l a in
    omega (arith, more, length-append (flatten u) (lines_before (compose p (below l here a))), length-append (flatten u) (lines_before p))

found_first : (s : Step) (o : Outline) (f : FoundLine) → find_row s o ≡ Some f → length (lines_before f.place) ≡ 0 → (o ≡ row f.line f.under f.after) × (is_here s (label f.line) ≡ true)
found_first s end f e nothing = absurd (none-some _ e)
found_first s (row l u a) f e nothing = go (is_here s (label l)) refl e
  where
    go : (b : Bool) → is_here s (label l) ≡ b → cond b (Some (record { place = here; line = l; under = u; after = a })) (option_map (next_to l u) (find_row (further s) a)) ≡ Some f →
        (row l u a ≡ row f.line f.under f.after) × (is_here s (label f.line) ≡ true)
    go true is e =
        let same = same_Some _ _ e in
        (ap (λ (g : FoundLine). row g.line g.under g.after) same, ap (λ (g : FoundLine). is_here s (label g.line)) (sym same) ∙ is)
    go false is e = let g = map_some (next_to l u) (find_row (further s) a) f e in absurd (omega (arith, nothing, ap (λ (w : FoundLine). length (lines_before w.place)) g.2))

-- ---- the empty collection in the place of its own

-- the empty collection of the kind of the one in which a step leads to an item or entry
abbrev pub emptied_value : Step → Node
emptied_value (To k) = map None none
emptied_value (Nth n) = list None none

emptied_mark : (s : Step) (a : Option (List ℕ)) (m : LineMark) (above : List (List ℕ)) (comment : Option (List ℕ)) (b : Label) (x : Node) → IsEntry m →
    is_here s (record { key = key_of m; head_comment = above; line_comment = comment }) ≡ true → IsEmptiedBy (emptied_value s) (anchored a (outline_node m (child b x none)))
emptied_mark s a Bare above comment b x entry is = absurd entry
emptied_mark (To k) a (Key j) above comment b x entry is = (refl, refl)
emptied_mark (Nth zero) a (Key j) above comment b x entry is = absurd (false≢true is)
emptied_mark (Nth (suc n)) a (Key j) above comment b x entry is = absurd (false≢true is)
emptied_mark (To k) a Dash above comment b x entry is = absurd (false≢true is)
emptied_mark (Nth zero) a Dash above comment b x entry is = (refl, refl)
emptied_mark (Nth (suc n)) a Dash above comment b x entry is = absurd (false≢true is)

emptied_by : (s : Step) (l k : Line) (u : Outline) → l.head ≡ None → IsEntry k.mark → is_here s (label k) ≡ true → IsEmptiedBy (emptied_value s) (content_under l (row k u end))
emptied_by s l k u open' entry is =
    subst (λ (o : Option Node). IsEmptiedBy (emptied_value s) (anchored l.anchor (head_or o (value (row k u end))))) (sym open')
    (emptied_mark s l.anchor k.mark k.head_comment k.line_comment _ _ entry is)

-- ---- rows that aren't alone on their lines

marked : (m : LineMark) → IsEntry m → has_no_mark m ≡ false
marked Bare h = absurd h
marked (Key k) h = refl
marked Dash h = refl

not_alone : (r : Row) (more ls : List Line) (l : Line) → row_lines r ++ more ≡ l ∷ ls → IsEntry l.mark → is_alone r ≡ false
not_alone r more ls l is entry = go r.dashes is
  where
    go : (ds : List ℕ) → lines_from (head_comment r.gap) r.column ds r.mark r.content ++ more ≡ l ∷ ls → (is_empty ds && has_no_mark (line_mark r.mark)) ≡ false
    go [] e = marked (line_mark r.mark) (subst IsEntry (sym (ap (λ (k : Line). k.mark) (head-eq_of_cons-eq e))) entry)
    go (d ∷ ds) e = refl

-- ---- the sole one

module _ (c : Cut) (n : ℕ) (u : Step) (us : List Step) (s : Step) (read : read_at (cut_text c) ≡ Some c) (d : PlacedPart) (placed : placed_document n c ≡ Some d)
    (x : OwnRows) (own : own_rows ((u ∷ us) ++ (s ∷ [])) d.part.rows ≡ Some x) (e : RowsOfEntry) (at : rows_of_entry n (u ∷ us) c ≡ Some e) (last : e.line ≡ length e.row.dashes)
    (next : length e.front + 1 ≡ length x.front) (low : Begins (level (line_with e.row e.row.content)) (lines_of_rows x.back)) where
  abbrev pub there : HasItsRows n u us c e
  there = rows_located n u us c e read at

  abbrev p : Part
  p = there.part

  part_same : p ≡ d.part
  part_same = same_Some _ _ (sym there.old.there ∙ (document_is_there_at c n d placed).there)

  own_p : own_rows ((u ∷ us) ++ (s ∷ [])) p.rows ≡ Some x
  own_p = ap (λ (q : Part). own_rows ((u ∷ us) ++ (s ∷ [])) q.rows) part_same ∙ own

  abbrev w : HasOwnRows p (u ∷ us) s x
  w = has (cut_text c) c n p (u ∷ us) s x there.old own_p

  abbrev g : FoundLine
  g = there.found

  above : Under u us (part_outline p) w.h
  above = lines_found u us (part_outline p) w.h w.entry.place_is

  found_same : above.found ≡ g
  found_same = ap (λ (y : FoundLine × List Step). y.0) (same_Some _ _ (sym above.is ∙ there.is))

  lines_is : under_line g ≡ w.h
  lines_is = ap under_line (sym found_same) ∙ above.place_is

  open' : g.line.head ≡ None
  open' = ap (λ (f : FoundLine). f.line.head) (sym found_same) ∙ above.open'

  line : line_with e.row e.row.content ≡ g.line
  line = line_is p u us e.front e.row e.under e.back (under_it n u us c e there last) (even_there n u us c e there last)

  split : (e.front ++ (e.row ∷ []) ≡ x.front) × (e.under ++ e.back ≡ x.own ++ x.back)
  split =
      equal_parts (e.front ++ (e.row ∷ [])) (e.under ++ e.back) x.front (x.own ++ x.back)
      (append_assoc e.front (e.row ∷ []) (e.under ++ e.back) ∙ (sym there.rows_are ∙ w.rows.rows_are))
      (omega (arith, next, length-append e.front (e.row ∷ [])))

  -- the row of the key or dash comes right before its rows
  pub front_is : x.front ≡ e.front ++ (e.row ∷ [])
  front_is = sym split.0

  -- no other one is in front of it
  first_place : length (lines_before w.f.place) ≡ 0
  first_place =
      omega (
        arith,
        last,
        there.number,
        w.rows.number,
        ap (λ (h : NodeLines). length (lines_before h.place)) (sym lines_is),
        before_inside g.place g.line g.after,
        ap (λ (rs : List Row). length (lines_of_rows rs)) front_is,
        ap length (lines_append e.front (e.row ∷ [])),
        length-append (lines_of_rows e.front) (row_lines e.row ++ []),
        length-append (row_lines e.row) [],
        row_size e.row,
      )

  first : (w.h.lines ≡ row w.f.line w.f.under w.f.after) × (is_here s (label w.f.line) ≡ true)
  first = found_first s w.h.lines w.f w.entry.found first_place

  -- nor after it
  after_none : w.f.after ≡ end
  after_none = go w.f.after refl
    where
      deep : level g.line < level_or 0 w.h.lines
      deep =
          let even = (document_known (cut_text c) c n p there.old).even in
          subst (λ (m : ℕ). m < level_or 0 w.h.lines) (ap (λ (h : NodeLines). h.above) (sym lines_is)) (lines_even (level_or 0 (part_outline p)) (part_outline p) (u ∷ us) w.h even w.entry.place_is w.entry.block).0

      follow : lines_of_rows x.back ≡ following_lines w.h w.f
      follow = back_lines (cut_text c) c n p (u ∷ us) s x there.old own_p

      go : (o : Outline) → w.f.after ≡ o → o ≡ end
      go end is = refl
      go (row l v b) is =
          let lines : lines_of_rows x.back ≡ (flatten (row l v b) ++ lines_after w.f.place) ++ lines_after w.h.place = follow ∙ ap (λ (o : Outline). (flatten o ++ lines_after w.f.place) ++ lines_after w.h.place) is in
          let less : level l ≤ level (line_with e.row e.row.content) = subst (Begins (level (line_with e.row e.row.content))) lines low in
          let same : IsEven (level_or 0 w.h.lines) (row l v b) = subst (IsEven (level_or 0 w.h.lines)) is (even_here (cut_text c) c n p (u ∷ us) s x there.old own_p).4 in
          absurd (omega (arith, less, ap level line, deep, same.0))

  under_is : g.under ≡ row w.f.line w.f.under end
  under_is = ap (λ (h : NodeLines). h.lines) lines_is ∙ (first.0 ∙ ap (row w.f.line w.f.under) after_none)

  -- the rows under the key or dash are its own
  own_is : (e.under ≡ x.own) × (e.back ≡ x.back)
  own_is =
      parts_by_lines e.under e.back x.own x.back split.1
      (omega (
        arith,
        last,
        there.count,
        length-append (row_lines e.row) (lines_of_rows e.under),
        row_size e.row,
        ap (λ (o : Outline). length (flatten o)) under_is,
        length-append (flatten w.f.under) [],
        w.rows.count,
      ))

  pub under_own : e.under ≡ x.own
  under_own = own_is.0

  pub back_own : e.back ≡ x.back
  back_own = own_is.1

  entry_mark : IsEntry w.f.line.mark
  entry_mark = subst HasEntries first.0 w.entry.block

  -- the node of the collection
  pub node : node_in n (u ∷ us) c ≡ Some (content_under g.line g.under)
  node =
      ap (λ (o : Option Document). o >>= λ d. node_at (u ∷ us) d.root) (slice_get-map part_document (document_parts c) n ∙ ap (option_map part_document) there.old.there)
      ∙ (path_node u us (part_outline p) ∙ ap FoundNode there.is)

  pub is_emptied : IsEmptiedBy (emptied_value s) (content_under g.line g.under)
  is_emptied = subst (λ (o : Outline). IsEmptiedBy (emptied_value s) (content_under g.line o)) (sym under_is) (emptied_by s g.line w.f.line w.f.under open' entry_mark first.1)

  -- its first row isn't alone on its line
  pub beside_first : (r : Row) (rs : List Row) → x.own ≡ r ∷ rs → is_alone r ≡ false
  beside_first r rs is = not_alone r (lines_of_rows rs) (flatten w.f.under) w.f.line (sym (ap lines_of_rows is) ∙ own_lines (cut_text c) c n p (u ∷ us) s x there.old own_p) entry_mark
