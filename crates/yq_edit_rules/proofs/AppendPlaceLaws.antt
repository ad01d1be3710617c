-- What may be at the end of a block collection.
use Rattle.yq_edit_rules.{proofs.FirstReplaceLaws.rows_after, specs.CollectionPlaces.IsCollectionEnd}
use Rattle.yq_edit_rules.{specs.DocumentRows.{IsDocumentPart, after_document}, specs.LineRows.{Begins, AreDeep}, specs.Moved.dash_lines}
use Rattle.yq_edit_rules.proofs.ApartLaws.{even_deep, lines_apart, block_some}
use Rattle.yq_edit_rules.{proofs.ColumnLaws.{allowed_content, below_node, high_level, next_low}, proofs.LineLaws.{above_mark, mark_after}}
use Rattle.yq_edit_rules.{proofs.NodeLineLaws.lines_even, proofs.PartLaws.{document_known, part_numbered}}
use Rattle.yq_edit_rules.proofs.PlacedLaws.{same_parts, whole_lines}
use Rattle.std.proofs.Common.{◌≡◌, ℕ, suc, ◌+◌, ◌*◌, ◌<◌, ◌≤◌, List, [], ◌∷◌, ◌++◌, Option, Some, None, true, refl, sym, ap, ◌∙◌, subst}
use Rattle.std.{proofs.Common.{arith, append_assoc, append-nil, length-append, rules}, proofs.lemmas.Bool.lt-ltb}
use Rattle.std.proofs.lemmas.Option.{same_Some}
use Rattle.yq_outline.{specs.Comments.head_comment, specs.Group.level_or, specs.Outline.{Line, level, flatten}}
use Rattle.yq_outline.{specs.Places.{lines_before, lines_after}, proofs.Decides.flatten-group}
use Rattle.yq_outline.specs.Lines.{mark_line, lines_from, row_lines, lines_of_rows}
use Rattle.yq_core.specs.Paths.{Step}
use Rattle.yq_row_table.{specs.Exchange.{allows_first, asked_after}, specs.Gap.IsGap}
use Rattle.yq_row_table.{specs.Grammar.{Limit, unlimited, allows, limit_after, AreRows}, specs.Rows.{Row, mark_column, Part, Cut}}
use Rattle.yq_row_table.{specs.Splices.{first_gap, after_first}, proofs.PlainEnds.{AtLine, rows_line}, proofs.seams.SeamLaws.part_line}
use Rattle.yq_row_table.{proofs.splices.PartPlaces.{part_in, part_ends}, proofs.splices.SpliceTexts.first_is}
use Rattle.yq_places.{specs.CollectionEnds.CollectionEnd, proofs.UnderExchange.lines_append}
use Rattle.yq_documents.{specs.Reading.part_outline, specs.PartNumbers.part_number}

-- ---- a row whose last line is deep

abbrev last_line : List Line → Option Line
last_line [] = None
last_line (l ∷ []) = Some l
last_line (l ∷ (k ∷ ls)) = last_line (k ∷ ls)

last_of : (xs : List Line) (y : Line) (ys : List Line) → last_line (xs ++ (y ∷ ys)) ≡ last_line (y ∷ ys)
last_of (x ∷ (z ∷ xs)) y ys = last_of (z ∷ xs) y ys
last_of _ y ys = refl

deep_last : (n : ℕ) (ls : List Line) (l : Line) → AreDeep n ls → last_line ls ≡ Some l → n ≤ level l
deep_last n [] l h e = absurd (cc)
deep_last n (x ∷ []) l h e = subst (λ (y : Line). n ≤ level y) (same_Some _ _ e) h.0
deep_last n (x ∷ (z ∷ ls)) l h e = deep_last n (z ∷ ls) l h.1 e

row_last : (r : Row) → last_line (row_lines r) ≡ Some (mark_line (above_mark (head_comment r.gap) r.dashes) (mark_column r) r.mark r.content)
row_last r = ap last_line (mark_after (head_comment r.gap) r.column r.dashes r.mark r.content) ∙ last_of (dash_lines (head_comment r.gap) r.column r.dashes) _ []

-- an entry or item in a column less deep than the last line of a row may come after that row
mark_limit : (n column : ℕ) (r : Row) → 3 * column + 1 < n → n ≤ level (mark_line (above_mark (head_comment r.gap) r.dashes) (mark_column r) r.mark r.content) → allows (limit_after r) column ≡ true
unfolding level
mark_limit n column r low deep = search (rules, allowed_content, above_mark, high_level, below_node)

-- after the last of rows
pub last_limit : (limit : Limit) (others : List Row) (r : Row) → asked_after limit (others ++ (r ∷ [])) ≡ limit_after r
last_limit limit [] r = refl
last_limit limit (x ∷ others) r = last_limit (limit_after x) others r

row_some : (r : Row) → (l : Line) × (ls : List Line) × (row_lines r ≡ l ∷ ls)
row_some r = go r.dashes
  where
    go : (ns : List ℕ) → (l : Line) × (ls : List Line) × (lines_from (head_comment r.gap) r.column ns r.mark r.content ≡ l ∷ ls)
    go [] = (_, _, refl)
    go (n ∷ ns) = (_, _, refl)

-- the last line of rows
rows_last : (others : List Row) (r : Row) → last_line (lines_of_rows (others ++ (r ∷ []))) ≡ last_line (row_lines r)
rows_last others r = search (rules, row_some r, lines_append, append-nil, last_of)

-- lines that end in some
ends_some : (xs ys : List Line) → (ys ≡ [] → ⊥) → last_line (xs ++ ys) ≡ last_line ys
ends_some xs [] some = absurd (some refl)
ends_some xs (y ∷ ys) some = last_of xs y ys

-- the next rows are no deeper
low_first : (n column : ℕ) (back : List Row) → n ≤ 3 * column + 3 → (m : ℕ) → m < n → Begins m (lines_of_rows back) → allows_first (record { column = Some (suc column) }) back ≡ true
low_first n column [] high m less next = refl
low_first n column (b ∷ bs) high m less next = let low = next_low m (b ∷ bs) b bs refl next in lt-ltb b.column (suc column) (omega (arith, high, less, low))

-- What may be at the end of a collection.
pub record EndAllows (c : Cut) (k : ℕ) (p : Part) (x : CollectionEnd) (front back : List Row) : Type 0 where
  pub rows : AreRows unlimited (front ++ back) p.end (after_document k c)
  pub allowed : allows (asked_after unlimited front) x.column ≡ true
  pub line : AtLine (suc x.column) x.after
  pub gap : IsGap (first_gap back p.end) (after_first back p.end (after_document k c))

pub end_allows : (t : List ℕ) (c : Cut) (k : ℕ) (p : Part) (steps : List Step) (x : CollectionEnd) → IsDocumentPart t c k p → (e : IsCollectionEnd c k p steps x) → EndAllows c k p x e.front e.back
unfolding level
end_allows t c k p steps x h e =
    let known = document_known t c k p h in
    let o = part_outline p in
    let n : ℕ = level_or 0 e.h.lines in
    let rest : List ℕ = after_document k c in
    let deep = lines_even (level_or 0 o) o steps e.h known.even e.collection.place_is e.collection.block in
    let apart = lines_apart (level_or 0 o) o steps e.h known.even e.collection.place_is e.collection.block in
    let lev : (3 * x.column + 1 < level_or 0 e.h.lines) × (level_or 0 e.h.lines ≤ 3 * x.column + 3) = search rules in
    let whole : lines_of_rows e.front ++ ([] ++ lines_of_rows e.back) ≡ (lines_before e.h.place ++ flatten e.h.lines) ++ ([] ++ lines_after e.h.place) =
    sym (lines_append e.front e.back)
    ∙ (ap lines_of_rows (sym e.rows_are) ∙ (sym (flatten-group (lines_of_rows p.rows)) ∙ (whole_lines o steps e.h e.collection.place_is ∙ sym (append_assoc (lines_before e.h.place) (flatten e.h.lines) (lines_after e.h.place))))) in
    let parts =
    same_parts (lines_of_rows e.front) [] (lines_of_rows e.back) (lines_before e.h.place ++ flatten e.h.lines) [] (lines_after e.h.place) whole
    (e.count ∙ sym (length-append (lines_before e.h.place) (flatten e.h.lines))) refl in
    let last : last_line (flatten e.h.lines) ≡ Some (mark_line (above_mark (head_comment e.last.gap) e.last.dashes) (mark_column e.last) e.last.mark e.last.content) =
    sym (ends_some (lines_before e.h.place) (flatten e.h.lines) (block_some e.h.lines e.collection.block))
    ∙ (ap last_line (sym parts.0) ∙ (ap (λ rs. last_line (lines_of_rows rs)) e.front_is ∙ (rows_last e.others e.last ∙ row_last e.last))) in
    let all : AreRows unlimited (e.front ++ e.back) p.end rest =
    subst (λ (rs : List Row). AreRows unlimited rs p.end rest) e.rows_are
    (subst (λ (y : Part). AreRows unlimited y.rows y.end rest) (part_numbered c k p h.there).0 (part_in c (part_number k c) true known.cut.parts).rows) in
    let after : AreRows (asked_after unlimited e.front) e.back p.end rest = rows_after unlimited e.front e.back p.end rest all in
    let next : allows_first (record { column = Some (suc x.column) }) e.back ≡ true = low_first n x.column e.back lev.1 e.h.above deep.0 (subst (Begins e.h.above) (sym parts.2) apart.1) in
    record {
      rows = all;
      allowed = ap (λ (y : Limit). allows y x.column) (ap (asked_after unlimited) e.front_is ∙ last_limit unlimited e.others e.last)
          ∙ mark_limit n x.column e.last lev.0 (deep_last n (flatten e.h.lines) _ (even_deep n e.h.lines deep.1) last);
      line = subst (AtLine (suc x.column)) (sym e.following_is)
          (rows_line (suc x.column) e.back (asked_after unlimited e.front) p.end rest after next (part_line (suc x.column) rest (part_ends c (part_number k c) true known.cut.parts)));
      gap = first_is (asked_after unlimited e.front) e.back p.end rest after;
    }
