-- A row counted through all parts is in one of them, and there its content is exchanged.
use Rattle.std.proofs.Common.{◌≡◌, inl, inr, ℕ, zero, suc, ◌-◌, true, List, [], ◌∷◌, ◌++◌, length, take, drop, Some, refl, ap, false, rules}
use Rattle.std.{proofs.Math.Dec.ltb, proofs.lemmas.Bool.{false≢true, ltb-true, ltb-false, cases_Bool}, specs.List.slice_get}
use Rattle.yq_row_table.specs.Counted.{RowPlace}
use Rattle.yq_row_table.specs.Exchange.{with_content, with_content_at, with_content_in, exchange, text_after_row, after_row, following_rows}
use Rattle.yq_row_table.specs.Exchange.{allows_first, FitsRow}
use Rattle.yq_row_table.specs.Grammar.{IsMark, may_be_alone, is_entry, IsRow, Limit, limit_after, IsCut}
use Rattle.yq_row_table.specs.Rows.{RowMark, Content, Row, rows_text, Part, Cut, last, marked, cut_text}
use Rattle.yq_row_table.{specs.Splices.{first_gap, splice_part, CutsItsText}, specs.View.rows_of}
use Rattle.yq_row_table.{proofs.ExchangeLaws.{one_row, slice_front, slice_back}, proofs.splices.PartPlaces.row_is_there}
use Rattle.yq_row_table.{proofs.splices.RowReplaced.row_exchanged, proofs.NothingLaws.gap_other, proofs.seams.FrontSeams.after_row_some}
use Rattle.yq_row_table.{specs.Alone.FitsAlone, proofs.splices.SpliceTexts.{own_gap, own_end}}

-- row i among rows
pub rows_around : (rows : List Row) (i : ℕ) (r : Row) → slice_get rows i ≡ Some r → rows ≡ take i rows ++ (r ∷ drop (suc i) rows)
rows_around [] i r h = cc
rows_around (x ∷ rows) zero r h = let is : x ≡ r = cc in ap (λ (y : Row). y ∷ rows) is
rows_around (x ∷ rows) (suc i) r h = ap (λ l. x ∷ l) (rows_around rows i r h)

pub count_front : (rows : List Row) (i : ℕ) (r : Row) → slice_get rows i ≡ Some r → length (take i rows) ≡ i
count_front [] i r h = cc
count_front (x ∷ rows) zero r h = refl
count_front (x ∷ rows) (suc i) r h = ap suc (count_front rows i r h)

content_around : (rows : List Row) (i : ℕ) (r : Row) (new : Content) → slice_get rows i ≡ Some r → with_content_at i new rows ≡ take i rows ++ (with_content new r ∷ drop (suc i) rows)
content_around [] i r new h = cc
content_around (x ∷ rows) zero r new h = let is : x ≡ r = cc in ap (λ (y : Row). with_content new y ∷ rows) is
content_around (x ∷ rows) (suc i) r new h = ap (λ l. x ∷ l) (content_around rows i r new h)

following_is : (rows : List Row) (i : ℕ) (rest : List ℕ) → text_after_row i rows rest ≡ rows_text (drop (suc i) rows) rest
following_is (x ∷ rows) (suc i) rest = following_is rows i rest
following_is _ _ rest = refl

part_content : (p : Part) (i : ℕ) (r : Row) (new : Content) → slice_get p.rows i ≡ Some r →
    with_content_in i new p ≡ splice_part (length (take i p.rows)) (suc (length (take i p.rows))) (with_content new r ∷ []) (first_gap (drop (suc i) p.rows) p.end) p
part_content p i r new h = search (rules, content_around, own_gap, own_end, count_front)

pub row_placed : (c : Cut) (i : ℕ) (r : Row) → slice_get (rows_of c) i ≡ Some r → RowPlace i r c
row_placed (last p) i r h = search (rules, rows_around, following_is, part_content)
row_placed (marked p marker c) i r h = elim (cases_Bool (ltb i (length p.rows))) [
  | inl e ↦ (
      let is = slice_front p.rows (rows_of c) i r (ltb-true i (length p.rows) e) h in
      record {
        part = 0;
        front = take i p.rows;
        back = drop (suc i) p.rows;
        is_located = rows_around p.rows i r is;
        rows = rw e refl;
        after = rw e (following_is p.rows i (p.end ++ (marker ++ cut_text c)));
        exchanged = λ new. rw e (ap (λ (q : Part). marked q marker c) (part_content p i r new is));
      })
  | inr e ↦ (
      let more = row_placed c (i - length p.rows) r (slice_back p.rows (rows_of c) i r (ltb-false i (length p.rows) e) h) in
      record {
        part = suc more.part;
        front = more.front;
        back = more.back;
        is_located = more.is_located;
        rows = rw e more.rows;
        after = rw e more.after;
        exchanged = λ new. rw e (ap (marked p marker) (more.exchanged new));
      })
]

-- a row with another content, where it is a row
exchanged_by : (t : List ℕ) (c : Cut) (i : ℕ) (r : Row) (new : Content) → IsCut t c → slice_get (rows_of c) i ≡ Some r → ((limit : Limit) → IsRow limit r (after_row i c) → IsRow limit (with_content new r) (after_row i c)) →
    allows_first (limit_after (with_content new r)) (following_rows i c) ≡ true → CutsItsText (exchange i new c)
exchanged_by t c i r new h is row next =
    let p = row_placed c i r is in
    search (rules, row_is_there, row_exchanged)

pub content_exchanged : (t : List ℕ) (c : Cut) (i : ℕ) (r : Row) (new : Content) → IsCut t c → slice_get (rows_of c) i ≡ Some r → FitsRow new r (after_row i c) (following_rows i c) → CutsItsText (exchange i new c)
content_exchanged t c i r new h is f = exchanged_by t c i r new h is (λ limit row. (one_row limit r new (after_row i c) (after_row i c) row f.entry f.content f.apart).row) f.next

-- a row with neither a dash nor a key
bare_mark : (m : RowMark) (new : Content) (rest : List ℕ) → is_entry m ≡ false → may_be_alone new ≡ true → IsMark m new rest
bare_mark m new rest h1 h2 = search (rules, false≢true)

bare_row : (limit : Limit) (r : Row) (new : Content) (rest : List ℕ) (after : List Row) → IsRow limit r rest → FitsAlone new r rest after → IsRow limit (with_content new r) rest
bare_row limit r new rest after h f = search (rules, gap_other, after_row_some, bare_mark)

pub alone_exchanged : (t : List ℕ) (c : Cut) (i : ℕ) (r : Row) (new : Content) → IsCut t c → slice_get (rows_of c) i ≡ Some r → FitsAlone new r (after_row i c) (following_rows i c) → CutsItsText (exchange i new c)
alone_exchanged t c i r new h is f = exchanged_by t c i r new h is (λ limit row. bare_row limit r new (after_row i c) (following_rows i c) row f) f.next
