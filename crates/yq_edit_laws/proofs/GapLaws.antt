-- Rows of a document taken out, and the gap after them exchanged: the item that begins with that goes with them.
use Rattle.std.proofs.Common.{rules, ◌≡◌, ℕ, ◌+◌, ◌≤◌, List, [], ◌∷◌, ◌++◌, length, refl, sym, ap, ◌∙◌, append_assoc, arith}
use Rattle.std.{proofs.lemmas.List.length-append, specs.List.slice_get}
use Rattle.yq_row_table.{proofs.ItemLaws.rows_items_text, specs.Items.{Item, end_item, rows_items, items_text}}
use Rattle.yq_row_table.specs.ItemSplices.{first_item}
use Rattle.yq_row_table.specs.Rows.{Row, print_row, following_gap, rows_text, Part, part_text, Cut, cut_text}
use Rattle.yq_row_table.{specs.Splices.{with_row_gap, first_gap, with_first_gap, end_gap, after_first}, specs.Touched.item_text}
use Rattle.yq_row_table.{proofs.KeptLaws.items_apart, proofs.PlaceLaws.row_then, proofs.FrontLaws.front_le}
use Rattle.yq_edit_rules.{specs.Changed.put_document, specs.DocumentRows.{after_document, put_rows}, proofs.DocumentItemLaws.rows_before}
use Rattle.yq_edit_rules.specs.Local.{IsLocal}
use Rattle.yq_edit_rules.proofs.ItemsLocal.{rows_last, ItemsGiveWay, come_inside, items_local, one_first, one_last, first_within}
use Rattle.yq_edit_rules.proofs.LocalLaws.{h, front_items, around, front_text}
use Rattle.yq_text.specs.Script.{Segment, old_text, new_text, are_kept, kept_front, kept_back}
use Rattle.yq_documents.specs.Documents.{document_parts}
use Rattle.yq_edit_laws.specs.TouchedRanges.{LiesInOne}

-- the items after the first one of rows and of the end after them
abbrev later_items : List Row → (end marker : List ℕ) → List Item → List Item
later_items [] end marker below = below
later_items (b ∷ bs) end marker below = rows_items bs (end_item end marker ∷ below)

first_later : (back : List Row) (end marker : List ℕ) (below : List Item) → rows_items back (end_item end marker ∷ below) ≡ first_item back end marker ∷ later_items back end marker below
first_later back end marker below = search rules

-- the same with another gap
later_same : (gap : List ℕ) (back : List Row) (end marker : List ℕ) (below : List Item) → later_items (with_first_gap gap back) (end_gap gap back end) marker below ≡ later_items back end marker below
later_same gap back end marker below = search rules

-- what comes after the gap of that first one
abbrev after_first_gap : List Row → (marker : List ℕ) → List ℕ
after_first_gap [] marker = marker
after_first_gap (b ∷ bs) marker = following_gap b []

gap_apart : (back : List Row) (end marker : List ℕ) → item_text (first_item back end marker) ≡ first_gap back end ++ after_first_gap back marker
gap_apart back end marker = search rules

later_text : (back : List Row) (end marker : List ℕ) (below : List Item) → after_first back end (marker ++ items_text below []) ≡ after_first_gap back marker ++ items_text (later_items back end marker below) []
later_text [] end marker below = refl
later_text (b ∷ bs) end marker below =
    row_then (with_row_gap [] b) [] (rows_text bs (end ++ (marker ++ items_text below []))) ∙ ap (λ t. following_gap b [] ++ t) (sym (rows_items_text bs (end_item end marker ∷ below) []))

-- bytes that end a gap, and what comes after that
ends_gap : (text gap u rest : List ℕ) → text ≡ gap ++ rest → length u ≤ length gap → length (u ++ rest) ≤ length text
ends_gap text gap u rest e h = let size : length text ≡ length (gap ++ rest) = ap length e in omega (arith, size, h, length-append gap rest, length-append u rest)

items_apart_at : (rs : List Row) (x : Item) (more is : List Item) → is ≡ x ∷ more → rows_items rs [] ++ is ≡ rows_items rs (x ∷ []) ++ more
items_apart_at rs x more is e = ap (λ js. rows_items rs [] ++ js) e ∙ (sym (rows_before rs [] (x ∷ more)) ∙ rows_before rs (x ∷ []) more)

-- Rows of document k go, and the gap after them is replaced by another one; bytes that end it are kept.
pub record RowsGoOut (ss : List Segment) (c : Cut) (k : ℕ) (p : Part) : Type 0 where
  pub there : slice_get (document_parts c) k ≡ Rattle.std.proofs.Common.Some p
  pub start : List ℕ
  pub put : (x : Part) → cut_text (put_document k x c) ≡ start ++ part_text x (after_document k c)
  pub front : List Row
  pub first : Row
  pub others : List Row
  pub back : List Row
  pub gap : List ℕ
  pub rows_are : p.rows ≡ front ++ ((first ∷ others) ++ back)
  pub lead : List ℕ
  pub end' : List ℕ
  pub before_is : kept_front ss ≡ (start ++ rows_text front []) ++ lead
  pub following_is : kept_back ss ≡ end' ++ after_first back p.end (after_document k c)
  pub begins : length lead ≤ length (print_row first [])
  pub ends : length end' ≤ length (first_gap back p.end)
  pub puts : are_kept ss ≡ Rattle.std.proofs.Common.false
  pub old_is : old_text ss ≡ cut_text c
  pub new_is : new_text ss ≡ cut_text (put_document k (put_rows front [] back gap p) c)

module _ (ss : List Segment) (c : Cut) (k : ℕ) (p : Part) (e : RowsGoOut ss c k p) where
  abbrev marker : List ℕ
  marker = (h c k p e.there e.start e.put).marker

  abbrev below : List Item
  below = (h c k p e.there e.start e.put).below

  -- the item that begins with the gap, and that with the other gap
  abbrev old_next : Item
  old_next = first_item e.back p.end (h c k p e.there e.start e.put).marker

  abbrev new_next : Item
  new_next = first_item (with_first_gap e.gap e.back) (end_gap e.gap e.back p.end) (h c k p e.there e.start e.put).marker

  abbrev trail : List ℕ
  trail = e.end' ++ after_first_gap e.back (h c k p e.there e.start e.put).marker

  abbrev way : ItemsGiveWay ss c (put_document k (put_rows e.front [] e.back e.gap p) c)
  way =
      let more : List Item = later_items e.back p.end marker below in
      record {
        front = front_items c k p e.there e.start e.put e.front;
        gone = rows_items (e.first ∷ e.others) (old_next ∷ []);
        come = new_next ∷ [];
        back = more;
        old_are = (h c k p e.there e.start e.put).old
            ∙ (around c k p e.there e.start e.put e.front (e.first ∷ e.others) e.back p e.rows_are
            ∙ ap (λ is. front_items c k p e.there e.start e.put e.front ++ is) (items_apart_at (e.first ∷ e.others) old_next more _ (first_later e.back p.end marker below)));
        new_are = (h c k p e.there e.start e.put).put (put_rows e.front [] e.back e.gap p)
            ∙ (around c k p e.there e.start e.put e.front [] (with_first_gap e.gap e.back) (put_rows e.front [] e.back e.gap p) refl
            ∙ ap (λ is. front_items c k p e.there e.start e.put e.front ++ is)
            (first_later (with_first_gap e.gap e.back) (end_gap e.gap e.back p.end) marker below ∙ ap (λ is. new_next ∷ is) (later_same e.gap e.back p.end marker below)));
        lead = e.lead;
        trail = trail;
        before_is = e.before_is ∙ sym (front_text c k p e.there e.start e.put e.front e.lead);
        following_is = e.following_is
            ∙ (ap (λ t. e.end' ++ after_first e.back p.end t) (h c k p e.there e.start e.put).after
            ∙ (ap (λ t. e.end' ++ t) (later_text e.back p.end marker below) ∙ sym (append_assoc e.end' (after_first_gap e.back marker) (items_text more []))));
        puts = e.puts;
        old_is = e.old_is;
        new_is = e.new_is;
      }

  pub out_local : IsLocal ss c (put_document k (put_rows e.front [] e.back e.gap p) c)
  out_local =
      let one = come_inside ss c (put_document k (put_rows e.front [] e.back e.gap p) c) way in
      items_local ss c (put_document k (put_rows e.front [] e.back e.gap p) c) way e.begins (one_first new_next e.lead trail one)
      (rows_last (e.first ∷ e.others) old_next trail (ends_gap _ _ e.end' _ (gap_apart e.back p.end marker) e.ends)) (one_last new_next e.lead trail one)

  -- The item that begins with the gap holds all that is written.
  pub out_in_one : LiesInOne ss (put_document k (put_rows e.front [] e.back e.gap p) c)
  out_in_one = search (rules, front_items, e.there, e.put, way.new_are, first_within, e.lead, way.before_is, items_apart, front_le, way.following_is)
