-- What is read of a region, and the places that come of it.
use Rattle.std.proofs.Common.{◌≡◌, ℕ, ◌+◌, ◌-◌, ◌≤◌, Bool, true, false, not, List, [], ◌∷◌, ◌++◌, length, take, drop_at, get_or, slice_set}
use Rattle.std.proofs.Common.{Option, Some, None, IfSome, if◌then◌else◌, ⊎_elim, take_all, refl, sym, ap, ◌∙◌, subst, arith, append-nil}
use Rattle.std.{proofs.Common.{append_assoc, length-append, length-take, rules}, proofs.lemmas.Bool.{cases_Bool, cond-false}}
use Rattle.std.{proofs.lemmas.Option.same_Some, proofs.lemmas.List.{drop_all, drop_more, set_split, take_at}}
use Rattle.std.{proofs.lemmas.Str.IsCharBoundary-at_seam, specs.Str.IsCharBoundary}
use Rattle.yq_core.{specs.Answers.{ReadFails, ReadError}, specs.declared.fault.ReadFault.ReadFault, specs.Text.front}
use Rattle.yq_row_table.{specs.Ends.end_at, specs.Items.{Item, end_item, items_of_cut, items_text, rows_items, view_of_items}}
use Rattle.yq_row_table.{specs.Kept.{IsPlaced, near, ends_near, TextsIn}, specs.Meter.begins_line}
use Rattle.yq_row_table.{specs.Regions.{IsReadAlone, region_items, ended, no_items}, specs.Rows.{Row, Cut, last, marked, print_row}}
use Rattle.yq_row_table.{specs.View.RowsView, specs.declared.ends.EndPlace.EndPlace, specs.declared.places.Places.Places}
use Rattle.yq_row_table.proofs.KeptLaws.{texts_joined}
use Rattle.yq_rows.specs.Following.{without_line}
use Rattle.yq_rows.specs.Reading.{ArePlacesRead, IsRead, IsUnread, marked_as, read_part, settled_ends, unread_end, without_marker}
use Rattle.yq_rows.{specs.Sides.text_length, specs.declared.session_reading.NewRows.NewRows, specs.declared.touched.Touched.Touched}
use Rattle.yq_rows.{proofs.CountLaws.ends_joined, proofs.ExchangeLaws.{alone_are, texts_first, texts_second}}
use Rattle.yq_rows.{proofs.ItemPlaces.{places_are, text_split}, proofs.SideLaws.{ends_end, rows_end}}
use Rattle.yq_failure.specs.declared.failure.Failure.TheVariants as reading

-- The items that are read of a region, before others, and how the ends of parts that come of it are those of all its items.
pub record Parted (text : List ℕ) (written : List Item) (u : Option EndPlace) (more : Bool) : Type 0 where
  pub items : List Item
  pub back : List Item
  pub text_is : text ≡ items_text items []
  pub read : IsReadAlone items back
  pub rows : near 0 (region_items items back) ≡ near 0 written
  pub some : 1 ≤ length (ends_near 0 0 (region_items items back))
  pub ends : settled_ends (ends_near 0 0 (region_items items back)) u more ≡ ends_near 0 0 written
  pub texts : TextsIn (region_items items back) → TextsIn written

-- one end after others
last_more : (es : List EndPlace) (e : EndPlace) → length (es ++ e ∷ []) - 1 ≡ length es
last_more es e = omega (arith, length-append es (e ∷ []))

settled_more : (es : List EndPlace) (e : EndPlace) → settled_ends (es ++ e ∷ []) None true ≡ es
settled_more es e = take_at es (e ∷ []) (length (es ++ e ∷ []) - 1) (sym (last_more es e))

settled_marked : (es : List EndPlace) (x e : EndPlace) (more : Bool) → settled_ends (es ++ x ∷ []) (Some e) more ≡ es ++ marked_as e x ∷ []
settled_marked es x e more = simp (last_more, take_at, drop_at)

some_more : (es : List EndPlace) (e : EndPlace) → 1 ≤ length (es ++ e ∷ [])
some_more es e = omega (arith, length-append es (e ∷ []))

-- the last end, marked
pub settled_set : (es : List EndPlace) (e x : EndPlace) (n : ℕ) (more : Bool) → n ≡ length es - 1 → 1 ≤ length es → x ≡ get_or es n x → slice_set es n (marked_as e x) ≡ settled_ends es (Some e) more
settled_set es e x n more is some own = search (rules, drop_all, drop_more, set_split)

marked_text : (xs : List Item) (e : EndPlace) (h : IsUnread xs e) → items_text xs [] ≡ (items_text h.front [] ++ h.gap) ++ h.marker
marked_text xs e h = search (rules, text_split, append-nil, append_assoc)

-- a part's end with its marker
marked_parted : (region : List ℕ) (written : List Item) (e : EndPlace) (more : Bool) → region ≡ items_text written [] → IsUnread written e → Parted (take (length region - e.marker) region) written (Some e) more
marked_parted region written e more text h =
    let f = h.front in
    let k = length (near 0 f) in
    let body : items_text (ended f h.gap []) [] ≡ items_text f [] ++ h.gap = text_split f (end_item h.gap [] ∷ []) ∙ ap (λ l. items_text f [] ++ l) (append-nil h.gap) in
    let all : region ≡ (items_text f [] ++ h.gap) ++ h.marker = text ∙ marked_text written e h in
    let size : length (items_text f [] ++ h.gap) ≡ length region - e.marker = omega (arith, ap length all, length-append (items_text f [] ++ h.gap) h.marker, h.long) in
    let own : ends_near 0 0 (ended f h.gap []) ≡ ends_near 0 0 f ++ end_at (text_length f) k h.gap [] ∷ [] = ends_end f h.gap [] in
    let last : marked_as e (end_at (text_length f) k h.gap []) ≡ end_at (text_length f) k h.gap h.marker = ap (λ (n : ℕ). record (end_at (text_length f) k h.gap []) { marker = n }) h.long in
    record {
      items = ended f h.gap [];
      back = [];
      text_is = ap (take (length region - e.marker)) all ∙ (take_at (items_text f [] ++ h.gap) h.marker (length region - e.marker) size ∙ sym body);
      read = h.read;
      rows = rows_end f h.gap [] ∙ (sym (rows_end f h.gap h.marker) ∙ ap (near 0) (sym h.items));
      some = subst (λ l. 1 ≤ length l) (sym own) (some_more (ends_near 0 0 f) (end_at (text_length f) k h.gap []));
      ends = ap (λ l. settled_ends l (Some e) more) own
          ∙ (settled_marked (ends_near 0 0 f) (end_at (text_length f) k h.gap []) e more
          ∙ (ap (λ (x : EndPlace). ends_near 0 0 f ++ x ∷ []) last ∙ (sym (ends_end f h.gap h.marker) ∙ ap (ends_near 0 0) (sym h.items))));
      texts = λ t. subst TextsIn (sym h.items) (texts_joined f (end_item h.gap h.marker ∷ []) (texts_first f (end_item h.gap [] ∷ []) t) ((texts_second f (end_item h.gap [] ∷ []) t).0, h.text, tt));
    }

-- a cut has an end
rows_ends : (rs : List Row) (n k : ℕ) (xs : List Item) → ((m j : ℕ) → 1 ≤ length (ends_near m j xs)) → 1 ≤ length (ends_near n k (rows_items rs xs))
rows_ends [] n k xs h = h n k
rows_ends (r ∷ rs) n k xs h = rows_ends rs (n + length (print_row r [])) (k + 1) xs h

cut_ends : (c : Cut) → 1 ≤ length (ends_near 0 0 (items_of_cut c))
cut_ends (last p) = rows_ends p.rows 0 0 (end_item p.end [] ∷ []) (λ m j. omega arith)
cut_ends (marked p marker c) = rows_ends p.rows 0 0 (end_item p.end marker ∷ items_of_cut c) (λ m j. omega arith)

-- the others
whole_parted : (region : List ℕ) (w z : List Item) (more : Bool) → region ≡ items_text w [] → IsReadAlone w z → more ≡ not (no_items z) → Parted region w None more
whole_parted region w [] more text read is =
    record { items = w; back = []; text_is = text; read = read; rows = refl; some = subst (λ (l : List Item). 1 ≤ length (ends_near 0 0 l)) read.items (cut_ends read.cut); ends = ap (settled_ends (ends_near 0 0 w) None) is; texts = λ t. t }
whole_parted region w (i ∷ z) more text read is =
    let a = alone_are w (i ∷ z) in
    let e = end_at (0 + text_length w) (0 + length (near 0 w)) [] [] in
    let own : ends_near 0 0 (ended w [] []) ≡ ends_near 0 0 w ++ e ∷ [] = ends_joined 0 0 w (end_item [] [] ∷ []) in
    record {
      items = w;
      back = i ∷ z;
      text_is = text;
      read = read;
      rows = a.rows;
      some = subst (λ l. 1 ≤ length l) (sym own) (some_more (ends_near 0 0 w) e);
      ends = ap (settled_ends (ends_near 0 0 (ended w [] [])) None) is ∙ (ap (λ l. settled_ends l None true) own ∙ settled_more (ends_near 0 0 w) e);
      texts = a.texts;
    }

whole_or_marked : (region : List ℕ) (x : Touched) (h : IsRead region x) (u : Option EndPlace) → u ≡ unread_end region x.marked → Parted (without_marker region u) h.written u x.more
whole_or_marked region x h (Some e) is = marked_parted region h.written e x.more h.text (h.unread e (sym is))
whole_or_marked region x h None is = whole_parted region h.written h.after x.more h.text h.read h.more

pub parted : (region text : List ℕ) (x : Touched) (h : IsRead region x) (u : Option EndPlace) → text ≡ without_marker region u → u ≡ unread_end region x.marked → Parted text h.written u x.more
parted region text x h u part is = subst (λ (t : List ℕ). Parted t h.written u x.more) (sym part) (whole_or_marked region x h u is)

part_short : (region : List ℕ) (u : Option EndPlace) → length (without_marker region u) ≤ length region
part_short region None = omega arith
part_short region (Some e) = omega (arith, length-take (length region - e.marker) region)

-- the places that come of it
pub comes : (region text : List ℕ) (x : Touched) (u : Option EndPlace) (p : Places) (s : RowsView) (ends : List EndPlace) (come : NewRows)
    (h : IsRead region x) → (k : Parted text h.written u x.more) → IsPlaced p s → s ≡ view_of_items (region_items k.items k.back) →
    ends ≡ settled_ends p.ends u x.more → come.places.front.items ≡ p.front.items → come.places.after.items ≡ p.after.items →
    come.places.ends ≡ ends → come.read ≡ length text → come.len ≡ length region → text ≡ without_marker region u → ArePlacesRead h.written come
comes region text x u p s ends come h k placed shows ends_are front after own read long part =
    let at = places_are p s (region_items k.items k.back) placed shows in
    search (rules, part_short, alone_are, at)

-- how many ends were read
pub ends_read : (region text : List ℕ) (x : Touched) (u : Option EndPlace) (p : Places) (s : RowsView) (h : IsRead region x) →
    (k : Parted text h.written u x.more) → IsPlaced p s → s ≡ view_of_items (region_items k.items k.back) → 1 ≤ length p.ends
ends_read region text x u p s h k placed shows = subst (λ (l : List EndPlace). 1 ≤ length l) (sym (places_are p s (region_items k.items k.back) placed shows).ends_are) k.some

-- where the line of a marker begins that isn't read
pub part_edge : (region : List ℕ) (x : Touched) (h : IsRead region x) (u : Option EndPlace) → u ≡ unread_end region x.marked → IfSome u (λ e. IsCharBoundary region (length region - e.marker))
part_edge region x h None is = tt
part_edge region x h (Some e) is =
    let k = h.unread e (sym is) in
    let a = items_text k.front [] ++ k.gap in
    let all : region ≡ a ++ k.marker = h.text ∙ marked_text h.written e k in
    subst (IsCharBoundary region) (let n : length a ≡ length region - e.marker = omega (arith, ap length all, length-append a k.marker, k.long) in n) (IsCharBoundary-at_seam region a k.marker all k.text)

-- what is read alone has no fault
pub no_fault : {Y : Type 0} (e : ReadError) (f : ReadFault) (y : Y) → e ≡ reading.Fault f → ReadFails e (Some y) → ⊥
no_fault {Y} e f y is h = let none : Some y ≡ None = subst (λ (x : ReadError). ReadFails x (Some y)) is h in absurd cc

-- what a text is read without
pub without : (w : List ℕ) (e : EndPlace) → without_line e.marker w ≡ read_part w (Some e)
without w e = ⊎_elim {0, 0, 0} (λ (t : begins_line w (length w - e.marker) ≡ true). rw t refl) (λ (t : begins_line w (length w - e.marker) ≡ false). rw t refl) (cases_Bool (begins_line w (length w - e.marker)))

pub without_none : (w : List ℕ) → without_line 0 w ≡ w
without_none w = search (rules, take_all, ⊎_elim, cases_Bool)

pub unread_is : (w : List ℕ) (e d : EndPlace) → unread_end w (Some e) ≡ Some d → (e ≡ d) × (begins_line w (length w - e.marker) ≡ true)
unread_is w e d is = go (begins_line w (length w - e.marker)) refl is
  where
    go : (b : Bool) → begins_line w (length w - e.marker) ≡ b → (if b then Some e else None) ≡ Some d → (e ≡ d) × (begins_line w (length w - e.marker) ≡ true)
    go true t at = (same_Some _ _ at, t)
    go false t at = absurd cc

-- the line of a marker that needn't be read, where one begins with it, and where none does
module _ (t : List ℕ) (marked : Option EndPlace) (e : EndPlace) (at m : ℕ) (is : marked ≡ Some e) (at_is : at ≡ length t - m) (m_is : m ≡ e.marker) where
  same_line : begins_line t (length t - e.marker) ≡ begins_line t at
  same_line = ap (begins_line t) (sym (at_is ∙ ap (λ (n : ℕ). length t - n) m_is))

  pub read_there : begins_line t at ≡ false → None ≡ unread_end t marked
  read_there h = sym (ap (unread_end t) is ∙ cond-false (begins_line t (length t - e.marker)) (Some e) None (same_line ∙ h))
