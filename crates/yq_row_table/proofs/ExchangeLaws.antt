-- What comes after the mark of a row, exchanged for something else.
use Rattle.std.proofs.Common.{rules, ◌≡◌, ℕ, zero, suc, ◌-◌, ◌<◌, ◌≤◌, Bool, true, false, List, [], ◌∷◌, ◌++◌, length, Some, None, refl}
use Rattle.std.{proofs.Common.{arith, append_assoc}, proofs.lemmas.Bool.false≢true, specs.List.slice_get}
use Rattle.yq_core.{specs.Text.separates, specs.Alike.{Alike, byte}, proofs.Alikes.alike_append, proofs.AlikePieces.scalar_alike}
use Rattle.yq_row_table.specs.Exchange.{with_content, allows_first, asked_after}
use Rattle.yq_row_table.specs.Grammar.{IsContent, IsMark, is_entry, IsRow, Limit, limit_after, AreRows, begins_document, AreParts}
use Rattle.yq_row_table.specs.Rows.{RowMark, Bare, Dash, Key, Content, mark_text, content_text, Row, parent_indent, rows_text, Part, Cut}
use Rattle.yq_row_table.{specs.Rows.{marked, cut_text}, specs.Seams.TakesPlace, proofs.RowPlaces.takes_place}
use Rattle.yq_row_table.proofs.AlikeRows.{dashes_text_alike, row_text_alike, row_alike, part_alike, part_text_alike, marker_line_alike}

-- a mark before one content and before another one
pub colon_seam : (p white t u : List ℕ) → p ≡ white ++ 58 ∷ [] → separates t ≡ true → separates u ≡ true → Alike (Some false) (p ++ t) (p ++ u)
colon_seam p white t u is x y =
    let group : (z : List ℕ) → p ++ z ≡ white ++ (58 ∷ z) = λ z. rw is (append_assoc white (58 ∷ []) z) in
    rw (group t, group u) (alike_append (Some false) white (58 ∷ t) (58 ∷ u) (byte refl refl x y))

pub mark_seam : (mark : RowMark) (c : Content) (rest new : List ℕ) → is_entry mark ≡ true → IsMark mark c rest → separates new ≡ true → Alike (Some false) (mark_text mark (content_text c rest)) (mark_text mark new)
mark_seam Bare c rest new e m s = absurd (false≢true e)
mark_seam Dash c rest new e m s = byte refl refl m s
mark_seam (Key key sign) c rest new e m s = alike_append (Some false) key _ _ (colon_seam sign m.colon_is.white (content_text c rest) new m.colon_is.spelled m.colon_is.separated s)

pub mark_kept : (mark : RowMark) (c new : Content) (rest other : List ℕ) → is_entry mark ≡ true → IsMark mark c rest → separates (content_text new other) ≡ true → IsMark mark new other
mark_kept Bare c new rest other e m s = absurd (false≢true e)
mark_kept Dash c new rest other e m s = s
mark_kept (Key key sign) c new rest other e m s =
    let seam = colon_seam sign m.colon_is.white (content_text c rest) (content_text new other) m.colon_is.spelled m.colon_is.separated s in
    record {
      scalar = scalar_alike false None key (sign ++ content_text c rest) (sign ++ content_text new other) seam m.scalar;
      colon_is = record { white = m.colon_is.white; spelled = m.colon_is.spelled; blank = m.colon_is.blank; separated = s };
      near = m.near;
    }

-- a row with another content, after a dash or a key
pub one_row : (limit : Limit) (r : Row) (new : Content) (rest other : List ℕ) → IsRow limit r rest → is_entry r.mark ≡ true →
    IsContent (parent_indent r) new other → separates (content_text new other) ≡ true → TakesPlace limit r rest (with_content new r) other
one_row limit r new rest other h entry c s = search (rules, takes_place, dashes_text_alike, mark_seam, mark_kept)

-- another limit before rows
pub relimit : (limit other : Limit) (rs : List Row) (end rest : List ℕ) → allows_first other rs ≡ true → AreRows limit rs end rest → AreRows other rs end rest
relimit limit other rs end rest a h = search rules

-- rows before other rows: what neighbours ask of each other is the limit after and how the text in front begins
pub chain : (front rows new : List Row) (limit : Limit) (end rest other_end other : List ℕ) → AreRows limit (front ++ rows) end rest →
    AreRows (asked_after limit front) new other_end other → Alike (Some false) (rows_text rows (end ++ rest)) (rows_text new (other_end ++ other)) →
    AreRows limit (front ++ new) other_end other
    × Alike (Some false) (rows_text (front ++ rows) (end ++ rest)) (rows_text (front ++ new) (other_end ++ other))
chain [] rows new limit end rest other_end other h n a = (n, a)
chain (r ∷ front) rows new limit end rest other_end other h n a =
    search (rules, row_alike, row_text_alike, chain front rows new (limit_after r) end rest other_end other h.1 n a)

-- row i, counted through all parts
pub slice_front : (a b : List Row) (i : ℕ) (r : Row) → i < length a → slice_get (a ++ b) i ≡ Some r → slice_get a i ≡ Some r
slice_front [] b i r less h = absurd (omega arith)
slice_front (x ∷ a) b zero r less h = h
slice_front (x ∷ a) b (suc i) r less h = slice_front a b i r (omega arith) h

pub slice_back : (a b : List Row) (i : ℕ) (r : Row) → length a ≤ i → slice_get (a ++ b) i ≡ Some r → slice_get b (i - length a) ≡ Some r
slice_back [] b i r more h = let e : i - 0 ≡ i = omega arith in rw e h
slice_back (x ∷ a) b zero r more h = absurd (omega arith)
slice_back (x ∷ a) b (suc i) r more h = let e : suc i - suc (length a) ≡ i - length a = omega arith in rw e (slice_back a b i r (omega arith) h)

abbrev pub CutExchanged : Bool → Cut → Cut → Type 0
CutExchanged started c d = AreParts started d × Alike (Some false) (cut_text c) (cut_text d)

pub marked_after : (started : Bool) (p : Part) (marker : List ℕ) (c d : Cut) → AreParts started (marked p marker c) → CutExchanged (begins_document marker) c d → CutExchanged started (marked p marker c) (marked p marker d)
marked_after started p marker c d h more = search (rules, alike_append, part_alike, marker_line_alike, part_text_alike)
