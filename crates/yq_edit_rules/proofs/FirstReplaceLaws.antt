-- Rows that take the place of a compact collection's first item or entry.
use Rattle.std.proofs.Common.{rules, ◌≡◌, ℕ, ◌<◌, true, false, List, [], ◌∷◌, ◌++◌, length, Some, refl, sym, ap, ◌∙◌, subst, arith}
use Rattle.std.proofs.Common.{append_assoc}
use Rattle.yq_core.{specs.Text.separates, specs.Alike.{Alike, byte}}
use Rattle.yq_row_table.specs.Exchange.{asked_after}
use Rattle.yq_row_table.specs.Grammar.{IsContent, IsTail, AreDashes, is_entry, IsRow, Limit, unlimited, limit_after, AreRows}
use Rattle.yq_row_table.specs.Joined.{dashed_row}
use Rattle.yq_row_table.specs.Rows.{Nothing, Row, after_columns, after_dashes, after_indent, dashes_text, parent_indent, parent_of}
use Rattle.yq_row_table.{specs.Rows.{rows_text, Part}, specs.Seams.TakesPlace, specs.Splices.{after_first, first_gap}}
use Rattle.yq_row_table.proofs.RowPlaces.{takes_place}
use Rattle.yq_row_table.proofs.seams.JoinLaws.{row_dashed, space_apart, dashes_text-append, after_columns-append}
use Rattle.yq_row_table.{proofs.splices.SpliceTexts.{first_is, first_text}, proofs.PlaceLaws.first_allowed}
use Rattle.yq_edit_rules.{specs.Moved.{emptied_row, moved_up}, specs.Replaces.RowsReplace}
use Rattle.yq_places.proofs.HeadSpanLaws.{free_first}
use Rattle.yq_row_table.specs.Rows as rows

-- ---- rows among others

-- rows after others
pub rows_after : (limit : Limit) (a b : List Row) (end rest : List ℕ) → AreRows limit (a ++ b) end rest → AreRows (asked_after limit a) b end rest
rows_after limit [] b end rest h = h
rows_after limit (r ∷ a) b end rest h = rows_after (limit_after r) a b end rest h.1

-- ---- a row after the first dashes of another

-- dashes before another mark
dashes_moved : (ns es ms : List ℕ) (old new : rows.RowMark) → is_entry new ≡ true → AreDashes (ns ++ es) old → AreDashes ms new → AreDashes (ns ++ ms) new
dashes_moved [] es ms old new e h k = k
dashes_moved (n ∷ ns) es ms old new e h k = (h.0, e, dashes_moved ns es ms old new e h.2 k)

dashes_alike : (ns es t u : List ℕ) (mark : rows.RowMark) → 0 < length ns → AreDashes (ns ++ es) mark → Alike (Some false) (dashes_text ns t) (dashes_text ns u)
dashes_alike [] es t u mark some h = absurd (omega (arith, some))
dashes_alike (n ∷ ns) es t u mark some h = byte refl refl (space_apart n (dashes_text ns t) h.0) (space_apart n (dashes_text ns u) h.0)

-- the rows of which one moves up
pub record MovedFits (r b : Row) (ns es : List ℕ) : Type 0 where
  pub dashes : r.dashes ≡ ns ++ es
  pub some : 0 < length ns
  pub column : b.column ≡ after_columns r.column ns
  pub entry : AreDashes b.dashes b.mark → is_entry b.mark ≡ true

same_parent : (r b : Row) (ns : List ℕ) → b.column ≡ after_columns r.column ns → parent_indent (moved_up r ns b) ≡ parent_indent b
same_parent r b ns e = ap (parent_of b.mark) (after_columns-append r.column ns b.dashes ∙ ap (λ n. after_columns n b.dashes) (sym e))

moved_takes : (limit other : Limit) (r b : Row) (ns es t u : List ℕ) → IsRow limit r t → IsRow other b u → MovedFits r b ns es → TakesPlace limit r t (moved_up r ns b) u
moved_takes limit other r b ns es t u h k f =
    let own : AreDashes (ns ++ es) r.mark = subst (λ (x : List ℕ). AreDashes x r.mark) f.dashes h.dashes in
    let old : after_indent r t ≡ dashes_text ns (dashes_text es (after_dashes r t)) = ap (λ (x : List ℕ). dashes_text x (after_dashes r t)) f.dashes ∙ dashes_text-append ns es (after_dashes r t) in
    let new : dashes_text (ns ++ b.dashes) (after_dashes b u) ≡ dashes_text ns (after_indent b u) = dashes_text-append ns b.dashes (after_dashes b u) in
    let indent : Alike (Some false) (after_indent r t) (dashes_text (ns ++ b.dashes) (after_dashes b u)) = search (rules, dashes_alike) in
    let content : IsContent (parent_of b.mark (after_columns r.column (ns ++ b.dashes))) b.content u = subst (λ (n : _). IsContent n b.content u) (sym (same_parent r b ns f.column)) k.content in
    takes_place limit r t (ns ++ b.dashes) b.mark b.content u h indent (dashes_moved ns es b.dashes r.mark b.mark (f.entry k.dashes) own k.dashes) k.mark content

-- rows that are replaced by one
pub moved_replaces : (p : Part) (front gone back : List Row) (r b : Row) (ns es rest : List ℕ) → AreRows unlimited p.rows p.end rest → p.rows ≡ front ++ (r ∷ (gone ++ (b ∷ back))) →
    MovedFits r b ns es →
    RowsReplace front (r ∷ (gone ++ (b ∷ []))) (moved_up r ns b ∷ []) back (first_gap back p.end) p rest
moved_replaces p front gone back r b ns es rest h rows f =
    let limit : Limit = asked_after unlimited front in
    let new : Row = moved_up r ns b in
    let split : (r ∷ (gone ++ (b ∷ []))) ++ back ≡ r ∷ (gone ++ (b ∷ back)) = ap (λ (rs : List Row). r ∷ rs) (append_assoc gone (b ∷ []) back) in
    let own : AreRows limit (r ∷ (gone ++ (b ∷ back))) p.end rest =
    rows_after unlimited front (r ∷ (gone ++ (b ∷ back))) p.end rest (subst (λ (rs : List Row). AreRows unlimited rs p.end rest) rows h) in
    let next : AreRows (asked_after (limit_after r) gone) (b ∷ back) p.end rest = rows_after (limit_after r) gone (b ∷ back) p.end rest own.1 in
    let t : List ℕ = rows_text (gone ++ (b ∷ back)) (p.end ++ rest) in
    let u : List ℕ = rows_text back (p.end ++ rest) in
    let takes : TakesPlace limit r t new u = moved_takes limit (asked_after (limit_after r) gone) r b ns es t u own.0 next.0 f in
    let text : u ≡ first_gap back p.end ++ after_first back p.end rest = first_text back p.end rest in
    search (rules, first_is, same_parent, first_allowed)

-- ---- a row with nothing after its last dash

-- A break, and nothing else, may come after the dash of a row.
pub record DroppedFits (r : Row) (n : ℕ) (ns es tail : List ℕ) : Type 0 where
  pub dashes : r.dashes ≡ ns ++ (n ∷ es)
  pub ends : (rest : List ℕ) → IsTail tail rest
  pub apart : (rest : List ℕ) → separates (tail ++ rest) ≡ true

pub dropped_replaces : (p : Part) (front gone back : List Row) (r : Row) (n : ℕ) (ns es tail rest : List ℕ) → AreRows unlimited p.rows p.end rest → p.rows ≡ front ++ (r ∷ (gone ++ back)) →
    DroppedFits r n ns es tail →
    RowsReplace front (r ∷ gone) (emptied_row r ns tail ∷ []) back (first_gap back p.end) p rest
dropped_replaces p front gone back r n ns es tail rest h rows f =
    let limit : Limit = asked_after unlimited front in
    let own : AreRows limit (r ∷ (gone ++ back)) p.end rest = rows_after unlimited front (r ∷ (gone ++ back)) p.end rest (subst (λ (rs : List Row). AreRows unlimited rs p.end rest) rows h) in
    let further : AreRows (asked_after (limit_after r) gone) back p.end rest = rows_after (limit_after r) gone back p.end rest own.1 in
    let t : List ℕ = rows_text (gone ++ back) (p.end ++ rest) in
    let u : List ℕ = first_gap back p.end ++ after_first back p.end rest in
    let takes : TakesPlace limit r t (dashed_row ns (Nothing tail) r) u =
    row_dashed limit r ns n es (Nothing tail) t u own.0 (record { dash = f.dashes; content = f.ends u; apart = f.apart u }) in
    search (rules, first_is, free_first)
