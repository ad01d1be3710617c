-- A block collection whose last line has no break ends its text: the line gets a break, and rows come after it.
use Rattle.yq_edit_rules.{proofs.FirstReplaceLaws.rows_after, specs.CollectionPlaces.IsCollectionEnd, specs.DocumentRows.after_document}
use Rattle.yq_edit_rules.{specs.Ends.closed_with, specs.Rooms.is_block_root, proofs.AppendPlaceLaws.{EndAllows, last_limit}}
use Rattle.yq_edit_rules.proofs.EndedRowLaws.{row_there}
use Rattle.yq_places.{proofs.RunSpans.rows_then, specs.CollectionEnds.{CollectionEnd, is_broken}, specs.PrintedLines.end_break}
use Rattle.yq_places.proofs.ContentEndLaws.{Ends, content_ends}
use Rattle.std.proofs.Common.{◌≡◌, inl, inr, ℕ, true, false, List, [], ◌∷◌, ◌++◌, refl, sym, ap, ◌∙◌, subst, append_assoc, append-nil}
use Rattle.std.{proofs.Common.rules, proofs.lemmas.Bool.false≢true}
use Rattle.yq_core.{specs.Paths.Step, specs.Text.{is_empty, is_line}}
use Rattle.yq_outline.{specs.Comments.head_comment, specs.Lines.{lines_from, lines_of_rows}}
use Rattle.yq_row_table.{specs.Appending.closed_by, specs.Exchange.{asked_after, row_front}}
use Rattle.yq_row_table.specs.Grammar.{Limit, unlimited, limit_after, allows, AreRows}
use Rattle.yq_row_table.specs.Rows.{Content, content_text, Row, parent_indent, print_row, rows_text, Part, part_text, Cut}
use Rattle.yq_row_table.{specs.Seams.{is_block, tail_after, with_tail}, specs.Splices.first_gap, proofs.PlaceLaws.row_front-append}
use Rattle.yq_row_table.{proofs.seams.FrontSeams.rows_some, proofs.seams.SeamLaws.rows_text-append}
use Rattle.yq_documents.{specs.Documents.lead_of, specs.Ready.begins_no_node}

-- ---- nothing is after

none_both : (a b : List ℕ) → a ++ b ≡ [] → (a ≡ []) × (b ≡ [])
none_both [] b e = (refl, e)
none_both (x ∷ a) b e = absurd (cc)

none_following : (limit : Limit) (rs : List Row) (gap rest : List ℕ) → AreRows limit rs gap rest → rows_text rs (gap ++ rest) ≡ [] → (rs ≡ []) × (gap ≡ []) × (rest ≡ [])
none_following limit [] gap rest h e = let z = none_both gap rest e in (refl, z.0, z.1)
none_following limit (r ∷ rs) gap rest h e = absurd (false≢true (sym (rows_some limit (r ∷ rs) gap rest refl h) ∙ ap is_empty e))

ends_none : (break rest : List ℕ) → Ends false break rest → rest ≡ []
ends_none break rest (inl h) = absurd (false≢true h.0)
ends_none break rest (inr h) = h.2

-- The last row of a collection is the last one of its text, and has no break.
pub record EndsText (c : Cut) (k : ℕ) (p : Part) (x : CollectionEnd) (others : List Row) (last : Row) : Type 0 where
  pub rows_are : p.rows ≡ others ++ (last ∷ [])
  pub end_is : p.end ≡ []
  pub rest_is : after_document k c ≡ []
  pub inline : is_block last.content ≡ false
  pub bare : is_line (tail_after last.content) ≡ false
  pub allowed : allows (limit_after last) x.column ≡ true
  pub following_is : x.after ≡ []

pub ends_text : (c : Cut) (k : ℕ) (p : Part) (steps : List Step) (x : CollectionEnd) (e : IsCollectionEnd c k p steps x) → EndAllows c k p x e.front e.back → x.broken ≡ false → EndsText c k p x e.others e.last
ends_text c k p steps x e h broken =
    let rest : List ℕ = after_document k c in
    let front : e.front ++ e.back ≡ e.others ++ (e.last ∷ e.back) = ap (λ rs. rs ++ e.back) e.front_is ∙ append_assoc e.others (e.last ∷ []) e.back in
    let row = row_there unlimited e.others e.last e.back p.end rest (subst (λ rs. AreRows unlimited rs p.end rest) front h.rows) in
    let bare : is_broken e.last.content ≡ false = sym e.broken ∙ broken in
    let ends : Ends (is_broken e.last.content) (end_break e.last.content) (rows_text e.back (p.end ++ rest)) = content_ends (parent_indent e.last) e.last.content (rows_text e.back (p.end ++ rest)) row.1.content in
    let none : rows_text e.back (p.end ++ rest) ≡ [] = ends_none (end_break e.last.content) (rows_text e.back (p.end ++ rest)) (subst (λ b. Ends b (end_break e.last.content) (rows_text e.back (p.end ++ rest))) bare ends) in
    let parts = none_following (asked_after unlimited e.front) e.back p.end rest (rows_after unlimited e.front e.back p.end rest h.rows) none in
    search (rules, false≢true, append-nil, last_limit, e.front_is)

-- ---- the text

closed_content : (c : Content) (break t : List ℕ) → is_block c ≡ false → content_text (with_tail (tail_after c ++ break) c) t ≡ content_text c (break ++ t)
closed_content c break t h1 = search (rules, append_assoc, false≢true)

pub closed_row : (r : Row) (break t : List ℕ) → is_block r.content ≡ false → print_row (closed_by break r) t ≡ print_row r (break ++ t)
closed_row r break t e = row_front-append (closed_by break r) t ∙ (ap (λ y. row_front r ++ y) (closed_content r.content break t e) ∙ sym (row_front-append r (break ++ t)))

pub closed_text : (p : Part) (others new : List Row) (last : Row) (break rest text : List ℕ) → is_block last.content ≡ false → rest ≡ [] → rows_text new [] ≡ text →
    part_text (closed_with others last break new p) rest ≡ rows_text (others ++ (last ∷ [])) [] ++ (break ++ text)
closed_text p others new last break rest text inline none is =
    rows_text-append others (closed_by break last ∷ (new ++ [])) ([] ++ rest)
    ∙ (ap (λ y. rows_text others (print_row (closed_by break last) y)) ((λ i. rows_text (append-nil new i) (none i)) ∙ is)
    ∙ (ap (rows_text others) (closed_row last break text inline)
    ∙ (sym (rows_text-append others (last ∷ []) (break ++ text)) ∙ rows_then (others ++ (last ∷ [])) (break ++ text))))

-- ---- the first row stays

row_begins : (r : Row) (x y : Content) (a b : List Row) → begins_no_node (lines_of_rows (record r { content = x } ∷ a)) ≡ begins_no_node (lines_of_rows (record r { content = y } ∷ b))
row_begins r x y a b = go r.dashes
  where
    go : (ns : List ℕ) → begins_no_node (lines_from (head_comment r.gap) r.column ns r.mark x ++ lines_of_rows a) ≡ begins_no_node (lines_from (head_comment r.gap) r.column ns r.mark y ++ lines_of_rows b)
    go [] = refl
    go (n ∷ ns) = refl

pub begins_same : (others : List Row) (r : Row) (x y : Content) (a b : List Row) →
    begins_no_node (lines_of_rows (others ++ (record r { content = x } ∷ a))) ≡ begins_no_node (lines_of_rows (others ++ (record r { content = y } ∷ b)))
begins_same [] r x y a b = row_begins r x y a b
begins_same (q ∷ others) r x y a b = row_begins q q.content q.content (others ++ (record r { content = x } ∷ a)) (others ++ (record r { content = y } ∷ b))

pub closed_root : (p : Part) (others new : List Row) (last : Row) (break : List ℕ) → p.rows ≡ others ++ (last ∷ []) → is_block_root (closed_with others last break new p) ≡ is_block_root p
closed_root p others new last break e = search (rules, begins_same)

pub gap_same : (others : List Row) (r s : Row) (a b : List Row) (f g : List ℕ) → r.gap ≡ s.gap → first_gap (others ++ (r ∷ a)) f ≡ first_gap (others ++ (s ∷ b)) g
gap_same [] r s a b f g e = e
gap_same (q ∷ others) r s a b f g e = refl

pub closed_lead : (p : Part) (others new : List Row) (last : Row) (break : List ℕ) → p.rows ≡ others ++ (last ∷ []) → lead_of (closed_with others last break new p) ≡ lead_of p
closed_lead p others new last break e = search (rules, gap_same)
