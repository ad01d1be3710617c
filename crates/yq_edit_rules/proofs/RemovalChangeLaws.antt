-- An item or entry taken out of a text.
use Rattle.std.proofs.lemmas.Grind.{common_steps}
use Rattle.std.proofs.Common.{◌≡◌, ℕ, ◌-◌, ◌<◌, ◌≤◌, true, List, [], ◌∷◌, ◌++◌, length, take, Some, option_and_then, refl, sym, ap, ◌∙◌}
use Rattle.std.{proofs.Common.{subst, arith, length-append, rules}, proofs.Math.Seq.take-append_seam}
use Rattle.std.{proofs.lemmas.Bool.{false≢true, ltb-true}, proofs.lemmas.Option.{none-some, same_Some}}
use Rattle.std.proofs.lemmas.Str.{is_utf8-from_IsUtf8}
use Rattle.yq_text.specs.Limit.{text_limit}
use Rattle.yq_core.{specs.Paths.{Step, node_at, remove_child}, specs.Tree.{Node, Children, children_of}}
use Rattle.yq_core.{proofs.Bools.{bind_some, guard_then}, specs.Anchors.names_of}
use Rattle.yq_outline.{specs.Counts.count, specs.Group.{group, level_or}, specs.Laws.with_lines}
use Rattle.yq_outline.specs.Outline.{Line, level, Outline, end, row, flatten, IsEven, children, value}
use Rattle.yq_outline.specs.Places.{plug, FoundLine, find_row, content_under}
use Rattle.yq_outline.{proofs.Finding.{children-collection, path_node, path_whole, row_child}, proofs.PlaceLaws.at}
use Rattle.yq_outline.{proofs.ChildLaws.anchored_children, specs.Lines.lines_of_rows}
use Rattle.yq_row_table.{specs.Grammar.no_rows, specs.Rows.{Row, rows_text, Part, part_text, Cut, cut_text}}
use Rattle.yq_row_table.specs.Splices.{first_gap, after_first}
use Rattle.yq_documents.{specs.Documents.lead_of, specs.Reading.{part_outline, read_at, root_of}, specs.Ready.begins_no_node}
use Rattle.yq_documents.proofs.ReadLaws.{text_takes}
use Rattle.yq_places.specs.PlacedRows.{PlacedPart, placed_document}
use Rattle.yq_places.specs.RemovalPlaces.{OwnRows, own_rows, kept_gap, Removal, rows_out, removal_place, has_several}
use Rattle.yq_places.{specs.RowPaths.IsReadable, proofs.PlacedPartLaws.map_some, proofs.RemovalTexts.old_text}
use Rattle.yq_edit_rules.{specs.Changed.{IsChanged, KeepsRows, put_document}, specs.Conditions.AreSpared}
use Rattle.yq_edit_rules.specs.DocumentRows.{IsDocumentPart, after_document}
use Rattle.yq_edit_rules.{specs.RemovalChanges.{mended, HasOwnRows, RemovalIsThere, IsTakenOut, MayTakeOut}, specs.Removes.without}
use Rattle.yq_edit_rules.{specs.Siblings.{IsEntry, HasEntries, IsEntryAt, NodeLines, lines_at, put_lines}, specs.TextPieces.IsPiece}
use Rattle.yq_edit_rules.{proofs.AfterLaws.end_is_change, proofs.CollectionLaws.some_at}
use Rattle.yq_edit_rules.{proofs.NodeLineLaws.{Under, lines_found, lines_even, put_under}, proofs.OwnRowLaws.own_rows_are_there}
use Rattle.yq_edit_rules.{proofs.PartLaws.document_known, proofs.PlacedPartLaws.document_is_there_at}
use Rattle.yq_edit_rules.{proofs.RemovalPieceLaws.{pieces_left, mended_piece}, proofs.RemovalTextLaws.new_text}
use Rattle.yq_edit_rules.{proofs.RemoveLaws.block_gone, proofs.SiblingLaws.{entry_in, entry_out, flatten-append, next}}
use Rattle.yq_edit_rules.{proofs.TextPieceLaws.{pieces_joined, text_is_piece}, proofs.ReplaceLaws.found_entries}

-- ---- the last step of a path

pub snoc : (s : Step) (ss : List Step) → (init : List Step) × (last : Step) × (s ∷ ss ≡ init ++ (last ∷ []))
snoc s [] = ([], s, refl)
snoc s (t ∷ ts) = let x = snoc t ts in (s ∷ x.0, x.1, ap (λ (y : List Step). s ∷ y) x.2)

pub take_init : (ss : List Step) (s : Step) → take (length (ss ++ (s ∷ [])) - 1) (ss ++ (s ∷ [])) ≡ ss
take_init ss s =
    let size : length (ss ++ (s ∷ [])) - 1 ≡ length ss = omega (arith, length-append ss (s ∷ [])) in
    ap (λ (n : ℕ). take n (ss ++ (s ∷ []))) size ∙ take-append_seam ss (s ∷ [])

node_after : (ss : List Step) (s : Step) (n : Node) → node_at (ss ++ (s ∷ [])) n ≡ option_and_then (node_at (s ∷ [])) (node_at ss n)
node_after [] s n = refl
node_after (t ∷ ts) s n = search (rules, node_after ts s)

-- ---- the collection at a path

pub children-value : (o : Outline) → HasEntries o → children_of (value o) ≡ children o
children-value end h = absurd h
children-value (row l u a) h = children-collection l.mark (children (row l u a)) h

-- The node at a path has these children.
record HasChildren (steps : List Step) (root : Node) (cs : Children) : Type 0 where
  pub node : Node
  pub there : node_at steps root ≡ Some node
  pub children_are : children_of node ≡ cs

collection_node : (ss : List Step) (o : Outline) (h : NodeLines) → lines_at ss o ≡ Some h → HasEntries h.lines → HasChildren ss (value o) (children h.lines)
collection_node [] o h e b =
    let same : o ≡ h.lines = ap (λ (x : NodeLines). x.lines) (same_Some _ _ e) in
    record { node = value o; there = refl; children_are = children-value o (subst HasEntries (sym same) b) ∙ ap children same }
collection_node (t ∷ ts) o h e b = found (lines_found t ts o h e)
  where
    found : Under t ts o h → HasChildren (t ∷ ts) (value o) (children h.lines)
    found w =
        let f : FoundLine = w.found in
        let same : f.under ≡ h.lines = ap (λ (x : NodeLines). x.lines) w.place_is in
        record {
          node = content_under f.line f.under;
          there = path_node t ts o ∙ ap (λ r. option_and_then (λ (x : FoundLine × List Step). node_at x.1 (content_under x.0.line x.0.under)) r) w.is;
          children_are = search (rules, anchored_children, children-value);
        }

entry_node : (ss : List Step) (s : Step) (o : Outline) (h : NodeLines) (f : FoundLine) → IsEntryAt ss s o h f → node_at (ss ++ (s ∷ [])) (value o) ≡ Some (content_under f.line f.under)
entry_node ss s o h f at = search (rules, collection_node ss o h at.place_is at.block, node_after, row_child)

-- ---- something is left

left_after : (n : ℕ) (l : Line) (o : Outline) → IsEntry l.mark → level l ≡ n → IsEven n o → 0 < count (children o) → HasEntries o
left_after n l end b e h some = absurd (omega (arith, some))
left_after n l (row k v a) b e h some = entry_out k.mark (next n l (row k v a) (entry_in l.mark b) e h)

left_entries : (s : Step) (o : Outline) (n : ℕ) (f : FoundLine) → HasEntries o → IsEven n o → find_row s o ≡ Some f → 1 < count (children o) → HasEntries (plug f.place f.after)
left_entries s end n f b h e some = absurd b
left_entries s (row l u a) n f b h e some = search (rules, arith, same_Some, left_after, map_some)

-- ---- first lines

-- the first of lines begins an item or entry
abbrev pub FirstEntry : List Line → Type 0
FirstEntry [] = ⊥
FirstEntry (l ∷ ls) = IsEntry l.mark

pub first_group : (ls : List Line) → FirstEntry ls → HasEntries (group ls)
first_group ls h = search rules

pub group_begins : (ls : List Line) → HasEntries (group ls) → begins_no_node ls ≡ true
group_begins ls h = search rules

first_flatten : (o : Outline) (ls : List Line) → HasEntries o → FirstEntry (flatten o ++ ls)
first_flatten o ls h = search rules

pub root_entries : (ss : List Step) (o : Outline) (h : NodeLines) → lines_at ss o ≡ Some h → HasEntries h.lines → HasEntries o
root_entries [] o h e b = subst HasEntries (sym (ap (λ (x : NodeLines). x.lines) (same_Some _ _ e))) b
root_entries (t ∷ ts) o h e b = let w = lines_found t ts o h e in found_entries t ts o w.found w.is

-- the lines that are left begin with an entry
left_first : (ss : List Step) (s : Step) (o : Outline) (h : NodeLines) (f : FoundLine) → IsEntryAt ss s o h f → HasEntries (plug f.place f.after) → FirstEntry (put_lines h (with_lines f []))
left_first [] s o h f at left = search (rules, same_Some, some_at, flatten-append, first_flatten)
left_first (t ∷ ts) s o h f at left = grind (arith, common_steps, lines_found, path_whole, found_entries, put_under)

pub keeps : (p q : Part) → FirstEntry (lines_of_rows q.rows) → KeepsRows p q
keeps p q h empty = search (rules, false≢true)

-- ---- what is taken out

-- Rows of a document are taken out of a text.
record IsRowsOut (c : Cut) (k : ℕ) (steps : List Step) (x : Removal) : Type 0 where
  pub d : PlacedPart
  pub is : placed_document k c ≡ Some d
  pub own : OwnRows
  pub rows : own_rows steps d.part.rows ≡ Some own
  pub out : rows_out d own ≡ x

out_is : (c : Cut) (k : ℕ) (steps : List Step) (x : Removal) → removal_place k steps c ≡ Some x → IsRowsOut c k steps x
out_is c k steps x e = search (rules, bind_some, map_some)

-- An item's or entry's own rows begin with one.
record HasFirst (p : Part) (own : OwnRows) : Type 0 where
  pub first : Row
  pub others : List Row
  pub own_are : own.own ≡ first ∷ others
  pub rows_are : p.rows ≡ own.front ++ ((first ∷ others) ++ own.back)

has_first : (p : Part) (ss : List Step) (s : Step) (own : OwnRows) → HasOwnRows p ss s own → HasFirst p own
has_first p ss s own h = go own.own refl
  where
    go : (rs : List Row) → own.own ≡ rs → HasFirst p own
    go [] e = let none : length (lines_of_rows own.own) ≡ 0 = ap (λ (x : List Row). length (lines_of_rows x)) e in absurd (omega (arith, none, h.rows.count))
    go (r ∷ rs) e = record { first = r; others = rs; own_are = e; rows_are = h.rows.rows_are ∙ ap (λ (x : List Row). own.front ++ (x ++ own.back)) e }

is_located_at : (c : Cut) (k : ℕ) (ss : List Step) (s : Step) (x : Removal) → read_at (cut_text c) ≡ Some c → IsRowsOut c k (ss ++ (s ∷ [])) x → cut_text c ≡ x.before ++ (x.gone ++ (x.gap ++ x.after))
is_located_at c k ss s x read h =
    let st = document_is_there_at c k h.d h.is in
    let own = own_rows_are_there (cut_text c) c k h.d.part ss s h.own (record { read = read; there = st.there }) h.rows in
    let first = has_first h.d.part ss s h.own own in
    st.text ∙ (old_text h.d h.own own.rows.rows_are (ap no_rows first.own_are) ∙ ap (λ (y : Removal). y.before ++ (y.gone ++ (y.gap ++ y.after))) h.out)

pub removal_is_there : RemovalIsThere
removal_is_there c k steps x read e = go steps refl (out_is c k steps x e)
  where
    go : (ts : List Step) → steps ≡ ts → IsRowsOut c k steps x → cut_text c ≡ x.before ++ (x.gone ++ (x.gap ++ x.after))
    go [] is h = absurd (none-some _ (ap (λ (ts : List Step). own_rows ts h.d.part.rows) (sym is) ∙ h.rows))
    go (t ∷ ts) is h = let y = snoc t ts in is_located_at c k y.0 y.1 x read (subst (λ (zs : List Step). IsRowsOut c k zs x) (is ∙ y.2) h)

-- the new text is one that may be read
new_readable : (c : Cut) (k : ℕ) (d : PlacedPart) (own : OwnRows) (r : Row) (rs : List Row) → read_at (cut_text c) ≡ Some c → placed_document k c ≡ Some d → own.own ≡ r ∷ rs → d.part.rows ≡ own.front ++ ((r ∷ rs) ++ own.back) →
    IsPiece ((rows_out d own).before ++ (mended (rows_out d own).seam (rows_out d own).gap ++ (rows_out d own).after))
unfolding read_at
new_readable c k d own r rs read is first rows =
    let cut = (text_takes (cut_text c) c (guard_then _ read).1).0 in
    let x = rows_out d own in
    let same : record { front = own.front; own = r ∷ rs; back = own.back } ≡ own = (λ i. record { front = own.front; own = sym first i; back = own.back }) in
    let h = pieces_left k c d own.front r rs own.back cut.parts is rows (text_is_piece c read) in
    let before : IsPiece x.before = subst (λ (o : OwnRows). IsPiece (rows_out d o).before) same h.before_is in
    pieces_joined x.before (mended x.seam x.gap ++ x.after) before (pieces_joined (mended x.seam x.gap) x.after (mended_piece x.seam x.gap x.after h.gap_is_there h.gap_is) h.following_is)

-- what is asked of an item or entry that may be taken out
pub may_go : (t : List ℕ) (c : Cut) (k : ℕ) (p : Part) (ss : List Step) (s : Step) (h : NodeLines) (f : FoundLine) → IsDocumentPart t c k p → IsEntryAt ss s (part_outline p) h f → MayTakeOut c k (ss ++ (s ∷ [])) →
    HasEntries (plug f.place f.after) × AreSpared (names_of (content_under f.line f.under)) [] (names_of (root_of p))
may_go t c k p ss s h f old entry may =
    let o : Outline = part_outline p in
    let same : may.part ≡ p = same_Some _ _ (sym may.there ∙ old.there) in
    let node = collection_node ss o h entry.place_is entry.block in
    let several : has_several (Some node.node) ≡ true = search (rules, take_init, same, node) in
    let count_is : 1 < count (children h.lines) = subst (λ (cs : Children). 1 < count cs) node.children_are (ltb-true 1 (count (children_of node.node)) several) in
    let even = (lines_even (level_or 0 o) o ss h (document_known t c k p old).even entry.place_is entry.block).1 in
    let left : HasEntries (plug f.place f.after) = left_entries s h.lines (level_or 0 h.lines) f entry.block even entry.found count_is in
    let node_same : content_under f.line f.under ≡ may.node = search (rules, same_Some, entry_node, same, o) in
    let spared : AreSpared (names_of (content_under f.line f.under)) [] (names_of (root_of p)) =
    subst (λ (n : Node). AreSpared (names_of n) [] (names_of (root_of p))) (sym node_same) (subst (λ (y : Part). AreSpared (names_of may.node) [] (names_of (root_of y))) same may.spared) in
    (left, spared)

-- The rows that go with what is taken out are between those before and those after, and part of the gap in front of the first one stays.
pub record AreRowsTaken (c : Cut) (k : ℕ) (x : Removal) (old new : Part) : Type 0 where
  pub front : List Row
  pub first : Row
  pub others : List Row
  pub back : List Row
  pub rows_are : old.rows ≡ front ++ ((first ∷ others) ++ back)
  pub new_is : new ≡ without front (first ∷ others) back old
  pub start : List ℕ
  pub put : (q : Part) → cut_text (put_document k q c) ≡ start ++ part_text q (after_document k c)
  pub before_is : x.before ≡ start ++ rows_text front (kept_gap (first ∷ others) old.end)
  pub following_is : x.after ≡ after_first back old.end (after_document k c)
  pub gap_is : x.gap ≡ first_gap back old.end

taken_at : (c : Cut) (k : ℕ) (ss : List Step) (s : Step) (x : Removal) → read_at (cut_text c) ≡ Some c → IsRowsOut c k (ss ++ (s ∷ [])) x → MayTakeOut c k (ss ++ (s ∷ [])) →
    length (x.before ++ (mended x.seam x.gap ++ x.after)) ≤ text_limit →
    (out : IsTakenOut c k (ss ++ (s ∷ [])) (x.before ++ (mended x.seam x.gap ++ x.after))) × AreRowsTaken c k x out.old out.new
taken_at c k ss s x read h may size =
    let t : List ℕ = cut_text c in
    let st = document_is_there_at c k h.d h.is in
    let p : Part = h.d.part in
    let old : IsDocumentPart t c k p = record { read = read; there = st.there } in
    let w = own_rows_are_there t c k p ss s h.own old h.rows in
    let first = has_first p ss s h.own w in
    let o : Outline = part_outline p in
    let q : Part = without h.own.front h.own.own h.own.back p in
    let go = may_go t c k p ss s w.h w.f old w.entry may in
    let text : cut_text (put_document k q c) ≡ x.before ++ (mended x.seam x.gap ++ x.after) = search (rules, new_text, q, st) in
    let piece : IsPiece (cut_text (put_document k q c)) =
    subst IsPiece (sym (st.put q ∙ new_text h.d h.own)) (new_readable c k h.d h.own first.first first.others read h.is first.own_are first.rows_are) in
    let readable : IsReadable (cut_text (put_document k q c)) = search (rules, is_utf8-from_IsUtf8) in
    let gone = block_gone t c k p ss s w.h w.f h.own.front h.own.own h.own.back old w.entry go.0 w.rows go.1 readable in
    let entries : FirstEntry (lines_of_rows q.rows) = subst FirstEntry (sym gone.1) (left_first ss s o w.h w.f w.entry go.0) in
    let own_is : h.own.own ≡ first.first ∷ first.others = first.own_are in (
      record {
        old = p;
        new = q;
        there = st.there;
        rows = keeps p q entries;
        text = text;
        changed = subst (IsChanged c (put_document k q c) k (lead_of q)) (λ i n. sym (end_is_change remove_child ss s n) i) gone.0;
        old_block = group_begins (lines_of_rows p.rows) (root_entries ss o w.h w.entry.place_is w.entry.block);
        new_block = group_begins (lines_of_rows q.rows) (first_group (lines_of_rows q.rows) entries);
        new_entries = first_group (lines_of_rows q.rows) entries;
      },
      record {
        front = h.own.front;
        first = first.first;
        others = first.others;
        back = h.own.back;
        rows_are = first.rows_are;
        new_is = ap (λ (rs : List Row). without h.own.front rs h.own.back p) own_is;
        start = h.d.before;
        put = λ q. st.put q ∙ ap (λ u. h.d.before ++ part_text q u) (sym st.after);
        before_is = sym (ap (λ (y : Removal). y.before) h.out) ∙ ap (λ (rs : List Row). h.d.before ++ rows_text h.own.front (kept_gap rs p.end)) own_is;
        following_is = sym (ap (λ (y : Removal). y.after) h.out) ∙ ap (after_first h.own.back p.end) (sym st.after);
        gap_is = sym (ap (λ (y : Removal). y.gap) h.out);
      },
    )

pub entry_taken : (c : Cut) (k : ℕ) (steps : List Step) (x : Removal) → read_at (cut_text c) ≡ Some c → removal_place k steps c ≡ Some x → MayTakeOut c k steps →
    length (x.before ++ (mended x.seam x.gap ++ x.after)) ≤ text_limit → (out : IsTakenOut c k steps (x.before ++ (mended x.seam x.gap ++ x.after))) × AreRowsTaken c k x out.old out.new
entry_taken c k steps x read e may size = go steps refl (out_is c k steps x e)
  where
    go : (ts : List Step) → steps ≡ ts → IsRowsOut c k steps x → (out : IsTakenOut c k steps (x.before ++ (mended x.seam x.gap ++ x.after))) × AreRowsTaken c k x out.old out.new
    go [] is h = absurd (none-some _ (ap (λ (ts : List Step). own_rows ts h.d.part.rows) (sym is) ∙ h.rows))
    go (t ∷ ts) is h =
        let y = snoc t ts in
        let same : steps ≡ y.0 ++ (y.1 ∷ []) = is ∙ y.2 in
        subst (λ (zs : List Step). (out : IsTakenOut c k zs (x.before ++ (mended x.seam x.gap ++ x.after))) × AreRowsTaken c k x out.old out.new) (sym same)
        (taken_at c k y.0 y.1 x read (subst (λ (zs : List Step). IsRowsOut c k zs x) same h) (subst (MayTakeOut c k) same may) size)
