-- Texts with other lines in one document.
use Rattle.std.proofs.Common.{◌≡◌, ℕ, List, [], ◌∷◌, ◌++◌, Some, true, refl, sym, ap, ◌∙◌, subst, append_assoc, rules}
use Rattle.std.proofs.lemmas.Option.{same_Some}
use Rattle.yq_core.{specs.Keys.{HasUniqueKeys, depth}, specs.Paths.{Step, append_child, changed_at, relabel_child, remove_child, within}}
use Rattle.yq_core.{specs.Tree.{Label, Node}, proofs.Bools.guard_then, specs.Anchors.names_of}
use Rattle.yq_outline.{specs.LineAnchors.{IsFree, HaveOneAnchorEach}, specs.Group.level_or, specs.Laws.with_lines}
use Rattle.yq_outline.{specs.Lines.lines_of_rows, specs.Outline.{Line, level, Outline, end, row, flatten, IsEven, anchored, label, value}}
use Rattle.yq_outline.{specs.Places.{lines_before, lines_after, plug, FoundLine, find, content_under}, proofs.Allowing.Allows}
use Rattle.yq_outline.{proofs.Decides.{flatten-group, even_from}, proofs.Finding.{IsFoundIn, path_node, path_whole}}
use Rattle.yq_outline.{proofs.PlaceLaws.{at, exchanged}, proofs.Plug.allows_from, proofs.Values.{same_rank, same_entry}}
use Rattle.yq_outline.{proofs.NameLaws.{each_front, each_back}, proofs.NodeLaws.anchored_none}
use Rattle.yq_row_table.specs.Rows.{Part, Cut}
use Rattle.yq_documents.{proofs.PartRows.each, specs.Documents.{document_parts, lead_of}}
use Rattle.yq_documents.{specs.Reading.{is_document, part_outline, read_at, root_of}, proofs.DocumentLaws.document_is}
use Rattle.yq_documents.{proofs.ReadLaws.text_takes, specs.TreeEdits.headed}
use Rattle.yq_places.proofs.RowPathLaws.{document_fine}
use Rattle.yq_edit_rules.{specs.Changed.{IsChanged, put_document, first_comment}, specs.Conditions.{last_anchor, BeginsEntry}}
use Rattle.yq_edit_rules.specs.Edited.{IsPut, OldIsEven, OldIsSound, LinesAreThere, LineExchanged, LinesExchanged, LinesAppended}
use Rattle.yq_edit_rules.{specs.Edited.{LinesRemoved, LineRelabelled, LeadIsAbove, RootHasLead}, specs.SoundRoots.IsSoundRoot}
use Rattle.yq_edit_rules.specs.Siblings.{HasEntries, IsEntryAt, NodeLines, put_lines, AreSomewhere}
use Rattle.yq_edit_rules.proofs.AnchorLaws.{any_free, anchors_stay, after_anew, both_anew, collection_anew, lines_among}
use Rattle.yq_edit_rules.proofs.ChangedLaws.{document_changed, lead_is_first}
use Rattle.yq_edit_rules.proofs.CollectionLaws.{Splits, some_at, level_mark, appended, removed, relabelled}
use Rattle.yq_edit_rules.proofs.NodeLineLaws.{lines_found, lines_even, lines_replaced}
use Rattle.yq_edit_rules.{proofs.SiblingLaws.{entry_out, entries, even_right, next, rest_entries}, proofs.PlacedLaws.around}
use Rattle.yq_outline.proofs.Allowing as allowing

-- What is known of a part that is a document.
pub record Known (p : Part) : Type 0 where
  pub even : IsEven (level_or 0 (part_outline p)) (part_outline p)
  pub lines : flatten (part_outline p) ≡ lines_of_rows p.rows
  pub each : HaveOneAnchorEach (lines_of_rows p.rows)
  pub sound : IsSoundRoot (root_of p)

pub known : (t : List ℕ) (c : Cut) (k : ℕ) (p q : Part) → IsPut t c k p q → Known p
unfolding read_at
known t c k p q h =
    let old = text_takes t c (guard_then _ h.read).1 in
    let doc : is_document p ≡ true = each (document_parts c) old.1 k p h.there in
    let is = document_is p doc in
    record {
      even = even_from _ _ (document_fine p doc);
      lines = flatten-group (lines_of_rows p.rows);
      each = is.anchors;
      sound = record { unique = is.unique; nested = is.nested; bound = is.bound };
    }

pub old_is_sound : OldIsSound
old_is_sound t c k p q h = (known t c k p q h).sound

pub old_is_even : OldIsEven
old_is_even t c k p q h = (known t c k p q h).even

-- the new text reads as the document changed
finish : (t : List ℕ) (c : Cut) (k : ℕ) (p q : Part) (f : Node → Node) → IsPut t c k p q → AreSomewhere (lines_of_rows q.rows) (f (root_of p)) → HaveOneAnchorEach (lines_of_rows q.rows) →
    IsSoundRoot (f (root_of p)) →
    IsChanged c (put_document k q c) k (lead_of q) f
finish t c k p q f h is_located each sound =
    document_changed t c k p q f h.read h.there h.rows h.utf8 h.cut
    (record { is_located = is_located; keys = h.keys; unique = sound.unique; nested = sound.nested; anchors = each; bound = sound.bound; short = h.short })

pub lines_are_there : LinesAreThere
lines_are_there [] o h e = subst (λ (x : NodeLines). Some (value o) ≡ Some (anchored x.anchor (value x.lines))) (same_Some _ _ e) (ap Some (sym (anchored_none (value o))))
lines_are_there (s ∷ ss) o h e = search (rules, lines_found, path_node)

-- leads
first_same : (d e : List (List ℕ)) (before : List Line) (l m : Line) (ls ms : List Line) → m.head_comment ≡ l.head_comment → first_comment d (before ++ (m ∷ ms)) ≡ first_comment e (before ++ (l ∷ ls))
first_same d e [] l m ls ms same = same
first_same d e (k ∷ before) l m ls ms same = refl

pub lead_from : (p q : Part) (before : List Line) (l m : Line) (ls ms : List Line) → lines_of_rows p.rows ≡ before ++ (l ∷ ls) → lines_of_rows q.rows ≡ before ++ (m ∷ ms) → m.head_comment ≡ l.head_comment →
    lead_of q ≡ lead_of p
lead_from p q before l m ls ms old new same = search (rules, lead_is_first, first_same)

pub led_as : (c : Cut) (new : Cut) (k : ℕ) (a b : List (List ℕ)) (f : Node → Node) → a ≡ b → IsChanged c new k a f → IsChanged c new k b f
led_as c new k a b f e h = subst (λ x. IsChanged c new k x f) e h

-- what follows a line that was found begins with an entry
following : (n : ℕ) (f : FoundLine) → Allows n f.place (level f.line) → IsEven (level f.line) (row f.line f.under f.after) → BeginsEntry (flatten f.after ++ lines_after f.place)
following n f allows even = search (rules, both_anew, after_anew, collection_anew, next)

pub line_exchanged : LineExchanged
line_exchanged t c k p q s ss rest f g m l u put found fits whole anchors lines sound =
    let w = known t c k p q put in
    let o : Outline = part_outline p in
    let n : ℕ = level_or 0 o in
    let law = exchanged n o s ss rest f w.even found g m l u fits.label_is fits.level_is fits.headless whole fits.deep fits.even fits.node_is in
    let is : plug f.place (row f.line f.under f.after) ≡ o = at (IsFoundIn o) (find s ss o) (f, rest) found (path_whole s ss o) in
    let old : Allows n f.place (level f.line) × IsEven (level f.line) (row f.line f.under f.after) = allows_from n f.place f.line f.under f.after (subst (λ x. IsEven n x) (sym is) w.even) in
    let was : lines_of_rows p.rows ≡ with_lines f (f.line ∷ flatten f.under) = sym w.lines ∙ law.0 in
    let one : HaveOneAnchorEach (with_lines f (l ∷ flatten u)) =
    anchors_stay (lines_before f.place) (f.line ∷ flatten f.under) (l ∷ flatten u) (flatten f.after ++ lines_after f.place) (subst HaveOneAnchorEach was w.each) anchors.each anchors.free (following n f old.0 old.1) in
    let head : l.head_comment ≡ f.line.head_comment = ap (λ (x : Label). x.head_comment) fits.label_is in
    led_as c (put_document k q c) k (lead_of q) (lead_of p) (changed_at (s ∷ ss) g)
    (lead_from p q (lines_before f.place) f.line l (flatten f.under ++ (flatten f.after ++ lines_after f.place)) (flatten u ++ (flatten f.after ++ lines_after f.place)) was lines head)
    (finish t c k p q (changed_at (s ∷ ss) g) put (subst (λ ls. AreSomewhere ls (changed_at (s ∷ ss) g (root_of p))) (sym lines) (n, law.1)) (subst HaveOneAnchorEach (sym lines) one) sound)

pub lines_exchanged : LinesExchanged
lines_exchanged t c k p q steps h g m u put is fits anchors lines sound =
    let w = known t c k p q put in
    let o : Outline = part_outline p in
    let n : ℕ = level_or 0 o in
    let law = lines_replaced n m o u steps h g w.even is fits in
    let among = lines_among n o steps h w.even is in
    let was : lines_of_rows p.rows ≡ put_lines h (flatten h.lines) = sym w.lines ∙ law.0 in
    let one : HaveOneAnchorEach (put_lines h (flatten u)) = search (rules, anchors_stay) in
    finish t c k p q (changed_at steps g) put (subst (λ ls. AreSomewhere ls (changed_at steps g (root_of p))) (sym lines) law.1) (subst HaveOneAnchorEach (sym lines) one) sound

pub lines_appended : LinesAppended
lines_appended t c k p q steps h m l v put there fits each lines sound =
    let w = known t c k p q put in
    let o : Outline = part_outline p in
    let n : ℕ = level_or 0 o in
    let old : List Line = flatten h.lines in
    let d : List Line = l ∷ flatten v in
    let f : Node → Node = changed_at steps (within (append_child (label l) (content_under l v))) in
    let law = appended n m o v l steps h w.even there fits in
    let among = lines_among n o steps h w.even there.place_is in
    let was : lines_of_rows p.rows ≡ put_lines h old = sym w.lines ∙ law.0 in
    let mark = entry_out l.mark (level_mark l h.lines there.block fits.level_is) in
    let split : put_lines h (old ++ d) ≡ (lines_before h.place ++ old) ++ (d ++ lines_after h.place) = simp (append_assoc, old, d) in
    let one : HaveOneAnchorEach (put_lines h (old ++ d)) =
    subst HaveOneAnchorEach (sym split) (anchors_stay (lines_before h.place ++ old) [] d (lines_after h.place)
    (subst HaveOneAnchorEach (was ∙ sym (append_assoc (lines_before h.place) old (lines_after h.place))) w.each) each (any_free (last_anchor (lines_before h.place ++ old)) d mark) among.0) in
    led_as c (put_document k q c) k (lead_of q) (lead_of p) f (lead h.lines there.block was lines)
    (finish t c k p q f put (subst (λ ls. AreSomewhere ls (f (root_of p))) (sym lines) law.1) (subst HaveOneAnchorEach (sym lines) one) sound)
  where
    lead : (x : Outline) → HasEntries x → lines_of_rows p.rows ≡ lines_before h.place ++ (flatten x ++ lines_after h.place) →
        lines_of_rows q.rows ≡ lines_before h.place ++ ((flatten x ++ (l ∷ flatten v)) ++ lines_after h.place) → lead_of q ≡ lead_of p
    lead end b was new = absurd b
    lead (row i u a) b was new =
        lead_from p q (lines_before h.place) i i ((flatten u ++ flatten a) ++ lines_after h.place) (((flatten u ++ flatten a) ++ (l ∷ flatten v)) ++ lines_after h.place) was new refl

-- the items or entries after one begin anew
after_split : (s : Step) (o : Outline) (f : FoundLine) → Splits s o f → HasEntries o → IsEven (level_or 0 o) o → BeginsEntry (flatten f.after) × allowing.IsEntry f.line.mark
after_split s o f w block even = search (rules, rest_entries, entries, even_right, collection_anew, next)

-- the anchors of a block collection with other lines in the place of those of an item or entry
each_exchanged : (n : ℕ) (o : Outline) (steps : List Step) (h : NodeLines) (s : Step) (f : FoundLine) (d : List Line) → IsEven n o →
    IsEntryAt steps s o h f → HaveOneAnchorEach (put_lines h (with_lines f (f.line ∷ flatten f.under))) →
    (HaveOneAnchorEach (f.line ∷ flatten f.under) → HaveOneAnchorEach d) → (allowing.IsEntry f.line.mark → BeginsEntry d) →
    HaveOneAnchorEach (put_lines h (with_lines f d))
each_exchanged n o steps h s f d even entry was each begins =
    let among = lines_among n o steps h even entry.place_is in
    let r = some_at s h.lines f entry.found in
    let x : List Line = flatten r.front in
    let y : List Line = flatten f.after in
    let e : List Line = f.line ∷ flatten f.under in
    let a : List Line = lines_before h.place in
    let z : List Line = lines_after h.place in
    let place : (ls : List Line) → put_lines h (with_lines f ls) ≡ (a ++ x) ++ (ls ++ (y ++ z)) = λ ls. ap (put_lines h) (r.lines ls) ∙ around a x ls y z in
    let old : HaveOneAnchorEach ((a ++ x) ++ (e ++ (y ++ z))) = subst HaveOneAnchorEach (place e) was in
    let anew = after_split s h.lines f r entry.block (lines_even n o steps h even entry.place_is entry.block).1 in
    subst HaveOneAnchorEach (sym (place d)) (anchors_stay (a ++ x) e d (y ++ z) old (each (each_front e (y ++ z) (each_back (a ++ x) (e ++ (y ++ z)) old)))
    (any_free (last_anchor (a ++ x)) d (begins anew.1)) (both_anew y z anew.0 among.0))

pub lines_removed : LinesRemoved
lines_removed t c k p q steps h s f put entry left lines sound =
    let w = known t c k p q put in
    let o : Outline = part_outline p in
    let n : ℕ = level_or 0 o in
    let g : Node → Node = changed_at steps (within (remove_child s)) in
    let law = removed n o steps h s f w.even entry left in
    let one : HaveOneAnchorEach (put_lines h (with_lines f [])) =
    each_exchanged n o steps h s f [] w.even entry (subst HaveOneAnchorEach (sym w.lines ∙ law.0) w.each) (λ old. tt) (λ old. tt) in
    finish t c k p q g put (subst (λ ls. AreSomewhere ls (g (root_of p))) (sym lines) law.1) (subst HaveOneAnchorEach (sym lines) one) sound

pub line_relabelled : LineRelabelled
line_relabelled t c k p q steps h s f g l put entry new_line lines sound =
    let w = known t c k p q put in
    let o : Outline = part_outline p in
    let n : ℕ = level_or 0 o in
    let i : Node → Node = changed_at steps (within (relabel_child s g)) in
    let law = relabelled n o steps h s f g l w.even entry new_line in
    let one : HaveOneAnchorEach (put_lines h (with_lines f (l ∷ flatten f.under))) =
    each_exchanged n o steps h s f (l ∷ flatten f.under) w.even entry (subst HaveOneAnchorEach (sym w.lines ∙ law.0) w.each)
    (λ old. (subst (λ b. IsFree b (flatten f.under)) (sym new_line.anchor_is) old.0, old.1))
    (λ was. entry_out l.mark (same_entry f.line.mark l.mark was (same_rank f.line l (sym new_line.level_is)))) in
    finish t c k p q i put (subst (λ ls. AreSomewhere ls (i (root_of p))) (sym lines) law.1) (subst HaveOneAnchorEach (sym lines) one) sound

-- a block collection under a lead
pub lead_is_above : LeadIsAbove
unfolding level
lead_is_above above n end block even = absurd block
lead_is_above above n (row l u a) block even = search rules

pub root_has_lead : RootHasLead
root_has_lead p block = search (rules, lead_is_first, flatten-group)

-- a root under a lead is as deep, and has the same names and keys
pub led_same : (above : List (List ℕ)) (n : Node) →
    (names_of (within (headed above) n) ≡ names_of n) × (depth (within (headed above) n) ≡ depth n) × (HasUniqueKeys n → HasUniqueKeys (within (headed above) n))
led_same above n = search rules
