-- The operations on block nodes, by the lines that they exchange, add or drop.
use Rattle.std.proofs.Common.{◌≡◌, ℕ, ◌+◌, List, [], ◌∷◌, ◌++◌, length, Option, Some, refl, sym, ap, ◌∙◌, subst, arith, append-nil}
use Rattle.std.proofs.Common.{length-append, rules}
use Rattle.yq_core.{specs.Keys.keys_of, specs.Paths.{child_at, node_at}, specs.Tree.{Node, children_of}}
use Rattle.yq_outline.{specs.Group.level_or, specs.Lines.{lines_from, lines_of_rows}}
use Rattle.yq_outline.{specs.Outline.{Line, Outline, flatten, anchored, label, children, value}, specs.Places.{lines_before, content_under}}
use Rattle.yq_outline.{specs.Comments.head_comment, proofs.Finding.{FoundNode, path_node, row_child}, proofs.Plug.entry_whole}
use Rattle.yq_outline.{proofs.Values.{same_rank, same_entry}, proofs.NodeLaws.anchored_none}
use Rattle.yq_documents.{specs.Reading.{part_outline, root_of}, specs.TreeEdits.replaced_node}
use Rattle.yq_row_table.specs.Rows.{Row, after_columns}
use Rattle.yq_edit_rules.specs.Conditions.{last_anchor}
use Rattle.yq_edit_rules.specs.BlockChanges.{NodeReplaced, RootReplaced, EntryAppended, EntryRemoved, EntryRelabelled, FirstRemoved}
use Rattle.yq_edit_rules.{specs.BlockChanges.FirstDropped, specs.Moved.dash_lines, specs.SoundRoots.IsNewKey, specs.Siblings.HasEntries}
use Rattle.yq_edit_rules.proofs.EditedLaws.{old_is_sound, old_is_even, lines_are_there, line_exchanged, lines_exchanged, lines_appended}
use Rattle.yq_edit_rules.{proofs.EditedLaws.{lines_removed, line_relabelled}, proofs.AnchorLaws.any_free}
use Rattle.yq_edit_rules.{proofs.MovedLaws.{first_moved, first_emptied}, proofs.PlacedLaws.{entry_placed, found_is_entry}}
use Rattle.yq_edit_rules.{proofs.SiblingLaws.{entry_in, entry_out}, proofs.SoundRootLaws.{replace_keeps, append_keeps}}
use Rattle.yq_edit_rules.{proofs.SoundRootLess.{remove_keeps, relabel_keeps}, proofs.LineLaws.dashes_count}

pub node_replaced : NodeReplaced
node_replaced t c k p q s ss f v m l u put found fits each lines may =
    let there : node_at (s ∷ ss) (root_of p) ≡ Some (content_under f.line f.under) = path_node s ss (part_outline p) ∙ ap FoundNode found in
    let sound = replace_keeps (s ∷ ss) (root_of p) (content_under f.line f.under) v (old_is_sound t c k p q put) there may in
    let old = found_is_entry (level_or 0 (part_outline p)) p s ss f (old_is_even t c k p q put) found in
    let entry = same_entry f.line.mark l.mark (entry_in f.line.mark old) (same_rank f.line l (sym fits.level_is)) in
    line_exchanged t c k p q s ss [] f (replaced_node v) m l u put found fits (entry_whole l.mark l.head f.after entry)
    (record { each = each; free = any_free (last_anchor (lines_before f.place)) (l ∷ flatten u) (entry_out l.mark entry) }) lines sound

pub root_replaced : RootReplaced
root_replaced t c k p q v m u put fits lines may =
    let sound = replace_keeps [] (root_of p) (root_of p) v (old_is_sound t c k p q put) refl may in
    lines_exchanged t c k p q [] _ (replaced_node v) m u put refl
    (record { deep = fits.deep; even = fits.even; node_is = anchored_none (value u) ∙ (fits.value_is ∙ ap (replaced_node v) (sym (anchored_none (root_of p)))) })
    (record { each = fits.anchors; free = tt }) (lines ∙ sym (append-nil (flatten u))) sound

-- the items or entries of a block collection after an anchor
block_children : (a : Option (List ℕ)) (o : Outline) → HasEntries o → children_of (anchored a (value o)) ≡ children o
block_children a o h1 = search rules

pub entry_appended : EntryAppended
entry_appended t c k p q steps h m l u put in_it fits each lines value_is new =
    let old : Node = anchored h.anchor (value h.lines) in
    let there = lines_are_there steps (part_outline p) h in_it.place_is in
    let key : IsNewKey (label l).key (keys_of (children_of old)) = subst (λ cs. IsNewKey (label l).key (keys_of cs)) (sym (block_children h.anchor h.lines in_it.block)) new in
    let sound = append_keeps steps (root_of p) old (content_under l u) (label l) (old_is_sound t c k p q put) there value_is key in
    lines_appended t c k p q steps h m l u put in_it fits each lines sound

pub entry_removed : EntryRemoved
entry_removed t c k p q steps h s f put entry left lines spared =
    let old : Node = anchored h.anchor (value h.lines) in
    let there = lines_are_there steps (part_outline p) h entry.place_is in
    let at : child_at s (children_of old) ≡ Some (content_under f.line f.under) = search (rules, block_children, row_child) in
    let sound = remove_keeps steps (root_of p) old (content_under f.line f.under) s (old_is_sound t c k p q put) there at spared in
    lines_removed t c k p q steps h s f put entry left lines sound

pub entry_relabelled : EntryRelabelled
entry_relabelled t c k p q steps h s f g l put entry new_line key lines = search (rules, lines_are_there, relabel_keeps, old_is_sound, line_relabelled)

front_length : (before : List Row) (above : List (List ℕ)) (column : ℕ) (ds : List ℕ) (size : ℕ) → length (lines_of_rows before) + length ds ≡ size →
    length (lines_of_rows before ++ dash_lines above column ds) ≡ size
front_length before above column ds size e = let same = dashes_count above column ds in omega (arith, same, e, length-append (lines_of_rows before) (dash_lines above column ds))

pub first_removed : FirstRemoved
first_removed t c k p q steps h s f before gone after r b n ns es put entry left old new moves counts spared =
    let law = first_moved before gone after r b n ns es moves.dashes moves.column moves.bare in
    let a : List Line = lines_of_rows before ++ dash_lines (head_comment r.gap) r.column (n ∷ ns) in
    let x : List Line = lines_from [] b.column es r.mark r.content ++ lines_of_rows gone in
    let parts = entry_placed (level_or 0 (part_outline p)) p steps h s f a x (lines_of_rows (b ∷ after)) (old_is_even t c k p q put) entry
    (record { parts_are = ap lines_of_rows old ∙ law.0; before_are = front_length before (head_comment r.gap) r.column (n ∷ ns) _ counts.before_are; size_is = counts.size_is }) in
    entry_removed t c k p q steps h s f put entry left (ap lines_of_rows new ∙ (law.1 ∙ sym (parts.1 []))) spared

pub first_dropped : FirstDropped
first_dropped t c k p q steps h s f before gone after r n ns es tail put entry left old new stays counts spared =
    let law = first_emptied before gone after r n ns es tail stays.dashes stays.bare in
    let ds : List ℕ = ns ++ (n ∷ []) in
    let a : List Line = lines_of_rows before ++ dash_lines (head_comment r.gap) r.column ds in
    let x : List Line = lines_from [] (after_columns r.column ds) es r.mark r.content ++ lines_of_rows gone in
    let parts = entry_placed (level_or 0 (part_outline p)) p steps h s f a x (lines_of_rows after) (old_is_even t c k p q put) entry
    (record { parts_are = ap lines_of_rows old ∙ law.0; before_are = front_length before (head_comment r.gap) r.column ds _ counts.before_are; size_is = counts.size_is }) in
    entry_removed t c k p q steps h s f put entry left (ap lines_of_rows new ∙ (law.1 ∙ sym (parts.1 []))) spared
