-- What each operation puts is near.
use Rattle.std.proofs.lemmas.Grind.{common_steps}
use Rattle.std.proofs.Common.{arith, rules, ◌≡◌, ◌⊎◌, inl, inr, ℕ, ◌≤◌, Bool, true, false, cond, List, [], ◌∷◌, length, Option, Some, None}
use Rattle.std.{proofs.Common.{option_map, refl, subst, ap, sym, ◌&&◌, ◌++◌, ◌∙◌, append_assoc, append-nil}, specs.Prelude.⊤}
use Rattle.std.{proofs.lemmas.Option.{none-some, same_Some}, specs.Option.option_or, proofs.lemmas.Bool.or_parts}
use Rattle.yq_core.{specs.Answers.◌>>=◌, specs.Paths.Step, specs.Scalar.ScalarText, specs.Tree.Node, proofs.Bools.{bind_some, at_byte}}
use Rattle.yq_core.{specs.Collections.CollPieces, specs.NodesWritten.{flow_key, flow_of}}
use Rattle.yq_core.specs.Text.{NoneIn, ends_line, front, is_empty, is_feed, is_return, is_white}
use Rattle.yq_text.{specs.Limit.text_limit, specs.Script.{Segment, from_first, keep, new_text}}
use Rattle.yq_row_table.{specs.Rows.{Cut, Row, cut_text, parent_indent, rows_text}, specs.Exchange.asked_after}
use Rattle.yq_row_table.{specs.Gap.{IsComment, IsWhite}, specs.Grammar.{IsRow, IsTail, unlimited}, specs.View.slices}
use Rattle.yq_documents.specs.Reading.{documents, read_at}
use Rattle.yq_flow_edits.{specs.FlowEdits.{FlowEdit, appending}, specs.Removals.removing, proofs.RemoveTexts.either}
use Rattle.yq_places.{specs.FirstPlaces.first_removal, specs.FlowNodes.flow_collection, specs.NodesAt.node_in}
use Rattle.yq_places.{specs.PlacedRows.{PlacedPart, placed_document}, specs.RemovalPlaces.{has_others_at, removal_place}}
use Rattle.yq_places.specs.Placements.{Held, RowsOfEntry, Placement, alone, below, beside, block, compact, entry_placement, flow_placement}
use Rattle.yq_places.specs.Placements.{held, last_step, no_rows, rows_of_entry, root, root_placement, placement_at, under, after_entry}
use Rattle.yq_places.{proofs.PrintedTexts.map_some, specs.CommentPlaces.{LineEnd, end_in_line}, specs.PrintedLines.last_break}
use Rattle.yq_places.proofs.LineEndLaws.{line_tail}
use Rattle.yq_semantics.{specs.Fits.Fits, specs.Operations.{replace, append, remove, line_comment, head_comment}, specs.Rooms.room_of}
use Rattle.yq_edit_rules.{specs.declared.layout.Layout.Layout, specs.CommentEdits.{head_comment_put, line_comment_put}}
use Rattle.yq_edit_rules.specs.Edits.{part_removed, replace_segments, rows_or_sole, sole_removed}
use Rattle.yq_edit_rules.specs.EntryEdits.{block_more, one_removed}
use Rattle.yq_edit_rules.{specs.FlowParts.{flow_more, flow_put, flow_removed, flow_segments, takes_key}, specs.Layouts.layout_of}
use Rattle.yq_edit_rules.specs.Removing.{first_removed, rows_removed}
use Rattle.yq_edit_rules.specs.ReplaceEdits.{block_put, has_text, held_put, block_scalar_put, string_put, value_put, line_break}
use Rattle.yq_edit_rules.{specs.Replacing.keeps_scalar, specs.WrittenValues.{Written, compact_text, inline, lines}}
use Rattle.yq_edit_rules.{specs.PlacementLaws.HasItsRows, proofs.PlacementMarks.row_there, proofs.PlacementRows.rows_located}
use Rattle.yq_edit_rules.{proofs.BreakLaws.{IsLfOrCrLf, last_is}, proofs.HeldPieces.{break_cases, end_agrees}}
use Rattle.yq_edit_laws.{specs.TouchedRanges.{AreInLines, EditsAreNear, IsLocalEdit, is_one_line}, proofs.RemovingLaws.rows_near}

-- ---- what is kept after the head of a key or dash is a part of its line

-- ---- a part of a line

byte_before : (b : ℕ) (t : List ℕ) → is_feed b ≡ false → is_one_line t ≡ true → is_one_line (b ∷ t) ≡ true
unfolding is_one_line
byte_before b t out h = ap (λ (x : Bool). cond x (is_empty t) (is_one_line t)) out ∙ h

white_before : (w t : List ℕ) → IsWhite w → is_one_line t ≡ true → is_one_line (w ++ t) ≡ true
white_before [] t blank h = h
white_before (b ∷ w) t blank h = byte_before b (w ++ t) (at_byte is_white b 10 blank.0 refl) (white_before w t blank.1 h)

line_before : (p rest t : List ℕ) → NoneIn ends_line p rest → is_one_line t ≡ true → is_one_line (p ++ t) ≡ true
line_before [] rest t none h = h
line_before (b ∷ p) rest t none h = byte_before b (p ++ t) (or_parts (is_feed b) (is_return b && front is_feed (p ++ rest)) none.0).0 (line_before p rest t none.1 h)

comment_before : (comment break t : List ℕ) → IsComment comment break → is_one_line t ≡ true → is_one_line (comment ++ t) ≡ true
comment_before [] break t as_comment h = h
comment_before (b ∷ bs) break t as_comment h = byte_before b (bs ++ t) (ap is_feed as_comment.0) (line_before bs break t as_comment.1 h)

pub nothing_line : is_one_line [] ≡ true
unfolding is_one_line
nothing_line = refl

break_line : (b : List ℕ) → (b ≡ []) ⊎ IsLfOrCrLf b → is_one_line b ≡ true
unfolding is_one_line
break_line b e = search rules

-- ---- a key or dash

-- The white space and the comment after what a key or dash holds are a part of a line, and with the break after them.
pub record IsInLine (h : Held) : Type 0 where
  pub ends : is_one_line (h.white ++ h.comment) ≡ true
  pub broken : is_one_line ((h.white ++ h.comment) ++ line_break h) ≡ true

-- the break of its line
break_there : (x : Bool) (b l : List ℕ) → is_one_line b ≡ true → is_one_line l ≡ true → is_one_line (cond (is_empty (cond x [] b)) (cond x b l) (cond x [] b)) ≡ true
break_there x b l h k = search rules

pub held_in_line : (n : ℕ) (s : Step) (ss : List Step) (c : Cut) (e : RowsOfEntry) → read_at (cut_text c) ≡ Some c → rows_of_entry n (s ∷ ss) c ≡ Some e → IsInLine (held e)
held_in_line n s ss c e read at =
    let there : HasItsRows n s ss c e = rows_located n s ss c e read at in
    let row : IsRow (asked_after unlimited e.front) e.row (rows_text e.under (after_entry e)) = row_there n s ss c e there in
    let tail : IsTail (slices e.row).tail ((slices e.row).raw ++ rows_text e.under (after_entry e)) = line_tail (parent_indent e.row) e.row.content (rows_text e.under (after_entry e)) row.content in
    let agrees : end_in_line [] (slices e.row).tail ≡ record { before = []; white = tail.white; comment = tail.comment; after = tail.line.break } = end_agrees (slices e.row).tail _ tail in
    let below : List ℕ = (slices e.row).raw ++ rows_text e.under [] in
    let last : List ℕ = last_break below in
    let own : is_one_line tail.line.break ≡ true = break_line tail.line.break (break_cases tail.line.break _ tail.line.ends) in
    let at_end : is_one_line last ≡ true = break_line last (last_is below) in
    record {
      ends = subst (λ (x : LineEnd). is_one_line (x.white ++ x.comment) ≡ true) (sym agrees)
          (white_before tail.white tail.comment tail.line.blank
          (ap is_one_line (sym (append-nil tail.comment)) ∙ comment_before tail.comment tail.line.break [] tail.line.as_comment nothing_line));
      broken = search (rules, is_one_line, append_assoc, white_before, comment_before, break_there);
    }

-- ---- what each operation puts is near

-- between two that are exchanged no more than a part of a line is kept
abbrev InLines : List Segment → Type 0
InLines ss = AreInLines [] (from_first ss)

-- ---- Replace

held_near : (br : List ℕ) (h : Held) (w : Written) → IsInLine h → InLines (held_put br h w)
held_near br h (inline t) k = (nothing_line, (k.ends, (nothing_line, tt)))
held_near br h _ k = (nothing_line, (k.ends, (nothing_line, tt)))

string_near : (br : List ℕ) (h : Held) (indent : ℕ) (s : ScalarText) → IsInLine h → InLines (string_put br h indent s)
string_near br h indent s k = grind (arith, common_steps, nothing_line, held_near)

block_near : (br : List ℕ) (h : Held) (w : Written) → IsInLine h → InLines (block_put br h w)
block_near br h (inline t) k = held_near br h (inline t) k
block_near br h (compact_text t) k = held_near br h (compact_text t) k
block_near br h (lines t) k = (nothing_line, (nothing_line, (k.broken, (nothing_line, tt))))

scalar_near : (text : Bool) (br : List ℕ) (h : Held) (indent : ℕ) (w : Written) (s : Option ScalarText) → IsInLine h → InLines (block_scalar_put text br h indent w s)
scalar_near text br h indent w s k = search (rules, block_near, string_near)

-- what is somewhere, if it is after a key or dash, has its line
abbrev HasItsLine : Placement → Type 0
HasItsLine (alone w) = ⊤
HasItsLine (beside h) = IsInLine h
HasItsLine (under h column) = IsInLine h
HasItsLine (compact m column w) = ⊤
HasItsLine (block h indent) = IsInLine h
HasItsLine (root column w) = ⊤
HasItsLine (no_rows w) = ⊤

value_near : (text : Bool) (l : Layout) (v : Node) (t : Placement) → HasItsLine t → InLines (value_put text l v t)
value_near text l v t k = search (rules, nothing_line, held_near, scalar_near)

below_in_line : (e : RowsOfEntry) → IsInLine (held e) → (rs : List Row) → HasItsLine (below e rs)
below_in_line e k rs = search rules

entry_in_line : (e : RowsOfEntry) → IsInLine (held e) → HasItsLine (entry_placement e)
entry_in_line e k = search (rules, below_in_line)

root_in_line : (d : PlacedPart) (rs : List Row) → HasItsLine (root_placement d rs)
root_in_line d rs = search rules

occurs_in_line : (n : ℕ) (steps : List Step) (c : Cut) (t : Placement) → read_at (cut_text c) ≡ Some c → placement_at n steps c ≡ Some t → HasItsLine t
occurs_in_line n [] c t read at = let d = map_some (placed_document n c) at in subst HasItsLine d.2 (root_in_line d.0 d.0.part.rows)
occurs_in_line n (s ∷ ss) c t read at = let e = map_some (rows_of_entry n (s ∷ ss) c) at in subst HasItsLine e.2 (entry_in_line e.0 (held_in_line n s ss c e.0 read e.1))

-- ---- flow collections, Append and comments: one range, or two that touch

flow_near : (t : List ℕ) (e : FlowEdit) → InLines (flow_segments t e)
flow_near t e = (nothing_line, (nothing_line, tt))

flow_removed_near : (t : List ℕ) (s : Step) (w : CollPieces) (ss : List Segment) → flow_removed t s w ≡ Some ss → InLines ss
flow_removed_near t s w ss is = let e = map_some (removing s w) is in subst InLines e.2 (flow_near t e.0)

flow_more_near : (t : List ℕ) (key : Option (List ℕ)) (v : Node) (w : CollPieces) (ss : List Segment) → flow_more t key v w ≡ Some ss → InLines ss
flow_more_near t key v w ss = go (appending (flow_key key) (flow_of v) w) (takes_key w.close key)
  where
    go : (e : FlowEdit) (b : Bool) → cond b (Some (flow_segments t e)) None ≡ Some ss → InLines ss
    go e true is = subst InLines (same_Some _ _ is) (flow_near t e)
    go e false is = absurd (none-some _ is)

more_near : (l : Layout) (key : Option (List ℕ)) (v : Node) (t : Placement) (ss : List Segment) → block_more l key v t ≡ Some ss → InLines ss
more_near l key v t ss is = search (rules, none-some, same_Some, nothing_line)

line_near : (text : List ℕ) (e : RowsOfEntry) (ss : List Segment) → line_comment_put text e ≡ Some ss → InLines ss
line_near text e ss = grind (arith, common_steps, same_Some, nothing_line, none-some)

head_near : (br text : List ℕ) (e : RowsOfEntry) (ss : List Segment) → head_comment_put br text e ≡ Some ss → InLines ss
head_near br text e ss = search (rules, same_Some, nothing_line, none-some)

-- ---- the table

replaced_near : (n : ℕ) (steps : List Step) (v : Node) (c : Cut) (ss : List Segment) → read_at (cut_text c) ≡ Some c → replace_segments n steps v c ≡ Some ss → InLines ss
replaced_near n steps v c ss read is = go (keeps_scalar (node_in n steps c) v) is
  where
    there : (option_map (value_put (has_text (node_in n steps c)) (layout_of n c) v) (placement_at n steps c) ≡ Some ss) ⊎ (option_map (flow_put (cut_text c) v) (flow_placement n c (last_step steps)) ≡ Some ss) → InLines ss
    there (inl e) = let t = map_some (placement_at n steps c) e in subst InLines t.2 (value_near (has_text (node_in n steps c)) (layout_of n c) v t.0 (occurs_in_line n steps c t.0 read t.1))
    there (inr e) = let x = map_some (flow_placement n c (last_step steps)) e in subst InLines x.2 ((nothing_line, (nothing_line, tt)))

    go : (b : Bool) → cond b (Some (keep (cut_text c) ∷ []))
        (option_or (option_map (value_put (has_text (node_in n steps c)) (layout_of n c) v) (placement_at n steps c))
        (option_map (flow_put (cut_text c) v) (flow_placement n c (last_step steps)))) ≡ Some ss →
        InLines ss
    go true e = subst InLines (same_Some _ _ e) tt
    go false e = there (either _ _ e)

appended_near : (n : ℕ) (steps : List Step) (key : Option (List ℕ)) (v : Node) (c : Cut) (ss : List Segment) →
    ((placement_at n steps c >>= block_more (layout_of n c) key v) ≡ Some ss) ⊎ ((flow_collection n steps c >>= flow_more (cut_text c) key v) ≡ Some ss) → InLines ss
appended_near n steps key v c ss (inl e) = let t = bind_some (placement_at n steps c) e in more_near (layout_of n c) key v t.0 ss t.2
appended_near n steps key v c ss (inr e) = let w = bind_some (flow_collection n steps c) e in flow_more_near (cut_text c) key v w.0 ss w.2

module _ (n : ℕ) (steps : List Step) (c : Cut) (ss : List Segment) (read : read_at (cut_text c) ≡ Some c) (fits : Fits (room_of (cut_text c)) (remove n steps) (documents c)) (size : length (new_text ss) ≤ text_limit) where
  one_near : has_others_at n steps c ≡ true → (option_map rows_removed (removal_place n steps c) ≡ Some ss) ⊎ (option_map first_removed (first_removal n steps c) ≡ Some ss) → IsLocalEdit ss
  one_near others (inl e) = search (rules, map_some (removal_place n steps c) e, rows_near)
  one_near others (inr e) = let x = map_some (first_removal n steps c) e in subst IsLocalEdit x.2 (inl (nothing_line, tt))

  part_near : (o : Option (List Step × Step)) → part_removed n c o ≡ Some ss → IsLocalEdit ss
  part_near None e = absurd (none-some _ e)
  part_near (Some x) e = let w = bind_some (flow_collection n x.0 c) e in inl (flow_removed_near (cut_text c) x.1 w.0 ss w.2)

  sole_near : (o : Option (List Step × Step)) → sole_removed n c o ≡ Some ss → IsLocalEdit ss
  sole_near None e = absurd (none-some _ e)
  sole_near (Some x) e = search (rules, bind_some, replaced_near)

  rows_near_or_sole : (b : Bool) → has_others_at n steps c ≡ b → cond b (one_removed n steps c) (sole_removed n c (last_step steps)) ≡ Some ss → IsLocalEdit ss
  rows_near_or_sole true others is = one_near others (either _ _ is)
  rows_near_or_sole false others is = sole_near (last_step steps) is

  removed_near : (part_removed n c (last_step steps) ≡ Some ss) ⊎ (rows_or_sole n steps c ≡ Some ss) → IsLocalEdit ss
  removed_near (inl e) = part_near (last_step steps) e
  removed_near (inr e) = rows_near_or_sole (has_others_at n steps c) refl e

pub edits_are_near : EditsAreNear
edits_are_near (replace n steps v) c ss read is operand fits size = inl (replaced_near n steps v c ss read is)
edits_are_near (append n steps key v) c ss read is operand fits size = inl (appended_near n steps key v c ss (either _ _ is))
edits_are_near (remove n steps) c ss read is operand fits size = removed_near n steps c ss read fits size (either _ _ is)
edits_are_near (line_comment n steps text) c ss read is operand fits size = let e = bind_some (rows_of_entry n steps c) is in inl (line_near text e.0 ss e.2)
edits_are_near (head_comment n steps text) c ss read is operand fits size = let e = bind_some (rows_of_entry n steps c) is in inl (head_near _ text e.0 ss e.2)
