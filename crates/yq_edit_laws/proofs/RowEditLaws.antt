-- What operations exchange that change one row.
use Rattle.std.proofs.Common.{rules, ◌≡◌, Bool, false, cond, eq-eqb, ℕ, List, [], ◌∷◌, Option, Some, None, option_map, ap, ◌∙◌, subst}
use Rattle.std.{proofs.lemmas.Bool.false≢true, specs.Option.option_or}
use Rattle.yq_core.{specs.Answers.◌>>=◌, specs.Paths.Step, specs.declared.style.Place.TheVariants.Block as InBlock}
use Rattle.yq_core.{specs.BlockWritten.break_text, specs.Text.is_empty, specs.Tree.Node}
use Rattle.yq_row_table.specs.Rows.{Cut, cut_text}
use Rattle.yq_documents.specs.Pieces.{TextPiece}
use Rattle.yq_places.{specs.FirstBreak.first_break, specs.NodesAt.node_in}
use Rattle.yq_places.specs.Placements.{RowsOfEntry, alone, beside, entry_placement, flow_placement, held, last_step, placement_at}
use Rattle.yq_text.specs.Script.{Segment, keep}
use Rattle.yq_edit_rules.{specs.CommentEdits.{above_rows, head_comment_put, head_comment_segments}, specs.FlowParts.flow_put}
use Rattle.yq_edit_rules.{specs.Edits.op_edits, specs.ReplaceEdits.{lone_put, spaced_text, value_put_at}, specs.Replacing.keeps_scalar}
use Rattle.yq_edit_rules.specs.RowChanges.{CommentEdits, HeadCommentEdits, HoldsInline, InlineEdits, PutsOne, RowEdits, inline_put}
use Rattle.yq_edit_rules.specs.WrittenValues.{value_text}
use Rattle.yq_semantics.specs.Operations.{replace}
use Rattle.yq_edit_laws.proofs.OnePutLaws.{comment_puts, inline_puts, piece_puts}

-- an inline node is beside its key or dash
beside_there : (e : RowsOfEntry) → HoldsInline e → entry_placement e ≡ beside (held e)
beside_there e h = search (rules, false≢true)

inline_edits : InlineEdits
inline_edits n s ss v c e at h plain =
    let is_located : placement_at n (s ∷ ss) c ≡ Some (beside (held e)) = ap (option_map entry_placement) at ∙ ap Some (beside_there e h) in
    let put : value_put_at n (s ∷ ss) v c ≡ Some (inline_put v (held e)) = search (rules, is_located) in
    ap (λ (o : Option (List Segment)). cond (keeps_scalar (node_in n (s ∷ ss) c) v) (Some (keep (cut_text c) ∷ [])) (option_or o (option_map (flow_put (cut_text c) v) (flow_placement n c (last_step (s ∷ ss)))))) put

comment_edits : CommentEdits
comment_edits n steps text c e at last = search (rules, e.row.dashes)

head_comment_edits : HeadCommentEdits
head_comment_edits n steps text c e at first =
    let br : List ℕ = break_text (first_break (cut_text c)) in
    ap (λ (o : Option RowsOfEntry). o >>= head_comment_put br text) at
    ∙ ap (λ (b : Bool). cond b (Some (head_comment_segments br text (above_rows e))) None) (eq-eqb e.line 0 first)

-- what a Replace exchanges of a node that is alone on its line, by whether its value is the scalar that is there
pub lone_edits : (n : ℕ) (steps : List Step) (v : Node) (c : Cut) (w : TextPiece) → placement_at n steps c ≡ Some (alone w) →
    op_edits (replace n steps v) c ≡ cond (keeps_scalar (node_in n steps c) v) (Some (keep (cut_text c) ∷ [])) (Some (lone_put w v))
lone_edits n steps v c w is_located = search rules

-- a value in the place of a node that is alone on its line is one text in the place of another
pub lone_puts : (w : TextPiece) (v : Node) → is_empty w.text ≡ false → PutsOne (lone_put w v) w.before w.text (value_text InBlock w.text v) w.after
lone_puts w v some =
    let t : List ℕ = value_text InBlock w.text v in
    subst (λ (u : List ℕ). PutsOne (lone_put w v) w.before w.text u w.after) (ap (λ (b : Bool). cond b (32 ∷ t) t) some) (piece_puts w (spaced_text w.text t))

pub row_edits : RowEdits
row_edits = search (rules, inline_edits, comment_edits, head_comment_edits, inline_puts, comment_puts, piece_puts)
