-- A row of other pieces after the indentation of one.
use Rattle.std.proofs.Common.{ℕ, false, ◌&&◌, eqb, List, sym, ap, ◌∙◌, replicate, Some}
use Rattle.yq_core.{specs.Alike.Alike, proofs.Alikes.{alike_append, alike_marker}}
use Rattle.yq_row_table.specs.Grammar.{IsContent, IsMark, AreDashes, IsRow, Limit}
use Rattle.yq_row_table.specs.Rows.{RowMark, Content, dashes_text, mark_text, content_text, after_columns, parent_of, Row, after_indent}
use Rattle.yq_row_table.{specs.Rows.following_gap, specs.Seams.TakesPlace, proofs.AlikeRows.row_gap_alike}

-- It takes the place of that row, where the texts after the indentation begin alike, and the pieces are there.
pub takes_place : (limit : Limit) (r : Row) (t dashes : List ℕ) (mark : RowMark) (new : Content) (u : List ℕ) → IsRow limit r t → Alike (Some false) (after_indent r t) (dashes_text dashes (mark_text mark (content_text new u))) →
    AreDashes dashes mark → IsMark mark new u → IsContent (parent_of mark (after_columns r.column dashes)) new u → TakesPlace limit r t (record { gap = r.gap; column = r.column; dashes = dashes; mark = mark; content = new }) u
takes_place limit r t dashes mark new u h indent are is content =
    let s : Row = record { gap = r.gap; column = r.column; dashes = dashes; mark = mark; content = new } in
    let gap : Alike (Some false) (following_gap r t) (following_gap s u) = alike_append (Some false) (replicate r.column 32) _ _ indent in
    record {
      row = record {
        gap = row_gap_alike r.gap (following_gap r t) (following_gap s u) gap h.gap;
        allowed = h.allowed;
        unmarked = ap (λ b. eqb r.column 0 && b) (sym (alike_marker (Some false) (after_indent r t) (after_indent s u) indent)) ∙ h.unmarked;
        dashes = are;
        mark = is;
        content = content;
      };
      alike = alike_append (Some false) r.gap _ _ gap;
    }
