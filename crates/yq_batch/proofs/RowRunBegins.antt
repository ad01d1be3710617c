-- Runs of removals with lines, as they begin.
use Rattle.std.proofs.Common.{◌≡◌, ℕ, List, [], length, take, Some, refl, sym, ap, ◌∙◌, append-nil, subst, take_all, arith}
use Rattle.yq_text.specs.TextGapBuffer.{buffer_text}
use Rattle.yq_outline.specs.Lines.{lines_of_rows}
use Rattle.yq_row_table.specs.Rows.{Row, cut_text}
use Rattle.yq_documents.specs.Reading.{cut_of, read_at}
use Rattle.yq_edit_rules.specs.LineRows.{Begins}
use Rattle.yq_edit_laws.proofs.CutLaws.{text_read}
use Rattle.yq_batch.{specs.RowRemovals.RemovesRows, specs.declared.removals.RemovalRun.RemovalRun}

-- a run of nothing
pub row_run_begins : (t : List ℕ) (n m : ℕ) (r : RemovalRun) → read_at t ≡ Some (cut_of t) → buffer_text r.text ≡ t → r.keep ≡ length t → RemovesRows (cut_of t) n (record { least = Some 0; first = m; stop = m }) r
row_run_begins t n m r read text keep =
    let same : cut_text (cut_of t) ≡ t = text_read t (cut_of t) read in
    let all : r.keep ≡ length (cut_text (cut_of t)) = keep ∙ ap length (sym same) in
    let whole : take r.keep (cut_text (cut_of t)) ≡ cut_text (cut_of t) = take_all r.keep (cut_text (cut_of t)) (omega (arith, all)) in
    record {
      tail = [];
      text = text ∙ (sym same ∙ (sym whole ∙ sym (append-nil (take r.keep (cut_text (cut_of t))))));
      run = record {
        within = omega (arith, all);
        cut = cut_of t;
        read = ap read_at (append-nil (take r.keep (cut_text (cut_of t))) ∙ (whole ∙ same)) ∙ read;
        stays = λ above s d x placed own short.
            record { now = d; placed = placed; before = refl; back = x.back; own = own; low = λ m less low. low; lower = λ l b. b; stop = λ at l b. subst (λ (rs : List Row). Begins l (lines_of_rows rs)) (sym at) b };
      };
    }
