-- What is taken out with the first item or entry of a compact collection is in the text.
use Rattle.std.proofs.Common.{rules, ◌≡◌, ℕ, zero, suc, ◌<◌, Bool, true, false, cond, List, ◌++◌, Some, refl, sym, ap, ◌∙◌, arith}
use Rattle.std.{proofs.Common.append_assoc, proofs.lemmas.Bool.eqb-false, proofs.lemmas.List.take-append-drop, specs.List.slice_get}
use Rattle.yq_core.{specs.Answers.◌>>=◌, specs.Paths.Step, specs.Text.{cut, cut_line, no_space, upto, line_len}, proofs.Bools.bind_some}
use Rattle.yq_core.proofs.Binds.{not_then}
use Rattle.yq_outline.{specs.Ends.line_at_steps, specs.Lines.lines_of_rows}
use Rattle.yq_row_table.{specs.Rows.{Part, Cut, cut_text}, specs.Reading.begins_gap}
use Rattle.yq_documents.{specs.declared.path.Part.TheVariants.Entry, specs.Documents.document_parts, specs.Pieces.TextPiece}
use Rattle.yq_documents.specs.LinesInRows.{RowLine, row_line}
use Rattle.yq_places.specs.FirstPlaces.{less_spaces, end_spaces, first_out, first_removal, piece_between}
use Rattle.yq_places.{specs.PathPieces.{printed_document, piece_in}, proofs.FirstLaws.spaces_parts}
use Rattle.yq_places.{proofs.PieceTexts.{piece_text, document_whole, piece_whole}, proofs.PrintedTexts.map_some}
use Rattle.yq_edit_rules.specs.RemovalChanges.{FirstIsThere}

-- ---- what is taken out

-- What is taken out, by the line of the item or entry and its piece.
pub record IsFirstOut (c : Cut) (k : ℕ) (steps : List Step) (x : TextPiece) : Type 0 where
  pub piece : TextPiece
  pub out : first_out piece ≡ x
  pub part : Part
  pub there : slice_get (document_parts c) k ≡ Some part
  pub number : ℕ
  pub line : line_at_steps steps (lines_of_rows part.rows) ≡ Some number
  pub row_line : RowLine
  pub row_line_is : Rattle.yq_documents.specs.LinesInRows.row_line number part.rows ≡ Some row_line
  pub later : 0 < row_line.line
  pub is : (printed_document k c >>= piece_in Entry steps) ≡ Some piece

some_line : (n : ℕ) → (n ≡ 0 → ⊥) → 0 < n
some_line zero h = absurd (h refl)
some_line (suc n) h = omega arith

pub out_is : (c : Cut) (k : ℕ) (steps : List Step) (x : TextPiece) → first_removal k steps c ≡ Some x → IsFirstOut c k steps x
out_is c k steps x e = search (rules, map_some, bind_some, not_then, some_line, eqb-false)

out_whole : (p : TextPiece) → piece_text (first_out p) ≡ piece_text p
out_whole p = go (begins_gap (cut_line p.after).1)
  where
    line : (cut_line p.after).0 ++ (cut_line p.after).1 ≡ p.after
    line = take-append-drop (line_len p.after) p.after

    indent : (cut no_space (cut_line p.after).1).0 ++ (cut no_space (cut_line p.after).1).1 ≡ (cut_line p.after).1
    indent = take-append-drop (upto no_space (cut_line p.after).1) (cut_line p.after).1

    after : (p.text ++ ((cut_line p.after).0 ++ (cut no_space (cut_line p.after).1).0)) ++ (cut no_space (cut_line p.after).1).1 ≡ p.text ++ p.after
    after =
        append_assoc p.text ((cut_line p.after).0 ++ (cut no_space (cut_line p.after).1).0) (cut no_space (cut_line p.after).1).1
        ∙ ap (λ (t : List ℕ). p.text ++ t) (append_assoc (cut_line p.after).0 (cut no_space (cut_line p.after).1).0 (cut no_space (cut_line p.after).1).1 ∙ (ap (λ (t : List ℕ). (cut_line p.after).0 ++ t) indent ∙ line))

    go : (b : Bool) →
        piece_text (cond b (piece_between (less_spaces p.before) (end_spaces p.before ++ p.text) p.after)
        (piece_between p.before (p.text ++ ((cut_line p.after).0 ++ (cut no_space (cut_line p.after).1).0))
        (cut no_space (cut_line p.after).1).1)) ≡ piece_text p
    go true =
        ap (λ (t : List ℕ). less_spaces p.before ++ t) (append_assoc (end_spaces p.before) p.text p.after)
        ∙ (sym (append_assoc (less_spaces p.before) (end_spaces p.before) (p.text ++ p.after)) ∙ ap (λ (t : List ℕ). t ++ (p.text ++ p.after)) (sym (spaces_parts p.before)))
    go false = ap (λ (t : List ℕ). p.before ++ t) after

pub piece_is_there : (c : Cut) (k : ℕ) (steps : List Step) (x : TextPiece) (h : IsFirstOut c k steps x) → cut_text c ≡ piece_text h.piece
piece_is_there c k steps x h =
    let s = bind_some (printed_document k c) h.is in
    sym (document_whole k c s.0 s.1) ∙ sym (piece_whole Entry steps s.0 h.piece s.2)

pub first_is_there : FirstIsThere
first_is_there c k steps x e = let h = out_is c k steps x e in piece_is_there c k steps x h ∙ (sym (out_whole h.piece) ∙ ap piece_text h.out)
