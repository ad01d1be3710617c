-- What is at roots, by the rows that the code has found.
use Rattle.std.proofs.Common.{rules, ◌≡◌, ℕ, ◌+◌, true, false, cond, List, [], ◌∷◌, ◌++◌, length, replicate, Option, Some, None, option_map}
use Rattle.std.{proofs.Common.{refl, sym, ap, ◌∙◌, subst, arith, append_assoc, append-nil}, proofs.lemmas.Bool.{cond-false, cond-true}}
use Rattle.std.{proofs.lemmas.Option.{none-some, same_Some}, specs.List.slice_get, specs.Str.{IsUtf8, IsCharBoundary}}
use Rattle.yq_core.specs.Answers.{◌>>=◌}
use Rattle.yq_row_table.specs.Grammar.{IsCut, no_rows as has_none}
use Rattle.yq_row_table.specs.Rows.{Part, Row, after_indent, print_row, rows_text, Cut, cut_text}
use Rattle.yq_row_table.specs.View.{Slices, slices, RowsView, rows_view}
use Rattle.yq_documents.{specs.LinesInRows.document_row, specs.Pieces.TextPiece, specs.Reading.cut_of}
use Rattle.yq_places.{specs.EntryReading.{before_line, line_begin}, specs.PlacedRows.{PlacedPart, placed_document}}
use Rattle.yq_places.{specs.RootReading.{if_rowless, rowless_at, rowless_place}, specs.RowWalk.document_row_range}
use Rattle.yq_places.specs.Placements.{RowsOfEntry, alone, before_entry, after_entry, is_alone, lone, no_rows, root, root_lines}
use Rattle.yq_places.{specs.Placements.{root_placement, placement_at}, specs.PlacementReading.{EndsRows, IsRootOf, root_entry}}
use Rattle.yq_places.{proofs.EntryRowLaws.{first_at, pieces_at}, proofs.PlacedPartLaws.placed_is}
use Rattle.yq_places.{proofs.PlacedRowLaws.{document_placed, part_of}, proofs.StartLaws.line_begins, proofs.SeamLaws.line_boundary}
use Rattle.yq_places.proofs.WalkDocuments.{Found}
use Rattle.yq_outline.{specs.Extents.row_start, specs.declared.line_position.Stretch.Stretch, proofs.WalkRows.rows_length}

-- ---- documents without rows

-- the text of a document without rows
abbrev unwritten : PlacedPart → TextPiece
unwritten d = record { before = d.before ++ d.part.end; text = []; after = d.after }

pub no_bare : (n : ℕ) (c : Cut) → None ≡ rowless_at n c → None ≡ rowless_place n c
no_bare n c e = go (rowless_place n c) e
  where
    go : (o : Option TextPiece) → None ≡ option_map (λ (x : TextPiece). length x.before) o → None ≡ o
    go None e = refl
    go (Some w) e = absurd (none-some _ e)

pub bare_is_there : (n : ℕ) (c : Cut) (w : TextPiece) → Some w ≡ rowless_place n c → Some (no_rows w) ≡ placement_at n [] c
bare_is_there n c w e = go (placed_document n c) e
  where
    in_rows : (d : PlacedPart) (rs : List Row) → d.part.rows ≡ rs → Some w ≡ if_rowless d → Some (no_rows w) ≡ Some (root_placement d d.part.rows)
    in_rows d [] is e = search (rules, same_Some, e, is)
    in_rows d (r ∷ rs) is e = absurd (none-some _ (sym (e ∙ ap (λ (x : List Row). cond (has_none x) (Some (unwritten d)) None) is)))

    go : (o : Option PlacedPart) → Some w ≡ (o >>= if_rowless) → Some (no_rows w) ≡ option_map (λ (d : PlacedPart). root_placement d d.part.rows) o
    go None e = absurd (none-some _ (sym e))
    go (Some d) e = in_rows d d.part.rows refl e

pub none_is_there : (n : ℕ) (c : Cut) → None ≡ document_row_range n c → None ≡ placement_at n [] c
none_is_there n c e = go (placed_document n c) refl
  where
    go : (o : Option PlacedPart) → placed_document n c ≡ o → None ≡ option_map (λ (d : PlacedPart). root_placement d d.part.rows) o
    go None is = refl
    go (Some d) is = let at = document_placed n c ∙ ap part_of is in absurd (none-some _ (e ∙ ap (option_map (λ (p : Part). (document_row n c, document_row n c + length p.rows))) at))

-- ---- those with rows

-- A root with rows that the code has found.
pub record FoundRoot (t : List ℕ) (s : RowsView) (n : ℕ) (d : Stretch) : Type 0 where
  pub is : IsRootOf t s d
  pub place : placement_at n [] (cut_of t) ≡ Some (root_placement is.part (is.row ∷ is.under))

pub root_found : (t : List ℕ) (s : RowsView) (n : ℕ) (d : Stretch) → IsCut t (cut_of t) → s ≡ rows_view (cut_of t) → Found s (cut_of t) n d → None ≡ rowless_place n (cut_of t) → FoundRoot t s n d
root_found t s n d cut is f none =
    let c : Cut = cut_of t in
    let p = placed_is n c f.part f.there in
    go p.0 p.1 (ap (λ (q : Part). q.rows) p.2) p.0.part.rows refl
  where
    go : (x : PlacedPart) → placed_document n (cut_of t) ≡ Some x → x.part.rows ≡ f.part.rows → (rs : List Row) → x.part.rows ≡ rs → FoundRoot t s n d
    go x placed same [] rows = search (rules, placed, rows, none-some)
    go x placed same (r ∷ rs) rows = record {
      is = record {
        part = x;
        row = r;
        under = rs;
        rows_are = rows;
        is = record {
          cut = cut;
          rows_view_is = is;
          document = n;
          part = x;
          placed = placed;
          rows_are = rows ∙ ap (λ (l : List Row). r ∷ l) (sym (append-nil rs));
          start_is = refl;
          end_is = refl;
          following_is = refl;
          row_is = omega (arith, f.first);
          last_is = omega (arith, rows_length s d f.document.are_there, f.document.are_there.order, ap length (f.rows ∙ (sym same ∙ rows)));
        };
      };
      place = ap (option_map (λ (y : PlacedPart). root_placement y y.part.rows)) placed ∙ ap (λ (l : List Row). Some (root_placement x l)) rows;
    }

module _ (t : List ℕ) (s : RowsView) (d : Stretch) (h : IsRootOf t s d) where
  abbrev e : RowsOfEntry
  e = root_entry h.part h.row h.under

  pub root_alone : is_alone h.row ≡ true → alone (lone (before_entry e) h.row (rows_text h.under (after_entry e))) ≡ root_placement h.part (h.row ∷ h.under)
  root_alone a = search (rules, append-nil, cond-true, a)

  pub root_block : is_alone h.row ≡ false → root h.row.column (root_lines h.part h.row h.under) ≡ root_placement h.part (h.row ∷ h.under)
  root_block a = sym (cond-false (is_alone h.row) (alone (lone h.part.before h.row (rows_text h.under (h.part.part.end ++ h.part.after)))) (root h.row.column (root_lines h.part h.row h.under)) a)

  module _ (u : IsUtf8 t) (start : ℕ)
      (start_agrees : (x : Slices) → slice_get s.rows d.first ≡ Some x → start ≡ line_begin (row_start d.first s) x 0) where
    abbrev before : List ℕ
    before = h.part.before ++ (h.row.gap ++ replicate h.row.column 32)

    abbrev own : List ℕ
    own = after_indent h.row (rows_text h.under [])

    pub through : before_entry e ++ print_row h.row (rows_text h.under []) ≡ before ++ own
    through = simp (append_assoc, append-nil) refl

    pub begins : start ≡ length (before_line d.first 0 h.row (cut_of t))
    begins = start_agrees (slices h.row) (pieces_at t s e d.first d.end h.is)
        ∙ (ap (λ (x : RowsView). line_begin (row_start d.first x) (slices h.row) 0) h.is.rows_view_is
        ∙ line_begins (cut_of t) d.first 0 h.row (first_at t s e d.first d.end h.is).there (omega arith))

    abbrev pub root_ends : EndsRows t s start d.end
    root_ends =
        let c : Cut = cut_of t in
        let at = first_at t s e d.first d.end h.is in
        let front : before_line d.first 0 h.row c ≡ before =
        (λ i. (at.before_is ∙ append-nil h.part.before) i ++ (h.row.gap ++ append-nil (replicate h.row.column 32) i)) in
        record {
          entry = e;
          row = d.first;
          rows = h.is;
          front = before;
          own = own;
          text = through;
          from_is = begins ∙ ap length front;
          starts = subst (λ (z : List ℕ). IsCharBoundary z start) (sym h.is.cut.text) (subst (IsCharBoundary (cut_text c)) (sym begins) (line_boundary c d.first 0 h.row (subst IsUtf8 h.is.cut.text u) h.is.cut.parts at.there));
        }
