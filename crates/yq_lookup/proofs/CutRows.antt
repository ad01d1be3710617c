-- The rows of a text with its cut, and what is known of them.
use Rattle.std.{proofs.Common.{◌≡◌, ℕ, ◌<◌, List, length, Option, None, Some, sym, ap, subst, arith}, proofs.lemmas.List.length-map}
use Rattle.std.{specs.List.slice_get, specs.Prelude.{IfSome, option_copied}}
use denote.Bor.{Bor}
use Rattle.yq_core.specs.Answers.{◌>>=◌}
use Rattle.yq_row_table.{specs.Rows.{Cut, Row}, specs.View.{RowsView, rows_of, rows_view, slices}}
use Rattle.yq_documents.{specs.Documents.document_parts, specs.LinesInRows.document_row, specs.Reading.cut_of}
use Rattle.yq_outline.{specs.declared.line_position.KnownItem.KnownItem, specs.RowWalk.{AreKnown, stretch_view}}
use Rattle.yq_places.{specs.RowWalk.{HasCut, InCut, document_row_range}, proofs.WalkDocuments.{Found, found_document, place_found}}
use Rattle.yq_lookup.{specs.KnownDocuments.AreKnownDocuments, specs.declared.known_document.KnownDocuments.KnownDocuments}
use Rattle.yq_row_walk.{specs.declared.walk.KnownLine.KnownLine, specs.declared.walk.Walk.Walk, specs.Walk.{IsKnownLine, IsLineAbove}}

pub row_within : (t : List ℕ) (s : RowsView) (i : ℕ) → s ≡ rows_view (cut_of t) → i < length (rows_of (cut_of t)) → i < length s.rows
row_within t s i rows h = omega (arith, h, ap (λ (x : RowsView). length x.rows) rows, length-map (rows_of (cut_of t)) slices)

pub items_known : (t : List ℕ) (s : RowsView) (ks : List KnownItem) → s ≡ rows_view (cut_of t) → AreKnown (rows_view (cut_of t)).rows ks → AreKnown s.rows ks
items_known t s ks rows h = subst (λ (x : RowsView). AreKnown x.rows ks) (sym rows) h

pub line_known : (t : List ℕ) (s : RowsView) (o : Option (Bor KnownLine)) → s ≡ rows_view (cut_of t) → IfSome o (λ k. IsKnownLine (rows_view (cut_of t)) k.now) → IfSome o (λ k. IsKnownLine s k.now)
line_known t s o rows h = subst (λ (x : RowsView). IfSome o (λ k. IsKnownLine x k.now)) (sym rows) h

pub above_known : (t : List ℕ) (s : RowsView) (o : Option KnownLine) → s ≡ rows_view (cut_of t) → IfSome o (IsLineAbove (rows_view (cut_of t))) → IfSome o (IsLineAbove s)
above_known t s o rows h = subst (λ (x : RowsView). IfSome o (IsLineAbove x)) (sym rows) h

-- a line that is borrowed
pub line_borrowed : (s : RowsView) (o : Option KnownLine) (r : Option (Bor KnownLine)) → option_copied r ≡ o → IfSome o (IsKnownLine s) → IfSome r (λ k. IsKnownLine s k.now)
line_borrowed s o None e h = tt
line_borrowed s o (Some k) e h = subst (λ (x : Option KnownLine). IfSome x (IsKnownLine s)) (sym e) h

pub documents_known : (t : List ℕ) (s : RowsView) (k : KnownDocuments) → s ≡ rows_view (cut_of t) → AreKnownDocuments (rows_view (cut_of t)).bounds k → AreKnownDocuments s.bounds k
documents_known t s k rows h = subst (λ (x : RowsView). AreKnownDocuments x.bounds k) (sym rows) h

-- and what is known of rows that are those of the text
pub items_agree : (t : List ℕ) (s : RowsView) (ks : List KnownItem) → s ≡ rows_view (cut_of t) → AreKnown s.rows ks → AreKnown (rows_view (cut_of t)).rows ks
items_agree t s ks rows h = subst (λ (x : RowsView). AreKnown x.rows ks) rows h

pub line_agrees : (t : List ℕ) (s : RowsView) (o : Option KnownLine) → s ≡ rows_view (cut_of t) → IfSome o (IsKnownLine s) → IfSome o (IsKnownLine (rows_view (cut_of t)))
line_agrees t s o rows h = subst (λ (x : RowsView). IfSome o (IsKnownLine x)) rows h

pub above_agrees : (t : List ℕ) (s : RowsView) (o : Option KnownLine) → s ≡ rows_view (cut_of t) → IfSome o (IsLineAbove s) → IfSome o (IsLineAbove (rows_view (cut_of t)))
above_agrees t s o rows h = subst (λ (x : RowsView). IfSome o (IsLineAbove x)) rows h

-- the document of what is walked
pub walk_found : (t : List ℕ) (n : ℕ) (w : Walk) → HasCut t w.rows.now → Some (stretch_view w.document) ≡ document_row_range n (cut_of t) → Found w.rows.now (cut_of t) n w.document
walk_found t n w h e = found_document t w.rows.now (cut_of t) n w.document h.cut h.rows e h.sound

-- a place in it
pub walk_place : {A : Type 0} (t : List ℕ) (n : ℕ) (w : Walk) (found : Option A) (place : ℕ → Cut → List Row → Option A) → HasCut t w.rows.now → Some (stretch_view w.document) ≡ document_row_range n (cut_of t) →
    ((k : InCut w.rows.now w.document (cut_of t)) → found ≡ place w.document.first (cut_of t) k.document.are_there.rows) →
    found ≡ (slice_get (document_parts (cut_of t)) n >>= λ p. place (document_row n (cut_of t)) (cut_of t) p.rows)
walk_place t n w found place h e agrees = place_found t w.rows.now (cut_of t) n w.document found place h.cut h.rows e h.sound agrees
