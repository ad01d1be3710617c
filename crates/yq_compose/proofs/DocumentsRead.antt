-- A text reads as documents where the keys of its rows are fit and its documents are sound.
use Rattle.std.proofs.Common.{◌≡◌, get_or, ℕ, zero, suc, ◌+◌, ◌<◌, ◌≤◌, ◌-◌, Bool, true, false, ◌||◌, ◌&&◌, not, List, [], ◌∷◌, ◌++◌}
use Rattle.std.{proofs.Common.{length, take, drop, Option, Some, None, refl, sym, ap, ◌∙◌, subst, arith}, proofs.lemmas.Bool.false≢true}
use Rattle.std.{proofs.lemmas.List.Folds.list_all-append, proofs.lemmas.Option.{slice_get-get_or, slice_get_within}}
use Rattle.std.specs.List.{list_all, list_any, slice_get}
use Rattle.yq_text.specs.Limit.{text_limit}
use Rattle.yq_outline.{specs.LinesReading.lines_are_sound, specs.Names.{is_reference, line_names}, specs.Lines.lines_of_rows}
use Rattle.yq_outline.{specs.RowWalk.HasRows, specs.declared.line_position.Stretch.Stretch, specs.Extents.IsRowsView}
use Rattle.yq_row_table.{specs.Grammar.{AreParts, IsCut, begins_document, no_rows}, specs.Rows.{Row, Part, Cut, last, marked}}
use Rattle.yq_row_table.specs.View.{RowsView, rows_of, rows_view}
use Rattle.yq_documents.{proofs.ReadLaws.cut_is, specs.Documents.{begins_bare, document_parts, has_begin, parts_from, with_part}}
use Rattle.yq_documents.specs.Holding.{Holds, IsLocated}
use Rattle.yq_documents.{specs.Reading.{all_documents, cut_of, has_short_root, have_fit_keys, is_document}, specs.RowReading.row_fits}
use Rattle.yq_documents.{specs.Stretches.{document_lines, part_rows}, specs.declared.decoded.Decoded.Decoded}
use Rattle.yq_documents.{specs.declared.documents.DocumentRows.DocumentRows, proofs.PartRows.{has_part, rows_located}}
use Rattle.yq_compose.{specs.Checking.IsCheckable, specs.Decoding.{AreAliasFree, AreDecoded, IsCutInto}}
use Rattle.yq_compose.{specs.Places.{AreLocated, all_sound, part_is_sound}, proofs.DecodedRows.each_fits}
use Rattle.yq_compose.proofs.NoReferenceLaws.{ready_refers_not}

pub cut_into : (t : List ℕ) (s : RowsView) (c : Cut) → IsCut t c → s ≡ rows_view c → IsCutInto t s
cut_into t s c h rows =
    let e = cut_is t c h in
    record { cut = subst (IsCut t) (sym e) h; rows = rows ∙ ap rows_view (sym e) }

-- rows are in documents alone, so those of all are fit where those of documents are
abbrev fit_all : List Part → Bool
fit_all ps = list_all (λ p. have_fit_keys p.rows) ps

no_rows_fit : (rs : List Row) → no_rows rs ≡ true → have_fit_keys rs ≡ true
no_rows_fit [] e = refl
no_rows_fit (r ∷ rs) e = absurd (false≢true e)

with_fit : (is : Bool) (p : Part) (ps : List Part) → (is || no_rows p.rows) ≡ true → (have_fit_keys p.rows && fit_all ps) ≡ fit_all (with_part is p ps)
with_fit true p ps e = refl
with_fit false p ps e = ap (λ b. b && fit_all ps) (no_rows_fit p.rows e)

fit-append : (xs ys : List Row) → have_fit_keys (xs ++ ys) ≡ (have_fit_keys xs && have_fit_keys ys)
fit-append xs ys = sym (each_fits (xs ++ ys)) ∙ (list_all-append row_fits xs ys ∙ (λ i. each_fits xs i && each_fits ys i))

and_true : (b : Bool) → b ≡ (b && true)
and_true true = refl
and_true false = refl

fit_parts : (is : Bool) (c : Cut) → AreParts is c → have_fit_keys (rows_of c) ≡ fit_all (parts_from is c)
fit_parts is (last p) h = and_true (have_fit_keys p.rows) ∙ with_fit is p [] h.inside
fit_parts is (marked p marker c) h =
    fit-append p.rows (rows_of c) ∙ (ap (λ b. have_fit_keys p.rows && b) (fit_parts (begins_document marker) c h.2) ∙ with_fit is p (parts_from (begins_document marker) c) h.0.inside)

-- the first part is a document or has no rows
bare_or : (b d : Bool) → ((not b || d) || b) ≡ true
bare_or true true = refl
bare_or true false = refl
bare_or false d = refl

opened : (c : Cut) → AreParts true c → AreParts (begins_bare c || not (has_begin c)) c
opened (last p) h = record { rows = h.rows; inside = bare_or (no_rows p.rows) (not (has_begin (last p))) }
opened (marked p marker c) h = (record { rows = h.0.rows; inside = bare_or (no_rows p.rows) (not (has_begin (marked p marker c))) }, h.1, h.2)

paired : (a b c d : Bool) → ((a && c) && (b && d)) ≡ ((a && b) && (c && d))
paired false b c d = refl
paired true true c d = refl
paired true false true d = refl
paired true false false d = refl

split : (ps : List Part) → (fit_all ps && all_sound ps) ≡ list_all is_document ps
split [] = refl
split (p ∷ ps) = paired (have_fit_keys p.rows) (part_is_sound p) (fit_all ps) (all_sound ps) ∙ ap (λ b. is_document p && b) (split ps)

pub all_split : (t : List ℕ) (c : Cut) → IsCut t c → (have_fit_keys (rows_of (cut_of t)) && all_sound (document_parts (cut_of t))) ≡ all_documents c
all_split t c h =
    ap (λ (x : Cut). have_fit_keys (rows_of x) && all_sound (document_parts x)) (cut_is t c h)
    ∙ (ap (λ b. b && all_sound (document_parts c)) (fit_parts (begins_bare c || not (has_begin c)) c (opened c h.parts)) ∙ split (document_parts c))

-- a document that is checked
module _ (t : List ℕ) (s : RowsView) (ms : List Decoded) (ds : List DocumentRows) (k : IsCutInto t s) (m : AreDecoded t ms) (a : AreLocated t ds) where
  module _ (n : ℕ) (d : DocumentRows) (x : Stretch) (p : Part) (there : slice_get ds n ≡ Some d) (at : slice_get (document_parts (cut_of t)) n ≡ Some p) (first : x.first ≡ d.first) (end : x.end ≡ d.end) where
    placed : IsLocated t n p d
    placed = a.each n d p there at

    pub are_there : (h : HasRows s x) × ((h.rows ≡ p.rows) × (h.rows ≡ take (x.end - x.first) (drop x.first (rows_of (cut_of t)))))
    are_there = rows_located t s (cut_of t) n p x k.cut k.rows at (first ∙ placed.first) (end ∙ (placed.end ∙ ap (λ j. j + length p.rows) placed.first))

    abbrev pub ready : IsCheckable t s ms x
    ready = record {
      cut = cut_of t;
      is_cut = k.cut;
      rows = k.rows;
      rows_view = record { cut = cut_of t; is = k.rows; size = subst (λ (y : List ℕ). length y ≤ text_limit) k.cut.text k.cut.size };
      document = are_there.0;
      there = are_there.1.1;
      rise = m.rise;
      agrees = m.agrees;
    }

    pub ready_sound : (has_short_root ready.document.rows && lines_are_sound (lines_of_rows ready.document.rows)) ≡ part_is_sound p
    ready_sound = ap (λ (rs : List Row). has_short_root rs && lines_are_sound (lines_of_rows rs)) are_there.1.0

    part_refers_not : AreAliasFree t → list_any is_reference (line_names (lines_of_rows p.rows)) ≡ false
    part_refers_not none = ap (λ (rs : List Row). list_any is_reference (line_names (lines_of_rows rs))) (sym are_there.1.0) ∙ ready_refers_not t s ms x ready none

  -- the document at an index
  module _ (n : ℕ) (less : n < length ds) (e : DocumentRows) where
    pub part_at : (p : Part) × (slice_get (document_parts (cut_of t)) n ≡ Some p)
    part_at = has_part (document_parts (cut_of t)) n (omega (arith, less, a.count))

    abbrev pub ready_at : IsCheckable t s ms (record { first = (get_or ds n e).first; end = (get_or ds n e).end })
    ready_at = ready n (get_or ds n e) (record { first = (get_or ds n e).first; end = (get_or ds n e).end }) part_at.0 (slice_get-get_or ds n e less) part_at.1 refl refl

    pub sound_at : (has_short_root ready_at.document.rows && lines_are_sound (lines_of_rows ready_at.document.rows)) ≡ part_is_sound part_at.0
    sound_at = ready_sound n (get_or ds n e) (record { first = (get_or ds n e).first; end = (get_or ds n e).end }) part_at.0 (slice_get-get_or ds n e less) part_at.1 refl refl

  -- a document is there
  has_document : (xs : List DocumentRows) (n : ℕ) → n < length xs → (d : DocumentRows) × (slice_get xs n ≡ Some d)
  has_document [] n h = absurd (omega (arith, h))
  has_document (x ∷ xs) zero h = (x, refl)
  has_document (x ∷ xs) (suc n) h = has_document xs n (omega (arith, h))

  alias_free : AreAliasFree t → (n : ℕ) → list_any is_reference (line_names (document_lines n t)) ≡ false
  alias_free none n = go (slice_get (document_parts (cut_of t)) n) refl
    where
      go : (o : Option Part) → slice_get (document_parts (cut_of t)) n ≡ o → list_any is_reference (line_names (lines_of_rows (part_rows o))) ≡ false
      go None e = refl
      go (Some p) e =
          let d = has_document ds n (omega (arith, a.count, slice_get_within (document_parts (cut_of t)) n p e)) in
          part_refers_not n d.0 (record { first = d.0.first; end = d.0.end }) p d.1 e refl refl none

  -- what is kept of the text
  pub held : (refers : Bool) → (refers ≡ false → AreAliasFree t) → all_documents (cut_of t) ≡ true → Holds t s ds ms refers
  held refers free sound = record {
    cut = k.cut;
    rows = k.rows;
    sound = sound;
    count = a.count;
    places = a.each;
    rise = m.rise;
    agrees = m.agrees;
    alias_free = λ e. alias_free (free e);
  }

-- rows of a text that is cut
pub cut_view : (t : List ℕ) (s : RowsView) → IsCutInto t s → IsRowsView s
cut_view t s k = record { cut = cut_of t; is = k.rows; size = subst (λ (y : List ℕ). length y ≤ text_limit) k.cut.text k.cut.size }
