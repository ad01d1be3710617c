-- What is kept of a text that reads as documents tells it.
use Rattle.std.proofs.Common.{rules, ◌≡◌, ℕ, ◌<◌, ◌≤◌, List, length, Option, Some, option_map, Bool, true, false, sym, ap, ◌∙◌, subst}
use Rattle.std.{proofs.Common.arith, proofs.lemmas.List.length-map, proofs.lemmas.Option.{same_Some, slice_get-map, slice_get_within}}
use Rattle.std.specs.List.{list_any, slice_get}
use Rattle.yq_outline.{specs.Comments.head_comment, specs.Names.{is_reference, line_names}, specs.Extents.IsRowsView}
use Rattle.yq_outline.specs.declared.line_position.Stretch.{Stretch}
use Rattle.yq_row_table.{specs.Grammar.IsCut, specs.Rows.{Row, Part}, specs.View.{rows_of, RowsView, rows_view}}
use Rattle.yq_text.specs.Limit.{text_limit}
use Rattle.yq_documents.{specs.Documents.{Document, document_parts}, specs.Holding.Holds, specs.Located.document_at}
use Rattle.yq_documents.specs.Decoded.{IsDecoded, IsKnownHead, IsHeadDecoded, IsKnownRow, decoded_at, owned_head}
use Rattle.yq_documents.{specs.declared.decoded.DecodedHead.DecodedHead, specs.Reading.{all_documents, cut_of, part_document, documents_of}}
use Rattle.yq_documents.{specs.Stretches.{HasText, document_lines}, specs.declared.decoded.Decoded.Decoded}
use Rattle.yq_documents.{specs.declared.documents.DocumentRows.DocumentRows, proofs.PartRows.has_part}

same_stretch : (x y : Stretch) → x.first ≡ y.first → x.end ≡ y.end → x ≡ y
same_stretch x y a b = λ i. record { first = a i; end = b i }

module _ {t u : List ℕ} {s : RowsView} {ds : List DocumentRows} {ms : List Decoded} {refers : Bool} (h : Holds t s ds ms refers) (e : t ≡ u) where
  pub cut_held : IsCut u (cut_of u)
  cut_held = subst (λ (x : List ℕ). IsCut x (cut_of x)) e h.cut

  pub rows_held : s ≡ rows_view (cut_of u)
  rows_held = h.rows ∙ ap (λ (x : List ℕ). rows_view (cut_of x)) e

  pub sound_held : all_documents (cut_of u) ≡ true
  sound_held = sym (ap (λ (x : List ℕ). all_documents (cut_of x)) e) ∙ h.sound

  pub view_held : IsRowsView s
  view_held = record { cut = cut_of t; is = h.rows; size = subst (λ (x : List ℕ). length x ≤ text_limit) h.cut.text h.cut.size }

  pub count_held : length ds ≡ length (documents_of u)
  count_held = h.count ∙ (sym (length-map (document_parts (cut_of t)) part_document) ∙ ap (λ (x : List ℕ). length (documents_of x)) e)

  -- a document by its number
  module _ (n : ℕ) (d : DocumentRows) (there : slice_get ds n ≡ Some d) where
    part : (p : Part) × (slice_get (document_parts (cut_of t)) n ≡ Some p)
    part = has_part (document_parts (cut_of t)) n (omega (arith, slice_get_within ds n d there, h.count))

    pub lead_held : (x : Document) → document_at u n ≡ Some x → head_comment d.lead.now ≡ x.lead
    lead_held x is =
        let own : part_document part.0 ≡ x = same_Some _ _ (sym (slice_get-map part_document (document_parts (cut_of t)) n ∙ ap (option_map part_document) part.1) ∙ (ap (λ (y : List ℕ). document_at y n) e ∙ is)) in
        (h.places n d part.0 there part.1).lead ∙ ap (λ (y : Document). y.lead) own

    pub place_held : (x : Stretch) → x.first ≡ d.first → x.end ≡ d.end → n < length (documents_of u) → HasText u n s x
    place_held x first end within =
        let p = h.places n d part.0 there part.1 in
        search (rules, part, cut_held, sound_held, rows_held, view_held, same_stretch)

  pub agrees_held : (i : ℕ) (r : Row) → slice_get (rows_of (cut_of u)) i ≡ Some r → IsDecoded u (cut_of u) ms i r
  agrees_held = subst (λ (x : List ℕ). (i : ℕ) (r : Row) → slice_get (rows_of (cut_of x)) i ≡ Some r → IsDecoded x (cut_of x) ms i r) e h.agrees

  -- what is made of a row tells its head
  module _ (m : Option Decoded) (i : ℕ) (made : m ≡ decoded_at i ms) where
    abbrev pub known_held : IsKnownRow t s m i
    known_held = record {
      cut = cut_of t;
      rows = h.rows;
      rows_view = view_held;
      agrees = λ r is. subst (λ (o : Option Decoded). IsKnownHead t (cut_of t) (owned_head o) i r) (sym made) (h.agrees i r is).head;
    }

    pub head_held : (x : Option DecodedHead) → ((k : IsKnownRow t s m i) (r : Row) → slice_get (rows_of k.cut) i ≡ Some r → IsHeadDecoded (length t) k.cut x i r) →
        (r : Row) → slice_get (rows_of (cut_of u)) i ≡ Some r → IsHeadDecoded (length u) (cut_of u) x i r
    head_held x f = subst (λ (y : List ℕ). (r : Row) → slice_get (rows_of (cut_of y)) i ≡ Some r → IsHeadDecoded (length y) (cut_of y) x i r) e (λ r is. f known_held r is)

  pub alias_free_held : refers ≡ false → (n : ℕ) → list_any is_reference (line_names (document_lines n u)) ≡ false
  alias_free_held = subst (λ (x : List ℕ). refers ≡ false → (n : ℕ) → list_any is_reference (line_names (document_lines n x)) ≡ false) e h.alias_free
