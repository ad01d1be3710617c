-- The heads that a text lends.
use Rattle.std.proofs.Common.{◌≡◌, ℕ, zero, suc, ◌<◌, ◌||◌, true, false, List, [], ◌∷◌, drop, length, Option, Some, None, sym, ap, ◌∙◌}
use Rattle.std.{proofs.Common.{subst, refl, arith}, proofs.lemmas.List.length-map, proofs.lemmas.Option.slice_get-map, specs.List.slice_get}
use Rattle.std.specs.Prelude.{option_map}
use Rattle.yq_outline.{specs.declared.line.Head.Head, specs.Extents.head_place, specs.Lines.head_of}
use Rattle.yq_documents.specs.declared.decoded.Decoded.{Decoded}
use Rattle.yq_documents.specs.Decoded.{IsKnownHead, IsHeadDecoded, IsKnownRow, IsBorrowedCollection, IsBorrowedRow, alias_from, begins_flow}
use Rattle.yq_documents.{specs.Decoded.{borrowed_depth, owned_head, opens_collection}, specs.FlowReading.row_flow}
use denote.Bor.{Bor}
use Rattle.yq_core.{specs.Borrowed.leading_node, specs.Nodes.begins_with, specs.Trees.placed_tree}
use Rattle.yq_core.specs.declared.borrowed.BorrowedNode.{BorrowedNode}
use Rattle.yq_row_table.{specs.Exchange.after_row, specs.Rows.Row, specs.View.{RowsView, rows_of, slices}}
use Rattle.yq_documents.specs.declared.decoded.DecodedHead as heads

has_row : (rs : List Row) (i : ℕ) → i < length rs → (r : Row) × (slice_get rs i ≡ Some r)
has_row [] i h = absurd (omega (arith, h))
has_row (r ∷ rs) zero h = (r, refl)
has_row (r ∷ rs) (suc i) h = has_row rs i (omega (arith, h))

module _ {t : List ℕ} {s : RowsView} {i : ℕ} (k : IsBorrowedRow t s i) where
  pub row_here : i < length s.rows → (r : Row) × (slice_get (rows_of k.cut) i ≡ Some r)
  row_here within = has_row (rows_of k.cut) i (omega (arith, within, ap (λ (y : RowsView). length y.rows) k.rows, length-map (rows_of k.cut) slices))

  module _ (r : Row) (is : slice_get (rows_of k.cut) i ≡ Some r) where
    pub pieces : slice_get s.rows i ≡ Some (slices r)
    pieces = ap (λ (y : RowsView). slice_get y.rows i) k.rows ∙ (slice_get-map slices (rows_of k.cut) i ∙ ap (option_map slices) is)

    module _ (h : List ℕ) (head : h ≡ (slices r).head) where
      pub other_given : begins_flow h ≡ false → IsHeadDecoded (length t) k.cut None i r
      other_given closed = let o = (k.agrees r is).other (ap begins_flow (sym head) ∙ closed) in record { head = o.0; flow = o.1 }

      module _ (start : ℕ) (place : start ≡ (head_place i k.cut r).0) where
        pub alias_given : (n : Bor (List ℕ)) → begins_with 42 h ≡ true → n.now ≡ drop 1 h → IsHeadDecoded (length t) k.cut (Some (heads.TheVariants.Alias n start)) i r
        alias_given n star name =
            let a = (k.agrees r is).alias (ap (begins_with 42) (sym head) ∙ star) in
            let own : n.now ≡ drop 1 (slices r).head = name ∙ ap (drop 1) head in
            record {
              head = (λ j. Some (placed_tree (alias_from (own j) (place j)))) ∙ a.0;
              flow = (λ j. Some (alias_from (own j) (place j))) ∙ a.1;
            }

        pub collection_here : begins_flow h ≡ true → begins_with 42 h ≡ false → IsBorrowedCollection t start (head_of r.content) (row_flow (length t) r (after_row i k.cut))
        collection_here flow star =
            let opens : opens_collection h ≡ true = sym (ap (λ b. b || opens_collection h) star) ∙ flow in
            subst (λ (n : ℕ). IsBorrowedCollection t n (head_of r.content) (row_flow (length t) r (after_row i k.cut))) (sym place) ((k.agrees r is).collection (ap opens_collection (sym head) ∙ opens))

        pub collection_given : (b : BorrowedNode) → begins_flow h ≡ true → begins_with 42 h ≡ false → b.total ≡ length t → b.depth ≡ borrowed_depth → b.text.now ≡ drop start t →
            IsHeadDecoded (length t) k.cut (Some (heads.TheVariants.Borrowed b)) i r
        collection_given b flow star total depth text =
            let x = collection_here flow star in
            record {
              head = (λ j. Some (placed_tree (leading_node (total j) (depth j) (text j)))) ∙ x.view;
              flow = (λ j. Some (leading_node (total j) (depth j) (text j))) ∙ x.flow;
            }

-- a row of which no head is made
abbrev pub unmade_row : {t : List ℕ} {s : RowsView} {m : Option Decoded} {i : ℕ} → IsKnownRow t s m i → owned_head m ≡ None → IsBorrowedRow t s i
unmade_row {t} {s} {m} {i} k none = record {
  cut = k.cut;
  rows = k.rows;
  rows_view = k.rows_view;
  agrees = λ r is. subst (λ (h : Option Head). IsKnownHead t k.cut h i r) none (k.agrees r is);
}
