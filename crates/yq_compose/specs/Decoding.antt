-- Reading (own; you may skip it): what is made of the rows of a text.
use Rattle.std.specs.Prelude.{◌≡◌, ℕ, List, [], ◌∷◌, length, slice_get, Option, Some, None, String, option_map, false, string_bytes}
use Rattle.std.{specs.List.list_any, specs.declared.alloc.Global.Global}
use Rattle.yq_core.{specs.Scalars.scalar_content, specs.Borrowed.borrowed_text}
use Rattle.yq_outline.specs.Names.{is_reference}
use Rattle.yq_row_table.{specs.Exchange.after_row, specs.Grammar.IsCut, specs.Rows.Row, specs.View.{rows_of, slices, RowsView, rows_view}}
use Rattle.yq_documents.{specs.FlowReading.row_flow, specs.Decoded.{IsDecoded, IsKnownHead, Rise, decoded_or}, specs.Reading.cut_of}
use Rattle.yq_documents.specs.declared.decoded.Decoded.{Decoded}
use Rattle.yq_compose.{specs.Named.flow_names, specs.declared.decoding.HeadRead.HeadRead}

-- A text has a cut, and these are its pieces (own).
pub record IsCutInto (t : List ℕ) (s : RowsView) : Type 0 where
  pub cut : IsCut t (cut_of t)
  pub rows : s ≡ rows_view (cut_of t)

-- What is said of row i of a text (own).
abbrev pub OfRow : List ℕ → ℕ → (Row → Type 0) → Type 0
OfRow t i said = (r : Row) → slice_get (rows_of (cut_of t)) i ≡ Some r → said r

-- What a row's key means is given by the text that is made of it, if one is (own).
abbrev pub IsKeyDecoded : Option (String Global) → Row → Type 0
IsKeyDecoded k r = decoded_or (option_map string_bytes k) (borrowed_text (slices r).key) ≡ scalar_content (slices r).key

-- no alias is in the head of row i of a text (own)
abbrev pub NamesNone : List ℕ → ℕ → Row → Type 0
NamesNone t i r = list_any is_reference (flow_names (row_flow (length t) r (after_row i (cut_of t)))) ≡ false

-- no alias is in the heads of the rows of a text (own)
abbrev pub AreAliasFree : List ℕ → Type 0
AreAliasFree t = (i : ℕ) → OfRow t i (NamesNone t i)

-- A row's head is what is made of it, or its text lends it; it is known whether an alias may be in it (own).
pub record IsHeadRead (t : List ℕ) (i : ℕ) (h : HeadRead) (r : Row) : Type 0 where
  pub head : IsKnownHead t (cut_of t) h.head i r
  pub names_none : h.refers ≡ false → NamesNone t i r

-- What the rows of a text spell is given by what is made of them, which is in their order (own).
pub record AreDecoded (t : List ℕ) (ms : List Decoded) : Type 0 where
  pub rise : Rise 0 ms
  pub agrees : (i : ℕ) → OfRow t i (IsDecoded t (cut_of t) ms i)

-- what is made of a row, if anything is, as a list (own)
abbrev pub list_of_option : Option Decoded → List Decoded
list_of_option None = []
list_of_option (Some m) = m ∷ []
