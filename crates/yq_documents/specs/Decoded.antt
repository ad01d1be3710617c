-- Reading (own; you may skip it): what rows spell, as it is borrowed, or made where the text doesn't lend it.
use Rattle.std.specs.Prelude.{◌≡◌, ℕ, suc, ◌+◌, ◌≤◌, ◌==◌, Bool, true, false, ◌||◌, List, [], ◌∷◌, length, drop, Option, Some, None}
use Rattle.std.{specs.Prelude.{slice_get, option_and_then, option_map, string_bytes, if◌then◌else◌, ⊤}, specs.Str.IsCharBoundary}
use Rattle.yq_core.{specs.Borrowed.{borrowed_text, is_borrowed, leading_node}, specs.Nodes.begins_with, specs.Scalar.plain_of}
use Rattle.yq_core.{specs.Places.{Placed, placed, name}, specs.Scalars.{is_quoted, scalar_content}, specs.Text.is_empty, specs.Tree.Node}
use Rattle.yq_core.{specs.Trees.{placed_tree, scalar_node}, specs.View.borrowed_view}
use Rattle.yq_outline.{specs.Extents.{IsRowsView, head_place}, specs.View.{head_flow, head_view}, specs.Lines.head_of}
use Rattle.yq_outline.specs.declared.line.Head.{Head}
use Rattle.yq_row_table.{specs.Exchange.after_row, specs.Rows.{Row, Cut}, specs.View.{RowsView, rows_of, rows_view, slices}}
use Rattle.yq_documents.{specs.FlowReading.row_flow, specs.RowReading.string_head, specs.declared.decoded.Decoded.Decoded}
use Rattle.yq_documents.specs.declared.decoded.DecodedHead as heads

-- what is made of row i, if anything is (own)
abbrev pub decoded_at : ℕ → List Decoded → Option Decoded
decoded_at i [] = None
decoded_at i (m ∷ ms) = if i == m.row then Some m else decoded_at i ms

-- what is made of rows, from one on, in their order (own)
abbrev pub Rise : ℕ → List Decoded → Type 0
Rise n [] = ⊤
Rise n (m ∷ ms) = (n ≤ m.row) × Rise (suc m.row) ms

-- what a head spells that is borrowed as it is written (own)
abbrev pub borrowed_head : List ℕ → Option Node
borrowed_head h = if is_empty h then None else (if is_quoted h then string_head (borrowed_text h) else Some (scalar_node (plain_of h)))

-- the first of two answers, if there is one (own)
abbrev pub decoded_or : {A : Type 0} → Option A → A → A
decoded_or None borrowed = borrowed
decoded_or (Some x) borrowed = x

-- the text of a row's key, by what is made of the row and by its key (own)
abbrev pub decoded_key : Option Decoded → List ℕ → List ℕ
decoded_key m key = decoded_or (option_and_then (λ x. option_map string_bytes x.key) m) (borrowed_text key)

-- the alias of that name from a place on (YAML 1.2.2, section 7.1)
abbrev pub alias_from : List ℕ → ℕ → Placed
alias_from n start = placed None start start (start + suc (length n)) (name n)

-- what a head spells that is decoded, if it is anything (own)
abbrev pub decoded_view : heads.DecodedHead → Option Node
decoded_view (heads.TheVariants.Owned head) = head_view head.now
decoded_view (heads.TheVariants.Borrowed node) = Some (placed_tree (borrowed_view node))
decoded_view (heads.TheVariants.Alias n start) = Some (placed_tree (alias_from n.now start))

-- the alias or flow collection that it is, with its places (own)
abbrev pub decoded_head_flow : heads.DecodedHead → Option Placed
decoded_head_flow (heads.TheVariants.Owned head) = head_flow head.now
decoded_head_flow (heads.TheVariants.Borrowed node) = Some (borrowed_view node)
decoded_head_flow (heads.TheVariants.Alias n start) = Some (alias_from n.now start)

-- how many collections are nested at most in a flow collection that the text lends (own)
abbrev pub borrowed_depth : ℕ
borrowed_depth = 16

-- a sequence or mapping in flow style begins so (own)
abbrev pub opens_collection : List ℕ → Bool
opens_collection t = begins_with 91 t || begins_with 123 t

-- an alias or a flow collection begins so (own)
abbrev pub begins_flow : List ℕ → Bool
begins_flow t = begins_with 42 t || opens_collection t

-- The text lends the flow collection at a place, which is this node and this flow (own).
pub record IsBorrowedCollection (t : List ℕ) (start : ℕ) (n : Option Node) (f : Option Placed) : Type 0 where
  pub boundary : IsCharBoundary t start
  pub borrowed : is_borrowed borrowed_depth (drop start t) ≡ true
  pub view : Some (placed_tree (leading_node (length t) borrowed_depth (drop start t))) ≡ n
  pub flow : Some (leading_node (length t) borrowed_depth (drop start t)) ≡ f

-- The text lends the head at a place, which is written so, and is this node and this flow (own).
pub record IsBorrowedAs (t head : List ℕ) (start : ℕ) (n : Option Node) (f : Option Placed) : Type 0 where
  pub alias : begins_with 42 head ≡ true → (Some (placed_tree (alias_from (drop 1 head) start)) ≡ n) × (Some (alias_from (drop 1 head) start) ≡ f)
  pub collection : opens_collection head ≡ true → IsBorrowedCollection t start n f
  pub other : begins_flow head ≡ false → (borrowed_head head ≡ n) × (None ≡ f)

-- A head is what is made of it, or the text lends it (own).
abbrev pub IsKnownAs : List ℕ → List ℕ → ℕ → Option Head → Option Node → Option Placed → Type 0
IsKnownAs t head start (Some x) n f = (head_view x ≡ n) × (head_flow x ≡ f)
IsKnownAs t head start None n f = IsBorrowedAs t head start n f

-- the same of the head of row i of a cut (own)
abbrev pub IsKnownHead : List ℕ → Cut → Option Head → ℕ → Row → Type 0
IsKnownHead t c h i r = IsKnownAs t (slices r).head (head_place i c r).0 h (head_of r.content) (row_flow (length t) r (after_row i c))

-- the head that is made of a row, if one is (own)
abbrev pub owned_head : Option Decoded → Option Head
owned_head m = option_and_then (λ x. x.head) m

-- What row i of a cut of a text spells is given by what is made of it and by its pieces (own).
pub record IsDecodedBy (t : List ℕ) (c : Cut) (m : Option Decoded) (i : ℕ) (r : Row) : Type 0 where
  pub key : decoded_key m (slices r).key ≡ scalar_content (slices r).key
  pub head : IsKnownHead t c (owned_head m) i r

-- The same by what is made of rows (own).
abbrev pub IsDecoded : List ℕ → Cut → List Decoded → ℕ → Row → Type 0
IsDecoded t c ms i r = IsDecodedBy t c (decoded_at i ms) i r

-- The head of row i of a cut of a text so long is what is decoded of it, else as it is borrowed (own).
pub record IsHeadDecoded (total : ℕ) (c : Cut) (h : Option heads.DecodedHead) (i : ℕ) (r : Row) : Type 0 where
  pub head : decoded_or (option_map decoded_view h) (borrowed_head (slices r).head) ≡ head_of r.content
  pub flow : option_and_then decoded_head_flow h ≡ row_flow total r (after_row i c)

-- Row i is one of a cut, and what is made of it is known (own).
pub record IsKnownRow (t : List ℕ) (s : RowsView) (m : Option Decoded) (i : ℕ) : Type 0 where
  pub cut : Cut
  pub rows : s ≡ rows_view cut
  pub rows_view : IsRowsView s
  pub agrees : (r : Row) → slice_get (rows_of cut) i ≡ Some r → IsKnownHead t cut (owned_head m) i r

-- Row i is one of a cut, and its text lends its head (own).
pub record IsBorrowedRow (t : List ℕ) (s : RowsView) (i : ℕ) : Type 0 where
  pub cut : Cut
  pub rows : s ≡ rows_view cut
  pub rows_view : IsRowsView s
  pub agrees : (r : Row) → slice_get (rows_of cut) i ≡ Some r → IsKnownHead t cut None i r
