-- One entry more after the last line of a block mapping, which has a break: the row that comes, and the next cut.
use Rattle.std.proofs.Common.{◌≡◌, ℕ, ◌≤◌, true, false, List, [], ◌∷◌, ◌++◌, length, Some, refl, rules, sym, ap, ◌∙◌, subst, append-nil}
use Rattle.std.proofs.lemmas.Bool.{false≢true}
use Rattle.yq_text.{specs.Limit.text_limit, specs.Script.{Segment, new_text}}
use Rattle.yq_core.{specs.BlockWritten.break_text, specs.Nodes.FlowNode, specs.Paths.Step}
use Rattle.yq_row_table.specs.Rows.{Cut, Inline, Part, Row, cut_text}
use Rattle.yq_documents.specs.Reading.{documents, read_at}
use Rattle.yq_semantics.{specs.Fits.Fits, specs.Operations.append, specs.Rooms.room_of}
use Rattle.yq_places.specs.CollectionEnds.{CollectionEnd}
use Rattle.yq_edit_rules.{specs.declared.layout.Layout.Layout, specs.Alone.singleton, specs.Appends.inserted, specs.BlockReading.is_filled}
use Rattle.yq_edit_rules.{specs.BlockRows.{children_rows, key_row, node_rows}, specs.Changed.put_document}
use Rattle.yq_edit_rules.{specs.CollectionPlaces.IsCollectionEnd, specs.Edits.op_edits, specs.EntryEdits.{entry_lines, more_lines}}
use Rattle.yq_edit_rules.{specs.Layouts.{LooksLike, children_ask, layout_of, node_asks}, specs.Operands.HasOperand}
use Rattle.yq_edit_rules.{specs.RowChanges.PutsOne, proofs.AppendPlaces.{IsAppendPlace, IsAsked, put_segments}}
use Rattle.yq_edit_laws.proofs.AppendInside.{asked}
use Rattle.yq_core.specs.Tree as tree
use Rattle.yq_edit_rules.proofs.AppendPlaces as places
use Rattle.yq_edit_laws.proofs.AppendInside as inside

-- the row of an entry whose value is written on its line
entry_row_is : (l : Layout) (column : ℕ) (end key : List ℕ) (v : tree.Node) → is_filled v ≡ false → (node : FlowNode) × (node_rows l column end (singleton (Some key) v) ≡ key_row column key (Inline (32 ∷ []) node end) ∷ [])
unfolding node_rows children_rows
entry_row_is l column end key (tree.alias name) h = (_, refl)
entry_row_is l column end key (tree.list a (tree.child label n cs)) h = absurd (false≢true (sym h))
entry_row_is l column end key (tree.map a (tree.child label n cs)) h = absurd (false≢true (sym h))
entry_row_is l column end key _ h = (_, refl)

-- an unfilled value is written the same, whatever the steps of a document are
pub unfilled_alike : (v : tree.Node) (l k : Layout) → is_filled v ≡ false → l.br ≡ k.br → LooksLike true v l k
unfolding node_asks children_ask
unfilled_alike v l k h same = search (rules, asked, false≢true)

-- Segments of a cut put an entry at a column after the first rows of a document, at the end of their text, which is that of a line: these rows are
-- a mapping's, up to its last line (own).
pub record AddsEntry (m : ℕ) (steps : List Step) (key : List ℕ) (v : tree.Node) (d : Cut) (p : Part) (front back : List Row) (column : ℕ) (upto rest : List ℕ) : Type 0 where
  pub x : CollectionEnd
  pub place : IsAppendPlace m steps d x
  pub part : place.part ≡ p
  pub rows : (y : IsCollectionEnd d m place.part steps x) → (y.front ≡ front) × (y.back ≡ back)
  pub column_is : x.column ≡ column
  pub before : x.before ≡ upto
  pub after : x.after ≡ rest
  pub broken : x.broken ≡ true
  pub segments : List Segment
  pub edited : op_edits (append m steps (Some key) v) d ≡ Some segments
  pub puts : PutsOne segments upto [] (more_lines (layout_of m d) (Some key) v column (10 ∷ [])) rest

-- the same by other names
pub adds_as : (m : ℕ) (steps : List Step) (key : List ℕ) (v : tree.Node) (d : Cut) (p q : Part) (front front2 back back2 : List Row) (column column2 : ℕ) (upto upto2 rest rest2 : List ℕ) →
    p ≡ q → front ≡ front2 → back ≡ back2 → column ≡ column2 → upto ≡ upto2 → rest ≡ rest2 →
    AddsEntry m steps key v d p front back column upto rest → AddsEntry m steps key v d q front2 back2 column2 upto2 rest2
adds_as m steps key v d p q front front2 back back2 column column2 upto upto2 rest rest2 part first after at before following =
    subst (λ (w : Part × List Row × List Row × ℕ × List ℕ × List ℕ). AddsEntry m steps key v d w.0 w.1 w.2 w.3 w.4 w.5) (λ i. (part i, first i, after i, at i, before i, following i))

module _ (m : ℕ) (steps : List Step) (key : List ℕ) (v : tree.Node) (d : Cut) (p : Part) (front back : List Row) (column : ℕ) (upto rest : List ℕ)
    (read : read_at (cut_text d) ≡ Some d) (a : AddsEntry m steps key v d p front back column upto rest)
    (unfilled : is_filled v ≡ false) (operand : HasOperand (append m steps (Some key) v)) (fits : Fits (room_of (cut_text d)) (append m steps (Some key) v) (documents d)) (small : length (new_text a.segments) ≤ text_limit) where
  abbrev l : Layout
  l = layout_of m d

  pub row_is : (node : FlowNode) × (node_rows l column (break_text l.br) (singleton (Some key) v) ≡ key_row column key (Inline (32 ∷ []) node (break_text l.br)) ∷ [])
  row_is = entry_row_is l column (break_text l.br) key v unfilled

  abbrev pub new : Row
  new = key_row column key (Inline (32 ∷ []) row_is.0 (break_text l.br))

  abbrev pub next : Cut
  next = put_document m (inserted front (new ∷ []) back p) d

  g : IsAsked steps (Some key) v (places.p m steps d a.x read a.place)
  g = asked m steps (Some key) v d a.x read a.place operand fits

  rows : ((places.e m steps d a.x read a.place).front ≡ front) × ((places.e m steps d a.x read a.place).back ≡ back)
  rows = a.rows (places.e m steps d a.x read a.place)

  text_is : new_text (put_segments a.x (entry_lines l a.x.column (Some key) v ++ break_text l.br)) ≡ new_text a.segments
  text_is = (λ i. a.before i ++ ((entry_lines l (a.column_is i) (Some key) v ++ break_text l.br) ++ append-nil (a.after i) i)) ∙ sym a.puts.new_is

  new_is : node_rows l a.x.column (break_text l.br) (singleton (Some key) v) ≡ new ∷ []
  new_is = ap (λ (n : ℕ). node_rows l n (break_text l.br) (singleton (Some key) v)) a.column_is ∙ row_is.1

  next_is : put_document m (inside.q m steps (Some key) v d a.x read a.place g) d ≡ next
  next_is = λ i. put_document m (inserted (rows.0 i) (new_is i) (rows.1 i) (a.part i)) d

  pub read_next : read_at (new_text a.segments) ≡ Some next
  read_next =
      ap read_at (sym (inside.new_is m steps (Some key) v d a.x read a.place g ∙ text_is))
      ∙ (inside.inside_read m steps (Some key) v d a.x read a.place g a.broken (subst (λ (t : List ℕ). length t ≤ text_limit) (sym text_is) small) ∙ ap Some next_is)
