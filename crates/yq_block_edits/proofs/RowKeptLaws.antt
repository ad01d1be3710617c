-- Whether a value is the scalar in the row of a key or dash.
use Rattle.std.proofs.Common.{◌≡◌, ℕ, ℤ, Bool, true, false, not, ◌&&◌, ◌||◌, eqb, List, [], ◌∷◌, ◌++◌, Option, Some, refl, sym, ap, ◌∙◌}
use Rattle.std.{proofs.lemmas.Bool.{and_parts, false≢true, or_parts, and_right}, proofs.lemmas.Option.{none-some, same_Some}}
use Rattle.std.specs.Str.{bytes_eq}
use Rattle.yq_core.{specs.Answers.◌>>=◌, specs.Paths.Step, specs.Plain.holds_break, specs.Scalar.{ScalarText, of_kind, plain_of}}
use Rattle.yq_core.{specs.SchemaReading.resolve, specs.Text.is_empty, specs.Tree.Node, specs.declared.kind.Kind.Kind}
use Rattle.yq_core.{specs.Nodes.begins_with, specs.Scalars.is_quoted, specs.Trees.scalar_node}
use Rattle.yq_outline.{specs.Outline.anchored, specs.Lines.{content_anchor, head_of}}
use Rattle.yq_row_table.{specs.Grammar.IsContent, specs.Rows.{Content, Nothing, Inline, Block, Cut, cut_text, parent_indent, rows_text}}
use Rattle.yq_row_table.{specs.Seams.is_block, specs.View.content_cut}
use Rattle.yq_documents.{specs.Reading.{content_is_fit, cut_of, read_at}, specs.RowReading.{read_head, is_block_head, is_short_plain}}
use Rattle.yq_documents.{proofs.HeadLaws.{fitting, head_is, head_text}, proofs.ReadLaws.exact_reading}
use Rattle.yq_places.{specs.NodesAt.{node_in, scalar_in}, specs.PlacementViews.IsHeldRow, specs.Placements.{RowsOfEntry, after_entry}}
use Rattle.yq_places.{specs.declared.places.held_row.HeldRow.HeldRow, proofs.HeadEnds.node_begins}
use Rattle.yq_places.proofs.HeldRowLaws.{no_root_rows, not_so}
use Rattle.yq_edit_rules.{specs.PlacementLaws.HasItsRows, proofs.RowStayLaws.rows_stay_there, proofs.PlacementMarks.row_there}
use Rattle.yq_edit_rules.{proofs.PlacementRows.rows_located, specs.Replacing.{are_same, keeps_scalar, may_spell}}
use Rattle.yq_edit_rules.specs.Style.{is_same, table_row}
use Rattle.yq_core.specs.declared.kind.Kind.TheVariants as kinds

-- ---- a plain text that a scalar can't have

null_first : (k : Kind) → eqb (table_row k) (table_row kinds.Null) ≡ false → eqb (table_row kinds.Null) (table_row k) ≡ false
null_first kinds.Null e = e
null_first kinds.Bool e = refl
null_first kinds.Int e = refl
null_first kinds.Float e = refl
null_first kinds.Text e = refl

pub other_plain : (t : List ℕ) (s : ScalarText) → may_spell t s ≡ false → is_same (plain_of t) s ≡ false
other_plain t s e = go (resolve t)
  where
    no : (eqb (table_row s.kind) (table_row kinds.Null) ≡ false) × (bytes_eq t s.text ≡ false)
    no = or_parts (eqb (table_row s.kind) (table_row kinds.Null)) (bytes_eq t s.text) e

    go : (k : Kind) → is_same (of_kind k t) s ≡ false
    go kinds.Null = ap (λ (b : Bool). b && bytes_eq (of_kind kinds.Null t).text s.text) (null_first s.kind no.0)
    go kinds.Bool = and_right (eqb 1 (table_row s.kind)) (bytes_eq t s.text) no.1
    go kinds.Int = and_right (eqb 2 (table_row s.kind)) (bytes_eq t s.text) no.1
    go kinds.Float = and_right (eqb 3 (table_row s.kind)) (bytes_eq t s.text) no.1
    go kinds.Text = and_right (eqb 4 (table_row s.kind)) (bytes_eq t s.text) no.1

-- ---- the scalar in the head of a row

-- a plain scalar on one line is read as one
by_plain : (whole : List ℕ) (n : ℤ) (head t : List ℕ) → is_empty head ≡ false → is_block_head head ≡ false → is_quoted head ≡ false → is_short_plain head ≡ true → read_head whole n head t ≡ Some (Some (scalar_node (plain_of head)))
unfolding read_head
by_plain whole n head t some block quoted short = rw (some, block, short, quoted) refl

no_mark : (n : ℤ) (x : Content) (rest : List ℕ) → IsContent n x rest → is_block x ≡ false → is_empty (content_cut x).3 ≡ false → is_block_head (content_cut x).3 ≡ false
no_mark n (Nothing tail) rest h plain some = absurd (false≢true (sym some))
no_mark n (Inline space node tail) rest h plain some = node_begins n node (tail ++ rest) h.1.valid
no_mark n (Block space anchor b) rest h plain some = absurd (false≢true (sym plain))

no_quotes : (head : List ℕ) → is_short_plain head ≡ true → is_quoted head ≡ false
no_quotes head short =
    let marks : Bool = begins_with 42 head || (begins_with 91 head || begins_with 123 head) in
    (or_parts (is_quoted head) marks (not_so (is_quoted head || marks) (and_parts (not (is_quoted head || marks)) (not (holds_break head)) short).0)).0

fitted : (b : Bool) (o : Option Node) (x : Node) → fitting b o ≡ Some (Some x) → o ≡ Some x
fitted true o x e = same_Some _ _ e
fitted false o x e = absurd (none-some _ e)

plain_there : (n : ℤ) (x : Content) (rest : List ℕ) → IsContent n x rest → is_block x ≡ false → is_empty (content_cut x).3 ≡ false → is_short_plain (content_cut x).3 ≡ true → head_of x ≡ Some (scalar_node (plain_of (content_cut x).3))
plain_there n x rest h plain some short =
    let p : List ℕ = (content_cut x).3 in
    let whole : List ℕ = head_text x rest in
    fitted (content_is_fit x) (head_of x) (scalar_node (plain_of p)) (sym (head_is whole n x rest ([], refl) h) ∙ by_plain whole n p whole some (no_mark n x rest h plain some) (no_quotes p short) short)

-- the text of a cut reads as that
read_again : (t : List ℕ) → read_at t ≡ Some (cut_of t) → read_at (cut_text (cut_of t)) ≡ Some (cut_of t)
read_again t read = let r = (exact_reading t (cut_of t)).0 read in ap read_at (sym (r.0.cut.text ∙ ap cut_text r.1)) ∙ read

-- whether a value is the scalar that is there
pub kept_in_row : (t : List ℕ) (n : ℕ) (steps : List Step) (v : Node) (x : HeldRow) → read_at t ≡ Some (cut_of t) → IsHeldRow n steps (cut_of t) x →
    x.inline ≡ true → is_short_plain x.head.now ≡ true →
    are_same (Some (plain_of x.head.now)) (scalar_in v) ≡ keeps_scalar (node_in n steps (cut_of t)) v
kept_in_row t n [] v x read is inline short = absurd (no_root_rows n (cut_of t) is.entry is.found)
kept_in_row t n (s ∷ ss) v x read is inline short =
    let c : Cut = cut_of t in
    let e : RowsOfEntry = is.entry in
    let is_located : HasItsRows n s ss c e = rows_located n s ss c e (read_again t read) is.found in
    let content : IsContent (parent_indent e.row) e.row.content (rows_text e.under (after_entry e)) = (row_there n s ss c e is_located).content in
    let head : head_of e.row.content ≡ Some (scalar_node (plain_of (content_cut e.row.content).3)) =
    plain_there (parent_indent e.row) e.row.content (rows_text e.under (after_entry e)) content (is.inline inline).0 (is.inline inline).1 (ap is_short_plain (sym is.head) ∙ short) in
    let node : node_in n (s ∷ ss) c ≡ Some (anchored (content_anchor e.row.content) (scalar_node (plain_of (content_cut e.row.content).3))) = rows_stay_there.nodes n s ss c e _ is_located is.last head in
    ap (λ (l : List ℕ). are_same (Some (plain_of l)) (scalar_in v)) is.head ∙ sym (ap (λ (o : Option Node). are_same (o >>= scalar_in) (scalar_in v)) node)
