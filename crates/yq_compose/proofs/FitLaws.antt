-- What is asked of rows, by their pieces.
use Rattle.std.proofs.Common.{◌≡◌, ℕ, ℤ, ◌-◌, ◌<◌, ◌≤◌, Bool, true, false, cond, not, ◌||◌, ◌&&◌, eqb, List, [], ◌∷◌, ◌++◌, length, Some}
use Rattle.std.{proofs.Common.{refl, sym, ap, ◌∙◌, arith, append-nil}, proofs.lemmas.Bool.{false≢true, cond_both}}
use Rattle.std.{proofs.lemmas.List.Folds.list_any-append, proofs.lemmas.Option.same_Some, specs.List.slice_get}
use Rattle.yq_core.{specs.declared.block_header.BlockStyle.BlockStyle, specs.Block.style_indicator, specs.Piece.deeper}
use Rattle.yq_core.{specs.Plain.holds_break, specs.Text.{is_empty, is_feed}, specs.Inline.depth_limit}
use Rattle.yq_core.specs.Nodes.{FlowNode, empty, alias, scalar, coll, anchored, node_text, flow_items_text, IsFlowNode}
use Rattle.yq_core.{specs.Scalars.{IsScalarAt, is_quoted, begins_scalar}, proofs.NodeAgain.{is_anchored, takes_unanchored}}
use Rattle.yq_core.proofs.NodesPieceLaws.{front_not, scalar_begins, scalar_some}
use Rattle.yq_row_table.specs.Grammar.{Limit, AreRows, IsRow, IsMark, IsContent, AreDashes, is_plain_content}
use Rattle.yq_row_table.specs.Rows.{Content, Nothing, Inline, Block, Row, dashes_text}
use Rattle.yq_row_table.specs.View.{Slices, last_dash, colon_of, anchor_cut, content_cut, slices, RowsView}
use Rattle.yq_documents.{specs.Documents.{has_lines, is_long_plain}, specs.Reading.has_short_root}
use Rattle.yq_compose.specs.FitReading.{is_plain_head, is_multiline_plain}
use Rattle.yq_outline.{specs.RowWalk.HasRows, specs.declared.line_position.Stretch.Stretch, proofs.RowLaws.colon_some}
use Rattle.yq_outline.proofs.WalkRows.{row_of, rows_length}
use Rattle.yq_core.specs.declared.block_header.BlockStyle.TheVariants as styles
use Rattle.yq_row_table.specs.Rows as rows

or_none : (x : Bool) → not (x || false) ≡ not x
or_none true = refl
or_none false = refl

-- a plain scalar, by the head
scalar_plain : (n : ℤ) (p rest : List ℕ) → IsScalarAt false (Some (deeper n)) p rest → is_plain_head p ≡ not (is_quoted p)
scalar_plain n [] rest h = absurd (omega (arith, scalar_some false (Some (deeper n)) [] rest h))
scalar_plain n (b ∷ bs) rest h =
    let begins = scalar_begins false (Some (deeper n)) (b ∷ bs) rest h in
    let not_ : (k : ℕ) → ((cs : List ℕ) → begins_scalar false (k ∷ cs) ≡ false) → eqb b k ≡ false = λ k no. front_not (begins_scalar false) k no (b ∷ (bs ++ rest)) begins in
    rw (not_ 124 (λ cs. refl), not_ 62 (λ cs. refl), not_ 42 (λ cs. refl), not_ 91 (λ cs. refl), not_ 123 (λ cs. refl)) (or_none (is_quoted (b ∷ bs)))

abbrev Opens : ℕ → Type 0
Opens b = (t : List ℕ) → is_plain_head (b ∷ t) ≡ false

opens : (k : ℕ) → Opens (cond (eqb k 125) 123 91)
opens k = cond_both (eqb k 125) 123 91 Opens (λ _ t. refl) (λ _ t. refl)

unnamed_plain : (n : ℤ) (node : FlowNode) (rest : List ℕ) → is_anchored node ≡ false → IsFlowNode false (Some (deeper n)) depth_limit node rest → is_plain_head (node_text node []) ≡ is_plain_content node
unfolding node_text IsFlowNode
unnamed_plain n empty rest a h = refl
unnamed_plain n (alias name) rest a h = refl
unnamed_plain n (scalar p) rest a h = ap is_plain_head (append-nil p) ∙ scalar_plain n p rest h
unnamed_plain n (coll k g is) rest a h = opens k (g ++ flow_items_text k is [])
unnamed_plain n (anchored name g node) rest a h = absurd (false≢true (sym a))

plain_is : (n : ℤ) (node : FlowNode) (rest : List ℕ) → IsFlowNode false (Some (deeper n)) depth_limit node rest → is_plain_head (anchor_cut node).2 ≡ is_plain_content node
unfolding IsFlowNode
plain_is n empty rest h = refl
plain_is n (alias name) rest h = unnamed_plain n (alias name) rest refl h
plain_is n (scalar p) rest h = unnamed_plain n (scalar p) rest refl h
plain_is n (coll k g is) rest h = unnamed_plain n (coll k g is) rest refl h
plain_is n (anchored name g node) rest h = unnamed_plain n node rest (takes_unanchored node h.3) h.4

-- the breaks of a node, by its pieces
abbrev broken : List ℕ → List ℕ → List ℕ → Bool
broken a g h = holds_break a || (holds_break g || holds_break h)

break_is : (node : FlowNode) → broken (anchor_cut node).0 (anchor_cut node).1 (anchor_cut node).2 ≡ holds_break (node_text node [])
unfolding node_text
break_is empty = refl
break_is (alias name) = refl
break_is (scalar p) = refl
break_is (coll k g is) = refl
break_is (anchored name g node) = sym (list_any-append is_feed (38 ∷ name) (g ++ node_text node []) ∙ ap (λ b. holds_break (38 ∷ name) || b) (list_any-append is_feed g (node_text node [])))

-- a plain scalar of several lines, by its pieces
no_plain : (style : BlockStyle) (t : List ℕ) → is_plain_head (style_indicator style ∷ t) ≡ false
no_plain styles.Literal t = refl
no_plain styles.Folded t = refl

lines_are : (n : ℤ) (c : Content) (rest : List ℕ) → IsContent n c rest → (is_plain_head (content_cut c).3 && broken (content_cut c).1 (content_cut c).2 (content_cut c).3) ≡ has_lines c
lines_are n (Nothing tail) rest h = refl
lines_are n (Inline space node tail) rest h = λ i. plain_is n node (tail ++ rest) h.1.valid i && break_is node i
lines_are n (Block space anchor block) rest h = rw (no_plain block.style block.indicators) refl

long_by : (n : ℤ) (ns : List ℕ) (m : rows.RowMark) (c : Content) (rest : List ℕ) → AreDashes ns m → IsMark m c rest → IsContent n c rest →
    (is_empty (dashes_text ns (last_dash m)) && (is_empty (colon_of m) && (is_plain_head (content_cut c).3 && broken (content_cut c).1 (content_cut c).2 (content_cut c).3))) ≡ is_long_plain m c
long_by n [] rows.Bare c rest d m h = lines_are n c rest h
long_by n (k ∷ ns) rows.Bare c rest d m h = absurd (false≢true d.1)
long_by n [] rows.Dash c rest d m h = refl
long_by n (k ∷ ns) rows.Dash c rest d m h = refl
long_by n [] (rows.Key key colon) c rest d m h = rw (ap is_empty m.colon_is.spelled ∙ colon_some m.colon_is.white) refl
long_by n (k ∷ ns) (rows.Key key colon) c rest d m h = refl

long_is : (r : Row) (limit : Limit) (rest : List ℕ) → IsRow limit r rest → is_multiline_plain (slices r) ≡ is_long_plain r.mark r.content
long_is r limit rest h = long_by (rows.parent_indent r) r.dashes r.mark r.content rest h.dashes h.mark h.content

-- the root
some_short : (x : Slices) (r : Row) (rs : List Row) (limit : Limit) (end rest : List ℕ) → slice_get rs 0 ≡ Some r → slices r ≡ x → AreRows limit rs end rest → not (is_multiline_plain x) ≡ has_short_root rs
some_short x r [] limit end rest there pieces valid = absurd (cc)
some_short x r (y ∷ rs) limit end rest there pieces valid =
    ap (λ (z : Slices). not (is_multiline_plain z)) (sym (ap slices (same_Some _ _ there) ∙ pieces)) ∙ ap not (long_is y limit _ valid.0)

pub short_some : (s : RowsView) (d : Stretch) (x : Slices) → slice_get s.rows d.first ≡ Some x → d.first < d.end → (h : HasRows s d) → not (is_multiline_plain x) ≡ has_short_root h.rows
short_some s d x there some h =
    let r = row_of s d h d.first x (omega arith) some there in
    let none : d.first - d.first ≡ 0 = omega arith in
    some_short x r.0 h.rows h.limit h.end h.rest (ap (slice_get h.rows) (sym none) ∙ r.1) r.2 h.valid

none_short : (rs : List Row) → length rs ≡ 0 → true ≡ has_short_root rs
none_short [] none = refl
none_short (r ∷ rs) none = absurd (omega (arith, none))

pub short_none : (s : RowsView) (d : Stretch) → d.end ≤ d.first → (h : HasRows s d) → true ≡ has_short_root h.rows
short_none s d none h = none_short h.rows (omega (arith, rows_length s d h, none))
