-- What is put in the place of a block scalar carries out the replacement.
use Rattle.std.proofs.Common.{rules, ◌≡◌, ℕ, ◌≤◌, ◌&&◌, cond, List, [], ◌∷◌, length, Option, Some, None, Bool, true, false, refl, sym, ◌∙◌}
use Rattle.std.{proofs.Common.{inl, ◌++◌, ap, append_assoc, append-nil, subst}, proofs.lemmas.Bool.{cond_both, and_parts}, specs.Str.IsUtf8}
use Rattle.yq_core.specs.Block.{BlockText, IsBlock, block_text, ends_block}
use Rattle.yq_core.{specs.BlockWritten.{break_text, chomping_of, header_text, written_block}, specs.Paths.Step, specs.Scalar.ScalarText}
use Rattle.yq_core.{specs.Tree.Node, specs.Writable.{can_write, is_string}, specs.Written.double, specs.declared.kind.Kind.Kind}
use Rattle.yq_core.{specs.BlockContent.block_content, specs.Piece.deeper, specs.Text.{joined, text_lines}}
use Rattle.yq_core.{specs.declared.block_types.Break.Break, proofs.LiteralText.{literal_block, literal_content}}
use Rattle.yq_core.proofs.PlainSpells.{string_kind}
use Rattle.yq_text.{specs.Limit.text_limit, specs.Script.{Segment, new_text, old_text, put}}
use Rattle.yq_flow_edits.specs.Valued.{IsValueTree}
use Rattle.yq_row_table.specs.Rows.{Anchor, Block, Cut, cut_text, Content, anchor_text, Row, parent_indent, print_row, rows_text}
use Rattle.yq_row_table.{specs.Grammar.IsTail, specs.View.slices, specs.Exchange.{row_front, with_content}, proofs.NodeExchange.space_apart}
use Rattle.yq_row_table.{proofs.PlaceLaws.row_front-append, proofs.seams.RowSeams.block_no_space}
use Rattle.yq_places.{specs.NodesAt.{node_in, scalar_in}, specs.Placements.{Held, RowsOfEntry, held}, proofs.LineEndLaws.header_tail}
use Rattle.yq_places.specs.RowPieces.{anchor_before, space_before}
use Rattle.yq_edit_rules.{proofs.ColumnLaws.indent_least, specs.PlacementLaws.HasItsRows, specs.declared.layout.Layout.Layout}
use Rattle.yq_edit_rules.{specs.BlockReading.is_filled, specs.BlockRows.item_column, specs.BlockText.block_value}
use Rattle.yq_edit_rules.{specs.EditLaws.{CarriedOut, IsEdit}, specs.Layouts.layout_of}
use Rattle.yq_edit_rules.specs.ReplaceEdits.{block_put, has_text, held_put, literal_put, block_scalar_put, string_put, value_put, raw_put}
use Rattle.yq_edit_rules.specs.ReplaceEdits.{holds_text}
use Rattle.yq_edit_rules.specs.WrittenValues.{Written, inline, compact_text, lines, collection_at, column_under, lines_in, takes_compact}
use Rattle.yq_edit_rules.{specs.WrittenValues.{value_text, written_at}, proofs.EditsFitLaws.{FitsReplace, fits_replace}}
use Rattle.yq_edit_rules.{proofs.ValueTexts.{scalar_for, value_for}, proofs.TextPieceLaws.{pieces_joined, nothing}, specs.Done.ArePieces}
use Rattle.yq_edit_rules.{proofs.CommentPieceLaws.break_piece, proofs.CommentReadLaws.break_is, proofs.PathTailLaws.anchor_other}
use Rattle.yq_semantics.specs.Operations.{replace}
use Rattle.yq_outline.{specs.Comments.line_comment, specs.Outline.{Line, anchored, head_or, value}, specs.Lines.{head_of, tail_of}}
use Rattle.yq_edit_laws.proofs.HeldCarried.{held_old, put_carried, KnowsHeld, Spells, node_is, regroup}
use Rattle.yq_edit_laws.proofs.HeldLines.{held_compact, lines_piece, rows_put, rows_spell}
use Rattle.yq_edit_laws.proofs.ScalarHeld.{raw_old, scalar_inline, header_line, line_piece, tail_is, valid, anchor_is, apart_is, front_text}
use Rattle.yq_edit_laws.{proofs.ScalarHeld.row_is, proofs.NodeValueLaws.{IsContentFor, takes_content}}
use Rattle.yq_edit_laws.{proofs.LiteralTexts.{header_piece, known_text, loose, raw_piece}, proofs.NodeLeads.own_space_lead}
use Rattle.yq_edit_laws.proofs.NodeRowLaws.{NodeRows, line_is, rest, following_is, mark_node}
use Rattle.yq_core.specs.Tree as tree
use Rattle.yq_core.specs.declared.style.Place.TheVariants as places
use Rattle.yq_core.specs.declared.style.Style.TheVariants as styles
use Rattle.yq_places.specs.Placements as placements
use Rattle.yq_core.specs.BlockWritten as literal
use Rattle.yq_core.specs.declared.kind.Kind.TheVariants as kinds

-- a scalar that a literal block scalar can write is a string without an anchor
string_is : (a : Option (List ℕ)) (kind : Kind) (t : List ℕ) → IsValueTree (tree.scalar a kind t) → can_write (record { kind = kind; text = t }) styles.Literal places.Block ≡ true → tree.scalar a kind t ≡ tree.scalar None kinds.Text t
string_is a kind t h can = search (rules, and_parts, string_kind)

module _ (n : ℕ) (s : Step) (ss : List Step) (c : Cut) (e : RowsOfEntry) (there : HasItsRows n s ss c e) (last : e.line ≡ length e.row.dashes) (k : KnowsHeld n s ss c e there last)
    (space : List ℕ) (anchor : Option Anchor) (block : BlockText) (content_is : e.row.content ≡ Block space anchor block) where
  abbrev w : Held
  w = held e

  abbrev l : Layout
  l = layout_of n c

  abbrev br : List ℕ
  br = break_text (layout_of n c).br

  -- ---- lines in the place of its own

  module _ (v : Node) (tree : IsValueTree v) (f : FitsReplace n (s ∷ ss) v c there.part) (full : is_filled v ≡ true) where
    abbrev raw : List ℕ
    raw = lines_in l (column_under l w.mark v) v

    abbrev segments : List Segment
    segments = raw_put w (put w.space []) (put w.head []) (lines_in l (column_under l w.mark v) v ++ break_text l.br)

    tail : (more : List ℕ) → IsTail block.tail more
    tail more = header_tail block.tail more (valid n s ss c e there last k space anchor block content_is).2.tail

    same : line_comment block.tail ≡ line_comment (slices e.row).tail
    same = ap line_comment (sym (tail_is n s ss c e there last k space anchor block content_is))

    new_is : w.before ++ (block.tail ++ (raw ++ (br ++ w.after))) ≡ new_text segments
    new_is =
        let parts : raw ++ (br ++ w.after) ≡ (raw ++ br) ++ (w.after ++ []) = simp (append_assoc, append-nil) refl in
        ap (λ r. w.before ++ r) (ap (λ r. block.tail ++ r) parts ∙ sym (header_line n s ss c e there last k space anchor block content_is ((raw ++ br) ++ (w.after ++ []))))

    pieces : ArePieces segments
    pieces =
        let line = line_piece n s ss c e there last k space anchor block content_is in
        let written = pieces_joined raw br (lines_piece l (column_under l w.mark v) v tree) (break_piece l.br) in
        (k.pieces.before, (nothing, (nothing, (k.white, (k.comment, (line, (nothing, (written, (k.pieces.after, tt)))))))))

    -- A collection with items or entries comes on lines in the place of those of a block scalar.
    pub raw_rows : length (new_text segments) ≤ text_limit → CarriedOut (replace n (s ∷ ss) v) c segments
    raw_rows =
        put_carried n s ss c e there last k v f segments (rows_put n s ss c e there last k v tree f full block.tail br tail same (inl (break_is l.br)))
        (rows_spell n s ss c e there last k v tree f full block.tail br tail same (inl (break_is l.br)) segments (append-nil w.before) new_is) []
        (append-nil w.after) refl refl (raw_old n s ss c e there last k space anchor block content_is) pieces

  -- ---- a literal one in the place of header and lines

  abbrev h : NodeRows n s ss c
  h = mark_node n s ss c e there last

  abbrev z : List ℕ
  z = rest n s ss c (mark_node n s ss c e there last)

  abbrev m : ℕ
  m = block.indent.columns

  module _ (a : Option (List ℕ)) (kind : Kind) (t : List ℕ) (value : IsValueTree (tree.scalar a kind t)) (f : FitsReplace n (s ∷ ss) (tree.scalar a kind t) c there.part)
      (can : can_write (record { kind = kind; text = t }) styles.Literal places.Block ≡ true) (has : has_text (node_in n (s ∷ ss) c) ≡ true) (br : Break) where
    abbrev v : Node
    v = tree.scalar a kind t

    abbrev x : ScalarText
    x = record { kind = kind; text = t }

    u : IsUtf8 t
    u = value.1.utf8

    -- the node there is the block scalar's content, so it has a text line, and a known indentation
    node_scalar : scalar_in f.node ≡ Some (record { kind = kinds.Text; text = block_content block })
    node_scalar =
        let head : there.found.line.head ≡ Some (tree.scalar None kinds.Text (block_content block)) = sym (ap (λ (q : Line). q.head) (line_is n s ss c h)) ∙ ap head_of content_is in
        ap scalar_in (node_is n s ss c e there last k v f) ∙ ap (λ o. scalar_in (anchored there.found.line.anchor (head_or o (Rattle.yq_outline.specs.Outline.value there.found.under)))) head

    known : block.indent.known ≡ true
    known = known_text block (valid n s ss c e there last k space anchor block content_is).2.lines (sym (ap holds_text node_scalar) ∙ (sym (ap has_text f.known) ∙ has))

    abbrev new_block : BlockText
    new_block = written_block t m (break_text br) block.tail

    abbrev new : Content
    new = Block space anchor (written_block t block.indent.columns (break_text br) block.tail)

    seam : ends_block false (record { columns = m; known = true }) (text_lines z) ≡ true
    seam = search (rules, (valid n s ss c e there last k space anchor block content_is).2.after, known, loose)

    is_located : IsBlock (deeper (parent_indent e.row)) new_block z
    is_located =
        let b = (valid n s ss c e there last k space anchor block content_is).2 in
        literal_block (deeper (parent_indent e.row)) m br x block.tail z u can (indent_least (deeper (parent_indent e.row)) block.digit block.indent block.raw b.indicators.small b.indent) b.tail seam

    for : IsContentFor n s ss c h v new
    for =
        let old = valid n s ss c e there last k space anchor block content_is in
        record {
          is_located = (old.0, anchor_other anchor (block_text block z) (block_text new_block z) old.1, is_located);
          apart = space_apart space (anchor_text anchor (block_text block z)) (anchor_text anchor (block_text new_block z)) old.0 (apart_is n s ss c e there last k space anchor block content_is) (block_no_space anchor block z);
          head = ap (λ q. Some (tree.scalar None kinds.Text q)) (literal_content m br x block.tail u can) ∙ ap Some (sym (string_is a kind t value can));
          comment = sym (ap (λ q. line_comment (tail_of q)) content_is);
          anchor = sym (anchor_is n s ss c e there last k space anchor block content_is);
          keys = tt;
        }

    abbrev us : List Segment
    us = literal_put (break_text br) w m t

    text : e.start ++ (rows_text e.front [] ++ rows_text (with_content new e.row ∷ []) z) ≡ new_text us
    text =
        let b : List ℕ = rows_text e.front [] in
        let head : List ℕ = header_text (chomping_of (text_lines t)) in
        let raw : List ℕ = joined (literal.raw_written m (break_text br) (text_lines t)) in
        let own : List ℕ = space ++ anchor_text anchor (block_text new_block z) in
        ap (λ r. e.start ++ (b ++ r)) (row_front-append (with_content new e.row) z)
        ∙ (regroup e.start b (row_front e.row) own
        ∙ (sym (front_text n s ss c e there last k space anchor block content_is (block_text new_block z))
        ∙ (ap (λ r. w.before ++ (w.space ++ (head ++ (block.tail ++ (raw ++ r))))) (sym (following_is n s ss c e there last) ∙ sym (append-nil w.after))
        ∙ ap (λ r. w.before ++ (w.space ++ (head ++ r))) (sym (header_line n s ss c e there last k space anchor block content_is (raw ++ (w.after ++ [])))))))

    abbrev lead : List ℕ
    lead = row_front e.row ++ (anchor_before (slices e.row) ++ space_before (slices e.row))

    before_is : w.before ++ (w.space ++ []) ≡ (e.start ++ rows_text e.front []) ++ lead
    before_is = simp (append_assoc, append-nil)

    spells : Spells n s ss c e there last k v us (with_content new e.row ∷ [])
    spells = record {
      takes = takes_content n s ss c h v new for;
      text = text;
      lead = lead;
      before_is = before_is;
      within = own_space_lead e.row;
      begins = subst (λ (r : Row). length (row_front e.row ++ (anchor_before (slices r) ++ space_before (slices r))) ≤ length (print_row (with_content new e.row) [])) (sym (row_is n s ss c e there last k space anchor block content_is))
          (own_space_lead (with_content new e.row));
    }

    pub raw_literal : length (new_text us) ≤ text_limit → CarriedOut (replace n (s ∷ ss) v) c us
    raw_literal size =
        put_carried n s ss c e there last k v f us (with_content new e.row ∷ []) spells [] (append-nil w.after) refl refl (raw_old n s ss c e there last k space anchor block content_is) (
          k.pieces.before,
          (k.pieces.space, (header_piece (chomping_of (text_lines t)), (k.white, (k.comment, (line_piece n s ss c e there last k space anchor block content_is, (nothing, (raw_piece m br x u can, (k.pieces.after, tt)))))))),
        )
        size

  -- ---- the old text

  block_old : (y : Written) → old_text (block_put br w y) ≡ cut_text c
  block_old (inline t) = held_old br w (inline t) ∙ sym k.spells
  block_old (compact_text t) = held_old br w (compact_text t) ∙ sym k.spells
  block_old (lines t) = raw_old n s ss c e there last k space anchor block content_is

  string_old : (x : ScalarText) → old_text (string_put br w block.indent.columns x) ≡ cut_text c
  string_old x =
      cond_both (can_write x styles.Literal places.Block) (literal_put br w block.indent.columns x.text) (held_put br w (inline (double x.text))) (λ us. old_text us ≡ cut_text c)
      (λ can. raw_old n s ss c e there last k space anchor block content_is) (λ other. held_old br w (inline (double x.text)) ∙ sym k.spells)

  scalar_old : (text : Bool) (y : Written) (o : Option ScalarText) → old_text (block_scalar_put text br w block.indent.columns y o) ≡ cut_text c
  scalar_old text y None = block_old y
  scalar_old text y (Some x) = cond_both (text && is_string x.kind) (string_put br w block.indent.columns x) (block_put br w y) (λ us. old_text us ≡ cut_text c) (λ string. string_old x) (λ other. block_old y)

  -- ---- a value

  -- what is written for it in the place of a block scalar
  abbrev Done : Node → List Segment → Type 0
  Done v us = length (new_text us) ≤ text_limit → CarriedOut (replace n (s ∷ ss) v) c us

  collection_done : (v : Node) (tree : IsValueTree v) (f : FitsReplace n (s ∷ ss) v c there.part) (b : Bool) → is_filled v ≡ b → Done v (block_put br w (cond b (collection_at l w.mark v) (inline (value_text places.Block [] v))))
  collection_done v tree f false full = scalar_inline n s ss c e there last k space anchor block content_is l.br v f (value_text places.Block [] v) (value_for [] v tree f.deep f.long)
  collection_done v tree f true full =
      cond_both (takes_compact w.mark) (compact_text (block_value l (item_column w.mark.column) v)) (lines (lines_in l (column_under l w.mark v) v)) (λ y. Done v (block_put br w y))
      (λ free. held_compact n s ss c e there last k v tree f full free) (λ other. raw_rows v tree f full)

  string_done : (a : Option (List ℕ)) (kind : Kind) (t : List ℕ) (value : IsValueTree (tree.scalar a kind t))
      (f : FitsReplace n (s ∷ ss) (tree.scalar a kind t) c there.part) → has_text (node_in n (s ∷ ss) c) ≡ true → is_string kind ≡ true →
      Done (tree.scalar a kind t) (string_put br w block.indent.columns (record { kind = kind; text = t }))
  string_done a kind t value f has string =
      cond_both (can_write (record { kind = kind; text = t }) styles.Literal places.Block) (literal_put br w block.indent.columns t) (held_put br w (inline (double t))) (Done (tree.scalar a kind t))
      (λ can. raw_literal a kind t value f can has l.br)
      (λ other. scalar_inline n s ss c e there last k space anchor block content_is l.br (tree.scalar a kind t) f (double t) (scalar_for a (record { kind = kind; text = t }) styles.Double value tt string))

  value_done : (v : Node) → IsValueTree v → FitsReplace n (s ∷ ss) v c there.part → Done v (block_scalar_put (has_text (node_in n (s ∷ ss) c)) br w block.indent.columns (written_at l w.mark [] v) (scalar_in v))
  value_done (tree.alias name) h f = absurd h
  value_done (tree.list a cs) h f = collection_done (tree.list a cs) h f (is_filled (tree.list a cs)) refl
  value_done (tree.map a cs) h f = collection_done (tree.map a cs) h f (is_filled (tree.map a cs)) refl
  value_done (tree.scalar a kind t) h f = go (has_text (node_in n (s ∷ ss) c)) refl (is_string kind) refl
    where
      other : Done (tree.scalar a kind t) (held_put br w (inline (value_text places.Block [] (tree.scalar a kind t))))
      other = collection_done (tree.scalar a kind t) h f false refl

      go : (x : Bool) → has_text (node_in n (s ∷ ss) c) ≡ x → (y : Bool) → is_string kind ≡ y →
          Done (tree.scalar a kind t) (cond (x && y) (string_put br w block.indent.columns (record { kind = kind; text = t })) (held_put br w (inline (value_text places.Block [] (tree.scalar a kind t)))))
      go true has true string = string_done a kind t h f has string
      go _ has _ string = other

  -- A value in the place of the block scalar.
  pub scalar_edit : (v : Node) → IsEdit (replace n (s ∷ ss) v) c (value_put (has_text (node_in n (s ∷ ss) c)) l v (placements.block w block.indent.columns))
  scalar_edit v = search (rules, scalar_old, value_done, fits_replace)
