-- Values that operations put in the place of nodes that are alone on their lines, wherever their rows are still.
use Rattle.std.proofs.Common.{◌≡◌, ℕ, suc, ◌+◌, ◌≤◌, ◌<◌, Bool, true, false, cond, eqb, eqb-true, List, [], ◌∷◌, ◌++◌, length, map, Option}
use Rattle.std.proofs.Common.{Some, None, option_map, refl, sym, ap, ◌∙◌, subst, arith, append_assoc, length-append, string_bytes}
use Rattle.std.{proofs.lemmas.Str.{IsCharBoundary-at_seam, IsUtf8-append}, specs.Str.{IsCharBoundary, IsUtf8}, specs.List.slice_get}
use Rattle.yq_text.{specs.Limit.text_limit, specs.Script.keep}
use Rattle.yq_core.{specs.Paths.Step, specs.Tree.Node, specs.declared.style.Place.TheVariants.Block as InBlock}
use Rattle.yq_row_table.specs.Rows.{Cut, cut_text}
use Rattle.yq_documents.{specs.Documents.document_parts, specs.LinesInRows.{document_row, row_line_at}, specs.Located.steps_of}
use Rattle.yq_documents.{specs.Pieces.TextPiece, specs.Reading.{cut_of, read_at}, specs.declared.path.Path.Path}
use Rattle.yq_outline.specs.declared.line_position.Position.{Position}
use Rattle.yq_places.{specs.NodesAt.node_in, specs.RowWalk.document_row_range}
use Rattle.yq_places.{specs.Placements.{RowsOfEntry, alone, rows_of_entry, placement_at}, specs.RowLineReading.position_in}
use Rattle.yq_places.proofs.PrintedTexts.{map_some}
use Rattle.yq_edit_rules.{specs.Edits.op_edits, specs.Operands.HasOperand, specs.ReplaceEdits.lone_put, specs.Replacing.keeps_scalar}
use Rattle.yq_edit_rules.{specs.WrittenValues.value_text, proofs.PlacementRows.rows_located}
use Rattle.yq_semantics.specs.Operations.{replace}
use Rattle.yq_edit_laws.{proofs.CutLaws.{cut_read, text_read}, proofs.EntryNodeLaws.entry_node}
use Rattle.yq_edit_laws.{proofs.LoneRows.{PutsLone, lone_puts_root, lone_puts_under}, proofs.RowEditLaws.{lone_edits, lone_puts}}
use Rattle.yq_batch.specs.RowRuns.{IsLoneRow, IsRowsPlace, IsWrittenSo, PutsInRow, PutsSo, PutsText, RowsPlace, StaysThere, bytes_in}
use Rattle.yq_batch.{specs.RowRuns.{first_at, of_lone, of_root, place_rows, rows_now}, specs.declared.row_put.RowPut.RowPut}
use Rattle.yq_batch.{proofs.ExchangedRows.exchanges_row, proofs.RowHeadLaws.row_number}
use Rattle.yq_batch.proofs.LonePlaces.{IsLoneRoot, IsLoneUnder, lone_root, lone_under, root_node, root_is_there, under_is_there}

-- In a cut a node is alone on its line, and is the one of the first cut, as are the texts from it on.
record IsLoneAt (n : ℕ) (steps : List Step) (v : Node) (c d : Cut) (e : RowsOfEntry) (w : TextPiece) : Type 0 where
  piece : TextPiece
  is_located : placement_at n steps d ≡ Some (alone piece)
  node : node_in n steps d ≡ node_in n steps c
  text : piece.text ≡ w.text
  after : piece.after ≡ w.after
  puts : PutsLone n steps v d e piece

module _ (n : ℕ) (steps : List Step) (v : Node) (c d : Cut) (e : RowsOfEntry) (w : TextPiece) (x : IsLoneAt n steps v c d e w) where
  by_kept : (b : Bool) → keeps_scalar (node_in n steps c) v ≡ b → op_edits (replace n steps v) d ≡ cond b (Some (keep (cut_text d) ∷ [])) (Some (lone_put x.piece v))
  by_kept b kept =
      lone_edits n steps v d x.piece x.is_located
      ∙ ap (λ (k : Bool). cond k (Some (keep (cut_text d) ∷ [])) (Some (lone_put x.piece v))) (ap (λ (o : Option Node). keeps_scalar o v) x.node ∙ kept)

  lone_comes : keeps_scalar (node_in n steps c) v ≡ false → PutsText (replace n steps v) d e w.text (value_text InBlock w.text v) w.after
  lone_comes other =
      subst (λ (l : List ℕ). PutsText (replace n steps v) d e w.text (value_text InBlock w.text v) l) x.after
      (subst (λ (l : List ℕ). PutsText (replace n steps v) d e l (value_text InBlock l v) x.piece.after) x.text
      (record {
        segments = lone_put x.piece v;
        front = x.piece.before;
        edited = by_kept false other;
        whole = x.puts.edit.old;
        puts = lone_puts x.piece v x.puts.some;
        changes = λ operand fit size. exchanges_row n d e (lone_put x.piece v) (x.puts.changes operand fit size);
      }))

  lone_so : (o : Option (List ℕ)) → IsWrittenSo (node_in n steps c) v w.text o → PutsSo (replace n steps v) d e w.text w.after o
  lone_so None kept = by_kept true kept
  lone_so (Some l) other = subst (λ (l : List ℕ). PutsText (replace n steps v) d e w.text l w.after) (sym other.1) (lone_comes other.0)

-- ---- a place, in each cut in which its rows are still

-- Where a node is that is alone on its line: in each cut in which its rows are still.
record IsLonePlace (n : ℕ) (steps : List Step) (v : Node) (c : Cut) (w : TextPiece) : Type 0 where
  place : RowsPlace
  found : IsRowsPlace place n c
  text : cut_text c ≡ w.before ++ (w.text ++ w.after)
  row : (first row : ℕ) → IsLoneRow n steps c first row → (first ≡ document_row n c + first_at place) × (row ≡ document_row n c + length (place_rows place).front)
  still : (d : Cut) → read_at (cut_text d) ≡ Some d → (s : StaysThere place n d) → IsLoneAt n steps v c d (rows_now place n d s) w

lone_place : (n : ℕ) (steps : List Step) (v : Node) (c : Cut) (w : TextPiece) → read_at (cut_text c) ≡ Some c → placement_at n steps c ≡ Some (alone w) → IsLonePlace n steps v c w
lone_place n [] v c w read is =
    let h : IsLoneRoot c n w = lone_root c n w is in
    let own = lone_puts_root n v c h.part h.row h.back read h.placed h.rows h.one in
    record {
      place = of_root h.part h.row h.back;
      found = (h.placed, h.rows);
      text = subst (λ (x : TextPiece). cut_text c ≡ x.before ++ (x.text ++ x.after)) h.same (sym own.edit.old ∙ (lone_puts _ v own.some).old_is);
      row = λ first row lines. (omega (arith, lines.0), omega (arith, lines.1));
      still = λ d read_d s. record {
        piece = _;
        is_located = root_is_there d n (record h.part { before = s.start }) h.row h.back s.found h.rows h.one;
        node = root_node d n (record h.part { before = s.start }) s.found ∙ sym (root_node c n h.part h.placed);
        text = ap (λ (x : TextPiece). x.text) h.same;
        after = ap (λ (x : TextPiece). x.after) h.same;
        puts = lone_puts_root n v d (record h.part { before = s.start }) h.row h.back read_d s.found h.rows h.one;
      };
    }
lone_place n (s ∷ ss) v c w read is =
    let h : IsLoneUnder c n (s ∷ ss) w = lone_under c n s ss w is in
    let e : RowsOfEntry = h.entry in
    let own = lone_puts_under n s ss v c e h.row h.back read h.found h.bare.last h.are h.one in
    record {
      place = of_lone (s ∷ ss) e h.row h.back;
      found = (h.found, h.are);
      text = subst (λ (x : TextPiece). cut_text c ≡ x.before ++ (x.text ++ x.after)) h.same (sym own.edit.old ∙ (lone_puts _ v own.some).old_is);
      row = λ first row lines.
          let l = lines e h.found in
          (l.0, omega (arith, l.0, l.1, length-append e.front (e.row ∷ [])));
      still = λ d read_d k.
          let now : RowsOfEntry = record e { start = k.start; front = k.front } in
          record {
            piece = _;
            is_located = under_is_there d n s ss now h.row h.back k.found (record { last = h.bare.last; plain = h.bare.plain; none = h.bare.none }) h.are h.one;
            node = entry_node n s ss d now (rows_located n s ss d now read_d k.found) h.bare.last ∙ sym (entry_node n s ss c e (rows_located n s ss c e read h.found) h.bare.last);
            text = ap (λ (x : TextPiece). x.text) h.same;
            after = ap (λ (x : TextPiece). x.after) h.same;
            puts = lone_puts_under n s ss v d now h.row h.back read_d k.found h.bare.last h.are h.one;
          };
    }

-- ---- what the code tells

-- a path without steps
pub no_steps : {A B : Type 0} (f : A → B) (xs : List A) {n : ℕ} → eqb n 0 ≡ true → n ≡ length xs → map f xs ≡ []
no_steps f [] e same = refl
no_steps f (x ∷ xs) e same = absurd (omega (arith, eqb-true _ 0 e, same))

-- the first row of a document that is walked
pub walk_begins : (n : ℕ) (c : Cut) (x : ℕ × ℕ) → Some x ≡ document_row_range n c → x.0 ≡ document_row n c
walk_begins n c x is = let y = map_some (slice_get (document_parts c) n) (sym is) in sym (ap (λ (z : ℕ × ℕ). z.0) y.2)

module _ (t : List ℕ) (n : ℕ) (steps : List Step) (v : Node) (w : TextPiece) (read : read_at t ≡ Some (cut_of t)) (is : placement_at n steps (cut_of t) ≡ Some (alone w)) where
  abbrev c : Cut
  c = cut_of t

  again : read_at (cut_text c) ≡ Some c
  again = ap read_at (text_read t c read) ∙ read

  h : IsLonePlace n steps v c w
  h = lone_place n steps v c w again is

  -- it ends within a text's limit
  pub lone_fits : length w.before + length w.text ≤ text_limit
  lone_fits =
      let text = ap length h.text in
      omega (arith, (cut_read (cut_text c) c again).size, text, length-append w.before (w.text ++ w.after), length-append w.text w.after)

  -- what an operation puts there
  pub lone_puts_there : (put : RowPut) → HasOperand (replace n steps v) → IsUtf8 w.text → IsUtf8 w.after → put.doc ≡ n → IsLoneRow n steps c put.first put.row → put.start ≡ length w.before → put.end ≡ length w.before + length w.text →
      IsWrittenSo (node_in n steps c) v w.text (bytes_in string_bytes put.written) → PutsInRow (replace n steps v) c put
  lone_puts_there put operand text after doc lines start finish written =
      let apart : cut_text c ≡ (w.before ++ w.text) ++ w.after = h.text ∙ sym (append_assoc w.before w.text w.after) in
      let at = h.row put.first put.row lines in
      record {
        place = h.place;
        found = h.found;
        document = doc;
        first = at.0;
        row = at.1;
        valid = operand;
        before = w.before;
        old = w.text;
        after = w.after;
        text = h.text;
        start = start;
        finish = finish;
        starts = subst (IsCharBoundary (cut_text c)) (sym start) (IsCharBoundary-at_seam (cut_text c) w.before _ h.text (IsUtf8-append w.text w.after text after));
        ends = subst (IsCharBoundary (cut_text c)) (sym finish) (subst (IsCharBoundary (cut_text c)) (length-append w.before w.text) (IsCharBoundary-at_seam (cut_text c) (w.before ++ w.text) w.after apart after));
        there = λ d there breaks still. lone_so n steps v c d (rows_now h.place n d still) w (h.still d there still) (bytes_in string_bytes put.written) written;
      }

-- the row under that of an item or entry
pub under_line : (c : Cut) (p : Path) (x : Position) (row : ℕ) (steps : List Step) → steps_of p ≡ steps → 0 < length steps → Some x ≡ option_map (position_in (document_row p.doc c)) (row_line_at p c) →
    row ≡ suc x.row → IsLoneRow p.doc steps c x.row row
under_line c p x row [] same some is next = absurd (omega (arith, some))
under_line c p x row (s ∷ ss) same some is next = λ e found. (row_number c p e x (ap (λ (ts : List Step). rows_of_entry p.doc ts c) same ∙ found) is, next)
