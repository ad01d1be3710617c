-- Entries, items and their contents are in the text, from one whole character to another.
use Rattle.std.proofs.Common.{◌≡◌, ◌⊎◌, inl, inr, ℕ, suc, ◌+◌, ◌-◌, ◌<◌, ◌≤◌, eqb, ltb, List, [], ◌∷◌, ◌++◌, length, drop, Option, Some}
use Rattle.std.proofs.Common.{None, is_some, option_map, option_and_then, Bool, true, false, cond, refl, sym, subst, arith, length-append}
use Rattle.std.{proofs.Common.rules, proofs.lemmas.Bool.{ltb-true, ltb-false, eqb-false}}
use Rattle.std.{proofs.lemmas.Option.{slice_get_within, none-some, same_Some}, specs.List.slice_get, specs.Str.IsUtf8}
use Rattle.yq_core.{specs.Answers.◌>>=◌, specs.Paths.Step, proofs.Bools.bind_some, specs.Entries.{PlacedEntry, entry_place, content_place}}
use Rattle.yq_core.specs.Spans.{IsSpan}
use Rattle.yq_row_table.{specs.Grammar.IsCut, specs.Rows.{Row, Cut, cut_text}, specs.View.rows_of}
use Rattle.yq_documents.{specs.declared.path.Path.Path, specs.Documents.document_parts, specs.Located.steps_of}
use Rattle.yq_documents.{specs.LinesInRows.{RowLine, one_row_later, row_line, document_row}, proofs.PartRows.part_begins}
use Rattle.yq_places.specs.EntryReading.{lines_place, line_entry, line_head, lines_content, line_content, flow_entry, entry_from}
use Rattle.yq_places.specs.EntryReading.{content_from, entry_of, node_place_of, entry_at, content_row_place}
use Rattle.yq_places.{proofs.EntryPlaceLaws.row_there, proofs.FinishLaws.{row_boundary, lines_order}}
use Rattle.yq_places.{proofs.FlowSpanLaws.{AreSpans, flow_spans}, proofs.HeadSpanLaws.head_span, proofs.SeamLaws.line_boundary}
use Rattle.yq_outline.{specs.Lines.lines_of_rows, specs.Ends.{reached, lines_end}, specs.Positions.has_no_mark, proofs.LineEnds.end_within}
use Rattle.yq_outline.proofs.RowLaws.{lines_count}

-- a line that has a row line is there, and lines have theirs in order
row_line_within : (rs : List Row) (n : ℕ) (s : RowLine) → row_line n rs ≡ Some s → n < length (lines_of_rows rs)
row_line_within [] n s e = absurd (none-some _ e)
row_line_within (r ∷ rs) n s e = search (rules, lines_count, none-some, ltb-true, length-append, ltb-false, row_line_within rs (n - suc (length r.dashes)))

row_lines_order : (rs : List Row) (from to : ℕ) (s q : RowLine) → from ≤ to → row_line from rs ≡ Some s → row_line to rs ≡ Some q → s.before ≤ q.before
row_lines_order [] from to s q h e f = absurd (none-some _ e)
row_lines_order (r ∷ rs) from to s q h e f =
    go (ltb (length r.dashes) from) refl (ltb (length r.dashes) to) refl (row_line (from - suc (length r.dashes)) rs) refl (row_line (to - suc (length r.dashes)) rs) refl
    (λ x y less a b. row_lines_order rs (from - suc (length r.dashes)) (to - suc (length r.dashes)) x y less a b) e f
  where
    go : (a : Bool) → ltb (length r.dashes) from ≡ a → (b : Bool) → ltb (length r.dashes) to ≡ b → (o : Option RowLine) → row_line (from - suc (length r.dashes)) rs ≡ o → (p : Option RowLine) → row_line (to - suc (length r.dashes)) rs ≡ p →
        ((x y : RowLine) → from - suc (length r.dashes) ≤ to - suc (length r.dashes) → row_line (from - suc (length r.dashes)) rs ≡ Some x → row_line (to - suc (length r.dashes)) rs ≡ Some y → x.before ≤ y.before) →
        cond a (option_map one_row_later o) (Some (record { before = 0; row = r; line = from })) ≡ Some s → cond b (option_map one_row_later p) (Some (record { before = 0; row = r; line = to })) ≡ Some q → s.before ≤ q.before
    go a h1 b h2 o h3 p h4 h5 h6 h7 = search (rules, same_Some, ltb-true, ltb-false, none-some)

-- the places among the rows of a document
module _ (c : Cut) (rs more : List Row) (k : ℕ) (u : IsUtf8 (cut_text c)) (cut : IsCut (cut_text c) c) (there : drop k (rows_of c) ≡ rs ++ more) where
  abbrev Spans : ℕ × ℕ → Type 0
  Spans x = IsSpan (cut_text c) x.0 x.1

  lines_span : (from to : ℕ) (x : ℕ × ℕ) → from ≤ to → lines_place k c rs from to ≡ Some x → Spans x
  lines_span from to x less e = search (rules, bind_some, row_there, same_Some, lines_order, row_lines_order, line_boundary, row_boundary)

  line_span : (n : ℕ) (x : ℕ × ℕ) → line_entry k c rs n ≡ Some x → Spans x
  line_span n x e =
      let a = bind_some (row_line n rs) e in
      let ends = end_within (lines_of_rows rs) n (row_line_within rs n a.0 a.1) in
      lines_span n (lines_end n (lines_of_rows rs) - 1) x (omega (arith, ends.0)) e

  head_spans : (n : ℕ) (x : ℕ × ℕ) → line_head k c rs n ≡ Some x → Spans x
  head_spans n x e = search (rules, bind_some, same_Some, head_span, row_there)

  lines_spans : (from to : ℕ) (x : ℕ × ℕ) → from ≤ to → lines_content k c rs from to ≡ Some x → Spans x
  lines_spans from to x less e = go (eqb from to) refl e
    where
      of : (b : Bool) → from < to → cond b (line_head k c rs from) (lines_place k c rs from (to - 1)) ≡ Some x → Spans x
      of true more e = head_spans from x e
      of false more e = lines_span from (to - 1) x (omega (arith, more)) e

      go : (b : Bool) → eqb from to ≡ b → cond b None (slice_get (lines_of_rows rs) from >>= λ l. cond (has_no_mark l.mark) (line_head k c rs from) (lines_place k c rs from (to - 1))) ≡ Some x → Spans x
      go b t e = search (rules, none-some, bind_some, of, eqb-false)

  line_spans : (n : ℕ) (x : ℕ × ℕ) → line_content k c rs n ≡ Some x → Spans x
  line_spans n x e = let l = bind_some (slice_get (lines_of_rows rs) n) e in go (is_some l.0.head) (end_within (lines_of_rows rs) n (slice_get_within (lines_of_rows rs) n l.0 l.1)).0 l.2
    where
      go : (b : Bool) → n < lines_end n (lines_of_rows rs) → cond b (line_head k c rs n) (lines_content k c rs (suc n) (lines_end n (lines_of_rows rs))) ≡ Some x → Spans x
      go true less e = head_spans n x e
      go false less e = lines_spans (suc n) (lines_end n (lines_of_rows rs)) x (omega (arith, less)) e

  in_flow : (n : ℕ) (s : Step) (ss : List Step) (e : PlacedEntry) → flow_entry k c rs n (s ∷ ss) ≡ Some e → AreSpans (cut_text c) e
  in_flow n s ss e is = let a = bind_some (row_line n rs) is in flow_spans c (k + a.0.before) a.0.row u cut (row_there c rs more k n a.0 there a.1) s ss e a.2

  entry_span : (n : ℕ) (left : List Step) (x : ℕ × ℕ) → entry_from k c rs n left ≡ Some x → Spans x
  entry_span n [] x e = line_span n x e
  entry_span n (s ∷ ss) x e = go (flow_entry k c rs n (s ∷ ss)) refl e
    where
      go : (o : Option PlacedEntry) → flow_entry k c rs n (s ∷ ss) ≡ o → option_map entry_place o ≡ Some x → Spans x
      go o h1 h2 = search (rules, none-some, same_Some, in_flow)

  content_span : (n : ℕ) (left : List Step) (x : ℕ × ℕ) → content_from k c rs n left ≡ Some x → Spans x
  content_span n [] x e = line_spans n x e
  content_span n (s ∷ ss) x e = go (flow_entry k c rs n (s ∷ ss)) refl e
    where
      go : (o : Option PlacedEntry) → flow_entry k c rs n (s ∷ ss) ≡ o → option_and_then (λ (y : PlacedEntry). content_place y.1) o ≡ Some x → Spans x
      go None is e = absurd (none-some _ e)
      go (Some y) is e = (in_flow n s ss y is).1 x e

  entries_span : (steps : List Step) (x : ℕ × ℕ) → entry_of k c rs steps ≡ Some x → Spans x
  entries_span steps x e = let y = bind_some (reached steps (lines_of_rows rs)) e in entry_span y.0.0 y.0.1 x y.2

  contents_span : (steps : List Step) (x : ℕ × ℕ) → node_place_of k c rs steps ≡ Some x → Spans x
  contents_span [] x e = lines_spans 0 (length (lines_of_rows rs)) x (omega arith) e
  contents_span (s ∷ ss) x e = let y = bind_some (reached (s ∷ ss) (lines_of_rows rs)) e in content_span y.0.0 y.0.1 x y.2

pub entries_placed : (t : List ℕ) (c : Cut) (p : Path) (x : ℕ × ℕ) → IsCut t c → IsUtf8 t → (entry_at p c ≡ Some x) ⊎ (content_row_place p c ≡ Some x) → IsSpan t x.0 x.1
entries_placed t c p x cut u found =
    subst (λ (q : List ℕ). IsSpan q x.0 x.1) (sym cut.text) (go (subst IsUtf8 cut.text u) (subst (λ (q : List ℕ). IsCut q c) cut.text cut) found)
  where
    go : IsUtf8 (cut_text c) → IsCut (cut_text c) c → (entry_at p c ≡ Some x) ⊎ (content_row_place p c ≡ Some x) → IsSpan (cut_text c) x.0 x.1
    go u cut (inl e) =
        let d = bind_some (slice_get (document_parts c) p.doc) e in
        let b = part_begins c p.doc d.0 d.1 in
        entries_span c d.0.rows b.0 (document_row p.doc c) u cut b.1 (steps_of p) x d.2
    go u cut (inr e) =
        let d = bind_some (slice_get (document_parts c) p.doc) e in
        let b = part_begins c p.doc d.0 d.1 in
        contents_span c d.0.rows b.0 (document_row p.doc c) u cut b.1 (steps_of p) x d.2
