-- What is at items and entries, by the rows that the code has found.
use Rattle.std.proofs.Common.{rules, ◌≡◌, ℕ, suc, ◌+◌, ◌<◌, eqb, Bool, true, false, ◌&&◌, List, [], ◌∷◌, ◌++◌, length, length-append, map}
use Rattle.std.proofs.Common.{Option, Some, None, option_map, refl, sym, ap, ◌∙◌, arith, append_assoc}
use Rattle.std.proofs.lemmas.Bool.{cond-false, cond-true, eq-eqb, false≢true, ne_eqb}
use Rattle.yq_core.{specs.Answers.◌>>=◌, specs.Block.BlockText, specs.Paths.Step, specs.Text.is_empty}
use Rattle.yq_outline.{specs.Positions.has_no_mark, specs.Lines.line_mark, proofs.RowLaws.colon_some}
use Rattle.yq_row_table.{specs.Grammar.IsMark, specs.Removal.{block_numbers, block_of}}
use Rattle.yq_row_table.specs.Rows.{Content, Row, dashes_text, print_row, rows_text, Cut}
use Rattle.yq_row_table.{specs.View.{Slices, slices, colon_of, content_cut, last_dash, RowsView}, proofs.seams.SeamLaws.rows_text-append}
use Rattle.yq_documents.specs.Reading.{cut_of}
use Rattle.yq_places.specs.Placements.{RowsOfEntry, alone, before_entry, after_entry, past_mark, below, beside, block, compact_in}
use Rattle.yq_places.specs.Placements.{entry_placement, held, is_alone, lone, placement_at, under}
use Rattle.yq_places.{specs.PlacementReading.{AreRowsOf, IsEntryIn, numbers_at}, specs.PlacementViews.{held_at, held_if_last}}
use Rattle.yq_places.{proofs.EntryNumbers.{FoundEntry, no_entry}, proofs.LinesCutLaws.none_is, proofs.RemovalTexts.texts_then}
use Rattle.yq_row_table.specs.Rows as rows
use Rattle.yq_places.specs.declared.places.rows_of_entry.RowsOfEntry as declared

-- ---- a node that is alone on its line

marks : (ns : List ℕ) (m : rows.RowMark) (x : Content) (rest : List ℕ) → IsMark m x rest → (is_empty (dashes_text ns (last_dash m)) && is_empty (colon_of m)) ≡ (is_empty ns && has_no_mark (line_mark m))
marks ns m x rest h = search (rules, colon_some)

alone_agrees : (r : Row) (s : Slices) (rest : List ℕ) → slices r ≡ s → IsMark r.mark r.content rest → (is_empty s.dashes && is_empty s.colon) ≡ is_alone r
alone_agrees r s rest is h = ap (λ (y : Slices). is_empty y.dashes && is_empty y.colon) (sym is) ∙ marks r.dashes r.mark r.content rest h

pub then_alone : (r : Row) (s : Slices) (rest dashes colon : List ℕ) → slices r ≡ s → IsMark r.mark r.content rest → dashes ≡ s.dashes → colon ≡ s.colon → eqb (length dashes) 0 ≡ true → eqb (length colon) 0 ≡ is_alone r
then_alone r s rest dashes colon is h a b e =
    let none : true ≡ is_empty s.dashes = sym e ∙ (none_is dashes ∙ ap is_empty a) in
    none_is colon ∙ (ap is_empty b ∙ (ap (λ x. x && is_empty s.colon) none ∙ alone_agrees r s rest is h))

pub else_alone : (r : Row) (s : Slices) (rest dashes : List ℕ) → slices r ≡ s → IsMark r.mark r.content rest → dashes ≡ s.dashes → eqb (length dashes) 0 ≡ false → false ≡ is_alone r
else_alone r s rest dashes is h a e = search (rules, sym e ∙ (none_is dashes ∙ ap is_empty a), alone_agrees)

-- ---- rows under it

pub none_below : (t : List ℕ) (s : RowsView) (e : RowsOfEntry) (m : declared.RowsOfEntry) → IsEntryIn t s e m → m.row + 1 ≡ m.end → beside (held e) ≡ below e e.under
none_below t s e m h same = search (rules, arith)

-- the first row under it, with those under that, as rows of an item or entry
abbrev pub next_entry : RowsOfEntry → Row → List Row → RowsOfEntry
next_entry e r rs = record { start = e.start; front = e.front ++ (e.row ∷ []); row = r; line = 0; under = rs; back = e.back; end = e.end; after = e.after }

-- The first row under it, with the others.
pub record HasUnder (t : List ℕ) (s : RowsView) (e : RowsOfEntry) (row end : ℕ) : Type 0 where
  pub first : Row
  pub others : List Row
  pub under_is : e.under ≡ first ∷ others
  pub rows : AreRowsOf t s (next_entry e first others) (row + 1) end

pub has_under : (t : List ℕ) (s : RowsView) (e : RowsOfEntry) (m : declared.RowsOfEntry) → IsEntryIn t s e m → (m.row + 1 ≡ m.end → ⊥) → HasUnder t s e m.row m.end
has_under t s e m h some = go e.under refl
  where
    go : (us : List Row) → e.under ≡ us → HasUnder t s e m.row m.end
    go [] is = absurd (some (let size : length e.under ≡ 0 = ap length is in omega (arith, h.rows.last_is, size)))
    go (r ∷ rs) is =
        let own = h.rows in
        let size : length e.under ≡ suc (length rs) = ap length is in
        record {
          first = r;
          others = rs;
          under_is = is;
          rows = record {
            cut = own.cut;
            rows_view_is = own.rows_view_is;
            document = own.document;
            part = own.part;
            placed = own.placed;
            rows_are = own.rows_are ∙ (ap (λ (us : List Row). e.front ++ (e.row ∷ (us ++ e.back))) is ∙ sym (append_assoc e.front (e.row ∷ []) (r ∷ (rs ++ e.back))));
            start_is = own.start_is;
            end_is = own.end_is;
            following_is = own.following_is;
            row_is = omega (arith, own.row_is, length-append e.front (e.row ∷ []));
            last_is = omega (arith, own.last_is, size);
          };
        }

module _ (t : List ℕ) (s : RowsView) (e : RowsOfEntry) (row end : ℕ) (h : HasUnder t s e row end) where
  before_is : before_entry (next_entry e h.first h.others) ≡ before_entry e ++ print_row e.row []
  before_is =
      ap (λ (x : List ℕ). e.start ++ x) (rows_text-append e.front (e.row ∷ []) [] ∙ texts_then e.front [] (print_row e.row []))
      ∙ sym (append_assoc e.start (rows_text e.front []) (print_row e.row []))

  pub alone_is : is_alone h.first ≡ true → alone (lone (before_entry (next_entry e h.first h.others)) h.first (rows_text h.others (after_entry e))) ≡ below e e.under
  alone_is a = search (rules, before_is, cond-true, a, h.under_is)

  pub under_is : is_alone h.first ≡ false → under (held e) h.first.column ≡ below e e.under
  under_is a = search (rules, cond-false, a, h.under_is)

-- ---- by the row's content

pub some_block : (o : Option BlockText) (z : ℕ) (k : Bool) → Some (k, z) ≡ option_map block_numbers o → (b : BlockText) × ((o ≡ Some b) × (z ≡ b.indent.columns))
some_block o z k e = search rules

pub no_block : (o : Option BlockText) → None ≡ option_map block_numbers o → o ≡ None
no_block o e = search rules

block_mark : (e : RowsOfEntry) (x : Content) (b : BlockText) → block_of x ≡ Some b → block (held e) b.indent.columns ≡ past_mark e x
block_mark e x b is = search rules

no_head : (e : RowsOfEntry) (x : Content) → block_of x ≡ None → is_empty (slices e.row).head ≡ true → below e e.under ≡ past_mark e x
no_head e x h2 is = search (rules, cond-true)

some_head : (e : RowsOfEntry) (x : Content) → block_of x ≡ None → (slices e.row).head ≡ (content_cut x).3 → is_empty (slices e.row).head ≡ false → beside (held e) ≡ past_mark e x
some_head e x h2 head is = search (rules, false≢true, cond-false)

module _ (t : List ℕ) (s : RowsView) (e : RowsOfEntry) (m : declared.RowsOfEntry) (h : IsEntryIn t s e m) where
  mark_here : m.line ≡ m.dashes → past_mark e e.row.content ≡ entry_placement e
  mark_here same = sym (cond-true (eqb e.line (length e.row.dashes)) (past_mark e e.row.content) (compact_in e) (eq-eqb e.line (length e.row.dashes) (sym h.line ∙ (same ∙ h.dashes))))

  pub block_here : m.line ≡ m.dashes → (b : BlockText) → block_of e.row.content ≡ Some b → block (held e) b.indent.columns ≡ entry_placement e
  block_here same b is = block_mark e e.row.content b is ∙ mark_here same

  pub below_here : m.line ≡ m.dashes → block_of e.row.content ≡ None → is_empty (slices e.row).head ≡ true → below e e.under ≡ entry_placement e
  below_here same none is = no_head e e.row.content none is ∙ mark_here same

  pub beside_here : m.line ≡ m.dashes → block_of e.row.content ≡ None → is_empty (slices e.row).head ≡ false → beside (held e) ≡ entry_placement e
  beside_here same none is = some_head e e.row.content none refl is ∙ mark_here same

-- ---- at a path

pub some_steps : {A : Type 0} (f : A → Step) (xs : List A) {n : ℕ} → eqb n 0 ≡ false → n ≡ length xs → 0 < length (map f xs)
some_steps f [] e same = absurd (false≢true (sym e ∙ eq-eqb _ 0 same))
some_steps f (x ∷ xs) e same = omega arith

pub no_held : (n : ℕ) (steps : List Step) (c : Cut) → None ≡ numbers_at n steps c → None ≡ held_at n steps c
no_held n steps c e = sym (ap (λ (o : Option RowsOfEntry). o >>= held_if_last) (no_entry n steps c e))

pub no_placement : (n : ℕ) (steps : List Step) (c : Cut) → None ≡ numbers_at n steps c → 0 < length steps → None ≡ placement_at n steps c
no_placement n steps c e some = search (rules, arith, no_entry)

module _ (t : List ℕ) (s : RowsView) (n : ℕ) (steps : List Step) (m : declared.RowsOfEntry) (f : FoundEntry t s n steps m) where
  pub other_held : (m.line ≡ m.dashes → ⊥) → None ≡ held_at n steps (cut_of t)
  other_held other = search (rules, cond-false, ne_eqb)

  pub held_there : m.line ≡ m.dashes → Some (held f.entry) ≡ held_at n steps (cut_of t)
  held_there same = search (rules, cond-true, eq-eqb)

  pub placement_there : 0 < length steps → Some (entry_placement f.entry) ≡ placement_at n steps (cut_of t)
  placement_there some = search (rules, arith)
