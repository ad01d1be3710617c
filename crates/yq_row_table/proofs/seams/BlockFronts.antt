-- A gap that comes after a block scalar in the place of another one, repaired.
use Rattle.std.proofs.Common.{◌≡◌, ◌⊎◌, ℕ, ◌<◌, true, false, List, [], ◌∷◌, ◌++◌, Some, None, refl, sym, ap, ◌∙◌, subst, append_assoc}
use Rattle.std.{proofs.Common.rules, proofs.lemmas.Bool.cases_Bool}
use Rattle.yq_core.{specs.Block.{RawLines, BlockText, IsBlock, ends_block, keeps}, specs.BlockRepair.{AreGap, repair, comes_later}}
use Rattle.yq_core.{specs.BlockWritten.ends_with_break, specs.Text.{is_empty, text_lines, joined}, proofs.BlockRepairText.repair_is_there}
use Rattle.yq_core.proofs.LineLaws.{joined-append}
use Rattle.yq_row_table.{specs.Gap.{AreGapLines, IsGap}, specs.Grammar.{IsContent, Limit, limit_after, AreRows}}
use Rattle.yq_row_table.specs.Rows.{Content, Nothing, Inline, Block, Row, parent_indent, rows_text}
use Rattle.yq_row_table.{specs.Removal.{block_of, last_block, seam_gap}, specs.Seams.{are_seamed, ends_in_block}}
use Rattle.yq_row_table.proofs.seams.GapSeams.{gap_kinds, gap_lines_of, lines_before, gap_closed}
use Rattle.yq_row_table.proofs.seams.GapFronts.{gap_lines, ends_blank, ends_comment}

-- the lines in front of a gap
lines_front : (ks run : RawLines) (x : List ℕ) → AreGapLines (ks ++ run) x → AreGapLines ks (joined run ++ x)
lines_front [] run x h = tt
lines_front (l ∷ ks) run x h = search (rules, joined-append, append_assoc, lines_front ks run x h.1)

pub gap_front : (gap x : List ℕ) (ks run : RawLines) → IsGap gap x → text_lines gap ≡ ks ++ run → AreGapLines ks (joined run ++ x)
gap_front gap x ks run h is =
    let same : h.lines ≡ ks ++ run = sym (gap_lines gap x h) ∙ is in
    lines_front ks run x (subst (λ (ls : RawLines). AreGapLines ls x) same h.each)

-- a gap after a block scalar
pub block_seam : (least column : ℕ) (b : BlockText) (ks : RawLines) (x next rest : List ℕ) → IsBlock least b (joined ks ++ x) → AreGapLines ks x →
    is_empty x ≡ false → IsGap next rest → column < b.indent.columns → comes_later b.indent (text_lines rest) ≡ true →
    ends_block (keeps b.chomping) b.indent (text_lines (seam_gap (Some b) column (joined ks) next ++ rest)) ≡ true
block_seam least column b ks x next rest h k some n less after =
    let keep = keeps b.chomping in
    let own : text_lines (joined ks) ≡ ks = gap_lines_of ks x k in
    let was : ends_block keep b.indent (ks ++ text_lines x) ≡ true = ap (ends_block keep b.indent) (sym (lines_before ks x x some k)) ∙ h.after in
    let lines : text_lines next ≡ n.lines = gap_lines next rest n in
    let kinds : AreGap (text_lines next) = subst AreGap (sym lines) (gap_kinds n.lines rest n.each) in
    let shut : (ends_with_break (text_lines next) ≡ true) ⊎ (rest ≡ []) = subst (λ (ls : RawLines). (ends_with_break ls ≡ true) ⊎ (rest ≡ [])) (sym lines) (gap_closed n.lines rest n.each) in
    let mended : List ℕ = joined (repair keep b.indent.columns column (text_lines next)) in
    let is_located = repair_is_there least column b (joined ks ++ x) next rest h kinds shut after less in
    search (rules, append_assoc, lines_before, ends_comment, ends_blank, cases_Bool)

-- the block scalar before it
pub record LastBlock (front : List Row) (b : BlockText) (t : List ℕ) : Type 0 where
  pub least : ℕ
  pub block : IsBlock least b t
  pub seam : (u : List ℕ) → ends_block (keeps b.chomping) b.indent (text_lines u) ≡ true → are_seamed front u ≡ true

content_block : (c : Content) (b : BlockText) (r : Row) (t : List ℕ) → r.content ≡ c → block_of c ≡ Some b → IsContent (parent_indent r) c t → LastBlock (r ∷ []) b t
content_block (Nothing tail) b r t is e h = absurd (cc)
content_block (Inline space node tail) b r t is e h = absurd (cc)
content_block (Block space anchor block) b r t is e h = search rules

pub last_is_block : (front rows : List Row) (limit : Limit) (end rest : List ℕ) (b : BlockText) → AreRows limit (front ++ rows) end rest → last_block front ≡ Some b → LastBlock front b (rows_text rows (end ++ rest))
last_is_block [] rows limit end rest b h e = absurd (cc)
last_is_block (r ∷ []) rows limit end rest b h e = content_block r.content b r (rows_text rows (end ++ rest)) refl e h.0.content
last_is_block (r ∷ (q ∷ front)) rows limit end rest b h e =
    let more = last_is_block (q ∷ front) rows (limit_after r) end rest b h.1 e in
    record { least = more.least; block = more.block; seam = more.seam }

pub last_none : (front : List Row) → last_block front ≡ None → ends_in_block front ≡ false
last_none [] e = refl
last_none (r ∷ []) e = search rules
last_none (r ∷ (q ∷ front)) e = last_none (q ∷ front) e
