-- Whole characters come before, in and after a node.
use Rattle.std.proofs.Common.{◌≡◌, ◌⊎◌, inl, inr, ℕ, zero, suc, ◌+◌, ◌-◌, ◌<◌, ◌≤◌, replicate, true, false, List, [], ◌∷◌, ◌++◌, length}
use Rattle.std.proofs.Common.{take, drop, get_or, Some, refl, sym, ap, ◌∙◌, subst, arith, ⊎_elim, eqb-true, append_assoc, append-nil}
use Rattle.std.{proofs.Common.{length-append, rules}, proofs.Math.Seq.{take-append_seam, drop-append_seam, get_or-append_seam}}
use Rattle.std.proofs.lemmas.Bool.{false≢true, or_cases, and_parts, cases_Bool}
use Rattle.std.{proofs.lemmas.Str.{IsCharBoundary-after_ascii, IsUtf8-take, IsUtf8-between}, specs.List.slice_get}
use Rattle.std.specs.Str.{IsUtf8, IsCharBoundary}
use Rattle.yq_core.{specs.Text.separates, proofs.Boundaries.white_ascii, specs.Nodes.{FlowNode, node_text}}
use Rattle.yq_row_table.{specs.Exchange.{before_content, after_row, following_rows, HasPieces}, specs.Gap.IsWhite}
use Rattle.yq_row_table.specs.Grammar.{IsTail, IsContent, AreDashes, is_entry, IsCut}
use Rattle.yq_row_table.{specs.Rows.{RowMark, Bare, Content, Inline, mark_text, dashes_text, Row, parent_indent, Cut}, specs.View.rows_of}
use Rattle.yq_row_table.{proofs.LineEnds.following_line_end, proofs.MarkEnds.content_ends}
use Rattle.yq_row_table.{proofs.NodeExchange.{inline_starts, holds_node, node_place}, proofs.PlaceLaws.row_in}

-- the last byte is ASCII
pub record EndsAscii (p : List ℕ) : Type 0 where
  pub front : List ℕ
  pub last : ℕ
  pub is : p ≡ front ++ last ∷ []
  pub ascii : last < 128

pub following_ends : (xs p : List ℕ) → EndsAscii p → EndsAscii (xs ++ p)
following_ends xs p e = record { front = xs ++ e.front; last = e.last; is = ap (λ (q : List ℕ). xs ++ q) e.is ∙ sym (append_assoc xs e.front (e.last ∷ [])); ascii = e.ascii }

pub white_ends : (b : ℕ) (space : List ℕ) → IsWhite (b ∷ space) → EndsAscii (b ∷ space)
white_ends b [] h = record { front = []; last = b; is = refl; ascii = white_ascii b h.0 }
white_ends b (d ∷ space) h = following_ends (b ∷ []) (d ∷ space) (white_ends d space h.1)

space_ends : (space t : List ℕ) → IsWhite space → separates (space ++ t) ≡ true → separates t ≡ false → EndsAscii space
space_ends [] t blank h none = absurd (false≢true (sym none ∙ h))
space_ends (b ∷ space) t blank h none = white_ends b space blank

pub following_ascii : (p rest : List ℕ) → IsUtf8 (p ++ rest) → EndsAscii p → IsCharBoundary (p ++ rest) (length p)
following_ascii p rest u e =
    let whole : p ++ rest ≡ e.front ++ (e.last ∷ rest) = ap (λ (q : List ℕ). q ++ rest) e.is ∙ append_assoc e.front (e.last ∷ []) rest in
    let size : length p ≡ length e.front + 1 = ap length e.is ∙ length-append e.front (e.last ∷ []) in
    let last : get_or (p ++ rest) (length e.front) 0 ≡ e.last = ap (λ (q : List ℕ). get_or q (length e.front) 0) whole ∙ get_or-append_seam e.front e.last rest 0 in
    let small : get_or (p ++ rest) (length e.front) 0 < 128 = subst (λ (n : ℕ). n < 128) (sym last) e.ascii in
    subst (λ (n : ℕ). IsCharBoundary (p ++ rest) n) (sym size)
    (IsCharBoundary-after_ascii (p ++ rest) (length e.front) u (omega (arith, length-append p rest, size)) small)

-- the first byte is ASCII, or there is none
abbrev pub BeginsAscii : List ℕ → Type 0
BeginsAscii [] = Unit {0}
BeginsAscii (b ∷ t) = b < 128

white_before : (w t : List ℕ) → IsWhite w → BeginsAscii t → BeginsAscii (w ++ t)
white_before [] t blank h = h
white_before (b ∷ w) t blank h = white_ascii b blank.0

pub tail_ascii : (tail rest : List ℕ) → IsTail tail rest → BeginsAscii (tail ++ rest)
tail_ascii tail rest h =
    let u = following_line_end h.white h.comment tail rest h.line in
    subst BeginsAscii (sym u.1) (white_before h.white u.0 h.line.blank (search (rules, ⊎_elim, eqb-true, and_parts, or_cases)))

pub before_ascii : (p rest : List ℕ) → BeginsAscii rest → IsCharBoundary (p ++ rest) (length p)
before_ascii p rest h1 = search (rules, append-nil, get_or-append_seam, length-append)

pub pieces_of : (before old after : List ℕ) → IsUtf8 (before ++ (old ++ after)) → EndsAscii before → BeginsAscii after → HasPieces (before ++ (old ++ after)) before old after
pieces_of before old after u e h =
    let t : List ℕ = before ++ (old ++ after) in
    let start : IsCharBoundary t (length before) = following_ascii before (old ++ after) u e in
    let size : length (before ++ old) ≡ length before + length old = length-append before old in
    let end : IsCharBoundary t (length before + length old) =
    subst (λ (n : ℕ). IsCharBoundary t n) size (subst (λ (q : List ℕ). IsCharBoundary q (length (before ++ old))) (append_assoc before old after) (before_ascii (before ++ old) after h)) in
    let front : IsUtf8 (take (length before) t) = IsUtf8-take t (length before) u start in
    let within : IsUtf8 (take (length before + length old - length before) (drop (length before) t)) = IsUtf8-between t (length before) (length before + length old) u (omega arith) start end in
    let middle : take (length before + length old - length before) (drop (length before) t) ≡ old =
    ap (λ (q : List ℕ). take (length before + length old - length before) q) (drop-append_seam before (old ++ after))
    ∙ (ap (λ (n : ℕ). take n (old ++ after)) (let same : length before + length old - length before ≡ length old = omega arith in same)
    ∙ take-append_seam old after) in
    search (rules, take-append_seam)

-- a row without dash or key, which is indented
spaces_end : (n : ℕ) → 1 ≤ n → EndsAscii (replicate n 32 ++ [])
spaces_end zero h = absurd (omega (arith, h))
spaces_end (suc zero) h = record { front = []; last = 32; is = refl; ascii = omega arith }
spaces_end (suc (suc n)) h = following_ends (32 ∷ []) (replicate (suc n) 32 ++ []) (spaces_end (suc n) (omega arith))

bare_ends : (gap : List ℕ) (column : ℕ) (ns : List ℕ) (m : RowMark) → is_entry m ≡ false → AreDashes ns m → 1 ≤ column → EndsAscii (gap ++ (replicate column 32 ++ dashes_text ns (mark_text m [])))
bare_ends gap column (n ∷ ns) m e h some = absurd (false≢true (sym e ∙ h.1))
bare_ends gap column [] Bare e h some = following_ends gap (replicate column 32 ++ []) (spaces_end column some)
bare_ends gap column [] _ e h some = absurd (false≢true (sym e))

space_after : (before space : List ℕ) → IsWhite space → EndsAscii before → EndsAscii (before ++ space)
space_after before [] blank e = subst EndsAscii (sym (append-nil before)) e
space_after before (b ∷ space) blank e = following_ends before (b ∷ space) (white_ends b space blank)

-- In front of a node is white space, after a dash, a key or an indentation.
node_ends : (t : List ℕ) (c : Cut) (i : ℕ) (r : Row) (space : List ℕ) (node : FlowNode) (tail : List ℕ) → IsCut t c →
    slice_get (rows_of c) i ≡ Some r → r.content ≡ Inline space node tail → (is_entry r.mark ≡ true) ⊎ (1 ≤ r.column) →
    EndsAscii (before_content i c ++ space)
node_ends t c i r space node tail h is content place =
    let row = row_in c i true r h.parts is in
    elim (cases_Bool (is_entry r.mark)) [
      | inl entry ↦ (
          let old = holds_node r space node tail (after_row i c) (following_rows i c) row content entry in
          let starts = inline_starts (parent_indent r) node (tail ++ after_row i c) old.inline in
          following_ends (before_content i c) space (space_ends space (node_text node (tail ++ after_row i c)) old.blank old.apart starts.joined))
      | inr bare ↦ (
          let column : 1 ≤ r.column = ⊎_elim {0, 0, 0} (λ e. absurd (false≢true (sym bare ∙ e))) (λ e. e) place in
          let old : IsContent (parent_indent r) (Inline space node tail) (after_row i c) = subst (λ (x : Content). IsContent (parent_indent r) x (after_row i c)) content row.row.content in
          space_after (before_content i c) space old.0 (content_ends EndsAscii following_ends c i r is (bare_ends r.gap r.column r.dashes r.mark bare row.row.dashes column)))
    ]

pub node_pieces : (t : List ℕ) (c : Cut) (i : ℕ) (r : Row) (space : List ℕ) (node : FlowNode) (tail : List ℕ) → IsCut t c → IsUtf8 t →
    slice_get (rows_of c) i ≡ Some r → r.content ≡ Inline space node tail → (is_entry r.mark ≡ true) ⊎ (1 ≤ r.column) →
    HasPieces t (before_content i c ++ space) (node_text node []) (tail ++ after_row i c)
node_pieces t c i r space node tail h u is content place =
    let rest = tail ++ after_row i c in
    let before = before_content i c ++ space in
    let text : t ≡ before ++ (node_text node [] ++ rest) = h.text ∙ node_place c i r space node tail is content in
    let old : IsContent (parent_indent r) (Inline space node tail) (after_row i c) = subst (λ (x : Content). IsContent (parent_indent r) x (after_row i c)) content (row_in c i true r h.parts is).row.content in
    subst (λ (q : List ℕ). HasPieces q before (node_text node []) rest) (sym text)
    (pieces_of before (node_text node []) rest (subst IsUtf8 text u) (node_ends t c i r space node tail h is content place) (tail_ascii tail (after_row i c) old.2))
