-- Comments are in their text between whole characters.
use Rattle.std.proofs.Common.{◌≡◌, ◌⊎◌, inl, inr, ℕ, zero, suc, ◌+◌, ◌-◌, ◌<◌, ◌≤◌, ℤ, eqb, List, [], ◌∷◌, ◌++◌, length, take, drop, Some}
use Rattle.std.proofs.Common.{None, Bool, true, false, cond, ◌&&◌, refl, sym, ap, ◌∙◌, subst, arith, append-nil, append_assoc}
use Rattle.std.{proofs.Common.{length-append, rules}, proofs.Math.Seq.{take-append_seam, drop-append_seam}}
use Rattle.std.proofs.lemmas.Bool.{cases_lt, eqb-true, false≢true, lt-ltb, le-ltb, and_parts}
use Rattle.std.{proofs.lemmas.List.{take-append-drop, length-drop}, proofs.lemmas.Option.same_Some}
use Rattle.std.{proofs.lemmas.Str.{IsUtf8-take, IsUtf8-between}, specs.List.slice_get, specs.Str.{IsUtf8, IsCharBoundary}}
use Rattle.yq_core.specs.Text.{cut, front, ends_line, is_break, is_line, is_empty, joined, text_lines, no_white, past_white, upto}
use Rattle.yq_core.{proofs.BlockPieceLaws.{IsLf, line_lf, append_lf, cut_lf}, proofs.Boundaries.{white_ascii, break_ascii}}
use Rattle.yq_core.{proofs.LineLaws.joined_lines, proofs.Upto.upto_ends}
use Rattle.yq_row_table.{specs.Exchange.{before_content, text_after_row, after_row, HasPieces}, specs.Gap.{IsLineEnd, IsGap, AreGapLines}}
use Rattle.yq_row_table.specs.Grammar.{IsTail, IsContent}
use Rattle.yq_row_table.specs.Rows.{Content, Nothing, Inline, Block, Row, print_row, rows_text, Part, part_text, Cut, last, marked}
use Rattle.yq_row_table.{specs.Rows.cut_text, specs.View.{content_cut, slices, rows_of}, proofs.ExchangeLaws.{slice_front, slice_back}}
use Rattle.yq_row_table.{proofs.NodePieces.{BeginsAscii, before_ascii}, proofs.PlaceLaws.{place, row_then, part_then}}
use Rattle.yq_row_table.proofs.SliceLaws.{content_slices}
use Rattle.yq_documents.{specs.Pieces.{last_run, before_run, tail_comment, gap_comment, TextPiece, HoldsPiece}, proofs.RunLaws.run_split}
use Rattle.yq_places.specs.CommentReading.{before_row, before_tail}

-- a text in three pieces, by the two places
pieces_at : (before old after : List ℕ) → IsUtf8 (before ++ (old ++ after)) → IsCharBoundary (before ++ (old ++ after)) (length before) → IsCharBoundary (before ++ (old ++ after)) (length before + length old) →
    HasPieces (before ++ (old ++ after)) before old after
pieces_at before old after u start end =
    let t : List ℕ = before ++ (old ++ after) in
    let front : IsUtf8 (take (length before) t) = IsUtf8-take t (length before) u start in
    let within : IsUtf8 (take (length before + length old - length before) (drop (length before) t)) = IsUtf8-between t (length before) (length before + length old) u (omega arith) start end in
    let middle : take (length before + length old - length before) (drop (length before) t) ≡ old =
    ap (λ (q : List ℕ). take (length before + length old - length before) q) (drop-append_seam before (old ++ after))
    ∙ (ap (λ (n : ℕ). take n (old ++ after)) (let same : length before + length old - length before ≡ length old = omega arith in same)
    ∙ take-append_seam old after) in
    search (rules, take-append_seam, front, within, middle)

-- the end of a piece: an LF is its last byte, or nothing is after it
abbrev pub Ended : List ℕ → List ℕ → Type 0
Ended p rest = IsLf p ⊎ (rest ≡ [])

begins_at : (before old after : List ℕ) → BeginsAscii (old ++ after) → IsCharBoundary (before ++ (old ++ after)) (length before)
begins_at before old after h = before_ascii before (old ++ after) h

ends_ascii : (before old after : List ℕ) → BeginsAscii after → IsCharBoundary (before ++ (old ++ after)) (length before + length old)
ends_ascii before old after h =
    subst (λ (n : ℕ). IsCharBoundary (before ++ (old ++ after)) n) (length-append before old)
    (subst (λ (q : List ℕ). IsCharBoundary q (length (before ++ old))) (append_assoc before old after) (before_ascii (before ++ old) after h))

ends_there : (before old after : List ℕ) → IsUtf8 (before ++ (old ++ after)) → Ended old after → IsCharBoundary (before ++ (old ++ after)) (length before + length old)
ends_there before old after u (inl lf) = cut_lf (before ++ (old ++ after)) (before ++ old) after (length before + length old) (sym (append_assoc before old after)) (append_lf before old lf) (sym (length-append before old)) u
ends_there before old after u (inr none) = ends_ascii before old after (subst BeginsAscii (sym none) tt)

suffix_lf : (a b : List ℕ) → IsLf (a ++ b) → 0 < length b → IsLf b
suffix_lf [] b h some = h
suffix_lf (x ∷ a) b h some = go h.0 h.1 (λ k. suffix_lf a b k some)
  where
    go : (f : List ℕ) → x ∷ (a ++ b) ≡ f ++ 10 ∷ [] → (IsLf (a ++ b) → IsLf b) → IsLf b
    go [] e again = let none : a ++ b ≡ [] = cc in absurd (omega (arith, some, ap length none, length-append a b))
    go (y ∷ f) e again = let rest : a ++ b ≡ f ++ 10 ∷ [] = cc in again (f, rest)

-- the end of a line's rest
line_end : (white comment p rest : List ℕ) → IsLineEnd white comment p rest → Ended p rest
line_end white comment p rest h = go h.ends
  where
    go : ((is_break h.break && is_line h.break) ≡ true) ⊎ ((h.break ≡ []) × (rest ≡ [])) → Ended p rest
    go (inl e) = inl (subst IsLf (sym h.spelled) (append_lf white (comment ++ h.break) (append_lf comment h.break (line_lf h.break (and_parts (is_break h.break) (is_line h.break) e).1))))
    go (inr none) = inr none.1

-- the end of a tail
pub tail_end : (p rest : List ℕ) → IsTail p rest → Ended p rest
tail_end p rest h = line_end h.white h.comment p rest h.line

-- the comment in a tail
upto_lf : (xs : List ℕ) → upto ends_line (xs ++ 10 ∷ []) ≤ length xs
unfolding upto
upto_lf [] = omega arith
upto_lf (x ∷ xs) = go (ends_line (x ∷ (xs ++ 10 ∷ []))) (upto_lf xs)
  where
    go : (b : Bool) → upto ends_line (xs ++ 10 ∷ []) ≤ length xs → cond b 0 (suc (upto ends_line (xs ++ 10 ∷ []))) ≤ suc (length xs)
    go b h1 = search rules

-- after a line's text is a break, or nothing
no_rest : (c more : List ℕ) → (cut ends_line c).1 ≡ [] → Ended c more → BeginsAscii more
no_rest c more is (inr empty) = subst BeginsAscii (sym empty) tt
no_rest c more is (inl lf) =
    let left : length c ≤ upto ends_line c = omega (arith, ap length is, length-drop (upto ends_line c) c) in
    absurd (omega (arith, left, ap (λ x. upto ends_line x) lf.1, upto_lf lf.0, ap length lf.1, length-append lf.0 (10 ∷ [])))

line_rest : (c more : List ℕ) → Ended c more → BeginsAscii ((cut ends_line c).1 ++ more)
line_rest c more ended = go (cut ends_line c).1 refl (upto_ends ends_line c refl)
  where
    go : (d : List ℕ) → (cut ends_line c).1 ≡ d → ends_line d ≡ true → BeginsAscii (d ++ more)
    go d h1 h2 = search (rules, break_ascii, no_rest)

tail_text : (tail : List ℕ) → tail ≡ (cut no_white tail).0 ++ past_white tail
tail_text tail = sym (take-append-drop (upto no_white tail) tail)

-- a comment in a tail, as a piece of the text
comment_piece : (before white c more : List ℕ) → IsUtf8 (before ++ ((white ++ c) ++ more)) → BeginsAscii (c ++ more) → Ended c more →
    HoldsPiece (before ++ ((white ++ c) ++ more))
    (record { before = before ++ white; text = (cut ends_line c).0; after = (cut ends_line c).1 ++ more })
comment_piece before white c more u begins ended =
    let text : List ℕ = (cut ends_line c).0 in
    let after : List ℕ = (cut ends_line c).1 ++ more in
    let inner : c ++ more ≡ text ++ after = ap (λ x. x ++ more) (sym (take-append-drop (upto ends_line c) c)) ∙ append_assoc text (cut ends_line c).1 more in
    let whole : before ++ ((white ++ c) ++ more) ≡ (before ++ white) ++ (text ++ after) = search (rules, append_assoc, text, after, inner) in
    subst (λ q. HasPieces q (before ++ white) text after) (sym whole)
    (pieces_at (before ++ white) text after (subst IsUtf8 whole u)
    (begins_at (before ++ white) text after (subst BeginsAscii inner begins))
    (ends_ascii (before ++ white) text after (line_rest c more ended)))

cut_end : (white c tail more : List ℕ) → tail ≡ white ++ c → 0 < length c → Ended tail more → Ended c more
cut_end white c tail more text some (inl lf) = inl (suffix_lf white c (subst IsLf text lf) some)
cut_end white c tail more text some (inr none) = inr none

mark_piece : (before white tail more : List ℕ) (b : ℕ) (bs : List ℕ) → IsUtf8 (before ++ (tail ++ more)) → Ended tail more → tail ≡ white
    ++ (b ∷ bs) → b ≡ 35 →
    HoldsPiece (before ++ (tail ++ more))
    (record { before = before ++ white; text = (cut ends_line (b ∷ bs)).0; after = (cut ends_line (b ∷ bs)).1 ++ more })
mark_piece before white tail more b bs u ended text mark =
    let whole : before ++ (tail ++ more) ≡ before ++ ((white ++ (b ∷ bs)) ++ more) = ap (λ x. before ++ (x ++ more)) text in
    subst (λ x. HoldsPiece x (record { before = before ++ white; text = (cut ends_line (b ∷ bs)).0; after = (cut ends_line (b ∷ bs)).1 ++ more })) (sym whole)
    (comment_piece before white (b ∷ bs) more (subst IsUtf8 whole u) (omega (arith, mark)) (cut_end white (b ∷ bs) tail more text (omega arith) ended))

pub tail_piece : (before tail more : List ℕ) (q : TextPiece) → IsUtf8 (before ++ (tail ++ more)) → Ended tail more → tail_comment before tail more ≡ Some q → HoldsPiece (before ++ (tail ++ more)) q
tail_piece before tail more q u ended is = go (past_white tail) refl is
  where
    test : (c : Bool) (b : ℕ) (bs : List ℕ) → past_white tail ≡ b ∷ bs → eqb b 35 ≡ c →
        cond c (Some (record
        { before = before ++ (cut no_white tail).0; text = (cut ends_line (b ∷ bs)).0; after = (cut ends_line (b ∷ bs)).1 ++ more })) None ≡ Some
        q → HoldsPiece (before ++ (tail ++ more)) q
    test true b bs e mark found =
        subst (HoldsPiece (before ++ (tail ++ more))) (same_Some _ _ found)
        (mark_piece before (cut no_white tail).0 tail more b bs u ended (tail_text tail ∙ ap (λ x. (cut no_white tail).0 ++ x) e) (eqb-true b 35 mark))
    test false b bs e mark found = absurd (cc)

    go : (c : List ℕ) → past_white tail ≡ c →
        cond (front (λ b. eqb b 35) c)
        (Some (record { before = before ++ (cut no_white tail).0; text = (cut ends_line c).0; after = (cut ends_line c).1 ++ more })) None ≡ Some
        q → HoldsPiece (before ++ (tail ++ more)) q
    go c e found = search (rules, test)

-- the end of a row's tail
pub content_end : (n : ℤ) (x : Content) (rest : List ℕ) → IsContent n x rest → Ended (content_cut x).4 ((content_cut x).5 ++ rest)
content_end n (Nothing tail) rest h = tail_end tail rest h
content_end n (Inline space node tail) rest h = tail_end tail rest h.2
content_end n (Block space anchor block) rest h = inl (line_lf block.tail (and_parts (is_line block.tail) _ h.2.tail).0)

-- the end of a gap
line_then : (l ls rest : List ℕ) → Ended l (ls ++ rest) → (ls ≡ []) ⊎ Ended ls rest → Ended (l ++ ls) rest
line_then l ls rest h1 h2 = search (rules, append_lf, append-nil)

gap_lines : (ls : List (List ℕ)) (rest : List ℕ) → AreGapLines ls rest → (joined ls ≡ []) ⊎ Ended (joined ls) rest
gap_lines [] rest h = inl refl
gap_lines (l ∷ ls) rest h = inr (line_then l (joined ls) rest (line_end h.0.white h.0.comment l (joined ls ++ rest) h.0.line) (gap_lines ls rest h.1))

pub gap_end : (gap rest : List ℕ) → IsGap gap rest → (gap ≡ []) ⊎ Ended gap rest
gap_end gap rest h = search (rules, gap_lines)

-- a comment line begins with white space or a mark
comment_begins : (l rest : List ℕ) → front (λ b. eqb b 35) (past_white l) ≡ true → BeginsAscii (l ++ rest)
unfolding upto
comment_begins l rest h1 = search (rules, false≢true, white_ascii, eqb-true)

pub run_begins : (ls : List (List ℕ)) (rest : List ℕ) → 0 < length (joined (last_run ls)) → BeginsAscii (joined (last_run ls) ++ rest)
run_begins [] rest some = absurd (omega (arith, some))
run_begins (l ∷ ls) rest some = search (rules, append_assoc, comment_begins, and_parts, run_begins ls rest)

some_bytes : (t : List ℕ) → is_empty t ≡ false → 0 < length t
some_bytes t h1 = search (rules, false≢true)

-- the run in a gap, as a piece of the text
pub gap_piece : (before gap rest : List ℕ) (q : TextPiece) → IsUtf8 (before ++ (gap ++ rest)) → (gap ≡ []) ⊎ Ended gap rest → gap_comment before gap rest ≡ Some q → HoldsPiece (before ++ (gap ++ rest)) q
gap_piece before gap rest q u ended is = go (is_empty (joined (last_run (text_lines gap)))) refl is
  where
    whole : before ++ (gap ++ rest) ≡ (before ++ joined (before_run (text_lines gap))) ++ (joined (last_run (text_lines gap)) ++ rest)
    whole = ap (λ x. before ++ x) (ap (λ x. x ++ rest) (sym (run_split (text_lines gap) ∙ joined_lines gap)) ∙ append_assoc (joined (before_run (text_lines gap))) (joined (last_run (text_lines gap))) rest)
        ∙ sym (append_assoc before (joined (before_run (text_lines gap))) (joined (last_run (text_lines gap)) ++ rest))

    end_of : 0 < length (joined (last_run (text_lines gap))) → (gap ≡ []) ⊎ Ended gap rest → Ended (joined (last_run (text_lines gap))) rest
    end_of some (inl none) = absurd (omega (arith, some, ap length none, ap length (sym (run_split (text_lines gap) ∙ joined_lines gap)), length-append (joined (before_run (text_lines gap))) (joined (last_run (text_lines gap)))))
    end_of some (inr (inl lf)) = inl (suffix_lf (joined (before_run (text_lines gap))) (joined (last_run (text_lines gap))) (subst IsLf (sym (run_split (text_lines gap) ∙ joined_lines gap)) lf) some)
    end_of some (inr (inr none)) = inr none

    go : (b : Bool) → is_empty (joined (last_run (text_lines gap))) ≡ b →
        cond b None (Some (record
        { before = before ++ joined (before_run (text_lines gap)); text = joined (last_run (text_lines gap)); after = rest })) ≡ Some q →
        HoldsPiece (before ++ (gap ++ rest)) q
    go true e found = absurd (cc)
    go false e found =
        let some : 0 < length (joined (last_run (text_lines gap))) = some_bytes (joined (last_run (text_lines gap))) e in
        let here : IsUtf8 ((before ++ joined (before_run (text_lines gap))) ++ (joined (last_run (text_lines gap)) ++ rest)) = subst IsUtf8 whole u in
        subst (HoldsPiece (before ++ (gap ++ rest))) (same_Some _ _ found)
        (subst (λ x. HasPieces x (before ++ joined (before_run (text_lines gap))) (joined (last_run (text_lines gap))) rest) (sym whole)
        (pieces_at (before ++ joined (before_run (text_lines gap))) (joined (last_run (text_lines gap))) rest here
        (begins_at (before ++ joined (before_run (text_lines gap))) (joined (last_run (text_lines gap))) rest (run_begins (text_lines gap) rest some))
        (ends_there (before ++ joined (before_run (text_lines gap))) (joined (last_run (text_lines gap))) rest here (end_of some ended))))

-- the place of a row
row_at : (rows : List Row) (i : ℕ) (r : Row) (rest : List ℕ) → slice_get rows i ≡ Some r → rows_text rows rest ≡ rows_text (take i rows) [] ++ print_row r (text_after_row i rows rest)
row_at [] i r rest h = absurd (cc)
row_at (x ∷ rows) zero r rest h = let is : x ≡ r = cc in ap (λ (y : Row). print_row y (rows_text rows rest)) is
row_at (x ∷ rows) (suc i) r rest h = ap (print_row x) (row_at rows i r rest h) ∙ row_then x (rows_text (take i rows) []) (print_row r (text_after_row i rows rest))

part_place : (p : Part) (marker before text rest : List ℕ) → rest ≡ before ++ text → part_text p (marker ++ rest) ≡ part_text p (marker ++ before) ++ text
part_place p marker before text rest h = ap (λ l. part_text p (marker ++ l)) h ∙ (ap (part_text p) (sym (append_assoc marker before text)) ∙ part_then p (marker ++ before) text)

pub row_place : (c : Cut) (i : ℕ) (r : Row) → slice_get (rows_of c) i ≡ Some r → cut_text c ≡ before_row i c ++ print_row r (after_row i c)
row_place (last p) i r h = row_at p.rows i r (p.end ++ []) h
row_place (marked p marker c) i r h = go (cases_lt i (length p.rows)) (λ there. row_place c (i - length p.rows) r there)
  where
    go : (i < length p.rows) ⊎ (length p.rows ≤ i) → (slice_get (rows_of c) (i - length p.rows) ≡ Some r → cut_text c ≡ before_row (i - length p.rows) c ++ print_row r (after_row (i - length p.rows) c)) →
        cut_text (marked p marker c) ≡ before_row i (marked p marker c) ++ print_row r (after_row i (marked p marker c))
    go h1 h2 = search (rules, lt-ltb, row_at, slice_front, le-ltb, part_place, slice_back)

apart : (a b c d e x : List ℕ) → a ++ (b ++ (c ++ (d ++ (e ++ x)))) ≡ (a ++ (b ++ (c ++ (d ++ e)))) ++ x
apart a b c d e x = simp append_assoc refl

-- the place of a row's tail
pub tail_place : (c : Cut) (i : ℕ) (r : Row) → slice_get (rows_of c) i ≡ Some r → cut_text c ≡ before_tail i r c ++ ((slices r).tail ++ ((slices r).raw ++ after_row i c))
tail_place c i r is =
    place c i r is ∙ (ap (λ x. before_content i c ++ x) (sym (content_slices r.content (after_row i c)))
    ∙ apart (before_content i c) (slices r).space (slices r).anchor (slices r).apart (slices r).head ((slices r).tail ++ ((slices r).raw ++ after_row i c)))
