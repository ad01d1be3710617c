-- Another tail after a row's content, in a text in which an LF comes after each CR.
use Rattle.std.proofs.Common.{◌≡◌, ◌⊎◌, inl, inr, ℕ, ℤ, true, false, List, [], ◌∷◌, ◌++◌, Option, refl, sym, ap, ◌∙◌, subst, ⊎_elim}
use Rattle.std.proofs.Common.{append_assoc, append-nil, length, take, rules}
use Rattle.std.proofs.lemmas.Bool.{false≢true, false_from_ne_true, or_right, and_parts, or_parts}
use Rattle.std.proofs.Math.Seq.{take-append_seam, drop-append_seam}
use Rattle.yq_core.{specs.Characters.pairs_returns, specs.Plain.ends_plain, specs.Quoted.spell_lines}
use Rattle.yq_core.specs.Text.{is_white, is_feed, is_return, is_break, is_space, is_line, ends_line, front, NoneIn}
use Rattle.yq_core.{specs.Nodes.{FlowNode, empty, alias, scalar, coll, anchored, node_text, IsFlowNode}, proofs.NodesWrittenLaws.node_then}
use Rattle.yq_row_table.{specs.Exchange.{asked_after, row_front}, specs.Gap.IsComment}
use Rattle.yq_row_table.specs.Grammar.{IsTail, IsContent, IsRow, Limit, limit_after, limit_after_content, AreRows, ends_part}
use Rattle.yq_row_table.specs.Rows.{Content, Nothing, Inline, Block, content_text, Row, parent_indent, print_row, rows_text}
use Rattle.yq_row_table.specs.Appending.{is_one_break, closed_by, TakesBreak}
use Rattle.yq_row_table.{specs.Seams.{with_tail, tail_after, TailFits, is_block, TakesPlace, retail}, proofs.CharacterLaws.pairs_back}
use Rattle.yq_row_table.{proofs.ExchangeLaws.chain, proofs.PlaceLaws.row_front-append}
use Rattle.yq_row_table.{proofs.seams.SeamLaws.{plain_before, line_by_break, rows_drop}, proofs.seams.NodeSeams.plain_text}
use Rattle.yq_row_table.{proofs.seams.ScalarSeams.{ends_return, last_no_space}, proofs.seams.RowSeams.{Joined, row_tail}}

-- a CR at the end of a piece has an LF after it
pub return_then : (p t : List ℕ) → pairs_returns (p ++ t) ≡ true → ends_return p ≡ true → front is_feed t ≡ true
unfolding pairs_returns
return_then [] t h e = absurd (false≢true e)
return_then (b ∷ []) t h e = (and_parts (front is_feed t) (pairs_returns t) (rw e at h)).0
return_then (b ∷ (c ∷ p)) t h e = return_then (c ∷ p) t (pairs_back (b ∷ []) (c ∷ (p ++ t)) h) e

-- no plain scalar ends in a CR
plain_no_return : (spaces : Option ℕ) (p t : List ℕ) → NoneIn (ends_plain false spaces) p t → ends_plain false spaces t ≡ true → pairs_returns (p ++ t) ≡ true → ends_return p ≡ false
plain_no_return spaces [] t h e pairs = refl
plain_no_return spaces (b ∷ []) t h e pairs = false_from_ne_true (is_return b) (λ r.
    let feed = return_then (b ∷ []) t pairs r in
    let none : is_space (b ∷ t) ≡ false = last_no_space spaces b t h.0 e in
    let break : is_break (b ∷ t) ≡ true = rw (r, feed) (or_right (is_feed b) true refl) in
    false≢true (sym (or_parts (is_white b) (is_break (b ∷ t)) none).1 ∙ break))
plain_no_return spaces (b ∷ (c ∷ p)) t h e pairs = plain_no_return spaces (c ∷ p) t h.1 e (pairs_back (b ∷ []) (c ∷ (p ++ t)) pairs)

last_return : (p : List ℕ) (q : ℕ) → ends_return (p ++ q ∷ []) ≡ is_return q
last_return (b ∷ (c ∷ p)) q = last_return (c ∷ p) q
last_return _ q = refl

quote_no_return : (q : ℕ) (p : List ℕ) → (q ≡ 34) ⊎ (q ≡ 39) → ends_return (q ∷ (p ++ q ∷ [])) ≡ false
quote_no_return q p h = last_return (q ∷ p) q ∙ ⊎_elim {0, 0, 0} (λ e. rw e refl) (λ e. rw e refl) h

node_no_return : (spaces : Option ℕ) (node : FlowNode) (d : ℕ) (t : List ℕ) → IsFlowNode false spaces d node t → pairs_returns (node_text node t) ≡ true → ends_return (plain_text node) ≡ false
unfolding node_text IsFlowNode
node_no_return spaces empty d t h pairs = refl
node_no_return spaces (alias n) d t h pairs = refl
node_no_return spaces (scalar p) d t (inl h) pairs = plain_no_return spaces p t h.inside h.ends pairs
node_no_return spaces (scalar p) d t (inr h) pairs = let g = h.0.1.1 in ap ends_return g.spelled ∙ quote_no_return h.0.0 (spell_lines h.0.1.0) g.quotes
node_no_return spaces (coll close gap items) d t h pairs = refl
node_no_return spaces (anchored n g node) d t h pairs = node_no_return spaces node d t h.4 (pairs_back g (node_text node t) (pairs_back n (g ++ node_text node t) (pairs_back (38 ∷ []) (n ++ (g ++ node_text node t)) pairs)))

pub content_joined : (n : ℤ) (c : Content) (t new u : List ℕ) → IsContent n c t → pairs_returns (content_text c t) ≡ true → Joined c t new u
content_joined n c t new u h1 h2 = search (rules, node_no_return, pairs_back)

-- a row with another tail
pub row_retailed : (limit : Limit) (r : Row) (t new u : List ℕ) → IsRow limit r t → pairs_returns (print_row r t) ≡ true → TailFits (parent_indent r) new r.content u → TakesPlace limit r t (retail new r) u
row_retailed limit r t new u h pairs f =
    let text : pairs_returns (content_text r.content t) ≡ true = pairs_back (row_front r) (content_text r.content t) (ap pairs_returns (sym (row_front-append r t)) ∙ pairs) in
    row_tail limit r t new u h f (content_joined (parent_indent r) r.content t new u h.content text)

-- a tail that gets a break
none_closed : (b : ℕ) (p break : List ℕ) → NoneIn ends_line (b ∷ p) [] → (ends_return (b ∷ p) ≡ false) → NoneIn ends_line (b ∷ p) break
none_closed b [] break h e = search (rules, or_parts)
none_closed b (c ∷ p) break h e = (h.0, none_closed c p break h.1 e)

pub comment_closed : (c break : List ℕ) → IsComment c [] → ends_return c ≡ false → IsComment c break
comment_closed c break h1 h2 = search (rules, none_closed)

pub no_end_return : (p : List ℕ) → pairs_returns p ≡ true → ends_return p ≡ false
no_end_return p h = false_from_ne_true (ends_return p) (λ e.
    let whole : pairs_returns (p ++ []) ≡ true = ap pairs_returns (append-nil p) ∙ h in
    let feed = return_then p [] whole e in false≢true feed)

pub tail_closed : (tail break u : List ℕ) → is_one_break break ≡ true → is_line tail ≡ false → pairs_returns tail ≡ true → IsTail tail [] → IsTail (tail ++ break) u
tail_closed tail break u b bare pairs h = ⊎_elim {0, 0, 0}
    (λ e. absurd (
    let line = line_by_break h.white h.comment tail [] h.line in
    false≢true (sym bare ∙ (line ∙ (and_parts (is_break h.line.break) (is_line h.line.break) e).1))))
    (λ e.
    let is : tail ≡ h.white ++ h.comment = h.line.spelled ∙ (ap (λ l. h.white ++ (h.comment ++ l)) e.0 ∙ ap (λ l. h.white ++ l) (append-nil h.comment)) in
    let none : ends_return h.comment ≡ false = no_end_return h.comment (pairs_back h.white h.comment (ap pairs_returns (sym is) ∙ pairs)) in
    let as_comment : IsComment h.comment [] = subst (IsComment h.comment) e.0 h.line.as_comment in
    record {
      white = h.white;
      comment = h.comment;
      line = record { break = break; spelled = ap (λ l. l ++ break) is ∙ append_assoc h.white h.comment break; blank = h.line.blank; as_comment = comment_closed h.comment break as_comment none; ends = inl b };
      apart = h.apart;
    })
    h.line.ends

-- a tail may be there, where rows come after it
pub fits_by : (n : ℤ) (c : Content) (new : List ℕ) (rs : List Row) (end rest : List ℕ) → is_block c ≡ false →
    IsTail new (rows_text rs (end ++ rest)) → AreRows (limit_after_content n c) rs end rest → ends_part rest ≡ true →
    TailFits n new c (rows_text rs (end ++ rest))
fits_by n (Nothing tail) new rs end rest b t h e = t
fits_by n (Inline space node tail) new rs end rest b t h e = (t, λ plain. plain_before n (Inline space node new) rs end rest h e plain t)
fits_by n (Block space anchor block) new rs end rest b t h e = absurd (false≢true (sym b))

pub content_tail : (n : ℤ) (c : Content) (t : List ℕ) → is_block c ≡ false → IsContent n c t → IsTail (tail_after c) t
content_tail n c t h1 h2 = search (rules, false≢true)

pub tail_pairs : (c : Content) (t : List ℕ) → is_block c ≡ false → pairs_returns (content_text c t) ≡ true → pairs_returns (tail_after c ++ t) ≡ true
tail_pairs c t h1 h2 = search (rules, pairs_back, node_then, false≢true)

-- A row at the end of the text, without a break, gets one, and rows come after it.
pub row_closed : (limit : Limit) (r : Row) (break : List ℕ) (new : List Row) (end rest : List ℕ) → IsRow limit r [] → TakesBreak r break →
    pairs_returns (print_row r []) ≡ true → AreRows (limit_after r) new end rest → ends_part rest ≡ true →
    TakesPlace limit r [] (closed_by break r) (rows_text new (end ++ rest))
row_closed limit r break new end rest h f pairs n e =
    let text : pairs_returns (content_text r.content []) ≡ true = pairs_back (row_front r) (content_text r.content []) (ap pairs_returns (sym (row_front-append r [])) ∙ pairs) in
    let tail : pairs_returns (tail_after r.content) ≡ true = ap pairs_returns (sym (append-nil (tail_after r.content))) ∙ tail_pairs r.content [] f.inline text in
    search (rules, tail_closed, content_tail, row_retailed, fits_by)

pub limit_tail : (n : ℤ) (c : Content) (new : List ℕ) → limit_after_content n (with_tail new c) ≡ limit_after_content n c
limit_tail n c new = search rules

pub limit_closed : (break : List ℕ) (r : Row) → limit_after (closed_by break r) ≡ limit_after r
limit_closed break r = limit_tail (parent_indent r) r.content (tail_after r.content ++ break)

-- Rows after the last one of a text without a final break: that one gets a break, and the rows come after it.
pub rows_appended : (front : List Row) (r : Row) (break : List ℕ) (new : List Row) (limit : Limit) (end : List ℕ) → AreRows limit (front ++ (r ∷ [])) [] [] → TakesBreak r break → pairs_returns (print_row r []) ≡ true →
    AreRows (limit_after r) new end [] → AreRows limit (front ++ (closed_by break r ∷ new)) end []
rows_appended front r break new limit end h f pairs n =
    let own = rows_drop (length front) (front ++ (r ∷ [])) limit [] [] h in
    let asked : AreRows (asked_after limit (take (length front) (front ++ (r ∷ [])))) (r ∷ []) [] [] =
    subst (λ (rs : List Row). AreRows (asked_after limit (take (length front) (front ++ (r ∷ [])))) rs [] []) (drop-append_seam front (r ∷ []))
    own in
    let last : AreRows (asked_after limit front) (r ∷ []) [] [] = subst (λ (rs : List Row). AreRows (asked_after limit rs) (r ∷ []) [] []) (take-append_seam front (r ∷ [])) asked in
    let kept = row_closed (asked_after limit front) r break new end [] last.0 f pairs n refl in
    let after : AreRows (limit_after (closed_by break r)) new end [] = subst (λ (l : Limit). AreRows l new end []) (sym (limit_closed break r)) n in
    (chain front (r ∷ []) (closed_by break r ∷ new) limit [] [] end [] h (kept.row, after) kept.alike).0
