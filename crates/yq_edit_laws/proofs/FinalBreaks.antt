-- Whether a text of rows ends in a break: by what comes after the mark of the last one.
use Rattle.std.proofs.Common.{rules, inl, inr, ⊎_elim, ◌⊎◌, ◌≡◌, ℕ, ℤ, Bool, true, false, cond, ◌&&◌, not, List, [], ◌∷◌, ◌++◌, replicate}
use Rattle.std.proofs.Common.{Option, refl, sym, ap, ◌∙◌, subst, append_assoc, append-nil}
use Rattle.std.proofs.lemmas.Bool.{false≢true, false_from_ne_true, or_parts, and_parts, eqb-true}
use Rattle.yq_core.specs.Plain.{IsPlain, ends_plain}
use Rattle.yq_core.specs.Text.{front, is_break, is_white, is_feed, is_return, is_line, is_empty, no_white, unless, NoneIn}
use Rattle.yq_core.{proofs.Bools.at_byte, proofs.BlockPieceLaws.{IsLf, append_lf, line_lf, raw_lf}}
use Rattle.yq_core.specs.Nodes.{FlowNode, empty, alias, scalar, coll, anchored, in_name, is_close, flow_items_text, node_text}
use Rattle.yq_core.{specs.Nodes.{opening_bracket, IsFlowNode}, proofs.NodesWrittenLaws.node_append}
use Rattle.yq_row_table.{proofs.seams.FrontSeams.row_some, specs.Exchange.row_front, specs.Gap.IsWhite}
use Rattle.yq_row_table.specs.Grammar.{IsContent, IsKey, IsMark, IsRow, Limit, is_entry}
use Rattle.yq_row_table.specs.Rows.{Content, Nothing, Inline, Block, Row, after_indent, content_text, dashes_text, mark_text, parent_indent}
use Rattle.yq_row_table.{specs.Rows.print_row, specs.View.content_cut, proofs.NothingLaws.some_after, proofs.PlaceLaws.row_front-append}
use Rattle.yq_row_table.{proofs.RowAgain.{row_starts, white_spaces}, proofs.SliceLaws.content_slices}
use Rattle.yq_row_table.proofs.seams.ScalarSeams.{last_no_space}
use Rattle.yq_places.{specs.CollectionEnds.is_broken, specs.Placements.is_alone, specs.PrintedLines.{end_break, last_break, less_break}}
use Rattle.yq_places.{proofs.ContentEndLaws.{Ends, content_ends, tail_ends}, proofs.LastBreakLaws.lf_last, proofs.PrintedTexts.less_is}
use Rattle.yq_edit_rules.{proofs.EndedRowLaws.many_lf, proofs.LineFrontLaws.items_close, proofs.BreakLaws.last_is}
use Rattle.yq_row_table.specs.Rows as rows

-- an LF ends a text
abbrev pub ends_feed : List ℕ → Bool
ends_feed [] = false
ends_feed (b ∷ p) = cond (is_empty p) (is_feed b) (ends_feed p)

pub feed_more : (a b : List ℕ) → is_empty b ≡ false → ends_feed (a ++ b) ≡ ends_feed b
feed_more [] b h = refl
feed_more (x ∷ a) b h = rw (some_after a b h) (feed_more a b h)

feed_joined : (a b : List ℕ) → ends_feed a ≡ false → ends_feed b ≡ false → ends_feed (a ++ b) ≡ false
feed_joined a [] h k = ap ends_feed (append-nil a) ∙ h
feed_joined a (b ∷ bs) h k = feed_more a (b ∷ bs) refl ∙ k

feed_byte : (b : ℕ) (t : List ℕ) → is_feed b ≡ false → ends_feed t ≡ false → ends_feed (b ∷ t) ≡ false
feed_byte b t h k = search rules

-- a text in front of another one that ends in none
feed_before : (a b : List ℕ) → ends_feed (a ++ b) ≡ false → ends_feed b ≡ false
feed_before a [] h = refl
feed_before a (b ∷ bs) h = sym (feed_more a (b ∷ bs) refl) ∙ h

pub lf_feed : (t : List ℕ) → IsLf t → ends_feed t ≡ true
lf_feed t h = ap ends_feed h.1 ∙ feed_more h.0 (10 ∷ []) refl

pub feed_lf : (t : List ℕ) → ends_feed t ≡ true → IsLf t
feed_lf [] e = absurd (false≢true e)
feed_lf (b ∷ []) e = ([], ap (λ x. x ∷ []) (eqb-true b 10 e))
feed_lf (b ∷ (c ∷ t)) e = append_lf (b ∷ []) (c ∷ t) (feed_lf (c ∷ t) e)

no_line : is_line [] ≡ true → ⊥
unfolding is_line
no_line h = false≢true h

-- it has a last break then
pub feed_some : (t : List ℕ) → ends_feed t ≡ true → not (is_empty (last_break t)) ≡ true
feed_some t h = search (rules, lf_last, feed_lf, no_line)

pub feed_none : (t : List ℕ) → ends_feed t ≡ false → last_break t ≡ []
feed_none t h = go (last_is t)
  where
    ended : (b : List ℕ) → last_break t ≡ b → is_empty b ≡ false → ends_feed b ≡ true → last_break t ≡ []
    ended b is some feed = absurd (false≢true (sym h ∙ (ap ends_feed (sym (less_is t) ∙ ap (λ x. less_break t ++ x) is) ∙ (feed_more (less_break t) b some ∙ feed))))

    go : (last_break t ≡ []) ⊎ ((last_break t ≡ 10 ∷ []) ⊎ (last_break t ≡ 13 ∷ (10 ∷ []))) → last_break t ≡ []
    go (inl e) = e
    go (inr (inl e)) = ended (10 ∷ []) e refl refl
    go (inr (inr e)) = ended (13 ∷ (10 ∷ [])) e refl refl

-- a text after another one has a last break, if an LF ends the two
pub last_feed : (lead t text : List ℕ) → is_empty t ≡ false → lead ++ t ≡ text ++ (10 ∷ []) → is_empty (last_break t) ≡ false
last_feed lead t text some parts = go (is_empty (last_break t)) (feed_some t (sym (feed_more lead t some) ∙ (ap ends_feed parts ∙ feed_more text (10 ∷ []) refl)))
  where
    go : (b : Bool) → not b ≡ true → b ≡ false
    go true h = absurd (false≢true h)
    go false h = refl

-- and the other way round
pub feed_last : (t : List ℕ) → is_empty (last_break t) ≡ false → IsLf t
feed_last t some = search (rules, feed_lf, false≢true, feed_none)

-- ---- a node at the end of a text

byte_out : (p : ℕ → Bool) (b : ℕ) → p 10 ≡ true → p b ≡ false → is_feed b ≡ false
byte_out p b out h = false_from_ne_true (is_feed b) (λ e. let is : b ≡ 10 = eqb-true b 10 e in false≢true (sym h ∙ (ap p is ∙ out)))

white_feed : (w : List ℕ) → IsWhite w → ends_feed w ≡ false
white_feed [] h = refl
white_feed (b ∷ w) h = feed_byte b w (at_byte is_white b 10 h.0 refl) (white_feed w h.1)

name_feed : (n rest : List ℕ) → NoneIn (unless in_name) n rest → ends_feed n ≡ false
name_feed [] rest h = refl
name_feed (b ∷ n) rest h = feed_byte b n (byte_out (λ x. unless in_name (x ∷ [])) b refl h.0) (name_feed n rest h.1)

gap_feed : (g rest : List ℕ) → NoneIn no_white g rest → ends_feed g ≡ false
gap_feed [] rest h = refl
gap_feed (b ∷ g) rest h = feed_byte b g (byte_out (λ x. not (is_white x)) b refl h.0) (gap_feed g rest h.1)

plain_feed : (spaces : Option ℕ) (p : List ℕ) → NoneIn (ends_plain false spaces) p [] → ends_feed p ≡ false
plain_feed spaces [] h = refl
plain_feed spaces (b ∷ []) h = (or_parts (is_feed b) (is_return b && front is_feed []) (or_parts (is_white b) (is_break (b ∷ [])) (last_no_space spaces b [] h.0 refl)).1).0
plain_feed spaces (b ∷ (c ∷ p)) h = plain_feed spaces (c ∷ p) h.1

node_feed : (spaces : Option ℕ) (node : FlowNode) (d : ℕ) → IsFlowNode false spaces d node [] → ends_feed (node_text node []) ≡ false
unfolding node_text IsFlowNode
node_feed spaces empty d h = refl
node_feed spaces (alias n) d h = feed_byte 42 (n ++ []) refl (ap ends_feed (append-nil n) ∙ name_feed n [] h.inside)
node_feed spaces (scalar p) d h =
    ap ends_feed (append-nil p) ∙ ⊎_elim {0, 0, 0} (λ (k : IsPlain false spaces p []). plain_feed spaces p k.inside) (λ k. search (rules, feed_more)) h
node_feed spaces (coll k g is) d h =
    let x = items_close k is in
    let whole : opening_bracket k ∷ (g ++ flow_items_text k is []) ≡ (opening_bracket k ∷ (g ++ x.0)) ++ k ∷ [] = ap (λ t. opening_bracket k ∷ (g ++ t)) x.1 ∙ ap (λ t. opening_bracket k ∷ t) (sym (append_assoc g x.0 (k ∷ []))) in
    ap ends_feed whole ∙ (feed_more (opening_bracket k ∷ (g ++ x.0)) (k ∷ []) refl ∙ at_byte is_close k 10 h.0 refl)
node_feed spaces (anchored n g node) d h = search (rules, feed_byte, feed_joined, name_feed, gap_feed, node_feed spaces node d h.4)

-- ---- a row at the end of a text

dashes_feed : (ns t : List ℕ) → ends_feed t ≡ false → ends_feed (dashes_text ns t) ≡ false
dashes_feed [] t h = h
dashes_feed (n ∷ ns) t h =
    feed_byte 45 (replicate n 32 ++ dashes_text ns t) refl
    (feed_joined (replicate n 32) (dashes_text ns t) (white_feed (replicate n 32) (white_spaces n)) (dashes_feed ns t h))

colon_some : (key colon rest t : List ℕ) → IsKey key colon rest → is_empty (colon ++ t) ≡ false
colon_some key colon rest t h = ap (λ x. is_empty (x ++ t)) h.colon_is.spelled ∙ go h.colon_is.white
  where
    go : (w : List ℕ) → is_empty ((w ++ 58 ∷ []) ++ t) ≡ false
    go [] = refl
    go (b ∷ w) = refl

-- a key or dash is something
pub mark_some : (m : rows.RowMark) (c : Content) (rest t : List ℕ) → IsMark m c rest → is_entry m ≡ true → is_empty (mark_text m t) ≡ false
mark_some rows.Bare c rest t h e = absurd (false≢true e)
mark_some rows.Dash c rest t h e = refl
mark_some (rows.Key key colon) c rest t h e = some_after key (colon ++ t) (colon_some key colon (content_text c rest) t h)

mark_feed : (m : rows.RowMark) (c : Content) (rest t : List ℕ) → IsMark m c rest → ends_feed t ≡ false → ends_feed (mark_text m t) ≡ false
mark_feed m c rest t h k = search (rules, feed_byte, feed_more, colon_some, feed_joined)

-- a tail without a break
bare_tail : (tail : List ℕ) → is_line tail ≡ false → Ends (is_line tail) (last_break tail) [] → ends_feed tail ≡ false
bare_tail tail bare ends = search (rules, false_from_ne_true, false≢true, no_line, lf_last, feed_lf)

content_feed : (n : ℤ) (c : Content) → IsContent n c [] → is_broken c ≡ false → ends_feed (content_text c []) ≡ false
content_feed n (Nothing tail) h bare = ap ends_feed (append-nil tail) ∙ bare_tail tail bare (tail_ends tail [] h)
content_feed n (Inline space node tail) h bare = feed_joined space (node_text node (tail ++ [])) (white_feed space h.0) (ap (λ t. ends_feed (node_text node t)) (append-nil tail) ∙ go tail refl)
  where
    whole : (t : List ℕ) → node_text node t ≡ node_text node [] ++ t
    whole t = node_append node [] t

    go : (t : List ℕ) → tail ≡ t → ends_feed (node_text node t) ≡ false
    go [] is = node_feed _ node _ (subst (IsFlowNode false _ _ node) (append-nil tail ∙ is) h.1.valid)
    go (b ∷ bs) is = ap ends_feed (whole (b ∷ bs)) ∙ (feed_more (node_text node []) (b ∷ bs) refl ∙ (ap ends_feed (sym is) ∙ bare_tail tail bare (tail_ends tail [] h.2)))
content_feed n (Block space anchor block) h bare = absurd (false≢true (sym bare))

row_feed : (limit : Limit) (r : Row) → IsRow limit r [] → is_broken r.content ≡ false → ends_feed (print_row r []) ≡ false
row_feed limit r h bare =
    let content : ends_feed (content_text r.content []) ≡ false = content_feed (parent_indent r) r.content h.content bare in
    let after : ends_feed (after_indent r []) ≡ false = dashes_feed r.dashes (mark_text r.mark (content_text r.content [])) (mark_feed r.mark r.content [] (content_text r.content []) h.mark content) in
    let some : is_empty (after_indent r []) ≡ false = (row_starts limit r [] h).some in
    feed_more r.gap (replicate r.column 32 ++ after_indent r []) (some_after (replicate r.column 32) (after_indent r []) some)
    ∙ (feed_more (replicate r.column 32) (after_indent r []) some ∙ after)

-- a content with its break
content_lf : (n : ℤ) (c : Content) (rest : List ℕ) → IsContent n c rest → is_broken c ≡ true → IsLf (content_text c [])
content_lf n c rest h broken =
    subst IsLf (content_slices c []) (many_lf (content_cut c).0 (content_cut c).1 (content_cut c).2 (content_cut c).3 ((content_cut c).4 ++ ((content_cut c).5 ++ [])) (last c h broken))
  where
    last : (c : Content) → IsContent n c rest → is_broken c ≡ true → IsLf ((content_cut c).4 ++ ((content_cut c).5 ++ []))
    last c h broken = search (rules, append-nil, line_lf, raw_lf, and_parts, append_lf)

row_lf : (limit : Limit) (r : Row) (rest : List ℕ) → IsRow limit r rest → is_broken r.content ≡ true → IsLf (print_row r [])
row_lf limit r rest h broken = subst IsLf (sym (row_front-append r [])) (append_lf (row_front r) (content_text r.content []) (content_lf (parent_indent r) r.content rest h.content broken))

-- A text that rows end has a last break, if what comes after the mark of the last one has.
pub broken_is : (limit : Limit) (r : Row) (rest : List ℕ) → IsRow limit r rest → (front a t : List ℕ) → front ++ print_row r [] ≡ a ++ t → is_empty t ≡ false → not (is_empty (last_break t)) ≡ is_broken r.content
broken_is limit r rest h front a t is some = go (is_broken r.content) refl
  where
    ends_none : (rest : List ℕ) → Ends false (end_break r.content) rest → rest ≡ []
    ends_none rest (inl x) = absurd (false≢true x.0)
    ends_none rest (inr x) = x.2

    go : (b : Bool) → is_broken r.content ≡ b → not (is_empty (last_break t)) ≡ b
    go true e = feed_some t (sym (feed_more a t some) ∙ (ap ends_feed (sym is) ∙ lf_feed (front ++ print_row r []) (append_lf front (print_row r []) (row_lf limit r rest h e))))
    go false e =
        let none : rest ≡ [] = ends_none rest (subst (λ b. Ends b (end_break r.content) rest) e (content_ends (parent_indent r) r.content rest h.content)) in
        let last : IsRow limit r [] = subst (IsRow limit r) none h in
        let feed : ends_feed (front ++ print_row r []) ≡ false = feed_more front (print_row r []) (row_some limit r [] last) ∙ row_feed limit r last e in
        ap (λ x. not (is_empty x)) (feed_none t (feed_before a t (ap ends_feed (sym is) ∙ feed)))

-- an item or entry is something
pub entry_some : (limit : Limit) (r : Row) (rest t : List ℕ) → IsRow limit r rest → is_alone r ≡ false → is_empty (after_indent r t) ≡ false
entry_some limit r rest t h alone = search (rules, false≢true, mark_some)
