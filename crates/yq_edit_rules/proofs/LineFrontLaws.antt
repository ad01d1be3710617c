-- A text cut before the end of a line: no CR comes before the break.
use Rattle.std.proofs.Common.{inl, inr, ◌⊎◌, ◌≡◌, ℕ, zero, suc, ◌+◌, ℤ, true, false, List, [], ◌∷◌, ◌++◌, replicate, refl, sym, ap, ◌∙◌}
use Rattle.std.proofs.Common.{append_assoc, append-nil, ⊎_elim, rules}
use Rattle.std.proofs.lemmas.Bool.{false≢true, or_right, and_from, and_parts, cases_Bool}
use Rattle.yq_core.{specs.Block.IsIndicators, specs.Characters.pairs_returns}
use Rattle.yq_core.specs.Text.{front, is_white, is_feed, is_return, is_empty, no_white, unless, NoneIn}
use Rattle.yq_core.{specs.declared.block_header.Chomping.Chomping, proofs.Bools.at_byte}
use Rattle.yq_core.specs.Nodes.{FlowNode, empty, alias, scalar, coll, anchored, Items, none, item, in_name, is_close, opening_bracket}
use Rattle.yq_core.specs.Nodes.{key_text, sep_text, node_text, flow_items_text, IsFlowNode}
use Rattle.yq_core.proofs.NodesWrittenLaws.{key_append, sep_append, node_append}
use Rattle.yq_row_table.{specs.Gap.{IsWhite, IsGap}, specs.Grammar.{IsContent, IsMark}, specs.Exchange.row_front}
use Rattle.yq_row_table.specs.Rows.{Content, Nothing, Inline, Block, following_gap, after_indent, content_text, dashes_text, mark_text}
use Rattle.yq_row_table.{specs.Rows.parent_indent, specs.View.{anchor_cut, content_cut}}
use Rattle.yq_row_table.{proofs.CharacterLaws.{all_text, all_join, pairs_back}, proofs.NothingLaws.some_after}
use Rattle.yq_row_table.{proofs.PlaceLaws.row_front-append, proofs.RowAgain.{row_starts, white_spaces}, proofs.seams.NodeSeams.plain_text}
use Rattle.yq_row_table.{proofs.seams.ScalarSeams.ends_return, proofs.seams.TailLaws.content_joined}
use Rattle.yq_places.proofs.CommentPieceLaws.{Ended, gap_end}
use Rattle.yq_edit_rules.{specs.LineFronts.{CleanCut, LineEndsClean}, proofs.TextPieceLaws.piece_back}
use Rattle.yq_row_table.specs.Rows as rows

-- ---- texts that end in no CR

pub ends_more : (a b : List ℕ) → is_empty b ≡ false → ends_return (a ++ b) ≡ ends_return b
ends_more [] b h = refl
ends_more (x ∷ a) b h = rw (some_after a b h) (ends_more a b h)

pub clean_joined : (a b : List ℕ) → ends_return a ≡ false → ends_return b ≡ false → ends_return (a ++ b) ≡ false
clean_joined a [] h k = ap ends_return (append-nil a) ∙ h
clean_joined a (b ∷ bs) h k = ends_more a (b ∷ bs) refl ∙ k

pub clean_byte : (b : ℕ) (t : List ℕ) → is_return b ≡ false → ends_return t ≡ false → ends_return (b ∷ t) ≡ false
clean_byte b t h k = search rules

pub clean_white : (w : List ℕ) → IsWhite w → ends_return w ≡ false
clean_white [] h = refl
clean_white (b ∷ w) h = clean_byte b w (at_byte is_white b 13 h.0 refl) (clean_white w h.1)

last_byte : (p : List ℕ) (q : ℕ) → ends_return (p ++ q ∷ []) ≡ is_return q
last_byte p q = ends_more p (q ∷ []) refl

-- ---- a node

clean_name : (n rest : List ℕ) → NoneIn (unless in_name) n rest → ends_return n ≡ false
clean_name [] rest h = refl
clean_name (b ∷ n) rest h = clean_byte b n (search (rules, cases_Bool, or_right, false≢true, h.0)) (clean_name n rest h.1)

clean_gap : (g rest : List ℕ) → NoneIn no_white g rest → ends_return g ≡ false
clean_gap [] rest h = refl
clean_gap (b ∷ g) rest h = clean_byte b g (search (rules, cases_Bool, at_byte, false≢true, h.0)) (clean_gap g rest h.1)

-- items end in their closing bracket
pub items_close : (k : ℕ) (is : Items) → (front : List ℕ) × (flow_items_text k is [] ≡ front ++ k ∷ [])
unfolding flow_items_text
items_close k none = ([], refl)
items_close k (item key n s is) =
    let x = items_close k is in (
      key_text key (node_text n (sep_text s x.0)),
      ap (λ t. key_text key (node_text n (sep_text s t))) x.1
          ∙ (ap (λ t. key_text key (node_text n t)) (sep_append s x.0 (k ∷ []))
          ∙ (ap (key_text key) (node_append n (sep_text s x.0) (k ∷ [])) ∙ key_append key (node_text n (sep_text s x.0)) (k ∷ []))),
    )

clean_node : (spaces : Rattle.std.proofs.Common.Option ℕ) (node : FlowNode) (d : ℕ) (rest : List ℕ) → IsFlowNode false spaces d node rest → ends_return (plain_text node) ≡ false → ends_return (node_text node []) ≡ false
unfolding node_text IsFlowNode
clean_node spaces empty d rest h e = refl
clean_node spaces (alias n) d rest h e = clean_byte 42 (n ++ []) refl (ap ends_return (append-nil n) ∙ clean_name n rest h.inside)
clean_node spaces (scalar p) d rest h e = ap ends_return (append-nil p) ∙ e
clean_node spaces (coll k g is) d rest h e =
    let x = items_close k is in
    let whole : opening_bracket k ∷ (g ++ flow_items_text k is []) ≡ (opening_bracket k ∷ (g ++ x.0)) ++ k ∷ [] = ap (λ t. opening_bracket k ∷ (g ++ t)) x.1 ∙ ap (λ t. opening_bracket k ∷ t) (sym (append_assoc g x.0 (k ∷ []))) in
    ap ends_return whole ∙ (last_byte (opening_bracket k ∷ (g ++ x.0)) k ∙ (at_byte is_close k 13 h.0 refl))
clean_node spaces (anchored n g node) d rest h e =
    search (rules, clean_byte, clean_joined, clean_name, ends_return, clean_gap, clean_node spaces node d rest h.4 e)

-- ---- a content, up to the end of its line

-- what is written on the line of a content
abbrev written : Content → List ℕ
written c = (content_cut c).0 ++ ((content_cut c).1 ++ ((content_cut c).2 ++ (content_cut c).3))

node_cut : (node : FlowNode) → (anchor_cut node).0 ++ ((anchor_cut node).1 ++ (anchor_cut node).2) ≡ node_text node []
unfolding node_text
node_cut node = search rules

-- no CR at the end of a plain scalar, before an LF
plain_clean : (n : ℤ) (space : List ℕ) (node : FlowNode) (tail rest : List ℕ) → IsContent n (Inline space node tail) rest →
    pairs_returns (content_text (Inline space node tail) rest) ≡ true → front is_feed (tail ++ rest) ≡ true → ends_return (plain_text node) ≡ false
plain_clean n space node tail rest h pairs feed = go (content_joined n (Inline space node tail) rest [] [] h pairs)
  where
    go : (front is_feed (tail ++ rest) ≡ front is_feed []) ⊎ (ends_return (plain_text node) ≡ false) → ends_return (plain_text node) ≡ false
    go (inl e) = absurd (false≢true (sym e ∙ feed))
    go (inr e) = e

indicators_clean : (d : Rattle.std.proofs.Common.Option ℕ) (c : Chomping) (p : List ℕ) → IsIndicators d c p → ends_return p ≡ false
indicators_clean d c p h = search (rules, ends_return, clean_joined, cases_Bool)

content_clean : (n : ℤ) (c : Content) (rest : List ℕ) → IsContent n c rest → pairs_returns (content_text c rest) ≡ true → front is_feed ((content_cut c).4 ++ ((content_cut c).5 ++ rest)) ≡ true → ends_return (written c) ≡ false
content_clean n (Nothing tail) rest h pairs feed = refl
content_clean n (Inline space node tail) rest h pairs feed = search (rules, clean_joined, clean_white, ends_return, node_cut, clean_node, plain_clean)
content_clean n (Block space anchor block) rest h pairs feed = search (rules, ends_return, clean_byte, indicators_clean, ends_more, some_after)

-- ---- a row, up to the end of its line

dashes_clean : (ns t : List ℕ) → ends_return t ≡ false → ends_return (dashes_text ns t) ≡ false
dashes_clean [] t h = h
dashes_clean (n ∷ ns) t h =
    clean_byte 45 (replicate n 32 ++ dashes_text ns t) refl
    (clean_joined (replicate n 32) (dashes_text ns t) (clean_white (replicate n 32) (white_spaces n)) (dashes_clean ns t h))

mark_clean : (m : rows.RowMark) (c : Content) (rest : List ℕ) → IsMark m c rest → ends_return (mark_text m []) ≡ false
mark_clean m c rest h1 = search (rules, ends_return, ends_more, append-nil, some_after, last_byte)

gap_clean : (gap rest : List ℕ) → IsGap gap rest → is_empty rest ≡ false → ends_return gap ≡ false
gap_clean gap rest h some = go (gap_end gap rest h)
  where
    go : (gap ≡ []) ⊎ Ended gap rest → ends_return gap ≡ false
    go (inl e) = ap ends_return e
    go (inr (inl lf)) = ap ends_return lf.1 ∙ last_byte lf.0 10
    go (inr (inr e)) = absurd (false≢true (sym some ∙ ap is_empty e))

pub line_ends_clean : LineEndsClean
line_ends_clean limit r rest h pairs feed =
    let text : pairs_returns (content_text r.content rest) ≡ true = pairs_back (row_front r) (content_text r.content rest) (ap pairs_returns (sym (row_front-append r rest)) ∙ pairs) in
    let some : is_empty (following_gap r rest) ≡ false = some_after (replicate r.column 32) (after_indent r rest) (row_starts limit r rest h).some in
    clean_joined (row_front r) (written r.content)
    (clean_joined r.gap (replicate r.column 32 ++ dashes_text r.dashes (mark_text r.mark [])) (gap_clean r.gap (following_gap r rest) h.gap some)
    (clean_joined (replicate r.column 32) (dashes_text r.dashes (mark_text r.mark [])) (clean_white (replicate r.column 32) (white_spaces r.column))
    (dashes_clean r.dashes (mark_text r.mark []) (mark_clean r.mark r.content rest h.mark))))
    (content_clean (parent_indent r) r.content rest h.content text feed)

-- ---- a text cut where no CR comes before an LF

pairs_clean : (a b : List ℕ) → ends_return a ≡ false → pairs_returns (a ++ b) ≡ true → pairs_returns a ≡ true
unfolding pairs_returns
pairs_clean [] b e h = refl
pairs_clean (x ∷ []) b e h = rw e refl
pairs_clean (x ∷ (y ∷ a)) b e h = elim (cases_Bool (is_return x)) [
  | inl r ↦ (let parts = and_parts (is_feed y) (pairs_returns (y ∷ (a ++ b))) (rw r at h) in rw r (and_from _ _ parts.0 (pairs_clean (y ∷ a) b e parts.1)))
  | inr r ↦ rw r (pairs_clean (y ∷ a) b e (rw r at h))
]

pub clean_cut : CleanCut
clean_cut a b h u clean =
    let x = and_parts (all_text (a ++ b)) (pairs_returns (a ++ b)) h.characters in
    let y = and_parts (all_text a) (all_text b) (sym (all_join a b u) ∙ x.0) in
    let pairs : pairs_returns a ≡ true = ⊎_elim {0, 0, 0} (λ (e : front is_feed b ≡ true). pairs_clean a b (clean e) x.1) (λ e. Rattle.yq_row_table.proofs.CharacterLaws.pairs_front a b e x.1) (cases_Bool (front is_feed b)) in
    (record { utf8 = u; characters = and_from _ _ y.0 pairs }, piece_back a b u h)
