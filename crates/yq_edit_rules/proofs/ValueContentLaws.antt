-- The content of a row with the inline node of a value in the place of its own.
use Rattle.std.proofs.Common.{◌≡◌, inl, inr, ℕ, ℤ, ◌&&◌, not, List, [], ◌∷◌, ◌++◌, Option, Some, true, false, refl, ap, rules}
use Rattle.std.{proofs.lemmas.Bool.{false≢true, and_parts, and_from, eqb-true}, proofs.lemmas.List.Folds.list_any-append}
use Rattle.std.specs.List.{list_any}
use Rattle.yq_core.{specs.Piece.deeper, specs.Plain.{ends_plain, holds_break}}
use Rattle.yq_core.{specs.Text.{is_feed, is_marker, is_white, no_white, separates, unless, NoneIn}, specs.Tree.Node}
use Rattle.yq_core.specs.Nodes.{empty, alias, scalar, coll, anchored, node_text, begins_content, in_name, is_empty_node, IsLead, IsFlowNode}
use Rattle.yq_core.proofs.Alikes.{no_first}
use Rattle.yq_row_table.{proofs.NothingLaws.tail_apart, specs.Grammar.{IsContent, IsTail, is_more, is_plain_content, may_be_alone}}
use Rattle.yq_row_table.{specs.Rows.{Content, content_text}, specs.Seams.is_block}
use Rattle.yq_outline.{specs.Comments.line_comment, specs.Lines.{content_anchor, head_of, tail_of}}
use Rattle.yq_documents.specs.Documents.{ContentHasFitKeys, is_long_plain}
use Rattle.yq_edit_rules.specs.InlineRows.{IsValueNode}
use Rattle.yq_edit_rules.proofs.CoreLaws.{recore, put_core, core_head, core_anchor, core_keys, core_bare, core_more, core_node}
use Rattle.yq_core.specs.Nodes as inline
use Rattle.yq_row_table.specs.Rows as rows

pub more_some : (node : inline.FlowNode) → is_more node ≡ true → is_empty_node node ≡ false
more_some node h1 = search (rules, false≢true)

name_byte : (b : ℕ) → not (in_name b) ≡ false → is_feed b ≡ false
name_byte b h = search (rules, false≢true)

name_feed : (n t : List ℕ) → NoneIn (unless in_name) n t → list_any is_feed n ≡ false
name_feed [] t h = refl
name_feed (b ∷ n) t h = rw (name_byte b h.0) (name_feed n t h.1)

white_byte : (b : ℕ) → not (is_white b) ≡ false → is_feed b ≡ false
white_byte b h = search (rules, eqb-true, false≢true)

white_feed : (g t : List ℕ) → NoneIn no_white g t → list_any is_feed g ≡ false
white_feed [] t h = refl
white_feed (b ∷ g) t h = rw (white_byte b h.0) (white_feed g t h.1)

gap_feed : (g t : List ℕ) → IsLead false (begins_content false) g t → list_any is_feed g ≡ false
gap_feed g t (inl h) = white_feed g t h.0.0
gap_feed g t (inr h) = ap (list_any is_feed) h.0

module _ (v : Node) (node : inline.FlowNode) (is : IsValueNode v node) where
  some : is_empty_node node ≡ false
  some = more_some node is.more

  pub content_is : (n : ℤ) (x : Content) (rest : List ℕ) → is_block x ≡ false → IsContent n x rest → ((tail : List ℕ) → IsTail tail rest → ends_plain false (Some (deeper n)) (tail ++ rest) ≡ true) → IsContent n (put_core node x) rest
  content_is n x rest h1 h2 h3 = search (rules, core_node, some, core_bare, false≢true)

  pub content_head : (x : Content) → is_block x ≡ false → head_of (put_core node x) ≡ Some v
  content_head x h1 = search (rules, core_head, false≢true)

  pub content_named : (x : Content) → content_anchor (put_core node x) ≡ content_anchor x
  content_named x = search (rules, core_anchor)

  pub content_tail : (x : Content) → line_comment (tail_of (put_core node x)) ≡ line_comment (tail_of x)
  content_tail x = search rules

  pub content_keys : (x : Content) → ContentHasFitKeys (put_core node x)
  content_keys x = search (rules, core_keys)

  -- it may be alone where the old one does
  pub content_alone : (x : Content) → may_be_alone x ≡ true → may_be_alone (put_core node x) ≡ true
  content_alone x h1 = search (rules, false≢true, and_parts, and_from, recore, core_more, some)

  -- and it is no marker there
  core_unmarked : (old : inline.FlowNode) (rest : List ℕ) → separates rest ≡ true → is_marker (node_text (recore node old) rest) ≡ false
  unfolding node_text
  core_unmarked (anchored n g old) rest h = no_first 38 _ refl refl
  core_unmarked _ rest h = is.unmarked rest h

  pub content_unmarked : (n : ℤ) (x : Content) (rest : List ℕ) → may_be_alone x ≡ true → IsContent n x rest → is_marker (content_text (put_core node x) rest) ≡ false
  content_unmarked n x rest h1 h2 = search (rules, false≢true, core_unmarked, tail_apart)

  -- it is on one line, if it is plain
  plain_short : (is_plain_content node && holds_break (node_text node [])) ≡ false
  plain_short = search rules

  following_anchor : (n g : List ℕ) → list_any is_feed n ≡ false → list_any is_feed g ≡ false → (is_plain_content node && holds_break (38 ∷ (n ++ (g ++ node_text node [])))) ≡ false
  following_anchor n g a b = search (rules, list_any-append)

  core_short : (old : inline.FlowNode) (spaces : Option ℕ) (d : ℕ) (rest : List ℕ) → IsFlowNode false spaces d old rest → (is_plain_content (recore node old) && holds_break (node_text (recore node old) [])) ≡ false
  unfolding IsFlowNode node_text
  core_short (anchored n g empty) spaces d rest h = following_anchor n (32 ∷ []) (name_feed n (g ++ rest) h.0.inside) refl
  core_short (anchored n g (alias m)) spaces d rest h = absurd (false≢true h.3)
  core_short (anchored n g (scalar p)) spaces d rest h = following_anchor n g (name_feed n (g ++ (p ++ rest)) h.0.inside) (gap_feed g _ h.1)
  core_short (anchored n g (coll k x xs)) spaces d rest h = following_anchor n g (name_feed n _ h.0.inside) (gap_feed g _ h.1)
  core_short (anchored n g (anchored m x old)) spaces d rest h = absurd (false≢true h.3)
  core_short _ spaces d rest h = plain_short

  pub content_short : (n : ℤ) (mark : rows.RowMark) (x : Content) (rest : List ℕ) → IsContent n x rest → is_long_plain mark (put_core node x) ≡ false
  content_short n mark x rest h1 = search (rules, plain_short, core_short)
