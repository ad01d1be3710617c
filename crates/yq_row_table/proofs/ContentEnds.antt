-- After a mark no dash and no key begins.
use Rattle.std.{proofs.Common.{◌≡◌, ℕ, ℤ, true, false, List, [], ◌∷◌, ◌++◌, Option, refl, rules}, proofs.Math.Bool.and-false}
use Rattle.std.proofs.lemmas.Bool.{cond_both}
use Rattle.yq_core.{specs.Block.{BlockText, block_text}, specs.Text.{cut, upto, no_space, is_white}, proofs.Bools.at_byte}
use Rattle.yq_core.{proofs.Upto.upto_here, specs.Nodes.begins_node}
use Rattle.yq_row_table.{specs.Gap.IsWhite, specs.Grammar.{IsContent, may_be_alone, IsMark}, specs.Reading.begins_entry}
use Rattle.yq_row_table.specs.Rows.{RowMark, Anchor, Content, Nothing, Inline, Block, content_text, anchor_text}
use Rattle.yq_row_table.{proofs.Fronts.{tail_front, node_starts}, proofs.MarkAgain.Ended, proofs.NodeFronts.{node_begins, block_front}}
use Rattle.yq_row_table.proofs.NoKeys.{no_key, tail_no_colon, NoEntry, node_no_entry}

-- White space, and after it neither a space nor a dash or key.
pub record NoEntryAfter (t : List ℕ) : Type 0 where
  pub white : List ℕ
  pub after : List ℕ
  pub is : t ≡ white ++ after
  pub blank : IsWhite white
  pub no_space : no_space after ≡ true
  pub none : NoEntry after

tab_no_scalar : (b : ℕ) (t : List ℕ) → is_white b ≡ true → NoEntry (b ∷ t)
tab_no_scalar b t h = search (rules, at_byte, no_key)

no_begin : (t : List ℕ) → NoEntry t → begins_entry t ≡ false
no_begin t h = rw (h.0, h.1) refl

entry_after : (w t : List ℕ) → IsWhite w → no_space t ≡ true → NoEntry t → begins_entry (cut no_space (w ++ t)).1 ≡ false
unfolding upto
entry_after [] t blank space none = rw (upto_here no_space t space) (no_begin t none)
entry_after (b ∷ w) t blank space none = search (rules, cond_both, no_begin, tab_no_scalar, entry_after w t blank.1 space none)

anchor_no_entry : (anchor : Option Anchor) (block : BlockText) (rest : List ℕ) → (no_space (anchor_text anchor (block_text block rest)) ≡ true) × NoEntry (anchor_text anchor (block_text block rest))
anchor_no_entry anchor block rest = search (rules, block_front, no_key)

pub content_no_entry : (n : ℤ) (c : Content) (rest : List ℕ) → IsContent n c rest → NoEntryAfter (content_text c rest)
content_no_entry n (Nothing tail) rest h =
    let f = tail_front tail rest h in
    record { white = f.white; after = f.after; is = f.is; blank = f.blank; no_space = f.stops.no_space; none = (f.stops.no_dash, no_key f.after f.stops.no_scalar) }
content_no_entry n (Inline space node tail) rest h = search (rules, node_begins, node_starts, node_no_entry, tail_no_colon)
content_no_entry n (Block space anchor block) rest h =
    let u = anchor_no_entry anchor block rest in
    record { white = space; after = anchor_text anchor (block_text block rest); is = refl; blank = h.0; no_space = u.0; none = u.1 }

-- what is alone on a line
pub alone_no_entry : (n : ℤ) (c : Content) (rest : List ℕ) → may_be_alone c ≡ true → IsContent n c rest → NoEntry (content_text c rest) × (begins_node false (content_text c rest) ≡ true)
alone_no_entry n c rest h1 h2 = search (rules, node_no_entry, tail_no_colon, node_begins)

-- a mark before its content is read, and no more
pub mark_ended : (mark : RowMark) (n : ℤ) (c : Content) (rest : List ℕ) → IsMark mark c rest → IsContent n c rest → Ended mark (content_text c rest)
mark_ended mark n c rest h1 h2 = search (rules, alone_no_entry, content_no_entry, entry_after, and-false)
