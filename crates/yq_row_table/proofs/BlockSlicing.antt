-- Block scalars after a mark, as the code lends them.
use Rattle.std.proofs.Common.{rules, ◌≡◌, ℕ, suc, ◌+◌, ◌-◌, ◌<◌, true, false, ◌||◌, eqb, List, [], ◌∷◌, ◌++◌, length, take, drop, Option}
use Rattle.std.proofs.Common.{Some, None, refl, sym, ap, ◌∙◌, subst, ⊎_elim, arith, ℤ, length-append, length-take}
use Rattle.std.proofs.lemmas.Bool.{false≢true, or_cases, and_parts, cases_Bool}
use Rattle.std.{proofs.Math.Seq.{take-append_seam, drop-append_seam, get_or-append_seam}, proofs.lemmas.Option.same_Some}
use Rattle.std.{proofs.lemmas.Str.IsCharBoundary-start, specs.Str.{IsUtf8, IsCharBoundary}}
use Rattle.yq_core.{specs.Answers.◌>>=◌, specs.Block.{style_indicator, BlockText, block_text, block_piece, is_tail, IsBlock}}
use Rattle.yq_core.{specs.BlockReading.{block_at, block_from}, specs.Piece.deeper}
use Rattle.yq_core.{specs.Text.{cut, upto, unless, front, no_white, is_line, joined}, specs.declared.piece.Piece.Piece}
use Rattle.yq_core.{proofs.BlockLaws.block_takes, proofs.BlockPieceLaws.{line_lf, raw_lf, cut_lf}, proofs.Bools.bind_some}
use Rattle.yq_core.{proofs.Boundaries.{break_ascii, white_ascii}, proofs.Upto.{upto_here, upto_ends, upto_le_length}}
use Rattle.yq_core.{specs.Nodes.{begins_with, in_name}, specs.Reading.name_at}
use Rattle.yq_row_table.{specs.View.{anchor_with_sign, apart_of}, specs.Slicing.{cut_anchor, cut_apart, block_sliced}}
use Rattle.yq_row_table.{specs.Reading.{past_anchor, begins_block, anchor_at, block_content_at}, specs.Rows.Anchor}

-- where a block scalar begins
past_is : (t : List ℕ) → past_anchor t ≡ (cut_apart t).2
past_is t = search (rules, cases_Bool)

pub block_begins : (t : List ℕ) → begins_block t ≡ front (λ b. eqb b 124 || eqb b 62) (cut_apart t).2
block_begins t = ap (front (λ b. eqb b 124 || eqb b 62)) (past_is t)

-- the first byte of a tail
tail_low : (b : ℕ) (l : List ℕ) → is_tail (b ∷ l) ≡ true → b < 128
tail_low b l h = search (rules, and_parts, white_ascii, upto_here, break_ascii, false≢true, or_cases, cases_Bool)

seam_low : (a r : List ℕ) (b : ℕ) → b < 128 → IsCharBoundary (a ++ (b ∷ r)) (length a)
seam_low a r b low = search (rules, get_or-append_seam, length-append)

-- The pieces of a block scalar in front of a text.
pub record Read (n : ℤ) (t : List ℕ) (p : Piece) : Type 0 where
  pub block : BlockText
  pub rest : List ℕ
  pub read : block_at (deeper n) t ≡ Some (block, rest)
  pub law : IsBlock (deeper n) block rest
  pub is_located : t ≡ block_text block rest
  pub head_end : p.head_end ≡ suc (length block.indicators)
  pub raw_start : p.raw_start ≡ suc (length block.indicators) + length block.tail
  pub end : p.end ≡ suc (length block.indicators) + length block.tail + length (joined block.raw)

pub block_read : (n : ℤ) (t : List ℕ) (p : Piece) → block_from n 0 t ≡ Some p → Read n t p
unfolding block_from
block_read n t p h =
    let x = bind_some (block_at (deeper n) t) h in
    let is : block_piece 0 x.0.0 ≡ p = same_Some _ _ x.2 in
    let laws = block_takes (deeper n) t x.0 x.1 in
    record {
      block = x.0.0;
      rest = x.0.1;
      read = x.1;
      law = laws.1;
      is_located = laws.0;
      head_end = omega (arith, ap (λ (q : Piece). q.head_end) (sym is));
      raw_start = omega (arith, ap (λ (q : Piece). q.raw_start) (sym is));
      end = omega (arith, ap (λ (q : Piece). q.end) (sym is));
    }

-- The header, the rest of its line, the raw lines and what follows, cut one after the other.
pub record Cuts (n : ℤ) (t : List ℕ) (p : Piece) (h : Read n t p) : Type 0 where
  pub head : take p.head_end t ≡ style_indicator h.block.style ∷ h.block.indicators
  pub after_head : drop p.head_end t ≡ h.block.tail ++ (joined h.block.raw ++ h.rest)
  pub tail_len : p.raw_start - p.head_end ≡ length h.block.tail
  pub raw_len : p.end - p.raw_start ≡ length (joined h.block.raw)

pub cuts : (n : ℤ) (t : List ℕ) (p : Piece) (h : Read n t p) → Cuts n t p h
cuts n t p h = search (rules, take-append_seam, drop-append_seam)

pub head_boundary : (n : ℤ) (t : List ℕ) (p : Piece) → Read n t p → IsCharBoundary t p.head_end
unfolding is_line
head_boundary n t p h = search (rules, false≢true, seam_low, tail_low)

pub tail_boundary : (n : ℤ) (t u : List ℕ) (p : Piece) → Read n t p → u ≡ drop p.head_end t → IsUtf8 u → IsCharBoundary u (p.raw_start - p.head_end)
tail_boundary n t u p h e utf8 =
    let c = cuts n t p h in
    cut_lf u h.block.tail (joined h.block.raw ++ h.rest) (p.raw_start - p.head_end) (e ∙ c.after_head) (line_lf h.block.tail (and_parts (is_line h.block.tail) _ h.law.tail).0) c.tail_len utf8

raw_is : (n : ℤ) (t u v : List ℕ) (p : Piece) (h : Read n t p) → u ≡ drop p.head_end t → v ≡ drop (p.raw_start - p.head_end) u → v ≡ joined h.block.raw ++ h.rest
raw_is n t u v p h e f =
    let c = cuts n t p h in
    f ∙ (ap (λ k. drop k u) c.tail_len ∙ (ap (drop (length h.block.tail)) (e ∙ c.after_head) ∙ drop-append_seam h.block.tail (joined h.block.raw ++ h.rest)))

pub raw_boundary : (n : ℤ) (t u v : List ℕ) (p : Piece) → Read n t p → u ≡ drop p.head_end t → v ≡ drop (p.raw_start - p.head_end) u → IsUtf8 v → IsCharBoundary v (p.end - p.raw_start)
raw_boundary n t u v p h e f utf8 =
    let c = cuts n t p h in
    let is = raw_is n t u v p h e f in
    ⊎_elim
    (λ none. let zero_is : p.end - p.raw_start ≡ 0 = c.raw_len ∙ ap length none in subst (λ (k : ℕ). IsCharBoundary v k) (sym zero_is) (IsCharBoundary-start v utf8))
    (λ lf. cut_lf v (joined h.block.raw) h.rest (p.end - p.raw_start) is lf c.raw_len utf8)
    (raw_lf h.block.indent h.block.raw h.law.lines)

-- the name of an anchor
name_there : (v : List ℕ) → (length (38 ∷ take (upto (unless in_name) v) v) ≡ 1 → ⊥) → name_at v ≡ Some (cut (unless in_name) v)
unfolding name_at
name_there v some = search (rules, upto_here, cases_Bool)

name_missing : (v : List ℕ) → length (38 ∷ take (upto (unless in_name) v) v) ≡ 1 → name_at v ≡ None
unfolding name_at
name_missing v one = search (rules, upto_le_length, length-take, upto_ends)

-- The anchor before a block scalar, if there is one.
pub record AnchorRead (t a g u : List ℕ) : Type 0 where
  pub anchor : Option Anchor
  pub read : anchor_at t ≡ Some (anchor, u)
  pub name : anchor_with_sign anchor ≡ a
  pub apart : apart_of anchor ≡ g

named : (v a g u : List ℕ) → (a, g, u) ≡ cut_apart (38 ∷ v) → (length a ≡ 1 → ⊥) → AnchorRead (38 ∷ v) a g u
unfolding anchor_at
named v a g u e some =
    let k = upto (unless in_name) v in
    let name_is : a ≡ 38 ∷ take k v = ap (λ (y : List ℕ × List ℕ × List ℕ). y.0) e in
    let there = name_there v (λ one. some (ap length name_is ∙ one)) in
    let after : (cut no_white (drop k v)).1 ≡ u = ap (λ (y : List ℕ × List ℕ × List ℕ). y.2) (sym e) in
    record {
      anchor = Some (record { name = take k v; gap = (cut no_white (drop k v)).0 });
      read = rw there (ap (λ (l : List ℕ). Some (Some (record { name = take k v; gap = (cut no_white (drop k v)).0 }), l)) after);
      name = sym name_is;
      apart = ap (λ (y : List ℕ × List ℕ × List ℕ). y.1) (sym e);
    }

-- without an anchor
no_apart : (t : List ℕ) → begins_with 38 t ≡ false → ((cut_apart t).0 ≡ []) × ((cut_apart t).1 ≡ []) × ((cut_apart t).2 ≡ t)
no_apart t h = (rw h refl, rw h refl, rw h refl)

unnamed : (t a g u : List ℕ) → begins_with 38 t ≡ false → (a, g, u) ≡ cut_apart t → AnchorRead t a g u
unfolding anchor_at
unnamed t a g u amp e = search (rules, no_apart)

pub anchor_read : (t a g u : List ℕ) → (a, g, u) ≡ cut_apart t → (length a ≡ 1 → ⊥) → AnchorRead t a g u
anchor_read t a g u e some = search (rules, unnamed, named, cases_Bool)

missing : (n : ℤ) (space v : List ℕ) → length (38 ∷ take (upto (unless in_name) v) v) ≡ 1 → block_sliced n space (38 ∷ v) ≡ None
unfolding block_content_at anchor_at
missing n space v one = rw (name_missing v one) refl

pub anchor_missing : (n : ℤ) (space t a g u : List ℕ) → (a, g, u) ≡ cut_apart t → length a ≡ 1 → block_sliced n space t ≡ None
anchor_missing n space t a g u e one = search (rules, no_apart, missing, cases_Bool)

-- the code's cut
pub apart_none : (t : List ℕ) → begins_with 38 t ≡ false → ([], [], t) ≡ cut_apart t
apart_none t h = rw h refl

pub apart_some : (t a r g u : List ℕ) → begins_with 38 t ≡ true → (a, r) ≡ cut_anchor t → (g, u) ≡ cut no_white r → (a, g, u) ≡ cut_apart t
apart_some t a r g u h e f = search rules

pub block_some : (n : ℤ) (space t a g u head r tail s raw rest : List ℕ) (p : Piece) → (a, g, u) ≡ cut_apart t → (length a ≡ 1 → ⊥) → block_from n 0 u ≡ Some p →
    head ≡ take p.head_end u → r ≡ drop p.head_end u → tail ≡ take (p.raw_start - p.head_end) r → s ≡ drop (p.raw_start - p.head_end) r → raw ≡ take (p.end - p.raw_start) s → rest ≡ drop (p.end - p.raw_start) s →
    block_sliced n space t ≡ Some (record { space = space; anchor = a; apart = g; head = head; tail = tail; raw = raw; plain = false; alone = false; rest = rest })
unfolding block_content_at
block_some n space t a g u head r tail s raw rest p e some h head_is r_is tail_is s_is raw_is_ rest_is =
    let k = anchor_read t a g u e some in
    let b = block_read n u p h in
    let c = cuts n u p b in
    search (rules, take-append_seam, raw_is, drop-append_seam)

no_block : (o : Option (BlockText × List ℕ)) → (o >>= λ x. Some (block_piece 0 x.0)) ≡ None → o ≡ None
no_block o h = search rules

pub block_refused : (n : ℤ) (space t a g u : List ℕ) → (a, g, u) ≡ cut_apart t → (length a ≡ 1 → ⊥) → block_from n 0 u ≡ None → block_sliced n space t ≡ None
unfolding block_content_at block_from
block_refused n space t a g u e some h =
    let k = anchor_read t a g u e some in rw (k.read, no_block (block_at (deeper n) u) h) refl
