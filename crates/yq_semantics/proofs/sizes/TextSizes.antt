-- How long the text is that a scalar means: a text has two bytes at least for each eight bytes of that.
use Rattle.std.proofs.Common.{◌≡◌, ℕ, zero, suc, ◌+◌, ◌*◌, ◌-◌, ◌≤◌, ◌/◌, Bool, true, false, ◌&&◌, not, List, [], ◌∷◌, ◌++◌, length, take}
use Rattle.std.proofs.Common.{drop, Option, Some, None, arith, length-append, length-take, length-drop, min, rules, slice_index}
use Rattle.std.{proofs.Common.{if◌then◌else◌, ◌==◌}, proofs.lemmas.Str.{length-encode, len_utf8_bounds}}
use Rattle.std.{proofs.lemmas.List.length-replicate, proofs.lemmas.Bool.false≢true}
use Rattle.yq_core.{specs.Block.{BlockText, RawLines, AreRaw, no_lines}, specs.declared.block_header.BlockStyle.BlockStyle}
use Rattle.yq_core.specs.BlockContent.{unindented, part_of, optional_break, literal, joint, chomped_end, is_spaced_line, strips}
use Rattle.yq_core.{specs.BlockContent.{block_lines_content, block_content}, specs.declared.block_header.Chomping.Chomping}
use Rattle.yq_core.specs.ContentReading.{BlankBefore, within, after, one_break_more, item_with_blanks, content_on, quoted_item, item_len}
use Rattle.yq_core.specs.ContentReading.{item_before, quoted_content, plain_content, escaped, escaped_len, break_len, is_pair}
use Rattle.yq_core.{specs.Lines.spaces, specs.Quoted.{folded, joined}, specs.Scalar.{of_kind, plain_of, string_of}}
use Rattle.yq_core.{specs.QuotedReading.leading_escape, specs.Scalars.{scalar_of, is_quoted}, specs.SchemaReading.resolve}
use Rattle.yq_core.specs.Text.{is_white, is_feed, is_break, front, is_line, upto, ends_line}
use Rattle.yq_core.{specs.declared.block_lines.TextIndent.TextIndent, specs.declared.block_types.LineBefore.LineBefore}
use Rattle.yq_core.specs.declared.kind.Kind.{Kind}
use Rattle.yq_core.specs.Text as text
use Rattle.yq_core.specs.BlockContent as block
use Rattle.yq_core.specs.declared.kind.Kind.TheVariants as kinds
use Rattle.yq_core.specs.declared.block_header.BlockStyle.TheVariants as styles
use Rattle.yq_core.specs.declared.block_header.Chomping.TheVariants as chompings
use Rattle.yq_core.specs.declared.block_types.LineBefore.TheVariants as before

-- ---- plain and quoted scalars

-- an escape has a byte at least after its backslash, if there is one
abbrev HasByte : Option (ℕ × ℕ) → Type 0
HasByte None = Unit {0}
HasByte (Some e) = 1 ≤ e.1

escape_byte : (bs : List ℕ) → HasByte (leading_escape bs)
unfolding leading_escape
escape_byte bs = search (rules, arith)

-- it means four bytes at most
escape_size : (bs : List ℕ) (e : Option (ℕ × ℕ)) → HasByte e → length (escaped e) + 2 * (suc (length bs) - escaped_len e) ≤ 2 + 2 * suc (length bs)
escape_size bs None h = omega arith
escape_size bs (Some e) h = omega (arith, h, length-encode e.0, (len_utf8_bounds e.0).1)

item_size : (q b : ℕ) (bs : List ℕ) → length (quoted_item q b bs) + 2 * (length bs - item_len q b bs) ≤ 2 + 2 * length bs
unfolding leading_escape
item_size q b [] = go (q == 34 && b == 92) (is_pair q (b ∷ []))
  where
    go : (slash pair : Bool) → length (if slash then [] else b ∷ []) + 2 * (0 - (if slash then 0 else (if pair then 1 else 0))) ≤ 2
    go true pair = omega arith
    go false true = omega arith
    go false false = omega arith
item_size q b (x ∷ xs) = go (q == 34 && b == 92) (is_break (x ∷ xs)) (is_pair q (b ∷ (x ∷ xs))) (leading_escape (x ∷ xs)) (escape_byte (x ∷ xs))
  where
    go : (slash brk pair : Bool) (e : Option (ℕ × ℕ)) → HasByte e →
        length (if slash then (if brk then [] else escaped e) else b ∷ []) + 2 * (suc (length xs) - (if slash then (if brk then break_len (x ∷ xs) else escaped_len e) else (if pair then 1 else 0))) ≤ 2 + 2 * suc (length xs)
    go true true pair e h = omega arith
    go true false pair e h = escape_size xs e h
    go false brk true e h = omega arith
    go false brk false e h = omega arith

joined_before : (q b : ℕ) (bs : List ℕ) → length (item_with_blanks (item_before q b bs) []) ≡ 0
joined_before q b bs = search rules

white_size : (c : BlankBefore) (w : List ℕ) (b : ℕ) → length (item_with_blanks c (w ++ b ∷ [])) ≤ suc (length (item_with_blanks c w))
white_size within w b = omega (arith, length-append w (b ∷ []))
white_size (after g) w b = omega arith

break_size : (c : BlankBefore) (w : List ℕ) → length (item_with_blanks (one_break_more c) []) ≤ suc (length (item_with_blanks c w))
break_size within w = omega arith
break_size (after (folded zero)) w = omega arith
break_size (after (folded (suc k))) w = omega (arith, length-replicate {A = ℕ} (suc k) text.feed, length-replicate {A = ℕ} (suc (suc k)) text.feed)
break_size (after (joined k)) w = omega (arith, length-replicate {A = ℕ} k text.feed, length-replicate {A = ℕ} (suc k) text.feed)

-- what is in quotes, or in none, means at most two bytes for each of its own
content_size : (q k : ℕ) (c : BlankBefore) (w t : List ℕ) → length (content_on q k c w t) ≤ length (item_with_blanks c w) + 2 * (length t - k)
unfolding content_on
content_size q k c w [] = omega arith
content_size q (suc k) c w (b ∷ bs) = omega (arith, content_size q k c w bs)
content_size q zero c w (b ∷ bs) = go (λ k d v. content_size q k d v bs) (is_white b) (is_feed b) (is_break (b ∷ bs))
  where
    rest : List ℕ
    rest = content_on q (item_len q b bs) (item_before q b bs) [] bs

    go : ((k : ℕ) (d : BlankBefore) (v : List ℕ) → length (content_on q k d v bs) ≤ length (item_with_blanks d v) + 2 * (length bs - k)) → (white lf brk : Bool) →
        length (if white then content_on q 0 c (w ++ b ∷ []) bs
        else (if lf then content_on q 0 (one_break_more c) [] bs
        else (if brk then content_on q 0 c w bs else item_with_blanks c w ++ (quoted_item q b bs ++ rest)))) ≤ length (item_with_blanks c w) + 2 * (suc (length bs) - 0)
    go others true lf brk = omega (arith, white_size c w b, others 0 c (w ++ b ∷ []))
    go others false true brk = omega (arith, break_size c w, others 0 (one_break_more c) [])
    go others false false true = omega (arith, others 0 c w)
    go others false false false = omega (
      arith,
      length-append (item_with_blanks c w) (quoted_item q b bs ++ rest),
      length-append (quoted_item q b bs) rest,
      item_size q b bs,
      joined_before q b bs,
      others (item_len q b bs) (item_before q b bs) [],
    )

plain_size : (t : List ℕ) → length (plain_content t) ≤ 2 * length t
plain_size t = omega (arith, content_size 0 0 within [] t)

quoted_size : (t : List ℕ) → length (quoted_content t) ≤ 2 * length t
quoted_size t =
    let inside : List ℕ = take (length t - 2) (drop 1 t) in
    omega (arith, content_size (slice_index t 0) 0 within [] inside, length-take (length t - 2) (drop 1 t), length-drop 1 t)

-- a scalar, and the byte that it has at least
of_kind_size : (k : Kind) (t : List ℕ) (n : ℕ) → length t ≤ 2 * n → 1 ≤ n → suc (2 * (length (of_kind k t).text / 8)) ≤ n
of_kind_size kinds.Null t n h some = omega arith
of_kind_size kinds.Bool t n h some = omega arith
of_kind_size kinds.Int t n h some = omega arith
of_kind_size kinds.Float t n h some = omega arith
of_kind_size kinds.Text t n h some = omega arith

pub scalar_size : (p : List ℕ) → 1 ≤ length p → suc (2 * (length (scalar_of p).text / 8)) ≤ length p
unfolding scalar_of
scalar_size p some = go (is_quoted p)
  where
    go : (quoted : Bool) → suc (2 * (length (if quoted then string_of (quoted_content p) else plain_of (plain_content p)).text / 8)) ≤ length p
    go true = omega (arith, some, quoted_size p)
    go false = of_kind_size (resolve (plain_content p)) (plain_content p) (length p) (plain_size p) some

-- ---- block scalars

part_size : (f : TextIndent) (l : List ℕ) → length (part_of f l) ≤ length l
part_size f l = omega (arith, length-take (upto ends_line (unindented f l)) (unindented f l), length-drop (if f.known then min f.columns (spaces l) else spaces l) l)

some_byte : (l : List ℕ) → is_line l ≡ true → 1 ≤ length l
unfolding is_line
some_byte [] h = absurd (false≢true h)
some_byte (b ∷ bs) h = omega arith

literal_size : (strip : Bool) (f : TextIndent) (ls : RawLines) → AreRaw f ls → length (literal strip f ls) ≤ 2 * length (text.joined ls)
unfolding literal
literal_size strip f [] h = omega arith
literal_size strip f (l ∷ ls) h =
    let end : List ℕ = optional_break (not (strip && no_lines ls)) in
    omega (
      arith,
      length-append (part_of f l ++ end) (literal strip f ls),
      length-append (part_of f l) end,
      length-append l (text.joined ls),
      part_size f l,
      end_size (not (strip && no_lines ls)),
      some_byte l h.0.0,
      literal_size strip f ls h.1,
    )
  where
    end_size : (b : Bool) → length (optional_break b) ≤ 1
    end_size true = omega arith
    end_size false = omega arith

joint_size : (b : LineBefore) (white : Bool) (k : ℕ) → length (joint b white k) ≤ suc k
joint_size b white k = search (rules, arith, length-replicate)

chomped_size : (c : Chomping) (b : LineBefore) (k : ℕ) → length (chomped_end c b k) ≤ suc k
chomped_size c b k = search (rules, arith, length-replicate)

folded_size : (c : Chomping) (f : TextIndent) (b : LineBefore) (k : ℕ) (ls : RawLines) → AreRaw f ls → length (block.folded c f b k ls) ≤ suc k + 2 * length (text.joined ls)
unfolding block.folded
folded_size c f b k [] h = omega (arith, chomped_size c b k)
folded_size c f b k (l ∷ ls) h = go (λ d j. folded_size c f d j ls h.1) (length (part_of f l) == 0)
  where
    next : List ℕ
    next = block.folded c f (is_spaced_line (part_of f l)) 0 ls

    go : ((d : LineBefore) (j : ℕ) → length (block.folded c f d j ls) ≤ suc j + 2 * length (text.joined ls)) → (none : Bool) →
        length (if none then block.folded c f b (k + 1) ls else (joint b (front is_white (part_of f l)) k ++ (part_of f l ++ next))) ≤ suc k + 2 * length (l ++ text.joined ls)
    go others true = omega (arith, length-append l (text.joined ls), some_byte l h.0.0, others b (k + 1))
    go others false = omega (
      arith,
      length-append l (text.joined ls),
      length-append (joint b (front is_white (part_of f l)) k) (part_of f l ++ next),
      length-append (part_of f l) next,
      joint_size b (front is_white (part_of f l)) k,
      part_size f l,
      some_byte l h.0.0,
      others (is_spaced_line (part_of f l)) 0,
    )

pub block_text_size : (b : BlockText) → AreRaw b.indent b.raw → 2 * (length (block_content b) / 8) ≤ length (text.joined b.raw)
block_text_size b h = go b.style
  where
    go : (s : BlockStyle) → 2 * (length (block_lines_content s b.chomping b.indent b.raw) / 8) ≤ length (text.joined b.raw)
    go styles.Literal = omega (arith, literal_size (strips b.chomping) b.indent b.raw h)
    go styles.Folded = omega (arith, folded_size b.chomping b.indent before.Nothing 0 b.raw h)
