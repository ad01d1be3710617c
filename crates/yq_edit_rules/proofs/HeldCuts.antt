-- Where what a key or dash holds is cut into pieces.
use Rattle.std.proofs.Common.{rules, inl, inr, ◌≡◌, ◌⊎◌, ℕ, ℤ, ◌<◌, Bool, true, false, cond, List, [], ◌∷◌, ◌++◌, length, replicate, Some}
use Rattle.std.proofs.Common.{refl, sym, ap, ◌∙◌, subst, arith, append_assoc, append-nil}
use Rattle.std.{proofs.lemmas.Bool.{cases_lt, eqb-true, false≢true, false_from_ne_true, not-false}, proofs.Math.Seq.take-append_seam}
use Rattle.std.{proofs.lemmas.Str.IsUtf8-take, specs.Str.IsUtf8}
use Rattle.yq_core.{specs.Text.{front, is_empty, is_return, is_white, no_white, unless, NoneIn}, proofs.Bools.at_byte}
use Rattle.yq_core.{specs.Nodes.{in_name, node_text, IsLead, IsName, IsFlowNode}, proofs.NodesWrittenLaws.node_then}
use Rattle.yq_core.specs.declared.block_types.Break.TheVariants.{Lf, CrLf}
use Rattle.yq_row_table.{specs.Gap.IsWhite, specs.Grammar.{IsContent, IsMark, is_entry}}
use Rattle.yq_row_table.{specs.Rows.{Content, Nothing, Inline, Block, dashes_text, mark_text}, specs.View.{Slices, content_cut}}
use Rattle.yq_row_table.{proofs.NodePieces.{BeginsAscii, before_ascii, following_ascii}, proofs.seams.ScalarSeams.ends_return}
use Rattle.yq_places.{specs.PrintedLines.{less_break, last_break}, specs.RowPieces.{anchor_before, space_before}}
use Rattle.yq_places.proofs.PrintedTexts.{less_is}
use Rattle.yq_edit_rules.{specs.TextPieces.IsPiece, proofs.LineFrontLaws.{clean_cut, ends_more}, proofs.TextPieceLaws.{byte_cut, nothing}}
use Rattle.yq_edit_rules.{proofs.BreakLaws.{IsLfOrCrLf, last_is}, proofs.CommentPieceLaws.break_piece}
use Rattle.yq_core.specs.Nodes as inline
use Rattle.yq_row_table.specs.Rows as rows

-- ---- white space before a head

all_white : (g t : List ℕ) → NoneIn no_white g t → IsWhite g
all_white [] t h = tt
all_white (b ∷ g) t h = (not-false (is_white b) h.0, all_white g t h.1)

lead_white : (p : List ℕ → Bool) (g t : List ℕ) → IsLead false p g t → IsWhite g
lead_white p g t (inl x) = all_white g t x.0.0
lead_white p g t (inr x) = subst IsWhite (sym x.0) tt

-- what comes before the head of a content, after its anchor if it has one, is white space
pub space_white : (n : ℤ) (x : Content) (rest : List ℕ) → IsContent n x rest → IsWhite (cond (is_empty (content_cut x).1) (content_cut x).0 (content_cut x).2)
unfolding IsFlowNode node_text
space_white n (Nothing z) rest h = tt
space_white n (Inline space (inline.anchored m g node) z) rest h = lead_white _ g _ h.1.valid.1
space_white n (Block space (Some a) block) rest h = h.1.1
space_white n _ rest h = h.0

-- ---- round the anchor's end

-- no part of a name is a CR
name_clean : (b : ℕ) (m t : List ℕ) → is_return b ≡ false → NoneIn (unless in_name) m t → ends_return (b ∷ m) ≡ false
name_clean b [] t e h = e
name_clean b (c ∷ m) t e h = name_clean c m t (at_byte in_name c 13 (not-false (in_name c) h.0) refl) h.1

-- what doesn't go on with a name begins with an ASCII byte
unnamed_ascii : (t : List ℕ) → unless in_name t ≡ true → BeginsAscii t
unnamed_ascii t h = search (rules, arith, false_from_ne_true, eqb-true, false≢true, cases_lt)

-- What is round the end of an anchor: no CR before it, and an ASCII byte after it.
pub record AnchorEnds (anchor after : List ℕ) : Type 0 where
  pub clean : ends_return anchor ≡ false
  pub ascii : BeginsAscii after

ascii_front : (a b : List ℕ) → BeginsAscii (a ++ b) → BeginsAscii a
ascii_front a b h = search rules

pub anchor_ends : (n : ℤ) (x : Content) (rest : List ℕ) → is_empty (content_cut x).1 ≡ false → IsContent n x rest → AnchorEnds (content_cut x).1 ((content_cut x).2 ++ (content_cut x).3)
unfolding IsFlowNode node_text
anchor_ends n (Inline space (inline.anchored m g node) z) rest some h =
    let name : IsName m (g ++ node_text node (z ++ rest)) = h.1.valid.0 in
    let text : g ++ node_text node (z ++ rest) ≡ (g ++ node_text node []) ++ (z ++ rest) = ap (λ l. g ++ l) (node_then node (z ++ rest)) ∙ sym (append_assoc g (node_text node []) (z ++ rest)) in
    record {
      clean = name_clean 38 m (g ++ node_text node (z ++ rest)) refl name.inside;
      ascii = ascii_front (g ++ node_text node []) (z ++ rest) (subst BeginsAscii text (unnamed_ascii (g ++ node_text node (z ++ rest)) name.ends));
    }
anchor_ends n (Block space (Some a) block) rest some h = search (rules, name_clean, ascii_front, append_assoc, unnamed_ascii)
anchor_ends n _ rest some h = absurd (false≢true (sym some))

-- ---- the end of a key or dash

-- A text ends in this byte.
abbrev pub EndsIn : ℕ → List ℕ → Type 0
EndsIn b t = (x : List ℕ) × (t ≡ x ++ b ∷ [])

pub following_ends : (b : ℕ) (x t : List ℕ) → EndsIn b t → EndsIn b (x ++ t)
following_ends b x t e = (x ++ e.0, ap (λ q. x ++ q) e.1 ∙ sym (append_assoc x e.0 (b ∷ [])))

-- a key ends in a `:`, a dash in itself
abbrev pub last_of : rows.RowMark → ℕ
last_of rows.Bare = 45
last_of rows.Dash = 45
last_of (rows.Key key colon) = 58

pub mark_ends : (m : rows.RowMark) (x : Content) (u : List ℕ) → is_entry m ≡ true → IsMark m x u → EndsIn (last_of m) (mark_text m [])
mark_ends rows.Bare x u e h = absurd (false≢true e)
mark_ends rows.Dash x u e h = ([], refl)
mark_ends (rows.Key key colon) x u e h = following_ends 58 key (colon ++ []) (h.colon_is.white, append-nil colon ∙ h.colon_is.spelled)

pub dashes_end : (b : ℕ) (ns t : List ℕ) → EndsIn b t → EndsIn b (dashes_text ns t)
dashes_end b [] t e = e
dashes_end b (n ∷ ns) t e = following_ends b (45 ∷ replicate n 32) (dashes_text ns t) (dashes_end b ns t e)

pub low_last : (m : rows.RowMark) → (last_of m < 128) × (is_return (last_of m) ≡ false)
low_last rows.Bare = (omega arith, refl)
low_last _ = (omega arith, refl)

-- a text cut after such a byte
pub last_cut : (b : ℕ) (x t : List ℕ) → b < 128 → is_return b ≡ false → IsPiece ((x ++ b ∷ []) ++ t) → IsPiece (x ++ b ∷ []) × IsPiece t
last_cut b x t low uncommented h =
    let front : IsUtf8 (x ++ b ∷ []) =
    subst IsUtf8 (take-append_seam (x ++ b ∷ []) t) (IsUtf8-take ((x ++ b ∷ []) ++ t) (length (x ++ b ∷ [])) h.utf8 (following_ascii (x ++ b ∷ []) t h.utf8 (record { front = x; last = b; is = refl; ascii = low }))) in
    clean_cut (x ++ b ∷ []) t h front (λ f. ends_more x (b ∷ []) refl ∙ uncommented)

front_utf8 : (a b : List ℕ) → IsPiece (a ++ b) → BeginsAscii b → IsUtf8 a
front_utf8 a b h k = subst IsUtf8 (take-append_seam a b) (IsUtf8-take (a ++ b) (length a) h.utf8 (before_ascii a b k))

-- and after the anchor there, if there is one
pub anchor_cut : (last : ℕ) (front : List ℕ) (s : Slices) → EndsIn last front → (last < 128) × (is_return last ≡ false) → (is_empty s.anchor ≡ false → AnchorEnds s.anchor (s.apart ++ s.head)) →
    IsPiece ((front ++ anchor_before s) ++ (space_before s ++ s.head)) → IsPiece (front ++ anchor_before s) × IsPiece (space_before s ++ s.head)
anchor_cut last front s ends low named = go (is_empty s.anchor) refl named
  where
    go : (b : Bool) → is_empty s.anchor ≡ b → (b ≡ false → AnchorEnds s.anchor (s.apart ++ s.head)) → IsPiece ((front ++ cond b [] (s.space ++ s.anchor)) ++ (cond b s.space s.apart ++ s.head)) →
        IsPiece (front ++ cond b [] (s.space ++ s.anchor)) × IsPiece (cond b s.space s.apart ++ s.head)
    go true e named all = search (rules, append-nil, last_cut)
    go false e named all =
        let k = named refl in
        let whole : List ℕ = front ++ (s.space ++ s.anchor) in
        let clean : ends_return whole ≡ false = ap ends_return (sym (append_assoc front s.space s.anchor)) ∙ (ends_more (front ++ s.space) s.anchor e ∙ k.clean) in
        clean_cut whole (s.apart ++ s.head) all (front_utf8 whole (s.apart ++ s.head) all k.ascii) (λ f. clean)

-- ---- the last break

pub break_is_piece : (b : List ℕ) → (b ≡ []) ⊎ IsLfOrCrLf b → IsPiece b
break_is_piece b (inl e) = subst IsPiece (sym e) nothing
break_is_piece b (inr (inl e)) = subst IsPiece (sym e) (break_piece Lf)
break_is_piece b (inr (inr e)) = subst IsPiece (sym e) (break_piece CrLf)

-- no CR comes before a last break that is an LF
less_clean : (t : List ℕ) → last_break t ≡ 10 ∷ [] → ends_return (less_break t) ≡ false
unfolding less_break
less_clean [] e = refl
less_clean (b ∷ (d ∷ (f ∷ t))) e = search (rules, ends_return, less_clean (d ∷ (f ∷ t)))
less_clean _ e = search (rules, ends_return)

-- a piece less its last break is one
pub less_piece : (t : List ℕ) → IsPiece t → IsPiece (less_break t)
less_piece t h = go (last_is t)
  where
    parted : IsPiece (less_break t ++ last_break t)
    parted = subst IsPiece (sym (less_is t)) h

    go : (last_break t ≡ []) ⊎ IsLfOrCrLf (last_break t) → IsPiece (less_break t)
    go (inl e) = subst IsPiece (ap (λ b. less_break t ++ b) e ∙ append-nil (less_break t)) parted
    go (inr (inl e)) = search (rules, arith, subst (λ b. IsPiece (less_break t ++ b)) e parted, clean_cut, front_utf8, less_clean)
    go (inr (inr e)) = (byte_cut (less_break t) (13 ∷ (10 ∷ [])) (subst (λ b. IsPiece (less_break t ++ b)) e parted) (omega arith, refl)).0
