-- Where the block scalar that is found is.
use Rattle.std.proofs.Common.{◌≡◌, ◌≢◌, ℕ, ◌+◌, ◌-◌, ◌≤◌, Bool, true, List, ◌++◌, length, drop, Option, Some, sym, ap, ◌∙◌, length-append}
use Rattle.std.{proofs.Common.{Result, Ok, Err, IfOk, ℤ, rules}, proofs.lemmas.Bool.false≢true, proofs.lemmas.Option.same_Some}
use Rattle.yq_core.{proofs.BlockLaws.{block_takes, block_again}, proofs.Bools.bind_some, proofs.HeaderLaws.head_length}
use Rattle.yq_core.{proofs.LineLaws.{joined_lines, joined-append}, proofs.RawLaws.raw_split, specs.Answers.ReadsAs}
use Rattle.yq_core.specs.Block.{as_style, is_block_fault, keeps, IsBlockPiece}
use Rattle.yq_core.specs.BlockReading.{raw_at, len_at, indent_at, read_style, indicators_at, values, read_header_tail, block_after}
use Rattle.yq_core.{specs.BlockReading.{block_at, read_block_piece, block_from}, specs.Piece.deeper, specs.Text.{text_lines, joined}}
use Rattle.yq_core.{specs.declared.block_header.BlockStyle.BlockStyle, specs.declared.block_header.Chomping.Chomping}
use Rattle.yq_core.{specs.declared.block_lines.TextIndent.TextIndent, specs.declared.fault.FaultKind.FaultKind}
use Rattle.yq_core.{specs.declared.fault.FaultKind.TheVariants.NotUtf8, specs.declared.piece.Piece.Piece, specs.declared.style.Style.Style}

pub raw_within : (keep : Bool) (f : TextIndent) (t : List ℕ) (n : ℕ) → len_at keep f t ≡ Some n → n ≤ length t
raw_within keep f t n h =
    let x = bind_some (raw_at keep f (text_lines t)) h in
    let text : t ≡ joined x.0.0 ++ joined x.0.1 = sym (joined_lines t) ∙ (ap joined (raw_split keep f (text_lines t) x.0 x.1) ∙ joined-append x.0.0 x.0.1) in
    search (rules, same_Some, length-append, text, x)

pub piece_is : (start least : ℕ) (t u r tail raw : List ℕ) (s : BlockStyle) (d : Option ℕ) (c : Chomping) (f : TextIndent) (k : Bool) (n : ℕ) (z : Style) →
    read_style t ≡ Some (s, u) → (d, c, r) ≡ values (indicators_at u) → read_header_tail r ≡ Some (tail, raw) → indent_at least d (text_lines raw) ≡ Some f → k ≡ keeps c → len_at k f raw ≡ Some n → z ≡ as_style s →
    read_block_piece start least t ≡ Some
    (record {
      style = z;
      start = start;
      head_end = start + (length t - length r);
      raw_start = start + (length t - length r) + length tail;
      end =
          start + (length t - length r) + length tail + n;
      indent = f.columns;
      keep = k;
    })
unfolding block_at block_after
piece_is start least t u r tail raw s d c f k n z h m g e q l y =
    let head = head_length t u r s d c h m in
    search (rules, bind_some, same_Some)

pub from_takes : (n : ℤ) (at : ℕ) (text : List ℕ) (p : Piece) → block_from n at text ≡ Some p → IsBlockPiece n at text p
unfolding block_from
from_takes n at text p h =
    let x = bind_some (block_at (deeper n) (drop at text)) h in
    let laws = block_takes (deeper n) (drop at text) x.0 x.1 in
    record { block = x.0.0; rest = x.0.1; is_located = laws.0; scalar = laws.1; piece = sym (same_Some _ _ x.2) }

pub from_again : (n : ℤ) (at : ℕ) (text : List ℕ) (p : Piece) → IsBlockPiece n at text p → block_from n at text ≡ Some p
unfolding block_from
from_again n at text p h = search (rules, block_again)

-- the public clauses
pub found_by : {E : Type 0} (n : ℤ) (at : ℕ) (text : List ℕ) (r : Result Piece E) → ReadsAs (λ p. p) r (block_from n at text) → IfOk r (IsBlockPiece n at text)
found_by n at text r h = search (rules, from_takes)

pub only_by : {E : Type 0} (n : ℤ) (at : ℕ) (text : List ℕ) (r : Result Piece E) → ReadsAs (λ p. p) r (block_from n at text) → (p : Piece) → IsBlockPiece n at text p → r ≡ Ok p
only_by n at text (Ok q) h p i = ap Ok (same_Some _ _ (sym h ∙ from_again n at text p i))
only_by n at text (Err e) h p i = absurd (let e = sym h ∙ from_again n at text p i in cc)

pub block_of_text : (k : FaultKind) → is_block_fault k ≡ true → k ≢ NotUtf8
block_of_text k is same = absurd (false≢true (sym (ap is_block_fault same) ∙ is))
