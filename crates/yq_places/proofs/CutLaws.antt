-- A text cut in three, and what is taken out of it with the first item or entry of a compact collection.
use Rattle.std.proofs.Common.{rules, ◌≡◌, ℕ, ◌+◌, ◌-◌, true, false, List, ◌++◌, length, length-append, take, drop, sym, ap, ◌∙◌, subst}
use Rattle.std.{proofs.Common.{arith, append_assoc}, proofs.Math.Seq.drop-append_seam, proofs.lemmas.List.take-append-drop}
use Rattle.std.{proofs.lemmas.Bool.{cond-false, cond-true}, proofs.lemmas.Str.{IsCharBoundary-at_seam, IsUtf8-append}}
use Rattle.std.specs.Str.{IsCharBoundary, IsUtf8}
use Rattle.yq_core.specs.Text.{cut, cut_line, line_len, no_space, upto}
use Rattle.yq_row_table.specs.Reading.{begins_gap}
use Rattle.yq_places.{specs.FirstPlaces.{end_spaces, first_out, less_spaces, piece_between}, specs.LineReading.{LiesBetween, piece_at}}
use Rattle.yq_places.proofs.FirstLaws.{spaces_parts}

module _ (t before after : List ℕ) (h : LiesBetween t before after) (u : IsUtf8 after) where
  abbrev end : ℕ
  end = length t - length after

  long : length t ≡ length before + (length h.own + length after)
  long = omega (arith, ap length h.text, length-append before (h.own ++ after), length-append h.own after)

  size : end - length before ≡ length h.own
  size = omega (arith, long)

  rest : drop (length before) t ≡ h.own ++ after
  rest = ap (drop (length before)) h.text ∙ drop-append_seam before (h.own ++ after)

  pub between_starts : IsCharBoundary t (length before)
  between_starts = IsCharBoundary-at_seam t before (h.own ++ after) h.text (IsUtf8-append h.own after h.utf8 u)

  pub between_ends : IsCharBoundary (drop (length before) t) (end - length before)
  between_ends = subst (IsCharBoundary (drop (length before) t)) (sym size) (IsCharBoundary-at_seam (drop (length before) t) h.own after rest u)

-- An item or entry of a text, with the line after it.
module _ (t : List ℕ) (start end : ℕ) (before own after : List ℕ) (a : before ≡ take start t) (b : own ≡ take (end - start) (drop start t))
    (d : after ≡ drop (end - start) (drop start t)) (u : IsUtf8 own) (line next : List ℕ) (e : (line, next) ≡ cut_line after) where
  whole : t ≡ before ++ (own ++ after)
  whole = sym (take-append-drop start t) ∙ (ap (λ x. take start t ++ x) (sym (take-append-drop (end - start) (drop start t))) ∙ (λ i. sym a i ++ (sym b i ++ sym d i)))

  piece_is : piece_at start end t ≡ piece_between before own after
  piece_is = λ i. piece_between (sym a i) (sym b i) (sym d i)

  next_is : next ≡ (cut_line after).1
  next_is = ap (λ (x : List ℕ × List ℕ). x.1) e

  -- where a gap is after that
  module _ (less spaces : List ℕ) (f : less ≡ less_spaces before) (g : spaces ≡ end_spaces before) (v : IsUtf8 spaces) where
    pub gap_lies : LiesBetween t less after
    gap_lies = record {
      own = end_spaces before ++ own;
      text = whole ∙ (ap (λ x. x ++ (own ++ after)) (spaces_parts before) ∙ (append_assoc (less_spaces before) (end_spaces before) (own ++ after)
          ∙ (λ i. sym f i ++ sym (append_assoc (end_spaces before) own after) i)));
      utf8 = IsUtf8-append (end_spaces before) own (subst IsUtf8 g v) u;
    }

    pub gap_out : begins_gap next ≡ true → piece_between less gap_lies.own after ≡ first_out (piece_at start end t)
    unfolding gap_lies
    gap_out is = search (rules, cond-true, next_is, piece_is)

  -- where the next one is
  module _ (indent rest : List ℕ) (f : (indent, rest) ≡ cut no_space next) (v : IsUtf8 line) (w : IsUtf8 indent) where
    pub next_lies : LiesBetween t before rest
    next_lies =
        let first : line ++ next ≡ after = (λ i. (e i).0 ++ (e i).1) ∙ take-append-drop (line_len after) after in
        let second : indent ++ rest ≡ next = (λ i. (f i).0 ++ (f i).1) ∙ take-append-drop (upto no_space next) next in
        let all : own ++ after ≡ (own ++ (line ++ indent)) ++ rest =
        ap (λ x. own ++ x) (sym first ∙ (ap (λ x. line ++ x) (sym second) ∙ sym (append_assoc line indent rest))) ∙ sym (append_assoc own (line ++ indent) rest) in
        record { own = own ++ (line ++ indent); text = whole ∙ ap (λ x. before ++ x) all; utf8 = IsUtf8-append own (line ++ indent) u (IsUtf8-append line indent v w) }

    pub next_out : begins_gap next ≡ false → piece_between before next_lies.own rest ≡ first_out (piece_at start end t)
    unfolding next_lies
    next_out is = search (rules, rest, next_is, cond-false, piece_is)
