-- A piece of a node before one text is one before a text that is alike.
use Rattle.std.proofs.Common.{◌≡◌, inl, inr, ℕ, Bool, true, false, eqb, List, [], ◌∷◌, ◌++◌, Option, Some, None, refl, sym, ap, ◌∙◌, not}
use Rattle.std.{proofs.Common.{◌&&◌, rules}, proofs.Math.Bool.and-false}
use Rattle.yq_core.specs.Quoted.{Char, spell_chars, IsChar, AreChars, QuotedLines, last, line, spell_end, spell_lines, AreLines, IsQuoted}
use Rattle.yq_core.{specs.Text.{NoneIn, front, unless, is_break}, specs.declared.gap.GapPlace.GapPlace}
use Rattle.yq_core.{specs.Gaps.{goes, next_gap_place, AllGo, stops, IsInlineGap}, specs.Nodes.{in_name, IsName}}
use Rattle.yq_core.{specs.Alike.{Alike, stop, colon, any_colon, byte, after}, specs.Scalars.IsScalarAt}
use Rattle.yq_core.proofs.Alikes.{alike_append, alike_front, alike_unless, stop_break, alike_break, alike_marker, plain_alike}

-- quoted scalars
char_alike : (f : Option Bool) (q : ℕ) (c : Char) (t u : List ℕ) → Alike f t u → IsChar q c t → IsChar q c u
char_alike f q c t u h1 h2 = search (rules, alike_break)

chars_alike : (f : Option Bool) (q : ℕ) (cs : List Char) (t u : List ℕ) → Alike f t u → AreChars q cs t → AreChars q cs u
chars_alike f q [] t u h g = tt
chars_alike f q (c ∷ cs) t u h g = (char_alike f q c (spell_chars cs ++ t) (spell_chars cs ++ u) (alike_append f (spell_chars cs) t u h) g.0, chars_alike f q cs t u h g.1)

pub lines_alike : (f : Option Bool) (q : ℕ) (ls : QuotedLines) (t u : List ℕ) → Alike f t u → AreLines q ls t → AreLines q ls u
lines_alike f q (last cs) t u h g = chars_alike f q cs t u h g
lines_alike f q (line cs escaped b ls) t u h g =
    let more = alike_append f (spell_lines ls) t u h in
    let whole = alike_append f (spell_end escaped b) (spell_lines ls ++ t) (spell_lines ls ++ u) more in (
      chars_alike f q cs (spell_end escaped b ++ (spell_lines ls ++ t)) (spell_end escaped b ++ (spell_lines ls ++ u)) whole g.0,
      g.1,
      sym (alike_marker f (spell_lines ls ++ t) (spell_lines ls ++ u) more) ∙ g.2,
      lines_alike f q ls t u h g.3,
    )

-- of what comes after a quoted scalar only its first byte is asked
pub quoted_any : (q : ℕ) (ls : QuotedLines) (p t u : List ℕ) → front (λ b. eqb b 39) u ≡ false → IsQuoted q ls p t → IsQuoted q ls p u
quoted_any q ls p t u h g = record {
  quotes = g.quotes;
  spelled = g.spelled;
  lines = lines_alike None q ls (q ∷ t) (q ∷ u) (stop (search rules)) g.lines;
  closed = rw h (and-false (eqb q 39));
}

quoted_alike : (f : Option Bool) (q : ℕ) (ls : QuotedLines) (p t u : List ℕ) → Alike f t u → IsQuoted q ls p t → IsQuoted q ls p u
quoted_alike f q ls p t u h g = record {
  quotes = g.quotes;
  spelled = g.spelled;
  lines = lines_alike f q ls (q ∷ t) (q ∷ u) (after h) g.lines;
  closed = ap (λ b. eqb q 39 && b) (sym (alike_front (λ b. eqb b 39) f t u h)) ∙ g.closed;
}

-- scalars, names and gaps
pub scalar_alike : (flow : Bool) (spaces : Option ℕ) (p t u : List ℕ) → Alike (Some flow) t u → IsScalarAt flow spaces p t → IsScalarAt flow spaces p u
scalar_alike flow spaces p t u h (inl g) = inl (plain_alike flow spaces p t u h g)
scalar_alike flow spaces p t u h (inr g) = inr ((g.0.0, (g.0.1.0, quoted_alike (Some flow) g.0.0 g.0.1.0 p t u h g.0.1.1)), g.1)

pub none_unless : (q : ℕ → Bool) (p t u : List ℕ) → NoneIn (unless q) p t → NoneIn (unless q) p u
none_unless q [] t u h = tt
none_unless q (b ∷ p) t u h = (h.0, none_unless q p t u h.1)

pub name_by : (p t u : List ℕ) → unless in_name u ≡ true → IsName p t → IsName p u
name_by p t u h g = record { some = g.some; inside = none_unless in_name p t u g.inside; ends = h }

pub name_alike : (f : Option Bool) (p t u : List ℕ) → Alike f t u → IsName p t → IsName p u
name_alike f p t u h g = name_by p t u (sym (alike_unless in_name f t u h) ∙ g.ends) g

goes_alike : (f : Option Bool) (before : GapPlace) (b : ℕ) (t u : List ℕ) → Alike f t u → goes before b t ≡ goes before b u
goes_alike f before b t u h = search rules

all_go_alike : (f : Option Bool) (before : GapPlace) (p t u : List ℕ) → Alike f t u → AllGo before p t → AllGo before p u
all_go_alike f before [] t u h g = tt
all_go_alike f before (b ∷ p) t u h g = (sym (goes_alike f before b (p ++ t) (p ++ u) (alike_append f p t u h)) ∙ g.0, all_go_alike f (next_gap_place before b) p t u h g.1)

byte_stops : (before : GapPlace) (b : ℕ) (t u : List ℕ) → is_break (b ∷ t) ≡ is_break (b ∷ u) → stops before (b ∷ t) ≡ stops before (b ∷ u)
byte_stops before b t u h1 = search rules

stops_alike : (f : Option Bool) (before : GapPlace) (t u : List ℕ) → Alike f t u → stops before t ≡ stops before u
stops_alike _ before _ _ (stop {f} {b} {t} {u} x) = byte_stops before b t u (stop_break b t x ∙ sym (stop_break b u x))
stops_alike _ before _ _ (colon {flow} {t} {u} x y) = byte_stops before 58 t u refl
stops_alike _ before _ _ (any_colon {t} {u}) = byte_stops before 58 t u refl
stops_alike _ before _ _ (byte {f} {b} {t} {u} v w x y) = byte_stops before b t u (alike_break f (b ∷ t) (b ∷ u) (byte {f = f} v w x y))
stops_alike _ before _ _ (after {f} {b} {t} {u} h) = ap not (goes_alike f before b t u h)

pub gap_alike : (f : Option Bool) (p t u : List ℕ) → Alike f t u → IsInlineGap p t → IsInlineGap p u
gap_alike f p t u h g = search (rules, all_go_alike, stops_alike, alike_marker)
