-- Anchors of lines, and keys of rows, where some are replaced by others.
use Rattle.std.{proofs.Common.{◌≡◌, ℕ, List, [], ◌∷◌, ◌++◌, Option, refl, ap, ◌∙◌, subst, rules}, proofs.lemmas.Option.same_Some}
use Rattle.yq_row_table.specs.Rows.{Row}
use Rattle.yq_outline.{specs.LineAnchors.{IsFree, HaveOneAnchorEach}, specs.Outline.{Line, level, Outline, end, row, flatten}}
use Rattle.yq_outline.specs.Places.{Context, here, below, beside, lines_before, lines_after, FoundLine}
use Rattle.yq_outline.{proofs.Allowing.{Allows, IsCollection}, proofs.Plug.headless_entry, proofs.NameLaws.{each_front, each_back}}
use Rattle.yq_documents.specs.Documents.{HaveFitKeys}
use Rattle.yq_places.proofs.FlowViewLaws.{before_under}
use Rattle.yq_edit_rules.{specs.Conditions.{last_anchor, BeginsEntry, AnchorsStay, LinesAmong}, specs.Siblings.{NodeLines, under_line}}
use Rattle.yq_edit_rules.{proofs.NodeLineLaws.{after_under, Under, lines_found, under_even}, proofs.SiblingLaws.{next, entry_out}}
use Rattle.yq_outline.proofs.Allowing as allowing

each_join : (xs ys : List Line) → HaveOneAnchorEach xs → HaveOneAnchorEach ys → IsFree (last_anchor xs) ys → HaveOneAnchorEach (xs ++ ys)
each_join [] ys h k f = k
each_join (l ∷ []) ys h k f = (f, k)
each_join (l ∷ (m ∷ xs)) ys h k f = search (rules, each_join (m ∷ xs) ys h.1 k f)

pub any_free : (a : Option (List ℕ)) (ys : List Line) → BeginsEntry ys → IsFree a ys
any_free a ys e = search (rules)

pub anchors_stay : AnchorsStay
anchors_stay before gone come after h new free anew =
    search (rules, each_back gone after (each_back before (gone ++ after) h), each_join, each_front, any_free)

-- the lines after a place begin with an entry
pub collection_anew : (o : Outline) → IsCollection o → BeginsEntry (flatten o)
collection_anew end c = tt
collection_anew (row l u a) c = entry_out l.mark c

pub both_anew : (xs ys : List Line) → BeginsEntry xs → BeginsEntry ys → BeginsEntry (xs ++ ys)
both_anew xs ys h k = search rules

pub after_anew : (n m : ℕ) (p : Context) → Allows n p m → BeginsEntry (lines_after p)
after_anew n m here h = tt
after_anew n m (below l p a) h = both_anew (lines_after p) (flatten a) (after_anew h.3.0 m p h.3.2) (collection_anew a (next n l a h.2 h.0 h.4))
after_anew n m (beside l u p) h = after_anew n m p h.4

last_is : (xs : List Line) (l : Line) → last_anchor (xs ++ (l ∷ [])) ≡ l.anchor
last_is (k ∷ (m ∷ xs)) l = last_is (m ∷ xs) l
last_is _ l = refl

pub lines_among : LinesAmong
lines_among n o [] h even e = subst (λ (x : NodeLines). BeginsEntry (lines_after x.place) × (last_anchor (lines_before x.place) ≡ x.anchor)) (same_Some _ _ e) (tt, refl)
lines_among n o (s ∷ ss) h even e = found (lines_found s ss o h e)
  where
    found : Under s ss o h → BeginsEntry (lines_after h.place) × (last_anchor (lines_before h.place) ≡ h.anchor)
    found w =
        let f : FoundLine = w.found in
        let old = under_even n o s ss f even w.is in
        let entry : allowing.IsEntry f.line.mark = headless_entry f.line.mark f.line.head f.after w.open' (old.1).2 in
        let after : BeginsEntry (flatten f.after) = collection_anew f.after (next (level f.line) f.line f.after entry refl (old.1).4) in
        let following : BeginsEntry (lines_after (under_line f).place) = search (rules, after_under, both_anew, after_anew) in
        let anchor : last_anchor (lines_before (under_line f).place) ≡ f.line.anchor = ap last_anchor (before_under f.place f.line f.after) ∙ last_is (lines_before f.place) f.line in
        subst (λ (x : NodeLines). BeginsEntry (lines_after x.place) × (last_anchor (lines_before x.place) ≡ x.anchor)) w.place_is (following, anchor)

-- keys
pub fit_parts : (xs ys : List Row) → HaveFitKeys (xs ++ ys) → HaveFitKeys xs × HaveFitKeys ys
fit_parts [] ys h = (tt, h)
fit_parts (r ∷ xs) ys h = let k = fit_parts xs ys h.2 in ((h.0, h.1, k.0), k.1)

pub fit_from : (xs ys : List Row) → HaveFitKeys xs → HaveFitKeys ys → HaveFitKeys (xs ++ ys)
fit_from [] ys h k = k
fit_from (r ∷ xs) ys h k = (h.0, h.1, fit_from xs ys h.2 k)
