-- What is asked of a document, as a test and as a fact.
use Rattle.std.{proofs.Common.{◌≡◌, List, [], ◌∷◌, true, ◌&&◌, refl, rules}, proofs.lemmas.Bool.{and_parts, and_from, le-leb, not-true}}
use Rattle.yq_core.{specs.Nodes.{Items, none, item}, specs.FitKeys.{has_fit_key, has_fit_keys, each_has_fit_keys}}
use Rattle.yq_core.proofs.DistinctKeys.{differ, differs}
use Rattle.yq_row_table.specs.Rows.{Content, Inline, Row}
use Rattle.yq_documents.specs.Documents.{HasFitKey, HasFitKeys, EachHasFitKeys, ContentHasFitKeys, MarkIsFit, HaveFitKeys, HasShortRoot}
use Rattle.yq_documents.specs.Reading.{content_is_fit, mark_is_fit, have_fit_keys, has_short_root}
use Rattle.yq_core.specs.Nodes as inline
use Rattle.yq_row_table.specs.Rows as rows

fit_key_is : (key : inline.Key) → has_fit_key key ≡ true → HasFitKey key
fit_key_is key h1 = search rules

is_fit_key : (key : inline.Key) → HasFitKey key → has_fit_key key ≡ true
is_fit_key key h1 = search (rules, and_from, differs, le-leb)

mutual
  fit_keys_are : (n : inline.FlowNode) → has_fit_keys n ≡ true → HasFitKeys n
  fit_keys_are inline.empty e = tt
  fit_keys_are (inline.alias name) e = tt
  fit_keys_are (inline.scalar p) e = tt
  fit_keys_are (inline.coll close gap is) e = each_fit_is is e
  fit_keys_are (inline.anchored name gap n) e = fit_keys_are n e

  each_fit_is : (is : Items) → each_has_fit_keys is ≡ true → EachHasFitKeys is
  each_fit_is none e = tt
  each_fit_is (item key n sep is) e =
      let p = and_parts (has_fit_key key) (has_fit_keys n && each_has_fit_keys is) e in
      let q = and_parts (has_fit_keys n) (each_has_fit_keys is) p.1 in (fit_key_is key p.0, fit_keys_are n q.0, each_fit_is is q.1)

mutual
  are_fit_keys : (n : inline.FlowNode) → HasFitKeys n → has_fit_keys n ≡ true
  are_fit_keys inline.empty h = refl
  are_fit_keys (inline.alias name) h = refl
  are_fit_keys (inline.scalar p) h = refl
  are_fit_keys (inline.coll close gap is) h = is_each_fit is h
  are_fit_keys (inline.anchored name gap n) h = are_fit_keys n h

  is_each_fit : (is : Items) → EachHasFitKeys is → each_has_fit_keys is ≡ true
  is_each_fit none h = refl
  is_each_fit (item key n sep is) h = and_from (has_fit_key key) (has_fit_keys n && each_has_fit_keys is) (is_fit_key key h.0) (and_from (has_fit_keys n) (each_has_fit_keys is) (are_fit_keys n h.1) (is_each_fit is h.2))

content_fit_is : (c : Content) → content_is_fit c ≡ true → ContentHasFitKeys c
content_fit_is (Inline space node tail) e = fit_keys_are node e
content_fit_is x e = tt

is_content_fit : (c : Content) → ContentHasFitKeys c → content_is_fit c ≡ true
is_content_fit (Inline space node tail) h = are_fit_keys node h
is_content_fit x h = refl

is_mark_fit : (m : rows.RowMark) → MarkIsFit m → mark_is_fit m ≡ true
is_mark_fit m h1 = search (rules, differs)

pub keys_are : (rs : List Row) → have_fit_keys rs ≡ true → HaveFitKeys rs
keys_are [] e = tt
keys_are (r ∷ rs) e =
    let p = and_parts (mark_is_fit r.mark) (content_is_fit r.content && have_fit_keys rs) e in
    let q = and_parts (content_is_fit r.content) (have_fit_keys rs) p.1 in (search (rules, differ, not-true), content_fit_is r.content q.0, keys_are rs q.1)

pub are_keys : (rs : List Row) → HaveFitKeys rs → have_fit_keys rs ≡ true
are_keys [] h = refl
are_keys (r ∷ rs) h = and_from (mark_is_fit r.mark) (content_is_fit r.content && have_fit_keys rs) (is_mark_fit r.mark h.0) (and_from (content_is_fit r.content) (have_fit_keys rs) (is_content_fit r.content h.1) (are_keys rs h.2))

-- the root
pub short_is : (rs : List Row) → has_short_root rs ≡ true → HasShortRoot rs
short_is rs h1 = search (rules, not-true)

pub is_short : (rs : List Row) → HasShortRoot rs → has_short_root rs ≡ true
is_short rs h1 = search rules
