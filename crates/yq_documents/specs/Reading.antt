-- Reading (own; you may skip it: the clauses `found` and `only` show that it agrees with the grammar): bytes read as documents.
use Rattle.std.{specs.Prelude.{ℕ, List, [], ◌∷◌, map, Bool, true, not, ◌&&◌, Option, Some, None, if◌then◌else◌}, specs.List.list_all}
use Rattle.std.specs.Str.{is_utf8}
use Rattle.yq_core.{specs.Answers.◌>>=◌, specs.Tree.Node, specs.Inline.depth_limit, specs.Anchors.names_of}
use Rattle.yq_core.specs.FitKeys.{has_fit_keys, key_fits}
use Rattle.yq_row_table.{specs.Reading.scan_at, specs.Rows.{Content, Nothing, Inline, Block, Row, Part, Cut, last}}
use Rattle.yq_documents.specs.Documents.{Document, document_parts, lead_of, is_long_plain}
use Rattle.yq_outline.{specs.Group.group, specs.Lines.lines_of_rows, specs.LinesReading.{have_one_anchor_each, are_bound}}
use Rattle.yq_outline.{specs.Outline.{Outline, value}, specs.Sound.is_sound_outline}
use Rattle.yq_row_table.specs.Rows as rows

-- the outline of a part
abbrev pub part_outline : Part → Outline
part_outline p = group (lines_of_rows p.rows)

-- the root node that a part means
abbrev pub root_of : Part → Node
root_of p = value (part_outline p)

-- the document that a part means, if it means one
abbrev pub part_document : Part → Document
part_document p = record { lead = lead_of p; root = root_of p }

-- whether each key in a row's content is fit
abbrev pub content_is_fit : Content → Bool
content_is_fit (Nothing tail) = true
content_is_fit (Inline space node tail) = has_fit_keys node
content_is_fit (Block space anchor block) = true

-- whether the key of a row is no plain `<<`
abbrev pub mark_is_fit : rows.RowMark → Bool
mark_is_fit rows.Bare = true
mark_is_fit rows.Dash = true
mark_is_fit (rows.Key key colon) = key_fits key

-- whether each key in rows is fit
abbrev pub have_fit_keys : List Row → Bool
have_fit_keys [] = true
have_fit_keys (r ∷ rs) = mark_is_fit r.mark && (content_is_fit r.content && have_fit_keys rs)

-- whether the root is no plain scalar of several lines
abbrev pub has_short_root : List Row → Bool
has_short_root [] = true
has_short_root (r ∷ rs) = not (is_long_plain r.mark r.content)

-- whether each alias of a part has its anchor before it, and its outline is sound
abbrev pub has_sound_root : Part → Bool
has_sound_root p = are_bound [] (names_of (root_of p)) && is_sound_outline depth_limit (part_outline p)

-- whether a part means a document
abbrev pub is_document : Part → Bool
is_document p = have_fit_keys p.rows && (has_short_root p.rows && (have_one_anchor_each (lines_of_rows p.rows) && has_sound_root p))

-- the documents that the parts of a cut mean, where each means one
abbrev pub documents : Cut → List Document
documents c = map part_document (document_parts c)

-- whether the parts of a cut mean documents
abbrev pub all_documents : Cut → Bool
all_documents c = list_all is_document (document_parts c)

-- a cut whose parts mean documents
abbrev pub checked : Cut → Option Cut
checked c = if all_documents c then Some c else None

-- a text, cut into parts that mean documents
unfoldable pub checked_at : List ℕ → Option Cut
checked_at text = scan_at text >>= checked

-- bytes, which are UTF-8, cut into parts that mean documents
unfoldable pub read_at : List ℕ → Option Cut
read_at bytes = if is_utf8 bytes then checked_at bytes else None

-- a cut, or the cut of the empty text where there is none
abbrev pub cut_or : Option Cut → Cut
cut_or None = last (record { rows = []; end = [] })
cut_or (Some c) = c

-- the cut of a text; that of the empty text where it has none
unfoldable pub cut_of : List ℕ → Cut
cut_of text = cut_or (scan_at text)

-- the documents of a text, if it reads as documents
abbrev pub documents_of : List ℕ → List Document
documents_of text = documents (cut_of text)
