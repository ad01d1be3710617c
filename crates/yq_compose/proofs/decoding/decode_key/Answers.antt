use Rattle.std.{proofs.Common.{sym, ap, ◌∙◌}, proofs.lemmas.Bool.not-false}
use Rattle.yq_core.{specs.Text.is_empty, specs.Scalars.{scalar_content, is_quoted}}
use Rattle.yq_row_table.specs.View.{slices}
use Rattle.yq_compose.proofs.BorrowLaws.{quoted_is}
use Rattle.yq_compose.proofs.RowsRead.{key_fits_is, key_borrowed, key_quoted, key_unquoted, keyless, pieces_there, row_at}
use Rattle.yq_compose.proofs.decoding.decode_key.Goals as goal

pub returns-then-not-has_colon-clause-fits : goal.returns-then-not-has_colon-clause-fits
returns-then-not-has_colon-clause-fits c = λ r is.
    let pieces = pieces_there c.args.text.now c.args.rows.now c.requires.cut c.args.i r is in
    (keyless c.args.text.now c.args.rows.now c.requires.cut c.args.i r is (not-false (is_empty (slices r).colon) (sym (c.has_colon.ensures (slices r) pieces) ∙ c.if-not-has_colon.true))).0

pub returns-then-not-has_colon-clause-agrees : goal.returns-then-not-has_colon-clause-agrees
returns-then-not-has_colon-clause-agrees c = λ r is.
    let pieces = pieces_there c.args.text.now c.args.rows.now c.requires.cut c.args.i r is in
    (keyless c.args.text.now c.args.rows.now c.requires.cut c.args.i r is (not-false (is_empty (slices r).colon) (sym (c.has_colon.ensures (slices r) pieces) ∙ c.if-not-has_colon.true))).1

pub returns-then-not-key_fits-clause-fits : goal.returns-then-not-key_fits-clause-fits
returns-then-not-key_fits-clause-fits c = λ r is.
    let k = c.requires.cut in
    let key = c.key-key.ensures (slices r) (pieces_there c.args.text.now c.args.rows.now k c.args.i r is) in
    sym (key_fits_is c.args.text.now c.args.rows.now k c.args.i r is c.key-key.result.now key) ∙ (sym c.key_fits.ensures ∙ c.if-not-key_fits.true)

pub returns-then-not-is_quoted-clause-fits : goal.returns-then-not-is_quoted-clause-fits
returns-then-not-is_quoted-clause-fits c = λ r is.
    let k = c.requires.cut in
    let key = c.key-key.ensures (slices r) (pieces_there c.args.text.now c.args.rows.now k c.args.i r is) in
    sym (key_fits_is c.args.text.now c.args.rows.now k c.args.i r is c.key-key.result.now key) ∙ (sym c.key_fits.ensures ∙ c.if-not-key_fits.false)

pub returns-then-not-is_quoted-clause-agrees : goal.returns-then-not-is_quoted-clause-agrees
returns-then-not-is_quoted-clause-agrees c = λ r is.
    let k = c.requires.cut in
    let key = c.key-key.ensures (slices r) (pieces_there c.args.text.now c.args.rows.now k c.args.i r is) in
    key_unquoted c.args.text.now c.args.rows.now k c.args.i r is c.key-key.result.now key (ap is_quoted (sym c.as_bytes-2.ensures.value) ∙ (sym c.is_quoted.ensures ∙ c.if-not-is_quoted.true))

pub borrows_text-requires : goal.borrows_text-requires
borrows_text-requires c =
    let k = c.requires.cut in
    let r = row_at c.args.text.now c.args.rows.now k c.args.i c.requires.within in
    key_quoted c.args.text.now c.args.rows.now k c.args.i r.0 r.1 c.key-key.result.now (c.key-key.ensures (slices r.0) (pieces_there c.args.text.now c.args.rows.now k c.args.i r.0 r.1))

pub returns-then-borrows_text-clause-fits : goal.returns-then-borrows_text-clause-fits
returns-then-borrows_text-clause-fits c = λ r is.
    let k = c.requires.cut in
    let key = c.key-key.ensures (slices r) (pieces_there c.args.text.now c.args.rows.now k c.args.i r is) in
    sym (key_fits_is c.args.text.now c.args.rows.now k c.args.i r is c.key-key.result.now key) ∙ (sym c.key_fits.ensures ∙ c.if-not-key_fits.false)

pub returns-then-borrows_text-clause-agrees : goal.returns-then-borrows_text-clause-agrees
returns-then-borrows_text-clause-agrees c = λ r is.
    let k = c.requires.cut in
    let key = c.key-key.ensures (slices r) (pieces_there c.args.text.now c.args.rows.now k c.args.i r is) in
    key_borrowed c.args.text.now c.args.rows.now k c.args.i r is c.key-key.result.now key (sym c.borrows_text.ensures ∙ c.if-borrows_text.true)

pub quoted_content-requires : goal.quoted_content-requires
quoted_content-requires c =
    let k = c.requires.cut in
    let r = row_at c.args.text.now c.args.rows.now k c.args.i c.requires.within in
    key_quoted c.args.text.now c.args.rows.now k c.args.i r.0 r.1 c.key-key.result.now
    (c.key-key.ensures (slices r.0) (pieces_there c.args.text.now c.args.rows.now k c.args.i r.0 r.1))
    (ap is_quoted (sym c.as_bytes-2.ensures.value) ∙ (sym c.is_quoted.ensures ∙ c.if-not-is_quoted.false))

pub returns-clause-fits : goal.returns-clause-fits
returns-clause-fits c = λ r is.
    let k = c.requires.cut in
    let key = c.key-key.ensures (slices r) (pieces_there c.args.text.now c.args.rows.now k c.args.i r is) in
    sym (key_fits_is c.args.text.now c.args.rows.now k c.args.i r is c.key-key.result.now key) ∙ (sym c.key_fits.ensures ∙ c.if-not-key_fits.false)

pub returns-clause-agrees : goal.returns-clause-agrees
returns-clause-agrees c = λ r is.
    let key = c.key-key.ensures (slices r) (pieces_there c.args.text.now c.args.rows.now c.requires.cut c.args.i r is) in
    c.in_ok-quoted_content.ensures.exact ∙ (sym (quoted_is c.key-key.result.now (ap is_quoted (sym c.as_bytes-2.ensures.value) ∙ (sym c.is_quoted.ensures ∙ c.if-not-is_quoted.false))) ∙ ap scalar_content key)
