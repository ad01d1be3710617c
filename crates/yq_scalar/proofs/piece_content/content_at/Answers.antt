use Rattle.yq_core.specs.declared.style.Style.TheVariants as styles
use Rattle.yq_scalar.proofs.PieceKinds.{either_kind, is_plain, is_quoted, kind, text_quoted}
use Rattle.std.proofs.Common.{refl, ap, inl}
use Rattle.yq_scalar.proofs.piece_content.content_at.Goals as goal

pub quoted_content-requires : goal.quoted_content-requires
quoted_content-requires c =
    text_quoted c.args.text.now c.args.piece.now c.piece_text-in-Single.result.now
    (is_quoted c.args.text.now c.args.piece.now c.requires (either_kind c.args.piece.now.style styles.Single styles.Double 1 refl refl c.in-Single.is))
    c.piece_text-in-Single.ensures

pub piece_text-requires : goal.piece_text-requires
piece_text-requires c = record { begins = c.requires.begins; piece = inl (is_plain c.args.text.now c.args.piece.now c.requires (ap kind c.in-Plain.is)) }
