use Rattle.std.proofs.Common.{◌≡◌, drop}
use Rattle.yq_store.{specs.Belief.cover_links, specs.Trust.with_file}
use Rattle.yq_store.proofs.disk.belief.is_trusted.Given as goal

abbrev pub invariant-links : goal.invariant-links
invariant-links l = cover_links l.trust (with_file l.trust l.journal.writers) (drop l.link-index l.links) ≡ cover_links l.trust (with_file l.trust l.journal.writers) l.links
