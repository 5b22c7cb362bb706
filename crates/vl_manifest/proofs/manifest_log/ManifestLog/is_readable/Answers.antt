use Rattle.vl_manifest.proofs.Said.{false_true}
use Rattle.vl_manifest.proofs.manifest_log.ManifestLog.is_readable.Goals as goal

pub returns-in_default : goal.returns-in_default
returns-in_default c =
    let none = rw c.in_default.is at c.format_of.ensures.none in
    (λ yes. absurd (false_true yes), λ r. absurd (none r.format r.header))
