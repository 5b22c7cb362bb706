use Rattle.std.proofs.Common.{◌∙◌, ap}
use Rattle.vl_version.specs.Oldest.{oldest_frozen}
use Rattle.vl_version.proofs.OldestLaws.{oldest_at}
use Rattle.vl_version.proofs.version.Version.oldest.Goals as goal

pub returns : goal.returns
returns g c =
    c.last.ensures.value ∙ oldest_at c.deref.result.now
    ∙ ap oldest_frozen (c.deref.ensures.value ∙ ap (λ behind. behind.frozen.items) c.as_ref.ensures)
