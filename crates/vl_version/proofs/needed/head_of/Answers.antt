use Rattle.std.proofs.Common.{ap, sym, ◌∙◌}
use Rattle.std.specs.Option.{option_copied}
use Rattle.vl_version.proofs.OldestLaws.{oldest_at}
use Rattle.vl_version.specs.Needed.{number_or}
use Rattle.vl_version.proofs.needed.head_of.Goals as goal

pub returns-in-Some : goal.returns-in-Some
returns-in-Some c =
    ap (λ log. number_or c.args.active (option_copied log)) (sym c.in-Some.is)
    ∙ ap (number_or c.args.active) (c.last.ensures.value ∙ oldest_at c.args.frozen.now)
