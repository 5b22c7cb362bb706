use Rattle.std.proofs.Common.{◌≡◌, ap, subst, sym, ◌∙◌}
use Rattle.std.specs.Prelude.{All}
use Rattle.std.proofs.lemmas.List.Elements.{All-push}
use Rattle.vl_memtable.specs.Contents.{Contents}
use Rattle.vl_memtable.specs.Lengths.{one_run}
use Rattle.vl_recover.specs.opening.Results.{IsOneRun}
use Rattle.vl_recover.proofs.logs.with_frozen.Goals as goal

pub returns-clause-runs : goal.returns-clause-runs
returns-clause-runs c before =
    subst (All IsOneRun) (sym c.in_ok-push.ensures.items)
    (All-push IsOneRun c.args.frozen.items _ before
    (subst (λ (m : Contents). m.lengths ≡ one_run m.entries) (sym c.freeze.ensures) c.in_ok-memtable.ensures.runs))
