use Rattle.std.proofs.Common.{ap, sym, ◌∙◌}
use Rattle.std.specs.Option.{option_copied}
use Rattle.std.proofs.lemmas.List.{take_all}
use Rattle.vl_memtable.specs.Contents.{Contents}
use Rattle.vl_model.specs.Winners.{exact}
use Rattle.vl_version.specs.Sources.{held_entries}
use Rattle.vl_version.proofs.FrozenLaws.{frozen_none, frozen_some}
use Rattle.vl_version.proofs.frozen.exact_frozen.Goals as goal

pub loop-log-preserved : goal.loop-log-preserved
loop-log-preserved c =
    let key = c.args.key.now in
    let version = c.args.version in
    frozen_none key version c.args.frozen.now c.loop-log.log-index c.log-item.result c.loop-log-test.true c.log-item.is c.loop-log.invariant
    (ap (λ (m : Contents). exact m.entries key version) (sym c.memtable.ensures) ∙ sym c.exact.ensures ∙ ap option_copied c.in_default.is)

pub returns-in-Some : goal.returns-in-Some
returns-in-Some c =
    let key = c.args.key.now in
    let version = c.args.version in
    sym (frozen_some key version c.args.frozen.now c.loop-log.log-index c.log-item.result c.loop-log-test.true
    c.log-item.is c.loop-log.invariant
    c.in-Some.entry.now
    (ap (λ (m : Contents). exact m.entries key version) (sym c.memtable.ensures) ∙ sym c.exact.ensures ∙ ap option_copied c.in-Some.is))

pub returns : goal.returns
returns c =
    sym (ap (λ l. exact (held_entries l) c.args.key.now c.args.version)
    (sym (take_all c.loop-log.log-index c.args.frozen.now c.loop-log-test.false)) ∙ c.loop-log.invariant)
