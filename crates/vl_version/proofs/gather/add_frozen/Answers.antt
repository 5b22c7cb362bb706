use Rattle.std.proofs.Common.{◌++◌, ◌+◌, ap, subst, sym, ◌∙◌, take}
use Rattle.std.proofs.lemmas.List.{take_all}
use Rattle.vl_memtable.specs.Contents.{Contents}
use Rattle.vl_version.specs.Gathered.{Adds}
use Rattle.vl_version.specs.Sources.{held_entries}
use Rattle.vl_version.proofs.FrozenLaws.{entries-push, take_next}
use Rattle.vl_version.proofs.Telling.{adds_as, adds_none, adds_then}
use Rattle.vl_version.proofs.gather.add_frozen.Goals as goal

pub loop-log-init : goal.loop-log-init
loop-log-init g c = record {
  adds = adds_none g.H.HeldFile.bytes c.args.span.now c.args.way c.args.sources.now.items;
  quiet = λ quiet. quiet;
  faults = λ before fail. fail;
}

pub loop-log-preserved : goal.loop-log-preserved
loop-log-preserved g c =
    let bytes = g.H.HeldFile.bytes in
    let all = c.args.frozen.now in
    let i = c.loop-log.log-index in
    let log = c.log-item.result in
    record {
      adds = adds_as bytes c.args.span.now c.args.way (held_entries (take i all) ++ log.memtable.entries) (held_entries (take (i + 1) all))
          c.args.sources.now.items c.add_memtable.new.sources.items
          (sym (ap held_entries (take_next all i log c.loop-log-test.true c.log-item.is) ∙ entries-push (take i all) log))
          (adds_then bytes c.args.span.now c.args.way (held_entries (take i all)) log.memtable.entries c.args.sources.now.items
          c.loop-log.sources.items c.add_memtable.new.sources.items c.loop-log.invariant.adds
          (subst (λ (m : Contents). Adds bytes c.args.span.now c.args.way m.entries c.loop-log.sources.items
          c.add_memtable.new.sources.items)
          c.memtable.ensures c.in_ok-add_memtable.ensures.winners));
      quiet = λ quiet. c.in_ok-add_memtable.ensures.quiet (c.loop-log.invariant.quiet quiet);
      faults = λ before fail. c.in_ok-add_memtable.ensures.faults before (c.loop-log.invariant.faults before fail);
    }

pub returns-clause-winners : goal.returns-clause-winners
returns-clause-winners g c =
    adds_as g.H.HeldFile.bytes c.args.span.now c.args.way (held_entries (take c.loop-log.log-index c.args.frozen.now))
    (held_entries c.args.frozen.now) c.args.sources.now.items c.loop-log.sources.items
    (ap held_entries (take_all c.loop-log.log-index c.args.frozen.now c.loop-log-test.false)) c.loop-log.invariant.adds

pub returns-clause-faults : goal.returns-clause-faults
returns-clause-faults g c = c.loop-log.invariant.faults
