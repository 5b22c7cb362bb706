use Rattle.std.proofs.Common.{List, Some, inl, subst}
use Rattle.vl_compact.proofs.Searching.{none_counted, searched}
use Rattle.vl_compact.proofs.Making.{fresh_bytes, synced_fills}
use Rattle.vl_compact.specs.Keys.{behind}
use Rattle.vl_compact.specs.Reading.{MayWhere, counts}
use Rattle.vl_compact.specs.Stops.{MayStopIn}
use Rattle.vl_compact.specs.Walking.{is_behind}
use Rattle.vl_compact.specs.laws.BehindLaws.{along-merged}
use Rattle.vl_compact.specs.laws.ReadLaws.{behind_upward}
use Rattle.vl_engine_model.specs.Merging.{inputs_of}
use Rattle.vl_table.specs.CursorParts.{is_disk_fault}
use Rattle.vl_table.specs.declared.table.Table.{Table}
use Rattle.vl_compact.proofs.job.Job.write.Goals as goal

pub returns-clause-fills : goal.returns-clause-fills
returns-clause-fills g c = λ j fits fresh h first.
    let W = g.W.Writer in
    let bytes = g.H.HeldFile.bytes in
    let has = g.V.Sources.has in
    let job = c.args.self.now in
    let f = c.in-Ok.ensures.fills j _ h.is.base fits first (along-merged (behind job.after (inputs_of j.base)))
    (fresh_bytes W bytes has c.args.lent.now fresh) in
    synced_fills W bytes has j _ c.fill.new.lent c.sync.new.self c.in-Ok.filled f c.sync.ensures.number
    (c.in_ok-sync.ensures.settled _ f.whole.file)

pub returns-clause-settled : goal.returns-clause-settled
returns-clause-settled g c = c.in_ok-sync.ensures.durable

pub returns-clause-whole : goal.returns-clause-whole
returns-clause-whole g c =
    let key = c.in-Ok.filled.last in
    c.requires.stands (is_behind (Some key)) (behind_upward (Some key)) c.in-Ok.ensures.reads

-- where an entry isn't in order

pub returns-in-Err-NotInOrder-clause-cause : goal.returns-in-Err-NotInOrder-clause-cause
returns-in-Err-NotInOrder-clause-cause g c =
    let job = c.args.self.now in
    let may = MayWhere (g.V.Sources.fits job.base c.args.reader.now.looks) (g.V.Sources.may_fail job.base) in
    let its = counts (λ l. g.V.Sources.faults l) (λ r. g.R.Reader.faults r) c.args.reader.now c.fill.new.reader in
    let none = none_counted g.W.Writer (λ f. g.V.Sources.is_read_fault f) is_disk_fault may c.requires.may_stop its
    c.args.lent.now c.fill.new.lent c.in-Err-NotInOrder.field-0 c.in-Err-NotInOrder.field-0-is c.in-Err-NotInOrder.ensures.cause in
    let had = subst (λ (ts : List (Table g.row.H.Denot)). MayStopIn g.H.HeldFile.bytes job.after ts c.disorder_in.result)
    c.deref.ensures.value (c.disorder_in.ensures.may job.after) in
    inl (
      searched (λ l. g.V.Sources.faults l) (λ r. g.R.Reader.faults r) (λ f. g.V.Sources.is_read_fault f) may
          (MayStopIn g.H.HeldFile.bytes job.after job.inputs.tables.items) c.args.reader.now c.fill.new.reader
          c.disorder_in.new.reader c.disorder_in.result none.0 had c.disorder_in.ensures.cause,
      none.1,
    )
