use Rattle.std.proofs.Common.{arith}
use Rattle.vl_table.proofs.ScanSteps.{cut_short, out_of_order}
use Rattle.vl_table.proofs.StartSteps.{few_found, finds_one, has_room, none_found, take_put}
use Rattle.vl_table.specs.body.Entries.{entry_of}
use Rattle.vl_table.proofs.body.block.are_entries.Goals as goal

pub loop-i-init : goal.loop-i-init
loop-i-init c = none_found c.args.tested c.args.format c.args.bytes.now c.args.count c.args.starts.now

pub returns-in-None-clause-whole : goal.returns-in-None-clause-whole
returns-in-None-clause-whole c = λ es run.
    absurd (cut_short c.args.tested c.args.format c.args.bytes.now c.args.count c.loop-i.i c.loop-i.last c.loop-i.rest.now
    c.loop-i.invariant.under_way c.loop-i-test.true
    (rw c.in-None.is at c.take_entry.ensures.none) es run)

pub returns-then-not-is_next-clause-whole : goal.returns-then-not-is_next-clause-whole
returns-then-not-is_next-clause-whole c = λ es run.
    absurd (out_of_order c.args.tested c.args.format c.args.bytes.now c.args.count c.loop-i.i c.loop-i.last c.loop-i.rest.now
    c.in-Some.entry c.in-Some.after.now
    c.loop-i.invariant.under_way c.in-Some.ensures.lawful c.in-Some.ensures.found
    (λ follows. let yes = c.is_next.ensures.1 follows in let no = c.if-not-is_next.true in cc) es run)

pub bounds-starts-i : goal.bounds-starts-i
bounds-starts-i c =
    omega (
      arith,
      has_room c.args.tested c.args.format c.args.bytes.now c.args.count c.loop-i.i c.loop-i.starts c.loop-i.last c.loop-i.rest.now c.loop-i.invariant
          (entry_of c.in-Some.entry) c.in-Some.after.now c.in-Some.ensures.lawful c.in-Some.ensures.found,
      c.loop-i.auto.starts,
      c.requires.room,
      c.requires.short,
    )

pub loop-i-preserved : goal.loop-i-preserved
loop-i-preserved c =
    finds_one c.args.tested c.args.format c.args.bytes.now c.args.count c.loop-i.i c.loop-i.starts _ c.loop-i.last c.loop-i.rest.now
    c.in-Some.entry c.in-Some.after.now
    c.loop-i.invariant c.in-Some.ensures.lawful c.in-Some.ensures.found (c.is_next.ensures.0 c.if-not-is_next.false)
    (take_put c.loop-i.starts c.loop-i.i _
    (omega (
      arith,
      has_room c.args.tested c.args.format c.args.bytes.now c.args.count c.loop-i.i c.loop-i.starts c.loop-i.last c.loop-i.rest.now c.loop-i.invariant
          (entry_of c.in-Some.entry) c.in-Some.after.now c.in-Some.ensures.lawful c.in-Some.ensures.found,
      c.loop-i.auto.starts,
      c.requires.room,
      c.requires.short,
    )))

pub returns-clause-few : goal.returns-clause-few
returns-clause-few c = λ empty.
    omega (
      arith,
      few_found c.args.tested c.args.format c.args.bytes.now c.args.count c.loop-i.i c.loop-i.starts c.loop-i.last c.loop-i.rest.now c.loop-i.invariant,
      c.requires.short,
    )
