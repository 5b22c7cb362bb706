use Rattle.std.proofs.Common.{◌<◌, List, arith, inl, inr}
use Rattle.vl_stream.proofs.Bodies.{changes_found, light_so, none_counted, none_light, none_series, none_short}
use Rattle.vl_stream.proofs.Ended.{at_none}
use Rattle.vl_stream.specs.Batches.{Write, max_bytes, size_of}
use Rattle.vl_stream.specs.Reading.{IsSeriesAbove}
use Rattle.vl_stream.proofs.read.read_changes.Goals as goal
use Rattle.vl_stream.proofs.read.read_changes.Goals.{then-count-eq0-via-then-count-eq0}
use Rattle.vl_stream.proofs.read.read_changes.Goals.{then-count-eq0-via-else-count-eq0+then-count-gt-MAX_BATCH_RECORDS}

pub returns-in_default-clause-none : goal.returns-in_default-clause-none
returns-in_default-clause-none c ws are above = none_short c.args.body.now c.in_default.ensures.none ws

pub returns-then-count-eq0-clause-none : goal.returns-then-count-eq0-clause-none
returns-then-count-eq0-clause-none c ws are above says =
    elim c.then-count-eq0.branch [
      | then-count-eq0-via-then-count-eq0 w ↦
          none_counted c.args.body.now c.in-Some.rest.now c.in-Some.count c.in-Some.ensures.fits c.in-Some.ensures.found
          (inl w.if-count-eq0.true) ws are says
      | then-count-eq0-via-else-count-eq0+then-count-gt-MAX_BATCH_RECORDS w ↦
          none_counted c.args.body.now c.in-Some.rest.now c.in-Some.count c.in-Some.ensures.fits c.in-Some.ensures.found
          (inr w.if-count-gt-MAX_BATCH_RECORDS.true) ws are says
    ]

pub returns-in_default-2-clause-none : goal.returns-in_default-2-clause-none
returns-in_default-2-clause-none c =
    none_series c.args.last.now c.args.body.now c.in-Some.rest.now c.in-Some.count c.in-Some.ensures.fits
    c.in-Some.ensures.found
    (at_none c.in_ok-batch.field-0
    ((ws : List Write) → IsSeriesAbove c.args.last.now c.in-Some.rest.now c.in-Some.count ws → ⊥) c.in_default-2.not-Some
    c.in_ok-batch.ensures.none)

pub returns-then-batch-gt-MAX_BATCH_BYTES-clause-none : goal.returns-then-batch-gt-MAX_BATCH_BYTES-clause-none
returns-then-batch-gt-MAX_BATCH_BYTES-clause-none c =
    let found = rw c.in-Some-2.is at c.in_ok-batch.ensures.found in
    let heavy : max_bytes < size_of c.in-Some-2.batch.records.items =
    omega (arith, c.in-Some-2.batch.counted, c.if-batch-gt-MAX_BATCH_BYTES.true) in
    none_light c.args.last.now c.args.body.now c.in-Some.rest.now c.in-Some.count c.in-Some-2.batch.records.items
    c.in-Some.ensures.fits c.in-Some.ensures.found found c.if-count-gt1.true heavy

pub returns-clause-found : goal.returns-clause-found
returns-clause-found c =
    let found = rw c.in-Some-2.is at c.in_ok-batch.ensures.found in
    changes_found c.args.last.now c.args.body.now c.in-Some.rest.now c.in-Some.count c.in-Some-2.batch.records.items
    c.in-Some.ensures.found found (omega (arith, c.if-count-eq0.false)) c.if-count-gt-MAX_BATCH_RECORDS.false
    (light_so c.in-Some.count c.in-Some-2.batch.bytes c.in-Some-2.batch.records.items c.in-Some-2.batch.counted
    c.else-count-gt1.either)
