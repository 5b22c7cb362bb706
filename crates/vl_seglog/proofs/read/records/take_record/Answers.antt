use Rattle.std.specs.Option.{option_copied}
use Rattle.vl_seglog.specs.Record.{change_of}
use Rattle.vl_seglog.proofs.Records.{TookOne, took_one}
use Rattle.vl_seglog.proofs.read.records.take_record.Goals as goal

-- what was copied stands at the front
took : (c : goal.In_ok-change) → TookOne c.args.format c.args.bytes.now c.in-Some.record.length c.in_ok-key.key c.in_ok-change.change
took c =
    took_one c.args.format c.args.bytes.now c.in-Some.record.length c.in-Some.record.key.now c.in_ok-key.key
    (change_of (option_copied c.in-Some.record.value) c.in-Some.record.tag) c.in_ok-change.change
    c.in-Some.ensures.found c.in-Some.ensures.length c.in_ok-key.ensures c.in_ok-change.ensures

pub slice_bounds-result-count : goal.slice_bounds-result-count
slice_bounds-result-count c = (took c).within

pub slice_bounds-result-start : goal.slice_bounds-result-start
slice_bounds-result-start c = (took c).within

pub returns-clause-found : goal.returns-clause-found
returns-clause-found c =
    let t = took_one c.args.format c.args.bytes.now c.in-Some.record.length c.in-Some.record.key.now c.in_ok-key.key
    (change_of (option_copied c.in-Some.record.value) c.in-Some.record.tag) c.in_ok-change.change
    c.in-Some.ensures.found c.in-Some.ensures.length c.in_ok-key.ensures c.in_ok-change.ensures in
    (t.lawful, t.spelled)
