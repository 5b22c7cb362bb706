use Rattle.std.proofs.Common.{◌≡◌, arith}
use Rattle.vl_frame.specs.Runs.{StandsNone}
use Rattle.vl_stream.proofs.Ended.{at_none, drained_so, end_in, ends_behind, ends_so, gave_batch_so, no_frame_so, no_piece_so}
use Rattle.vl_stream.specs.Grammar.{stream_grammar}
use Rattle.vl_stream.proofs.reader.StreamReader.next.Goals as goal

pub returns-in_default-clause-damaged : goal.returns-in_default-clause-damaged
returns-in_default-clause-damaged g c bytes place is why =
    no_frame_so c.args.self.now.at place c.args.self.now.last c.args.self.now.records bytes (cc)
    (at_none c.in_ok-frame.field-0 (StandsNone stream_grammar 0 c.args.self.now.at bytes) c.in_default.not-Some
    (c.in_ok-frame.ensures.none bytes c.args.self.now.at is))

pub returns-in-None-clause-damaged : goal.returns-in-None-clause-damaged
returns-in-None-clause-damaged g c bytes place is why =
    let gave = c.in_ok-frame.ensures.found bytes is in
    let long = c.in_ok-frame.ensures.long in
    no_piece_so c.args.self.now.at place c.args.self.now.last _ c.args.self.now.records bytes c.in-Some.frame.items _ _ (cc)
    c.as_slice.ensures c.deref.ensures.value (rw c.in-Some.is at long) (rw c.in-Some.is at gave)
    (rw c.in-None.is at c.in_ok-found.ensures.none)

pub returns-in-Some-Batch-clause-batch : goal.returns-in-Some-Batch-clause-batch
returns-in-Some-Batch-clause-batch g c bytes is =
    let gave = c.in_ok-frame.ensures.found bytes is in
    gave_batch_so c.args.self.now.at c.args.self.now.last _ c.args.self.now.records bytes c.in-Some.frame.items _ _
    c.in-Some-Batch.batch.records.items _ c.in-Some-Batch.last _
    c.as_slice.ensures c.deref.ensures.value (rw c.in-Some.is at gave)
    (c.in_ok-found.ensures.batch c.in-Some-Batch.batch c.in-Some-Batch.last (cc))
    (omega (arith, c.in_ok-pass-in-Some-Batch.ensures.place, c.len.ensures, c.in-Some.frame.ok.0))
    (omega (arith, c.in_ok-pass-in-Some-Batch.ensures.records, c.len-in-Some-Batch.ensures, c.in-Some-Batch.batch.records.ok.0))

pub returns-then-branch-gt0-clause-damaged : goal.returns-then-branch-gt0-clause-damaged
returns-then-branch-gt0-clause-damaged g c bytes place is why =
    let gave = c.in_ok-frame.ensures.found bytes is in
    let end = c.in_ok-found.ensures.end (cc) in
    let same : c.pass-in-Some-End.new.self.at ≡ place = cc in
    ends_behind c.args.self.now.at c.args.self.now.last c.args.self.now.records bytes c.in-Some.frame.items c.fill.new.out _ _
    end.0 c.in_ok-fill-in-Some-End.field-0 place (rw c.in-Some.is at gave)
    (end_in c.args.self.now.at c.args.self.now.records end.0 c.in-Some.frame.items _ c.deref.ensures.value end.1)
    c.in_ok-fill-in-Some-End.ensures.given c.if-branch-gt0.true c.in_ok-fill-in-Some-End.ensures.within
    (omega (arith, same, c.in_ok-pass-in-Some-End.ensures.place, c.len-in-Some-End.ensures, c.in-Some.frame.ok.0))

pub returns-clause-whole : goal.returns-clause-whole
returns-clause-whole g c bytes is =
    let gave = c.in_ok-frame.ensures.found bytes is in
    let end = c.in_ok-found.ensures.end (cc) in
    ends_so c.args.self.now.at c.args.self.now.last c.args.self.now.records bytes c.in-Some.frame.items c.fill.new.out _ _ end.0
    c.in_ok-fill-in-Some-End.field-0 (rw c.in-Some.is at gave)
    (end_in c.args.self.now.at c.args.self.now.records end.0 c.in-Some.frame.items _ c.deref.ensures.value end.1)
    c.in_ok-fill-in-Some-End.ensures.given c.if-branch-gt0.false
    (c.in_ok-fill-in-Some-End.ensures.end (omega (arith, c.in_ok-fill-in-Some-End.ensures.length, c.if-branch-gt0.false)))

pub returns-clause-drained : goal.returns-clause-drained
returns-clause-drained g c bytes is =
    let gave = c.in_ok-frame.ensures.found bytes is in
    drained_so bytes c.in-Some.frame.items c.fill.new.out _ _ c.in_ok-fill-in-Some-End.field-0 (rw c.in-Some.is at gave)
    c.in_ok-fill-in-Some-End.ensures.given
    (c.in_ok-fill-in-Some-End.ensures.end (omega (arith, c.in_ok-fill-in-Some-End.ensures.length, c.if-branch-gt0.false)))
