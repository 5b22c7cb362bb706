use Rattle.std.proofs.Common.{◌∙◌, ap, sym}
use Rattle.std.specs.Prelude.{map, string_bytes}
use Rattle.vl_prog.specs.Process.{folder_of}
use Rattle.vl_prog.proofs.Serving.{over_same}
use Rattle.vl_prog.proofs.process.serve.Goals as goal

pub returns-clause-served : goal.returns-clause-served
returns-clause-served g c =
    let same = ap (map string_bytes) c.as_slice.ensures.value in
    let ran = c.run-status.ensures in
    rw c.from-exit-2.ensures (
      c.in-Some.words,
      c.in-Some.ensures.words,
      over_same same (record {
        made = c.make_disk-disk.result;
        is_made = (c.in-Some.folder, c.in-Some.ensures.folder ∙ ap folder_of (sym same), c.make_disk-disk.ensures);
        does = record {
          answers = ran.answers;
          input = ran.input;
          tries = ran.tries;
          tries_in_time = ran.tries_in_time;
          untouched = ran.untouched;
          benches = ran.benches;
          drives = ran.drives;
          counts = ran.counts;
          not_plain = ran.not_plain;
        };
        cause = record {
          no_usage_line = ran.no_usage_line;
          no_fault_in_trial = ran.no_fault_in_trial;
          disk_fault = ran.disk_fault;
          reader_fault = ran.reader_fault;
          no_disk_fault = ran.no_disk_fault;
          refused = ran.refused;
          refuses = ran.refuses;
          read_fault = ran.read_fault;
          write_fault = ran.write_fault;
          no_stream_fault = ran.no_stream_fault;
        };
        called = ran.called;
        again = ran.again;
      }),
    )
