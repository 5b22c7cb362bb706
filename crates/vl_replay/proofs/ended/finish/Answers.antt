use Rattle.std.proofs.Common.{take, drop, refl, sym, inr}
use Rattle.std.proofs.lemmas.List.{take-append-drop}
use Rattle.vl_replay.proofs.ended.finish.Goals as goal

pub returns-in-Err : goal.returns-in-Err
returns-in-Err g c =
    let part = c.in-Err.ensures.part in
    record {
      printed = take part.0 c.args.line.now;
      taken = part.2;
      later = c.in-Err.ensures.cause.later;
      how = inr (refl, (drop part.0 c.args.line.now, sym (take-append-drop part.0 c.args.line.now)), c.in-Err.ensures.cause.rose refl);
    }
