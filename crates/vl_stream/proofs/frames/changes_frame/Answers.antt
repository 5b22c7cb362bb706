use Rattle.std.proofs.Common.{refl}
use Rattle.vl_seglog.specs.Staging.{head_room}
use Rattle.vl_stream.specs.Pieces.{changes_body}
use Rattle.vl_stream.proofs.frames.changes_frame.Goals as goal

pub returns : goal.returns
returns c = c.in_ok-finish_frame.ensures.written head_room (changes_body c.args.records.now) refl c.in_ok-frame.ensures
