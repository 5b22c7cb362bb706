use Rattle.std.proofs.Common.{ℕ, ◌+◌, ◌<◌, ap, ◌∙◌, arith}
use Rattle.std.specs.FinMap.{entries, len}
use Rattle.vl_seglog.specs.Commit.{commit_length}
use Rattle.vl_front.proofs.Deciding.{has_room, is_full, next_length-counted}
use Rattle.vl_front.proofs.front.Front.room_for.Goals as goal
use Rattle.vl_front.proofs.front.Front.room_for.Goals.{else-length-self-via-then-length-self+else-frame-self}
use Rattle.vl_front.proofs.front.Front.room_for.Goals.{else-length-self-via-else-length-self}

pub returns-then-frame-self : goal.returns-then-frame-self
returns-then-frame-self c =
    let front = c.args.self.now in
    let writes = c.args.writes.now in
    let is =
    c.commit_length-frame.ensures ∙ ap (λ (n : ℕ). commit_length n c.bytes.result) c.len.ensures.value
    ∙ ap (commit_length (len writes)) c.bytes.ensures.value ∙ next_length-counted front writes
    in
    has_room front (entries writes) c.commit_length-frame.result is c.if-length-self.true c.if-frame-self.true

pub returns-else-length-self : goal.returns-else-length-self
returns-else-length-self c =
    let front = c.args.self.now in
    let writes = c.args.writes.now in
    let is =
    c.commit_length-frame.ensures ∙ ap (λ (n : ℕ). commit_length n c.bytes.result) c.len.ensures.value
    ∙ ap (commit_length (len writes)) c.bytes.ensures.value ∙ next_length-counted front writes
    in
    let above : front.room < front.log.length + c.commit_length-frame.result = elim c.else-length-self.branch [
      | else-length-self-via-then-length-self+else-frame-self w ↦ omega (arith, w.if-length-self.true, w.if-frame-self.false)
      | else-length-self-via-else-length-self w ↦ omega (arith, w.if-length-self.false)
    ] in
    is_full front (entries writes) c.commit_length-frame.result is above
