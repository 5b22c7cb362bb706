use Rattle.std.proofs.Common.{◌≡◌, ◌+◌, ◌++◌, ℕ, List, ap, arith, length, sym, subst, ◌∙◌, ◌<◌}
use Rattle.std.specs.FinMap.{entries}
use Rattle.vl_steps.proofs.Staged.{is_commit, staged_entries, staged_many, staged_new, staged_some}
use Rattle.vl_engine_model.specs.Logs.{frame_entries}
use Rattle.vl_memtable.specs.Contents.{IsNewTo}
use Rattle.vl_memtable.specs.Lengths.{lengths_with}
use Rattle.vl_model.specs.Entries.{in_order}
use Rattle.vl_model.specs.Formats.{log_format}
use Rattle.vl_model.specs.declared.change.Change.{Change}
use Rattle.vl_model.specs.declared.entry.Entry.{Entry}
use Rattle.vl_model.specs.declared.log_frame.LogFrame.TheVariants.{Committed}
use Rattle.vl_seglog.specs.Staging.{IsStaged}
use Rattle.vl_seglog.specs.Stored.{pointers_from}
use Rattle.vl_steps.proofs.commit.stage_commit.Goals as goal

pub stage_commit-requires : goal.stage_commit-requires
stage_commit-requires g c =
    let list = c.as_slice.result.now in
    let many = ap length c.as_slice.ensures.entries in
    let last = c.last-number.ensures.last in
    let some = c.requires.may.some in
    let below = c.requires.may.below in
    is_commit c.last-number.result list (omega (arith, many, some)) (omega (arith, last, below))
    c.as_slice.ensures.rising c.as_slice.ensures.lawful

pub run_of-requires : goal.run_of-requires
run_of-requires g c = (
  c.args.core.now.front.log.number,
  c.args.core.now.front.log.length + 17,
  c.deref.ensures.value ∙ c.in_ok-frame.ensures.staged.pointers
      ∙ ap (λ (ws : List (List ℕ × Change)). pointers_from log_format c.args.core.now.front.log.number
      (c.args.core.now.front.log.length + 17) ws) c.as_slice.ensures.entries,
)

pub with_run-requires-clause-some : goal.with_run-requires-clause-some
with_run-requires-clause-some g c =
    let front = c.args.core.now.front in
    let lead = c.deref.ensures.value ∙ c.in_ok-frame.ensures.staged.pointers
    ∙ ap (λ (ws : List (List ℕ × Change)). pointers_from log_format front.log.number (front.log.length + 17) ws)
    c.as_slice.ensures.entries in
    subst (λ (es : List Entry). 0 < length es) (sym c.in_ok-run.ensures)
    (staged_some front.log (c.last-number.result + 1) (entries c.args.writes.now) c.deref.result.now lead c.requires.may.some)

pub with_run-requires-clause-new : goal.with_run-requires-clause-new
with_run-requires-clause-new g c =
    let front = c.args.core.now.front in
    let lead = c.deref.ensures.value ∙ c.in_ok-frame.ensures.staged.pointers
    ∙ ap (λ (ws : List (List ℕ × Change)). pointers_from log_format front.log.number (front.log.length + 17) ws)
    c.as_slice.ensures.entries in
    let last = c.last-number.ensures.last in
    subst (IsNewTo c.args.core.now.version.active.entries) (sym c.in_ok-run.ensures)
    (staged_new front.log (c.last-number.result + 1) (entries c.args.writes.now) c.deref.result.now lead front.oracle.last
    c.args.core.now.version.active.entries c.requires.known (omega (arith, last)))

pub returns-clause-staged : goal.returns-clause-staged
returns-clause-staged g c =
    let front = c.args.core.now.front in
    let writes = c.args.writes.now in
    let lead = c.deref.ensures.value ∙ c.in_ok-frame.ensures.staged.pointers
    ∙ ap (λ (ws : List (List ℕ × Change)). pointers_from log_format front.log.number (front.log.length + 17) ws)
    c.as_slice.ensures.entries in
    let number : c.last-number.result + 1 ≡ front.oracle.last + 1 = ap (λ (n : ℕ). n + 1) c.last-number.ensures.last in
    record {
      frame = subst (λ (n : ℕ). IsStaged front.log.number front.log.length (Committed n (entries writes)) c.in_ok-frame.frame) number
          (subst (λ (ws : List (List ℕ × Change)). IsStaged front.log.number front.log.length
          (Committed (c.last-number.result + 1) ws) c.in_ok-frame.frame)
          c.as_slice.ensures.entries c.in_ok-frame.ensures.staged);
      frame_for = c.in_ok-frame.ensures.staged_for;
      more = c.in_ok-active.ensures.entries
          ∙ ap (λ (es : List Entry). in_order (es ++ c.args.core.now.version.active.entries))
          (c.in_ok-run.ensures ∙ staged_entries front.log (c.last-number.result + 1) (entries writes) c.deref.result.now lead
          ∙ ap (λ (n : ℕ). frame_entries log_format front.log.number front.log.length (Committed n (entries writes))) number);
      keys = c.in_ok-keys.ensures.keys;
    }

pub returns-clause-lengths : goal.returns-clause-lengths
returns-clause-lengths g c =
    let front = c.args.core.now.front in
    let lead = c.deref.ensures.value ∙ c.in_ok-frame.ensures.staged.pointers
    ∙ ap (λ (ws : List (List ℕ × Change)). pointers_from log_format front.log.number (front.log.length + 17) ws)
    c.as_slice.ensures.entries in
    c.in_ok-active.ensures.lengths ∙ ap (λ (n : ℕ). lengths_with n c.args.core.now.version.active.lengths)
    (ap length c.in_ok-run.ensures
    ∙ staged_many front.log (c.last-number.result + 1) (entries c.args.writes.now) c.deref.result.now lead)
