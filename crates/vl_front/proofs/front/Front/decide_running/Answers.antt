use Rattle.std.proofs.Common.{ℕ, ◌<◌, List, true, false, sym, ap, subst, ◌∙◌, arith}
use Rattle.std.specs.FinMap.{entries}
use Rattle.vl_model.specs.Conflicts.{first_conflict}
use Rattle.vl_model.specs.Limits.{max_commit_number}
use Rattle.vl_model.specs.Notes.{AreNotesOf}
use Rattle.vl_model.specs.declared.span.Span.{Span}
use Rattle.vl_front.specs.Decisions.{checked_decision}
use Rattle.vl_front.proofs.Deciding.{checked, counted_empty, exhausted, nothing, room-written, some_written}
use Rattle.vl_front.proofs.front.Front.decide_running.Goals as goal

pub returns-then-is_empty-clause-decided : goal.returns-then-is_empty-clause-decided
returns-then-is_empty-clause-decided c h floor rs remembers le notes =
    nothing c.args.self.now (entries c.args.writes.now) (first_conflict h c.args.number rs)
    (counted_empty c.args.writes.now true (sym c.is_empty.ensures ∙ c.if-is_empty.true))

pub returns-then-last-ge-MAX_COMMIT_NUMBER-clause-decided : goal.returns-then-last-ge-MAX_COMMIT_NUMBER-clause-decided
returns-then-last-ge-MAX_COMMIT_NUMBER-clause-decided c h floor rs remembers le notes =
    exhausted c.args.self.now (entries c.args.writes.now) (first_conflict h c.args.number rs)
    (counted_empty c.args.writes.now false (sym c.is_empty.ensures ∙ c.if-is_empty.false))
    (omega (arith, c.last.ensures.last, c.if-last-ge-MAX_COMMIT_NUMBER.true))

pub returns-in-Some-clause-decided : goal.returns-in-Some-clause-decided
returns-in-Some-clause-decided c h floor rs remembers le notes =
    let front = c.args.self.now in
    let writes = entries c.args.writes.now in
    let below : front.oracle.last < max_commit_number = omega (arith, c.last.ensures.last, c.if-last-ge-MAX_COMMIT_NUMBER.false) in
    let same_spans = subst (λ (spans : List Span). AreNotesOf rs c.args.reads.now.keys spans) (sym c.spans.ensures) notes in
    let same = subst (λ (keys : List (List ℕ)). AreNotesOf rs keys c.spans.result.now) (sym c.keys.ensures) same_spans in
    ap (checked_decision front writes) (sym c.in-Some.is ∙ c.in_ok-key.ensures.conflict h floor rs remembers le same)
    ∙ checked front writes (first_conflict h c.args.number rs)
    (counted_empty c.args.writes.now false (sym c.is_empty.ensures ∙ c.if-is_empty.false)) below

pub returns-in-None-clause-decided : goal.returns-in-None-clause-decided
returns-in-None-clause-decided c h floor rs remembers le notes =
    let front = c.args.self.now in
    let writes = entries c.args.writes.now in
    let below : front.oracle.last < max_commit_number = omega (arith, c.last.ensures.last, c.if-last-ge-MAX_COMMIT_NUMBER.false) in
    let same_spans = subst (λ (spans : List Span). AreNotesOf rs c.args.reads.now.keys spans) (sym c.spans.ensures) notes in
    let same = subst (λ (keys : List (List ℕ)). AreNotesOf rs keys c.spans.result.now) (sym c.keys.ensures) same_spans in
    c.room_for.ensures
    ∙ ap (checked_decision front writes) (sym c.in-None.is ∙ c.in_ok-key.ensures.conflict h floor rs remembers le same)
    ∙ checked front writes (first_conflict h c.args.number rs)
    (counted_empty c.args.writes.now false (sym c.is_empty.ensures ∙ c.if-is_empty.false)) below

pub returns-in-None-clause-write : goal.returns-in-None-clause-write
returns-in-None-clause-write c written = record {
  running = c.requires;
  some = some_written _ (counted_empty c.args.writes.now false (sym c.is_empty.ensures ∙ c.if-is_empty.false));
  below = omega (arith, c.last.ensures.last, c.if-last-ge-MAX_COMMIT_NUMBER.false);
  fits = room-written c.args.self.now (entries c.args.writes.now) (sym c.room_for.ensures ∙ written);
}
