use Rattle.std.proofs.Common.{◌+◌, ◌++◌, ap, arith, length, refl, subst, sym, ◌∙◌, ℕ, List}
use Rattle.vl_steps.proofs.RelocatingEntries.{staged_count, staged_entries, staged_pointers}
use Rattle.vl_steps.specs.laws.RelocatingStaged.{staged_more, staged_new, staged_some}
use Rattle.vl_steps.specs.laws.RunLengths.{moves_long}
use Rattle.vl_memtable.specs.Contents.{IsNewTo}
use Rattle.vl_memtable.specs.Lengths.{lengths_with}
use Rattle.vl_model.specs.Entries.{in_order}
use Rattle.vl_model.specs.declared.entry.Entry.{Entry}
use Rattle.vl_steps.proofs.relocate.stage_move.Goals as goal

pub run_of-requires : goal.run_of-requires
run_of-requires g c =
    staged_pointers c.args.core.now.front c.args.moved.now c.deref.result.now
    (c.deref.ensures.value ∙ c.in_ok-frame.ensures.staged.pointers)

pub with_run-requires-clause-some : goal.with_run-requires-clause-some
with_run-requires-clause-some g c =
    let core = c.args.core.now in
    let moved = c.args.moved.now in
    let is = c.in_ok-run.ensures ∙ ap in_order (staged_entries core.front moved c.deref.result.now
    (c.deref.ensures.value ∙ c.in_ok-frame.ensures.staged.pointers)) in
    let same = ap length is in
    let some = staged_some core moved c.requires c.requires.relocation.some in
    omega (arith, same, some)

pub with_run-requires-clause-new : goal.with_run-requires-clause-new
with_run-requires-clause-new g c =
    let core = c.args.core.now in
    let moved = c.args.moved.now in
    let is = c.in_ok-run.ensures ∙ ap in_order (staged_entries core.front moved c.deref.result.now
    (c.deref.ensures.value ∙ c.in_ok-frame.ensures.staged.pointers)) in
    subst (IsNewTo core.version.active.entries) (sym is) (staged_new core moved c.requires)

pub overflow_cast-result : goal.overflow_cast-result
overflow_cast-result g c =
    let few = staged_count c.args.core.now.front.log.number c.args.core.now.front.log.length c.args.moved.now c.in_ok-frame.frame
    c.in_ok-frame.ensures.staged in
    omega (arith, few)

pub returns-clause-staged : goal.returns-clause-staged
returns-clause-staged g c =
    let core = c.args.core.now in
    let moved = c.args.moved.now in
    let is = c.in_ok-run.ensures ∙ ap in_order (staged_entries core.front moved c.deref.result.now
    (c.deref.ensures.value ∙ c.in_ok-frame.ensures.staged.pointers)) in
    record {
      frame = c.in_ok-frame.ensures.staged;
      frame_for = c.in_ok-frame.ensures.staged_for;
      more = c.in_ok-active.ensures.entries
          ∙ ap (λ (es : List Entry). in_order (es ++ core.version.active.entries)) is
          ∙ staged_more core.front moved core.version.active.entries;
      notes = c.in_ok-notes.ensures;
      count = refl;
    }

pub returns-clause-lengths : goal.returns-clause-lengths
returns-clause-lengths g c =
    let core = c.args.core.now in
    let moved = c.args.moved.now in
    let pointers = c.deref.result.now in
    let same = staged_pointers core.front moved pointers (c.deref.ensures.value ∙ c.in_ok-frame.ensures.staged.pointers) in
    c.in_ok-active.ensures.lengths ∙ ap (λ (n : ℕ). lengths_with n core.version.active.lengths)
    (ap length c.in_ok-run.ensures ∙ moves_long moved pointers c.requires.relocation.once same)
