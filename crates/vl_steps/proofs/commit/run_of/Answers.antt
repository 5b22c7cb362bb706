use Rattle.std.proofs.Common.{◌≡◌, ℕ, ◌++◌, ◌∷◌, [], List, add-one, ap, arith, length, refl, sym, subst, take, ◌∙◌}
use Rattle.std.specs.FinMap.{entries, entries_sorted}
use Rattle.vl_steps.proofs.Staged.{all_taken, as_many, entries_lead, one_entry_more}
use Rattle.vl_steps.specs.Staging.{commit_entries}
use Rattle.vl_engine_laws.specs.laws.MemtableLaws.{commit_in_order}
use Rattle.vl_model.specs.Formats.{log_format}
use Rattle.vl_model.specs.declared.change.Change.{Change}
use Rattle.vl_model.specs.declared.entry.Entry.{Entry}
use Rattle.vl_model.specs.declared.pointer.Pointer.{Pointer}
use Rattle.vl_model.specs.EntryOrder.{IsInOrder}
use Rattle.vl_steps.proofs.commit.run_of.Goals as goal

pub loop-i-preserved : goal.loop-i-preserved
loop-i-preserved c =
    let ws = c.as_slice-writes.result.now in
    let ps = c.args.pointers.now in
    let (segment, place, lead) = c.requires in
    let same : length ps ≡ length ws =
    ap length lead ∙ as_many log_format segment place (entries c.args.writes.now) ∙ sym (ap length c.as_slice-writes.ensures.entries) in
    rw add-one
    (c.in_ok-push.ensures.items
    ∙ ap (λ (es : List Entry). es ++ c.in_ok-entry_of.field-0 ∷ []) c.loop-i.invariant
    ∙ ap (λ (e : Entry). commit_entries c.args.number (take c.loop-i.i ws) ps ++ e ∷ []) c.in_ok-entry_of.ensures
    ∙ sym (one_entry_more c.args.number ws ps c.loop-i.i c.index-writes-i.result _ (record { segment = 0; place = 0; length = 0 })
    (omega (arith, c.loop-i-test.true)) same c.index-writes-i.is refl))

pub from_writes-requires : goal.from_writes-requires
from_writes-requires c =
    let ws = c.as_slice-writes.result.now in
    let (segment, place, lead) = c.requires in
    let all : take c.loop-i.i ws ≡ ws = all_taken c.loop-i.i ws (omega (arith, c.loop-i-test.false)) in
    subst IsInOrder
    (sym (c.loop-i.invariant
    ∙ ap (λ (vs : List (List ℕ × Change)). commit_entries c.args.number vs c.args.pointers.now) (all ∙ c.as_slice-writes.ensures.entries)
    ∙ ap (λ (ps : List Pointer). commit_entries c.args.number (entries c.args.writes.now) ps) lead
    ∙ entries_lead log_format segment place c.args.number (entries c.args.writes.now)))
    (commit_in_order log_format segment c.args.number place (entries c.args.writes.now) (entries_sorted c.args.writes.now))

pub bounds-pointers-i : goal.bounds-pointers-i
bounds-pointers-i c =
    let ws = c.as_slice-writes.result.now in
    let (segment, place, lead) = c.requires in
    let same : length c.args.pointers.now ≡ length ws =
    ap length lead ∙ as_many log_format segment place (entries c.args.writes.now) ∙ sym (ap length c.as_slice-writes.ensures.entries) in
    omega (arith, same, c.loop-i-test.true)
