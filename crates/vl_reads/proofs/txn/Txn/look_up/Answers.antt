use Rattle.std.proofs.Common.{◌≡◌, Option, Some, refl}
use Rattle.vl_model.specs.Keys.{Stored}
use Rattle.vl_model.specs.Winners.{resolved_at, winner}
use Rattle.vl_version.specs.Answers.{Gives, IsAstray}
use Rattle.vl_version.specs.Over.{LooksOver}
use Rattle.vl_version.specs.Sources.{stored_in}
use Rattle.vl_reads.proofs.Seeing.{fault_handed, fault_near, fault_sound, on_error, sees_get, sees_still}
use Rattle.vl_reads.specs.laws.ReadLaws.{none_astray, value_led}
use Rattle.vl_reads.proofs.txn.Txn.look_up.Goals as goal

pub returns-clause-sees : goal.returns-clause-sees
returns-clause-sees g c h reads sees =
    sees_get g.H.HeldFile.bytes c.args.self.now _ h reads sees refl refl refl (c.in_ok-value.ensures.kept sees.files sees.reader)
    c.args.key.now c.requires c.in_ok-note_get.ensures.noted

pub returns-clause-value : goal.returns-clause-value
returns-clause-value g c h reads sees =
    let v = sees.version in
    value_led v.logs v.entries_of h c.args.self.now.number v.shows c.args.key.now c.in_ok-value.value
    (c.in_ok-value.ensures.answers sees.files v.entries_of v.logs sees.reader v.has)

pub returns-in_err-value-clause-sound : goal.returns-in_err-value-clause-sound
returns-in_err-value-clause-sound g c h reads sees =
    let v = sees.version in
    fault_sound (λ (value : Option Stored). resolved_at v.logs (winner v.entries_of c.args.key.now c.args.self.now.number) ≡ Some value)
    (IsAstray v.logs (winner v.entries_of c.args.key.now c.args.self.now.number))
    (λ name place astray. none_astray v.logs v.entries_of h c.args.self.now.number v.shows c.args.key.now astray.0)
    c.in_err-value.field-0.0
    (c.in_err-value.ensures.answers sees.files v.entries_of v.logs sees.reader v.has)
    c.from_residual.result c.from_residual.ensures.1

pub returns-in_err-value-clause-near : goal.returns-in_err-value-clause-near
returns-in_err-value-clause-near g c alone =
    fault_near (Option Stored) _ c.in_err-value.field-0.0 (c.in_err-value.ensures.near alone.tables alone.near)
    c.from_residual.result c.from_residual.ensures.1

pub returns-in_err-value-clause-still : goal.returns-in_err-value-clause-still
returns-in_err-value-clause-still g c h reads sees =
    on_error _ _ _ c.from_residual.result
    (sees_still g.H.HeldFile.bytes c.args.self.now _ h reads sees refl refl refl (c.in_err-value.ensures.kept sees.files sees.reader) refl)

pub returns-in_err-note_get-clause-still : goal.returns-in_err-note_get-clause-still
returns-in_err-note_get-clause-still g c h reads sees =
    on_error _ _ _ c.from_residual-in_err-note_get.result
    (sees_still g.H.HeldFile.bytes c.args.self.now _ h reads sees refl refl refl (c.in_ok-value.ensures.kept sees.files sees.reader)
    c.in_err-note_get.ensures.err)

pub returns-clause-looks : goal.returns-clause-looks
returns-clause-looks g c files over = c.in_ok-value.ensures.looks files over.reads over.tables over.logs

pub returns-in_err-value-clause-looks : goal.returns-in_err-value-clause-looks
returns-in_err-value-clause-looks g c files over =
    let v = c.args.self.now.version in
    fault_handed
    (LooksOver g.H.HeldFile.bytes v c.args.key.now c.args.self.now.number (Gives (stored_in g.H.HeldFile.bytes v.behind.logs.items)))
    c.in_err-value.field-0.0 (c.in_err-value.ensures.looks files over.reads over.tables over.logs)
    c.from_residual.result c.from_residual.ensures.1

pub returns-clause-blocks : goal.returns-clause-blocks
returns-clause-blocks g c files reads = record { kept = c.in_ok-value.ensures.kept files reads; told = reads.told }

pub returns-in_err-value-clause-blocks : goal.returns-in_err-value-clause-blocks
returns-in_err-value-clause-blocks g c files reads = record { kept = c.in_err-value.ensures.kept files reads; told = reads.told }

pub returns-in_err-note_get-clause-blocks : goal.returns-in_err-note_get-clause-blocks
returns-in_err-note_get-clause-blocks g c files reads = record { kept = c.in_ok-value.ensures.kept files reads; told = reads.told }
