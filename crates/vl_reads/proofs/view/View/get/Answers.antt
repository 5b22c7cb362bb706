use Rattle.std.proofs.Common.{◌≡◌, Option, Some, refl}
use Rattle.vl_model.specs.Keys.{Stored}
use Rattle.vl_model.specs.Winners.{resolved_at, winner}
use Rattle.vl_version.specs.Answers.{Gives, IsAstray}
use Rattle.vl_version.specs.Over.{LooksOver}
use Rattle.vl_version.specs.Sources.{stored_in}
use Rattle.vl_reads.proofs.Seeing.{fault_handed, fault_near, fault_sound, sees_alone_still}
use Rattle.vl_reads.specs.laws.ReadLaws.{none_astray, value_led}
use Rattle.vl_reads.proofs.view.View.get.Goals as goal

pub returns-clause-value : goal.returns-clause-value
returns-clause-value g c h sees =
    let v = sees.version in
    value_led v.logs v.entries_of h c.args.self.now.number v.shows c.args.key.now c.in_ok-get.field-0
    (c.in_ok-get.ensures.answers sees.files v.entries_of v.logs sees.reader v.has)

pub returns-clause-still : goal.returns-clause-still
returns-clause-still g c h sees =
    sees_alone_still g.H.HeldFile.bytes c.args.self.now _ h sees refl refl refl (c.in_ok-get.ensures.kept sees.files sees.reader)

pub returns-in_err-get-clause-still : goal.returns-in_err-get-clause-still
returns-in_err-get-clause-still g c h sees =
    sees_alone_still g.H.HeldFile.bytes c.args.self.now _ h sees refl refl refl (c.in_err-get.ensures.kept sees.files sees.reader)

pub returns-in_err-get-clause-sound : goal.returns-in_err-get-clause-sound
returns-in_err-get-clause-sound g c h sees =
    let v = sees.version in
    fault_sound (λ (value : Option Stored). resolved_at v.logs (winner v.entries_of c.args.key.now c.args.self.now.number) ≡ Some value)
    (IsAstray v.logs (winner v.entries_of c.args.key.now c.args.self.now.number))
    (λ name place astray. none_astray v.logs v.entries_of h c.args.self.now.number v.shows c.args.key.now astray.0)
    c.in_err-get.field-0.0
    (c.in_err-get.ensures.answers sees.files v.entries_of v.logs sees.reader v.has)
    c.from_residual-in_err-get.result c.from_residual-in_err-get.ensures.1

pub returns-in_err-get-clause-near : goal.returns-in_err-get-clause-near
returns-in_err-get-clause-near g c alone =
    fault_near (Option Stored) _ c.in_err-get.field-0.0 (c.in_err-get.ensures.near alone.tables alone.near)
    c.from_residual-in_err-get.result c.from_residual-in_err-get.ensures.1

pub returns-clause-looks : goal.returns-clause-looks
returns-clause-looks g c files over = c.in_ok-get.ensures.looks files over.reads over.tables over.logs

pub returns-in_err-get-clause-looks : goal.returns-in_err-get-clause-looks
returns-in_err-get-clause-looks g c files over =
    let v = c.args.self.now.version in
    fault_handed
    (LooksOver g.H.HeldFile.bytes v c.args.key.now c.args.self.now.number (Gives (stored_in g.H.HeldFile.bytes v.behind.logs.items)))
    c.in_err-get.field-0.0 (c.in_err-get.ensures.looks files over.reads over.tables over.logs)
    c.from_residual-in_err-get.result c.from_residual-in_err-get.ensures.1

pub returns-clause-blocks : goal.returns-clause-blocks
returns-clause-blocks g c files reads = record { kept = c.in_ok-get.ensures.kept files reads; told = reads.told }

pub returns-in_err-get-clause-blocks : goal.returns-in_err-get-clause-blocks
returns-in_err-get-clause-blocks g c files reads = record { kept = c.in_err-get.ensures.kept files reads; told = reads.told }
