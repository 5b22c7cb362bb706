use Rattle.std.proofs.Common.{List, length, subst, sym}
use Rattle.vl_back.proofs.Adding.{same_fault}
use Rattle.vl_back.proofs.Spelled.{flush_numbered}
use Rattle.vl_back.proofs.Switching.{other_name}
use Rattle.vl_back.proofs.Unmoved.{no_call, then_call}
use Rattle.vl_back.proofs.back.Back.stage_flush.Goals as goal
use Rattle.vl_disk.specs.Spare.{CanAppend, Spare}
use Rattle.vl_disk.specs.declared.name.Name.TheVariants as names
use Rattle.vl_manifest.specs.Switching.{IsStaged}
use Rattle.vl_manifest.specs.declared.edit.Edit.{Edit}

pub returns-in_err-spelled-clause-lawful : goal.returns-in_err-spelled-clause-lawful
returns-in_err-spelled-clause-lawful g c = λ es state told tabled says.
    same_fault _ c.from_residual.result c.from_residual.ensures.1 (c.in_err-spelled.ensures.lawful es state told tabled says)

pub returns-in_err-spelled-clause-no_change : goal.returns-in_err-spelled-clause-no_change
returns-in_err-spelled-clause-no_change g c = no_call g.D.Watched c.args.disk.now

pub returns-in_err-ready-clause-no_change : goal.returns-in_err-ready-clause-no_change
returns-in_err-ready-clause-no_change g c =
    then_call g.D.Watched c.args.disk.now c.stage.new.disk c.ready.new.self _ c.stage.ensures.no_change c.ready.ensures.no_change

pub returns-clause-staged : goal.returns-clause-staged
returns-clause-staged g c = λ es told. record {
  table = c.in_ok-spelled.ensures.spelled es told;
  frame = subst (λ (l : List Edit). IsStaged c.args.self.now.manifest.number c.args.self.now.manifest.length l c.in_ok-edits.edits)
      c.in_ok-spelled.ensures.edits c.in_ok-edits.ensures.staged;
  at_end = c.in_ok-edits.ensures.staged_for;
  says = c.in_ok-spelled.ensures.says;
}

pub returns-clause-numbered : goal.returns-clause-numbered
returns-clause-numbered g c = flush_numbered c.args.active c.args.self.now _ c.requires c.in_ok-spelled.ensures.says

pub returns-clause-append : goal.returns-clause-append
returns-clause-append g c =
    subst (λ (s : Spare). CanAppend (length c.in_ok-edits.edits.frame.items) s)
    (sym (c.ready.ensures.elsewhere (names.Manifest c.args.self.now.manifest.number)
    (other_name c.args.self.now.state.next_table c.args.self.now.manifest.number)))
    c.in_ok-edits.ensures.room

pub returns-clause-no_change : goal.returns-clause-no_change
returns-clause-no_change g c =
    then_call g.D.Watched c.args.disk.now c.stage.new.disk c.ready.new.self _ c.stage.ensures.no_change c.ready.ensures.no_change
