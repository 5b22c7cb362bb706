use Rattle.vl_back.proofs.Adding.{same_fault}
use Rattle.vl_back.proofs.Spelled.{not_none, some_says}
use Rattle.vl_back.proofs.back.Back.spell_flush.Goals as goal
use Rattle.vl_back.specs.FlushEdits.{flush_switch}

pub returns-in_err-table-clause-lawful : goal.returns-in_err-table-clause-lawful
returns-in_err-table-clause-lawful g c = λ es state told tabled says.
    same_fault _ c.from_residual.result c.from_residual.ensures.1 (c.in_err-table.ensures.lawful es told tabled)

pub returns-in-Some-clause-says : goal.returns-in-Some-clause-says
returns-in-Some-clause-says g c =
    some_says _ _ (flush_switch c.args.active c.args.self.now) c.args.self.now.state _ c.in_ok-state.ensures c.in-Some.is
    c.flush_edits-edits.ensures

pub returns-in-None-clause-lawful : goal.returns-in-None-clause-lawful
returns-in-None-clause-lawful g c = λ es state told tabled says refused.
    not_none _ _ (flush_switch c.args.active c.args.self.now) c.args.self.now.state state c.in_ok-state.ensures c.in-None.is
    c.flush_edits-edits.ensures says
