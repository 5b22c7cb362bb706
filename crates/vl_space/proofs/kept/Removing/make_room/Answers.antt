use Rattle.std.proofs.Common.{subst, sym}
use Rattle.vl_space.specs.Retiring.{StaysUsed}
use Rattle.vl_space.specs.laws.Retired.Changing.{is_readied, is_used, on_err_of, on_ok_with, stays_itself}
use Rattle.vl_space.proofs.kept.Removing.make_room.Goals as goal

pub returns-in_err-ready-clause-refused : goal.returns-in_err-ready-clause-refused
returns-in_err-ready-clause-refused g c =
    on_err_of c.from_residual.result _
    (subst (StaysUsed c.args.core.now c.args.self.now.stock) (sym c.in_err-ready.ensures.refused)
    (stays_itself c.args.core.now c.args.self.now.stock))

pub returns-clause-readied : goal.returns-clause-readied
returns-clause-readied g c =
    on_ok_with c.make_room.result _ _ (is_readied c.args.core.now c.args.self.now.stock c.ready.new.self.stock c.make_room.new.self
    c.ready.ensures.trash c.in_ok-ready.ensures.has c.make_room.ensures.kept c.make_room.ensures.trash c.make_room.ensures.capacity
    c.args.tables c.args.lent) c.make_room.ensures.room

pub returns-clause-refused : goal.returns-clause-refused
returns-clause-refused g c =
    on_err_of c.make_room.result _ (is_used c.args.core.now c.args.self.now.stock c.ready.new.self.stock c.make_room.new.self
    c.ready.ensures.trash c.in_ok-ready.ensures.has c.make_room.ensures.kept c.make_room.ensures.trash c.make_room.ensures.capacity)
