use Rattle.std.proofs.Common.{refl}
use Rattle.vl_mem.specs.SureDisk.{state_on}
use Rattle.vl_sequence.proofs.Beginnings.{passed_up}
use Rattle.vlstore.specs.Reopening.{IsOnlyWantOfOpening}
use Rattle.vlstore.proofs.shop.sure.SureStore.reopen.Goals as goal

pub returns-in_err-store-clause-refused : goal.returns-in_err-store-clause-refused
returns-in_err-store-clause-refused c =
    passed_up c.from_residual.result c.in_err-store.field-0.0 (IsOnlyWantOfOpening (state_on c.args.disk)) c.from_residual.ensures.1
    (c.in_err-store.ensures.refused (state_on c.args.disk) refl)
