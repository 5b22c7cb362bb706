use Rattle.std.proofs.Common.{refl}
use Rattle.std.proofs.lemmas.Result.{err_from_is_err_and}
use Rattle.vl_model.specs.declared.change.Change.TheVariants.{Delete}
use Rattle.vl_txn.proofs.Allowing.{refused_so}
use Rattle.vl_txn.proofs.writes.Writes.delete.Goals as goal

pub returns-in_err-bytes : goal.returns-in_err-bytes
returns-in_err-bytes c =
    let p = err_from_is_err_and c.from_residual.result c.from_residual.ensures.1 in
    rw (p.1, p.2) (refused_so c.args.self.now c.args.key.now Delete c.args.self.now _ (c.in_err-bytes.ensures Delete refl) refl)
