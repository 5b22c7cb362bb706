use Rattle.std.proofs.Common.{List, [], ◌∷◌, ◌++◌, sym, subst}
use Rattle.vl_compact.proofs.Of.{shared_is}
use Rattle.vl_compact.proofs.Zips.{zip_push}
use Rattle.vl_compact.specs.Laid.{AreTablesOf, IsTableOf}
use Rattle.vl_table.specs.declared.table.Table.{Table}
use Rattle.vl_compact.proofs.inputs.add.Goals as goal

pub returns : goal.returns
returns g c = λ ts t are is.
    subst (λ (l : List (Table g.row.H.Denot)). AreTablesOf g.H.HeldFile.bytes l (ts ++ t ∷ [])) (sym c.in_ok-push.ensures.items)
    (zip_push (IsTableOf g.H.HeldFile.bytes) c.args.all.now.items ts _ t are
    (shared_is g.H.HeldFile.bytes g.H.HeldFile.size g.H.HeldFile.named c.args.table.now _ t c.in_ok-share.ensures is))
