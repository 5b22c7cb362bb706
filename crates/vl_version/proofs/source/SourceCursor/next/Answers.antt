use Rattle.std.proofs.Common.{subst, sym}
use Rattle.vl_model.specs.Cursors.{Keeps}
use Rattle.vl_table.specs.CursorLeft.{cursor_left}
use Rattle.vl_version.proofs.WholeLaws.{on_err_so}
use Rattle.vl_version.specs.Gives.{SourceMayFail, left_in}
use Rattle.vl_version.specs.Whole.{SourceStands}
use Rattle.vl_version.specs.declared.source.Source.{Source}
use Rattle.vl_version.proofs.source.SourceCursor.next.Goals as goal

pub returns-in_err-next-in-Tables-clause-kept : goal.returns-in_err-next-in-Tables-clause-kept
returns-in_err-next-in-Tables-clause-kept g c =
    let bytes = g.H.HeldFile.bytes in
    on_err_so c.from_residual-in_err-next-in-Tables.result _
    (subst (λ (s : Source g.row.H.Denot g.row.R.Denot g.H.HeldFile g.H.Clone). Keeps (left_in bytes s)
    (cursor_left bytes c.next-in-Tables.new.self)) (sym c.in-Tables.is) c.in_err-next-in-Tables.ensures.kept)

pub returns-in_err-next-in-Tables-clause-keeps : goal.returns-in_err-next-in-Tables-clause-keeps
returns-in_err-next-in-Tables-clause-keeps g c = λ fault may.
    subst (λ (s : Source g.row.H.Denot g.row.R.Denot g.H.HeldFile g.H.Clone). SourceMayFail g.H.HeldFile.bytes s fault)
    (sym c.in-Tables.is) (may.0, c.next-in-Tables.ensures.keeps may.0 may.1, may.2)

pub returns-in_err-next-in-Tables-clause-back : goal.returns-in_err-next-in-Tables-clause-back
returns-in_err-next-in-Tables-clause-back g c = λ is_met stands.
    subst (λ (s : Source g.row.H.Denot g.row.R.Denot g.H.HeldFile g.H.Clone). SourceStands g.H.HeldFile.bytes s is_met)
    (sym c.in-Tables.is) (c.next-in-Tables.ensures.back is_met stands)
