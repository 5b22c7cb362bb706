use Rattle.std.proofs.Common.{◌++◌, sym, ◌∙◌}
use Rattle.byteorder.specs.Endian.{big_bytes}
use Rattle.vl_frame.specs.laws.NumberLaws.{one_number}
use Rattle.vl_table.specs.body.Entries.{body_bytes}
use Rattle.vl_table.specs.laws.EntryLaws.{entry-parts, one_key}
use Rattle.vl_table.proofs.body.take.take_entry.Goals as goal

pub returns-in_err-body-clause-none : goal.returns-in_err-body-clause-none
returns-in_err-body-clause-none c =
    rw c.from_residual-in_err-body.ensures (λ e rest lawful spelled.
    let both = sym c.in_ok-key.ensures.found ∙ (spelled ∙ entry-parts c.args.format e rest) in
    let keys = one_key c.in_ok-key.key.now e.key c.in_ok-key.rest.now
    (big_bytes 8 e.version ++ (body_bytes c.args.format e.body ++ rest)) c.in_ok-key.ensures.lawful lawful.key both in
    let versions = one_number 8 c.in_ok-version.version e.version c.in_ok-version.rest.now
    (body_bytes c.args.format e.body ++ rest) c.in_ok-version.ensures.fits lawful.version (sym c.in_ok-version.ensures.found ∙ keys.1) in
    c.in_err-body.ensures.none e.body rest lawful.body versions.1)
