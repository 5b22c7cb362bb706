use Rattle.std.proofs.Common.{◌≡◌, sym, ap, subst, ◌∙◌, Option, Some}
use Rattle.std.specs.Prelude.{slice_get}
use Rattle.vl_model.specs.declared.entry.Entry.{Entry}
use Rattle.vl_model.specs.Lookups.{first_failing, is_ahead}
use Rattle.vl_model.specs.laws.Places.{slice_get-prefix}
use Rattle.vl_table.specs.body.Entries.{entry_of}
use Rattle.vl_table.specs.Scans.{IsScan}
use Rattle.vl_table.proofs.EntrySteps.{entry_is, none_there}
use Rattle.vl_table.proofs.entries.Entries.look.Goals as goal

pub returns-in-None : goal.returns-in-None
returns-in-None c = λ es lists.
    let test = is_ahead c.args.key.now c.args.version in
    none_there (first_failing test es) (λ e is.
    c.in-None.ensures.found es e lists (ap (slice_get es) (c.place.ensures es lists) ∙ slice_get-prefix test es ∙ is))

pub returns-in-Some : goal.returns-in-Some
returns-in-Some c = λ es lists.
    let s = c.args.self.now in
    let test = is_ahead c.args.key.now c.args.version in
    let e = entry_is c.args.key.now c.args.version s.format s.bytes.now s.starts.now es lists.lawful lists.starts
    c.place.result c.in-Some.ensures.within in
    let first : first_failing test es ≡ Some (entry_of c.in-Some.entry) =
    sym (slice_get-prefix test es) ∙ sym (ap (slice_get es) (c.place.ensures es lists)) ∙ e.at
    ∙ ap Some (sym (c.in-Some.ensures.found es e.entry lists e.at)) in
    subst (λ (o : Option Entry). IsScan c.args.key.now o c.scan_at.result) (sym first) c.scan_at.ensures
