use Rattle.std.proofs.Common.{◌∙◌, Option, ap, sym}
use Rattle.std.specs.Option.{option_copied}
use Rattle.vl_model.specs.Winners.{exact}
use Rattle.vl_model.specs.declared.entry.Entry.{Entry}
use Rattle.vl_model.specs.Lookups.{or_else}
use Rattle.vl_model.specs.laws.Exact.{exact-append}
use Rattle.vl_version.specs.Sources.{held_entries}
use Rattle.vl_version.specs.declared.behind.Behind.{Behind}
use Rattle.vl_version.proofs.version.Version.exact_held.Goals as goal

pub returns-in-Some : goal.returns-in-Some
returns-in-Some g c =
    let self = c.args.self.now in
    let key = c.args.key.now in
    let frozen = held_entries self.behind.frozen.items in
    sym (exact-append key c.args.version self.active.entries frozen
    ∙ ap (λ (o : Option Entry). or_else o (exact frozen key c.args.version)) (sym c.exact.ensures ∙ ap option_copied c.in-Some.is))

pub returns-in-None : goal.returns-in-None
returns-in-None g c =
    let self = c.args.self.now in
    let key = c.args.key.now in
    let frozen = held_entries self.behind.frozen.items in
    c.exact_frozen.ensures
    ∙ ap (λ logs. exact (held_entries logs) key c.args.version)
    (c.deref.ensures.value ∙ ap (λ (b : Behind g.row.H.Denot). b.frozen.items) c.as_ref.ensures)
    ∙ sym (exact-append key c.args.version self.active.entries frozen
    ∙ ap (λ (o : Option Entry). or_else o (exact frozen key c.args.version)) (sym c.exact.ensures ∙ ap option_copied c.in-None.is))
