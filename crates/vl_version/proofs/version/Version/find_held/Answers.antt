use Rattle.std.proofs.Common.{ap, sym, ◌∙◌}
use Rattle.std.specs.Option.{option_copied}
use Rattle.vl_model.specs.Winners.{newest_of, winner}
use Rattle.vl_model.specs.laws.WinnerLaws.{winner-append}
use Rattle.vl_version.specs.Sources.{held_entries}
use Rattle.vl_version.specs.declared.behind.Behind.{Behind}
use Rattle.vl_version.proofs.version.Version.find_held.Goals as goal

pub returns : goal.returns
returns g c =
    let self = c.args.self.now in
    let key = c.args.key.now in
    let number = c.args.number in
    let frozen = c.deref.ensures.value ∙ ap (λ (b : Behind g.row.H.Denot). b.frozen.items) c.as_ref.ensures in
    c.newest_ref.ensures
    ∙ ap (λ w. newest_of w (option_copied c.find_frozen.result)) c.find.ensures
    ∙ ap (newest_of (winner self.active.entries key number)) (c.find_frozen.ensures ∙ ap (λ l. winner (held_entries l) key number) frozen)
    ∙ sym (winner-append key number self.active.entries (held_entries self.behind.frozen.items))
