use Rattle.std.proofs.Common.{◌≡◌, true, false, refl, sym, ap, ◌∙◌}
use Rattle.std.specs.Str.{bytes_eq}
use Rattle.std.specs.Option.{option_copied}
use Rattle.vl_model.specs.laws.Lookup.{found_winner, of_key}
use Rattle.vl_model.specs.Lookups.{first_failing, if_of_key, is_ahead}
use Rattle.vl_memtable.proofs.run.Run.find.Goals as goal
use Rattle.vl_memtable.proofs.run.Run.find.Goals.{in_default-via-in-Some+else-eq, in_default-via-in_default}

pub returns-in-Some : goal.returns-in-Some
returns-in-Some c =
    let key = c.args.key.now in
    let entry = c.in-Some.entry.now in
    let first = first_failing (is_ahead key c.args.number) c.args.self.now in
    let is = c.first_at.ensures.of_key ∙ found_winner key c.args.number c.args.self.now c.first_at.ensures.in_order first refl in
    let same : bytes_eq key entry.key ≡ true = ap (bytes_eq key) (sym c.as_slice.ensures) ∙ sym c.eq.ensures ∙ c.if-eq.true in
    sym (of_key key c.args.number entry true same) ∙ ap (λ r. if_of_key key (option_copied r)) (sym c.in-Some.is) ∙ is

pub returns-in_default : goal.returns-in_default
returns-in_default c =
    let key = c.args.key.now in
    let first = first_failing (is_ahead key c.args.number) c.args.self.now in
    let is = c.first_at.ensures.of_key ∙ found_winner key c.args.number c.args.self.now c.first_at.ensures.in_order first refl in
    elim c.in_default.branch [
      | in_default-via-in-Some+else-eq w ↦
          let entry = w.in-Some.entry.now in
          let other : bytes_eq key entry.key ≡ false = ap (bytes_eq key) (sym w.as_slice.ensures) ∙ sym w.eq.ensures ∙ w.if-eq.false in
          sym (of_key key c.args.number entry false other) ∙ ap (λ r. if_of_key key (option_copied r)) (sym w.in-Some.is) ∙ is
      | in_default-via-in_default w ↦ ap (λ r. if_of_key key (option_copied r)) (sym w.in_default.is) ∙ is
    ]
