use Rattle.std.proofs.Common.{◌≡◌, true, false, refl, sym, ap, ◌∙◌}
use Rattle.std.specs.Str.{bytes_eq}
use Rattle.std.specs.Option.{option_copied}
use Rattle.vl_model.specs.laws.Lookup.{found_exact, of_version, of_other_version, of_other_key}
use Rattle.vl_model.specs.Lookups.{first_failing, if_exact, is_ahead}
use Rattle.vl_memtable.proofs.run.Run.exact.Goals as goal
use Rattle.vl_memtable.proofs.run.Run.exact.Goals.{in_default-via-in-Some+then-eq+else-entry-version}
use Rattle.vl_memtable.proofs.run.Run.exact.Goals.{in_default-via-in-Some+else-eq, in_default-via-in_default}

pub returns-in-Some : goal.returns-in-Some
returns-in-Some c =
    let key = c.args.key.now in
    let version = c.args.version in
    let entry = c.in-Some.entry.now in
    let first = first_failing (is_ahead key version) c.args.self.now in
    let is = c.first_at.ensures.exact ∙ found_exact key version c.args.self.now c.first_at.ensures.in_order first refl in
    let same : bytes_eq key entry.key ≡ true = ap (bytes_eq key) (sym c.as_slice.ensures) ∙ sym c.eq.ensures ∙ c.if-eq.true in
    sym (of_version key version entry same c.if-entry-version.true)
    ∙ ap (λ r. if_exact key version (option_copied r)) (sym c.in-Some.is) ∙ is

pub returns-in_default : goal.returns-in_default
returns-in_default c =
    let key = c.args.key.now in
    let version = c.args.version in
    let first = first_failing (is_ahead key version) c.args.self.now in
    let is = c.first_at.ensures.exact ∙ found_exact key version c.args.self.now c.first_at.ensures.in_order first refl in
    elim c.in_default.branch [
      | in_default-via-in-Some+then-eq+else-entry-version w ↦
          let entry = w.in-Some.entry.now in
          let same : bytes_eq key entry.key ≡ true = ap (bytes_eq key) (sym w.as_slice.ensures) ∙ sym w.eq.ensures ∙ w.if-eq.true in
          sym (of_other_version key version entry same w.if-entry-version.false)
          ∙ ap (λ r. if_exact key version (option_copied r)) (sym w.in-Some.is) ∙ is
      | in_default-via-in-Some+else-eq w ↦
          let entry = w.in-Some.entry.now in
          let other : bytes_eq key entry.key ≡ false = ap (bytes_eq key) (sym w.as_slice.ensures) ∙ sym w.eq.ensures ∙ w.if-eq.false in
          sym (of_other_key key version entry other) ∙ ap (λ r. if_exact key version (option_copied r)) (sym w.in-Some.is) ∙ is
      | in_default-via-in_default w ↦ ap (λ r. if_exact key version (option_copied r)) (sym w.in_default.is) ∙ is
    ]
