use Rattle.std.proofs.Common.{◌≡◌, true, false, sym, ap, ◌∙◌}
use Rattle.std.specs.Option.{option_copied}
use Rattle.std.specs.Str.{bytes_eq}
use Rattle.std.specs.List.{prefix_len}
use Rattle.std.specs.FinMap.{get}
use Rattle.vl_txn.specs.Writes.{is_above}
use Rattle.vl_txn.proofs.WriteEntries.{find-item, change_of, change_of-same, change_of-other}
use Rattle.vl_txn.proofs.writes.Writes.get.Goals as goal
use Rattle.vl_txn.proofs.writes.Writes.get.Goals.{in_default-via-in-Some+else-eq, in_default-via-in_default}

pub returns-in-Some : goal.returns-in-Some
returns-in-Some c =
    let key = c.args.key.now in
    let entries = c.self.inside.entries.items in
    let place = c.place.ensures ∙ ap (prefix_len (is_above key)) c.deref-2.ensures.value in
    let is = find-item key entries _ _ c.get.result c.self.invariant.sorted c.deref.ensures.value place
    c.get.ensures.lookup ∙ ap (λ writes. get writes key) c.self.view_is in
    let same : bytes_eq key c.in-Some.field-0.now.0 ≡ true = ap (bytes_eq key) (sym c.as_slice.ensures) ∙ sym c.eq.ensures ∙ c.if-eq.true in
    sym (change_of-same key c.in-Some.field-0.now same) ∙ ap (λ r. change_of key (option_copied r)) (sym c.in-Some.is) ∙ is

pub returns-in_default : goal.returns-in_default
returns-in_default c =
    let key = c.args.key.now in
    let entries = c.self.inside.entries.items in
    let place = c.place.ensures ∙ ap (prefix_len (is_above key)) c.deref-2.ensures.value in
    let is = find-item key entries _ _ c.get.result c.self.invariant.sorted c.deref.ensures.value place
    c.get.ensures.lookup ∙ ap (λ writes. get writes key) c.self.view_is in
    elim c.in_default.branch [
      | in_default-via-in-Some+else-eq w ↦
          let other : bytes_eq key w.in-Some.field-0.now.0 ≡ false = ap (bytes_eq key) (sym w.as_slice.ensures)
          ∙ sym w.eq.ensures ∙ w.if-eq.false in
          sym (change_of-other key w.in-Some.field-0.now other) ∙ ap (λ r. change_of key (option_copied r)) (sym w.in-Some.is) ∙ is
      | in_default-via-in_default w ↦ ap (λ r. change_of key (option_copied r)) (sym w.in_default.is) ∙ is
    ]
