use Rattle.std.proofs.Common.{◌≡◌, ℕ, List, [], ◌∷◌, length, sym, ◌∙◌, subst, arith}
use Rattle.std.specs.FinMap.{empty, entries, len-empty, len-entries}
use Rattle.std.specs.List.{AllByRecursion}
use Rattle.vl_drive.specs.Small.{IsShort, IsSmall}
use Rattle.vl_drive.specs.Steps.{history_by}
use Rattle.vl_model.specs.Keys.{key_cmp}
use Rattle.vl_model.specs.declared.change.Change.{Change}
use Rattle.vl_thread_tests.proofs.gate.OtherGate.at.Goals as goal

no_entries : (es : List (List ℕ × Change)) → length es ≡ 0 → AllByRecursion IsShort es
no_entries [] none = tt
no_entries (e ∷ es) none = absurd (omega arith)

pub set-requires-clause-small : goal.set-requires-clause-small
set-requires-clause-small g c =
    let none = len-empty key_cmp Change in
    subst IsSmall (sym c.in-Ok.ensures.new) (record {
      few = omega (arith, none);
      short = no_entries (entries empty) (sym (len-entries empty) ∙ none);
    })

pub commit-requires-clause-sees : goal.commit-requires-clause-sees
commit-requires-clause-sees g c =
    let v = g.S.Shop.knows c.begin.new.self in
    let h = history_by v.origin v.seen in
    (h, [], c.set.ensures.sees h [] c.in-Ok.ensures.sees)
