-- What a flush spells: its table's number, and what its switch says.
use Rattle.std.proofs.Common.{◌≡◌, ◌≤◌, ℕ, Bool, true, false, List, [], ◌∷◌, length, refl, sym, ap, ◌∙◌, arith}
use Rattle.std.specs.Prelude.{◌&&◌, if◌then◌else◌, nat_le, Option, None, Some}
use Rattle.std.proofs.lemmas.Bool.Decides.{nat_tests}
use Rattle.vl_back.specs.Deciding.{MayFlush}
use Rattle.vl_back.specs.FlushEdits.{flush_switch, switch_of}
use Rattle.vl_back.specs.declared.back.Back.{Back}
use Rattle.vl_disk.specs.Name.{IsNumbered}
use Rattle.vl_disk.specs.declared.name.Name.TheVariants.{Table}
use Rattle.vl_manifest.specs.States.{finish, next_state, then_applied}
use Rattle.vl_manifest.specs.declared.edit.Edit.{Edit}
use Rattle.vl_manifest.specs.declared.state.ManifestState.{ManifestState}
use Rattle.vl_manifest.specs.declared.version_builder.VersionBuilder.{VersionBuilder}
use Rattle.vl_manifest.specs.declared.waiting.Waiting.{Waiting}

some_given : (fits : Bool) (o : Option VersionBuilder) (rest : VersionBuilder → Option VersionBuilder) (s : ManifestState)
    → finish (then_applied rest (if fits then o else None)) ≡ Some s → fits ≡ true
some_given true o rest s is = refl
some_given false o rest s is = absurd cc

both_left : (a b : Bool) → (a && b) ≡ true → a ≡ true
both_left true b is = refl
both_left false b is = is

-- a table that a switch adds has a number from 1 on
pub flush_numbered : (active : ℕ) (b : Back) (s : ManifestState) → MayFlush b → next_state (flush_switch active b) b.state ≡ Some s
    → IsNumbered (Table b.state.next_table)
flush_numbered active b s may says = (of b.waiting.items may.waits says, omega (arith, may.table))
  where
    of : (ws : List Waiting) → 1 ≤ length ws → next_state (switch_of active ws b) b.state ≡ Some s → 1 ≤ b.state.next_table
    of [] some is = absurd (omega (arith, some))
    of (w ∷ ws) some is =
        let low : nat_le 1 b.state.next_table ≡ true =
        both_left (nat_le 1 b.state.next_table) _ (both_left _ _ (some_given _ _ _ s is)) in
        grind (arith, nat_tests, low)

-- where the switch can be applied, it is not refused
pub not_none : (o : Option ManifestState) (edits switch : List Edit) (state s : ManifestState) → o ≡ next_state edits state → o ≡ None
    → edits ≡ switch → next_state switch state ≡ Some s → ⊥
not_none o edits switch state s makes none same says =
    apart (sym none ∙ makes ∙ ap (λ es. next_state es state) same ∙ says)
  where
    apart : None ≡ Some s → ⊥
    apart e = cc

pub some_says : (o : Option ManifestState) (edits switch : List Edit) (state s : ManifestState) → o ≡ next_state edits state → o ≡ Some s
    → edits ≡ switch → next_state switch state ≡ Some s
some_says o edits switch state s makes some same = ap (λ es. next_state es state) (sym same) ∙ sym makes ∙ some
