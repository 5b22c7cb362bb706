-- The next of the changes that are left, exit by exit.
use Rattle.std.specs.declared.clone.Clone as Clone
use Rattle.vl_disk.specs.declared.reader.HeldFile as HeldFile
use Rattle.std.proofs.Common.{◌≡◌, ◌≤◌, ℕ, List, [], ◌∷◌, refl, ap, sym, ◌∙◌, subst, Option, Some, None, inl, inr}
use Rattle.std.specs.Prelude.{MatchResult, Result, Ok, Err}
use Rattle.std.specs.Option.{option_map}
use Rattle.vl_disk.specs.declared.name.Name.{Name}
use Rattle.vl_disk.specs.declared.read_fault.ReadFault.{ReadFault}
use Rattle.vl_disk.specs.declared.read_fault.ReadFault.TheVariants.{NoMemory, Disk, Damaged}
use Rattle.vl_engine_model.specs.Changes.{change_to}
use Rattle.vl_model.specs.Cursors.{Gives, Keeps}
use Rattle.vl_model.specs.Keys.{Stored}
use Rattle.vl_model.specs.Winners.{Logs, resolved, resolved_at}
use Rattle.vl_model.specs.declared.change.Change.{Change}
use Rattle.vl_model.specs.declared.entry.Entry.{Entry}
use Rattle.vl_version.specs.Answers.{IsAstray}
use Rattle.vl_version.specs.Answers as answers
use Rattle.vl_version.specs.Changes.{AreLed, ChangesMayFail, GivesNext, HasLeft, Write, entries_left}
use Rattle.vl_version.specs.Sources.{stored_in}
use Rattle.vl_version.specs.declared.changes.Changes.{Changes}
use Rattle.vl_version.specs.declared.version.Version.{Version}

none_led : (logs : Logs) (ws : List Write) → AreLed logs [] ws → ws ≡ []
none_led logs [] led = refl
none_led logs (w ∷ ws) led = absurd led

-- what an entry in front leads to is the first change
record LedFirst (logs : Logs) (e : Entry) (rest : List Entry) (ws : List Write) : Type 0 where
  pub first : Write
  pub later : List Write
  pub parts : ws ≡ first ∷ later
  pub key : first.0 ≡ e.key
  pub change : option_map change_to (resolved logs e.key e.body) ≡ Some first.1
  pub led : AreLed logs rest later

fronts : (logs : Logs) (e : Entry) (rest : List Entry) (ws : List Write) → AreLed logs (e ∷ rest) ws → LedFirst logs e rest ws
fronts logs e rest [] led = absurd led
fronts logs e rest (w ∷ ws) led = record { first = w; later = ws; parts = refl; key = led.0; change = led.1; led = led.2 }

some_change : (a b : Change) → Some a ≡ Some b → a ≡ b
some_change a b is = cc

module _ {H R : Type 0} {g : HeldFile.Ghosts H} {k : Clone.Ghosts H} (bytes_of : H → Option (List ℕ)) (version : Version H)
    (old new : Changes H R g k)
    (keeps : (fault : ReadFault) → ChangesMayFail bytes_of new fault → ChangesMayFail bytes_of old fault)
    (ws : List Write) (has : HasLeft bytes_of version old ws) where
  abbrev logs : Logs
  logs = stored_in bytes_of version.behind.logs.items

  left_as : (left : List Entry) (later : List Write) → entries_left bytes_of new ≡ Some left → AreLed logs left later
      → HasLeft bytes_of version new later
  left_as left later told led = record {
    logs = has.logs;
    left = left;
    told = told;
    led = led;
    sound = λ name place bad. has.sound name place (keeps (Damaged name place) bad);
  }

  -- none is left,
  pub ended : Gives (entries_left bytes_of old) (entries_left bytes_of new) None
      → GivesNext (HasLeft bytes_of version new) ws (Ok None)
  ended gives =
      let none = gives has.left has.told in (
        none_led logs ws (subst (λ (es : List Entry). AreLed logs es ws) none.0 has.led),
        left_as [] [] none.1 tt,
      )

  module _ (e : Entry) (gives : Gives (entries_left bytes_of old) (entries_left bytes_of new) (Some e)) where
    front : LedFirst logs e (gives has.left has.told).0 ws
    front = fronts logs e (gives has.left has.told).0 ws
        (subst (λ (es : List Entry). AreLed logs es ws) (gives has.left has.told).1 has.led)

    behind : HasLeft bytes_of version new front.later
    behind = left_as (gives has.left has.told).0 front.later (gives has.left has.told).2 front.led

    -- or the first is given,
    pub took : (value : Option Stored) → resolved_at logs (Some e) ≡ Some value
        → GivesNext (HasLeft bytes_of version new) ws (Ok (Some (e.key, value)))
    took value is = (
      front.later,
      front.parts ∙ ap (λ (w : Write). w ∷ front.later) (λ i. (
        front.key i,
        some_change front.first.1 (change_to value) (sym front.change ∙ ap (option_map change_to) is) i,
      )),
      behind,
    )

    not_astray : (name : Name) (place : ℕ) → IsAstray logs (Some e) name place → ⊥
    not_astray name place astray = apart (resolved logs e.key e.body) astray.0 front.change
      where
        apart : (led : Option (Option Stored)) → led ≡ None → option_map change_to led ≡ Some front.first.1 → ⊥
        apart None none is = cc
        apart (Some value) none is = cc

    -- or its value couldn't be read,
    pub unread : (fault : ReadFault) (result : Result (Option (List ℕ × Option Stored)) ReadFault) → result ≡ Err fault
        → answers.Gives logs (Some e) (Err fault) → GivesNext (HasLeft bytes_of version new) ws result
    unread fault result is answer =
        subst (GivesNext (HasLeft bytes_of version new) ws) (sym is) (by fault answer)
      where
        by : (f : ReadFault) → answers.Gives logs (Some e) (Err f) → GivesNext (HasLeft bytes_of version new) ws (Err f)
        by NoMemory answer = inr (front.first, front.later, front.parts, behind)
        by (Disk name) answer = inr (front.first, front.later, front.parts, behind)
        by (Damaged name place) answer = absurd (not_astray name place answer)

  -- or a source failed.
  pub failed : (fault : ReadFault) (result : Result (Option (List ℕ × Option Stored)) ReadFault) → result ≡ Err fault
      → ChangesMayFail bytes_of old fault → Keeps (entries_left bytes_of old) (entries_left bytes_of new)
      → GivesNext (HasLeft bytes_of version new) ws result
  failed fault result is may kept = subst (GivesNext (HasLeft bytes_of version new) ws) (sym is) (by fault may)
    where
      by : (f : ReadFault) → ChangesMayFail bytes_of old f → GivesNext (HasLeft bytes_of version new) ws (Err f)
      by NoMemory may = inl (left_as has.left ws (kept has.left has.told) has.led)
      by (Disk name) may = inl (left_as has.left ws (kept has.left has.told) has.led)
      by (Damaged name place) may = absurd (has.sound name place may)

-- behind a fault no more may come than before
pub err_spends : {T : Type 0} (before now : ℕ) (Given : T → Type 0) (fault : ReadFault) (result : Result T ReadFault)
    → result ≡ Err fault
    → now ≤ before → MatchResult result Given (λ why. now ≤ before)
err_spends {T} before now Given fault result is le =
    subst (λ (r : Result T ReadFault). MatchResult r Given (λ why. now ≤ before)) (sym is) le
