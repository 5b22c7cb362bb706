-- What a winner leads to in the version's logs is what it leads to, and what a look-up over memory and tables answers.
use Rattle.std.proofs.Common.{◌≡◌, ℕ, List, Option, ap, sym, subst, ◌∙◌}
use Rattle.std.specs.Prelude.{Result, Ok, Err, option_and_then}
use Rattle.std.specs.Option.{option_map}
use Rattle.vl_model.specs.Cutting.{joined}
use Rattle.vl_table.specs.body.Founds.{found_of}
use Rattle.vl_table.specs.declared.body.found.Found.{Found}
use Rattle.vl_disk.specs.declared.name.Name.{Name}
use Rattle.vl_model.specs.Keys.{Stored}
use Rattle.vl_model.specs.Winners.{Logs, newest_of, resolved_at, winner}
use Rattle.vl_model.specs.declared.entry.Entry.{Entry}
use Rattle.vl_seglog.specs.Sealed.{IsHere, IsSmall}
use Rattle.vl_seglog.specs.declared.sealed.SealedLog.{SealedLog}
use Rattle.vl_table.specs.Answers.{IsAnswer as table_answer}
use Rattle.vl_disk.specs.declared.read_fault.ReadFault.{ReadFault}
use Rattle.vl_disk.specs.declared.read_fault.ReadFault.TheVariants as table
use Rattle.vl_version.specs.Answers.{Fills, Gives, IsAnswer, IsFound, value_of}
use Rattle.vl_version.specs.Sources.{AreTold, HasEntries, stored_in, tables_in}
use Rattle.vl_disk.specs.declared.read_fault.ReadFault.TheVariants.{NoMemory, Disk, Damaged}
use Rattle.vl_version.specs.declared.found.Found as filled
use Rattle.vl_version.specs.declared.found.Found.TheVariants as found
use Rattle.vl_version.specs.declared.levels.look.Look.TheVariants.{UpTo}
use Rattle.vl_version.specs.declared.version.Version.{Version}
use Rattle.vl_version.specs.levels.LevelsLooked.{AreInOrder}
use Rattle.vl_version.specs.levels.LookedUp.{LooksOn}
use Rattle.vl_version.proofs.AnswerLaws.{same_led}

module _ (held logs : Logs) (w : Option Entry) (leads : resolved_at held w ≡ resolved_at logs w) where
  gives_as : (result : Result (Option Stored) ReadFault) → Gives held w result → Gives logs w result
  gives_as (Ok value) is = sym leads ∙ is
  gives_as (Err NoMemory) is = tt
  gives_as (Err (Disk name)) is = tt
  gives_as (Err (Damaged name place)) is = (sym leads ∙ is.0, is.1)

  same_value : value_of held w ≡ value_of logs w
  same_value = ap (λ (led : Option (Option Stored)). option_and_then (λ (value : Option Stored). value) led) leads

  found_as : (old new : List ℕ) (f : filled.Found) → IsFound held w old new f → IsFound logs w old new f
  found_as old new found.None is = (sym leads ∙ is.0, is.1)
  found_as old new (found.Here len) is = subst (λ value. IsHere value old new len) same_value is
  found_as old new (found.Small len) is = subst (λ value. IsSmall value old new len) same_value is

  fills_as : (old new : List ℕ) (result : Result filled.Found ReadFault) → Fills held w old new result → Fills logs w old new result
  fills_as old new (Ok f) is = found_as old new f is
  fills_as old new (Err NoMemory) is = tt
  fills_as old new (Err (Disk name)) is = tt
  fills_as old new (Err (Damaged name place)) is = (sym leads ∙ is.0, is.1)

module _ {H : Type 0} (bytes_of : H → Option (List ℕ)) (version : Version H) (es : List Entry) (logs : Logs)
    (has : HasEntries bytes_of version es logs) (key : List ℕ) (number : ℕ) where
  module _ (w : Option Entry) (wins : w ≡ winner es key number) (held : List (SealedLog H)) (are : held ≡ version.behind.logs.items) where
    told : AreTold bytes_of held
    told = subst (AreTold bytes_of) (sym are) has.told

    leads : resolved_at (stored_in bytes_of held) (winner es key number) ≡ resolved_at logs (winner es key number)
    leads = ap (λ l. resolved_at (stored_in bytes_of l) (winner es key number)) are ∙ same_led bytes_of version es logs has number key

    -- what is answered of what counts
    pub given_of : (result : Result (Option Stored) ReadFault) → (AreTold bytes_of held → Gives (stored_in bytes_of held) w result)
        → Gives logs (winner es key number) result
    given_of result answers = gives_as (stored_in bytes_of held) logs (winner es key number) leads result
        (subst (λ (v : Option Entry). Gives (stored_in bytes_of held) v result) wins (answers told))

    pub filled_of : (old new : List ℕ) (result : Result filled.Found ReadFault)
        → (AreTold bytes_of held → Fills (stored_in bytes_of held) w old new result)
        → Fills logs (winner es key number) old new result
    filled_of old new result answers = fills_as (stored_in bytes_of held) logs (winner es key number) leads old new result
        (subst (λ (v : Option Entry). Fills (stored_in bytes_of held) v old new result) wins (answers told))

  -- a fault of true tables isn't damage
  pub fault_answers : {T : Type 0} (good : T → Type 0) (bad : Name → ℕ → Type 0) (why : ReadFault) (best : Option Entry)
      (before now : ℕ) (result : Result T ReadFault) → result ≡ Err why
      → LooksOn bytes_of (tables_in version) (AreInOrder version.behind.levels) (UpTo number) key best before now (Err why)
      → IsAnswer good bad result
  fault_answers {T} good bad why best before now result is on =
      subst (IsAnswer good bad) (sym is)
      (by (λ found. option_map (found_of key) found ≡ newest_of best (winner (joined has.tabled) key number)) why
      (on.answer has.in_order has.tabled has.tables))
    where
      by : (found : Option Found → Type 0) (e : ReadFault) → table_answer found (λ place. ⊥) (Err e)
          → IsAnswer {T = T} good bad (Err e)
      by found table.NoMemory sound = tt
      by found (table.Disk name) sound = tt
      by found (table.Damaged name place) sound = absurd sound
