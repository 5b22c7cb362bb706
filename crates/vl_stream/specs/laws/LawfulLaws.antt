-- What a backup tells is within the limits, and so its stream holds it, where what sources hold is within the limits.
use Rattle.std.specs.Prelude.{◌≡◌, ◌⊎◌, ◌<◌, ◌≤◌, ◌^◌, ℕ, zero, suc, Bool, true, false, nat_le, nat_lt}
use Rattle.std.specs.Prelude.{List, [], ◌∷◌, map, length, Option, None, Some, refl}
use Rattle.std.specs.FinMap.{entries, find, get-entries, is_sorted}
use Rattle.std.specs.FinMap.Entries.{below_all}
use Rattle.std.specs.List.{AllByRecursion}
use Rattle.std.specs.Option.{option_map}
use Rattle.std.specs.Ordering.{eq_by_cmp, is_eq}
use Rattle.std.proofs.Common.{sym, ap, subst, ◌∙◌, cond, inl, inr, arith}
use Rattle.std.proofs.lemmas.Bool.{and_parts}
use Rattle.vl_stream.specs.Batches.{AreRising, Write, batches}
use Rattle.vl_stream.specs.Pieces.{record_format}
use Rattle.vl_stream.specs.Streams.{HoldsStream, Whole, stream}
use Rattle.vl_stream.specs.laws.BackupLaws.{stream_holds}
use Rattle.vl_stream.specs.laws.LoadLaws.{not_found}
use Rattle.vl_engine_model.specs.Changes.{as_set, changes, changes_between, told, told_if}
use Rattle.vl_engine_model.specs.Shown.{AreOf}
use Rattle.vl_engine_model.specs.Spared.{AreSpared}
use Rattle.vl_engine_model.specs.laws.RelocationShows.{Has, winner_has}
use Rattle.vl_engine_model_laws.specs.laws.ChangeLaws.{changes_rise}
use Rattle.vl_engine_model_laws.specs.laws.KnownVersions.{first_part, second_part}
use Rattle.vl_engine_model_laws.specs.laws.WholeLaws.{told_changes}
use Rattle.vl_model.specs.Formats.{log_format}
use Rattle.vl_model.specs.History.{History, contents_at, value_at}
use Rattle.vl_model.specs.Keys.{Row, Stored, is_key_length, is_value_length, key_cmp, value_length}
use Rattle.vl_model.specs.Versions.{versions, versions_in}
use Rattle.vl_model.specs.Winners.{Logs, resolved, resolved_at, winner}
use Rattle.vl_model.specs.declared.change.Change.{Change}
use Rattle.vl_model.specs.declared.change.Change.TheVariants.{Delete, Set}
use Rattle.vl_model.specs.declared.entry.Entry.{Entry}
use Rattle.vl_model.specs.laws.HistoryLaws.{get-contents_at}
use Rattle.vl_model.specs.laws.WinnerLaws.{key_tied, same_key}
use Rattle.vl_seglog.specs.Commit.{AreRecords}
use Rattle.vl_seglog.specs.Record.{IsRecord}

-- ---- within the limits

-- the entry's key is within the limits, and so is the value that it leads to
abbrev pub IsLedLawful : Logs → Entry → Type 0
IsLedLawful logs e = (is_key_length (length e.key) ≡ true)
    × ((value : Stored) → resolved logs e.key e.body ≡ Some (Some value)
    → is_value_length log_format (value_length value) ≡ true)

-- whatever a key is found with is a lawful record
abbrev pub AreFoundLawful : List Write → Type 0
AreFoundLawful ws = (key : List ℕ) (change : Change) → find key_cmp key ws ≡ Some change → IsRecord record_format key change

set_lawful : (key : List ℕ) (value : Stored) → is_key_length (length key) ≡ true
    → is_value_length log_format (value_length value) ≡ true → IsRecord record_format key (Set value)
set_lawful key value key_is value_is = record { key_length = key_is; value_length = value_is; tag = refl }

delete_lawful : (key : List ℕ) → is_key_length (length key) ≡ true → IsRecord record_format key Delete
delete_lawful key key_is = record { key_length = key_is; value_length = refl; tag = refl }

-- ---- each record is found

-- Records in key order are lawful where each that is found is.
pub found_lawful : (ws : List Write) → AreRising ws → AreFoundLawful ws → AreRecords record_format ws
found_lawful [] rising found = tt
found_lawful (w ∷ ws) rising found = (
  found w.0 w.1 (ap (λ o. cond (is_eq o) (Some w.1) (find key_cmp w.0 ws)) (key_tied w.0)),
  found_lawful ws (second_part (below_all key_cmp w.0 ws) (is_sorted key_cmp ws) rising) later,
)
  where
    none_here : (key : List ℕ) (change : Change) → find key_cmp key ws ≡ Some change → eq_by_cmp key_cmp key w.0 ≡ true → ⊥
    none_here key change is same = absurd (no (sym none ∙ is))
      where
        none : find key_cmp key ws ≡ None
        none = ap (λ k. find key_cmp k ws) (same_key key w.0 same)
            ∙ not_found w.0 ws (first_part (below_all key_cmp w.0 ws) (is_sorted key_cmp ws) rising)

        no : None ≡ Some change → ⊥
        no e = cc

    behind : (key : List ℕ) (change : Change) (b : Bool) → (b ≡ true → ⊥) → find key_cmp key ws ≡ Some change
        → cond b (Some w.1) (find key_cmp key ws) ≡ Some change
    behind key change true apart is = absurd (apart refl)
    behind key change false apart is = is

    later : AreFoundLawful ws
    later key change is =
        found key change (behind key change (eq_by_cmp key_cmp key w.0) (none_here key change is) is)

-- ---- what winners tell

module _ (logs : Logs) (key : List ℕ) (number : ℕ) where
  -- the value that a lawful winner leads to
  won_value : (w : Option Entry) → Has key number (IsLedLawful logs) w → (value : Stored)
      → resolved_at logs w ≡ Some (Some value) → IsRecord record_format key (Set value)
  won_value None has value led = absurd cc
  won_value (Some e) has value led =
      let same : key ≡ e.key = same_key key e.key (and_parts (eq_by_cmp key_cmp key e.key) (nat_le e.version number) has.0).0 in
      subst (λ (k : List ℕ). IsRecord record_format k (Set value)) (sym same)
      (set_lawful e.key value has.1.0 (has.1.1 value led))

  -- what a lawful winner tells
  won_told : (since : ℕ) (w : Option Entry) → Has key number (IsLedLawful logs) w → (change : Change)
      → told logs since w ≡ Some change → IsRecord record_format key change
  won_told since None has change tells = absurd cc
  won_told since (Some e) has change tells = by (nat_lt since e.version) (resolved logs e.key e.body) refl tells
    where
      same : key ≡ e.key
      same = same_key key e.key (and_parts (eq_by_cmp key_cmp key e.key) (nat_le e.version number) has.0).0

      some_is : {A : Type 0} (a b : A) → Some a ≡ Some b → a ≡ b
      some_is a b is = cc

      by : (b : Bool) (led : Option (Option Stored)) → resolved logs e.key e.body ≡ led → told_if b led ≡ Some change
          → IsRecord record_format key change
      by false led is tells = absurd cc
      by true None is tells = absurd cc
      by true (Some None) is tells =
          subst (IsRecord record_format key) (some_is Delete change tells)
          (subst (λ (k : List ℕ). IsRecord record_format k Delete) (sym same) (delete_lawful e.key has.1.0))
      by true (Some (Some value)) is tells =
          subst (IsRecord record_format key) (some_is (Set value) change tells)
          (subst (λ (k : List ℕ). IsRecord record_format k (Set value)) (sym same)
          (set_lawful e.key value has.1.0 (has.1.1 value is)))

find_set : (key : List ℕ) (rows : List Row) → find key_cmp key (map as_set rows) ≡ option_map Set (find key_cmp key rows)
find_set key [] = refl
find_set key (row ∷ rows) = by (eq_by_cmp key_cmp key row.0) (find_set key rows)
  where
    by : (b : Bool) → find key_cmp key (map as_set rows) ≡ option_map Set (find key_cmp key rows)
        → cond b (Some (Set row.1)) (find key_cmp key (map as_set rows))
        ≡ option_map Set (cond b (Some row.1) (find key_cmp key rows))
    by true later = refl
    by false later = later

-- Where entries tell what a history changed, and what they lead to is within the limits, so is each change.
pub changes_lawful : (h : History) (es : List Entry) (logs : Logs) (since number floor gone : ℕ)
    → ((key : List ℕ) → resolved_at logs (winner es key number) ≡ Some (value_at h number key)) → AreOf h es
    → ((key : List ℕ) → AreSpared (versions h key) (versions_in es key) number floor 1 gone) → floor ≤ number
    → (since ≡ 0) ⊎ ((gone ≤ since) × (since ≤ number)) → AllByRecursion (IsLedLawful logs) es
    → AreFoundLawful (changes h since number)
changes_lawful h es logs zero number floor gone shows of whole low may lawful key change found =
    by (value_at h number key) (shows key) (sym (find_set key (entries (contents_at h number))
    ∙ ap (option_map Set) (sym (get-entries (contents_at h number) key) ∙ get-contents_at h number key)) ∙ found)
  where
    some_is : {A : Type 0} (a b : A) → Some a ≡ Some b → a ≡ b
    some_is a b is = cc

    by : (value : Option Stored) → resolved_at logs (winner es key number) ≡ Some value → option_map Set value ≡ Some change
        → IsRecord record_format key change
    by None led is = absurd cc
    by (Some value) led is =
        subst (IsRecord record_format key) (some_is (Set value) change is)
        (won_value logs key number (winner es key number) (winner_has key number (IsLedLawful logs) es lawful) value led)
changes_lawful h es logs (suc since) number floor gone shows of whole low may lawful key change found =
    won_told logs key number (suc since) (winner es key number) (winner_has key number (IsLedLawful logs) es lawful) change
    (told_changes h es logs number floor gone (suc since) number key within.0 low (omega arith) within.1 of (whole key)
    (shows key)
    ∙ get-entries (changes_between h (suc since) number) key ∙ found)
  where
    within : (gone ≤ suc since) × (suc since ≤ number)
    within = above may
      where
        above : (suc since ≡ 0) ⊎ ((gone ≤ suc since) × (suc since ≤ number)) → (gone ≤ suc since) × (suc since ≤ number)
        above (inl none) = absurd (omega (arith, none))
        above (inr both) = both

-- The stream of what a history changed holds it, in its batches, where each change is within the limits.
pub changes_hold : (h : History) (since number : ℕ) → since < 2 ^ 64 → number < 2 ^ 64
    → length (changes h since number) < 2 ^ 64
    → AreFoundLawful (changes h since number)
    → HoldsStream (stream since number (changes h since number)) (batches (changes h since number)) Whole
changes_hold h since number since_fits number_fits few found =
    let rising : AreRising (changes h since number) = changes_rise h since number in
    stream_holds since number (changes h since number) since_fits number_fits few
    (found_lawful (changes h since number) rising found) rising
