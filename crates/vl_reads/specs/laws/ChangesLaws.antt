-- What a version tells of changes stays, whatever is committed later; and it is what the history changed.
use Rattle.std.specs.Prelude.{◌≡◌, ℕ, zero, suc, T, Bool, true, false, nat_le, nat_lt, if◌then◌else◌, refl}
use Rattle.std.specs.Prelude.{List, [], ◌∷◌, map, Option, None, Some}
use Rattle.std.specs.FinMap.{entries, find, get-entries}
use Rattle.std.specs.FinMap.Entries.{is_sorted}
use Rattle.std.specs.Option.{option_map}
use Rattle.std.specs.Ordering.{eq_by_cmp}
use Rattle.std.proofs.Common.{sym, ap, ◌∙◌, cond, inl, inr, arith}
use Rattle.std.proofs.lemmas.Bool.Decides.{nat_tests}
use Rattle.vl_engine_model.specs.Changes.{as_set, changes, changes_between, told, told_if}
use Rattle.vl_engine_model.specs.laws.LowStays.{older}
use Rattle.vl_engine_model_laws.specs.laws.ChangeLaws.{changes_rise}
use Rattle.vl_engine_model_laws.specs.laws.WholeLaws.{told_changes}
use Rattle.vl_model.specs.History.{Extends, History, contents_at, value_at}
use Rattle.vl_model.specs.Keys.{Row, Stored, key_cmp}
use Rattle.vl_model.specs.Winners.{Logs, resolved_at, winner}
use Rattle.vl_model.specs.declared.change.Change.TheVariants.{Set}
use Rattle.vl_model.specs.declared.entry.Entry.{Entry}
use Rattle.vl_model.specs.laws.HistoryLaws.{get-contents_at, last_number-extends, value_at-extends}
use Rattle.vl_model.specs.laws.VersionLaws.{versions-stay}
use Rattle.vl_reads.specs.Changes.{MayTellSince, ShowsChanges}
use Rattle.vl_reads.specs.declared.past.Past.{Past}
use Rattle.vl_version.specs.Changes.{AreChanges, told_since}
use Rattle.vl_version.specs.declared.version.Version.{Version}

-- ---- later commits

pub changes_later : {H : Type 0} (bytes : H → Option (List ℕ)) (version : Version H) (past : Past) (number : ℕ)
    (least most : History) → Extends least most → ShowsChanges bytes version past number least
    → ShowsChanges bytes version past number most
changes_later bytes version past number least most extends is =
    let known = is.known in
    let later = last_number-extends least most extends in
    record {
      entries_of = is.entries_of;
      logs = is.logs;
      has = is.has;
      shows = λ key. is.shows key ∙ ap Some (sym (value_at-extends least most extends number key known));
      of = λ key n there. versions-stay least most extends key n (is.of key n there);
      whole = λ key n up there missing.
          is.whole key n up (older least most extends key n (omega (arith, up, known)) there) missing;
      floor = is.floor;
      lawful = is.lawful;
      known = omega (arith, known, later);
    }

-- ---- what is told

find_set : (key : List ℕ) (rows : List Row) → find key_cmp key (map as_set rows) ≡ option_map Set (find key_cmp key rows)
find_set key [] = refl
find_set key (row ∷ rows) = by (eq_by_cmp key_cmp key row.0) (find_set key rows)
  where
    by : (b : Bool) → find key_cmp key (map as_set rows) ≡ option_map Set (find key_cmp key rows)
        → cond b (Some (Set row.1)) (find key_cmp key (map as_set rows))
        ≡ option_map Set (cond b (Some row.1) (find key_cmp key rows))
    by true later = refl
    by false later = later

is_true : (b : Bool) → T b → b ≡ true
is_true true is = refl
is_true false is = absurd is

-- what a winner tells that leads to a value
told_led : (logs : Logs) (since : ℕ) (w : Option Entry) (value : Option Stored) → resolved_at logs w ≡ Some value
    → told logs (suc since) w ≡ told_since (suc since) w value
told_led logs since None value led = refl
told_led logs since (Some e) value led =
    ap (told_if (nat_lt (suc since) e.version)) led ∙ by (nat_lt (suc since) e.version) (nat_le e.version (suc since)) refl refl
  where
    by : (b d : Bool) → nat_lt (suc since) e.version ≡ b → nat_le e.version (suc since) ≡ d
        → told_if b (Some value) ≡ cond d None (told_if true (Some value))
    by true true above below = absurd (grind (arith, nat_tests, above, below))
    by true false above below = refl
    by false true above below = refl
    by false false above below = absurd (grind (arith, nat_tests, above, below))

-- From `gone` on, and since 0, the winners tell just what the history changed.
pub told_history : {H : Type 0} (bytes : H → Option (List ℕ)) (version : Version H) (past : Past) (number : ℕ) (h : History)
    (is : ShowsChanges bytes version past number h) (since : ℕ) → MayTellSince past number since
    → AreChanges is.logs is.entries_of since number (changes h since number)
told_history bytes version past number h is zero may = record {
  rising = is_true (is_sorted key_cmp (changes h zero number)) (changes_rise h zero number);
  told = λ key. record {
    value = value_at h number key;
    led = is.shows key;
    change = find_set key (entries (contents_at h number))
        ∙ ap (option_map Set) (sym (get-entries (contents_at h number) key) ∙ get-contents_at h number key);
  };
}
told_history bytes version past number h is (suc since) (inl none) = absurd (omega (arith, none))
told_history bytes version past number h is (suc since) (inr may) = record {
  rising = is_true (is_sorted key_cmp (changes h (suc since) number)) (changes_rise h (suc since) number);
  told = λ key. record {
    value = value_at h number key;
    led = is.shows key;
    change = sym (get-entries (changes_between h (suc since) number) key)
        ∙ sym (told_changes h is.entries_of is.logs number past.floor past.gone (suc since) number key may.0 is.floor
        (omega arith) may.1 is.of (is.whole key) (is.shows key))
        ∙ told_led is.logs since (winner is.entries_of key number) (value_at h number key) (is.shows key);
  };
}
