-- What an opening finds on an empty disk: a store that has nothing.
use Rattle.std.specs.Prelude.{◌≡◌, ◌≤◌, ℕ, Bool, List, [], ◌∷◌, ◌++◌, length, map, None}
use Rattle.std.specs.Prelude.{Some, Ok, refl, true, false}
use Rattle.std.specs.FinMap.{empty, empty_of_len, from_sorted, get, get-empty, len-entries, entries-from_sorted}
use Rattle.std.specs.List.{flat_map}
use Rattle.std.specs.Ordering.{nat_cmp}
use Rattle.std.proofs.Common.{sym, ◌∙◌, ap, subst, arith}
use Rattle.vl_engine_laws.specs.Files.{found_levels}
use Rattle.vl_engine_laws.specs.Found.{recovered}
use Rattle.vl_engine_laws.specs.Pointed.{stored_among}
use Rattle.vl_engine_laws.specs.Shown.{EntriesShow, Shown, entries_among, logs_entries, tables_among}
use Rattle.vl_engine_laws.specs.laws.ReopenedShown.{none_show}
use Rattle.vl_disk.specs.Crash.{Image}
use Rattle.vl_disk.specs.DiskState.{empty_disk}
use Rattle.vl_disk.specs.Name.{name_cmp}
use Rattle.vl_disk.specs.Started.{IsRead, started_empty, started_read}
use Rattle.vl_disk.specs.declared.name.Name.{Name}
use Rattle.vl_disk.specs.declared.name.Name.TheVariants.{Log, Manifest, Table}
use Rattle.vl_engine_model.specs.Sources.{numbers_of}
use Rattle.vl_engine_model.specs.Start.{layout_at_start, no_tables}
use Rattle.vl_engine_model.specs.declared.table.Table as laid
use Rattle.vl_manifest.specs.States.{fresh_state}
use Rattle.vl_model.specs.History.{History, Past, last_number, no_history}
use Rattle.vl_model.specs.Limits.{max_room}
use Rattle.vl_recover.specs.crash.Starts.{MayOpen}
use Rattle.vl_recover.specs.laws.opening.HeldLaws.{started_may_open}
use Rattle.vl_recover.specs.laws.opening.OpeningLaws.{single_opening}
use Rattle.vl_recover.specs.laws.repairing.StageLaws.{ok_same}
use Rattle.vl_recover.specs.opening.Answers.{Finds}
use Rattle.vl_recover.specs.opening.Opening.{Bare, FoundTable, IsAmong, NamedLevels, Opening, Refusal, led_into, led_through}
use Rattle.vlstore.specs.Lists.{history_by, past_of}
use Rattle.vlstore.specs.Shops.{first_origin}

pub none_some : {X : Type 0} (x : X) → None ≡ Some x → ⊥
none_some x e = cc

-- no file stands there
pub nothing : (name : Name) → get (empty {K = Name} {X = List ℕ} {R = name_cmp}) name ≡ None
nothing name = get-empty name_cmp name

pub past : 1 ≤ 0 → ⊥
past le = omega (arith, le)

-- ---- levels without tables

abbrev in_levels : {X : Type 0} → List (List X) → List X
in_levels levels = flat_map (λ level. level) levels

pub none_named : (deeper : Bool) (image : Image) (levels : List (List laid.Table)) → tables_among levels ≡ []
    → NamedLevels deeper image (map numbers_of levels) (Ok (found_levels levels))
none_named deeper image [] none = refl
none_named deeper image ([] ∷ levels) none = ([], refl, (found_levels levels, none_named true image levels none, refl))
none_named deeper image ((t ∷ ts) ∷ levels) none = absurd cc

leads_on : (levels : List (List FoundTable)) (ns : List ℕ) → in_levels levels ≡ [] → led_through levels ns ≡ ns
leads_on [] ns none = refl
leads_on ([] ∷ levels) ns none = leads_on levels ns none
leads_on ((t ∷ ts) ∷ levels) ns none = absurd cc

led_nowhere : (levels : List (List FoundTable)) → in_levels levels ≡ [] → (n : ℕ) → IsAmong (led_into levels) n → ⊥
led_nowhere levels none n among = subst (λ (ns : List ℕ). IsAmong ns n) (leads_on levels [] none) among

-- ---- what is found

-- it opens as a store without logs, at number 0
abbrev pub finds_nothing : Finds empty
finds_nothing = record {
  opening = record { state = fresh_state; levels = found_levels no_tables; logs = []; number = 0 };
  opens = (
    fresh_state,
    (
      Bare,
      record {
        none = λ n bytes is. none_some bytes (sym (nothing (Manifest n)) ∙ is.stands);
        no_log = λ n. nothing (Log n);
        no_table = λ n. nothing (Table n);
      },
      refl,
    ),
    (
      found_levels no_tables,
      none_named false empty no_tables refl,
      (tt, refl, ([], λ m _. nothing (Log m), refl)),
    ),
  );
  greatest = record { log = 0; table = 0; manifest = 0 };
  are_greatest = record {
    log = record { none_above = λ m _. nothing (Log m); stands = λ le. absurd (past le) };
    table = record { none_above = λ m _. nothing (Table m); stands = λ le. absurd (past le) };
    manifest = record { none_above = λ m _. nothing (Manifest m); stands = λ le. absurd (past le) };
  };
  logs = [];
  standing = λ m _. nothing (Log m);
}

-- nothing is known of versions before the first step of a new store
pub first_base : past_of first_origin.base ≡ empty
first_base = empty_of_len (from_sorted []) (len-entries (from_sorted []) ∙ ap length (entries-from_sorted nat_cmp [] tt))

-- so the history behind no steps is that of no commits
pub first_history : no_history ≡ history_by first_origin []
first_history = ap (λ (base : Past). record { first = 0; base = base; commits = [] }) (sym first_base)

-- and that is shown, without tables
abbrev pub shown_first : Shown empty (history_by first_origin []) (last_number (history_by first_origin []))
shown_first = record {
  opening = finds_nothing.opening;
  opens = finds_nothing.opens;
  number = refl;
  levels = no_tables;
  found = refl;
  tables = tt;
  sealed = [];
  led = λ n among. absurd among;
  placed = tt;
  entries = subst (λ (h : History). EntriesShow 1 0 0 (stored_among []) (logs_entries [] ++ entries_among no_tables) h 0) first_history
      (none_show (stored_among []));
  some = omega arith;
  since = omega arith;
  last = omega arith;
}

-- an engine begins with the layout of a new store
pub first_layout : layout_at_start max_room (recovered finds_nothing shown_first) ≡ first_origin.layout
first_layout = refl

-- ---- the disk

pub bare_read : IsRead empty empty_disk
bare_read = started_read empty empty_disk started_empty

pub empty_may_open : MayOpen empty_disk
empty_may_open = started_may_open empty empty_disk started_empty (λ o opens n bytes reading among.
    absurd (led_nowhere o.levels (ap (λ (x : Opening). in_levels x.levels) (ok_same {E = Refusal} o finds_nothing.opening
    (single_opening empty (Ok o) (Ok finds_nothing.opening) opens finds_nothing.opens))) n among))
