-- One entry is changed, and with it the file of its name.
use Rattle.std.proofs.Common.{◌≡◌, ◌≢◌, ⊎_elim, ℕ, ◌+◌, ◌≤◌, Bool, true, false, List, [], ◌∷◌, ◌++◌, length, sum_by}
use Rattle.std.proofs.Common.{Option, None, Some, refl, sym, ◌∙◌, ap, subst, arith, length-append, All, IsSome}
use Rattle.std.proofs.Common.{vec_capacity, Vec, Global, get_or, unwrap_or, if◌then◌else◌, ◌*◌, Result, Ok, Err, OnOk}
use Rattle.std.proofs.Common.{OnErr}
use Rattle.std.specs.Option.{option_map}
use Rattle.std.specs.Map.{lookup, values_of}
use Rattle.std.specs.BTreeMap as tree
use Rattle.std.specs.BTreeMap.{WritesThrough}
use Rattle.std.specs.FinMap.{get, get-empty}
use Rattle.std.proofs.lemmas.List.{length-map}
use Rattle.std.proofs.lemmas.List.Sums.{sum_by-le}
use Rattle.std.proofs.lemmas.List.Elements.{All-nil, All-push}
use Rattle.std.proofs.lemmas.Map.Entries.{sum_by-set_value, sum_by-insert_entry}
use Rattle.vl_disk.specs.declared.name.Name.{Name}
use Rattle.vl_disk.specs.Name.{name_cmp, name_cmp_total, IsNumbered}
use Rattle.vl_disk.specs.laws.NameMap.{same_or_other, tied_other, get_inserted, get_inserted_other, get_removed, get_removed_other}
use Rattle.vl_disk.specs.DiskState.{File, DiskState, IsLawfulFile, empty_disk, new_file, settled, with_file, created, without}
use Rattle.vl_disk.specs.Lending.{adopted}
use Rattle.vl_disk.specs.MadeFile.{made}
use Rattle.vl_disk.specs.Changes.{SameElsewhere, created_there, created_elsewhere, changed_there, changed_elsewhere}
use Rattle.vl_disk.specs.Changes.{without_removed, without_elsewhere}
use Rattle.vl_disk.specs.Crash.{last_file}
use Rattle.vl_disk.specs.Spare.{Spare, SameSpare, SameSpareElsewhere, UsesAdopt, UsesAppend, UsesHold, UsesLend}
use Rattle.vl_mem.specs.declared.entry.Entry.{Entry}
use Rattle.vl_mem.specs.declared.entry.Presence.{Presence}
use Rattle.vl_mem.specs.declared.entry.Presence.TheVariants.{Absent, Standing, Removed, Lent}
use Rattle.vl_mem.specs.declared.event.Event.{Event}
use Rattle.vl_mem.specs.declared.event.Event.TheVariants.{Found, Create, Remove, Adopt}
use Rattle.vl_mem.specs.Event.{IsSound, after_event, replayed-push, state_after}
use Rattle.vl_mem.specs.Entry.{Entries, Fits, HasFiles, NoneFail, failing_of, Matches, Becomes, KeepsFile, entry_of, file_of}
use Rattle.vl_mem.specs.Entry.{if_standing, if_removed, is_lent, plain, slots, spare_of, standing_in, removed_in}
use Rattle.vl_mem.specs.Entry.{appends, removes, IsBlank}
use Rattle.vl_mem.specs.Kept.{IsKept, slots_of}
use Rattle.vl_mem.specs.declared.written.Written.{Written}
use Rattle.vl_mem.specs.Written.{file_written}

none_some : {X : Type 0} (x : X) → None ≡ Some x → ⊥
none_some x e = cc

some_same : {X : Type 0} (x y : X) → Some x ≡ Some y → x ≡ y
some_same x y e = cc

no_file : IsSome {T = File} None → ⊥
no_file is = cc

-- ---- an entry and the files of its name

pub stood : (presence : Presence) (file there : File) → if_standing presence file ≡ Some (plain there)
    → (presence ≡ Standing) × (file ≡ plain there)
stood Absent file there is = absurd (none_some (plain there) is)
stood Standing file there is = (refl, some_same file (plain there) is)
stood Removed file there is = absurd (none_some (plain there) is)
stood Lent file there is = absurd (none_some (plain there) is)

module _ (old new : Entry) where
  -- a change of the file that stands
  pub matches_changed : (change : File → File) (lost there : Option File)
      → ((file : File) → plain (change (plain file)) ≡ plain (change file))
      → Becomes old new old.presence (plain (change (file_of old))) → IsSome there → Matches (Some old) there lost
      → Matches (Some new) (option_map change there) lost
  matches_changed change lost None alike becomes is matches = absurd (no_file is)
  matches_changed change lost (Some file) alike becomes is matches =
      let at = stood old.presence (file_of old) file matches.standing in
      let standing : new.presence ≡ Standing = becomes.presence ∙ at.0 in
      record {
        standing = ap (λ p. if_standing p (file_of new)) standing ∙ ap Some (becomes.file ∙ ap (λ f. plain (change f)) at.1 ∙ alike file);
        removed = ap (λ p. if_removed p (file_of new)) standing ∙ sym (ap (λ p. if_removed p (file_of old)) at.0) ∙ matches.removed;
      }

  pub matches_placed : (file : File) → Becomes old new Standing (plain file) → Matches (Some new) (Some file) None
  matches_placed file becomes = record {
    standing = ap (λ p. if_standing p (file_of new)) becomes.presence ∙ ap Some becomes.file;
    removed = ap (λ p. if_removed p (file_of new)) becomes.presence;
  }

  -- a file that goes, to nobody or to a writer
  module _ (gone : Presence) (away : (file : File) → (if_standing gone file ≡ None) × (if_removed gone file ≡ Some file)) where
    pub matches_gone : (lost there : Option File) → Becomes old new gone (file_of old) → IsSome there
        → Matches (Some old) there lost → Matches (Some new) None (last_file there lost)
    matches_gone lost None becomes is matches = absurd (no_file is)
    matches_gone lost (Some file) becomes is matches = record {
      standing = ap (λ p. if_standing p (file_of new)) becomes.presence ∙ (away (file_of new)).0;
      removed = ap (λ p. if_removed p (file_of new)) becomes.presence ∙ (away (file_of new)).1
          ∙ ap Some (becomes.file ∙ (stood old.presence (file_of old) file matches.standing).1);
    }

  pub matches_same : (there lost : Option File) → KeepsFile old new → Matches (Some old) there lost → Matches (Some new) there lost
  matches_same there lost keeps matches = record {
    standing = ap (λ p. if_standing p (file_of new)) keeps.presence ∙ ap (if_standing old.presence) keeps.file ∙ matches.standing;
    removed = ap (λ p. if_removed p (file_of new)) keeps.presence ∙ ap (if_removed old.presence) keeps.file ∙ matches.removed;
  }

-- ---- maps

-- a name has another entry, or its first one
module _ (name : Name) (entries next : Entries) (new : Entry)
    (updates : tree.UpdatesBy name_cmp (name_cmp name) entries next (Some new)) where
  elsewhere : (other : Name) → other ≢ name → entry_of next other ≡ entry_of entries other
  elsewhere other apart = updates.2 other (tied_other name other (λ e. apart (sym e)))

  fits_all : ((q : Name) (entry : Entry) → entry_of entries q ≡ Some entry → Fits entry) → Fits new
      → (q : Name) (entry : Entry) → entry_of next q ≡ Some entry → Fits entry
  fits_all all fits q entry is = ⊎_elim
      (λ (same : q ≡ name). subst Fits (some_same new entry (sym updates.1 ∙ ap (entry_of next) (sym same) ∙ is)) fits)
      (λ (other : q ≢ name). all q entry (sym (elsewhere q other) ∙ is))
      (same_or_other q name)

  files_all : (before disk : DiskState) → HasFiles entries before → SameElsewhere name before disk
      → Matches (Some new) (get disk.standing name) (get disk.removed name) → HasFiles next disk
  files_all before disk has apart matches q = ⊎_elim
      (λ (same : q ≡ name). subst (λ (n : Name). Matches (entry_of next n) (get disk.standing n) (get disk.removed n)) (sym same)
      (subst (λ e. Matches e (get disk.standing name) (get disk.removed name)) (sym updates.1) matches))
      (λ (other : q ≢ name). subst (λ e. Matches e (get disk.standing q) (get disk.removed q)) (sym (elsewhere q other))
      (subst (λ f. Matches (entry_of entries q) f (get disk.removed q)) (sym (apart.standing q other))
      (subst (λ f. Matches (entry_of entries q) (get before.standing q) f) (sym (apart.removed q other)) (has q))))
      (same_or_other q name)

  -- the files under the name are these afterwards
  left_matches : (disk : DiskState) (standing removed : Option File) → get disk.standing name ≡ standing
      → get disk.removed name ≡ removed → Matches (Some new) standing removed
      → Matches (Some new) (get disk.standing name) (get disk.removed name)
  left_matches disk standing removed stands is matches = subst (Matches (Some new) (get disk.standing name)) (sym is)
      (subst (λ f. Matches (Some new) f removed) (sym stands) matches)

same_files : (name : Name) (disk : DiskState) → SameElsewhere name disk disk
same_files name disk = record { standing = λ q other. refl; removed = λ q other. refl }

-- an entry is changed
module _ (name : Name) (entries next : Entries) (old new : Entry) (found : entry_of entries name ≡ Some old)
    (wrote : WritesThrough name_cmp (name_cmp name) entries new next) where
  updates : tree.UpdatesBy name_cmp (name_cmp name) entries next (Some new)
  updates = wrote.3 (subst IsSome (sym found) refl)

  sum : slots_of next + slots old ≡ slots_of entries + slots new
  sum = ap (λ es. sum_by slots (values_of es) + slots old) wrote.0
      ∙ sum_by-set_value slots (tree.is_at (name_cmp name)) entries.entries old new found

  module _ (events later : List Event) (capacity wide : ℕ) (kept : IsKept entries events capacity)
      (wider : capacity ≤ wide) (fits : Fits old → Fits new) where
    abbrev disk : DiskState
    disk = state_after events

    -- a call that left an event
    pub kept_by : (event : Event) → later ≡ events ++ event ∷ [] → IsSound event → slots new + 1 ≤ slots old
        → SameElsewhere name disk (after_event event disk)
        → Matches (Some new) (get (after_event event disk).standing name) (get (after_event event disk).removed name)
        → IsKept next later wide
    kept_by event pushed sound fewer apart matches = record {
      files = subst (HasFiles next) (sym (ap state_after pushed ∙ replayed-push events event empty_disk))
          (files_all name entries next new updates disk (after_event event disk) kept.files apart matches);
      sound = subst (All IsSound) (sym pushed) (All-push IsSound events event kept.sound sound);
      fits = fits_all name entries next new updates kept.fits (fits (kept.fits name old found));
      room = omega (arith, kept.room, wider, sum, fewer, ap length pushed, length-append events (event ∷ []));
    }

    kept_matches : Matches (Some old) (get disk.standing name) (get disk.removed name)
    kept_matches = subst (λ e. Matches e (get disk.standing name) (get disk.removed name)) found (kept.files name)

    pub kept_created : later ≡ events ++ Create name ∷ [] → IsNumbered name → Becomes old new Standing new_file → IsKept next later wide
    kept_created pushed numbered becomes = kept_by (Create name) pushed numbered becomes.slots (created_elsewhere name disk)
        (left_matches name entries next new updates (created name disk) (Some new_file) None (created_there name disk)
        (get_removed disk.removed name) (matches_placed old new new_file becomes))

    pub kept_adopted : (written : Written) → later ≡ events ++ Adopt name written ∷ [] → IsNumbered name
        → IsLawfulFile (file_written written) → Becomes old new Standing (plain (file_written written)) → IsKept next later wide
    kept_adopted written pushed numbered lawful becomes = let file = file_written written in let after = adopted name file disk in
        kept_by (Adopt name written) pushed (numbered, lawful) becomes.slots
        (record { standing = get_inserted_other disk.standing name file; removed = get_removed_other disk.removed name })
        (left_matches name entries next new updates after (Some file) None (get_inserted disk.standing name file)
        (get_removed disk.removed name) (matches_placed old new file becomes))

    pub kept_changed : (event : Event) (change : File → File) → after_event event disk ≡ with_file name change disk
        → ((file : File) → plain (change (plain file)) ≡ plain (change file))
        → later ≡ events ++ event ∷ [] → IsSound event → Becomes old new old.presence (plain (change (file_of old)))
        → IsSome (get disk.standing name) → IsKept next later wide
    kept_changed event change does alike pushed sound becomes stands =
        let after = with_file name change disk in
        kept_by event pushed sound becomes.slots (subst (SameElsewhere name disk) (sym does) (changed_elsewhere name disk change))
        (subst (λ (s : DiskState). Matches (Some new) (get s.standing name) (get s.removed name)) (sym does)
        (left_matches name entries next new updates after (option_map change (get disk.standing name))
        (get disk.removed name) (changed_there name disk change) refl
        (matches_changed old new change (get disk.removed name) (get disk.standing name) alike becomes stands kept_matches)))

    pub kept_gone : (gone : Presence) → ((file : File) → (if_standing gone file ≡ None) × (if_removed gone file ≡ Some file))
        → later ≡ events ++ Remove name ∷ [] → Becomes old new gone (file_of old) → IsSome (get disk.standing name) → IsKept next later wide
    kept_gone gone away pushed becomes stands = kept_by (Remove name) pushed tt becomes.slots (without_elsewhere name disk)
        (left_matches name entries next new updates (without name disk) None
        (last_file (get disk.standing name) (get disk.removed name)) (get_removed disk.standing name) (without_removed name disk)
        (matches_gone old new gone away (get disk.removed name) (get disk.standing name) becomes stands kept_matches))

    -- and one that left none
    pub kept_still : later ≡ events → slots_of next + length events ≤ wide → KeepsFile old new → IsKept next later wide
    kept_still same within keeps = record {
      files = subst (λ es. HasFiles next (state_after es)) (sym same)
          (files_all name entries next new updates disk disk kept.files (same_files name disk)
          (matches_same old new (get disk.standing name) (get disk.removed name) keeps kept_matches));
      sound = subst (All IsSound) (sym same) kept.sound;
      fits = fits_all name entries next new updates kept.fits (fits (kept.fits name old found));
      room = omega (arith, within, ap length same);
    }

  -- no event more may come than before
  pub no_more : (events : List Event) (capacity : ℕ) → IsKept entries events capacity → slots new ≤ slots old
      → slots_of next + length events ≤ capacity
  no_more events capacity kept fewer = omega (arith, kept.room, sum, fewer)

  pub updated_there : entry_of next name ≡ Some new
  updated_there = updates.1

  -- ---- rooms

  abbrev before : Name → Spare
  before n = spare_of (entry_of entries n)

  abbrev after : Name → Spare
  after n = spare_of (entry_of next n)

  pub spare_elsewhere : SameSpareElsewhere name before after
  spare_elsewhere other apart = ap spare_of (elsewhere name entries next new updates other apart)

  pub spare_there : after name ≡ spare_of (Some new)
  spare_there = ap spare_of updates.1

  -- of a part of the room that is as it was
  same_part : {X : Type 0} (part : Spare → X) → part (spare_of (Some new)) ≡ part (spare_of (Some old))
      → part (after name) ≡ part (before name)
  same_part part same = ap part spare_there ∙ same ∙ sym (ap (λ e. part (spare_of e)) found)

  pub uses_append : new.change ≡ old.change → new.hold ≡ old.hold → new.lend ≡ old.lend → UsesAppend name before after
  uses_append change hold lend = record {
    change = same_part (λ s. s.change) change;
    hold = same_part (λ s. s.hold) hold;
    lend = same_part (λ s. s.lend) lend;
    elsewhere = spare_elsewhere;
  }

  pub uses_hold : new.change ≡ old.change → new.buffer ≡ old.buffer → new.lend ≡ old.lend → UsesHold name before after
  uses_hold change buffer lend = record {
    change = same_part (λ s. s.change) change;
    append = same_part (λ s. s.append) (ap (option_map vec_capacity) buffer);
    lend = same_part (λ s. s.lend) lend;
    elsewhere = spare_elsewhere;
  }

  pub uses_lend : new.presence ≡ Lent → new.change ≡ old.change → new.buffer ≡ old.buffer → new.hold ≡ old.hold → UsesLend name before after
  uses_lend lent change buffer hold = record {
    adopt = ap (λ s. s.adopt) spare_there ∙ ap is_lent lent;
    change = same_part (λ s. s.change) change;
    append = same_part (λ s. s.append) (ap (option_map vec_capacity) buffer);
    hold = same_part (λ s. s.hold) hold;
    elsewhere = spare_elsewhere;
  }

  pub uses_adopt : new.hold ≡ true → UsesAdopt name before after
  uses_adopt hold = record { hold = ap (λ s. s.hold) spare_there ∙ hold; elsewhere = spare_elsewhere }

  pub failing_elsewhere : (other : Name) → other ≢ name → failing_of (entry_of next other) ≡ failing_of (entry_of entries other)
  failing_elsewhere other apart = ap failing_of (elsewhere name entries next new updates other apart)

  pub same_failing : new.failing ≡ old.failing → (q : Name) → failing_of (entry_of next q) ≡ failing_of (entry_of entries q)
  same_failing same q = ⊎_elim
      (λ (here : q ≡ name). ap (λ n. failing_of (entry_of next n)) here ∙ ap failing_of updates.1 ∙ ap (λ fs. fs.items) same
      ∙ sym (ap failing_of found) ∙ sym (ap (λ n. failing_of (entry_of entries n)) here))
      (λ (other : q ≢ name). failing_elsewhere q other)
      (same_or_other q name)

  pub same_spare : spare_of (Some new) ≡ spare_of (Some old) → SameSpare before after
  same_spare same q = ⊎_elim
      (λ (here : q ≡ name). ap after here ∙ same_part (λ s. s) same ∙ sym (ap before here))
      (λ (other : q ≢ name). spare_elsewhere q other)
      (same_or_other q name)

-- ---- room for events, and new names

if_most : (b : Bool) (m : ℕ) → (if b then m else 0) ≤ m
if_most true m = omega arith
if_most false m = omega arith

unless_most : (b : Bool) → (if b then 0 else 1) ≤ 1
unless_most true = omega arith
unless_most false = omega arith

appends_most : (buffer : Option (Vec ℕ Global)) → appends buffer ≤ 2
appends_most None = omega arith
appends_most (Some buffer) = omega arith

removes_most : (presence : Presence) → removes presence ≤ 3
removes_most Absent = omega arith
removes_most Standing = omega arith
removes_most Removed = omega arith
removes_most Lent = omega arith

slots_most : (entry : Entry) → slots entry ≤ 12
slots_most entry = omega (
  arith,
  if_most entry.change 3,
  if_most entry.lend 3,
  appends_most entry.buffer,
  unless_most entry.wholly_synced,
  removes_most entry.presence,
)

pub most : (entries : Entries) → slots_of entries ≤ 12 * length entries.entries
most entries =
    let each : slots_of entries ≤ length (values_of entries.entries) * 12 = sum_by-le slots 12
    (values_of entries.entries) (λ k d within. slots_most (get_or (values_of entries.entries) k d)) in
    omega (arith, each, length-map entries.entries (λ (e : Name × Entry). e.1))

-- a name gets its first entry, or another one
module _ (name : Name) (entry : Entry) (entries next : Entries)
    (updates : tree.Updates name_cmp entries next name (Some entry))
    (inserted : next.entries ≡ tree.insert_entry name_cmp entries.entries name entry) (ordered : tree.IsOrdered name_cmp entries) where
  sum_inserted : slots_of next + unwrap_or (option_map slots (entry_of entries name)) 0 ≡ slots_of entries + slots entry
  sum_inserted = ap (λ es. sum_by slots (values_of es) + unwrap_or (option_map slots (entry_of entries name)) 0) inserted
      ∙ sum_by-insert_entry slots name_cmp_total entries.entries name entry ordered

  -- one of which nothing is known
  pub known_kept : (events : List Event) (capacity : ℕ) → IsBlank entry → entry_of entries name ≡ None
      → IsKept entries events capacity → IsKept next events capacity
  known_kept events capacity blank none kept = let disk = state_after events in record {
    files = files_all name entries next entry updates disk disk kept.files (same_files name disk) (record {
      standing = ap (λ p. if_standing p (file_of entry)) blank.presence ∙ sym (ap standing_in none) ∙ (kept.files name).standing;
      removed = ap (λ p. if_removed p (file_of entry)) blank.presence ∙ sym (ap removed_in none) ∙ (kept.files name).removed;
    });
    sound = kept.sound;
    fits = fits_all name entries next entry updates kept.fits blank.fits;
    room = omega (arith, kept.room, sum_inserted, blank.slots);
  }

  -- one of a file that stood when the disk was started
  pub found_kept : (events later : List Event) (bytes : Vec ℕ Global) (capacity wide count : ℕ)
      → entry.presence ≡ Standing → file_of entry ≡ settled bytes.items → Fits entry → slots entry ≡ 1 → IsNumbered name
      → later ≡ events ++ Found name bytes ∷ [] → count ≡ length entries.entries
      → length events + 12 * (count + 1) ≤ wide → IsKept entries events capacity → IsKept next later wide
  found_kept events later bytes capacity wide count standing file fits few numbered pushed counts room kept =
      let disk = state_after events in
      let after = made name bytes.items disk in
      record {
        files = subst (HasFiles next) (sym (ap state_after pushed ∙ replayed-push events (Found name bytes) empty_disk))
            (files_all name entries next entry updates disk after kept.files
            (record {
              standing = get_inserted_other disk.standing name (settled bytes.items);
              removed = get_removed_other disk.removed name;
            })
            (left_matches name entries next entry updates after (Some (settled bytes.items)) None
            (get_inserted disk.standing name (settled bytes.items)) (get_removed disk.removed name) (record {
              standing = ap (λ p. if_standing p (file_of entry)) standing ∙ ap Some file;
              removed = ap (λ p. if_removed p (file_of entry)) standing;
            })));
        sound = subst (All IsSound) (sym pushed) (All-push IsSound events (Found name bytes) kept.sound numbered);
        fits = fits_all name entries next entry updates kept.fits fits;
        room = omega (arith, room, counts, most entries, sum_inserted, few, ap length pushed, length-append events (Found name bytes ∷ []));
      }

-- the same entries
pub kept_same : (entries next : Entries) (events : List Event) (capacity : ℕ) → next.entries ≡ entries.entries
    → IsKept entries events capacity → IsKept next events capacity
kept_same entries next events capacity same kept = record {
  files = λ q. subst (λ e. Matches e (get (state_after events).standing q) (get (state_after events).removed q))
      (sym (at q)) (kept.files q);
  sound = kept.sound;
  fits = λ q e is. kept.fits q e (sym (at q) ∙ is);
  room = omega (arith, kept.room, ap (λ es. sum_by slots (values_of es)) same);
}
  where
    at : (q : Name) → entry_of next q ≡ entry_of entries q
    at q = ap (lookup (tree.is_at (name_cmp q))) same

-- whether there was memory for it or not
pub known : {T E : Type 0} (result : Result T E) (name : Name) (entry : Entry) (entries next : Entries)
    (events : List Event) (capacity : ℕ) → IsBlank entry → entry_of entries name ≡ None
    → OnOk result (tree.Updates name_cmp entries next name (Some entry))
    → OnOk result (next.entries ≡ tree.insert_entry name_cmp entries.entries name entry) → OnErr result (next.entries ≡ entries.entries)
    → tree.IsOrdered name_cmp entries → IsKept entries events capacity → IsKept next events capacity
known (Ok x) name entry entries next events capacity blank none adds inserted unchanged ordered kept = known_kept name
    entry entries next adds inserted ordered events capacity blank none kept
known (Err e) name entry entries next events capacity blank none adds inserted unchanged ordered kept = kept_same
    entries next events capacity unchanged kept

no_entry : (entries : Entries) → entries.entries ≡ [] → (q : Name) → entry_of entries q ≡ None
no_entry entries none q = ap (lookup (tree.is_at (name_cmp q))) none

pub none_fail_at_first : (entries : Entries) → entries.entries ≡ [] → NoneFail entries
none_fail_at_first entries none q = ap failing_of (no_entry entries none q)

-- a disk on which nothing stands yet
pub kept_at_first : (entries : Entries) (events : List Event) (capacity : ℕ) → entries.entries ≡ [] → events ≡ []
    → IsKept entries events capacity
kept_at_first entries events capacity no_entries no_events =
    subst (λ evs. IsKept entries evs capacity) (sym no_events) (record {
      files = λ name. record {
        standing = ap standing_in (at name) ∙ sym (ap (option_map plain) (get-empty name_cmp name));
        removed = ap removed_in (at name) ∙ sym (ap (option_map plain) (get-empty name_cmp name));
      };
      sound = All-nil IsSound;
      fits = λ name entry is. absurd (none_some entry (sym (at name) ∙ is));
      room = omega (arith, ap (λ es. sum_by slots (values_of es)) no_entries);
    })
  where
    at : (q : Name) → entry_of entries q ≡ None
    at = no_entry entries no_entries
