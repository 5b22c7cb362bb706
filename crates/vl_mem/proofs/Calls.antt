-- What the calls of a disk in memory do to what it tells.
use Rattle.std.proofs.Common.{◌≡◌, ◌⊎◌, inl, inr, ⊎_elim, ℕ, ◌+◌, ◌≤◌, Bool, true, false, List, [], ◌∷◌, ◌++◌, length}
use Rattle.std.proofs.Common.{Option, None, Some, Ok, Err, refl, sym, ◌∙◌, ap, subst, arith, length-append, IsSome}
use Rattle.std.proofs.Common.{IsTrue, unwrap_or}
use Rattle.std.proofs.lemmas.List.{take_all, take-append-le}
use Rattle.std.specs.Option.{option_map}
use Rattle.std.specs.FinMap.{get}
use Rattle.vl_disk.specs.declared.name.Name.{Name}
use Rattle.vl_disk.specs.declared.watched.Watched.{Ghosts}
use Rattle.vl_disk.specs.DiskState.{File, DiskState, IsLawful, empty_disk, new_file, synced_file, lengthened}
use Rattle.vl_disk.specs.DiskState.{shortened, file_at, created, appended, synced, cut_to, without}
use Rattle.vl_disk.specs.Calls.{ChangingCall, Creates, Appends, Syncs, Cuts, Removes}
use Rattle.vl_disk.specs.Crash.{WhileCreating, WhileAppending, WhileSyncing, WhileCutting, WhileRemoving}
use Rattle.vl_disk.specs.Disk.{Stands, IsInside, IsChangedBy}
use Rattle.vl_disk.specs.FaultPlan as listed
use Rattle.vl_disk.specs.Faults.{HasCause}
use Rattle.vl_disk.specs.laws.Lawful.{synced_again}
use Rattle.vl_disk.specs.Lending.{Adopts, IsJustMade, Lends, WhileAdopting, adopted}
use Rattle.vl_disk.specs.Name.{IsNumbered}
use Rattle.vl_disk.specs.Moments.{Passes, While, past_of}
use Rattle.vl_disk.specs.Spare.{SameSpare, UsesAdopt, UsesAppend, UsesChange, UsesLend}
use Rattle.vl_disk.specs.laws.Standing.{changed_stands, created_stands, removed_free}
use Rattle.vl_mem.specs.contracts.mem_disk.MemDiskWatched.TheImpl as memory
use Rattle.vl_mem.specs.declared.entry.Entry.{Entry}
use Rattle.vl_mem.specs.declared.event.Event.{Event}
use Rattle.vl_mem.specs.declared.mem_disk.MemDisk.{MemDisk}
use Rattle.vl_mem.specs.ChangePlan.{FollowsPlan}
use Rattle.vl_mem.specs.Entry.{Entries, HasFiles, entry_of, file_of, plain, standing_in}
use Rattle.vl_mem.specs.Event.{after_event, replayed-push, state_after, told_lawful, WasSince}
use Rattle.vl_mem.specs.MemDisk.{state_of, told_by, room_of, failing_at, Goes, KeepsOtherWriters, KeepsWriters, in_all}
use Rattle.vl_mem.specs.FailsPast.{FailsPast, changed_past, read_past, same_past}
use Rattle.vl_mem.specs.Steady.{GivesSteady, gave_steady, keeps_steady}
use Rattle.vl_mem.proofs.Steps.{stood}

abbrev watched : Ghosts MemDisk
watched = memory.ghosts

pub some_state : (a b : DiskState) → Some a ≡ Some b → a ≡ b
some_state a b e = cc

false_true : false ≡ true → ⊥
false_true e = cc

-- ---- time

le_or_last : (k n : ℕ) → k ≤ n + 1 → (k ≤ n) ⊎ (k ≡ n + 1)
le_or_last k n le = grind arith

-- the call left one event, and fails when it was to
passes_push : (old new : MemDisk) (event : Event) (P : DiskState → Type 0) → new.events.items ≡ old.events.items ++ event ∷ []
    → ((now : DiskState) → now ≡ after_event event (state_of old) → P now)
    → ((stop : Option ℕ) → FailsPast old stop → FailsPast new stop) → (GivesSteady old → GivesSteady new)
    → Passes (past_of watched old) (past_of watched new) P
passes_push old new event P pushed there planned steady = record {
  later = omega (arith, longer);
  nothing_else = λ t now le left. let was = subst (λ es. WasSince es t now) pushed left in ⊎_elim
      (λ (within : was.0 ≤ length events). inl
      (was.0, was.1, within, was.3 ∙ ap state_after (take-append-le was.0 events (event ∷ []) within)))
      (λ (last : was.0 ≡ length events + 1). inr
      (there now (was.3 ∙ ap state_after
      (take_all was.0 (events ++ event ∷ []) (omega (arith, length-append events (event ∷ []), last)))
      ∙ replayed-push events event empty_disk)))
      (le_or_last was.0 (length events) (omega (arith, length-append events (event ∷ []), was.2)));
  keeps = λ t now le left. subst (λ es. WasSince es t now) (sym pushed) (
    left.0,
    left.1,
    omega (arith, length-append events (event ∷ []), left.2),
    left.3
        ∙ sym (ap state_after (take-append-le left.0 events (event ∷ []) left.2)),
  );
  as_planned = planned;
  steady = steady;
}
  where
    events : List Event
    events = old.events.items

    longer : length new.events.items ≡ length events + 1
    longer = ap length pushed ∙ length-append events (event ∷ [])

-- and where it left none
pub passes_still : (old new : MemDisk) (P : DiskState → Type 0) → new.events.items ≡ old.events.items
    → ((stop : Option ℕ) → FailsPast old stop → FailsPast new stop) → (GivesSteady old → GivesSteady new)
    → Passes (past_of watched old) (past_of watched new) P
passes_still old new P same planned steady = record {
  later = omega (arith, ap length same);
  nothing_else = λ t now le left. inl (subst (λ es. WasSince es t now) same left);
  keeps = λ t now le left. subst (λ es. WasSince es t now) (sym same) left;
  as_planned = planned;
  steady = steady;
}

-- ---- counts

-- the call was counted, and failed or not
pub record Counts (old mid : MemDisk) (failed : Bool) : Type 0 where
  pub events : mid.events.items ≡ old.events.items
  pub reads : mid.reads ≡ old.reads
  pub follows : FollowsPlan old.changes mid.changes (IsTrue failed)
  pub cause : HasCause old.changes.listed.faults mid.changes.listed.faults (IsTrue failed)

pub counted : (old mid : MemDisk) (fails failed : Bool) → fails ≡ failed → mid.events.items ≡ old.events.items → mid.reads ≡ old.reads
    → FollowsPlan old.changes mid.changes (IsTrue fails) → HasCause old.changes.listed.faults mid.changes.listed.faults
    (IsTrue fails) → Counts old mid failed
counted old mid fails failed is events reads follows cause = subst (Counts old mid) is
    (record { events = events; reads = reads; follows = follows; cause = cause })

cause_of : (a b rest : ℕ) (failed : Bool) → HasCause a b (IsTrue failed) → HasCause (in_all a rest) (in_all b rest) (IsTrue failed)
cause_of a b rest failed cause = record {
  later = omega (arith, cause.later);
  rose = λ fails. record {
    later = omega (arith, cause.later);
    more = omega (arith, (cause.rose fails).more, cause.later);
    counts = omega arith;
  };
  steady = λ passes. ap (λ n. in_all n rest) (cause.steady passes);
}

module _ (old mid new : MemDisk) (failed : Bool) (counts : Counts old mid failed) (keeps : KeepsWriters old new) where
  abbrev now : DiskState
  now = state_of old

  module _ (change : DiskState → DiskState) (goes : Goes mid new change) where
    pushed : new.events.items ≡ old.events.items ++ goes.event ∷ []
    pushed = goes.events ∙ ap (λ es. es ++ goes.event ∷ []) counts.events

    turns : IsChangedBy change (told_by old) (told_by new)
    turns = ap (λ es. Some (state_after es)) pushed ∙ ap Some (replayed-push old.events.items goes.event empty_disk ∙ goes.does now)

    as_call : (during : DiskState → DiskState → Type 0) → ((next : DiskState) → next ≡ change now → during now next)
        → ChangingCall watched old new during (IsTrue failed)
    as_call during meanwhile = record {
      calls = ap (λ p. p.listed.calls) goes.changes ∙ counts.follows.calls;
      time = passes_push old new goes.event (While (told_by old) during) pushed
          (λ next is disk told. subst (λ d. during d next) (some_state now disk told) (meanwhile next (is ∙ goes.does now)))
          (λ stop past. same_past mid new stop
          (changed_past old mid stop past (IsTrue failed) counts.follows counts.reads) goes.changes goes.reads)
          (keeps_steady old new (ap (λ p. p.failing) (goes.reads ∙ counts.reads)) keeps);
      cause = subst (λ n. HasCause (in_all old.changes.listed.faults old.reads.faults) n (IsTrue failed))
          (sym (ap (λ p. in_all p.listed.faults new.reads.faults) goes.changes
          ∙ ap (λ p. in_all mid.changes.listed.faults p.faults) (goes.reads ∙ counts.reads)))
          (cause_of old.changes.listed.faults mid.changes.listed.faults old.reads.faults failed counts.cause);
    }

module _ (name : Name) (old mid new : MemDisk) where
  pub creates : {X E : Type 0} (x : X) → Counts old mid false → KeepsWriters old new → Goes mid new (created name)
      → UsesChange name (room_of old) (room_of new) → Creates {E = E} watched name old new (Ok x)
  creates x counts keeps goes spare = record {
    created = turns old mid new false counts keeps (created name) goes;
    stands = created_stands name (told_by old) (told_by new) (turns old mid new false counts keeps (created name) goes);
    failed = tt;
    clean = λ _. tt;
    as_call = as_call old mid new false counts keeps (created name) goes (WhileCreating name) (λ next is. inr is);
    spare = spare;
  }

  pub removes : {X E : Type 0} (x : X) → Counts old mid false → KeepsWriters old new → Goes mid new (without name)
      → SameSpare (room_of old) (room_of new) → Removes {E = E} watched name old new (Ok x)
  removes x counts keeps goes spare = record {
    removed = turns old mid new false counts keeps (without name) goes;
    free = removed_free name (told_by old) (told_by new) (turns old mid new false counts keeps (without name) goes);
    failed = tt;
    clean = λ _. tt;
    as_call = as_call old mid new false counts keeps (without name) goes (WhileRemoving name) (λ next is. inr is);
    spare = spare;
  }

  module _ (stands : IsSome (get (state_of old).standing name)) where
    told_stands : (disk : DiskState) → told_by old ≡ Some disk → Stands name disk
    told_stands disk is = subst (Stands name) (some_state (state_of old) disk is) stands

    pub syncs : {X E : Type 0} (x : X) → Counts old mid false → KeepsWriters old new → Goes mid new (synced name)
        → SameSpare (room_of old) (room_of new) → Syncs {E = E} watched name old new (Ok x)
    syncs x counts keeps goes spare = record {
      synced = turns old mid new false counts keeps (synced name) goes;
      failed = tt;
      stands = changed_stands name synced_file (told_by old) (told_by new) (turns old mid new false counts keeps (synced name) goes) told_stands;
      as_call = as_call old mid new false counts keeps (synced name) goes (WhileSyncing name) (λ next is. inr is);
      spare = spare;
    }

    module _ (piece : List ℕ) (failed : Bool) (taken : ℕ) (counts : Counts old mid failed) (keeps : KeepsWriters old new)
        (goes : Goes mid new (appended name piece taken)) (within : taken ≤ length piece) where
      hands : IsChangedBy (appended name piece taken) (told_by old) (told_by new)
      hands = turns old mid new failed counts keeps (appended name piece taken) goes

      still_stands : (disk : DiskState) → told_by new ≡ Some disk → Stands name disk
      still_stands = changed_stands name (lengthened piece taken) (told_by old) (told_by new) hands told_stands

      appending : ChangingCall watched old new (WhileAppending name piece) (IsTrue failed)
      appending = as_call old mid new failed counts keeps (appended name piece taken) goes (WhileAppending name piece)
          (λ next is. inr (taken, within, is))

    pub appends : {X E : Type 0} (x : X) (piece : List ℕ) (taken : ℕ) → taken ≡ length piece → Counts old mid false → KeepsWriters old new
        → Goes mid new (appended name piece taken) → UsesAppend name (room_of old) (room_of new)
        → Appends {E = E} watched name piece old new (Ok x)
    appends x piece taken all counts keeps goes spare = record {
      appended = subst (λ n. IsChangedBy (appended name piece n) (told_by old) (told_by new)) all
          (hands piece false taken counts keeps goes (omega (arith, all)));
      failed = tt;
      clean = λ _. tt;
      stands = still_stands piece false taken counts keeps goes (omega (arith, all));
      as_call = appending piece false taken counts keeps goes (omega (arith, all));
      spare = spare;
    }

    pub fails_to_append : {X E : Type 0} (e : E) (piece : List ℕ) → Counts old mid true → KeepsWriters old new
        → Goes mid new (appended name piece 0) → UsesAppend name (room_of old) (room_of new)
        → Appends {T = X} watched name piece old new (Err e)
    fails_to_append e piece counts keeps goes spare = record {
      appended = tt;
      failed = (0, omega arith, hands piece true 0 counts keeps goes (omega arith));
      clean = λ _. hands piece true 0 counts keeps goes (omega arith);
      stands = still_stands piece true 0 counts keeps goes (omega arith);
      as_call = appending piece true 0 counts keeps goes (omega arith);
      spare = spare;
    }

    module _ (len left : ℕ) (failed : Bool) (counts : Counts old mid failed) (keeps : KeepsWriters old new)
        (goes : Goes mid new (cut_to name len left)) (short : len ≤ left) (inside : IsInside name left (state_of old)) where
      shortens : IsChangedBy (cut_to name len left) (told_by old) (told_by new)
      shortens = turns old mid new failed counts keeps (cut_to name len left) goes

      stands_cut : (disk : DiskState) → told_by new ≡ Some disk → Stands name disk
      stands_cut = changed_stands name (shortened len left) (told_by old) (told_by new) shortens told_stands

      cutting : ChangingCall watched old new (WhileCutting name len) (IsTrue failed)
      cutting = as_call old mid new failed counts keeps (cut_to name len left) goes (WhileCutting name len)
          (λ next is. inr (left, short, inside, is))

    pub cuts : {X E : Type 0} (x : X) (len : ℕ) → Counts old mid false → KeepsWriters old new → Goes mid new (cut_to name len len)
        → IsInside name len (state_of old) → UsesChange name (room_of old) (room_of new) → Cuts {E = E} watched name len old new (Ok x)
    cuts x len counts keeps goes inside spare = record {
      cut = shortens len len false counts keeps goes (omega arith) inside;
      failed = tt;
      clean = λ _. tt;
      stands = stands_cut len len false counts keeps goes (omega arith) inside;
      as_call = cutting len len false counts keeps goes (omega arith) inside;
      spare = spare;
    }

    pub fails_to_cut : {X E : Type 0} (e : E) (len whole : ℕ) → Counts old mid true → KeepsWriters old new
        → Goes mid new (cut_to name len whole) → IsInside name len (state_of old) → whole ≡ length (file_at (state_of old) name).bytes
        → UsesChange name (room_of old) (room_of new) → Cuts {T = X} watched name len old new (Err e)
    fails_to_cut e len whole counts keeps goes within is spare =
        let short : len ≤ whole = omega (arith, within, is) in
        let inside : IsInside name whole (state_of old) = omega (arith, is) in
        let turned = shortens len whole true counts keeps goes short inside in
        record {
          cut = tt;
          failed = (whole, short, (λ disk told. subst (IsInside name whole) (some_state (state_of old) disk told) inside), turned);
          clean = λ _ disk told. subst (λ n. IsChangedBy (cut_to name len n) (told_by old) (told_by new))
              (is ∙ ap (λ d. length (file_at d name).bytes) (some_state (state_of old) disk told)) turned;
          stands = stands_cut len whole true counts keeps goes short inside;
          as_call = cutting len whole true counts keeps goes short inside;
          spare = spare;
        }

-- the entry of a file that stands has its bytes, and whether it is wholly synced
pub shown : (name : Name) (entries : Entries) (disk : DiskState) (entry : Entry) → HasFiles entries disk
    → IsSome (get disk.standing name) → entry_of entries name ≡ Some entry → file_of entry ≡ plain (file_at disk name)
shown name entries disk entry has stands found =
    of (get disk.standing name) stands (sym (ap (λ e. standing_in e) found) ∙ (has name).standing)
  where
    of : (file : Option File) → IsSome file → standing_in (Some entry) ≡ option_map plain file
        → file_of entry ≡ plain (unwrap_or file new_file)
    of None is same = absurd (false_true is)
    of (Some file) is same = (stood entry.presence (file_of entry) file same).1

-- a sync of a file that is wholly synced leaves no event
pub syncs_again : {X E : Type 0} (name : Name) (old new : MemDisk) (entry : Entry) (x : X)
    → IsSome (get (state_of old).standing name) → Counts old new false → KeepsWriters old new → entry_of old.entries name ≡ Some entry → entry.wholly_synced ≡ true
    → SameSpare (room_of old) (room_of new) → Syncs {E = E} watched name old new (Ok x)
syncs_again name old new entry x stands counts keeps found whole spare = record {
  synced = ap (λ es. Some (state_after es)) counts.events
      ∙ ap Some (sym (synced_again name (state_of old) (file_at (state_of old) name) lawful (there (get (state_of old).standing name) stands)
      (sym (ap (λ (f : File). f.wholly_synced) (shown name old.entries (state_of old) entry old.kept.files stands found)) ∙ whole)));
  failed = tt;
  stands = λ disk is. subst (Stands name)
      (some_state (state_of old) disk (sym (ap (λ es. Some (state_after es)) counts.events) ∙ is)) stands;
  as_call = record {
    calls = counts.follows.calls;
    time = passes_still old new (While (told_by old) (WhileSyncing name)) counts.events
        (λ stop past. changed_past old new stop past (IsTrue false) counts.follows counts.reads)
        (keeps_steady old new (ap (λ p. p.failing) counts.reads) keeps);
    cause = subst (λ n. HasCause (in_all old.changes.listed.faults old.reads.faults) n (IsTrue false))
        (ap (λ p. in_all new.changes.listed.faults p.faults) (sym counts.reads))
        (cause_of old.changes.listed.faults new.changes.listed.faults old.reads.faults false counts.cause);
  };
  spare = spare;
}
  where
    lawful : IsLawful (state_of old)
    lawful = told_lawful old.events.items old.kept.sound (state_of old) refl

    there : (file : Option File) → IsSome file → file ≡ Some (unwrap_or file new_file)
    there None is = absurd (false_true is)
    there (Some file) is = refl

-- ---- files that are lent

cause_beside : (a b rest : ℕ) (failed : Bool) → HasCause a b (IsTrue failed) → HasCause (in_all rest a) (in_all rest b) (IsTrue failed)
cause_beside a b rest failed cause = record {
  later = omega (arith, cause.later);
  rose = λ fails. record {
    later = omega (arith, cause.later);
    more = omega (arith, (cause.rose fails).more, cause.later);
    counts = omega arith;
  };
  steady = λ passes. ap (λ n. in_all rest n) (cause.steady passes);
}

-- what one event made of what is told, and meanwhile
module _ (old new : MemDisk) (event : Event) (change : DiskState → DiskState)
    (does : (disk : DiskState) → after_event event disk ≡ change disk) (pushed : new.events.items ≡ old.events.items ++ event ∷ []) where
  told_after : IsChangedBy change (told_by old) (told_by new)
  told_after = ap (λ es. Some (state_after es)) pushed ∙ ap Some (replayed-push old.events.items event empty_disk ∙ does (state_of old))

  time_after : (during : DiskState → DiskState → Type 0) → ((disk next : DiskState) → next ≡ change disk → during disk next)
      → ((stop : Option ℕ) → FailsPast old stop → FailsPast new stop) → (GivesSteady old → GivesSteady new)
      → Passes (past_of watched old) (past_of watched new) (While (told_by old) during)
  time_after during meanwhile planned steady = passes_push old new event (While (told_by old) during) pushed
      (λ next is disk told. subst (λ d. during d next) (some_state (state_of old) disk told)
      (meanwhile (state_of old) next (is ∙ does (state_of old)))) planned steady

pub lends : (name : Name) (old mid new : MemDisk) (fails : Bool) → fails ≡ false → mid.events.items ≡ old.events.items
    → mid.changes ≡ old.changes
    → listed.Follows old.reads mid.reads (IsTrue fails) → HasCause old.reads.faults mid.reads.faults (IsTrue fails)
    → KeepsOtherWriters name old new → failing_at new name ≡ [] → Goes mid new (without name) → UsesLend name (room_of old) (room_of new) → Lends watched name old new (IsTrue false)
lends name old mid new fails is events changes follows cause keeps none goes spare =
    let pushed : new.events.items ≡ old.events.items ++ goes.event ∷ [] = goes.events ∙ ap (λ es. es ++ goes.event ∷ []) events in
    let passed : listed.Follows old.reads mid.reads (IsTrue false) = subst
    (λ b. listed.Follows old.reads mid.reads (IsTrue b)) is follows in
    let caused : HasCause old.reads.faults mid.reads.faults (IsTrue false) = subst
    (λ b. HasCause old.reads.faults mid.reads.faults (IsTrue b)) is cause in
    record {
      lent = λ _. told_after old new goes.event (without name) goes.does pushed;
      kept = λ failed. absurd (false_true failed);
      calls = ap (λ p. p.listed.calls) (goes.changes ∙ changes);
      time = time_after old new goes.event (without name) goes.does pushed (WhileRemoving name) (λ disk next is. inr is)
          (λ stop past. same_past mid new stop (read_past old mid stop past (IsTrue false) changes passed caused) goes.changes goes.reads)
          (gave_steady name old new (ap (λ p. p.failing) goes.reads ∙ passed.failing) keeps none);
      cause = subst (λ n. HasCause (in_all old.changes.listed.faults old.reads.faults) n (IsTrue false))
          (sym (ap (λ p. in_all p.listed.faults new.reads.faults) (goes.changes ∙ changes)
          ∙ ap (λ p. in_all old.changes.listed.faults p.faults) goes.reads))
          (cause_beside old.reads.faults mid.reads.faults old.changes.listed.faults false caused);
      spare = λ _. spare;
      spare_kept = λ failed. absurd (false_true failed);
    }

-- one that was lent comes back
pub adopts : (name given : Name) (file : Option File) (left : File) (old new : MemDisk) → name ≡ given
    → file ≡ Some left → KeepsWriters old new → Goes old new (adopted name left) → UsesAdopt name (room_of old) (room_of new)
    → Adopts watched given file old new
adopts name given file left old new same is keeps goes spare =
    subst (λ (n : Name). Adopts watched n file old new) same (subst (λ (f : Option File). Adopts watched name f old new) (sym is) (record {
      adopted = λ disk told f here. told_after old new goes.event (adopted name left) goes.does goes.events
          ∙ ap (λ d. Some (adopted name left d)) (some_state (state_of old) disk told)
          ∙ ap (λ g. Some (adopted name g disk)) (some_file left f here);
      untold = λ none. absurd (told_none none);
      calls = ap (λ p. p.listed.calls) goes.changes;
      time = time_after old new goes.event (adopted name left) goes.does goes.events (WhileAdopting name (Some left))
          (λ disk next turned. inr (λ f here. turned ∙ ap (λ g. adopted name g disk) (some_file left f here)))
          (λ stop past. same_past old new stop past goes.changes goes.reads)
          (keeps_steady old new (ap (λ p. p.failing) goes.reads) keeps);
      faults = ap (λ p. in_all p.listed.faults new.reads.faults) goes.changes ∙ ap (λ p. in_all old.changes.listed.faults p.faults) goes.reads;
      spare = spare;
    }))
  where
    some_file : (a b : File) → Some a ≡ Some b → a ≡ b
    some_file a b e = cc

    told_none : told_by old ≡ None → ⊥
    told_none e = cc

-- what is just made stands, and its number is one that a name may have
pub just_made_stands : (name : Name) (disk : DiskState) → IsJustMade name disk → IsSome (get disk.standing name)
just_made_stands name disk made = subst IsSome (sym made) refl

pub just_made_numbered : (name : Name) (old : MemDisk) → IsJustMade name (state_of old) → IsNumbered name
just_made_numbered name old made = (told_lawful old.events.items old.kept.sound (state_of old) refl).numbered name new_file made
