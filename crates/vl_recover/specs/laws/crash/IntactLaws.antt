-- Images that open like an intact one are intact; and what a crash leaves behind an opening opens like what was read.
use Rattle.std.specs.Prelude.{◌≡◌, ◌⊎◌, ◌≤◌, ℕ, ◌==◌, ◌||◌, zero, suc, if◌then◌else◌, Bool, true, false, bytes_eq}
use Rattle.std.specs.Prelude.{List, [], ◌∷◌, ◌++◌, take, Option, None, Some, Ok, refl}
use Rattle.std.specs.FinMap.{get}
use Rattle.std.specs.List.{AllByRecursion, AllZip}
use Rattle.std.proofs.Common.{sym, ap, subst, ◌∙◌, arith, inl, inr}
use Rattle.std.proofs.lemmas.Bool.{true≢false}
use Rattle.std.proofs.lemmas.Bool.Decides.{nat_tests}
use Rattle.std.proofs.lemmas.Slice.Eq.{bytes_eq-Decides}
use Rattle.vl_disk.specs.Crash.{Image, MayLeave}
use Rattle.vl_disk.specs.DiskState.{DiskState}
use Rattle.vl_disk.specs.declared.name.Name.{Name}
use Rattle.vl_disk.specs.declared.name.Name.TheVariants.{Log, Table}
use Rattle.vl_engine_model.specs.declared.segment.Segment.{Segment}
use Rattle.vl_manifest.specs.Levels.{is_in}
use Rattle.vl_manifest.specs.declared.state.ManifestState.{ManifestState}
use Rattle.vl_model.specs.Formats.{log_format}
use Rattle.vl_model.specs.Winners.{Logs}
use Rattle.vl_model.specs.declared.entry.Entry.{Entry}
use Rattle.vl_model.specs.declared.pointer.Pointer.{Pointer}
use Rattle.vl_recover.specs.crash.Alike.{OpensAsOf, OpensLike, SameNeeded, ShowsAs}
use Rattle.vl_recover.specs.crash.Held.{DurableAs, HoldsStore, opening_held, view_of}
use Rattle.vl_recover.specs.laws.opening.HeldLaws.{held_opens, left_settled}
use Rattle.vl_recover.specs.laws.opening.OpeningLaws.{opened, single_opening}
use Rattle.vl_recover.specs.laws.repairing.RecoveredLaws.{found_goes_on, found_shows}
use Rattle.vl_recover.specs.laws.repairing.StageLaws.{ok_same}
use Rattle.vl_recover.specs.opening.Answers.{Finds, logs_then}
use Rattle.vl_recover.specs.opening.Intact.{AllResolve, IsIntact, IsTableOf, LeavesIntact, all_tables, entries_of}
use Rattle.vl_recover.specs.opening.Intact.{format_said, image_logs, stored_by, stored_in}
use Rattle.vl_recover.specs.opening.Opening.{FoundTable, IsAmong, IsNamed, NamedLevel, NamedLevels, Opening, Opens}
use Rattle.vl_recover.specs.opening.Opening.{Refusal, key_before, led_into}
use Rattle.vl_recover.specs.opening.Plans.{new_state}
use Rattle.vl_seglog.specs.Frames.{log_header}
use Rattle.vl_seglog.specs.LogReading.{HasHeader, IsLogFormat}
use Rattle.vl_seglog.specs.Stored.{stored_at}
use Rattle.vl_seglog.specs.laws.LogReadingLaws.{one_header_format}

-- ---- the same logs

pub in_among : (n : ℕ) (ns : List ℕ) → is_in n ns ≡ true → IsAmong ns n
in_among n [] is = absurd cc
in_among n (m ∷ ms) is = by (m == n) (is_in n ms) refl is (in_among n ms)
  where
    by : (here later : Bool) → (m == n) ≡ here → (here || later) ≡ true → (later ≡ true → IsAmong ms n) → (m ≡ n) ⊎ IsAmong ms n
    by true later at is rest = inl (grind (arith, nat_tests, at))
    by false later at is rest = inr (rest is)

pub among_in : (n : ℕ) (ns : List ℕ) → IsAmong ns n → is_in n ns ≡ true
among_in n [] among = absurd among
among_in n (m ∷ ms) among = by (m == n) refl among (among_in n ms)
  where
    by : (here : Bool) → (m == n) ≡ here → (m ≡ n) ⊎ IsAmong ms n → (IsAmong ms n → is_in n ms ≡ true) → (here || is_in n ms) ≡ true
    by true at is rest = refl
    by false at (inl same) rest = absurd (grind (arith, nat_tests, at, same))
    by false at (inr later) rest = rest later

-- The format that a log's header says is found.
pub format_found : (most number format : ℕ) (bytes : List ℕ) → IsLogFormat format → format ≤ most → most ≤ log_format
    → HasHeader format number bytes → format_said most number bytes ≡ Some format
format_found zero number format bytes is within readable has = absurd (let least = is.least in omega (arith, least, within))
format_found (suc most) number format bytes is within readable has =
    let decides = bytes_eq-Decides (take 16 bytes) (log_header (suc most) number) in
    by (bytes_eq (take 16 bytes) (log_header (suc most) number)) decides.0 decides.1
    (λ under. format_found most number format bytes is under (omega (arith, readable)) has)
  where
    by : (b : Bool) → (b ≡ true → HasHeader (suc most) number bytes) → (HasHeader (suc most) number bytes → b ≡ true)
        → (format ≤ most → format_said most number bytes ≡ Some format)
        → (if b then Some (suc most) else format_said most number bytes) ≡ Some format
    by true says back lower =
        ap Some (one_header_format number bytes (suc most) format (record { least = omega arith; greatest = readable }) is
        (says refl) has)
    by false says back lower =
        let other : format ≡ suc most → ⊥ =
        λ same. true≢false (sym (back (subst (λ (f : ℕ). HasHeader f number bytes) same has))) in
        lower (omega (arith, within, other))

-- In a log that stands with this header a pointer leads where it leads in its bytes.
pub stored_found : (image : Image) (logs : List ℕ) (pointer : Pointer) (key : List ℕ) (format : ℕ) (bytes : List ℕ)
    → IsAmong logs pointer.segment → get image (Log pointer.segment) ≡ Some bytes → IsLogFormat format
    → HasHeader format pointer.segment bytes → image_logs image logs pointer key ≡ stored_at format bytes pointer key
stored_found image logs pointer key format bytes among stands is has =
    ap (λ (b : Bool). if b then stored_in (get image (Log pointer.segment)) pointer key else None)
    (among_in pointer.segment logs among)
    ∙ ap (λ (o : Option (List ℕ)). stored_in o pointer key) stands
    ∙ ap (λ (f : Option ℕ). stored_by f bytes pointer key)
    (format_found log_format pointer.segment format bytes is is.greatest (omega arith) has)

-- What stands at pointers is the same where these logs have the same bytes.
pub logs_same : (image other : Image) (logs : List ℕ) → ((n : ℕ) → IsAmong logs n → get image (Log n) ≡ get other (Log n))
    → image_logs image logs ≡ image_logs other logs
logs_same image other logs same = λ i pointer key. at pointer key i
  where
    at : (pointer : Pointer) (key : List ℕ) → image_logs image logs pointer key ≡ image_logs other logs pointer key
    at pointer key = by (is_in pointer.segment logs) refl
      where
        by : (b : Bool) → is_in pointer.segment logs ≡ b
            → (if b then stored_in (get image (Log pointer.segment)) pointer key else None)
            ≡ (if b then stored_in (get other (Log pointer.segment)) pointer key else None)
        by true is = ap (λ (o : Option (List ℕ)). stored_in o pointer key)
            (same pointer.segment (in_among pointer.segment logs is))
        by false is = refl

-- ---- the same tables

-- it is one that the levels name
abbrev IsNamedIn : List (List ℕ) → FoundTable → Type 0
IsNamedIn levels t = IsNamed levels t.number

all_wider : (P Q : FoundTable → Type 0) → ((t : FoundTable) → P t → Q t) → (ts : List FoundTable) → AllByRecursion P ts
    → AllByRecursion Q ts
all_wider P Q more [] all = tt
all_wider P Q more (t ∷ ts) all = (more t all.0, all_wider P Q more ts all.1)

all_joined : (P : FoundTable → Type 0) (ts us : List FoundTable) → AllByRecursion P ts → AllByRecursion P us
    → AllByRecursion P (ts ++ us)
all_joined P [] us some others = others
all_joined P (t ∷ ts) us some others = (some.0, all_joined P ts us some.1 others)

module _ (image : Image) where
  level_named : (deeper : Bool) (before : Option (List ℕ)) (ns : List ℕ) (ts : List FoundTable)
      → NamedLevel deeper image before ns (Ok ts) → AllByRecursion (λ (t : FoundTable). IsAmong ns t.number) ts
  level_named deeper before [] ts is =
      subst (AllByRecursion (λ (t : FoundTable). IsAmong [] t.number)) (sym (ok_same {E = Refusal} ts [] is)) tt
  level_named deeper before (n ∷ ns) ts (t, (stands, above), (others, rest, e)) =
      subst (AllByRecursion (λ (u : FoundTable). IsAmong (n ∷ ns) u.number)) (sym (ok_same {E = Refusal} ts (t ∷ others) e)) (
        inl (sym stands.numbered),
        all_wider (λ (u : FoundTable). IsAmong ns u.number) (λ (u : FoundTable). IsAmong (n ∷ ns) u.number) (λ u in_it. inr in_it) others
            (level_named deeper (key_before deeper t) ns others rest),
      )

  -- each table that is found is named
  levels_named : (deeper : Bool) (levels : List (List ℕ)) (found : List (List FoundTable))
      → NamedLevels deeper image levels (Ok found) → AllByRecursion (IsNamedIn levels) (all_tables found)
  levels_named deeper [] found is =
      subst (λ (l : List (List FoundTable)). AllByRecursion (IsNamedIn []) (all_tables l)) (sym (ok_same {E = Refusal} found [] is)) tt
  levels_named deeper (ns ∷ levels) found (ts, named, (others, rest, e)) =
      subst (λ (l : List (List FoundTable)). AllByRecursion (IsNamedIn (ns ∷ levels)) (all_tables l))
      (sym (ok_same {E = Refusal} found (ts ∷ others) e))
      (all_joined (IsNamedIn (ns ∷ levels)) ts (all_tables others)
      (all_wider (λ (t : FoundTable). IsAmong ns t.number) (IsNamedIn (ns ∷ levels)) (λ t in_it. inl in_it) ts
      (level_named deeper None ns ts named))
      (all_wider (IsNamedIn levels) (IsNamedIn (ns ∷ levels)) (λ t in_it. inr in_it) (all_tables others)
      (levels_named true levels others rest)))

tables_stay : (image other : Image) (levels : List (List ℕ)) → ((n : ℕ) → IsNamed levels n → get image (Table n) ≡ get other (Table n))
    → (ts : List FoundTable) (tables : List (List Entry)) → AllByRecursion (IsNamedIn levels) ts
    → AllZip (IsTableOf other) ts tables → AllZip (IsTableOf image) ts tables
tables_stay image other levels same [] [] named all = tt
tables_stay image other levels same [] (es ∷ tables) named all = absurd all
tables_stay image other levels same (t ∷ ts) [] named all = absurd all
tables_stay image other levels same (t ∷ ts) (es ∷ tables) named all = (
  record {
    format = all.0.format;
    table = all.0.table;
    stands = same t.number named.0 ∙ all.0.stands;
    says = all.0.says;
  },
  tables_stay image other levels same ts tables named.1 all.1,
)

-- ---- an image that opens like an intact one

-- the entries of an opening that shows as another resolve
resolve_alike : (p o : Opening) (logs : Logs) (tables : List (List Entry)) → ShowsAs p o
    → AllResolve o.number o.state.keep o.state.since logs (entries_of o.logs tables)
    → AllResolve p.number p.state.keep p.state.since logs (entries_of p.logs tables)
resolve_alike p o logs tables alike is =
    subst (λ (n : ℕ). AllResolve n p.state.keep p.state.since logs (entries_of p.logs tables)) (sym alike.number)
    (subst (λ (k : ℕ). AllResolve o.number k p.state.since logs (entries_of p.logs tables)) (sym alike.state.keep)
    (subst (λ (n : ℕ). AllResolve o.number o.state.keep n logs (entries_of p.logs tables)) (sym alike.state.since)
    (subst (λ (ss : List Segment). AllResolve o.number o.state.keep o.state.since logs (entries_of ss tables)) (sym alike.logs) is)))

-- An image that opens like an intact one is intact.
pub intact_like : (image other : Image) → OpensLike image other → IsIntact other → IsIntact image
intact_like image other like intact = by (like intact.opening intact.opens)
  where
    o : Opening
    o = intact.opening

    by : ((p : Opening) × Opens image (Ok p) × ShowsAs p o × SameNeeded image other o) → IsIntact image
    by (p, opens, alike, needed) = record {
      opening = p;
      opens = opens;
      tables = intact.tables;
      tables_are = subst (λ (l : List (List FoundTable)). AllZip (IsTableOf image) (all_tables l) intact.tables) (sym alike.levels)
          (tables_stay image other o.state.levels needed.tables (all_tables o.levels) intact.tables
          (levels_named other false o.state.levels o.levels (opened other o intact.opens).levels) intact.tables_are);
      whole = λ n among.
          (let was = subst (λ (l : List (List FoundTable)). IsAmong (led_into l) n) alike.levels among in
          let log = intact.whole n was in
          record {
            bytes = log.bytes;
            stands = needed.logs n was
                ∙ log.stands;
            reading = log.reading;
            reads = log.reads;
            whole = log.whole;
          });
      resolve = resolve_alike p o (image_logs image (led_into p.levels)) intact.tables alike
          (subst (λ (logs : Logs). AllResolve o.number o.state.keep o.state.since logs (entries_of o.logs intact.tables))
          (sym logs_are) intact.resolve);
    }
      where
        logs_are : image_logs image (led_into p.levels) ≡ image_logs other (led_into o.levels)
        logs_are = ap (λ (l : List (List FoundTable)). image_logs image (led_into l)) alike.levels
            ∙ logs_same image other (led_into o.levels) needed.logs

-- So it is with whatever a crash leaves.
pub leaves_intact : (old now : DiskState) → LeavesIntact old → OpensAsOf old now → LeavesIntact now
leaves_intact old now all as_of image left =
    let (before, left_before, like) = as_of image left in
    intact_like image before like (all before left_before)

-- ---- behind an opening

-- Whatever a crash leaves of the store that an opening leaves opens like what was read.
pub left_like : {read : Image} (found : Finds read) (now : DiskState)
    → HoldsStore (new_state found.greatest found.opening.state) (view_of found) (logs_then found) now
    → (image : Image) → MayLeave now image → OpensLike image read
left_like {read} found now holds image may o opens =
    let same : found.opening ≡ o =
    ok_same {E = Refusal} found.opening o (single_opening read (Ok found.opening) (Ok o) found.opens opens) in (
      p,
      held_opens state (view_of found) (logs_then found) now holds found.opening.number (found_goes_on found) image may,
      subst (ShowsAs p) same (found_shows found),
      subst (SameNeeded image read) same (record {
        tables = λ n named. as_read (Table n) (holds.needs.tables n named);
        logs = λ n among. as_read (Log n) (holds.needs.logs n among);
      }),
    )
  where
    state : ManifestState
    state = new_state found.greatest found.opening.state

    p : Opening
    p = opening_held state (view_of found) (logs_then found) found.opening.number

    as_read : (name : Name) → DurableAs read now name → get image name ≡ get read name
    as_read name (bytes, there, stands) = left_settled now image name bytes stands may ∙ sym there

-- So it is intact where that is.
pub left_intact : {read : Image} (found : Finds read) (now : DiskState)
    → HoldsStore (new_state found.greatest found.opening.state) (view_of found) (logs_then found) now
    → IsIntact read → LeavesIntact now
left_intact {read} found now holds intact image left =
    intact_like image read (left_like found now holds image left.left) intact
