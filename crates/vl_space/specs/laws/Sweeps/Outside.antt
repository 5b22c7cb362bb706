-- No retired file is one that the layout needs, so that each may go.
use Rattle.std.specs.Prelude.{◌≡◌, ◌≢◌, ◌≤◌, ◌<◌, ◌++◌, ◌||◌, ℕ, Bool, IsSome, List, [], ◌∷◌, map, Option, None, Some}
use Rattle.std.specs.Prelude.{true, false, refl}
use Rattle.std.specs.FinMap.{get}
use Rattle.std.specs.List.{AllByRecursion, flat_map}
use Rattle.std.proofs.Common.{sym, subst, ap, ◌∙◌, arith, inl, inr, ⊎_elim}
use Rattle.std.proofs.lemmas.Bool.{cases_lt}
use Rattle.std.proofs.lemmas.Bool.Decides.{nat_tests}
use Rattle.vl_compact.specs.declared.files.Lent.{Lent}
use Rattle.vl_engine_laws.specs.Held.{Base, Holds, IsBase}
use Rattle.vl_engine_laws.specs.Represents.{file_of}
use Rattle.vl_engine_laws.specs.laws.IdleLaws.{idle_or_held}
use Rattle.vl_engine_laws.specs.laws.KeptLaws.{log_manifest, log_table, table_manifest}
use Rattle.vl_disk.specs.DiskState.{DiskState, File}
use Rattle.vl_disk.specs.declared.name.Name.{Name}
use Rattle.vl_disk.specs.declared.name.Name.TheVariants as names
use Rattle.vl_disk.specs.declared.watched.Watched.{Ghosts}
use Rattle.vl_disk.specs.declared.writer.Writer.{Ghosts as Writers}
use Rattle.vl_space.specs.laws.Sweeps.Freed.{all_then}
use Rattle.vl_space.specs.Removing.{IsWaiting, all_retired}
use Rattle.vl_space.specs.laws.SweepHolds.{IsIdleLog, IsOutside, MayGo}
use Rattle.vl_engine_model.specs.Jobs.{lent_numbers, loose}
use Rattle.vl_engine_model.specs.Rulings.Sweep.{is_same}
use Rattle.vl_engine_model.specs.Sources.{log_of, needed, pointed_logs, table_of, tables}
use Rattle.vl_engine_model.specs.Stock.{IsDrawn, IsLogOff, IsUnneeded, IsWellStocked, files_of, is_in}
use Rattle.vl_engine_model.specs.declared.file_name.FileName.{FileName}
use Rattle.vl_engine_model.specs.declared.file_name.FileName.TheVariants.{Log, Table, Manifest}
use Rattle.vl_engine_model.specs.declared.file_name.Retired.{Retired}
use Rattle.vl_engine_model.specs.declared.layout.Layout.{Layout}
use Rattle.vl_engine_model.specs.declared.segment.Segment.{Segment}
use Rattle.vl_engine_model.specs.declared.table.Table as laid
use Rattle.vl_engine_model_laws.specs.laws.Files.{or_false}
use Rattle.vl_engine_model_laws.specs.laws.Once.{off_parts}
use Rattle.vl_model.specs.History.{History}
use Rattle.vl_pins.specs.Files.{retired_of}
use Rattle.vl_pins.specs.declared.retired_file.RetiredFile.{RetiredFile}

false_true : false ≡ true → ⊥
false_true e = cc

same_file : (f : FileName) → is_same f f ≡ true
same_file (Log a) = grind (arith, nat_tests)
same_file (Table a) = grind (arith, nat_tests)
same_file (Manifest a) = grind (arith, nat_tests)

-- what isn't among some is none of them
other_table : (f : FileName) (name : Name) → file_of name ≡ f → (ts : List laid.Table) → is_in f (map table_of ts) ≡ false
    → AllByRecursion (λ (t : laid.Table). names.Table t.number ≢ name) ts
other_table f name is [] off = tt
other_table f name is (t ∷ ts) off = let both = or_false (is_same f (table_of t)) (is_in f (map table_of ts)) off in (
  λ (same : names.Table t.number ≡ name). false_true
      (sym both.0 ∙ ap (λ (g : FileName). is_same g (table_of t)) (sym is ∙ ap file_of (sym same))
      ∙ same_file (table_of t)),
  other_table f name is ts both.1,
)

or_right : (a b : Bool) → b ≡ true → (a || b) ≡ true
or_right true b is = refl
or_right false b is = is

or_left : (a b : Bool) → a ≡ true → (a || b) ≡ true
or_left true b is = refl
or_left false b is = absurd (false_true is)

-- each is among all
among : (rs : List Retired) → AllByRecursion (λ (r : Retired). is_in r.file (files_of rs) ≡ true) rs
among [] = tt
among (r ∷ rs) = (or_left (is_same r.file r.file) (is_in r.file (files_of rs)) (same_file r.file), more rs (among rs))
  where
    more : (xs : List Retired) → AllByRecursion (λ (x : Retired). is_in x.file (files_of rs) ≡ true) xs
        → AllByRecursion (λ (x : Retired). is_in x.file (files_of (r ∷ rs)) ≡ true) xs
    more [] all = tt
    more (x ∷ xs) all = (or_right (is_same x.file r.file) (is_in x.file (files_of rs)) all.0, more xs all.1)

all_both : {X : Type 0} (P Q R : X → Type 0) → ((x : X) → P x → Q x → R x) → (xs : List X) → AllByRecursion P xs → AllByRecursion Q xs
    → AllByRecursion R xs
all_both P Q R both [] p q = tt
all_both P Q R both (x ∷ xs) p q = (both x p.0 q.0, all_both P Q R both xs p.1 q.1)

all_mapped : {X Y : Type 0} (P : Y → Type 0) (f : X → Y) (xs : List X) → AllByRecursion P (map f xs)
    → AllByRecursion (λ (x : X). P (f x)) xs
all_mapped P f [] all = tt
all_mapped P f (x ∷ xs) all = (all.0, all_mapped P f xs all.1)

-- ---- the active log isn't retired

module _ (l : Layout) where
  active_in : is_in (log_of l.active) (needed l) ≡ true
  active_in = right (map table_of (tables l) ++ flat_map pointed_logs (tables l)) (map log_of (l.active ∷ l.frozen))
      (or_left (is_same (log_of l.active) (log_of l.active)) (is_in (log_of l.active) (map log_of l.frozen)) (same_file (log_of l.active)))
    where
      right : (fs gs : List FileName) → is_in (log_of l.active) gs ≡ true → is_in (log_of l.active) (fs ++ gs) ≡ true
      right [] gs is = is
      right (f ∷ fs) gs is = or_right (is_same (log_of l.active) f) (is_in (log_of l.active) (fs ++ gs)) (right fs gs is)

  abbrev pub NotActive : Retired → Type 0
  NotActive r = (name : Name) → file_of name ≡ r.file → names.Log l.active.number ≢ name

  pub not_active : AllByRecursion (IsUnneeded (needed l)) l.retired → AllByRecursion NotActive l.retired
  not_active unneeded = all_then (IsUnneeded (needed l)) NotActive
      (λ r off name is same. false_true (sym off ∙ ap (λ (f : FileName). is_in f (needed l)) (sym is ∙ ap file_of (sym same)) ∙ active_in))
      l.retired unneeded

-- ---- and nothing that the disk needs of the layout

-- the file was drawn, is among those that are retired, and no source needs it
pub record IsGone (l : Layout) (r : Retired) : Type 0 where
  pub unneeded : IsUnneeded (needed l) r
  pub among : is_in r.file (files_of l.retired) ≡ true
  pub drawn : IsDrawn l.next_log l.next_table r.file

all_gone : (l : Layout) → AllByRecursion (IsUnneeded (needed l)) l.retired
    → AllByRecursion (λ (r : Retired). IsDrawn l.next_log l.next_table r.file) l.retired → AllByRecursion (IsGone l) l.retired
all_gone l unneeded drawn =
    all_both (IsUnneeded (needed l))
    (λ (r : Retired). (is_in r.file (files_of l.retired) ≡ true) × IsDrawn l.next_log l.next_table r.file) (IsGone l)
    (λ r off there. record { unneeded = off; among = there.0; drawn = there.1 }) l.retired unneeded
    (all_both (λ (r : Retired). is_in r.file (files_of l.retired) ≡ true) (λ (r : Retired). IsDrawn l.next_log l.next_table r.file)
    (λ (r : Retired). (is_in r.file (files_of l.retired) ≡ true) × IsDrawn l.next_log l.next_table r.file)
    (λ r there drawn. (there, drawn)) l.retired (among l.retired) drawn)

behind_all : {X : Type 0} (P : X → Type 0) (xs ys : List X) → AllByRecursion P (xs ++ ys) → AllByRecursion P ys
behind_all P [] ys all = all
behind_all P (x ∷ xs) ys all = behind_all P xs ys all.1

-- it holds of those that are retired what holds with those that are lent
pub all_unneeded : (l : Layout) → IsWellStocked l → AllByRecursion (IsUnneeded (needed l)) l.retired
all_unneeded l files = behind_all (IsUnneeded (needed l)) (loose (lent_numbers l.job)) l.retired files.stocked.unneeded

all_drawn : (l : Layout) → IsWellStocked l → AllByRecursion (λ (r : Retired). IsDrawn l.next_log l.next_table r.file) l.retired
all_drawn l files = behind_all (λ (r : Retired). IsDrawn l.next_log l.next_table r.file) (loose (lent_numbers l.job)) l.retired
    files.stocked.retired_drawn

other_logs : (l : Layout) (r : Retired) (name : Name) → file_of name ≡ r.file → is_in r.file (files_of l.retired) ≡ true
    → (ss : List Segment) → AllByRecursion (IsLogOff (files_of l.retired)) ss
    → AllByRecursion (λ (s : Segment). names.Log s.number ≢ name) ss
other_logs l r name is there [] off = tt
other_logs l r name is there (s ∷ ss) off = (
  λ (same : names.Log s.number ≡ name). false_true (sym off.0 ∙ ap (λ (f : FileName). is_in f (files_of l.retired))
      (ap file_of same ∙ is) ∙ there),
  other_logs l r name is there ss off.1,
)

-- what isn't among the logs of these is none of them
unneeded_logs : (name : Name) (ss : List Segment) → is_in (file_of name) (map log_of ss) ≡ false
    → AllByRecursion (λ (s : Segment). names.Log s.number ≢ name) ss
unneeded_logs name [] off = tt
unneeded_logs name (s ∷ ss) off = let both = or_false (is_same (file_of name) (log_of s)) (is_in (file_of name) (map log_of ss)) off in (
  λ (same : names.Log s.number ≡ name). false_true
      (sym both.0 ∙ ap (λ (f : FileName). is_same f (log_of s)) (ap file_of (sym same)) ∙ same_file (log_of s)),
  unneeded_logs name ss both.1,
)

log_same : (m n : ℕ) → names.Log m ≡ names.Log n → m ≡ n
log_same m n e = cc

none_stands : (o : Option File) → IsSome o → o ≢ None
none_stands None some none = false_true some
none_stands (Some f) some none = never none
  where
    never : Some f ≡ None → ⊥
    never e = cc

module _ {D W : Type 0} (g : Ghosts D) (w : Writers W) {s : _} (disk : D) (next_table : ℕ) (b : Base) (l : Layout) (h : History)
    (base : IsBase b l h) (state : DiskState) (told : g.told disk ≡ Some state) (holds : Holds b l state)
    (files : IsWellStocked l) where
  module _ (file : RetiredFile (Lent W s)) (gone : IsGone l (retired_of file)) (waits : IsWaiting g w disk next_table file) where
    none_needs : (is_in (file_of file.name) (map table_of (tables l)) ≡ false)
        × (is_in (file_of file.name) (map log_of (l.active ∷ l.frozen)) ≡ false)
    none_needs = let both = off_parts (file_of file.name) (map table_of (tables l) ++ flat_map pointed_logs (tables l))
        (map log_of (l.active ∷ l.frozen)) gone.unneeded in
        ((off_parts (file_of file.name) (map table_of (tables l)) (flat_map pointed_logs (tables l)) both.0).0, both.1)

    not_lent : (m : ℕ) → file.name ≡ names.Log m → file.lent ≡ None
    not_lent m is = by file.lent refl
      where
        by : (o : Option (Lent W s)) → file.lent ≡ o → o ≡ None
        by None none = refl
        by (Some lent) some = absurd (log_table m lent.number (sym is ∙ waits.named lent some))

    -- a log from the manifest's head on that stands, and of which no memtable is kept, has no frames
    is_idle : (m : ℕ) → file.name ≡ names.Log m → b.state.head ≤ m → IsIdleLog b l file.name
    is_idle m is from = let logs = unneeded_logs file.name (l.active ∷ l.frozen) none_needs.1 in
        subst (λ (name : Name). AllByRecursion (λ (s : Segment). names.Log s.number ≢ name) (l.active ∷ l.frozen)
        → AllByRecursion (λ (s : Segment). names.Log s.number ≢ name) l.flushed → IsSome (get state.standing name) → IsIdleLog b l name)
        (sym is)
        (λ others flushed stands. record {
          number = m;
          name_is = refl;
          idle = idle_or_held m b l h base state holds from (none_stands (get state.standing (names.Log m)) stands)
              (λ same. others.0 (ap names.Log (sym same))) others.1;
          flushed = flushed;
        })
        logs
        (other_logs l (retired_of file) file.name refl gone.among l.flushed files.flushed_apart)
        (waits.stands (not_lent m is) state told)

    is_out : ((m : ℕ) → b.state.head ≤ m → names.Log m ≢ file.name) → ((m : ℕ) → b.manifest.number ≤ m → names.Manifest m ≢ file.name)
        → IsOutside b l file.name
    is_out from manifests = record {
      tables = other_table (file_of file.name) file.name refl (tables l) none_needs.0;
      flushed = other_logs l (retired_of file) file.name refl gone.among l.flushed files.flushed_apart;
      from = from;
      manifests = manifests;
    }

    pub may_go : MayGo b l file.name
    may_go = by file.name refl
      where
        by : (name : Name) → file.name ≡ name → MayGo b l file.name
        by (names.Log n) is = ⊎_elim
            (λ (below : n < b.state.head). inl (is_out
            (λ m from same. let e : m ≡ n = log_same m n (same ∙ is) in omega (arith, below, from, e))
            (λ m from same. log_manifest n m (sym (same ∙ is)))))
            (λ (from : b.state.head ≤ n). inr (is_idle n is from))
            (cases_lt n b.state.head)
        by (names.Table n) is =
            inl (is_out (λ m from same. log_table m n (same ∙ is)) (λ m from same. table_manifest n m (sym (same ∙ is))))
        by (names.Manifest n) is =
            absurd (subst (λ (name : Name). IsDrawn l.next_log l.next_table (file_of name)) is gone.drawn)

  pub all_may_go : (trash : List (RetiredFile (Lent W s))) → all_retired trash ≡ l.retired
      → AllByRecursion (IsWaiting g w disk next_table) trash
      → AllByRecursion (λ (file : RetiredFile (Lent W s)). MayGo b l file.name) trash
  all_may_go trash is waits =
      all_both (λ (file : RetiredFile (Lent W s)). IsGone l (retired_of file)) (IsWaiting g w disk next_table)
      (λ (file : RetiredFile (Lent W s)). MayGo b l file.name) may_go trash
      (all_mapped (IsGone l) retired_of trash (subst (AllByRecursion (IsGone l)) (sym is)
      (all_gone l (all_unneeded l files) (all_drawn l files)))) waits

-- ---- no two have one name

pub names_apart : {L : Type 0} (name : Name) (files : List (RetiredFile L)) → is_in (file_of name) (files_of (all_retired files)) ≡ false
    → AllByRecursion (λ (other : RetiredFile L). other.name ≢ name) files
names_apart name [] off = tt
names_apart name (file ∷ files) off =
    let both = or_false (is_same (file_of name) (file_of file.name)) (is_in (file_of name) (files_of (all_retired files))) off in (
      λ (same : file.name ≡ name). false_true (sym both.0 ∙ ap (λ (n : Name). is_same (file_of name) (file_of n)) same
          ∙ same_file (file_of name)),
      names_apart name files both.1,
    )

-- so the active log is none of the files that wait
pub waiting_not_active : {L : Type 0} (l : Layout) (trash : List (RetiredFile L)) → all_retired trash ≡ l.retired
    → AllByRecursion (IsUnneeded (needed l)) l.retired
    → AllByRecursion (λ (file : RetiredFile L). names.Log l.active.number ≢ file.name) trash
waiting_not_active {L} l trash is unneeded = all_then (λ (file : RetiredFile L). NotActive l (retired_of file))
    (λ (file : RetiredFile L). names.Log l.active.number ≢ file.name) (λ file other. other file.name refl) trash
    (all_mapped (NotActive l) retired_of trash (subst (AllByRecursion (NotActive l)) (sym is) (not_active l unneeded)))
