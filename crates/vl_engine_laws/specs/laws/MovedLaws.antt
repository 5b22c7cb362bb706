-- Entries of records that are moved: in order in memory, of no key and version that the active memtable has, and of versions
-- that are known.
use Rattle.std.specs.Prelude.{◌≡◌, ◌≤◌, ℕ, ◌+◌, ◌&&◌, nat_le, if◌then◌else◌, Bool, true, false, List, [], ◌∷◌, ◌++◌, map}
use Rattle.std.specs.Prelude.{length, suc, Option, None, Some, refl}
use Rattle.std.specs.List.{AllByRecursion, filter}
use Rattle.std.proofs.Common.{sym, ap, subst, ◌∙◌, cond, arith}
use Rattle.std.proofs.lemmas.Bool.Decides.{nat_tests}
use Rattle.std.specs.declared.cmp.Ordering.TheVariants.{Equal, Greater, Less}
use Rattle.vl_engine_laws.specs.Known.{are_known}
use Rattle.vl_engine_laws.specs.laws.KnownLaws.{known_up_to, up_to_known}
use Rattle.vl_engine_laws.specs.laws.LaidLaws.{memtable_near}
use Rattle.vl_engine_laws.specs.laws.LedLaws.{AreFarTo, IsFarTo}
use Rattle.vl_engine_model.specs.Logs.{frame_entries, memtable, record_entry, relocated_records}
use Rattle.vl_engine_model.specs.Relocation.{Candidate, is_moved, moved_of}
use Rattle.vl_engine_model.specs.Sources.{behind_active, sources}
use Rattle.vl_engine_model.specs.declared.layout.Layout.{Layout}
use Rattle.vl_engine_model.specs.laws.OrderShows.{all-in_order}
use Rattle.vl_engine_model.specs.laws.ShowsLaws.{all_both}
use Rattle.vl_memtable.specs.Contents.{IsNewTo}
use Rattle.vl_model.specs.Entries.{by_order, entry_cmp, in_order, is_at, put}
use Rattle.vl_model.specs.Frames.{moved_length}
use Rattle.vl_model.specs.Winners.{exact, is_far_to, leads_to, wins_exactly}
use Rattle.vl_model.specs.declared.entry.Body.TheVariants.{Far, Gone, Inline, Logged}
use Rattle.vl_model.specs.declared.entry.Body.{Body}
use Rattle.vl_model.specs.declared.entry.Entry.{Entry}
use Rattle.vl_model.specs.declared.log_frame.LogFrame.TheVariants.{Relocated}
use Rattle.vl_model.specs.declared.log_frame.Moved.{Moved}
use Rattle.vl_model.specs.Lookups.{or_else}
use Rattle.vl_model.specs.laws.Exact.{exact-append}

-- ---- what is said of each record is said of its entry

-- these records have what P says of keys and versions
abbrev pub HaveEach : (List ℕ → ℕ → Type 0) → List Moved → Type 0
HaveEach P moved = AllByRecursion (λ (m : Moved). P m.key m.version) moved

pub entries_have : (P : List ℕ → ℕ → Type 0) (format segment place : ℕ) (moved : List Moved) → HaveEach P moved
    → AllByRecursion (λ (e : Entry). P e.key e.version) (map (record_entry format segment) (relocated_records format place moved))
entries_have P format segment place [] have = tt
entries_have P format segment place (m ∷ ms) have =
    (have.0, entries_have P format segment (place + moved_length format m) ms have.1)

-- what holds of each candidate that is moved holds of the records
pub moved_have : (P : List ℕ → ℕ → Type 0) (es : List Entry) (segment last : ℕ)
    → ((c : Candidate) → is_moved es segment last c ≡ true → P c.moved.key c.moved.version)
    → (batch : List Candidate) → HaveEach P (moved_of es segment last batch)
moved_have P es segment last each [] = tt
moved_have P es segment last each (c ∷ cs) = by (is_moved es segment last c) refl (moved_have P es segment last each cs)
  where
    by : (b : Bool) → is_moved es segment last c ≡ b → HaveEach P (moved_of es segment last cs)
        → HaveEach P (map (λ (x : Candidate). x.moved) (cond b (c ∷ filter (is_moved es segment last) cs)
        (filter (is_moved es segment last) cs)))
    by true is later = (each c is, later)
    by false is later = later

both : (a b : Bool) → (a && b) ≡ true → (a ≡ true) × (b ≡ true)
both true b is = (refl, is)
both false b is = absurd (let no : false ≡ true = is in cc)

-- ---- versions

-- none is above the last number
pub moved_up_to : (es : List Entry) (segment last : ℕ) (batch : List Candidate)
    → HaveEach (λ key version. version ≤ last) (moved_of es segment last batch)
moved_up_to es segment last = moved_have (λ key version. version ≤ last) es segment last (λ c is.
    let known = (both (wins_exactly es segment c.moved.key c.moved.version c.place) (nat_le c.moved.version last) is).1 in
    grind (arith, nat_tests, known))

-- With such records the memtable has no version above it either.
pub moved_known : (format number place last : ℕ) (moved : List Moved) (es : List Entry)
    → HaveEach (λ key version. version ≤ last) moved → are_known last es ≡ true
    → are_known last (in_order (frame_entries format number place (Relocated moved) ++ es)) ≡ true
moved_known format number place last moved es up known =
    up_to_known last (in_order (frame_entries format number place (Relocated moved) ++ es))
    (all-in_order (λ (e : Entry). e.version ≤ last) (frame_entries format number place (Relocated moved) ++ es)
    (all_both (λ (e : Entry). e.version ≤ last) (frame_entries format number place (Relocated moved)) es
    (entries_have (λ key version. version ≤ last) format number (place + 9) moved up) (known_up_to last es known)))

-- ---- no key and version twice

-- what a memtable has leads into no log, so a key and version that wins exactly from inside one isn't there
never_far : (segment place : ℕ) (body : Body) → IsFarTo (λ n. ⊥) body → is_far_to segment place body ≡ true → ⊥
never_far segment place (Inline value) far is = (let no : false ≡ true = is in cc)
never_far segment place Gone far is = (let no : false ≡ true = is in cc)
never_far segment place (Far pointer) far is = far
never_far segment place (Logged value pointer) far is = (let no : false ≡ true = is in cc)

exact_far : (key : List ℕ) (version : ℕ) (es : List Entry) → AreFarTo (λ n. ⊥) es → (e : Entry) → exact es key version ≡ Some e
    → IsFarTo (λ n. ⊥) e.body
exact_far key version [] far e is = absurd cc
exact_far key version (x ∷ xs) far e is = by (is_at key version x) (exact_far key version xs far.1 e) is
  where
    the_one : (a b : Entry) → Some a ≡ Some b → a ≡ b
    the_one a b same = cc

    by : (b : Bool) → (exact xs key version ≡ Some e → IsFarTo (λ n. ⊥) e.body)
        → (if b then Some x else exact xs key version) ≡ Some e → IsFarTo (λ n. ⊥) e.body
    by true later found = subst (λ (f : Entry). IsFarTo (λ n. ⊥) f.body) (the_one x e found) far.0
    by false later found = later found

new_one : (segment place : ℕ) (key : List ℕ) (version : ℕ) (first others : List Entry) → AreFarTo (λ n. ⊥) first
    → wins_exactly (first ++ others) segment key version place ≡ true → exact first key version ≡ None
new_one segment place key version first others far wins = by (exact first key version) refl
  where
    by : (o : Option Entry) → exact first key version ≡ o → exact first key version ≡ None
    by None is = is
    by (Some e) is = absurd (never_far segment place e.body (exact_far key version first far e is)
        (sym (ap (leads_to segment place) (exact-append key version first others
        ∙ ap (λ o. or_else o (exact others key version)) is)) ∙ wins))

all_new : (es : List Entry) (format segment place : ℕ) (moved : List Moved)
    → HaveEach (λ key version. exact es key version ≡ None) moved
    → IsNewTo es (frame_entries format segment place (Relocated moved))
all_new es format segment place moved = entries_have (λ key version. exact es key version ≡ None) format segment (place + 9) moved

-- The active memtable has none of what is moved,
pub moved_apart : (l : Layout) (segment last : ℕ) (batch : List Candidate)
    → HaveEach (λ key version. exact (memtable l.active) key version ≡ None) (moved_of (sources l) segment last batch)
moved_apart l segment last =
    moved_have (λ key version. exact (memtable l.active) key version ≡ None) (sources l) segment last (λ c is.
    new_one segment c.place c.moved.key c.moved.version (memtable l.active) (behind_active l)
    (memtable_near (λ n. ⊥) l.active)
    (both (wins_exactly (sources l) segment c.moved.key c.moved.version c.place) (nat_le c.moved.version last) is).0)

-- so the records' entries are new to it.
pub moved_is_new : (l : Layout) (segment last : ℕ) (batch : List Candidate) (format number place : ℕ)
    → IsNewTo (memtable l.active)
    (frame_entries format number place (Relocated (moved_of (sources l) segment last batch)))
moved_is_new l segment last batch format number place =
    all_new (memtable l.active) format number place (moved_of (sources l) segment last batch) (moved_apart l segment last batch)

-- ---- in order

-- So they are once they are put in order,
pub sorted_new : (es run : List Entry) → IsNewTo es run → IsNewTo es (in_order run)
sorted_new es = all-in_order (λ (e : Entry). exact es e.key e.version ≡ None)

some_put : (e : Entry) (es : List Entry) → 1 ≤ length (put e es)
some_put e [] = omega arith
some_put e (f ∷ fs) = elim (entry_cmp e f) as (λ r. 1 ≤ length (by_order r (e ∷ f ∷ fs) (e ∷ fs) (f ∷ put e fs))) [
  | Less ↦ omega arith
  | Equal ↦ omega arith
  | Greater ↦ omega arith
]

-- some stay,
pub sorted_some : (run : List Entry) → 1 ≤ length run → 1 ≤ length (in_order run)
sorted_some [] some = absurd (omega arith)
sorted_some (e ∷ es) some = some_put e (in_order es)

-- and there is one of each record.
pub entries_count : (format segment place : ℕ) (moved : List Moved)
    → length (frame_entries format segment place (Relocated moved)) ≡ length moved
entries_count format segment place moved = by (place + 9) moved
  where
    by : (at : ℕ) (ms : List Moved) → length (map (record_entry format segment) (relocated_records format at ms)) ≡ length ms
    by at [] = refl
    by at (m ∷ ms) = ap suc (by (at + moved_length format m) ms)
