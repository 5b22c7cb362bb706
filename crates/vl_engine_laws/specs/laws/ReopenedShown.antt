-- What entries show of a history they show of it as it is gone on with from that number; and a new store shows no commits.
use Rattle.std.specs.Prelude.{◌≡◌, ◌≤◌, ℕ, ◌==◌, ◌||◌, Bool, true, false, nat_le, List, [], ◌∷◌, ◌++◌, length, None, Some, refl}
use Rattle.std.specs.FinMap.{empty, entries, len-empty, len-entries}
use Rattle.std.specs.List.{AllByRecursion, filter}
use Rattle.std.specs.Ordering.{nat_cmp}
use Rattle.std.proofs.Common.{sym, ap, subst, ◌∙◌, cond, arith}
use Rattle.std.proofs.lemmas.Bool.Decides.{nat_tests}
use Rattle.vl_disk.specs.Crash.{Image}
use Rattle.vl_engine_laws.specs.Reopened.{reopened}
use Rattle.vl_engine_laws.specs.Pointed.{stored_among}
use Rattle.vl_engine_laws.specs.Shown.{EntriesShow, Shown, entries_among, logs_entries}
use Rattle.vl_engine_laws.specs.laws.ReopenedLaws.{low-reopened, value_at-reopened, versions-reopened}
use Rattle.vl_engine_model.specs.Shown.{IsOf}
use Rattle.vl_engine_model.specs.Shows.{AreUpTo}
use Rattle.vl_engine_model_laws.specs.laws.Lists.{true_false}
use Rattle.vl_model.specs.History.{History, Past, no_history}
use Rattle.vl_model.specs.Keys.{Writes}
use Rattle.vl_model.specs.Numbers.{has}
use Rattle.vl_model.specs.Versions.{Numbered, naming, versions}
use Rattle.vl_model.specs.Winners.{Logs}
use Rattle.vl_model.specs.declared.entry.Entry.{Entry}
use Rattle.vl_model.specs.laws.HistoryLaws.{past_value-empty, value_at-first}

has-filtered : (m n : ℕ) → n ≤ m → (ns : List ℕ) → has n ns ≡ true → has n (filter (λ (k : ℕ). nat_le k m) ns) ≡ true
has-filtered m n le [] there = there
has-filtered m n le (k ∷ ks) there = by (nat_le k m) (k == n) refl refl there (has-filtered m n le ks)
  where
    by : (a b : Bool) → nat_le k m ≡ a → (k == n) ≡ b → (b || has n ks) ≡ true
        → (has n ks ≡ true → has n (filter (λ (j : ℕ). nat_le j m) ks) ≡ true)
        → has n (cond a (k ∷ filter (λ (j : ℕ). nat_le j m) ks) (filter (λ (j : ℕ). nat_le j m) ks)) ≡ true
    by true true low at there later = ap (λ (t : Bool). t || has n (filter (λ (j : ℕ). nat_le j m) ks)) at
    by true false low other there later =
        ap (λ (t : Bool). t || has n (filter (λ (j : ℕ). nat_le j m) ks)) other ∙ later there
    by false true high at there later = absurd (grind (arith, nat_tests, high, at, le))
    by false false high other there later = later there

from-filtered : (m n : ℕ) (ns : List ℕ) → has n (filter (λ (k : ℕ). nat_le k m) ns) ≡ true → has n ns ≡ true
from-filtered m n [] there = there
from-filtered m n (k ∷ ks) there = by (nat_le k m) (k == n) refl (from-filtered m n ks) there
  where
    by : (a b : Bool) → (k == n) ≡ b → (has n (filter (λ (j : ℕ). nat_le j m) ks) ≡ true → has n ks ≡ true)
        → has n (cond a (k ∷ filter (λ (j : ℕ). nat_le j m) ks) (filter (λ (j : ℕ). nat_le j m) ks)) ≡ true
        → (b || has n ks) ≡ true
    by a true at later is = refl
    by true false other later is =
        later (sym (ap (λ (t : Bool). t || has n (filter (λ (j : ℕ). nat_le j m) ks)) other) ∙ is)
    by false false other later is = later is

of_reopened : (h : History) (m : ℕ) (es : List Entry) → AllByRecursion (IsOf h) es → AreUpTo m es
    → AllByRecursion (IsOf (reopened h m)) es
of_reopened h m [] all up = tt
of_reopened h m (e ∷ es) all up = (
  subst (λ (ns : List ℕ). has e.version ns ≡ true) (sym (versions-reopened h m e.key))
      (has-filtered m e.version up.0 (versions h e.key) all.0),
  of_reopened h m es all.1 up.1,
)

pub entries_show_reopened : (keep since gone : ℕ) (logs : Logs) (es : List Entry) (h : History) (m : ℕ)
    → EntriesShow keep since gone logs es h m → EntriesShow keep since gone logs es (reopened h m) m
entries_show_reopened keep since gone logs es h m show = record {
  shows = record {
    values = λ key number low high.
        show.shows.values key number (subst (λ (n : ℕ). n ≤ number) (low-reopened h m keep since key) low) high
        ∙ ap Some (sym (value_at-reopened h m number key high));
    meaning = show.shows.meaning;
    resolves = show.shows.resolves;
    gone_once = show.shows.gone_once;
  };
  versions = of_reopened h m es show.versions show.up_to;
  up_to = show.up_to;
  spared = λ two key n le there missing.
      show.spared two key n le
      (from-filtered m n (versions h key) (subst (λ (ns : List ℕ). has n ns ≡ true) (versions-reopened h m key) there)) missing;
  whole = λ key n le there missing.
      show.whole key n le
      (from-filtered m n (versions h key) (subst (λ (ns : List ℕ). has n ns ≡ true) (versions-reopened h m key) there)) missing;
}

-- An image shows, of the history as it is gone on with from a number, what it shows of the history there.
pub shown_reopened : (image : Image) (h : History) (m : ℕ) → Shown image h m → Shown image (reopened h m) m
shown_reopened image h m shown = record {
  opening = shown.opening;
  opens = shown.opens;
  number = shown.number;
  levels = shown.levels;
  found = shown.found;
  tables = shown.tables;
  sealed = shown.sealed;
  led = shown.led;
  placed = shown.placed;
  some = shown.some;
  since = shown.since;
  last = shown.last;
  entries = entries_show_reopened shown.opening.state.keep shown.opening.state.since shown.opening.state.gone (stored_among shown.sealed)
      (logs_entries shown.opening.logs ++ entries_among shown.levels) h m shown.entries;
}

none_at_all : {A : Type 0} → (xs : List A) → length xs ≡ 0 → xs ≡ []
none_at_all [] is = refl
none_at_all (x ∷ xs) is = absurd (omega arith)

-- a store without commits has no versions
no_versions : (key : List ℕ) → versions no_history key ≡ []
no_versions key =
    let past : Past = empty in
    let nothing : entries past ≡ [] = none_at_all (entries past) (sym (len-entries past) ∙ len-empty nat_cmp Writes) in
    ap (λ (cs : List Numbered). naming key (filter (λ (c : Numbered). nat_le c.0 0) cs ++ [])) nothing

-- No entries show a store without commits.
pub none_show : (logs : Logs) → EntriesShow 1 0 0 logs [] no_history 0
none_show logs = record {
  shows = record {
    values = λ key number from to. ap Some (sym (value_at-first no_history number key to ∙ past_value-empty number key));
    meaning = λ key version. None;
    resolves = tt;
    gone_once = λ key version gone. omega arith;
  };
  versions = tt;
  up_to = tt;
  spared = λ two key n le there missing.
      absurd (true_false (sym (subst (λ (ns : List ℕ). has n ns ≡ true) (no_versions key) there)));
  whole = λ key n le there missing.
      absurd (true_false (sym (subst (λ (ns : List ℕ). has n ns ≡ true) (no_versions key) there)));
}
