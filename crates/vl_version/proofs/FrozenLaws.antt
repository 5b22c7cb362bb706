-- Frozen logs one behind the other.
use Rattle.std.proofs.Common.{◌≡◌, ℕ, zero, suc, ◌+◌, ◌<◌, List, [], ◌∷◌, ◌++◌, length, take, drop, get_or, ap, sym}
use Rattle.std.proofs.Common.{◌∙◌, arith, append-nil, Option, Some, None}
use Rattle.std.proofs.lemmas.Grind.{flat_map-append}
use Rattle.vl_memtable.specs.declared.frozen_log.FrozenLog.{FrozenLog}
use Rattle.vl_model.specs.Winners.{exact, newest_of, winner}
use Rattle.vl_model.specs.declared.entry.Entry.{Entry}
use Rattle.vl_model.specs.laws.WinnerLaws.{winner-append}
use Rattle.vl_model.specs.laws.Exact.{exact-append}
use Rattle.vl_model.specs.Lookups.{or_else}
use Rattle.vl_version.specs.Sources.{held_entries}
use Rattle.vl_version.proofs.looking.Parts.{split_at}

suc_more : (i : ℕ) → suc i + 1 ≡ suc (i + 1)
suc_more i = omega arith

pub take_next : (all : List FrozenLog) (i : ℕ) (held : FrozenLog) → i < length all → held ≡ get_or all i held
    → take (i + 1) all ≡ take i all ++ held ∷ []
take_next [] i held within is = absurd (omega arith)
take_next (first ∷ all) zero held within is = ap (λ r. r ∷ []) (sym is)
take_next (first ∷ all) (suc i) held within is =
    ap (λ n. take n (first ∷ all)) (suc_more i) ∙ ap (λ l. first ∷ l) (take_next all i held (omega arith) is)

pub entries-push : (all : List FrozenLog) (held : FrozenLog) → held_entries (all ++ held ∷ []) ≡ held_entries all ++ held.memtable.entries
entries-push all held =
    flat_map-append (λ (m : FrozenLog). m.memtable.entries) all (held ∷ [])
    ∙ ap (λ l. held_entries all ++ l) (append-nil held.memtable.entries)

pub winner-push : (key : List ℕ) (number : ℕ) (all : List FrozenLog) (held : FrozenLog)
    → winner (held_entries (all ++ held ∷ [])) key number
    ≡ newest_of (winner (held_entries all) key number) (winner held.memtable.entries key number)
winner-push key number all held =
    ap (λ l. winner l key number) (entries-push all held) ∙ winner-append key number (held_entries all) held.memtable.entries

-- ---- the entry of a key and version

module _ (key : List ℕ) (version : ℕ) where
  exact-more : (front back : List FrozenLog) → exact (held_entries (front ++ back)) key version
      ≡ or_else (exact (held_entries front) key version) (exact (held_entries back) key version)
  exact-more front back =
      ap (λ l. exact l key version) (flat_map-append (λ (m : FrozenLog). m.memtable.entries) front back)
      ∙ exact-append key version (held_entries front) (held_entries back)

  exact-push : (front : List FrozenLog) (held : FrozenLog) → exact (held_entries (front ++ held ∷ [])) key version
      ≡ or_else (exact (held_entries front) key version) (exact held.memtable.entries key version)
  exact-push front held =
      ap (λ l. exact l key version) (entries-push front held) ∙ exact-append key version (held_entries front) held.memtable.entries

  module _ (all : List FrozenLog) (i : ℕ) (held : FrozenLog) (within : i < length all) (is : held ≡ get_or all i held)
      (so_far : exact (held_entries (take i all)) key version ≡ None) where
    pushed : (here : Option Entry) → exact held.memtable.entries key version ≡ here
        → exact (held_entries (take i all ++ held ∷ [])) key version ≡ here
    pushed here found =
        exact-push (take i all) held ∙ ap (λ (o : Option Entry). or_else o (exact held.memtable.entries key version)) so_far ∙ found

    -- the next one hasn't got it,
    pub frozen_none : exact held.memtable.entries key version ≡ None → exact (held_entries (take (i + 1) all)) key version ≡ None
    frozen_none none = ap (λ l. exact (held_entries l) key version) (take_next all i held within is) ∙ pushed None none

    -- or is the first that has it
    pub frozen_some : (e : Entry) → exact held.memtable.entries key version ≡ Some e → exact (held_entries all) key version ≡ Some e
    frozen_some e some =
        ap (λ l. exact (held_entries l) key version) (split_at all i held within is)
        ∙ exact-more (take i all ++ held ∷ []) (drop (suc i) all)
        ∙ ap (λ (o : Option Entry). or_else o (exact (held_entries (drop (suc i) all)) key version)) (pushed (Some e) some)
