-- Where a cursor over an input stops, and where reading the input does.
use Rattle.std.proofs.Common.{◌≡◌, inl, ℕ, Bool, true, ◌&&◌, List, [], ◌∷◌, ◌++◌, Option, Some, get_or, refl, ap, sym, subst}
use Rattle.std.proofs.Common.{◌∙◌, ◌+◌, ◌<◌, length, take}
use Rattle.std.proofs.lemmas.Grind.{take_at_read}
use Rattle.std.specs.Prelude.{map, unwrap_or}
use Rattle.std.specs.List.{AllByRecursion, slice_get}
use Rattle.std.specs.Option.{ForSome}
use Rattle.vl_compact.proofs.Lefts.{fails_shared, only}
use Rattle.vl_compact.specs.Stops.{IsFirstBadOf, MayStopIn}
use Rattle.vl_compact.specs.Keys.{span_behind}
use Rattle.vl_disk.specs.declared.name.Name.{Name}
use Rattle.vl_disk.specs.declared.read_fault.ReadFault.{ReadFault}
use Rattle.vl_disk.specs.declared.read_fault.ReadFault.TheVariants.{NoMemory, Disk, Damaged}
use Rattle.vl_model.specs.declared.entry.Entry.{Entry}
use Rattle.vl_model.specs.declared.way.Way.TheVariants.{Up}
use Rattle.vl_table.specs.CursorParts.{AllStand, Block, IsFirstBad, StandsWith, index_of}
use Rattle.vl_table.specs.CursorStops.{MayStopOn, StopIn}
use Rattle.vl_table.specs.ReadTo.{TablesReadTo}
use Rattle.vl_table.specs.laws.SharedBlocks.{read_alike}
use Rattle.vl_table.specs.Kept.{NoBlock}
use Rattle.vl_table.specs.SpanBlocks.{blocks_in, rises_over}
use Rattle.vl_table.specs.Stretches.{stretch_of}
use Rattle.vl_table.specs.Tables.{AreSame, number_of, shape_of}
use Rattle.vl_table.specs.declared.body.index.BlockPlace.{BlockPlace}
use Rattle.vl_table.specs.declared.body.shape.TableShape.{TableShape}
use Rattle.vl_table.specs.declared.table.Table.{Table}

abbrev rest_of : {X : Type 0} → List X → List X
rest_of [] = []
rest_of (x ∷ xs) = xs

module _ {H : Type 0} (bytes_of : H → Option (List ℕ)) where
  -- ---- the blocks of one table

  -- of these blocks of a table each before the place stands, and the one at it doesn't
  record UpTo (t : Table H) (ps : List BlockPlace) (place : ℕ) : Type 0 where
    read : List BlockPlace
    block : BlockPlace
    later : List BlockPlace
    parts : ps ≡ read ++ block ∷ later
    stood : AllByRecursion (λ p. (es : List Entry) × StandsWith bytes_of (t, p) es) read
    none : ForSome (bytes_of t.held) (λ bytes. NoBlock (shape_of t).format (number_of t) block bytes place)

  by_places : (t : Table H) (name : Name) (place : ℕ) (ps : List BlockPlace) (read rest : List (Block H))
      → map (λ (p : BlockPlace). (t, p)) ps ++ [] ≡ read ++ rest → AllStand bytes_of read → IsFirstBad bytes_of rest name place
      → UpTo t ps place
  by_places t name place [] [] rest is stood bad = absurd (let no : [] ≡ bad.block ∷ bad.later = is ∙ bad.first in cc)
  by_places t name place [] (b ∷ read) rest is stood bad = absurd (let no : [] ≡ b ∷ (read ++ rest) = is in cc)
  by_places t name place (p ∷ ps) [] rest is stood bad =
      let first : (t, p) ≡ bad.block = ap (λ (l : List (Block H)). get_or l 0 (t, p)) (is ∙ bad.first) in
      record {
        read = [];
        block = p;
        later = ps;
        parts = refl;
        stood = tt;
        none = subst (λ (b : Block H). ForSome (bytes_of b.0.held)
            (λ bytes. NoBlock (shape_of b.0).format (number_of b.0) b.1 bytes place)) (sym first) bad.none;
      }
  by_places t name place (p ∷ ps) (b ∷ read) rest is stood bad =
      let first : (t, p) ≡ b = ap (λ (l : List (Block H)). get_or l 0 (t, p)) is in
      let more = by_places t name place ps read rest (ap (λ (l : List (Block H)). rest_of l) is) stood.1 bad in
      record {
        read = p ∷ more.read;
        block = more.block;
        later = more.later;
        parts = ap (λ (l : List BlockPlace). p ∷ l) more.parts;
        stood = (subst (λ (x : Block H). (es : List Entry) × StandsWith bytes_of x es) (sym first) stood.0, more.stood);
        none = more.none;
      }

  -- ---- an input

  module _ (size_of : H → ℕ) (name_of : H → Name) (after : Option (List ℕ)) (table copy : Table H)
      (same : AreSame bytes_of size_of name_of table copy) where
    first_bad : (name : Name) (place : ℕ)
        → StopIn bytes_of (map (λ (p : BlockPlace). (copy, p)) (stretch_of (blocks_in (span_behind after) (shape_of copy)) (index_of copy)) ++ [])
        (Damaged name place)
        → IsFirstBadOf (span_behind after) (shape_of table) (bytes_of table.held) place
    first_bad name place f =
        let span = span_behind after in
        let index = stretch_of (blocks_in span (shape_of copy)) (index_of copy) in
        let u = by_places copy name place index f.read f.rest f.parts f.stood f.stops in
        let its : IsFirstBadOf span (shape_of copy) (bytes_of copy.held) place = record {
          read = u.read;
          block = u.block;
          later = u.later;
          parts = u.parts;
          stood = u.stood;
          none = u.none;
        } in
        subst (λ (s : TableShape). IsFirstBadOf span s (bytes_of table.held) place) same.shape
        (subst (λ (told : Option (List ℕ)). IsFirstBadOf span (shape_of copy) told place) same.bytes its)

    -- a cursor that has begun to read a table behind a key stops where reading the table behind it does
    pub stops_shared : (fault : ReadFault) → MayStopOn bytes_of (span_behind after) Up (copy ∷ []) fault
        → MayStopIn bytes_of after (table ∷ []) fault
    stops_shared NoMemory may = tt
    stops_shared (Disk name) may = fails_shared bytes_of size_of name_of table copy same (Disk name) may.0
    stops_shared (Damaged name place) may =
        let (i, t, found, named, bad) = fails_shared bytes_of size_of name_of table copy same (Damaged name place) may.0 in
        let is : table ≡ t = ap (λ (o : Option (Table H)). unwrap_or o table) (only bytes_of table t i found) in
        let span = span_behind after in (
          i,
          t,
          found,
          named,
          inl record {
            bad = bad;
            first = λ rises. subst (λ (u : Table H). IsFirstBadOf span (shape_of u) (bytes_of u.held) place) is
                (first_bad name place (may.1
                (ap (λ (s : TableShape). rises_over span s.blocks.items && true) (same.shape ∙ ap (λ (u : Table H). shape_of u) is)
                ∙ ap (λ (b : Bool). b && true) rises)));
          },
        )

    -- and what it read whole was read of the table
    pub read_shared : (is_met : Entry → Bool) → TablesReadTo bytes_of (span_behind after) Up is_met (copy ∷ [])
        → TablesReadTo bytes_of (span_behind after) Up is_met (table ∷ [])
    read_shared is_met to = read_alike bytes_of (span_behind after) Up is_met (table ∷ []) (copy ∷ [])
        (record { shape = same.shape; bytes = same.bytes }, tt) to

  -- ---- several inputs

  -- a fault on one of some inputs is one on them
  pub stops_there : (after : Option (List ℕ)) (tables : List (Table H)) (table : Table H) (i : ℕ) → slice_get tables i ≡ Some table
      → (fault : ReadFault) → MayStopIn bytes_of after (table ∷ []) fault → MayStopIn bytes_of after tables fault
  stops_there after tables table i is NoMemory may = tt
  stops_there after tables table i is (Disk name) may = (i, may.1, is ∙ only bytes_of table may.1 may.0 may.2, may.3)
  stops_there after tables table i is (Damaged name place) may = (i, may.1, is ∙ only bytes_of table may.1 may.0 may.2, may.3, may.4)

-- ---- up to where several were read whole

all_more : {X : Type 0} (P : X → Type 0) (xs : List X) (x : X) → AllByRecursion P xs → P x → AllByRecursion P (xs ++ x ∷ [])
all_more P [] x all here = (here, tt)
all_more P (y ∷ ys) x all here = (all.0, all_more P ys x all.1 here)

all_parts : {X : Type 0} (P : X → Type 0) (xs ys : List X) → AllByRecursion P (xs ++ ys) → AllByRecursion P xs × AllByRecursion P ys
all_parts P [] ys all = (tt, all)
all_parts P (x ∷ xs) ys all = let parts = all_parts P xs ys all.1 in ((all.0, parts.0), parts.1)

-- one more that stands as far as one more was read
pub stand_next : {X Y : Type 0} (P : X → Type 0) (Q : Y → Type 0) (cs now : List X) (c : X) (ts : List Y) (i : ℕ) (t : Y)
    → i < length ts → t ≡ get_or ts i t → now ≡ cs ++ c ∷ [] → (AllByRecursion P cs → AllByRecursion Q (take i ts)) → (P c → Q t)
    → AllByRecursion P now → AllByRecursion Q (take (i + 1) ts)
stand_next P Q cs now c ts i t inside is pushed before here all =
    let parts = all_parts P cs (c ∷ []) (subst (AllByRecursion P) pushed all) in
    subst (AllByRecursion Q)
    (sym ((take_at_read ts i t inside).1 ∙ ap (λ y. take i ts ++ y ∷ []) (sym is)))
    (all_more Q (take i ts) t (before parts.0) (here parts.1.0))
