-- What was read of tables' copies was read of the tables.
use mathlib.Core.List.{reverse_aux}
use Rattle.std.specs.Prelude.{◌≡◌, ℕ, zero, suc, Bool, ◌&&◌, cond, List, [], ◌∷◌, ◌++◌, map, Option, Some, None}
use Rattle.std.specs.List.{AllZip, slice_get}
use Rattle.std.specs.Option.{option_and_then, option_map}
use Rattle.std.proofs.Common.{ap, refl, sym, subst, ◌∙◌, inl, inr}
use Rattle.vl_disk.specs.declared.name.Name.TheVariants.{Table as table_name}
use Rattle.vl_disk.specs.declared.read_fault.ReadFault.{ReadFault}
use Rattle.vl_disk.specs.declared.read_fault.ReadFault.TheVariants.{NoMemory, Disk, Damaged}
use Rattle.vl_model.specs.declared.entry.Entry.{Entry}
use Rattle.vl_model.specs.declared.span.Span.{Span}
use Rattle.vl_model.specs.declared.way.Way.{Way}
use Rattle.vl_model.specs.declared.way.Way.TheVariants.{Up, Down}
use Rattle.vl_model.specs.EntryOrder.{within}
use Rattle.vl_table.specs.CursorParts.{AllStand, Block, MayFailOn, StandsWith, StopsBefore, blocks_over, entries_over, entries_told, index_of, rise_over}
use Rattle.vl_table.specs.CursorStops.{MayStopOn, StopIn}
use Rattle.vl_table.specs.Kept.{NoBlock, StandsBlock}
use Rattle.vl_table.specs.ReadTo.{IsCopied, OneHas, TablesReadTo}
use Rattle.vl_table.specs.Seeks.{IsBadBlock}
use Rattle.vl_table.specs.SpanBlocks.{blocks_in, rises_over}
use Rattle.vl_table.specs.Standing.{standing_entries}
use Rattle.vl_table.specs.Stretches.{on_way, stretch_of}
use Rattle.vl_table.specs.Tables.{number_of, shape_of}
use Rattle.vl_table.specs.declared.body.index.BlockPlace.{BlockPlace}
use Rattle.vl_table.specs.declared.body.shape.TableShape.{TableShape}
use Rattle.vl_table.specs.declared.table.Table.{Table}

-- ---- lists of which each element goes with the other's

module _ {A B : Type 0} (R : A → B → Type 0) where
  zip_both : (xs us : List A) (ys vs : List B) → AllZip R xs ys → AllZip R us vs → AllZip R (xs ++ us) (ys ++ vs)
  zip_both [] us [] vs first second = second
  zip_both [] us (y ∷ ys) vs first second = absurd first
  zip_both (x ∷ xs) us [] vs first second = absurd first
  zip_both (x ∷ xs) us (y ∷ ys) vs first second = (first.0, zip_both xs us ys vs first.1 second)

  zip_back : (xs us : List A) (ys vs : List B) → AllZip R xs ys → AllZip R us vs → AllZip R (reverse_aux xs us) (reverse_aux ys vs)
  zip_back [] us [] vs zip more = more
  zip_back [] us (y ∷ ys) vs zip more = absurd zip
  zip_back (x ∷ xs) us [] vs zip more = absurd zip
  zip_back (x ∷ xs) us (y ∷ ys) vs zip more = zip_back xs (x ∷ us) ys (y ∷ vs) zip.1 (zip.0, more)

  zip_way : (way : Way) (xs : List A) (ys : List B) → AllZip R xs ys → AllZip R (on_way way xs) (on_way way ys)
  zip_way Up xs ys zip = zip
  zip_way Down xs ys zip = zip_back xs [] ys [] zip tt

module _ {H : Type 0} (bytes_of : H → Option (List ℕ)) where
  record AreOneBlock (b c : Block H) : Type 0 where
    of : IsCopied bytes_of b.0 c.0
    place : c.1 ≡ b.1

  -- ---- a block

  stood_there : (b c : Block H) → AreOneBlock b c → (es : List Entry) → StandsWith bytes_of c es → StandsWith bytes_of b es
  stood_there b c one es stood = λ bytes told.
      subst (λ (p : BlockPlace). StandsBlock (shape_of b.0).format (number_of b.0) bytes p.place p.length es) one.place
      (subst (λ (s : TableShape). StandsBlock s.format s.number bytes c.1.place c.1.length es) one.of.shape
      (stood bytes (one.of.bytes ∙ told)))

  missing_there : (b c : Block H) → AreOneBlock b c → (place : ℕ)
      → ((bytes : List ℕ) → bytes_of c.0.held ≡ Some bytes → NoBlock (shape_of c.0).format (number_of c.0) c.1 bytes place)
      → (bytes : List ℕ) → bytes_of b.0.held ≡ Some bytes → NoBlock (shape_of b.0).format (number_of b.0) b.1 bytes place
  missing_there b c one place none bytes told =
      subst (λ (p : BlockPlace). NoBlock (shape_of b.0).format (number_of b.0) p bytes place) one.place
      (subst (λ (s : TableShape). NoBlock s.format s.number c.1 bytes place) one.of.shape (none bytes (one.of.bytes ∙ told)))

  stops_there : (bs cs : List (Block H)) → AllZip AreOneBlock bs cs → (fault : ReadFault) → StopsBefore bytes_of cs fault → StopsBefore bytes_of bs fault
  stops_there bs cs zip NoMemory stops = tt
  stops_there [] [] zip (Disk name) stops = absurd (let no : [] ≡ stops.block ∷ stops.later = stops.first in cc)
  stops_there [] (c ∷ cs) zip (Disk name) stops = absurd zip
  stops_there (b ∷ bs) [] zip (Disk name) stops = absurd zip
  stops_there (b ∷ bs) (c ∷ cs) zip (Disk name) stops =
      let head : c ≡ stops.block = heads c stops.block cs stops.later stops.first in
      record {
        block = b;
        later = bs;
        first = refl;
        named = stops.named ∙ ap (λ (x : Block H). table_name (number_of x.0)) (sym head) ∙ ap (λ (s : TableShape). table_name s.number) zip.0.of.shape;
      }
    where
      heads : (x y : Block H) (xs ys : List (Block H)) → x ∷ xs ≡ y ∷ ys → x ≡ y
      heads x y xs ys is = cc
  stops_there [] [] zip (Damaged name place) stops = absurd (let no : [] ≡ stops.block ∷ stops.later = stops.first in cc)
  stops_there [] (c ∷ cs) zip (Damaged name place) stops = absurd zip
  stops_there (b ∷ bs) [] zip (Damaged name place) stops = absurd zip
  stops_there (b ∷ bs) (c ∷ cs) zip (Damaged name place) stops =
      let head : c ≡ stops.block = heads c stops.block cs stops.later stops.first in
      record {
        block = b;
        later = bs;
        first = refl;
        named = stops.named ∙ ap (λ (x : Block H). table_name (number_of x.0)) (sym head) ∙ ap (λ (s : TableShape). table_name s.number) zip.0.of.shape;
        none = missing_there b c zip.0 place (subst (λ (x : Block H). (bytes : List ℕ) → bytes_of x.0.held ≡ Some bytes
            → NoBlock (shape_of x.0).format (number_of x.0) x.1 bytes place) (sym head) stops.none);
      }
    where
      heads : (x y : Block H) (xs ys : List (Block H)) → x ∷ xs ≡ y ∷ ys → x ≡ y
      heads x y xs ys is = cc

  -- ---- those of tables

  zip_index : (t u : Table H) → IsCopied bytes_of t u → (ps : List BlockPlace) → AllZip AreOneBlock (map (λ p. (t, p)) ps) (map (λ p. (u, p)) ps)
  zip_index t u copied [] = tt
  zip_index t u copied (p ∷ ps) = (record { of = copied; place = refl }, zip_index t u copied ps)

  zip_over : (span : Span) (way : Way) (ts us : List (Table H)) → AllZip (IsCopied bytes_of) ts us
      → AllZip AreOneBlock (blocks_over span way ts) (blocks_over span way us)
  zip_over span way [] [] zip = tt
  zip_over span way [] (u ∷ us) zip = absurd zip
  zip_over span way (t ∷ ts) [] zip = absurd zip
  zip_over span way (t ∷ ts) (u ∷ us) zip =
      let index = λ (s : TableShape). on_way way (stretch_of (blocks_in span s) s.blocks.items) in
      zip_both AreOneBlock (map (λ p. (t, p)) (index (shape_of t))) (blocks_over span way ts)
      (map (λ p. (u, p)) (index (shape_of u))) (blocks_over span way us)
      (subst (λ (s : TableShape). AllZip AreOneBlock (map (λ p. (t, p)) (index (shape_of t))) (map (λ p. (u, p)) (index s)))
      (sym zip.0.shape) (zip_index t u zip.0 (index (shape_of t))))
      (zip_over span way ts us zip.1)

  rise_alike : (span : Span) (ts us : List (Table H)) → AllZip (IsCopied bytes_of) ts us → rise_over span us ≡ rise_over span ts
  rise_alike span [] [] zip = refl
  rise_alike span [] (u ∷ us) zip = absurd zip
  rise_alike span (t ∷ ts) [] zip = absurd zip
  rise_alike span (t ∷ ts) (u ∷ us) zip =
      let here : rises_over span (index_of u) ≡ rises_over span (index_of t) = ap (λ (s : TableShape). rises_over span s.blocks.items) zip.0.shape in
      let later = rise_alike span ts us zip.1 in
      λ i. here i && later i

  -- ---- what is told

  told_there : (span : Span) (way : Way) (bs cs : List (Block H)) → AllZip AreOneBlock bs cs
      → entries_told bytes_of span way cs ≡ entries_told bytes_of span way bs
  told_there span way [] [] zip = refl
  told_there span way [] (c ∷ cs) zip = absurd zip
  told_there span way (b ∷ bs) [] zip = absurd zip
  told_there span way (b ∷ bs) (c ∷ cs) zip =
      let later = told_there span way bs cs zip.1 in
      let one = zip.0 in
      λ i. option_and_then (λ bytes. option_map (λ l. within span (on_way way
      (standing_entries (one.of.shape i).format (one.of.shape i).number bytes (one.place i))) ++ l) (later i)) (one.of.bytes i)

  pub told_alike : (span : Span) (way : Way) (ts us : List (Table H)) → AllZip (IsCopied bytes_of) ts us
      → entries_over bytes_of span way us ≡ entries_over bytes_of span way ts
  told_alike span way ts us zip =
      let told = told_there span way (blocks_over span way (on_way way ts)) (blocks_over span way (on_way way us))
      (zip_over span way (on_way way ts) (on_way way us) (zip_way (IsCopied bytes_of) way ts us zip)) in
      λ i. cond (rise_alike span ts us zip i) (told i) None

  -- ---- as far as blocks were read

  -- these blocks part as those do
  record IsParted (bs rest : List (Block H)) : Type 0 where
    read : List (Block H)
    later : List (Block H)
    parts : bs ≡ read ++ later
    stood : AllStand bytes_of read
    zip : AllZip AreOneBlock later rest

  parted : (bs cs read rest : List (Block H)) → AllZip AreOneBlock bs cs → cs ≡ read ++ rest → AllStand bytes_of read
      → (p : IsParted bs rest) × ((span : Span) (way : Way) (is_met : Entry → Bool) → OneHas bytes_of span way is_met read
      → OneHas bytes_of span way is_met p.read)
  parted bs cs [] rest zip is stood =
      (record { read = []; later = bs; parts = refl; stood = tt; zip = subst (AllZip AreOneBlock bs) is zip }, λ span way is_met has. has)
  parted [] [] (r ∷ read) rest zip is stood = absurd (let no : [] ≡ r ∷ (read ++ rest) = is in cc)
  parted [] (c ∷ cs) (r ∷ read) rest zip is stood = absurd zip
  parted (b ∷ bs) [] (r ∷ read) rest zip is stood = absurd zip
  parted (b ∷ bs) (c ∷ cs) (r ∷ read) rest zip is stood =
      let head : c ≡ r = heads c r cs (read ++ rest) is in
      let more = parted bs cs read rest zip.1 (tails c r cs (read ++ rest) is) stood.1 in
      let one = subst (λ (x : Block H). AreOneBlock b x) head zip.0 in (
        record {
          read = b ∷ more.0.read;
          later = more.0.later;
          parts = ap (λ (l : List (Block H)). b ∷ l) more.0.parts;
          stood = ((stood.0.0, stood_there b r one stood.0.0 stood.0.1), more.0.stood);
          zip = more.0.zip;
        },
        λ span way is_met has. elim has [
          | inl (es, stands, any) ↦ inl (es, stood_there b r one es stands, any)
          | inr later ↦ inr (more.1 span way is_met later)
        ],
      )
    where
      heads : (x y : Block H) (xs ys : List (Block H)) → x ∷ xs ≡ y ∷ ys → x ≡ y
      heads x y xs ys is = cc

      tails : (x y : Block H) (xs ys : List (Block H)) → x ∷ xs ≡ y ∷ ys → xs ≡ ys
      tails x y xs ys is = cc

  none_zipped : (bs rest : List (Block H)) → AllZip AreOneBlock bs rest → rest ≡ [] → bs ≡ []
  none_zipped [] rest zip none = refl
  none_zipped (b ∷ bs) [] zip none = absurd zip
  none_zipped (b ∷ bs) (c ∷ rest) zip none = absurd (cc)

  pub read_alike : (span : Span) (way : Way) (is_met : Entry → Bool) (ts us : List (Table H)) → AllZip (IsCopied bytes_of) ts us
      → TablesReadTo bytes_of span way is_met us → TablesReadTo bytes_of span way is_met ts
  read_alike span way is_met ts us zip to rises =
      let r = to (rise_alike span ts us zip ∙ rises) in
      let p = parted (blocks_over span way (on_way way ts)) (blocks_over span way (on_way way us)) r.read r.rest
      (zip_over span way (on_way way ts) (on_way way us) (zip_way (IsCopied bytes_of) way ts us zip)) r.parts r.stood in
      record {
        read = p.0.read;
        rest = p.0.later;
        parts = p.0.parts;
        stood = p.0.stood;
        met = elim r.met [
          | inl none ↦ inl (none_zipped p.0.later r.rest p.0.zip none)
          | inr has ↦ inr (p.1 span way is_met has)
        ];
      }

  stop_alike : (span : Span) (way : Way) (fault : ReadFault) (ts us : List (Table H)) → AllZip (IsCopied bytes_of) ts us
      → StopIn bytes_of (blocks_over span way (on_way way us)) fault → StopIn bytes_of (blocks_over span way (on_way way ts)) fault
  stop_alike span way fault ts us zip stop =
      let p = parted (blocks_over span way (on_way way ts)) (blocks_over span way (on_way way us)) stop.read stop.rest
      (zip_over span way (on_way way ts) (on_way way us) (zip_way (IsCopied bytes_of) way ts us zip)) stop.parts stop.stood in
      record {
        read = p.0.read;
        rest = p.0.later;
        parts = p.0.parts;
        stood = p.0.stood;
        stops = stops_there p.0.later stop.rest p.0.zip fault stop.stops;
      }

  -- ---- faults

  copied_at : (ts us : List (Table H)) → AllZip (IsCopied bytes_of) ts us → (i : ℕ) (u : Table H) → slice_get us i ≡ Some u
      → (t : Table H) × (slice_get ts i ≡ Some t) × IsCopied bytes_of t u
  copied_at [] [] zip i u found = absurd (none i found)
    where
      none : (i : ℕ) → slice_get [] i ≡ Some u → ⊥
      none zero is = cc
      none (suc i) is = cc
  copied_at [] (v ∷ us) zip i u found = absurd zip
  copied_at (t ∷ ts) [] zip i u found = absurd zip
  copied_at (t ∷ ts) (v ∷ us) zip zero u found =
      let same : v ≡ u = inside v u found in (t, refl, subst (IsCopied bytes_of t) same zip.0)
    where
      inside : (x y : Table H) → Some x ≡ Some y → x ≡ y
      inside x y is = cc
  copied_at (t ∷ ts) (v ∷ us) zip (suc i) u found = copied_at ts us zip.1 i u found

  fails_alike : (ts us : List (Table H)) → AllZip (IsCopied bytes_of) ts us → (fault : ReadFault) → MayFailOn bytes_of us fault
      → MayFailOn bytes_of ts fault
  fails_alike ts us zip NoMemory may = tt
  fails_alike ts us zip (Disk name) may =
      let (t, found, copied) = copied_at ts us zip may.0 may.1 may.2 in
      (may.0, t, found, may.3 ∙ ap (λ (s : TableShape). table_name s.number) copied.shape)
  fails_alike ts us zip (Damaged name place) may =
      let (t, found, copied) = copied_at ts us zip may.0 may.1 may.2 in (
        may.0,
        t,
        found,
        may.3 ∙ ap (λ (s : TableShape). table_name s.number) copied.shape,
        λ bytes told. subst (λ (s : TableShape). IsBadBlock s bytes place) copied.shape (may.4 bytes (copied.bytes ∙ told)),
      )

  -- where reading copies of tables stops, reading the tables does
  pub stops_alike : (span : Span) (way : Way) (fault : ReadFault) (ts us : List (Table H)) → AllZip (IsCopied bytes_of) ts us
      → MayStopOn bytes_of span way us fault → MayStopOn bytes_of span way ts fault
  stops_alike span way fault ts us zip may =
      (fails_alike ts us zip fault may.0, λ rises. stop_alike span way fault ts us zip (may.1 (rise_alike span ts us zip ∙ rises)))
