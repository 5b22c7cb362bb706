-- What a cursor has left, step by step.
use Rattle.std.specs.Prelude.{◌≡◌, ◌+◌, ◌-◌, ◌<◌, ◌≤◌, ◌&&◌, ℕ, zero, suc, Bool, true, false, if◌then◌else◌, List, []}
use Rattle.std.specs.Prelude.{◌∷◌, ◌++◌, get_or, length, map, Option, Some, None, Err}
use Rattle.std.specs.List.{list_all, slice_get}
use Rattle.std.specs.Option.{ForSome, option_and_then, option_map}
use Rattle.std.proofs.Common.{cond, refl, ap, sym, subst, ◌∙◌, arith}
use Rattle.std.proofs.lemmas.List.{take_all}
use Rattle.std.proofs.lemmas.List.Sums.{sum_by-cons}
use Rattle.vl_model.specs.Cursors.{Gives, Keeps}
use Rattle.vl_model.specs.Reads.{is_in_span}
use Rattle.vl_model.specs.declared.entry.Entry.{Entry}
use Rattle.vl_model.specs.declared.span.Span.{Span}
use Rattle.vl_model.specs.declared.way.Way.{Way}
use Rattle.vl_model.specs.EntryOrder.{within}
use Rattle.vl_model.specs.laws.Places.{slice_get-within}
use Rattle.vl_table.specs.declared.body.index.BlockPlace.{BlockPlace}
use Rattle.vl_table.specs.CursorParts.{Block, StandsWith, MayFailOn, StopsBefore, block_count, blocks_at, blocks_over}
use Rattle.vl_table.specs.CursorParts.{entries_told, index_in, index_of, rise_over}
use Rattle.vl_table.specs.SpanBlocks.{blocks_in, rises_over}
use Rattle.vl_table.specs.Standing.{standing_entries}
use Rattle.vl_table.specs.Stretches.{IsNextOn, on_way, stretch_of}
use Rattle.vl_table.specs.Tables.{number_of, shape_of}
use Rattle.vl_table.specs.Answers.{Answers}
use Rattle.vl_table.specs.Kept.{IsMissing, NoBlock, StandsBlock, id_of}
use Rattle.vl_table.specs.Seeks.{IsBadBlock}
use Rattle.vl_disk.specs.declared.read_fault.ReadFault.{ReadFault}
use Rattle.vl_disk.specs.declared.read_fault.ReadFault.TheVariants.{NoMemory, Disk, Damaged}
use Rattle.vl_table.specs.declared.slot.BlockId.{BlockId}
use Rattle.vl_disk.specs.declared.name.Name.TheVariants.{Table as table_name}
use Rattle.vl_table.specs.declared.body.shape.TableShape.{TableShape}
use Rattle.vl_table.specs.declared.stretch.Stretch.{Stretch}
use Rattle.vl_table.specs.declared.table.Table.{Table}
use Rattle.vl_table.proofs.StandingBlocks.{standing-says}
use Rattle.vl_table.proofs.StretchSteps.{end_on, less_on, step_on}

-- ---- one entry

pub given_here : (span : Span) (e : Entry) (es : List Entry) → is_in_span span e.key ≡ true → within span (e ∷ es) ≡ e ∷ within span es
given_here span e es is = ap (λ (t : Bool). cond t (e ∷ within span es) (within span es)) is

pub skipped_here : (span : Span) (e : Entry) (es : List Entry) → is_in_span span e.key ≡ false → within span (e ∷ es) ≡ within span es
skipped_here span e es is = ap (λ (t : Bool). cond t (e ∷ within span es) (within span es)) is

-- of an interval the next entry of a stretch, and none of the next one
pub gives_next : (span : Span) (way : Way) (block : List Entry) (entries rest : Stretch) (at : ℕ) (e : Entry) → IsNextOn way entries at rest
    → entries.end ≤ length block → e ≡ get_or block at e → is_in_span span e.key ≡ true
    → within span (on_way way (stretch_of entries block)) ≡ e ∷ within span (on_way way (stretch_of rest block))
gives_next span way block entries rest at e next inside found is =
    ap (within span) (step_on way entries rest at block e inside next
    ∙ ap (λ (f : Entry). f ∷ on_way way (stretch_of rest block)) (sym found))
    ∙ given_here span e (on_way way (stretch_of rest block)) is

pub skips_next : (span : Span) (way : Way) (block : List Entry) (entries rest : Stretch) (at : ℕ) (e : Entry) → IsNextOn way entries at rest
    → entries.end ≤ length block → e ≡ get_or block at e → is_in_span span e.key ≡ false
    → within span (on_way way (stretch_of entries block)) ≡ within span (on_way way (stretch_of rest block))
skips_next span way block entries rest at e next inside found is =
    ap (within span) (step_on way entries rest at block e inside next
    ∙ ap (λ (f : Entry). f ∷ on_way way (stretch_of rest block)) (sym found))
    ∙ skipped_here span e (on_way way (stretch_of rest block)) is

-- all of a block
pub whole_block : (block : List Entry) (n : ℕ) → n ≡ length block → stretch_of (record { first = 0; end = n }) block ≡ block
whole_block block n is = take_all (n - 0) block (omega (arith, is))

-- ---- one table

and_left : (a b : Bool) → a && b ≡ true → a ≡ true
and_left true b is = refl
and_left false b is = absurd cc

and_right : (a b : Bool) → a && b ≡ true → b ≡ true
and_right true b is = is
and_right false b is = absurd cc

of_each : {X : Type 0} (test : X → Bool) (xs : List X) (i : ℕ) (d : X) → list_all test xs ≡ true → i < length xs
    → test (get_or xs i d) ≡ true
of_each test [] i d all less = absurd (omega arith)
of_each test (x ∷ xs) zero d all less = and_left (test x) (list_all test xs) all
of_each test (x ∷ xs) (suc i) d all less = of_each test xs i d (and_right (test x) (list_all test xs) all) (omega arith)

module _ {H : Type 0} where
  pub none_at : (way : Way) (o : Option (Table H)) (s : Stretch) → s.end ≤ s.first → blocks_at way o s ≡ []
  none_at way None s past = refl
  none_at way (Some t) s past = ap (map (λ (p : BlockPlace). (t, p))) (end_on way s (index_of t) past)

  pub named_at : (ts : List (Table H)) (at : ℕ) (t : Table H) (n : ℕ) → t ≡ get_or ts at t → at < length ts → n ≤ length (index_of t)
      → n ≤ length (index_in (slice_get ts at))
  named_at ts at t n found inside few =
      subst (λ (o : Option (Table H)). n ≤ length (index_in o)) (sym (slice_get-within ts at t inside ∙ ap Some (sym found))) few

  -- a table is begun
  pub begun : (span : Span) (way : Way) (ts : List (Table H)) (later rest : Stretch) (at table : ℕ) (t : Table H) (old new : Stretch)
      → later.end ≤ length ts → IsNextOn way later at rest → t ≡ get_or ts at t → old.end ≤ old.first
      → (rises_over span (index_of t) ≡ true → new ≡ blocks_in span (shape_of t)) → rise_over span ts ≡ true
      → blocks_at way (slice_get ts at) new ++ blocks_over span way (on_way way (stretch_of rest ts))
      ≡ blocks_at way (slice_get ts table) old ++ blocks_over span way (on_way way (stretch_of later ts))
  begun span way ts later rest at table t old new within_is next found past range rises =
      let inside : at < length ts = omega (arith, (less_on way later rest at next).1, within_is) in
      let here : slice_get ts at ≡ Some t = slice_get-within ts at t inside ∙ ap Some (sym found) in
      let rise : rises_over span (index_of t) ≡ true = ap (λ (u : Table H). rises_over span (index_of u)) found
      ∙ of_each (λ (u : Table H). rises_over span (index_of u)) ts at t rises inside in
      let others = blocks_over span way (on_way way (stretch_of rest ts)) in
      let opens : on_way way (stretch_of later ts) ≡ t ∷ on_way way (stretch_of rest ts) =
      step_on way later rest at ts t within_is next ∙ ap (λ (u : Table H). u ∷ on_way way (stretch_of rest ts)) (sym found) in
      (λ i. blocks_at way (here i) (range rise i) ++ others)
      ∙ sym ((λ i. none_at way (slice_get ts table) old past i ++ blocks_over span way (opens i)))

  pub begun_fewer : (way : Way) (ts : List (Table H)) (later rest : Stretch) (at : ℕ) (t : Table H) (old new : Stretch)
      → later.end ≤ length ts → IsNextOn way later at rest → t ≡ get_or ts at t → new.end ≤ length (index_of t)
      → (new.end - new.first) + block_count (on_way way (stretch_of rest ts)) ≤ (old.end - old.first) + block_count
      (on_way way (stretch_of later ts))
  begun_fewer way ts later rest at t old new within_is next found few =
      let opens : on_way way (stretch_of later ts) ≡ t ∷ on_way way (stretch_of rest ts) =
      step_on way later rest at ts t within_is next ∙ ap (λ (u : Table H). u ∷ on_way way (stretch_of rest ts)) (sym found) in
      omega (arith, few, ap block_count opens, sum_by-cons (λ (u : Table H). length (index_of u)) t (on_way way (stretch_of rest ts)))

  pub none_left : (span : Span) (way : Way) (ts : List (Table H)) (later : Stretch) (table : ℕ) (blocks : Stretch)
      → later.end ≤ later.first → blocks.end ≤ blocks.first
      → blocks_at way (slice_get ts table) blocks ++ blocks_over span way (on_way way (stretch_of later ts)) ≡ []
  none_left span way ts later table blocks past none =
      λ i. none_at way (slice_get ts table) blocks none i ++ blocks_over span way (end_on way later ts past i)

  -- a block is read
  pub block_taken : (way : Way) (ts : List (Table H)) (table : ℕ) (t : Table H) (blocks rest : Stretch) (at : ℕ)
      (p : BlockPlace) (others : List (Block H))
      → slice_get ts table ≡ Some t → blocks.end ≤ length (index_in (slice_get ts table)) → IsNextOn way blocks at rest
      → p ≡ get_or (index_of t) at p
      → blocks_at way (slice_get ts table) blocks ++ others ≡ (t, p) ∷ (blocks_at way (slice_get ts table) rest ++ others)
  block_taken way ts table t blocks rest at p others here within_is next found =
      let inside : blocks.end ≤ length (index_of t) = subst (λ (o : Option (Table H)). blocks.end ≤ length (index_in o)) here within_is in
      let opens : on_way way (stretch_of blocks (index_of t)) ≡ p ∷ on_way way (stretch_of rest (index_of t)) =
      step_on way blocks rest at (index_of t) p inside next
      ∙ ap (λ (q : BlockPlace). q ∷ on_way way (stretch_of rest (index_of t))) (sym found) in
      ap (λ (o : Option (Table H)). blocks_at way o blocks ++ others) here
      ∙ ap (λ (l : List BlockPlace). map (λ (q : BlockPlace). (t, q)) l ++ others) opens
      ∙ sym (ap (λ (o : Option (Table H)). (t, p) ∷ (blocks_at way o rest ++ others)) here)

  -- what a fault says of a block that wasn't read
  pub fails_at : (bytes_of : H → Option (List ℕ)) (ts : List (Table H)) (i : ℕ) (t : Table H) (s : TableShape)
      (held : H) (id : BlockId) (p : BlockPlace) (at before now : ℕ)
      (good : List ℕ → Unit {0} → Type 0) (e : ReadFault) → slice_get ts i ≡ Some t → s ≡ shape_of t → held ≡ t.held
      → id ≡ id_of s p → p ≡ get_or s.blocks.items at p
      → at < length s.blocks.items → Answers {T = Unit {0}} before now id.number (bytes_of held) good (IsMissing id)
      (Err e) → MayFailOn bytes_of ts e
  fails_at bytes_of ts i t s held id p at before now good NoMemory here shape is named found inside a = tt
  fails_at bytes_of ts i t s held id p at before now good (Disk name) here shape is named found inside a =
      (i, t, here, a.named ∙ ap table_name (ap (λ (x : BlockId). x.number) named ∙ ap (λ (x : TableShape). x.number) shape))
  fails_at bytes_of ts i t s held id p at before now good (Damaged name place) here shape is named found inside a = (
    i,
    t,
    here,
    a.named ∙ ap table_name (ap (λ (x : BlockId). x.number) named ∙ ap (λ (x : TableShape). x.number) shape),
    λ bytes told. subst (λ (x : TableShape). IsBadBlock x bytes place) shape (record {
      at = at;
      place = p;
      named = inside;
      place_is = found;
      none = subst (λ (x : BlockId). IsMissing x bytes place) named (a.answer bytes (ap bytes_of is ∙ told));
    }),
  )

  -- and it is the next one
  pub stops_before : (bytes_of : H → Option (List ℕ)) (bs later : List (Block H)) (t : Table H) (s : TableShape)
      (held : H) (id : BlockId) (p : BlockPlace) (before now : ℕ)
      (good : List ℕ → Unit {0} → Type 0) (e : ReadFault) → bs ≡ (t, p) ∷ later → s ≡ shape_of t → held ≡ t.held → id ≡ id_of s p
      → Answers {T = Unit {0}} before now id.number (bytes_of held) good (IsMissing id) (Err e) → StopsBefore bytes_of bs e
  stops_before bytes_of bs later t s held id p before now good NoMemory first shape is named a = tt
  stops_before bytes_of bs later t s held id p before now good (Disk name) first shape is named a = record {
    block = (t, p);
    later = later;
    first = first;
    named = a.named ∙ ap table_name (ap (λ (x : BlockId). x.number) named ∙ ap (λ (x : TableShape). x.number) shape);
  }
  stops_before bytes_of bs later t s held id p before now good (Damaged name place) first shape is named a = record {
    block = (t, p);
    later = later;
    first = first;
    named = a.named ∙ ap table_name (ap (λ (x : BlockId). x.number) named ∙ ap (λ (x : TableShape). x.number) shape);
    none = λ bytes told. subst (λ (x : TableShape). NoBlock x.format x.number p bytes place) shape
        (subst (λ (x : BlockId). IsMissing x bytes place) named (a.answer bytes (ap bytes_of is ∙ told)));
  }

  -- what it says of one that was
  pub stands_at : (bytes_of : H → Option (List ℕ)) (t : Table H) (s : TableShape) (held : H) (id : BlockId)
      (p : BlockPlace) (es : List Entry) → s ≡ shape_of t → held ≡ t.held
      → id ≡ id_of s p → ForSome (bytes_of held) (λ bytes. StandsBlock id.format id.number bytes id.place id.length es)
      → StandsWith bytes_of (t, p) es
  stands_at bytes_of t s held id p es shape is named stands = λ bytes told.
      subst (λ (x : BlockId). StandsBlock x.format x.number bytes x.place x.length es) (named ∙ ap (λ (x : TableShape). id_of x p) shape)
      (stands bytes (ap bytes_of is ∙ told))

-- ---- what is left

abbrev pub left_of : Bool → List Entry → Option (List Entry) → Option (List Entry)
left_of rises here told = if rises then option_map (λ later. here ++ later) told else None

-- nothing of a block that was read
pub left_begun : (b : Bool) (o : Option (List Entry)) → left_of b [] o ≡ (if b then o else None)
left_begun true None = refl
left_begun true (Some later) = refl
left_begun false o = refl

pub keeps_all : (b : Bool) (o p : Option (List Entry)) (xs ys : List Entry) → (b ≡ true → o ≡ p) → xs ≡ ys
    → Keeps (left_of b xs o) (left_of b ys p)
keeps_all true o p xs ys same here = λ left is. sym (λ i. option_map (λ later. here i ++ later) (same refl i)) ∙ is
keeps_all false o p xs ys same here = λ left is. absurd cc

pub keeps_on : (a b c : Option (List Entry)) → Keeps a b → Keeps b c → Keeps a c
keeps_on a b c first second = λ left is. second left (first left is)

pub gives_one : (b : Bool) (o : Option (List Entry)) (xs ys : List Entry) (e : Entry) → xs ≡ e ∷ ys
    → Gives (left_of b xs o) (left_of b ys o) (Some e)
gives_one true None xs ys e is = λ left told. absurd cc
gives_one true (Some later) xs ys e is = λ left told.
    (ys ++ later, (sym (inside (xs ++ later) left told) ∙ ap (λ (l : List Entry). l ++ later) is), refl)
  where
    inside : (x y : List Entry) → Some x ≡ Some y → x ≡ y
    inside x y e = cc
gives_one false o xs ys e is = λ left told. absurd cc

pub gives_none : (b : Bool) (o p : Option (List Entry)) (xs ys : List Entry) → (b ≡ true → o ≡ Some [])
    → (b ≡ true → p ≡ Some []) → xs ≡ [] → ys ≡ []
    → Gives (left_of b xs o) (left_of b ys p) None
gives_none true o p xs ys none same here now = λ left told.
    let empty : option_map (λ later. xs ++ later) o ≡ Some [] = λ i. option_map (λ later. here i ++ later) (none refl i) in
    (inside left [] (sym told ∙ empty), λ i. option_map (λ later. now i ++ later) (same refl i))
  where
    inside : (x y : List Entry) → Some x ≡ Some y → x ≡ y
    inside x y e = cc
gives_none false o p xs ys none same here now = λ left told. absurd cc

-- a gift after something was kept
pub gives_on : (a b c : Option (List Entry)) (next : Option Entry) → Keeps a b → Gives b c next → Gives a c next
gives_on a b c None kept gives = λ left told. gives left (kept left told)
gives_on a b c (Some e) kept gives = λ left told. gives left (kept left told)

module _ {H : Type 0} (bytes_of : H → Option (List ℕ)) (span : Span) (way : Way) where
  -- the entries of a block that stood come to the front
  pub reads_in : (b : Bool) (block : Block H) (old new : List (Block H)) (es xs ys : List Entry) → (b ≡ true → old ≡ block ∷ new)
      → StandsWith bytes_of block es → xs ≡ [] → ys ≡ within span (on_way way es)
      → Keeps (left_of b xs (entries_told bytes_of span way old)) (left_of b ys (entries_told bytes_of span way new))
  reads_in false block old new es xs ys passed stood none taken = λ left is. absurd cc
  reads_in true block old new es xs ys passed stood none taken =
      by (bytes_of block.0.held) refl (entries_told bytes_of span way new) refl
    where
      part : List ℕ → List Entry
      part bytes = within span (on_way way (standing_entries (shape_of block.0).format (number_of block.0) bytes block.1))

      whole : Option (List ℕ) → Option (List Entry) → Option (List Entry)
      whole told later = option_and_then (λ bytes. option_map (λ l. part bytes ++ l) later) told

      first : (told : Option (List ℕ)) → bytes_of block.0.held ≡ told
          → option_map (λ l. xs ++ l) (entries_told bytes_of span way old) ≡ option_map (λ (l : List Entry). l)
          (whole told (entries_told bytes_of span way new))
      first told is = λ i. option_map (λ l. none i ++ l)
          (((ap (entries_told bytes_of span way) (passed refl)) ∙ ap (λ o. whole o (entries_told bytes_of span way new)) is) i)

      by : (told : Option (List ℕ)) → bytes_of block.0.held ≡ told → (later : Option (List Entry))
          → entries_told bytes_of span way new ≡ later
          → Keeps (option_map (λ l. xs ++ l) (entries_told bytes_of span way old))
          (option_map (λ l. ys ++ l) (entries_told bytes_of span way new))
      by None is later more = λ left told. let gone = first None is in absurd cc
      by (Some bytes) is None more = λ left told. let gone = first (Some bytes) is
          ∙ ap (λ o. option_map (λ (l : List Entry). l) (whole (Some bytes) o)) more in absurd cc
      by (Some bytes) is (Some later) more = λ left told.
          let was = first (Some bytes) is ∙ ap (λ o. option_map (λ (l : List Entry). l) (whole (Some bytes) o)) more in
          let says : part bytes ≡ ys =
          ap (λ (l : List Entry). within span (on_way way l))
          (standing-says (shape_of block.0).format (number_of block.0) bytes block.1 es (stood bytes is)) ∙ sym taken in
          ap (option_map (λ l. ys ++ l)) more ∙ ap (λ (l : List Entry). Some (l ++ later)) (sym says) ∙ sym was ∙ told
