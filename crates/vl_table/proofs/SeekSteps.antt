-- A look-up, block by block.
use Rattle.std.specs.Prelude.{◌≡◌, ◌+◌, ◌≤◌, ◌<◌, ℕ, List, length, drop, get_or, Option, Some, None, Ok, Err}
use Rattle.std.specs.List.{prefix_len}
use Rattle.std.specs.Option.{ForSome, option_map}
use Rattle.std.proofs.Common.{drop_of_length-le, refl, ap, sym, subst, ◌∙◌, arith}
use Rattle.vl_model.specs.declared.entry.Entry.{Entry}
use Rattle.vl_model.specs.Lookups.{if_of_key, is_ahead, is_below, IsParted, first_failing, first_over}
use Rattle.vl_model.specs.EntryOrder.{IsInOrder}
use Rattle.vl_model.specs.laws.OrderLaws.{rising}
use Rattle.vl_model.specs.laws.PartLaws.{goes_behind, none_over, stops_in}
use Rattle.vl_table.specs.body.Bytes.{table_bytes}
use Rattle.vl_model.specs.Cutting.{blocks, joined}
use Rattle.vl_table.specs.body.Founds.{found_of}
use Rattle.vl_table.specs.declared.body.found.Found.{Found}
use Rattle.vl_table.specs.declared.body.index.BlockPlace.{BlockPlace}
use Rattle.vl_model.specs.laws.CuttingLaws.{blocks-whole, blocks-some}
use Rattle.vl_table.specs.laws.Places.{length-block_places}
use Rattle.vl_table.specs.Answers.{Answers}
use Rattle.vl_table.specs.Kept.{Files, HasBlock, NoBlock, id_of}
use Rattle.vl_table.specs.KeptBlocks.{AreKept}
use Rattle.vl_table.specs.Meets.{LooksIn}
use Rattle.vl_table.specs.Scans.{IsScan}
use Rattle.vl_table.specs.Seeks.{IsBadBlock}
use Rattle.vl_table.specs.declared.entries.Scan.TheVariants as scans
use Rattle.vl_table.specs.Tables.{IsOf, number_of, shape_of}
use Rattle.vl_table.specs.declared.block_reader.BlockReader.{BlockReader}
use Rattle.vl_disk.specs.declared.read_fault.ReadFault.{ReadFault}
use Rattle.vl_table.specs.declared.slot.Slot.{Slot}
use Rattle.vl_table.specs.declared.table.Table.{Table}
use Rattle.vl_table.specs.laws.TablePlaces.{BlockAt}
use Rattle.vl_table.specs.laws.TrueBlocks.{block_is, block_stands, named_block}
use Rattle.vl_table.proofs.AnswerSteps.{and_then, fails, gives}
use Rattle.vl_table.proofs.Lookups.{first-skipped, index-parted}
use Rattle.vl_table.proofs.MeetSteps.{MetSoFar, met_at_first, met_behind, met_here, met_none}

-- what is found in all entries of the table
abbrev pub Finds : {H : Type 0} → (H → Option (List ℕ)) → Table H → List ℕ → ℕ → List ℕ → Option Found → Type 0
Finds bytes_of t key version bytes found = (es : List Entry) → IsOf bytes_of t es
    → option_map (found_of key) found ≡ if_of_key key (first_over key version (blocks (shape_of t).format es))

-- a slot has the block that was asked for
abbrev pub Loaded : {H : Type 0} → Table H → BlockPlace → Slot → List ℕ → Unit {0} → Type 0
Loaded t p slot bytes done = (es : List Entry) × HasBlock slot (id_of (shape_of t) p) bytes es

-- The blocks up to a position hold nothing at or behind the place, and no read has failed.
pub record Seeking {H R : Type 0} (bytes_of : H → Option (List ℕ)) (t : Table H) (key : List ℕ) (version : ℕ) (files : Files)
    (before now : ℕ) (b : BlockReader R) (at : ℕ) : Type 0 where
  pub steady : now ≡ before
  pub kept : AreKept files b
  pub so_far : (es : List Entry) → IsOf bytes_of t es
      → first_over key version (drop at (blocks (shape_of t).format es)) ≡ first_over key version (blocks (shape_of t).format es)
  -- and each stands, also where the table isn't true
  pub met : ForSome (bytes_of t.held) (λ bytes. MetSoFar (shape_of t) key version bytes at)

pub seeks : {H R : Type 0} (bytes_of : H → Option (List ℕ)) (t : Table H) (key : List ℕ) (version : ℕ) (files : Files) (before : ℕ)
    (b : BlockReader R) (at : ℕ) → AreKept files b
    → (IsParted (λ (p : BlockPlace). is_below key p.last) (shape_of t).blocks.items
    → at ≡ prefix_len (λ (p : BlockPlace). is_below key p.last) (shape_of t).blocks.items)
    → Seeking bytes_of t key version files before before b at
seeks bytes_of t key version files before b at kept first = record {
  steady = refl;
  kept = kept;
  so_far = λ es is.
      let test = λ (p : BlockPlace). is_below key p.last in
      let format = (shape_of t).format in
      let bs = blocks format es in
      let ordered = rising (joined bs) (subst IsInOrder (sym (blocks-whole format es)) is.shape.table.tabled.ordered) in
      let parted = subst (IsParted test) (sym is.shape.blocks) (index-parted key version format 16 bs (blocks-some format es) ordered) in
      ap (λ (n : ℕ). first_over key version (drop n bs)) (first parted ∙ ap (prefix_len test) is.shape.blocks)
      ∙ first-skipped key version format 16 bs ordered;
  met = λ bytes told. met_at_first (shape_of t) key version bytes at first;
}

module _ {H : Type 0} (bytes_of : H → Option (List ℕ)) (t : Table H) (key : List ℕ) (version : ℕ) (i : ℕ) (p : BlockPlace)
    (within : i < length (shape_of t).blocks.items) (found : p ≡ get_or (shape_of t).blocks.items i p) where
  pub load_fails : (a b c : ℕ) (slot : Slot) (e : ReadFault) → b ≡ a
      → Answers {T = Unit {0}} b c (number_of t) (bytes_of t.held) (Loaded t p slot) (NoBlock (shape_of t).format (number_of t) p) (Err e)
      → Answers {T = Option Found} a c (number_of t) (bytes_of t.held) (Finds bytes_of t key version) (IsBadBlock (shape_of t)) (Err e)
  load_fails a b c slot e same load =
      subst (λ (n : ℕ). Answers {T = Option Found} n c (number_of t) (bytes_of t.held) (Finds bytes_of t key version)
      (IsBadBlock (shape_of t)) (Err e)) same
      (fails b c (number_of t) (bytes_of t.held) (Loaded t p slot) (Finds bytes_of t key version)
      (NoBlock (shape_of t).format (number_of t) p) (IsBadBlock (shape_of t)) e
      (λ bytes told damage none. record { at = i; place = p; named = within; place_is = found; none = none }) load)

  -- the block of a true table that was loaded
  pub loaded : (slot : Slot) (bytes : List ℕ) (es others : List Entry) → bytes_of t.held ≡ Some bytes → (is : IsOf bytes_of t es)
      → HasBlock slot (id_of (shape_of t) p) bytes others
      → (b : BlockAt (shape_of t).format 16 (blocks (shape_of t).format es) i p) × (others ≡ b.block)
  loaded slot bytes es others told is has =
      let s = shape_of t in
      let b = named_block s.number s es i p is.shape within found in
      let same : bytes ≡ table_bytes s.format s.number es = some_same bytes (table_bytes s.format s.number es) (sym told ∙ is.told) in (
        b,
        block_is slot (id_of s p) (table_bytes s.format s.number es) others b.block
            (subst (λ (l : List ℕ). HasBlock slot (id_of (shape_of t) p) l others) same has)
            (block_stands s.format s.number es i p is.shape.table b),
      )
    where
      some_same : (x y : List ℕ) → Some x ≡ Some y → x ≡ y
      some_same x y e = cc

  -- what a look-up in a block says: its first entry at or behind the place, and what that is of the key
  abbrev pub Says : Slot → Option Found → Type 0
  Says slot x = (bytes : List ℕ) (es : List Entry) → HasBlock slot (id_of (shape_of t) p) bytes es
      → (e : Entry) × (first_failing (is_ahead key version) es ≡ Some e) × (option_map (found_of key) x ≡ if_of_key key (Some e))

  -- or that all entries come before it
  abbrev pub SaysNone : Slot → Type 0
  SaysNone slot = (bytes : List ℕ) (es : List Entry) → HasBlock slot (id_of (shape_of t) p) bytes es
      → first_failing (is_ahead key version) es ≡ None

  pub found_here : (a b c : ℕ) (slot : Slot) (x : Option Found) → b ≡ a
      → Answers {T = Unit {0}} b c (number_of t) (bytes_of t.held) (Loaded t p slot)
      (NoBlock (shape_of t).format (number_of t) p) (Ok (tt {0}))
      → Says slot x
      → ((es : List Entry) → IsOf bytes_of t es
      → first_over key version (drop i (blocks (shape_of t).format es)) ≡ first_over key version (blocks (shape_of t).format es))
      → Answers {T = Option Found} a c (number_of t) (bytes_of t.held) (Finds bytes_of t key version) (IsBadBlock (shape_of t)) (Ok x)
  found_here a b c slot x same load says so_far =
      subst (λ (n : ℕ). Answers {T = Option Found} n c (number_of t) (bytes_of t.held) (Finds bytes_of t key version)
      (IsBadBlock (shape_of t)) (Ok x)) same
      (and_then b c c (number_of t) (bytes_of t.held) (Loaded t p slot) (λ bytes (y : Option Found). y ≡ x) (Finds bytes_of t key version)
      (NoBlock (shape_of t).format (number_of t) p) (λ bytes damage. ⊥) (IsBadBlock (shape_of t)) (tt {0}) (Ok x)
      (λ bytes told has y is_x es is.
      let one = loaded slot bytes es has.0 told is has.1 in
      let said = says bytes has.0 has.1 in
      let first : first_failing (is_ahead key version) one.0.block ≡ Some said.0 = ap
      (first_failing (is_ahead key version)) (sym one.1) ∙ said.1 in
      let bs = blocks (shape_of t).format es in
      ap (option_map (found_of key)) is_x ∙ said.2 ∙ ap (if_of_key key) (sym first)
      ∙ ap (if_of_key key) (stops_in key version i bs one.0.front one.0.block one.0.back one.0.split one.0.counted
      (first_over key version bs) said.0 first (so_far es is)))
      (λ bytes told has damage none. absurd none) load
      (gives c (number_of t) (bytes_of t.held) (λ bytes (y : Option Found). y ≡ x) (λ bytes damage. ⊥) x (λ bytes told. refl)))

  pub moves_on : {R : Type 0} (a b c : ℕ) (files : Files) (old new : BlockReader R)
      → Seeking bytes_of t key version files a b old i → AreKept files new
      → Answers {T = Unit {0}} b c (number_of t) (bytes_of t.held) (Loaded t p new.front)
      (NoBlock (shape_of t).format (number_of t) p) (Ok (tt {0}))
      → SaysNone new.front
      → Seeking bytes_of t key version files a c new (i + 1)
  moves_on a b c files old new so kept load says = record {
    steady = load.cause.steady (λ no. no) ∙ so.steady;
    kept = kept;
    so_far = λ es is.
        let s = shape_of t in
        let bytes = table_bytes s.format s.number es in
        let has = load.answer bytes is.told in
        let one = loaded new.front bytes es has.0 is.told is has.1 in
        let bs = blocks s.format es in
        goes_behind key version i bs one.0.front one.0.block one.0.back one.0.split one.0.counted (first_over key version bs)
        (ap (first_failing (is_ahead key version)) (sym one.1) ∙ says bytes has.0 has.1) (so.so_far es is);
    met = λ bytes told.
        let has = load.answer bytes told in
        met_behind (shape_of t) key version bytes i p within found has.0 has.1.has.stands (so.met bytes told) (says bytes has.0 has.1);
  }

  -- what was found was met
  pub looks_here : (b c : ℕ) (slot : Slot) (x : Option Found)
      → Answers {T = Unit {0}} b c (number_of t) (bytes_of t.held) (Loaded t p slot)
      (NoBlock (shape_of t).format (number_of t) p) (Ok (tt {0}))
      → Says slot x → ForSome (bytes_of t.held) (λ bytes. MetSoFar (shape_of t) key version bytes i)
      → LooksIn bytes_of (if_of_key key) t key version (Ok x)
  looks_here b c slot x load says met = λ bytes told.
      let has = load.answer bytes told in
      let said = says bytes has.0 has.1 in
      met_here (shape_of t) key version bytes i p within found has.0 has.1.has.stands (if_of_key key) said.0
      (option_map (found_of key) x) (met bytes told) said.1 said.2

-- what a look-up in a block says of its first entry at or behind the place
pub says_at : {H : Type 0} (key : List ℕ) (version : ℕ) (t : Table H) (p : BlockPlace) (slot : Slot) (f : Found)
    → ((bytes : List ℕ) (es : List Entry) → HasBlock slot (id_of (shape_of t) p) bytes es
    → IsScan key (first_failing (is_ahead key version) es) (scans.At f))
    → (bytes : List ℕ) (es : List Entry) → HasBlock slot (id_of (shape_of t) p) bytes es
    → (e : Entry) × (first_failing (is_ahead key version) es ≡ Some e) × (option_map (found_of key) (Some f) ≡ if_of_key key (Some e))
says_at key version t p slot f scan bytes es has =
    let said = scan bytes es has in (found_of key f, said.0, sym (sym (ap (if_of_key key) said.0) ∙ said.1))

pub says_other : {H : Type 0} (key : List ℕ) (version : ℕ) (t : Table H) (p : BlockPlace) (slot : Slot)
    → ((bytes : List ℕ) (es : List Entry) → HasBlock slot (id_of (shape_of t) p) bytes es
    → IsScan key (first_failing (is_ahead key version) es) scans.Other)
    → (bytes : List ℕ) (es : List Entry) → HasBlock slot (id_of (shape_of t) p) bytes es
    → (e : Entry) × (first_failing (is_ahead key version) es ≡ Some e) × (option_map (found_of key) None ≡ if_of_key key (Some e))
says_other key version t p slot scan bytes es has =
    let said = scan bytes es has in (said.0, said.1, sym (sym (ap (if_of_key key) said.1) ∙ said.2))

-- no block is left
pub finds_none : {H R : Type 0} (bytes_of : H → Option (List ℕ)) (t : Table H) (key : List ℕ) (version : ℕ) (files : Files) (a c : ℕ)
    (b : BlockReader R) (at : ℕ) → Seeking bytes_of t key version files a c b at → length (shape_of t).blocks.items ≤ at
    → Answers {T = Option Found} a c (number_of t) (bytes_of t.held) (Finds bytes_of t key version) (IsBadBlock (shape_of t)) (Ok None)
finds_none bytes_of t key version files a c b at so past =
    subst (λ (n : ℕ). Answers {T = Option Found} n c (number_of t) (bytes_of t.held) (Finds bytes_of t key version)
    (IsBadBlock (shape_of t)) (Ok None)) so.steady
    (gives c (number_of t) (bytes_of t.held) (Finds bytes_of t key version) (IsBadBlock (shape_of t)) None
    (λ bytes told es is.
    let bs = blocks (shape_of t).format es in
    sym (ap (if_of_key key) (sym (so.so_far es is)
    ∙ none_over key version at bs (omega (arith, past, ap length is.shape.blocks, length-block_places (shape_of t).format 16 bs))))))

pub looks_none : {H R : Type 0} (bytes_of : H → Option (List ℕ)) (t : Table H) (key : List ℕ) (version : ℕ) (files : Files) (a c : ℕ)
    (b : BlockReader R) (at : ℕ) → Seeking bytes_of t key version files a c b at → length (shape_of t).blocks.items ≤ at
    → LooksIn bytes_of (if_of_key key) t key version (Ok None)
looks_none bytes_of t key version files a c b at so past = λ bytes told.
    met_none (shape_of t) key version bytes (if_of_key key) at (so.met bytes told) (drop_of_length-le (shape_of t).blocks.items past) refl
