-- How what is written grows.
use Rattle.vl_model.specs.Formats.{table_format}
use Rattle.std.specs.Prelude.{◌≡◌, ℕ, ◌≤◌, ◌<◌, ◌^◌, ◌+◌, max, ◌-◌, not, Bool, true, false, nat_le, if◌then◌else◌, List, [], ◌∷◌, ◌++◌, length, map}
use Rattle.std.specs.List.{sum_by}
use Rattle.std.proofs.Common.{cond, refl, ap, sym, subst, ◌∙◌, length-append, append-nil, append_assoc, arith}
use Rattle.std.proofs.lemmas.Bool.Decides.{nat_tests}
use Rattle.std.proofs.lemmas.List.Sums.{sum_by-cons}
use Rattle.vl_frame.specs.Frame.{frame_bytes}
use Rattle.vl_frame.specs.declared.kinds.FrameKind.TheVariants as kinds
use Rattle.std.specs.Ordering.{eq_by_cmp}
use Rattle.std.proofs.lemmas.List.{map-append}
use Rattle.vl_filter.specs.Places.{hashes_of}
use Rattle.vl_filter.specs.declared.hashes.Hashes.{Hashes}
use Rattle.vl_model.specs.Keys.{key_cmp}
use Rattle.vl_model.specs.laws.WinnerLaws.{same_key}
use Rattle.vl_model.specs.declared.entry.Entry.{Entry}
use Rattle.vl_model.specs.Cutting.{begun_length, block_frame_length, blocks, blocks_from, entry_length, first_key}
use Rattle.vl_model.specs.Cutting.{keys_of, last_key, max_block_bytes, with_key}
use Rattle.vl_model.specs.laws.OrderLaws.{all-append}
use Rattle.vl_table.specs.body.Blocks.{block_body}
use Rattle.vl_table.specs.body.Entries.{IsEntry}
use Rattle.vl_table.specs.declared.body.index.BlockPlace.{BlockPlace}
use Rattle.vl_table.specs.body.Bytes.{block_places, blocks_bytes, greatest_version, table_header}
use Rattle.vl_table.specs.laws.Lengths.{length-block_body}
use Rattle.vl_table.specs.laws.Places.{blocks-split}
use Rattle.vl_table.specs.writer.Writing.{HasBlocks, HasRoom, IsWriting, MayCome, Sums, blocks_end, end_of}
use Rattle.vl_table.proofs.Behind.{in_order-push}
use Rattle.vl_table.specs.declared.writer.summary.Summary.{Summary}
use Rattle.vl_table.specs.declared.writer.table_writer.TableWriter.{TableWriter}

pub last_key-push : (es : List Entry) (e : Entry) → last_key (es ++ e ∷ []) ≡ e.key
last_key-push [] e = refl
last_key-push (d ∷ []) e = refl
last_key-push (d ∷ f ∷ es) e = last_key-push (f ∷ es) e

pub greatest-push : (es : List Entry) (e : Entry) → greatest_version (es ++ e ∷ []) ≡ max (greatest_version es) e.version
greatest-push [] e = omega arith
greatest-push (d ∷ es) e = omega (arith, greatest-push es e)

pub sum-push : (closed : List (List Entry)) (b : List Entry)
    → sum_by (block_frame_length table_format) (closed ++ b ∷ []) ≡ sum_by (block_frame_length table_format) closed
    + block_frame_length table_format b
sum-push [] b = omega (arith, sum_by-cons (block_frame_length table_format) b [])
sum-push (a ∷ closed) b =
    omega (
      arith,
      sum_by-cons (block_frame_length table_format) a (closed ++ b ∷ []),
      sum_by-cons
          (block_frame_length table_format) a closed,
      sum-push closed b,
    )

pub places-push : (at : ℕ) (closed : List (List Entry)) (b : List Entry)
    → block_places table_format at (closed ++ b ∷ []) ≡ block_places table_format at closed ++ record
    { place = at + sum_by (block_frame_length table_format) closed; length = block_frame_length table_format b; last = last_key b } ∷ []
places-push at [] b = let same : at ≡ at + 0 = omega arith in ap
    (λ (n : ℕ). record { place = n; length = block_frame_length table_format b; last = last_key b } ∷ []) same
places-push at (a ∷ closed) b =
    let first : BlockPlace = record { place = at; length = block_frame_length table_format a; last = last_key a } in
    let place : at + block_frame_length table_format a + sum_by (block_frame_length table_format) closed ≡ at + sum_by
    (block_frame_length table_format) (a ∷ closed) = omega (arith, sum_by-cons (block_frame_length table_format) a closed) in
    ap (λ l. first ∷ l) (places-push (at + block_frame_length table_format a) closed b)
    ∙ ap (λ (n : ℕ). first ∷
    (block_places table_format (at + block_frame_length table_format a) closed ++ record
    { place = n; length = block_frame_length table_format b; last = last_key b } ∷ [])) place

pub first_key-push : (es : List Entry) (e : Entry) → 1 ≤ length es → first_key (es ++ e ∷ []) ≡ first_key es
first_key-push [] e some = absurd (omega arith)
first_key-push (d ∷ es) e some = refl

pub places_alike : (ps : List BlockPlace) (place other_place size other_size : ℕ) (last other_last : List ℕ)
    → place ≡ other_place → size ≡ other_size → last ≡ other_last
    → ps ++ record { place = place; length = size; last = last } ∷ [] ≡ ps ++ record
    { place = other_place; length = other_size; last = other_last } ∷ []
places_alike ps place other_place size other_size last other_last a b c = λ k. ps ++ record { place = a k; length = b k; last = c k } ∷ []

-- ---- a table that grows

-- the frame of the block that is closed stands behind the others
pub closed_frame : (number : ℕ) (closed : List (List Entry)) (b : List Entry) (said place : ℕ) (frame : List ℕ)
    → said ≡ number → place ≡ 16 + sum_by (block_frame_length table_format) closed
    → frame ≡ frame_bytes said place kinds.Block (block_body table_format b)
    → blocks_bytes table_format number 16 closed ++ frame ≡ blocks_bytes table_format number 16 (closed ++ b ∷ [])
closed_frame number closed b said place frame numbered at written =
    ap (λ (l : List ℕ). (blocks_bytes table_format) number 16 closed ++ l)
    (written ∙ ap (λ (n : ℕ). frame_bytes n place kinds.Block (block_body table_format b)) numbered
    ∙ ap (λ (n : ℕ). frame_bytes number n kinds.Block (block_body table_format b)) at
    ∙ sym (append-nil (frame_bytes number (16 + sum_by (block_frame_length table_format) closed) kinds.Block (block_body table_format b))))
    ∙ sym (blocks-split table_format number 16 closed b [])

pub begins : (w : TableWriter) (number : ℕ) (e : Entry) → number < 2 ^ 32 → w.blocks.number ≡ number → HasBlocks w.blocks [] (e ∷ [])
    → Sums w.summary (e ∷ []) → IsEntry table_format e
    → IsWriting w number (e ∷ []) (table_header table_format number)
begins w number e fits numbered has sums lawful = record {
  some = omega arith;
  closed = [];
  open_block = e ∷ [];
  numbered = numbered;
  fits = fits;
  has = has;
  sums = sums;
  each = (lawful, tt);
  ordered = refl;
  given_out = sym (append-nil (table_header table_format number));
  last = refl;
  cut = λ later. ap (λ (n : ℕ). (blocks_from table_format) (e ∷ []) n later) (begun e);
}
  where
    begun : (e : Entry) → begun_length table_format e ≡ length (block_body table_format (e ∷ []))
    begun e = omega (arith, length-block_body table_format (e ∷ []), sum_by-cons (entry_length table_format) e [])

chosen : (b : Bool) (x y : List (List Entry)) → b ≡ true → (if b then x else y) ≡ x
chosen true x y is = refl
chosen false x y is = absurd cc

not_chosen : (b : Bool) (x y : List (List Entry)) → b ≡ false → (if b then x else y) ≡ y
not_chosen true x y is = absurd cc
not_chosen false x y is = refl

body-push : (open_block : List Entry) (e : Entry)
    → length (block_body table_format open_block) + entry_length table_format e ≡ length (block_body table_format (open_block ++ e ∷ []))
body-push open_block e = omega
    (arith, length-block_body table_format open_block, length-block_body table_format (open_block ++ e ∷ []), entries-push open_block e)
  where
    entries-push : (es : List Entry) (e : Entry) → sum_by (entry_length table_format) (es ++ e ∷ []) ≡ sum_by
        (entry_length table_format) es + entry_length table_format e
    entries-push [] e = omega (arith, sum_by-cons (entry_length table_format) e [])
    entries-push (d ∷ es) e = omega
        (arith, sum_by-cons (entry_length table_format) d (es ++ e ∷ []), sum_by-cons (entry_length table_format) d es, entries-push es e)

-- where the blocks end with an entry in the open one
pub full_is : (closed : List (List Entry)) (open_block : List Entry) (e : Entry) (place n end : ℕ)
    → place ≡ 16 + sum_by (block_frame_length table_format) closed → n ≡ length (block_body table_format open_block)
    → end ≡ place + (n + 13) → end_of (closed ++ (open_block ++ e ∷ []) ∷ []) ≡ end + entry_length table_format e
full_is closed open_block e place n end at long is =
    omega (
      arith,
      at,
      long,
      is,
      sum-push closed (open_block ++ e ∷ []),
      body-push open_block e,
      length-block_body table_format open_block,
      length-block_body table_format (open_block ++ e ∷ []),
    )

-- and where they end with one more
pub ends_open : (closed : List (List Entry)) (open_block : List Entry) (e : Entry) (place n : ℕ)
    → place ≡ 16 + sum_by (block_frame_length table_format) closed → n ≡ length (block_body table_format open_block)
    → nat_le (length (block_body table_format open_block) + entry_length table_format e) max_block_bytes ≡ true
    → end_of (closed ++ blocks_from table_format open_block (length (block_body table_format open_block)) (e ∷ []))
    ≡ place + (n + 13) + entry_length table_format e
ends_open closed open_block e place n at long room =
    ap (λ bs. end_of (closed ++ bs))
    (chosen (nat_le (length (block_body table_format open_block) + entry_length table_format e) max_block_bytes)
    ((open_block ++ e ∷ []) ∷ []) (open_block ∷ (e ∷ []) ∷ []) room)
    ∙ full_is closed open_block e place n (place + (n + 13)) at long refl

pub ends_behind : (closed : List (List Entry)) (open_block : List Entry) (e : Entry) (place n : ℕ)
    → place ≡ 16 + sum_by (block_frame_length table_format) closed → n ≡ length (block_body table_format open_block)
    → nat_le (length (block_body table_format open_block) + entry_length table_format e) max_block_bytes ≡ false
    → end_of (closed ++ blocks_from table_format open_block (length (block_body table_format open_block)) (e ∷ []))
    ≡ place + (n + 13) + 17 + entry_length table_format e
ends_behind closed open_block e place n at long full =
    ap (λ bs. end_of (closed ++ bs))
    (not_chosen (nat_le (length (block_body table_format open_block) + entry_length table_format e) max_block_bytes)
    ((open_block ++ e ∷ []) ∷ []) (open_block ∷ (e ∷ []) ∷ []) full
    ) ∙ omega (
      arith,
      at,
      long,
      length-block_body table_format open_block,
      sum-push closed open_block,
      sum-push (closed ++ open_block ∷ []) (e ∷ []),
      sum_by-cons (entry_length table_format) e [],
      ap (sum_by (block_frame_length table_format)) (append_assoc closed (open_block ∷ []) ((e ∷ []) ∷ [])),
    )

pub past_end : (end m total : ℕ) → total ≡ end + m → 4294967295 < end → true ≡ nat_le (2 ^ 32) total
past_end end m total is past = grind (arith, nat_tests, is, past)

pub up_to_end : (end m total : ℕ) → total ≡ end + m → end ≤ 4294967295 → not (nat_le m (4294967295 - end)) ≡ nat_le (2 ^ 32) total
up_to_end end m total is low = grind (arith, nat_tests, is, low)

pub is_short : (total : ℕ) → nat_le (2 ^ 32) total ≡ false → total < 2 ^ 32
is_short total is = grind (arith, nat_tests, is)

pub is_long : (total : ℕ) → nat_le (2 ^ 32) total ≡ true → 2 ^ 32 ≤ total
is_long total is = grind (arith, nat_tests, is)

-- where they end if the open block is closed before the entry
pub full_end : (w : TableWriter) (number : ℕ) (es : List Entry) (given : List ℕ) (e : Entry) → (is : IsWriting w number es given)
    → nat_le (length (block_body table_format is.open_block) + entry_length table_format e) max_block_bytes ≡ false
    → end_of (is.closed ++ is.open_block ∷ []) ≤ blocks_end (es ++ e ∷ [])
full_end w number es given e is full =
    let cut : blocks table_format (es ++ e ∷ []) ≡ (is.closed ++ is.open_block ∷ []) ++ (e ∷ []) ∷ [] =
    is.cut (e ∷ []) ∙ ap (λ l. is.closed ++ l)
    (not_chosen (nat_le (length (block_body table_format is.open_block) + entry_length table_format e) max_block_bytes)
    (blocks_from table_format (is.open_block ++ e ∷ [])
    (length (block_body table_format is.open_block) + entry_length table_format e) []) (is.open_block ∷ (e ∷ []) ∷ []) full)
    ∙ sym (append_assoc is.closed (is.open_block ∷ []) ((e ∷ []) ∷ [])) in
    omega (
      arith,
      ap (λ bs. sum_by (block_frame_length table_format) bs) cut,
      sum-push (is.closed ++ is.open_block ∷ []) (e ∷ []),
    )

-- the entry goes into the open block
pub stays_open : (w : TableWriter) (number : ℕ) (es : List Entry) (given : List ℕ) (e : Entry) → (is : IsWriting w number es given)
    → nat_le (length (block_body table_format is.open_block) + entry_length table_format e) max_block_bytes ≡ true
    → HasRoom w number es given e
stays_open w number es given e is fits = record {
  some = is.some;
  closed = is.closed;
  open_block = is.open_block;
  numbered = is.numbered;
  fits = is.fits;
  has = is.has;
  sums = is.sums;
  each = is.each;
  ordered = is.ordered;
  given_out = is.given_out;
  cut = λ later.
      let grown = blocks_from table_format (is.open_block ++ e ∷ [])
      (length (block_body table_format is.open_block) + entry_length table_format e) later in
      is.cut (e ∷ later) ∙ ap (λ l. is.closed ++ l)
      (chosen (nat_le (length (block_body table_format is.open_block) + entry_length table_format e) max_block_bytes)
      grown (is.open_block ∷ blocks_from table_format (e ∷ []) (begun_length table_format e) later) fits
      ∙ ap (λ (n : ℕ). (blocks_from table_format) (is.open_block ++ e ∷ []) n later) (body-push is.open_block e));
}

-- the open block is closed, and its frame given out
pub closes : (w v : TableWriter) (number : ℕ) (es : List Entry) (given frame : List ℕ) (e : Entry) → (is : IsWriting w number es given)
    → nat_le (length (block_body table_format is.open_block) + entry_length table_format e) max_block_bytes ≡ false
    → HasBlocks v.blocks (is.closed ++ is.open_block ∷ []) [] → v.blocks.number ≡ w.blocks.number → v.summary ≡ w.summary
    → frame ≡ frame_bytes w.blocks.number w.blocks.place kinds.Block (block_body table_format is.open_block)
    → HasRoom v number es (given ++ frame) e
closes w v number es given frame e is full has numbered summary written = record {
  some = is.some;
  closed = is.closed ++ is.open_block ∷ [];
  open_block = [];
  numbered = numbered ∙ is.numbered;
  fits = is.fits;
  has = has;
  sums = subst (λ (s : Summary). Sums s es) (sym summary) is.sums;
  each = is.each;
  ordered = is.ordered;
  given_out =
      ap (λ (l : List ℕ). l ++ frame) is.given_out
      ∙ append_assoc (table_header table_format number) (blocks_bytes table_format number 16 is.closed) frame
      ∙ ap (λ (l : List ℕ). (table_header table_format) number ++ l)
      (closed_frame number is.closed is.open_block w.blocks.number w.blocks.place frame is.numbered is.has.place written);
  cut = λ later.
      let next = blocks_from table_format (e ∷ []) (begun_length table_format e) later in
      is.cut (e ∷ later)
      ∙ ap (λ l. is.closed ++ l)
      (not_chosen (nat_le (length (block_body table_format is.open_block) + entry_length table_format e) max_block_bytes)
      (blocks_from table_format (is.open_block ++ e ∷ [])
      (length (block_body table_format is.open_block) + entry_length table_format e) later) (is.open_block ∷ next) full)
      ∙ sym (append_assoc is.closed (is.open_block ∷ []) next)
      ∙ ap (λ (n : ℕ). (is.closed ++ is.open_block ∷ []) ++ blocks_from table_format (e ∷ []) n later) (begun e);
}
  where
    begun : (e : Entry) → begun_length table_format e ≡ length (block_body table_format (e ∷ []))
    begun e = omega (arith, length-block_body table_format (e ∷ []), sum_by-cons (entry_length table_format) e [])

-- one entry more
pub adds : (w v : TableWriter) (number : ℕ) (es : List Entry) (given : List ℕ) (e : Entry) → (room : HasRoom w number es given e)
    → HasBlocks v.blocks room.closed (room.open_block ++ e ∷ []) → v.blocks.number ≡ w.blocks.number
    → Sums v.summary (es ++ e ∷ []) → MayCome es e
    → IsWriting v number (es ++ e ∷ []) given
adds w v number es given e room has numbered sums comes = record {
  some = omega (arith, length-append es (e ∷ []));
  closed = room.closed;
  open_block = room.open_block ++ e ∷ [];
  numbered = numbered ∙ room.numbered;
  fits = room.fits;
  has = has;
  sums = sums;
  each = all-append (IsEntry table_format) es (e ∷ []) room.each (comes.entry, tt);
  ordered = in_order-push es e room.ordered comes.next;
  given_out = room.given_out;
  last = last_key-push room.open_block e ∙ sym (last_key-push es e);
  cut = λ later. ap (blocks table_format) (append_assoc es (e ∷ []) later) ∙ room.cut later;
}

-- ---- keys, each once

with_key-behind : (key k : List ℕ) (ks : List (List ℕ)) (more : List ℕ)
    → with_key key (k ∷ ks ++ more ∷ []) ≡ with_key key (k ∷ ks) ++ more ∷ []
with_key-behind key k ks more = by (eq_by_cmp key_cmp key k)
  where
    by : (t : Bool) → cond t (k ∷ ks ++ more ∷ []) (key ∷ k ∷ ks ++ more ∷ []) ≡ cond t (k ∷ ks) (key ∷ k ∷ ks) ++ more ∷ []
    by true = refl
    by false = refl

-- of keys of which there is one
keys-some : (key : List ℕ) (ks : List (List ℕ)) (more : List ℕ) → 1 ≤ length ks
    → with_key key (ks ++ more ∷ []) ≡ with_key key ks ++ more ∷ []
keys-some key [] more some = absurd (omega arith)
keys-some key (k ∷ ks) more some = with_key-behind key k ks more

with_key-some : (key : List ℕ) (ks : List (List ℕ)) → 1 ≤ length (with_key key ks)
with_key-some key [] = omega arith
with_key-some key (k ∷ ks) = by (eq_by_cmp key_cmp key k)
  where
    by : (t : Bool) → 1 ≤ length (cond t (k ∷ ks) (key ∷ k ∷ ks))
    by true = omega arith
    by false = omega arith

pub keys-push : (es : List Entry) (e : Entry) → 1 ≤ length es
    → keys_of (es ++ e ∷ []) ≡ (if eq_by_cmp key_cmp (last_key es) e.key then keys_of es else keys_of es ++ e.key ∷ [])
keys-push [] e some = absurd (omega arith)
keys-push (d ∷ []) e some = by (eq_by_cmp key_cmp d.key e.key) refl
  where
    by : (t : Bool) → eq_by_cmp key_cmp d.key e.key ≡ t → cond t (e.key ∷ []) (d.key ∷ e.key ∷ []) ≡ cond t (d.key ∷ [])
        (d.key ∷ e.key ∷ [])
    by true same = ap (λ (k : List ℕ). k ∷ []) (sym (same_key d.key e.key same))
    by false same = refl
keys-push (d ∷ f ∷ fs) e some =
    ap (with_key d.key) (keys-push (f ∷ fs) e (omega arith)) ∙ by (eq_by_cmp key_cmp (last_key (f ∷ fs)) e.key)
  where
    by : (t : Bool) → with_key d.key (cond t (keys_of (f ∷ fs)) (keys_of (f ∷ fs) ++ e.key ∷ []))
        ≡ cond t (with_key d.key (keys_of (f ∷ fs))) (with_key d.key (keys_of (f ∷ fs)) ++ e.key ∷ [])
    by true = refl
    by false = keys-some d.key (keys_of (f ∷ fs)) e.key (with_key-some f.key (keys_of fs))

-- what a filter knows of them
pub hashes-push : (es : List Entry) (e : Entry) (last : List ℕ) (old new : List Hashes) → 1 ≤ length es → last ≡ last_key es
    → old ≡ map hashes_of (keys_of es) → new ≡ (if eq_by_cmp key_cmp last e.key then old else old ++ hashes_of e.key ∷ [])
    → new ≡ map hashes_of (keys_of (es ++ e ∷ []))
hashes-push es e last old new some is before noted =
    noted ∙ (λ i. if eq_by_cmp key_cmp (is i) e.key then before i else before i ++ hashes_of e.key ∷ [])
    ∙ by (eq_by_cmp key_cmp (last_key es) e.key) ∙ ap (map hashes_of) (sym (keys-push es e some))
  where
    by : (t : Bool) → cond t (map hashes_of (keys_of es)) (map hashes_of (keys_of es) ++ hashes_of e.key ∷ [])
        ≡ map hashes_of (cond t (keys_of es) (keys_of es ++ e.key ∷ []))
    by true = refl
    by false = sym (map-append hashes_of (keys_of es) (e.key ∷ []))

pub picked : {X : Type 0} (b : Bool) (x y : X) → b ≡ true → x ≡ (if b then x else y)
picked true x y is = refl
picked false x y is = absurd cc

pub unpicked : {X : Type 0} (b : Bool) (x y : X) → b ≡ false → y ≡ (if b then x else y)
unpicked true x y is = absurd cc
unpicked false x y is = refl
