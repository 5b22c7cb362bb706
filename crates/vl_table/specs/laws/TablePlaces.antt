-- Where the parts of a table stand.
use Rattle.std.specs.Prelude.{◌≡◌, ℕ, zero, suc, ◌+◌, ◌<◌, List, [], ◌∷◌, ◌++◌, length, take, drop, get_or}
use Rattle.std.specs.List.{sum_by}
use Rattle.std.proofs.Common.{refl, ap, sym, ◌∙◌, append_assoc, length-append, arith}
use Rattle.std.proofs.lemmas.List.{drop_at, take_at}
use Rattle.std.proofs.lemmas.List.Sums.{sum_by-cons}
use Rattle.byteorder.specs.Endian.{big_bytes}
use Rattle.vl_frame.specs.Frame.{frame_bytes}
use Rattle.vl_frame.specs.declared.kinds.FrameKind.TheVariants as kinds
use Rattle.vl_disk.specs.DiskState.{bytes_at}
use Rattle.vl_model.specs.declared.entry.Entry.{Entry}
use Rattle.vl_model.specs.Cutting.{block_frame_length, filter_frame_length, index_frame_length, last_key}
use Rattle.vl_table.specs.body.Blocks.{block_body}
use Rattle.vl_table.specs.declared.body.index.BlockPlace.{BlockPlace}
use Rattle.vl_table.specs.body.Bytes.{block_places, blocks_bytes, file_bytes, filter_bytes, filter_place, footer_bytes}
use Rattle.vl_table.specs.body.Bytes.{footer_place, index_bytes, index_place, table_header}
use Rattle.vl_table.specs.laws.Places.{blocks-split}
use Rattle.vl_table.specs.laws.Lengths.{length-block, length-blocks, length-filter_frame, length-index}

-- what stands behind the index
abbrev pub behind_index : ℕ → ℕ → List Entry → List (List Entry) → List ℕ
behind_index format number es bs =
    filter_bytes format number es bs ++ (footer_bytes format number es bs ++ big_bytes 8 (footer_place format es bs))

-- what stands behind the blocks
abbrev pub tail_bytes : ℕ → ℕ → List Entry → List (List Entry) → List ℕ
tail_bytes format number es bs = index_bytes format number bs ++ behind_index format number es bs

-- five parts, cut behind one of them
cut_two : (a b x : List ℕ) → a ++ (b ++ x) ≡ (a ++ b) ++ x
cut_two a b x = sym (append_assoc a b x)

cut_three : (a b c x : List ℕ) → a ++ (b ++ (c ++ x)) ≡ ((a ++ b) ++ c) ++ x
cut_three a b c x = cut_two a b (c ++ x) ∙ cut_two (a ++ b) c x

cut_four : (a b c d x : List ℕ) → a ++ (b ++ (c ++ (d ++ x))) ≡ (((a ++ b) ++ c) ++ d) ++ x
cut_four a b c d x = cut_three a b c (d ++ x) ∙ cut_two ((a ++ b) ++ c) d x

cut_five : (a b c d e x : List ℕ) → a ++ (b ++ (c ++ (d ++ (e ++ x)))) ≡ ((((a ++ b) ++ c) ++ d) ++ e) ++ x
cut_five a b c d e x = cut_four a b c d (e ++ x) ∙ cut_two (((a ++ b) ++ c) ++ d) e x

length-two : (a b : List ℕ) (m n : ℕ) → length a ≡ m → length b ≡ n → length (a ++ b) ≡ m + n
length-two a b m n is also = length-append a b ∙ omega (arith, is, also)

module _ (format number : ℕ) (es : List Entry) (bs : List (List Entry)) where
  to_index : length (table_header format number ++ blocks_bytes format number 16 bs) ≡ index_place format bs
  to_index = omega (arith, length-blocks format number 16 bs)

  to_filter : length ((table_header format number ++ blocks_bytes format number 16 bs) ++ index_bytes format number bs)
      ≡ filter_place format bs
  to_filter =
      length-two (table_header format number ++ blocks_bytes format number 16 bs) (index_bytes format number bs) (index_place format bs)
      (index_frame_length bs) to_index (length-index format number bs)

  to_footer : length (((table_header format number ++ blocks_bytes format number 16 bs) ++ index_bytes format number bs)
      ++ filter_bytes format number es bs)
      ≡ footer_place format es bs
  to_footer =
      length-two ((table_header format number ++ blocks_bytes format number 16 bs) ++ index_bytes format number bs)
      (filter_bytes format number es bs)
      (filter_place format bs) (filter_frame_length format es) to_filter (length-filter_frame format number es bs)

  pub drop-index : drop (index_place format bs) (file_bytes format number es bs) ≡ tail_bytes format number es bs
  drop-index =
      ap (drop (index_place format bs))
      (cut_two (table_header format number) (blocks_bytes format number 16 bs) (tail_bytes format number es bs))
      ∙ drop_at (table_header format number ++ blocks_bytes format number 16 bs) (tail_bytes format number es bs)
      (index_place format bs) to_index

  pub drop-filter : drop (filter_place format bs) (file_bytes format number es bs) ≡ behind_index format number es bs
  drop-filter =
      ap (drop (filter_place format bs))
      (cut_three (table_header format number) (blocks_bytes format number 16 bs) (index_bytes format number bs)
      (behind_index format number es bs))
      ∙ drop_at ((table_header format number ++ blocks_bytes format number 16 bs) ++ index_bytes format number bs)
      (behind_index format number es bs)
      (filter_place format bs) to_filter

  pub drop-footer : drop (footer_place format es bs) (file_bytes format number es bs)
      ≡ footer_bytes format number es bs ++ big_bytes 8 (footer_place format es bs)
  drop-footer =
      ap (drop (footer_place format es bs))
      (cut_four (table_header format number) (blocks_bytes format number 16 bs) (index_bytes format number bs)
      (filter_bytes format number es bs)
      (footer_bytes format number es bs ++ big_bytes 8 (footer_place format es bs)))
      ∙ drop_at (((table_header format number ++ blocks_bytes format number 16 bs) ++ index_bytes format number bs)
      ++ filter_bytes format number es bs)
      (footer_bytes format number es bs ++ big_bytes 8 (footer_place format es bs)) (footer_place format es bs) to_footer

  pub drop-end : (n : ℕ) → n ≡ footer_place format es bs + length (footer_bytes format number es bs)
      → drop n (file_bytes format number es bs) ≡ big_bytes 8 (footer_place format es bs)
  drop-end n is =
      let front = ((table_header format number ++ blocks_bytes format number 16 bs) ++ index_bytes format number bs)
      ++ filter_bytes format number es bs in
      let foot = footer_bytes format number es bs in
      ap (drop n)
      (cut_five (table_header format number) (blocks_bytes format number 16 bs) (index_bytes format number bs)
      (filter_bytes format number es bs) foot
      (big_bytes 8 (footer_place format es bs)))
      ∙ drop_at (front ++ foot) (big_bytes 8 (footer_place format es bs)) n
      (length-two front foot (footer_place format es bs) (length foot) to_footer refl ∙ sym is)

-- ---- one block

-- the block that the index names at a position, with those before and behind it
pub record BlockAt (format at : ℕ) (bs : List (List Entry)) (i : ℕ) (p : BlockPlace) : Type 0 where
  pub front : List (List Entry)
  pub block : List Entry
  pub back : List (List Entry)
  pub split : bs ≡ front ++ block ∷ back
  pub counted : length front ≡ i
  pub place : p.place ≡ at + sum_by (block_frame_length format) front
  pub length : p.length ≡ block_frame_length format block
  pub last : p.last ≡ last_key block

pub block_at : (format at : ℕ) (bs : List (List Entry)) (i : ℕ) (p : BlockPlace) → i < length bs
    → p ≡ get_or (block_places format at bs) i p → BlockAt format at bs i p
block_at format at [] i p within is = absurd (omega arith)
block_at format at (b ∷ bs) zero p within is = record {
  front = [];
  block = b;
  back = bs;
  split = refl;
  counted = refl;
  place = ap (λ (q : BlockPlace). q.place) is ∙ none at;
  length = ap (λ (q : BlockPlace). q.length) is;
  last = ap (λ (q : BlockPlace). q.last) is;
}
  where
    none : (n : ℕ) → n ≡ n + 0
    none n = omega arith
block_at format at (b ∷ bs) (suc i) p within is =
    let rest = block_at format (at + block_frame_length format b) bs i p (omega arith) is in
    record {
      front = b ∷ rest.front;
      block = rest.block;
      back = rest.back;
      split = ap (λ (l : List (List Entry)). b ∷ l) rest.split;
      counted = ap suc rest.counted;
      place = omega (arith, rest.place, sum_by-cons (block_frame_length format) b rest.front);
      length = rest.length;
      last = rest.last;
    }

-- a block's frame stands at its place
pub block_bytes : (format number : ℕ) (es : List Entry) (bs : List (List Entry)) (i : ℕ) (p : BlockPlace) → (b : BlockAt format 16 bs i p)
    → bytes_at p.place p.length (file_bytes format number es bs) ≡ frame_bytes number p.place kinds.Block (block_body format b.block)
block_bytes format number es bs i p b =
    let frame = frame_bytes number p.place kinds.Block (block_body format b.block) in
    let before = blocks_bytes format number 16 b.front in
    let place : 16 + sum_by (block_frame_length format) b.front ≡ p.place = sym b.place in
    let back = blocks_bytes format number (p.place + block_frame_length format b.block) b.back in
    let tail = tail_bytes format number es bs in
    let split : blocks_bytes format number 16 bs ≡ before ++ (frame ++ back) =
    ap (blocks_bytes format number 16) b.split ∙ blocks-split format number 16 b.front b.block b.back
    ∙ ap (λ (n : ℕ). before ++
    (frame_bytes number n kinds.Block (block_body format b.block) ++ blocks_bytes format number
    (n + block_frame_length format b.block) b.back)) place in
    let whole : file_bytes format number es bs ≡ (table_header format number ++ before) ++ (frame ++ (back ++ tail)) =
    ap (λ (l : List ℕ). table_header format number ++ (l ++ tail)) split
    ∙ ap (λ (l : List ℕ). table_header format number ++ l)
    (append_assoc before (frame ++ back) tail ∙ ap (λ (l : List ℕ). before ++ l) (append_assoc frame back tail))
    ∙ sym (append_assoc (table_header format number) before (frame ++ (back ++ tail))) in
    ap (λ (l : List ℕ). take p.length (drop p.place l)) whole
    ∙ ap (take p.length) (drop_at (table_header format number ++ before) (frame ++ (back ++ tail)) p.place
    (omega (arith, length-blocks format number 16 b.front, b.place)))
    ∙ take_at frame (back ++ tail) p.length (omega (arith, length-block format number p.place b.block, b.length))
