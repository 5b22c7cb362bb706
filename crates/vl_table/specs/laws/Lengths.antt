-- How long a table and its parts are.
use Rattle.std.specs.Prelude.{◌≡◌, ℕ, Bool, true, false, Some, None, ◌+◌, ◌*◌, ◌≤◌, List, [], ◌∷◌, ◌++◌, length}
use Rattle.std.specs.List.{AllByRecursion, sum_by}
use Rattle.std.proofs.Common.{cond, refl, arith, length-append}
use Rattle.std.proofs.lemmas.Bool.Decides.{nat_tests}
use Rattle.std.proofs.lemmas.List.Sums.{sum_by-cons}
use Rattle.byteorder.specs.Endian.{big_bytes}
use Rattle.vl_frame.specs.Frame.{frame_bytes}
use Rattle.vl_frame.specs.laws.Laws.{length-frame_bytes}
use Rattle.vl_frame.specs.declared.kinds.FrameKind.TheVariants as kinds
use Rattle.vl_model.specs.Keys.{is_key_length}
use Rattle.vl_model.specs.declared.value.Value.{Value}
use Rattle.vl_model.specs.declared.entry.Entry.{Entry}
use Rattle.vl_model.specs.declared.entry.Body.{Body}
use Rattle.vl_model.specs.declared.entry.Body.TheVariants.{Inline, Gone, Far, Logged}
use Rattle.vl_filter.specs.Filters.{byte_count, filter_body}
use Rattle.vl_filter.specs.laws.Lengths.{length-filter_body}
use Rattle.vl_model.specs.Cutting.{begun_length, block_frame_length, blocks, body_length, entry_length}
use Rattle.vl_model.specs.Cutting.{filter_frame_length, filter_place_length, first_key, footer_frame_length}
use Rattle.vl_model.specs.Cutting.{index_frame_length, keys_of, last_key, longest_body, points_of, table_length}
use Rattle.vl_model.specs.Cutting.{tag_length}
use Rattle.vl_model.specs.declared.point.Point.{Point}
use Rattle.vl_table.specs.body.Blocks.{block_body, entries}
use Rattle.vl_model.specs.laws.CuttingLaws.{blocks-fit}
use Rattle.vl_table.specs.body.Entries.{IsBody, IsEntry, body_bytes, entry_bytes, inline_bytes, key_bytes, tag_bytes}
use Rattle.vl_model.specs.Formats.{has_filter, has_tags}
use Rattle.vl_table.specs.body.Footer.{footer_body, frame_place_bytes, head_bytes, points}
use Rattle.vl_table.specs.body.Index.{index_body, places}
use Rattle.vl_table.specs.body.Lists.{counted_bytes, items_bytes}
use Rattle.vl_table.specs.body.Bytes.{block_places, blocks_bytes, filter_bytes, filter_place, filter_said, foot}
use Rattle.vl_table.specs.body.Bytes.{footer_bytes, footer_place, index_bytes, index_place, table_bytes}

key_short : (n : ℕ) → is_key_length n ≡ true → n ≤ 4096
key_short n lawful = grind (arith, nat_tests)

by_tag : (t : Bool) → cond t 1 0 ≤ 1
by_tag true = omega arith
by_tag false = omega arith

by_format : (t : Bool) (tag : ℕ) → length (cond t (tag ∷ []) []) ≡ cond t 1 0
by_format true tag = refl
by_format false tag = refl

pub length-inline : (format : ℕ) (value : Value) → length (inline_bytes format value) ≡ tag_length format + 1 + length value.bytes
length-inline format value =
    omega (arith, length-append (tag_bytes format value.tag) (length value.bytes ∷ value.bytes), by_format (has_tags format) value.tag)

length-body : (format : ℕ) (body : Body) → length (body_bytes format body) ≡ 1 + body_length format body
length-body format (Inline value) = omega (arith, length-inline format value)
length-body format Gone = refl
length-body format (Far pointer) = refl
length-body format (Logged value pointer) = refl

pub length-entry : (format : ℕ) (e : Entry) → length (entry_bytes format e) ≡ entry_length format e
length-entry format e =
    omega (arith, length-append (key_bytes e.key) (big_bytes 8 e.version ++ body_bytes format e.body), length-body format e.body)

length-entries : (format : ℕ) (b : List Entry) → length (items_bytes (entries format) b) ≡ sum_by (entry_length format) b
length-entries format [] = refl
length-entries format (e ∷ es) =
    omega (
      arith,
      length-append (entry_bytes format e) (items_bytes (entries format) es),
      length-entry format e,
      length-entries format es,
      sum_by-cons (entry_length format) e es,
    )

pub length-block_body : (format : ℕ) (b : List Entry) → length (block_body format b) ≡ 4 + sum_by (entry_length format) b
length-block_body format b = omega (arith, length-entries format b)

-- an entry that a table may have fits into a block of its own
pub entry-fits : (format : ℕ) (e : Entry) → IsEntry format e → begun_length format e ≤ longest_body
entry-fits format e is = by e.body is.body
  where
    by : (body : Body) → IsBody format body → 4 + (2 + length e.key + 8 + 1 + body_length format body) ≤ longest_body
    by (Inline value) fits = omega (arith, fits.short, key_short (length e.key) is.key, by_tag (has_tags format))
    by Gone fits = omega (arith, key_short (length e.key) is.key)
    by (Far pointer) fits = omega (arith, key_short (length e.key) is.key)
    by (Logged value pointer) fits = absurd fits

-- so no block of a table has a longer body
pub bodies-fit : (format : ℕ) (es : List Entry) → AllByRecursion (IsEntry format) es
    → AllByRecursion (λ (b : List Entry). length (block_body format b) ≤ longest_body) (blocks format es)
bodies-fit format es each = all_bodies (blocks format es) (blocks-fit format es (all_entries es each))
  where
    all_entries : (fs : List Entry) → AllByRecursion (IsEntry format) fs
        → AllByRecursion (λ (e : Entry). begun_length format e ≤ longest_body) fs
    all_entries [] all = tt
    all_entries (f ∷ fs) all = (entry-fits format f all.0, all_entries fs all.1)

    all_bodies : (bs : List (List Entry)) → AllByRecursion (λ (b : List Entry). 4 + sum_by (entry_length format) b ≤ longest_body) bs
        → AllByRecursion (λ (b : List Entry). length (block_body format b) ≤ longest_body) bs
    all_bodies [] all = tt
    all_bodies (b ∷ bs) all = (omega (arith, length-block_body format b, all.0), all_bodies bs all.1)

pub length-block : (format number at : ℕ) (b : List Entry)
    → length (frame_bytes number at kinds.Block (block_body format b)) ≡ block_frame_length format b
length-block format number at b = omega (arith, length-frame_bytes number at kinds.Block (block_body format b), length-block_body format b)

pub length-blocks : (format number at : ℕ) (bs : List (List Entry))
    → length (blocks_bytes format number at bs) ≡ sum_by (block_frame_length format) bs
length-blocks format number at [] = refl
length-blocks format number at (b ∷ bs) =
    omega (
      arith,
      length-append (frame_bytes number at kinds.Block (block_body format b))
          (blocks_bytes format number (at + block_frame_length format b) bs),
      length-block format number at b,
      length-blocks format number (at + block_frame_length format b) bs,
      sum_by-cons (block_frame_length format) b bs,
    )

length-places : (format at : ℕ) (bs : List (List Entry))
    → length (items_bytes places (block_places format at bs)) ≡ sum_by (λ block. 14 + length (last_key block)) bs
length-places format at [] = refl
length-places format at (b ∷ bs) =
    omega (
      arith,
      length-append (last_key b) (items_bytes places (block_places format (at + block_frame_length format b) bs)),
      length-places format (at + block_frame_length format b) bs,
      sum_by-cons (λ block. 14 + length (last_key block)) b bs,
    )

pub length-index : (format number : ℕ) (bs : List (List Entry)) → length (index_bytes format number bs) ≡ index_frame_length bs
length-index format number bs =
    omega (
      arith,
      length-frame_bytes number (index_place format bs) kinds.Index (index_body (block_places format 16 bs)),
      length-places format 16 bs,
    )

some_frame : (number at : ℕ) (keys : List (List ℕ)) (t : Bool)
    → length (cond t (frame_bytes number at kinds.Filter (filter_body keys)) []) ≡ cond t (4 + byte_count (length keys) + 13) 0
some_frame number at keys true =
    omega (arith, length-frame_bytes number at kinds.Filter (filter_body keys), length-filter_body keys)
some_frame number at keys false = refl

pub length-filter_frame : (format number : ℕ) (es : List Entry) (bs : List (List Entry))
    → length (filter_bytes format number es bs) ≡ filter_frame_length format es
length-filter_frame format number es bs = some_frame number (filter_place format bs) (keys_of es) (has_filter format)

length-points : (ps : List Point) → length (items_bytes points ps) ≡ 12 * length ps
length-points [] = refl
length-points (p ∷ ps) = omega (arith, length-points ps)

length-said : (format : ℕ) (es : List Entry) (bs : List (List Entry))
    → length (frame_place_bytes (filter_said format es bs)) ≡ filter_place_length format
length-said format es bs = by (has_filter format)
  where
    by : (t : Bool)
        → length (frame_place_bytes
        (cond t (Some (record { place = filter_place format bs; length = filter_frame_length format es })) None))
        ≡ cond t 12 0
    by true = refl
    by false = refl

pub length-footer : (format number : ℕ) (es : List Entry) (bs : List (List Entry))
    → length (footer_bytes format number es bs) ≡ footer_frame_length format es
length-footer format number es bs =
    let h = (foot format es bs).head in
    let fixed = big_bytes 8 h.index_place
    ++ (big_bytes 4 h.index_length ++ (big_bytes 8 h.count ++ (big_bytes 8 h.greatest ++ (key_bytes h.first ++ key_bytes h.last)))) in
    omega (
      arith,
      length-frame_bytes number (footer_place format es bs) kinds.Footer (footer_body (foot format es bs)),
      length-points (points_of es),
      length-append (head_bytes h) (counted_bytes points (points_of es)),
      length-append (frame_place_bytes (filter_said format es bs)) fixed,
      length-said format es bs,
      length-append (first_key es) (key_bytes (last_key es)),
    )

-- A table is as long as the layout says.
pub length-table_bytes : (format number : ℕ) (es : List Entry) → length (table_bytes format number es) ≡ table_length format es
length-table_bytes format number es =
    let bs = blocks format es in
    let place = big_bytes 8 (footer_place format es bs) in
    omega (
      arith,
      length-blocks format number 16 bs,
      length-index format number bs,
      length-filter_frame format number es bs,
      length-footer format number es bs,
      length-append (blocks_bytes format number 16 bs)
          (index_bytes format number bs ++ (filter_bytes format number es bs ++ (footer_bytes format number es bs ++ place))),
      length-append (index_bytes format number bs) (filter_bytes format number es bs ++ (footer_bytes format number es bs ++ place)),
      length-append (filter_bytes format number es bs) (footer_bytes format number es bs ++ place),
      length-append (footer_bytes format number es bs) place,
    )
