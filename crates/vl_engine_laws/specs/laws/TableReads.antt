-- A true table is read as what it is. (The text is that of vl_table's proofs, where no other crate sees it.)
use Rattle.std.specs.Prelude.{◌≡◌, ◌+◌, ◌-◌, ◌≤◌, ◌<◌, ◌^◌, ◌*◌, ℕ, Bool, true, false, List, [], ◌++◌, drop, length, Some, None}
use Rattle.std.proofs.Common.{cond, refl, ap, sym, subst, ◌∙◌, append-nil, arith}
use Rattle.byteorder.specs.Endian.{big_bytes, big_number}
use Rattle.byteorder.specs.Numbers.{big_number-reads_back}
use Rattle.vl_table.specs.body.Bytes.{IsTable, block_places, blocks_bytes, filter_bits, filter_place, filter_said, foot}
use Rattle.vl_table.specs.body.Bytes.{footer_bytes, footer_place, index_bytes, index_place, table_bytes}
use Rattle.vl_model.specs.Cutting.{blocks, filter_frame_length, keys_of}
use Rattle.vl_table.specs.body.Footer.{footer_body}
use Rattle.vl_model.specs.Formats.{has_filter}
use Rattle.vl_table.specs.body.Index.{index_body}
use Rattle.vl_table.specs.laws.Lengths.{length-filter_frame, length-footer, length-index, length-table_bytes}
use Rattle.vl_filter.specs.Filters as filters
use Rattle.vl_filter.specs.Filters.{byte_count, filter_body}
use Rattle.vl_filter.specs.laws.Lengths.{length-filter_body}
use Rattle.vl_filter.specs.laws.Spelling.{spells}
use Rattle.vl_frame.specs.Frame.{frame_bytes}
use Rattle.vl_frame.specs.declared.kinds.FrameKind.TheVariants as kinds
use Rattle.vl_frame.specs.laws.Laws.{length-frame_bytes}
use Rattle.vl_model.specs.Formats.{table_format}
use Rattle.vl_model.specs.declared.entry.Entry.{Entry}
use Rattle.vl_table.specs.Begun.{IsInside, said_place}
use Rattle.vl_table.specs.Opening.{IsRead, StandsFilter, StandsFooter, said_of}
use Rattle.vl_table.specs.laws.TablePlaces.{behind_index, drop-end, drop-filter, drop-footer, drop-index}

says_place : (format number : ℕ) (es : List Entry) → IsTable format number es
    → said_place (table_bytes format number es) ≡ footer_place format es (blocks format es)
says_place format number es is =
    let bs = blocks format es in
    let place = footer_place format es bs in
    let at : length (table_bytes format number es) - 8 ≡ place + length (footer_bytes format number es bs) =
    omega (arith, length-table_bytes format number es, length-footer format number es bs) in
    ap (big_number 8) (drop-end format number es bs (length (table_bytes format number es) - 8) at ∙ sym (append-nil (big_bytes 8 place)))
    ∙ big_number-reads_back 8 place [] is.place

-- its filter stands where its footer says
stands_filter : (format number : ℕ) (es : List Entry) → IsTable format number es
    → StandsFilter number (table_bytes format number es) (filter_said format es (blocks format es)) (filter_bits format es)
stands_filter format number es is = by (has_filter format) is.filter_short (drop-filter format number es bs)
    (length-filter_frame format number es bs)
  where
    bs : List (List Entry)
    bs = blocks format es

    by : (t : Bool) → (t ≡ true → 8 * byte_count (length (keys_of es)) < 2 ^ 32)
        → drop (filter_place format (blocks format es)) (table_bytes format number es)
        ≡ cond t (frame_bytes number (filter_place format (blocks format es)) kinds.Filter (filter_body (keys_of es))) []
        ++ (footer_bytes format number es (blocks format es) ++ big_bytes 8 (footer_place format es (blocks format es)))
        → length (cond t (frame_bytes number (filter_place format (blocks format es)) kinds.Filter
        (filter_body (keys_of es))) []) ≡ filter_frame_length format es
        → StandsFilter number (table_bytes format number es)
        (cond t (Some (record { place = filter_place format (blocks format es); length = filter_frame_length format es })) None)
        (cond t (filters.filter_bytes (keys_of es)) [])
    by true short at sized = record {
      body = filter_body (keys_of es);
      frame = record {
        frame = record {
          in_file = refl;
          short = omega (arith, short refl, length-filter_body (keys_of es));
          rest = footer_bytes format number es (blocks format es) ++ big_bytes 8 (footer_place format es (blocks format es));
          spelled = at;
        };
        sized = sym sized ∙ length-frame_bytes number (filter_place format (blocks format es)) kinds.Filter (filter_body (keys_of es));
      };
      says = spells (keys_of es) (short refl);
    }
    by false short at sized = refl

pub reads_table : (format number : ℕ) (es : List Entry) → 1 ≤ format → format ≤ table_format → IsTable format number es
    → IsRead number (table_bytes format number es) (said_of format es)
reads_table format number es first readable is =
    let bs = blocks format es in
    let bytes = table_bytes format number es in
    let place = footer_place format es bs in
    let says = says_place format number es is in
    record {
      begun = record {
        long = omega (arith, length-table_bytes format number es);
        header = record {
          first = first;
          readable = readable;
          header = record {
            format_fits = omega (arith, readable);
            number_fits = is.numbered;
            rest = blocks_bytes format number 16 bs ++ (index_bytes format number bs ++ behind_index format number es bs);
            spelled = refl;
          };
        };
      };
      inside = subst (IsInside bytes) (sym says)
          (omega arith, omega (arith, length-table_bytes format number es, length-index format number bs));
      footer = subst (λ (n : ℕ). StandsFooter format number bytes n (foot format es bs)) (sym says) (record {
        body = footer_body (foot format es bs);
        frame = record { in_file = refl; short = is.footer_short; rest = big_bytes 8 place; spelled = drop-footer format number es bs };
        says = record { head = is.head; points = is.points; spelled = refl };
      });
      index = record {
        body = index_body (block_places format 16 bs);
        frame = record {
          frame = record {
            in_file = refl;
            short = is.index_short;
            rest = behind_index format number es bs;
            spelled = drop-index format number es bs;
          };
          sized = sym (length-index format number bs) ∙ length-frame_bytes number (index_place format bs) kinds.Index
              (index_body (block_places format 16 bs));
        };
        says = record { lawful = is.index; spelled = refl };
      };
      filter = stands_filter format number es is;
      place = sym says;
    }
