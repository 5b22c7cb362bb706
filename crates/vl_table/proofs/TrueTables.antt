-- A true table is opened as what it is.
use Rattle.std.specs.Prelude.{◌≡◌, ◌+◌, ◌-◌, ◌≤◌, ◌<◌, ◌^◌, ◌*◌, ℕ, Bool, true, false, List, [], ◌++◌, drop, length}
use Rattle.std.specs.Prelude.{Option, Some, None, Result, Ok, Err, IfOk}
use Rattle.std.proofs.Common.{cond, refl, ap, sym, subst, ◌∙◌, append-nil, arith}
use Rattle.byteorder.specs.Endian.{big_bytes, big_number}
use Rattle.byteorder.specs.Numbers.{big_number-reads_back}
use Rattle.vl_filter.specs.Filters as filters
use Rattle.vl_filter.specs.Filters.{SpellsFilter, byte_count, filter_body}
use Rattle.vl_filter.specs.laws.Lengths.{length-filter_body}
use Rattle.vl_filter.specs.laws.Spelling.{one_filter, spells}
use Rattle.vl_frame.specs.Frame.{frame_bytes}
use Rattle.vl_frame.specs.laws.HeaderLaws.{one_header}
use Rattle.vl_frame.specs.laws.Laws.{length-frame_bytes, one_frame}
use Rattle.vl_frame.specs.declared.kinds.FileKind.TheVariants as files
use Rattle.vl_frame.specs.declared.kinds.FrameKind.TheVariants as kinds
use Rattle.vl_model.specs.Formats.{table_format}
use Rattle.vl_model.specs.declared.entry.Entry.{Entry}
use Rattle.vl_model.specs.Cutting.{blocks, filter_frame_length, keys_of}
use Rattle.vl_table.specs.body.Footer.{Foot, SpellsFooter, footer_body}
use Rattle.vl_model.specs.Formats.{has_filter}
use Rattle.vl_table.specs.laws.FooterLaws.{one_footer}
use Rattle.vl_table.specs.body.Index.{index_body, places}
use Rattle.vl_table.specs.laws.ListLaws.{one_list}
use Rattle.vl_table.specs.declared.body.footer_head.FramePlace.{FramePlace}
use Rattle.vl_table.specs.declared.body.index.BlockPlace.{BlockPlace}
use Rattle.vl_table.specs.declared.table.Table.{Table}
use Rattle.vl_table.specs.body.Shapes.{IsShapeOf}
use Rattle.vl_table.specs.declared.body.shape.TableShape.{TableShape}
use Rattle.vl_table.specs.body.Bytes.{IsTable, block_places, blocks_bytes, filter_bits, filter_place, filter_said, foot}
use Rattle.vl_table.specs.body.Bytes.{footer_bytes, footer_place, index_bytes, index_place, table_bytes}
use Rattle.vl_table.specs.laws.Lengths.{length-filter_frame, length-footer, length-index, length-table_bytes}
use Rattle.vl_table.specs.Opening.{HasFooter, IsDamaged, IsRead, Said, StandsFilter, StandsFooter, StandsIndex}
use Rattle.vl_table.specs.Opening.{no_filter, no_footer, no_header, no_index, no_place, said_by, said_of}
use Rattle.vl_table.specs.Begun.{IsBegun, IsInside, said_place}
use Rattle.vl_table.specs.laws.TablePlaces.{behind_index, drop-end, drop-filter, drop-footer, drop-index}
use Rattle.vl_table.specs.Tables.{OpensAs, number_of, shape_of}
use Rattle.vl_disk.specs.declared.read_fault.ReadFault.{ReadFault}
use Rattle.vl_disk.specs.declared.read_fault.ReadFault.TheVariants.{NoMemory, Disk, Damaged}
use Rattle.vl_table.specs.Answers.{Answers}

-- ---- one reading

one_format : (format other number : ℕ) (bytes : List ℕ) → IsBegun format number bytes → IsBegun other number bytes → format ≡ other
one_format format other number bytes a
    b = (one_header bytes files.Table files.Table format other number number a.header.header b.header.header).1

one_foot : (format other number : ℕ) (bytes : List ℕ) (place : ℕ) (f g : Foot) → format ≡ other → StandsFooter format number bytes place f
    → StandsFooter other number bytes place g → f ≡ g
one_foot format other number bytes place f g formats a b =
    let feet = one_frame files.Table number place (drop place bytes) kinds.Footer kinds.Footer a.body b.body a.frame b.frame in
    one_footer other b.body f g
    (subst (λ (n : ℕ). SpellsFooter n b.body f) formats (subst (λ (l : List ℕ). SpellsFooter format l f) feet.1 a.says)) b.says

one_index : (number : ℕ) (bytes : List ℕ) (place size : ℕ) (ps qs : List BlockPlace)
    → StandsIndex number bytes place size ps → StandsIndex number bytes place size qs → ps ≡ qs
one_index number bytes place size ps qs a b =
    let same = one_frame files.Table number place (drop place bytes) kinds.Index kinds.Index a.body b.body a.frame.frame b.frame.frame in
    one_list places b.body ps qs a.says.lawful b.says.lawful (sym same.1 ∙ a.says.spelled) b.says.spelled

one_bits : (number : ℕ) (bytes : List ℕ) (o : Option FramePlace) (xs ys : List ℕ) → StandsFilter number bytes o xs
    → StandsFilter number bytes o ys → xs ≡ ys
one_bits number bytes None xs ys a b = a ∙ sym b
one_bits number bytes (Some p) xs ys a b =
    let same = one_frame files.Table number p.place (drop p.place bytes) kinds.Filter kinds.Filter a.body b.body
    a.frame.frame b.frame.frame in
    one_filter b.body xs ys (subst (λ (l : List ℕ). SpellsFilter l xs) same.1 a.says) b.says

pub one_read : (number : ℕ) (bytes : List ℕ) (said other : Said) → IsRead number bytes said → IsRead number bytes other → said ≡ other
one_read number bytes said other a b =
    let formats = one_format said.format other.format number bytes a.begun b.begun in
    let feet = one_foot said.format other.format number bytes (said_place bytes) said.foot other.foot formats a.footer b.footer in
    let index = subst (λ (h : Foot). StandsIndex number bytes h.head.index_place h.head.index_length other.places) (sym feet) b.index in
    let filter = subst (λ (h : Foot). StandsFilter number bytes h.head.filter other.bits) (sym feet) b.filter in
    let ps = one_index number bytes said.foot.head.index_place said.foot.head.index_length said.places other.places a.index index in
    let bits = one_bits number bytes said.foot.head.filter said.bits other.bits a.filter filter in
    let place = a.place ∙ sym b.place in
    λ k. record { format = formats k; foot = feet k; place = place k; places = ps k; bits = bits k }

same_foot : (number : ℕ) (bytes : List ℕ) (said : Said) (format : ℕ) (f : Foot) → IsRead number bytes said
    → HasFooter number bytes format f → said.foot ≡ f
same_foot number bytes said format f a b =
    one_foot said.format format number bytes (said_place bytes) said.foot f
    (one_format said.format format number bytes a.begun b.begun) a.footer b.footer

-- what can be read isn't damaged
pub not_damaged : (number : ℕ) (bytes : List ℕ) (said : Said) (place : ℕ) → IsRead number bytes said → IsDamaged number bytes place → ⊥
not_damaged number bytes said place is (no_header none at) = none said.format is.begun
not_damaged number bytes said place is (no_place format begun none at) = none is.inside
not_damaged number bytes said place is (no_footer format begun inside none at) =
    none said.foot (subst (λ (n : ℕ). StandsFooter n number bytes (said_place bytes) said.foot)
    (one_format said.format format number bytes is.begun begun) is.footer)
not_damaged number bytes said place is (no_index format f has none at) =
    none said.places (subst (λ (h : Foot). StandsIndex number bytes h.head.index_place h.head.index_length said.places)
    (same_foot number bytes said format f is has) is.index)
not_damaged number bytes said place is (no_filter format f has ps index p named none at) =
    none said.bits
    (subst (λ (o : Option FramePlace). StandsFilter number bytes o said.bits) named
    (subst (λ (h : Foot). StandsFilter number bytes h.head.filter said.bits) (same_foot number bytes said format f is has) is.filter))

-- ---- a true table

says_place : (format number : ℕ) (es : List Entry) → IsTable format number es
    → said_place (table_bytes format number es) ≡ footer_place format es (blocks format es)
says_place format number es is =
    let bs = blocks format es in
    let place = footer_place format es bs in
    let at : length (table_bytes format number es) - 8 ≡ place + length (footer_bytes format number es bs) =
    omega (arith, length-table_bytes format number es, length-footer format number es bs) in
    ap (big_number 8) (drop-end format number es bs (length (table_bytes format number es) - 8) at ∙ sym (append-nil (big_bytes 8 place)))
    ∙ big_number-reads_back 8 place [] is.place

-- its filter stands where its footer says
stands_filter : (format number : ℕ) (es : List Entry) → IsTable format number es
    → StandsFilter number (table_bytes format number es) (filter_said format es (blocks format es)) (filter_bits format es)
stands_filter format number es is = by (has_filter format) is.filter_short (drop-filter format number es bs)
    (length-filter_frame format number es bs)
  where
    bs : List (List Entry)
    bs = blocks format es

    by : (t : Bool) → (t ≡ true → 8 * byte_count (length (keys_of es)) < 2 ^ 32)
        → drop (filter_place format (blocks format es)) (table_bytes format number es)
        ≡ cond t (frame_bytes number (filter_place format (blocks format es)) kinds.Filter (filter_body (keys_of es))) []
        ++ (footer_bytes format number es (blocks format es) ++ big_bytes 8 (footer_place format es (blocks format es)))
        → length (cond t (frame_bytes number (filter_place format (blocks format es)) kinds.Filter
        (filter_body (keys_of es))) []) ≡ filter_frame_length format es
        → StandsFilter number (table_bytes format number es)
        (cond t (Some (record { place = filter_place format (blocks format es); length = filter_frame_length format es })) None)
        (cond t (filters.filter_bytes (keys_of es)) [])
    by true short at sized = record {
      body = filter_body (keys_of es);
      frame = record {
        frame = record {
          in_file = refl;
          short = omega (arith, short refl, length-filter_body (keys_of es));
          rest = footer_bytes format number es (blocks format es) ++ big_bytes 8 (footer_place format es (blocks format es));
          spelled = at;
        };
        sized = sym sized ∙ length-frame_bytes number (filter_place format (blocks format es)) kinds.Filter (filter_body (keys_of es));
      };
      says = spells (keys_of es) (short refl);
    }
    by false short at sized = refl

pub reads_table : (format number : ℕ) (es : List Entry) → 1 ≤ format → format ≤ table_format → IsTable format number es
    → IsRead number (table_bytes format number es) (said_of format es)
reads_table format number es first readable is =
    let bs = blocks format es in
    let bytes = table_bytes format number es in
    let place = footer_place format es bs in
    let says = says_place format number es is in
    record {
      begun = record {
        long = omega (arith, length-table_bytes format number es);
        header = record {
          first = first;
          readable = readable;
          header = record {
            format_fits = omega (arith, readable);
            number_fits = is.numbered;
            rest = blocks_bytes format number 16 bs ++ (index_bytes format number bs ++ behind_index format number es bs);
            spelled = refl;
          };
        };
      };
      inside = subst (IsInside bytes) (sym says)
          (omega arith, omega (arith, length-table_bytes format number es, length-index format number bs));
      footer = subst (λ (n : ℕ). StandsFooter format number bytes n (foot format es bs)) (sym says) (record {
        body = footer_body (foot format es bs);
        frame = record { in_file = refl; short = is.footer_short; rest = big_bytes 8 place; spelled = drop-footer format number es bs };
        says = record { head = is.head; points = is.points; spelled = refl };
      });
      index = record {
        body = index_body (block_places format 16 bs);
        frame = record {
          frame = record {
            in_file = refl;
            short = is.index_short;
            rest = behind_index format number es bs;
            spelled = drop-index format number es bs;
          };
          sized = sym (length-index format number bs) ∙ length-frame_bytes number (index_place format bs) kinds.Index
              (index_body (block_places format 16 bs));
        };
        says = record { lawful = is.index; spelled = refl };
      };
      filter = stands_filter format number es is;
      place = sym says;
    }

-- so it is opened as the shape that it has
pub shape_is : (number : ℕ) (format : ℕ) (es : List Entry) (s : TableShape) → IsTable format number es
    → s.number ≡ number → said_by s ≡ said_of format es
    → IsShapeOf number es s
shape_is number format es s is numbered one =
    let formats : s.format ≡ format = ap (λ (said : Said). said.format) one in
    record {
      numbered = numbered;
      table = subst (λ (n : ℕ). IsTable n number es) (sym formats) is;
      foot = ap (λ (said : Said). said.foot) one ∙ ap (λ (n : ℕ). foot n es (blocks n es)) (sym formats);
      place = ap (λ (said : Said). said.place) one ∙ ap (λ (n : ℕ). footer_place n es (blocks n es)) (sym formats);
      blocks = ap (λ (said : Said). said.places) one ∙ ap (λ (n : ℕ). block_places n 16 (blocks n es)) (sym formats);
      filter = ap (λ (said : Said). said.bits) one ∙ ap (λ (n : ℕ). filter_bits n es) (sym formats);
    }

pub opens_as : {H : Type 0} (bytes_of : H → Option (List ℕ)) (before now number : ℕ) (held : H) (format : ℕ)
    (es : List Entry) (r : Result (Table H) ReadFault)
    → Answers before now number (bytes_of held) (λ bytes (t : Table H). IsRead number bytes (said_by (shape_of t))) (IsDamaged number) r
    → IfOk r (λ (t : Table H). number_of t ≡ number) → IfOk r (λ (t : Table H). t.held ≡ held) → 1 ≤ format → format ≤ table_format
    → IsTable format number es → bytes_of held ≡ Some (table_bytes format number es) → OpensAs bytes_of es r
opens_as bytes_of before now number held format es (Ok t) answers numbered same first readable is told =
    let read = answers.answer (table_bytes format number es) told in
    let one = one_read number (table_bytes format number es) (said_by (shape_of t)) (said_of format es) read
    (reads_table format number es first readable is) in
    let formats : (shape_of t).format ≡ format = ap (λ (s : Said). s.format) one in
    record {
      shape = subst (λ (n : ℕ). IsShapeOf n es (shape_of t)) (sym numbered) (shape_is number format es (shape_of t) is numbered one);
      told = ap bytes_of same ∙ told ∙ ap (λ (n : ℕ). Some (table_bytes format n es)) (sym numbered)
          ∙ ap (λ (n : ℕ). Some (table_bytes n (number_of t) es)) (sym formats);
    }
opens_as bytes_of before now number held format es (Err NoMemory) answers numbered same first readable is told = tt
opens_as bytes_of before now number held format es (Err (Disk name)) answers numbered same first readable is told = tt
opens_as bytes_of before now number held format es (Err (Damaged name place)) answers numbered same first readable is told =
    not_damaged number (table_bytes format number es) (said_of format es) place
    (reads_table format number es first readable is) (answers.answer (table_bytes format number es) told)
