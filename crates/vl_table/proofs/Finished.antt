-- A table that is written to its end.
use Rattle.std.specs.Prelude.{◌≡◌, ℕ, ◌+◌, ◌≤◌, ◌<◌, ◌^◌, Some, List, [], ◌∷◌, ◌++◌, length, map}
use Rattle.std.proofs.Common.{ap, sym, subst, ◌∙◌, append-nil, append_assoc, arith}
use Rattle.byteorder.specs.Endian.{big_bytes}
use Rattle.vl_filter.specs.Filters.{marked_body, marked_bytes}
use Rattle.vl_filter.specs.Places.{hashes_of}
use Rattle.vl_filter.specs.declared.hashes.Hashes.{Hashes}
use Rattle.vl_frame.specs.Frame.{frame_bytes, frame_length}
use Rattle.vl_frame.specs.laws.Laws.{length-frame_bytes}
use Rattle.vl_frame.specs.declared.kinds.FrameKind.TheVariants as kinds
use Rattle.vl_model.specs.Formats.{table_format}
use Rattle.vl_model.specs.declared.entry.Entry.{Entry}
use Rattle.vl_model.specs.Cutting.{blocks, file_length, filter_frame_length, index_frame_length, keys_of, table_length}
use Rattle.vl_table.specs.body.Blocks.{block_body}
use Rattle.vl_table.specs.body.Footer.{Foot, foot_of, footer_body}
use Rattle.vl_table.specs.body.Index.{index_body}
use Rattle.vl_table.specs.body.Bytes.{block_places, blocks_bytes, filter_bits, filter_bytes, filter_place, foot, IsTable}
use Rattle.vl_table.specs.body.Bytes.{footer_bytes, footer_place, index_bytes, index_place, table_bytes, table_header}
use Rattle.vl_table.specs.laws.Lengths.{length-filter_frame, length-footer, length-index}
use Rattle.vl_table.specs.writer.Framing.{AreBehind, StandsBehind, table_end}
use Rattle.vl_table.specs.writer.Tails.{IsTail, tail_bytes}
use Rattle.vl_table.specs.writer.Writing.{HasBlocks, IsWriting, end_of}
use Rattle.vl_table.proofs.Fits.{has_table}
use Rattle.vl_table.proofs.Written.{closed_frame}
use Rattle.vl_table.specs.declared.writer.blocks_writer.BlocksWriter.{BlocksWriter}
use Rattle.vl_table.specs.declared.writer.finish.Rest.{Rest}
use Rattle.vl_table.specs.declared.writer.tail.Tail.{Tail}
use Rattle.vl_table.specs.declared.writer.table_writer.TableWriter.{TableWriter}

-- the last pieces complete the table's bytes
pub tail_whole : (t : Tail) (number : ℕ) (es : List Entry) (given : List ℕ) → IsTail t number es given
    → given ++ tail_bytes t ≡ table_bytes table_format number es
tail_whole t number es given is =
    let bs = blocks table_format es in
    let rest = index_bytes table_format number bs
    ++ (filter_bytes table_format number es bs
    ++ (footer_bytes table_format number es bs ++ big_bytes 8 (footer_place table_format es bs))) in
    let same : t.index.items ++ (t.filter.items ++ (t.footer.items ++ t.place)) ≡ rest = λ k. is.index k
    ++ (is.filter k ++ (is.footer k ++ is.place k)) in
    ap (λ (l : List ℕ). given ++ (t.block.items ++ l)) same
    ∙ sym (append_assoc given t.block.items rest)
    ∙ ap (λ (l : List ℕ). l ++ rest) is.block
    ∙ append_assoc (table_header table_format number) (blocks_bytes table_format number 16 bs) rest

-- where the blocks end without more
pub blocks_too_long : (w : TableWriter) (number : ℕ) (es : List Entry) (given : List ℕ) (is : IsWriting w number es given)
    → 2 ^ 32 ≤ end_of (is.closed ++ is.open_block ∷ []) → 2 ^ 32 ≤ table_length table_format es
blocks_too_long w number es given is long =
    let whole : blocks table_format es ≡ is.closed ++ is.open_block ∷ [] = ap (blocks table_format) (sym (append-nil es)) ∙ is.cut [] in
    let end : 2 ^ 32 ≤ end_of (blocks table_format es) = subst (λ bs. 2 ^ 32 ≤ end_of bs) (sym whole) long in
    omega (arith, end)

module _ (w : TableWriter) (v : BlocksWriter) (r : Rest) (number : ℕ) (es : List Entry) (given : List ℕ)
    (is : IsWriting w number es given) (has : HasBlocks v (is.closed ++ is.open_block ∷ []) []) (same : v.number ≡ w.blocks.number)
    (rest : StandsBehind v w.summary r) where
  abbrev bs : List (List Entry)
  bs = is.closed ++ is.open_block ∷ []

  numbered : v.number ≡ number
  numbered = same ∙ is.numbered

  long : r.index.at.length ≡ index_frame_length bs
  long =
      rest.index.long ∙ ap (λ l. frame_length (length (index_body l))) has.places
      ∙ sym (length-frame_bytes number (index_place table_format bs) kinds.Index
      (index_body (block_places table_format 16 bs))) ∙ length-index table_format number bs

  at : v.place + r.index.at.length ≡ filter_place table_format bs
  at = λ k. has.place k + long k

  deep : r.filter.at.length ≡ filter_frame_length table_format es
  deep =
      rest.filter.long ∙ ap (λ (l : List Hashes). frame_length (length (marked_body l))) is.sums.keys
      ∙ sym (length-frame_bytes number (filter_place table_format bs) kinds.Filter
      (marked_body (map hashes_of (keys_of es)))) ∙ length-filter_frame table_format number es bs

  stands : r.filter.at.place ≡ filter_place table_format bs
  stands = rest.filter.stands ∙ at

  says : foot_of r.footer ≡ foot table_format es bs
  says =
      rest.says ∙ (λ k. record {
        head = record {
          filter = Some (record { place = stands k; length = deep k });
          index_place = (rest.index.stands ∙ has.place) k;
          index_length = long k;
          count = is.sums.count k;
          greatest = is.sums.greatest k;
          first = is.sums.first k;
          last = is.sums.last k;
        };
        points = is.sums.points k;
      })

  behind : v.place + r.index.at.length + r.filter.at.length ≡ footer_place table_format es bs
  behind = λ k. at k + deep k

  cut : blocks table_format es ≡ bs
  cut = ap (blocks table_format) (sym (append-nil es)) ∙ is.cut []

  -- it ends where the layout says
  pub ends_there : table_end r ≡ table_length table_format es
  ends_there =
      let there : table_end r ≡ file_length table_format es bs = omega (
        arith,
        rest.foot.stands,
        rest.foot.long,
        behind,
        ap (λ (f : Foot). length (footer_body f)) says,
        length-footer table_format number es bs,
        length-frame_bytes number (footer_place table_format es bs) kinds.Footer (footer_body (foot table_format es bs)),
      ) in
      there ∙ ap (file_length table_format es) (sym cut)

  table : table_end r < 2 ^ 32 → IsTable table_format number es
  table short =
      has_table table_format number es is.fits (record { some = is.some; each = is.each; ordered = is.ordered })
      (subst (λ (n : ℕ). n < 2 ^ 32) ends_there short)

  -- The last block, index, filter, footer and its place, and what is known of the table.
  pub ends : table_end r < 2 ^ 32 → (t : Tail) (block : List ℕ) → block ≡ frame_bytes w.blocks.number w.blocks.place kinds.Block
      (block_body table_format is.open_block)
      → AreBehind r block v t → IsTail t number es given
  ends short t block closed parts =
      let frame = frame_bytes w.blocks.number w.blocks.place kinds.Block (block_body table_format is.open_block) in
      let before = blocks_bytes table_format number 16 is.closed in
      let head = table_header table_format number in
      let back : bs ≡ blocks table_format es = sym cut in
      let whole : given ++ t.block.items ≡ head ++ blocks_bytes table_format number 16 bs =
      (λ k. is.given_out k ++ (parts.block ∙ closed) k) ∙ append_assoc head before frame
      ∙ ap (λ (l : List ℕ). head ++ l)
      (closed_frame number is.closed is.open_block w.blocks.number w.blocks.place frame is.numbered is.has.place (λ k. frame)) in
      let of_index : t.index.items ≡ index_bytes table_format number bs =
      parts.index ∙ rest.index.bytes ∙ (λ k. frame_bytes (numbered k) (has.place k) kinds.Index (index_body (has.places k))) in
      let of_filter : t.filter.items ≡ filter_bytes table_format number es bs =
      parts.filter ∙ rest.filter.bytes ∙ (λ k. frame_bytes (numbered k) (at k) kinds.Filter (marked_body (is.sums.keys k))) in
      let of_footer : t.footer.items ≡ footer_bytes table_format number es bs =
      parts.footer ∙ rest.foot.bytes ∙ (λ k. frame_bytes (numbered k) (behind k) kinds.Footer (footer_body (says k))) in
      let of_place : r.foot.at.place ≡ footer_place table_format es bs = rest.foot.stands ∙ behind in
      let of_bits : t.shape.filter.items ≡ filter_bits table_format es = parts.bits ∙ rest.bits ∙ ap marked_bytes is.sums.keys in
      let f = t.shape.format in
      let formats : table_format ≡ f = sym parts.written in
      record {
        block = whole ∙ ap (λ l. head ++ blocks_bytes table_format number 16 l) back;
        index = of_index ∙ ap (index_bytes table_format number) back;
        filter = of_filter ∙ ap (filter_bytes table_format number es) back;
        footer = of_footer ∙ ap (footer_bytes table_format number es) back;
        place = parts.place ∙ ap (big_bytes 8) of_place ∙ ap (λ l. big_bytes 8 (footer_place table_format es l)) back;
        written = parts.written;
        shape = record {
          numbered = parts.number ∙ numbered;
          table = subst (λ (n : ℕ). IsTable n number es) formats (table short);
          foot = parts.says ∙ says ∙ ap (foot table_format es) back ∙ ap (λ (n : ℕ). foot n es (blocks n es)) formats;
          place = parts.stands ∙ of_place ∙ ap (footer_place table_format es) back
              ∙ ap (λ (n : ℕ). footer_place n es (blocks n es)) formats;
          blocks = parts.blocks ∙ has.places ∙ ap (block_places table_format 16) back
              ∙ ap (λ (n : ℕ). block_places n 16 (blocks n es)) formats;
          filter = of_bits ∙ ap (λ (n : ℕ). filter_bits n es) formats;
        };
      }
