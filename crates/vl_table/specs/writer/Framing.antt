-- The frames that stand behind a table's blocks, each by itself.
use Rattle.std.specs.Prelude.{◌≡◌, ◌≤◌, ◌+◌, ◌<◌, ◌^◌, ℕ, Some, List, length}
use Rattle.byteorder.specs.Endian.{big_bytes}
use Rattle.vl_filter.specs.Filters.{marked_body, marked_bytes}
use Rattle.vl_frame.specs.Frame.{frame_bytes, frame_length}
use Rattle.vl_frame.specs.declared.kinds.FrameKind.{FrameKind}
use Rattle.vl_frame.specs.declared.kinds.FrameKind.TheVariants as kinds
use Rattle.vl_model.specs.Formats.{table_format}
use Rattle.vl_table.specs.body.Footer.{foot_of, footer_body}
use Rattle.vl_table.specs.body.Index.{index_body}
use Rattle.vl_table.specs.writer.PointSums.{points_in}
use Rattle.vl_table.specs.declared.writer.blocks_writer.BlocksWriter.{BlocksWriter}
use Rattle.vl_table.specs.declared.writer.finish.Rest.{Rest}
use Rattle.vl_table.specs.declared.writer.framed.Framed.{Framed}
use Rattle.vl_table.specs.declared.writer.summary.Summary.{Summary}
use Rattle.vl_table.specs.declared.writer.tail.Tail.{Tail}

-- the frame of this kind and body, which stands at the place
pub record IsFramed (number place : ℕ) (kind : FrameKind) (body : List ℕ) (f : Framed) : Type 0 where
  pub stands : f.at.place ≡ place
  pub long : f.at.length ≡ frame_length (length body)
  pub bytes : f.bytes.items ≡ frame_bytes number place kind body

-- Index, filter and footer, one behind the other behind these blocks, and what they say.
pub record StandsBehind (b : BlocksWriter) (s : Summary) (r : Rest) : Type 0 where
  pub index : IsFramed b.number b.place kinds.Index (index_body b.closed.items) r.index
  pub filter : IsFramed b.number (b.place + r.index.at.length) kinds.Filter (marked_body s.keys.items) r.filter
  pub bits : r.bits.items ≡ marked_bytes s.keys.items
  pub says : foot_of r.footer ≡ record {
    head = record {
      filter = Some r.filter.at;
      index_place = r.index.at.place;
      index_length = r.index.at.length;
      count = s.count;
      greatest = s.greatest;
      first = s.first;
      last = s.last;
    };
    points = points_in s.points;
  }
  pub foot : IsFramed b.number (b.place + r.index.at.length + r.filter.at.length) kinds.Footer
      (footer_body (foot_of r.footer)) r.foot

-- Where the table ends with these: behind the footer comes its place.
abbrev pub table_end : Rest → ℕ
table_end r = r.foot.at.place + r.foot.at.length + 8

-- The same, and in all there are less than 2^32 bytes.
pub record IsRest (b : BlocksWriter) (s : Summary) (r : Rest) : Type 0 where
  pub stands : StandsBehind b s r
  pub short : table_end r < 2 ^ 32

-- Such would be more.
pub record IsTooLong (b : BlocksWriter) (s : Summary) : Type 0 where
  pub rest : Rest
  pub stands : StandsBehind b s rest
  pub long : 2 ^ 32 ≤ table_end rest

-- the pieces are the last block's frame and these, and the shape says what they do
pub record AreBehind (r : Rest) (last : List ℕ) (b : BlocksWriter) (t : Tail) : Type 0 where
  pub block : t.block.items ≡ last
  pub index : t.index.items ≡ r.index.bytes.items
  pub filter : t.filter.items ≡ r.filter.bytes.items
  pub footer : t.footer.items ≡ r.foot.bytes.items
  pub place : t.place ≡ big_bytes 8 r.foot.at.place
  pub written : t.shape.format ≡ table_format
  pub number : t.shape.number ≡ b.number
  pub says : foot_of t.shape.footer ≡ foot_of r.footer
  pub stands : t.shape.footer_place ≡ r.foot.at.place
  pub blocks : t.shape.blocks.items ≡ b.closed.items
  pub bits : t.shape.filter.items ≡ r.bits.items
