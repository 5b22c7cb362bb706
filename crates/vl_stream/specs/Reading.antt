-- Records whose keys rise, one behind the other, as they are read.
use Rattle.std.specs.Prelude.{◌≡◌, ◌<◌, ◌^◌, ◌+◌, ℕ, T, List, [], ◌∷◌, ◌++◌, length, Option, Some}
use Rattle.std.specs.Ordering.{is_lt}
use Rattle.vl_stream.specs.Batches.{Write}
use Rattle.byteorder.specs.Endian.{big_bytes}
use Rattle.vl_stream.specs.Grammar.{stream_grammar}
use Rattle.vl_stream.specs.Pieces.{Records, record_format}
use Rattle.vl_stream.specs.Streams.{IsAbove, last_key, stream_header}
use Rattle.vl_frame.specs.Runs.{StandsAt, item_frame}
use Rattle.vl_model.specs.Keys.{key_cmp}
use Rattle.vl_seglog.specs.Commit.{records_spelling}
use Rattle.vl_seglog.specs.Series.{IsSeries}

-- each key is above the one before, and the first above this one
abbrev pub RiseFrom : List ℕ → List Write → Type 0
RiseFrom key [] = Unit {0}
RiseFrom key (w ∷ ws) = T (is_lt (key_cmp key w.0)) × RiseFrom w.0 ws

-- so many lawful records, one behind the other, are the bytes, and their keys rise from above this one on
pub record IsSeriesAbove (key : List ℕ) (bytes : List ℕ) (count : ℕ) (ws : List Write) : Type 0 where
  pub series : IsSeries (records_spelling record_format) bytes count ws
  pub rise : RiseFrom key ws

-- ---- a frame's bytes

-- They are as many as a frame has that says so of itself.
pub record IsFrameLong (frame : List ℕ) : Type 0 where
  pub kind : ℕ
  pub body : ℕ
  pub fits : body < 2 ^ 32
  pub more : List ℕ
  pub spelled : frame ≡ kind ∷ big_bytes 4 body ++ more
  pub long : length frame ≡ body + 13

-- a source gave these bytes, and so many others are left
pub record Gave (bytes : List ℕ) (left : Option (List ℕ)) (given : List ℕ) : Type 0 where
  pub rest : List ℕ
  pub spelled : bytes ≡ given ++ rest
  pub left_is : left ≡ Some rest

-- The input began with the header of a stream, and this is left.
pub record GaveHeader (input : List ℕ) (left : Option (List ℕ)) : Type 0 where
  pub since : ℕ
  pub fits : since < 2 ^ 64
  pub gave : Gave input left (stream_header since)

-- At a place of a stream, behind a key, a batch stood, whose frame ends at the next place, with its last key; and this is left.
pub record GaveBatch (at : ℕ) (key : List ℕ) (count : ℕ) (bytes : List ℕ) (next : ℕ) (last : List ℕ) (total : ℕ)
    (left : Option (List ℕ)) (batch : List Write) : Type 0 where
  pub rest : List ℕ
  pub stands : StandsAt stream_grammar 0 at bytes (Records batch) rest
  pub above : IsAbove key batch
  pub next_is : next ≡ at + length (item_frame stream_grammar 0 at (Records batch))
  pub last_is : last ≡ last_key key batch
  pub total_is : total ≡ count + length batch
  pub left_is : left ≡ Some rest

-- A frame's first five bytes say that its body is so long.
pub record SaysLength (head : List ℕ) (body : ℕ) : Type 0 where
  pub kind : ℕ
  pub fits : body < 2 ^ 32
  pub spelled : head ≡ kind ∷ big_bytes 4 body
