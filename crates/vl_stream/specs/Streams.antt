-- What the bytes of a stream hold: batches of records, of which the keys rise, and an end that counts them.
use Rattle.std.specs.Prelude.{◌≡◌, ◌≢◌, ◌⊎◌, ◌<◌, ◌^◌, ℕ, ◌+◌, T, List, [], ◌∷◌, ◌++◌, map, length}
use Rattle.std.specs.Ordering.{is_lt}
use Rattle.vl_stream.specs.Grammar.{stream_grammar}
use Rattle.vl_frame.specs.Header.{HasFormat, letters}
use Rattle.vl_frame.specs.Runs.{Grammar, StandsAt, item_frame, run_bytes}
use Rattle.vl_frame.specs.declared.kinds.FileKind.TheVariants.{Backup}
use Rattle.byteorder.specs.Endian.{big_bytes}
use Rattle.vl_model.specs.Keys.{key_cmp}
use Rattle.vl_stream.specs.Batches.{Write, batches}
use Rattle.vl_stream.specs.Pieces.{End, Piece, Records}

-- the last key of some records; of none the one before
abbrev pub last_key : List ℕ → List Write → List ℕ
last_key key [] = key
last_key key (w ∷ ws) = last_key w.0 ws

-- the first of these keys is above another, of which an empty one is none
abbrev pub IsAbove : List ℕ → List Write → Type 0
IsAbove key [] = Unit {0}
IsAbove key (w ∷ ws) = T (is_lt (key_cmp key w.0))

-- the piece may stand behind so many records, of which this is the last key
abbrev pub IsNext : List ℕ → ℕ → Piece → Type 0
IsNext key count (Records ws) = IsAbove key ws
IsNext key count (End number records) = records ≡ count

-- what a stream is: whole, or damaged at a place
pub data Found : Type 0 where
  Whole : Found
  DamagedAt : ℕ → Found

-- how pieces are spelled is the grammar's
module _ (G : Grammar Piece) where
  -- no piece that may stand there does
  abbrev pub StandsNoNext : ℕ → List ℕ → ℕ → List ℕ → Type 0
  StandsNoNext at key count bytes = (piece : Piece) (rest : List ℕ) → StandsAt G 0 at bytes piece rest → IsNext key count piece → ⊥

  -- the end stands there, and has the right count
  pub record Ends (at count : ℕ) (bytes : List ℕ) : Type 0 where
    pub number : ℕ
    pub rest : List ℕ
    pub stands : StandsAt G 0 at bytes (End number count) rest

  abbrev pub behind_end : (at count : ℕ) → ℕ → ℕ
  behind_end at count number = at + length (item_frame G 0 at (End number count))

  -- The bytes begin with these batches, whatever stands behind them.
  abbrev pub BeginWith : (at : ℕ) (key : List ℕ) (count : ℕ) (bytes : List ℕ) → List (List Write) → Type 0
  BeginWith at key count bytes [] = Unit {0}
  BeginWith at key count bytes (b ∷ bs) =
      (rest : List ℕ) × StandsAt G 0 at bytes (Records b) rest × IsAbove key b
      × BeginWith (at + length (item_frame G 0 at (Records b))) (last_key key b) (count + length b) rest bs

  -- The bytes of a stream from a place on, behind so many records, of which this is the last key, hold these batches, and then are
  -- so: at the end nothing follows; or they are damaged, at the first place where no next piece stands, or behind the end.
  abbrev pub Holds : (at : ℕ) (key : List ℕ) (count : ℕ) (bytes : List ℕ) → List (List Write) → Found → Type 0
  Holds at key count bytes [] Whole = (e : Ends at count bytes) × (e.rest ≡ [])
  Holds at key count bytes [] (DamagedAt place) =
      ((place ≡ at) × StandsNoNext at key count bytes)
      ⊎ ((e : Ends at count bytes) × (e.rest ≢ []) × (place ≡ behind_end at count e.number))
  Holds at key count bytes (b ∷ bs) found =
      (rest : List ℕ) × StandsAt G 0 at bytes (Records b) rest × IsAbove key b
      × Holds (at + length (item_frame G 0 at (Records b))) (last_key key b) (count + length b) rest bs found

  -- the frames of a stream
  abbrev pub pieces : (number : ℕ) → List Write → List Piece
  pieces number ws = map Records (batches ws) ++ End number (length ws) ∷ []

  abbrev pub frames : (number : ℕ) → List Write → List ℕ
  frames number ws = run_bytes G 0 16 (pieces number ws)

-- ---- whole streams

abbrev pub stream_format : ℕ
stream_format = 1

-- what a stream begins with: four letters, the format 1, and the number since which it tells
abbrev pub stream_header : (since : ℕ) → List ℕ
stream_header since = letters Backup ++ big_bytes 4 stream_format ++ big_bytes 8 since

-- The stream that tells these records since a number up to another: a frame for each batch, and the end.
abbrev pub stream : (since number : ℕ) → List Write → List ℕ
stream since number ws = stream_header since ++ frames stream_grammar number ws

-- The input is a stream's header, and behind it these batches stand, and then it is so.
pub record HoldsStream (input : List ℕ) (bs : List (List Write)) (found : Found) : Type 0 where
  pub since : ℕ
  pub fits : since < 2 ^ 64
  pub rest : List ℕ
  pub spelled : input ≡ stream_header since ++ rest
  pub holds : Holds stream_grammar 16 [] 0 rest bs found

-- The input begins with another header, or with none.
abbrev pub IsNoBackup : List ℕ → Type 0
IsNoBackup input = (format : ℕ) → HasFormat Backup input format → ⊥
