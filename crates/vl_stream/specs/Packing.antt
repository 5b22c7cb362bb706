-- What a stream has got so far while records are put into it, one after the other.
use Rattle.std.specs.Prelude.{◌≡◌, ℕ, ◌+◌, Bool, true, List, [], ◌∷◌, ◌++◌, map, length, Option}
use Rattle.vl_stream.specs.Batches.{AreBatches, Write, joined, joins, size_of}
use Rattle.vl_stream.specs.Grammar.{stream_grammar}
use Rattle.vl_stream.specs.Pieces.{Records}
use Rattle.vl_frame.specs.Runs.{run_bytes}
use Rattle.vl_io.specs.Sink.{Takes}
use Rattle.vl_model.specs.declared.change.Change.{Change}

-- the open batch behind those that were written; it is none before the first record
abbrev pub with_waiting : List (List Write) → List Write → List (List Write)
with_waiting done [] = done
with_waiting done (w ∷ waiting) = done ++ (w ∷ waiting) ∷ []

-- These records were put into a stream, of which these bytes of frames were written, up to a place; the last of them still wait
-- in the open batch.
pub record Packs (at count : ℕ) (waiting : List Write) (bytes : List ℕ) (ws : List Write) : Type 0 where
  pub done : List (List Write)
  pub parted : AreBatches (with_waiting done waiting)
  pub first : (waiting ≡ []) → ws ≡ []
  pub all : joined (with_waiting done waiting) ≡ ws
  pub written : bytes ≡ run_bytes stream_grammar 0 16 (map Records done)
  pub place : at ≡ 16 + length bytes
  pub counted : count ≡ length ws

-- one more record may stand beside those of the open batch
abbrev pub admits : List Write → Change → Bool
admits [] change = true
admits (w ∷ waiting) change = joins (length (w ∷ waiting)) (size_of (w ∷ waiting)) ([], change)

-- Something was written, and is what the packing has more then.
pub record PacksOn (held now : Option (List ℕ)) (bytes : List ℕ) (after : List ℕ → Type 0) : Type 0 where
  pub more : List ℕ
  pub takes : Takes held now more
  pub packs : after (bytes ++ more)
