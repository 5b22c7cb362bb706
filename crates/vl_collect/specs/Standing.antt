-- What is known of a batch for as long as its log is: where its records stand, and how new they are.
use Rattle.std.specs.Prelude.{◌≡◌, ◌≤◌, ℕ, List, Some}
use Rattle.std.specs.List.{AllByRecursion}
use Rattle.vl_collect.specs.declared.pass.At.{At}
use Rattle.vl_engine_model.specs.Relocation.{Candidate}
use Rattle.vl_engine_model.specs.Shown.{IsThere}
use Rattle.vl_model.specs.Keys.{Stored}
use Rattle.vl_model.specs.Winners.{Logs}
use Rattle.vl_model.specs.declared.pointer.Pointer.{Pointer}
use Rattle.vl_seglog.specs.Stored.{stored_at}

-- where a pass begins: behind the header
abbrev pub start : At
start = record { place = 16; done = 0 }

-- What these logs have in a segment stands in these bytes, which have this format. So it is of a layout's logs where the segment
-- is one of them and has these bytes, and where it is none of them any more.
abbrev pub HaveOnly : ℕ → List ℕ → ℕ → Logs → Type 0
HaveOnly format bytes segment logs = (p : Pointer) (key : List ℕ) (value : Stored) → p.segment ≡ segment
    → logs p key ≡ Some value → stored_at format bytes p key ≡ Some value

-- Nothing but its value stands in the bytes of its log where a record of the batch was found, and none is of a version above a
-- number.
pub record IsGiven (format : ℕ) (bytes : List ℕ) (segment last : ℕ) (batch : List Candidate) : Type 0 where
  pub there : AllByRecursion (IsThere (stored_at format bytes) segment) batch
  pub up_to : AllByRecursion (λ (c : Candidate). c.moved.version ≤ last) batch
