-- A transaction or a view begins, at the last number.
use Rattle.std.specs.Prelude.{ℕ, nat_le, if◌then◌else◌, length}
use Rattle.vl_model.specs.Limits.{max_live}
use Rattle.vl_model.specs.History.{History, last_number}
use Rattle.vl_engine_model.specs.Rising.{put_by}
use Rattle.vl_engine_model.specs.Ruling.{Ruling, leaving, pin_of}
use Rattle.vl_engine_model.specs.Tickets.{tickets_of, free_ticket}
use Rattle.vl_engine_model.specs.declared.layout.Layout.{Layout}
use Rattle.vl_engine_model.specs.declared.live.Live.{Live}

-- the ticket, and the number at which it reads
pub data BeginAnswer : Type 0 where
  Begun : ℕ → ℕ → BeginAnswer
  TooMany : BeginAnswer

abbrev pub begun : Layout → ℕ → ℕ → Layout
begun l ticket number = record l {
  live = put_by (λ (x : Live). x.ticket) (record { ticket = ticket; number = number; pin = pin_of l }) l.live;
}

abbrev pub begin_ruling : Layout → History → Ruling BeginAnswer
begin_ruling l h =
    let ticket = free_ticket (tickets_of l.live) in
    if nat_le max_live (length l.live) then leaving TooMany h l
    else leaving (Begun ticket (last_number h)) h (begun l ticket (last_number h))
