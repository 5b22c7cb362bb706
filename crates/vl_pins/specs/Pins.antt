-- Which epochs are pinned, and that they are those of a layout.
use Rattle.std.specs.Prelude.{◌≡◌, ◌≤◌, ℕ, max, min, List, map, Option, Some, None}
use Rattle.std.specs.Option.{option_map}
use Rattle.vl_engine_model.specs.declared.job.OpenJob.{OpenJob}
use Rattle.vl_engine_model.specs.declared.job.OpenPass.{OpenPass}
use Rattle.vl_engine_model.specs.declared.layout.Layout.{Layout}
use Rattle.vl_engine_model.specs.declared.live.Live.{Live}
use Rattle.vl_oracle.specs.LiveTickets.{LiveTickets, Ticket, advanced, floor_of}
use Rattle.vl_pins.specs.declared.pins.Pins.{Pins}

-- the present number, which never falls
abbrev pub raised : ℕ → LiveTickets → LiveTickets
raised epoch live = advanced (max live.last epoch) live

-- the lesser one of a number and another, if there is one
abbrev pub least : Option ℕ → ℕ → ℕ
least None n = n
least (Some m) n = min m n

-- the least number that is pinned, and at most the present one
abbrev pub bound_of : ℕ → Pins → ℕ
bound_of epoch pins = least pins.merge (least pins.pass (floor_of (raised epoch pins.live)))

-- ---- of a layout

-- what lives, each with the epoch at which it began
abbrev pub pinned_of : List Live → List Ticket
pinned_of live = map (λ (x : Live). (x.ticket, x.pin.epoch)) live

-- They are the pins of the layout.
pub record ArePinsOf (pins : Pins) (l : Layout) : Type 0 where
  pub live : pins.live.tickets ≡ pinned_of l.live
  pub merge : pins.merge ≡ option_map (λ (j : OpenJob). j.pin.epoch) l.job
  pub pass : pins.pass ≡ option_map (λ (p : OpenPass). p.pin.epoch) l.pass
  -- no number is pinned that is above the layout's
  pub last : pins.live.last ≤ l.epoch
