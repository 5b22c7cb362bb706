-- What is pinned while a call goes on.
use Rattle.std.specs.Prelude.{◌≡◌, ◌⊎◌, ℕ, Option, None, Some, Result, Ok, Err}
use Rattle.vl_space.specs.declared.fails.PickFail.{PickFail}
use Rattle.vl_space.specs.declared.kept.Removing.{Removing}
use Rattle.vl_engine_model.specs.Rising.{IsRising}
use Rattle.vl_engine_model.specs.Tickets.{tickets_of}
use Rattle.vl_engine_model.specs.declared.layout.Layout.{Layout}
use Rattle.vl_engine_model.specs.declared.live.Live.{Live}
use Rattle.vl_oracle.specs.LiveTickets.{LiveTickets, begun, ended}
use Rattle.vl_oracle.specs.declared.begin_fail.BeginFail.{BeginFail}
use Rattle.vl_pins.specs.Pins.{ArePinsOf, raised}
use Rattle.vl_pins.specs.declared.pins.Pins.{Pins}

-- What lives is the layout's, and so are the pins; this is its epoch.
pub record PinsLive (live : LiveTickets) (pins : Pins) (version : ℕ) (l : Layout) : Type 0 where
  pub live_are : live.tickets ≡ tickets_of l.live
  pub rising : IsRising (λ (x : Live). x.ticket) l.live
  pub pins_are : ArePinsOf pins l
  pub version_is : version ≡ l.epoch

abbrev pub without_pin : Option ℕ → Pins → Pins
without_pin None pins = pins
without_pin (Some ticket) pins = record pins { live = ended ticket pins.live }

-- the number is pinned under the next ticket; or noted as the present one, at most
abbrev pub pinned_next : ℕ → Pins → Pins
pinned_next version pins = record pins { live = begun (raised version pins.live) }

abbrev pub noted : ℕ → Pins → Pins
noted version pins = record pins { live = raised version pins.live }

abbrev pub NotesAtMost : ℕ → (old new : Pins) → Type 0
NotesAtMost version old new = (new ≡ old) ⊎ (new ≡ noted version old)

-- What begins pins it; and where it is refused the number is noted at most.
abbrev pub PinsAs : {T : Type 0} → ℕ → (old new : Pins) → Result T BeginFail → Type 0
PinsAs version old new (Ok given) = new ≡ pinned_next version old
PinsAs version old new (Err why) = NotesAtMost version old new

module _ {L : Type 0} where
  -- what has this ticket pins nothing then
  abbrev pub unpinned : ℕ → Removing L → Removing L
  unpinned ticket kept = record kept { pins = record kept.pins { live = ended ticket kept.pins.live } }

  -- so the open merge, or the open pass, pins this number, or none
  abbrev pub merge_pinned : Option ℕ → Removing L → Removing L
  merge_pinned version kept = record kept { pins = record kept.pins { merge = version } }

  abbrev pub pass_pinned : Option ℕ → Removing L → Removing L
  pass_pinned version kept = record kept { pins = record kept.pins { pass = version } }

  -- where a merge began, or a pass
  abbrev pub PinsMerge : {J E : Type 0} → ℕ → (old new : Removing L) → Result (Option J) E → Type 0
  PinsMerge version old new (Ok None) = new ≡ old
  PinsMerge version old new (Ok (Some job)) = new ≡ merge_pinned (Some version) old
  PinsMerge version old new (Err why) = new ≡ old

  abbrev pub PinsPass : {P : Type 0} → ℕ → (old new : Removing L) → Result P PickFail → Type 0
  PinsPass version old new (Ok pass) = new ≡ pass_pinned (Some version) old
  PinsPass version old new (Err why) = new ≡ old
