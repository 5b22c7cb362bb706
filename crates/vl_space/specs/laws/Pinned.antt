-- What is pinned is what the layout has, where something begins, is refused, and ends.
use Rattle.std.specs.Prelude.{◌≡◌, ℕ, length, IsErrAnd, Some, Result, Ok, Err}
use Rattle.std.proofs.Common.{sym, ap, subst, ◌∙◌}
use Rattle.std.proofs.lemmas.List.{length-map}
use Rattle.vl_front.specs.declared.front.Front.{Front}
use Rattle.vl_pins.specs.Same.{HaveSameTickets, tickets_in}
use Rattle.vl_pins.specs.laws.SameTickets.{same_begun, same_ended}
use Rattle.vl_space.specs.Pinning.{PinsAs, PinsLive, noted, pinned_next, without_pin}
use Rattle.vl_engine_model.specs.Rulings.Begin.{begun as begun_there}
use Rattle.vl_engine_model.specs.Tickets as tickets
use Rattle.vl_engine_model.specs.Tickets.{tickets_of}
use Rattle.vl_engine_model.specs.declared.layout.Layout.{Layout}
use Rattle.vl_engine_model.specs.declared.live.Live.{Live}
use Rattle.vl_oracle.specs.LiveTickets.{LiveTickets, begun, ended, free_ticket}
use Rattle.vl_oracle.specs.declared.begin_fail.BeginFail.{BeginFail}
use Rattle.vl_pins.specs.Pins.{ArePinsOf, raised}
use Rattle.vl_pins.specs.declared.pins.Pins.{Pins}
use Rattle.vl_pins.specs.laws.PinLaws.{pins_begun, pins_begun_ended, pins_raised}

module _ (live : LiveTickets) (pins : Pins) (version : ℕ) (l : Layout) (is : PinsLive live pins version l) where
  -- as many are pinned as live
  pub same_count : length pins.live.tickets ≡ length live.tickets
  same_count =
      ap length is.pins_are.live ∙ length-map l.live (λ (x : Live). (x.ticket, x.pin.epoch))
      ∙ sym (length-map l.live (λ (x : Live). (x.ticket, x.number))) ∙ ap length (sym is.live_are)

  abbrev pinned_at : ℕ → Pins
  pinned_at number = record pins { live = begun (raised number pins.live) }

  -- it began,
  pub begun_so : (number : ℕ) (new : Pins) → new ≡ record pins { live = begun (raised version pins.live) }
      → ArePinsOf new (begun_there l (tickets.free_ticket (tickets_of l.live)) number)
  begun_so number new same =
      subst (λ (p : Pins). ArePinsOf p (begun_there l (tickets.free_ticket (tickets_of l.live)) number))
      (sym (same ∙ ap pinned_at is.version_is)) (pins_begun pins l is.pins_are is.rising number)

  -- the present number was noted,
  pub raised_so : (new : Pins) → new ≡ record pins { live = raised version pins.live } → ArePinsOf new l
  raised_so new same =
      subst (λ (p : Pins). ArePinsOf p l)
      (sym (same ∙ ap (λ (n : ℕ). record pins { live = raised n pins.live }) is.version_is)) (pins_raised pins l is.pins_are)

  -- or it was refused behind that.
  pub unpinned_so : (mid new : Pins) (ticket : ℕ) → ticket ≡ free_ticket pins.live
      → mid ≡ record pins { live = begun (raised version pins.live) } → new ≡ without_pin (Some ticket) mid → ArePinsOf new l
  unpinned_so mid new ticket free same then_is =
      subst (λ (p : Pins). ArePinsOf p l)
      (sym (then_is ∙ ap (λ (p : Pins). record p { live = ended ticket p.live }) (same ∙ ap pinned_at is.version_is)
      ∙ ap (λ (t : ℕ). record pins { live = ended t (begun (raised l.epoch pins.live)) }) free))
      (pins_begun_ended pins l is.pins_are is.rising)

-- Over any layout: where what was pinned is given back, the number is noted,
pub undone_so : (pins : Pins) (version : ℕ) (mid : Pins) (ticket : ℕ) → mid ≡ pinned_next version pins
    → ended ticket mid.live ≡ raised version pins.live → without_pin (Some ticket) mid ≡ noted version pins
undone_so pins version mid ticket same back =
    ap (λ (p : Pins). record p { live = ended ticket mid.live }) same
    ∙ ap (λ (live : LiveTickets). record pins { live = live }) back

-- both have the same tickets where it began in both,
pub both_begun : (live : LiveTickets) (pins : Pins) (version : ℕ) (now : LiveTickets) (new : Pins) → HaveSameTickets live pins.live
    → now ≡ begun live → new ≡ pinned_next version pins → HaveSameTickets now new.live
both_begun live pins version now new same began pinned =
    ap (λ (l : LiveTickets). tickets_in l.tickets) began ∙ same_begun live (raised version pins.live) same
    ∙ sym (ap (λ (p : Pins). tickets_in p.live.tickets) pinned)

-- and where it began in neither.
pub still_same : (now : Front) (front : Front) (pins : Pins) (version : ℕ) (new : Pins) → HaveSameTickets front.oracle pins.live
    → now ≡ front → new ≡ noted version pins → HaveSameTickets now.oracle new.live
still_same now front pins version new same alike is =
    ap (λ (f : Front). tickets_in f.oracle.tickets) alike ∙ same ∙ sym (ap (λ (p : Pins). tickets_in p.live.tickets) is)

-- So they have where something ended in both, also behind other numbers.
pub both_ended : (live : LiveTickets) (pins : Pins) (ticket : ℕ) (now : LiveTickets) (new : Pins) → HaveSameTickets live pins.live
    → now ≡ ended ticket live → new ≡ record pins { live = ended ticket pins.live } → HaveSameTickets now new.live
both_ended live pins ticket now new same end unpin =
    ap (λ (l : LiveTickets). tickets_in l.tickets) end ∙ same_ended live pins.live same ticket
    ∙ sym (ap (λ (p : Pins). tickets_in p.live.tickets) unpin)

-- They have where the merge, the pass or the present number alone may be another.
pub same_beside : (live : LiveTickets) (old new : Pins) → HaveSameTickets live old.live → new.live.tickets ≡ old.live.tickets
    → HaveSameTickets live new.live
same_beside live old new same is = same ∙ sym (ap tickets_in is)

-- It is the same refusal that is handed on.
pub refused_pins : {U : Type 0} (version : ℕ) (old new : Pins) (result : Result U BeginFail) (why : BeginFail)
    → IsErrAnd result (λ e. e ≡ why) → PinsAs {T = Unit {0}} version old new (Err why) → PinsAs version old new result
refused_pins version old new (Ok given) why is pins = absurd is
refused_pins version old new (Err other) why is pins = pins
