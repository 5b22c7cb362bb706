use Rattle.std.proofs.Common.{sym, ap, ◌∙◌, inl, inr, Option}
use Rattle.vl_pins.specs.laws.SameTickets.{same_many}
use Rattle.vl_space.specs.laws.Pinned.{begun_so, both_begun, raised_so, same_count, still_same, undone_so, unpinned_so}
use Rattle.std.specs.Prelude.{ℕ}
use Rattle.vl_space.specs.Pinning.{without_pin}
use Rattle.vl_space.proofs.pin.begin.Goals.{in-Ok, in-Err-TooMany}
use Rattle.vl_space.proofs.pin.begin.Goals as goal

pub returns-in-Ok-begin-clause-pinned : goal.returns-in-Ok-begin-clause-pinned
returns-in-Ok-begin-clause-pinned c l number live =
    elim c.match-begin.branch [
      | in-Ok w ↦ begun_so c.args.front.now.oracle c.args.pins.now c.args.epoch l live number c.begin.new.self w.in-Ok.ensures.begun.1
      | in-Err-TooMany w ↦ absurd (let refused = c.in-Ok-begin.ensures.too_many.1
          (sym (same_count c.args.front.now.oracle c.args.pins.now c.args.epoch l live) ∙ w.in-Err-TooMany.ensures.too_many.0 (cc)) in cc)
    ]

pub returns-in-Err-clause-unpinned : goal.returns-in-Err-clause-unpinned
returns-in-Err-clause-unpinned c l live =
    elim c.match-begin.branch [
      | in-Ok w ↦ unpinned_so c.args.front.now.oracle c.args.pins.now c.args.epoch l live c.begin.new.self c.unpin.new.pins
          w.in-Ok.ticket w.in-Ok.ensures.begun.0 w.in-Ok.ensures.begun.1
          (c.unpin.ensures ∙ ap (λ (o : Option ℕ). without_pin o c.begin.new.self) w.pinned-is)
      | in-Err-TooMany w ↦ raised_so c.args.front.now.oracle c.args.pins.now c.args.epoch l live c.unpin.new.pins
          (c.unpin.ensures ∙ ap (λ (o : Option ℕ). without_pin o c.begin.new.self) w.pinned-is ∙ w.in-Err-TooMany.ensures.refused)
    ]

pub returns-in-Ok-begin-clause-pins : goal.returns-in-Ok-begin-clause-pins
returns-in-Ok-begin-clause-pins c =
    elim c.match-begin.branch [
      | in-Ok w ↦ λ room. w.in-Ok.ensures.begun.1
      | in-Err-TooMany w ↦ λ room. absurd (room (w.in-Err-TooMany.ensures.too_many.0 (cc)))
    ]

pub returns-in-Err-clause-noted : goal.returns-in-Err-clause-noted
returns-in-Err-clause-noted c =
    elim c.match-begin.branch [
      | in-Ok w ↦ inr (c.unpin.ensures ∙ ap (λ (o : Option ℕ). without_pin o c.begin.new.self) w.pinned-is
          ∙ undone_so c.args.pins.now c.args.epoch c.begin.new.self w.in-Ok.ticket w.in-Ok.ensures.begun.1 w.in-Ok.ensures.undone)
      | in-Err-TooMany w ↦ inr (c.unpin.ensures ∙ ap (λ (o : Option ℕ). without_pin o c.begin.new.self) w.pinned-is
          ∙ w.in-Err-TooMany.ensures.refused)
    ]

pub returns-in-Ok-begin-clause-same : goal.returns-in-Ok-begin-clause-same
returns-in-Ok-begin-clause-same c same =
    elim c.match-begin.branch [
      | in-Ok w ↦ both_begun c.args.front.now.oracle c.args.pins.now c.args.epoch _ c.begin.new.self same
          c.in-Ok-begin.ensures.ok.1 w.in-Ok.ensures.begun.1
      | in-Err-TooMany w ↦ absurd (let refused = c.in-Ok-begin.ensures.too_many.1
          (same_many c.args.front.now.oracle c.args.pins.now.live same ∙ w.in-Err-TooMany.ensures.too_many.0 (cc)) in cc)
    ]

pub returns-in-Err-clause-same : goal.returns-in-Err-clause-same
returns-in-Err-clause-same c same =
    elim c.match-begin.branch [
      | in-Ok w ↦ still_same _ c.args.front.now c.args.pins.now c.args.epoch c.unpin.new.pins same c.in-Err.ensures.err
          (c.unpin.ensures ∙ ap (λ (o : Option ℕ). without_pin o c.begin.new.self) w.pinned-is
          ∙ undone_so c.args.pins.now c.args.epoch c.begin.new.self w.in-Ok.ticket w.in-Ok.ensures.begun.1 w.in-Ok.ensures.undone)
      | in-Err-TooMany w ↦ still_same _ c.args.front.now c.args.pins.now c.args.epoch c.unpin.new.pins same c.in-Err.ensures.err
          (c.unpin.ensures ∙ ap (λ (o : Option ℕ). without_pin o c.begin.new.self) w.pinned-is ∙ w.in-Err-TooMany.ensures.refused)
    ]
