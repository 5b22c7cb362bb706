use Rattle.std.proofs.Common.{◌≡◌, true, refl, not, subst, sym}
use Rattle.std.specs.List.{filter}
use Rattle.std.specs.Prelude.{◌==◌}
use Rattle.vl_engine_laws.specs.laws.Knowing.{knows_of}
use Rattle.vl_engine_laws.specs.laws.Represented.{represents_live}
use Rattle.vl_engine_laws.specs.laws.Standing.{fronts_ended, stands_ended}
use Rattle.vl_steps.specs.laws.Stepped.{fits_live}
use Rattle.vl_space.specs.laws.Pinned.{both_ended}
use Rattle.vl_space.specs.laws.StillRemoved.{removes_live}
use Rattle.vl_engine_model.specs.declared.live.Live.{Live}
use Rattle.vl_pins.specs.Pins.{ArePinsOf}
use Rattle.vl_pins.specs.declared.pins.Pins.{Pins}
use Rattle.vl_pins.specs.laws.PinLaws.{pins_ended}
use Rattle.vl_engine_laws.specs.Known.{are_known}
use Rattle.vl_oracle.specs.LiveTickets.{LiveTickets}
use Rattle.vl_engine.proofs.engine.Engine.end.Goals as goal

pub invariant_of-self-clause-known : goal.invariant_of-self-clause-known
invariant_of-self-clause-known g c =
    subst (λ (o : LiveTickets). are_known o.last c.args.self.now.core.version.active.entries ≡ true) (sym c.end.ensures.oracle)
    c.args.self.now.known

pub invariant_of-self-clause-pinned : goal.invariant_of-self-clause-pinned
invariant_of-self-clause-pinned g c =
    let was = c.args.self.now in
    both_ended was.core.front.oracle was.removing.pins c.args.ticket c.end.new.self.oracle c.end-2.new.self was.pinned
    c.end.ensures.oracle c.end-2.ensures

pub returns-clause-decides : goal.returns-clause-decides
returns-clause-decides g c h l is =
    fronts_ended c.args.self.now.core h l is _ c.end.ensures.log refl (c.end.ensures.knows h (knows_of c.args.self.now.core h l is))
    c.args.ticket c.end.ensures.oracle

pub returns-clause-stands : goal.returns-clause-stands
returns-clause-stands g c h l is =
    stands_ended g.D.Held.HeldFile.bytes c.args.self.now.core _ h l is refl c.args.ticket (returns-clause-decides g c h l is.fronts)

pub returns-clause-represents : goal.returns-clause-represents
returns-clause-represents g c h l is =
    represents_live g.D.Held.HeldFile.bytes c.args.self.now.core _ h l refl _ _ refl
    (filter (λ (x : Live). not (x.ticket == c.args.ticket)) l.live) is (returns-clause-stands g c h l is.stands)

pub returns-clause-fits : goal.returns-clause-fits
returns-clause-fits g c h l fits =
    fits_live c.args.self.now.core _ h l _ _ refl refl (filter (λ (x : Live). not (x.ticket == c.args.ticket)) l.live) fits

pub returns-clause-removes : goal.returns-clause-removes
returns-clause-removes g c l is =
    let live = filter (λ (x : Live). not (x.ticket == c.args.ticket)) l.live in
    removes_live c.args.self.now.core _ c.args.self.now.removing _ l live refl refl
    (subst (λ (p : Pins). ArePinsOf p (record l { live = live })) (sym c.end-2.ensures)
    (pins_ended c.args.self.now.removing.pins l is.pins c.args.ticket)) is
