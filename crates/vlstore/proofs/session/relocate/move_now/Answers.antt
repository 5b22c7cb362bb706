use Rattle.std.proofs.Common.{refl, ap}
use Rattle.std.specs.Prelude.{[]}
use Rattle.vl_engine_laws.specs.Lent.{StandsOpen}
use Rattle.vl_steps.specs.Relocating.{IsOfPass, move_effects, move_outcome}
use Rattle.vl_engine_model.specs.Decides.{as_before}
use Rattle.vl_engine_model.specs.Relocation.{Pass}
use Rattle.vl_engine_model.specs.Rulings.Relocate.{relocate_ruling}
use Rattle.vlstore.specs.Standing.{parts}
use Rattle.vlstore.proofs.Collecting.{collects_past, relocate_leaves, same_logs}
use Rattle.vlstore.proofs.Faults.{move_counted, move_unfailing}
use Rattle.vlstore.proofs.Wholes.{whole_with}
use Rattle.vlstore.proofs.session.relocate.move_now.Goals as goal

pub returns-in-Ok-clause-whole : goal.returns-in-Ok-clause-whole
returns-in-Ok-clause-whole g c h l p w segment lasts there =
    let bytes = g.D.Held.HeldFile.bytes in
    let old = c.args.engine.now in
    let new = c.relocate.new.self in
    let y = parts (g.D.Watched.told new.disk) new.core new.merging new.collecting new.removing in
    let batch = c.args.batch in
    let outcome = move_outcome c.relocate.result in
    let effects = move_effects c.relocate.result in
    let of : IsOfPass bytes old.core c.args.pass.now.log batch c.in-Ok.reader.looks h l p = record {
      stands = w.represents.stands;
      segment = segment;
      lasts = lasts;
      there = there;
      fits = c.in-Ok.ensures.fits h l w.represents.stands;
    } in
    let opens : StandsOpen bytes old.core old.merging h l = record { stands = w.represents.stands; opens = w.opens } in
    let decides = (c.relocate.ensures.carries h l p of w.represents).decides in
    whole_with bytes y h l (relocate_ruling l h p batch) (as_before l l) outcome effects decides
    (c.relocate.ensures.stands h l p of opens) (c.relocate.ensures.fits h l p of w.fits)
    (collects_past old.core new.core old.collecting new.collecting (ap (λ b. b.logs) c.relocate.ensures.logs)
    c.relocate.ensures.collecting _ h l l (relocate_ruling l h p batch) outcome effects decides (relocate_leaves l h p batch).0
    (relocate_leaves l h p batch).1 (same_logs l) refl w.collects)
    (c.relocate.ensures.removes h l p of opens w.removes)

pub returns-in-Ok-clause-undamaged : goal.returns-in-Ok-clause-undamaged
returns-in-Ok-clause-undamaged g c h l stands lasts there =
    let p : Pass = record { segment = c.args.pass.now.log.number; base = []; left = [] } in
    let of : IsOfPass g.D.Held.HeldFile.bytes c.args.engine.now.core c.args.pass.now.log c.args.batch
    c.in-Ok.reader.looks h l p = record {
      stands = stands;
      segment = refl;
      lasts = lasts;
      there = there;
      fits = c.in-Ok.ensures.fits h l stands;
    } in
    c.relocate.ensures.undamaged h l p of

pub returns-in-Ok-clause-cause : goal.returns-in-Ok-clause-cause
returns-in-Ok-clause-cause g c surely name at =
    move_unfailing g.D.Watched.faults g.D.Reader.Reader.faults g.D.Writer.Writer.faults c.args.engine.now.disk
    c.relocate.new.self.disk c.in-Ok.reader.looks.reader c.relocate.new.looks.reader c.args.engine.now.core.front.log.number c.relocate.result
    c.relocate.ensures.cause surely name at

pub returns-in-Ok-clause-counted : goal.returns-in-Ok-clause-counted
returns-in-Ok-clause-counted g c =
    move_counted g.D.Watched.faults (λ r. g.D.Reader.Reader.faults r) c.args.engine.now.disk c.relocate.new.self.disk
    c.in-Ok.reader.looks.reader c.relocate.new.looks.reader c.args.engine.now.core.front.log.number c.relocate.result
    c.relocate.ensures.cause
