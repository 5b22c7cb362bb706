use Rattle.std.proofs.Common.{ap, arith, refl, subst, sym, ◌∙◌, ℕ}
use Rattle.std.specs.Prelude.{Some}
use Rattle.vl_compact.specs.declared.files.Lent.{Lent}
use Rattle.vl_engine.proofs.Collected.{active_is}
use Rattle.vl_space.specs.laws.Pinned.{same_beside}
use Rattle.vl_space.specs.laws.Retired.Changing.{has_some, less_lent, readied_for, stays_either, stays_itself, stays_readied}
use Rattle.vl_space.specs.Collecting.{IsTallied}
use Rattle.vl_space.specs.declared.kept.Collecting.{Collecting}
use Rattle.vl_space.specs.declared.kept.Removing.{Removing}
use Rattle.vl_pins.specs.Files.{BecomesBy, HasRoom, kept_in, log_sealed}
use Rattle.vl_pins.specs.declared.pins.Pins.{Pins}
use Rattle.vl_pins.specs.declared.stock.Stock.{Stock}
use Rattle.vl_front.specs.declared.front.Front.{Front}
use Rattle.std.specs.Option.{option_map}
use Rattle.vl_space.specs.laws.Retired.There.{there_sealed, there_used}
use Rattle.vl_engine.proofs.engine.Engine.seal_active.Goals as goal

pub returns-in_default-clause-sealed : goal.returns-in_default-clause-sealed
returns-in_default-clause-sealed g c = stays_itself c.args.self.now.core c.args.self.now.removing.stock

pub add_log-requires : goal.add_log-requires
add_log-requires g c =
    subst (λ (r : Removing (Lent g.row.D-Writer.Denot g.D.Writer.Writer)). HasRoom r.stock 0 1 0)
    (sym c.in-Ok-Some.ensures.removing)
    (less_lent c.make_room-2.new.self.stock 0 1 c.lent_count.result c.in-Ok-make_room.ensures.readied.room)

pub returns-in-Ok-Some-clause-collected : goal.returns-in-Ok-Some-clause-collected
returns-in-Ok-Some-clause-collected g c =
    let did = rw c.in-Ok-Some.field-0-is at c.in-Ok-Some.ensures.as_rotated in
    record {
      passing = c.seal.ensures.passing ∙ ap (λ (k : Collecting). k.passing) c.in-Ok-Some.ensures.collecting
          ∙ c.in-Ok.ensures.readied.passing;
      tallied = λ h l n is tallies stepped. c.seal.ensures.rotate l h n
          (subst (λ (k : Collecting). IsTallied k.tally l) (sym c.in-Ok-Some.ensures.collecting)
          (c.in-Ok.ensures.readied.tallied h l is tallies))
          (ap (λ (m : ℕ). (m, c.args.self.now.core.front.log.length)) did.0 ∙ active_is c.args.self.now.core h l is.fronts) stepped;
    }

pub returns-in-Ok-Some-clause-sealed : goal.returns-in-Ok-Some-clause-sealed
returns-in-Ok-Some-clause-sealed g c =
    let did = rw c.in-Ok-Some.field-0-is at c.in-Ok-Some.ensures.as_rotated in
    record {
      readied = c.make_room-2.new.self.stock;
      is_ready = readied_for c.args.self.now.core c.args.self.now.removing.stock c.make_room-2.new.self.stock 0 0 c.lent_count.result _
          refl c.lent_count.ensures c.in-Ok-make_room.ensures.readied;
      sealed = subst (λ (n : ℕ). BecomesBy (log_sealed n) c.make_room-2.new.self.stock c.add_log.new.self) did.0
          (subst (λ (r : Removing (Lent g.row.D-Writer.Denot g.D.Writer.Writer)).
          BecomesBy (log_sealed c.in-Ok-Some.number) r.stock c.add_log.new.self) c.in-Ok-Some.ensures.removing c.add_log.ensures.sealed);
      trash = c.add_log.ensures.trash
          ∙ ap (λ (r : Removing (Lent g.row.D-Writer.Denot g.D.Writer.Writer)). r.stock.trash) c.in-Ok-Some.ensures.removing;
    }

-- the files in use stand

pub invariant_of-self-2 : goal.invariant_of-self-2
invariant_of-self-2 g c = record {
  ready = c.args.self.now.ready;
  numbered = c.args.self.now.numbered;
  lent = c.args.self.now.lent;
  known = c.args.self.now.known;
  pinned = same_beside c.args.self.now.core.front.oracle c.args.self.now.removing.pins c.make_room-2.new.self.pins c.args.self.now.pinned
      (ap (λ (p : Pins). p.live.tickets) c.make_room-2.ensures.pins);
  there = λ running. there_used g.D.Watched g.D.Writer.Writer c.args.self.now.disk c.args.self.now.core c.args.self.now.merging
      c.args.self.now.removing.stock c.make_room-2.new.self.stock
      (stays_either c.make_room-2.result c.args.self.now.core c.args.self.now.removing.stock c.make_room-2.new.self.stock 0
      c.lent_count.result c.make_room-2.ensures.readied c.make_room-2.ensures.refused) (c.args.self.now.there running);
}

pub invariant_of-self-in-Ok-Some : goal.invariant_of-self-in-Ok-Some
invariant_of-self-in-Ok-Some g c =
    let did = rw c.in-Ok-Some.field-0-is at c.in-Ok-Some.ensures.as_rotated in
    let before = c.args.self.now.core in
    let stock = c.make_room-2.new.self.stock in
    let runs = c.requires.running in
    let room = c.in-Ok-make_room.ensures.readied.room in
    let as_held = ap (λ (r : Removing (Lent g.row.D-Writer.Denot g.D.Writer.Writer)). r.stock) c.in-Ok-Some.ensures.removing in
    record {
      ready = c.begin_log.new.self.ready;
      numbered = c.begin_log.new.self.numbered;
      lent = c.begin_log.new.self.lent;
      known = c.begin_log.new.self.known;
      pinned = c.begin_log.new.self.pinned;
      there = λ running. there_sealed g.D.Watched g.D.Writer.Writer c.args.self.now.disk c.begin_log.new.self.disk before
          c.begin_log.new.self.core c.args.self.now.merging stock room.in_use room.is_some before.back.next_log
          (ap (λ (f : Front). f.log.number) did.1.front)
          (λ none. did.1.changed ∙ ap (option_map _) (did.1.begins.told ∙ none)) c.in-Ok-Some.ensures.files
          (λ state told. ((c.args.self.now.ready state told).steps runs).logs before.back.next_log (omega arith))
          (there_used g.D.Watched g.D.Writer.Writer c.args.self.now.disk before c.args.self.now.merging c.args.self.now.removing.stock stock
          (stays_readied before c.args.self.now.removing.stock stock 0 c.lent_count.result c.in-Ok-make_room.ensures.readied)
          (c.args.self.now.there runs))
          c.begin_log.new.self.removing.stock c.add_log.new.self c.begin_log.new.self.merging (c.begin_log.new.self.there running)
          c.add_log.ensures.trash
          (c.add_log.ensures.trash ∙ ap (λ (k : Stock (Lent g.row.D-Writer.Denot g.D.Writer.Writer)). k.trash) as_held)
          (subst (λ (n : ℕ). BecomesBy (log_sealed n) stock c.add_log.new.self) did.0
          (subst (λ (k : Stock (Lent g.row.D-Writer.Denot g.D.Writer.Writer)).
          BecomesBy (log_sealed c.in-Ok-Some.number) k c.add_log.new.self) as_held c.add_log.ensures.sealed) (kept_in room.in_use stock)
          (has_some stock room.in_use room.is_some))
          (λ state told. (c.args.self.now.ready state told).log);
    }
