use Rattle.std.proofs.Common.{◌≡◌, ℕ, None, Some, Ok, Err, ap, subst, ◌∙◌, arith, refl, true, false}
use Rattle.vl_engine_laws.specs.declared.kept.Core.{Core}
use Rattle.vl_space.specs.laws.There.Swept.{more_gone, taken_fit, taken_lent, taken_there}
use Rattle.vl_space.specs.laws.There.Swept.{has_swept, taken_waits}
use Rattle.vl_space.specs.Sweeping.{HasSwept}
use Rattle.vl_engine.proofs.engine.Engine.sweep_up_to.Goals as goal

pub remove_file-requires : goal.remove_file-requires
remove_file-requires g c = let now = c.loop-file.self in (
  now.core.back.state.next_table,
  taken_waits g.D.Watched g.D.Writer.Writer now.core now.merging now.removing.stock
      c.take_up_to.new.self c.bound-bound.result c.in-Some-take_up_to.file c.in-Some-take_up_to.ensures.taken now.disk
      (now.there (ap (λ (x : Core g.row.D-Held.Denot). x.front.halted) c.loop-file.invariant.core ∙ c.loop-file.invariant.running)),
)

pub invariant_of-self : goal.invariant_of-self
invariant_of-self g c = let now = c.loop-file.self in
    let running = ap (λ (x : Core g.row.D-Held.Denot). x.front.halted) c.loop-file.invariant.core ∙ c.loop-file.invariant.running in
    let took = c.in-Some-take_up_to.ensures in
    record {
      ready = taken_fit g.D.Watched g.D.Writer.Writer now.core now.merging now.removing.stock c.take_up_to.new.self
          c.bound-bound.result c.in-Some-take_up_to.file took.taken now.disk (now.there running) took.in_use c.remove_file.new.disk
          (Ok tt) c.in-Ok.ensures.removes now.ready;
      numbered = now.numbered;
      lent = taken_lent g.D.Watched g.D.Writer.Writer now.core now.merging now.removing.stock c.take_up_to.new.self
          c.bound-bound.result c.in-Some-take_up_to.file took.taken now.disk (now.there running) took.in_use c.remove_file.new.disk
          (Ok tt) c.in-Ok.ensures.removes now.lent;
      known = now.known;
      pinned = now.pinned;
      there = λ _. taken_there g.D.Watched g.D.Writer.Writer now.core now.merging now.removing.stock c.take_up_to.new.self
          c.bound-bound.result c.in-Some-take_up_to.file took.taken now.disk (now.there running) took.in_use c.remove_file.new.disk
          (Ok tt) c.in-Ok.ensures.removes took.len took.capacity;
    }

pub loop-file-preserved : goal.loop-file-preserved
loop-file-preserved g c = let was = c.loop-file.invariant in let took = c.in-Some-take_up_to.ensures in
    record {
      gone = more_gone g.D.Watched g.D.Writer.Writer c.bound-bound.result c.args.self.now.removing.stock.trash.items
          c.loop-file.self.removing.stock.trash.items c.args.self.now.disk c.loop-file.self.disk c.loop-file.count was.gone
          c.take_up_to.new.self.trash.items c.in-Some-take_up_to.file c.remove_file.new.disk took.taken c.in-Ok.ensures.removes;
      core = was.core;
      running = was.running;
      merging = was.merging;
      collecting = was.collecting;
      in_use = took.in_use ∙ was.in_use;
      capacity = took.capacity ∙ was.capacity;
      pins = was.pins;
      bound = was.bound;
      cause = let before = was.cause in let now = c.in-Ok.ensures.cause in record {
        later = let a = before.later in let b = now.later in omega (arith, a, b);
        rose = λ never. absurd never;
        steady = λ fine. now.steady false_true ∙ before.steady fine;
      };
      fits = let len = took.len in let fits = was.fits in omega (arith, len, fits);
    }
  where
    false_true : false ≡ true → ⊥
    false_true e = cc

pub invariant_of-self-in-Err : goal.invariant_of-self-in-Err
invariant_of-self-in-Err g c = let now = c.loop-file.self in
    let running = ap (λ (x : Core g.row.D-Held.Denot). x.front.halted) c.loop-file.invariant.core ∙ c.loop-file.invariant.running in
    let took = c.in-Some-take_up_to.ensures in let removes = c.in-Err.ensures.removes in
    record {
      ready = λ state told. let fit = taken_fit g.D.Watched g.D.Writer.Writer now.core now.merging now.removing.stock c.take_up_to.new.self
          c.bound-bound.result c.in-Some-take_up_to.file took.taken now.disk (now.there running) took.in_use c.remove_file.new.disk
          (Err removes.1) removes.2 now.ready state told in record { log = fit.log; steps = λ halted. fit.steps running };
      numbered = now.numbered;
      lent = taken_lent g.D.Watched g.D.Writer.Writer now.core now.merging now.removing.stock c.take_up_to.new.self
          c.bound-bound.result c.in-Some-take_up_to.file took.taken now.disk (now.there running) took.in_use c.remove_file.new.disk
          (Err removes.1) removes.2 now.lent;
      known = now.known;
      pinned = now.pinned;
      there = λ halted. absurd (never halted);
    }
  where
    never : {T : Type 0} {x : T} → Some x ≡ None → ⊥
    never e = cc

pub returns-clause-as_swept : goal.returns-clause-as_swept
returns-clause-as_swept g c = let was = c.loop-file.invariant in let took = c.in_default-take_up_to.ensures in (
  was.running,
  was.core,
  subst (λ (b : ℕ). HasSwept g.D.Watched g.D.Writer.Writer b c.args.self.now.core.back.epoch
      c.args.self.now.disk c.loop-file.self.disk c.args.self.now.removing
      (record { pins = c.loop-file.self.removing.pins; stock = c.take_up_to.new.self }) c.loop-file.count) was.bound
      (has_swept g.D.Watched g.D.Writer.Writer c.bound-bound.result c.args.self.now.removing.stock.trash.items
      c.loop-file.self.removing.stock.trash.items c.args.self.now.disk c.loop-file.self.disk c.loop-file.count was.gone
      c.args.self.now.core.back.epoch c.args.self.now.removing
      (record { pins = c.loop-file.self.removing.pins; stock = c.take_up_to.new.self }) refl took.taken (took.in_use ∙ was.in_use)
      (took.capacity ∙ was.capacity) was.pins),
)
