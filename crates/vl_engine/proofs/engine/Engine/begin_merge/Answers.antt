use Rattle.std.proofs.Common.{◌≡◌, ap, arith, refl, subst, sym, true, Some}
use Rattle.vl_steps.specs.laws.Fitting.{fit_still}
use Rattle.vl_steps.specs.laws.Planning.{none_lent}
use Rattle.vl_space.specs.laws.StillThere.{leaves_none, there_begun, there_told}
use Rattle.vl_engine_laws.specs.Known.{are_known}
use Rattle.vl_version.specs.declared.version.Version.{Version}
use Rattle.vl_engine.proofs.UnderWay.{just_planned}
use Rattle.vl_engine.proofs.engine.Engine.begin_merge.Goals as goal

-- the version was shared, and all is as it was
pub invariant_of-self : goal.invariant_of-self
invariant_of-self g c =
    let before = c.args.self.now in
    record {
      ready = λ state told. fit_still before.core _ refl refl refl state (before.ready state told);
      numbered = before.numbered;
      lent = before.lent;
      known = subst (λ (v : Version g.row.D-Held.Denot). are_known before.core.front.oracle.last v.active.entries ≡ true)
          (sym c.share.ensures.same) before.known;
      pinned = before.pinned;
      there = λ running. there_told g.D.Watched g.D.Writer.Writer before.disk before.disk before.core _ before.merging before.merging
          before.removing.stock before.removing.stock (ap (λ (v : Version g.row.D-Held.Denot). v.behind) c.share.ensures.same) refl
          (omega arith) refl refl refl (leaves_none g.D.Watched before.disk before.core.back.state.next_table) (before.there running);
    }

pub invariant_of-self-2-clause-ready : goal.invariant_of-self-2-clause-ready
invariant_of-self-2-clause-ready g c state told =
    fit_still c.args.self.now.core _ refl refl refl state (c.args.self.now.ready state told)

pub invariant_of-self-2-clause-lent : goal.invariant_of-self-2-clause-lent
invariant_of-self-2-clause-lent g c =
    none_lent g.D.Watched c.args.self.now.disk c.args.self.now.core.back.state.next_table (Some c.new.result)
    (record { merge = c.new.result; is_open = refl; lent = c.new.ensures.lent; moved = c.new.ensures.moved })

pub invariant_of-self-2-clause-known : goal.invariant_of-self-2-clause-known
invariant_of-self-2-clause-known g c =
    subst (λ (v : Version g.row.D-Held.Denot). are_known c.args.self.now.core.front.oracle.last v.active.entries ≡ true)
    (sym c.share.ensures.same) c.args.self.now.known

pub invariant_of-self-2-clause-there : goal.invariant_of-self-2-clause-there
invariant_of-self-2-clause-there g c running =
    let before = c.args.self.now in
    there_begun g.D.Watched g.D.Writer.Writer before.disk _ before.merging (Some c.new.result) before.removing.stock c.new.ensures.lent
    (there_told g.D.Watched g.D.Writer.Writer before.disk before.disk before.core _ before.merging before.merging
    before.removing.stock before.removing.stock (ap (λ (v : Version g.row.D-Held.Denot). v.behind) c.share.ensures.same) refl
    (omega arith) refl refl refl (leaves_none g.D.Watched before.disk before.core.back.state.next_table) (before.there running))

pub returns-clause-under_way : goal.returns-clause-under_way
returns-clause-under_way g c =
    just_planned g.D.Watched g.D.Writer.Writer c.args.self.now.disk c.args.self.now.core.front.halted (Some c.new.result) c.new-3.result
    (record { merge = c.new.result; is_open = refl; lent = c.new.ensures.lent; moved = c.new.ensures.moved }) c.new-3.ensures.new
