use Rattle.std.proofs.Common.{◌≡◌, ap, arith, refl, subst, sym, true, ◌∙◌}
use Rattle.vl_collect.specs.Passing.{Begins}
use Rattle.vl_engine_laws.specs.Known.{are_known}
use Rattle.vl_engine.proofs.Collected.{found_same}
use Rattle.vl_steps.specs.laws.Fitting.{fit_still}
use Rattle.vl_space.specs.laws.StillThere.{leaves_none, there_told}
use Rattle.vl_engine.proofs.engine.Engine.begin_pass.Goals as goal
use Rattle.vl_seglog.specs.declared.sealed.SealedLog.{SealedLog}
use Rattle.vl_version.specs.Bases.{HasSources}
use Rattle.vl_version.specs.Shared.{IsSameLog}
use Rattle.vl_version.specs.declared.base.Base.{Base}
use Rattle.vl_version.specs.declared.version.Version.{Version}

pub invariant_of-self-2 : goal.invariant_of-self-2
invariant_of-self-2 g c = record {
  ready = λ state told. fit_still c.args.self.now.core _ refl refl refl state (c.args.self.now.ready state told);
  numbered = c.args.self.now.numbered;
  lent = c.args.self.now.lent;
  known = subst (λ (v : Version g.row.D-Held.Denot). are_known c.args.self.now.core.front.oracle.last v.active.entries ≡ true)
      (sym c.share.ensures.same) c.args.self.now.known;
  pinned = c.args.self.now.pinned;
  there = λ running. there_told g.D.Watched g.D.Writer.Writer c.args.self.now.disk c.args.self.now.disk c.args.self.now.core _
      c.args.self.now.merging c.args.self.now.merging c.args.self.now.removing.stock c.args.self.now.removing.stock
      (ap (λ (v : Version g.row.D-Held.Denot). v.behind) c.share.ensures.same) refl (omega arith) refl refl refl
      (leaves_none g.D.Watched c.args.self.now.disk c.args.self.now.core.back.state.next_table) (c.args.self.now.there running);
}

pub returns-clause-begins : goal.returns-clause-begins
returns-clause-begins g c =
    let bytes = g.D.Held.HeldFile.bytes in
    record {
      version = ap (λ (b : Base g.row.D-Held.Denot g.row.D-Reader.Denot). b.version) c.new-2.ensures.base
          ∙ c.new.ensures ∙ c.in-Ok-share.ensures.shared;
      number_is = ap (λ (log : SealedLog g.row.D-Held.Denot). log.number) c.new-2.ensures.log ∙ c.in-Ok.ensures.number
          ∙ c.in-Some.ensures.number;
      start = c.new-2.ensures.start;
      log = λ rises log at. subst (IsSameLog bytes log) (sym c.new-2.ensures.log)
          (found_same bytes c.in-Some.log.now log c.in-Ok.log _ (c.in-Some.ensures.found rises) at c.in-Ok.ensures);
      goes = λ p begins. c.new-2.ensures.begins p
          (subst (λ (b : Base g.row.D-Held.Denot g.row.D-Reader.Denot).
          Begins bytes (λ (x : Base g.row.D-Held.Denot g.row.D-Reader.Denot) inputs ms. HasSources bytes x.version
          inputs ms) b c.in-Ok.log p)
          c.new-2.ensures.base
          (subst (λ (log : SealedLog g.row.D-Held.Denot).
          Begins bytes (λ (x : Base g.row.D-Held.Denot g.row.D-Reader.Denot) inputs ms. HasSources bytes x.version inputs ms)
          c.new-2.result.base log p) c.new-2.ensures.log begins));
    }
