use Rattle.std.proofs.Common.{Option, Some, ap, refl, subst, sym, ◌∙◌}
use Rattle.vl_engine_laws.specs.MayStep.{Fits}
use Rattle.vl_engine_laws.specs.Pointed.{layout_logs}
use Rattle.vl_engine_laws.specs.Represents.{Represents}
use Rattle.vl_engine_laws.specs.declared.kept.Core.{Core}
use Rattle.vl_engine.proofs.BegunRemoved.{removes_kept, removes_picked, stock_picked}
use Rattle.vl_space.specs.laws.CollectLaws.{collects_kept, head_is_laid, keeps_readied}
use Rattle.vl_steps.specs.laws.Committing.{decides_leaving}
use Rattle.vl_engine.proofs.PassLaws.{fits_passing, represents_passing, stands_passing}
use Rattle.vl_engine.proofs.Picking.{collects_begun, decides_begun, is_none, is_some, pass_fits, picked_pass}
use Rattle.vl_engine.proofs.Picking.{tidy_then}
use Rattle.vl_engine.proofs.engine.Engine.pick.Goals as goal
use Rattle.vl_space.specs.Collecting.{Collects, pick_outcome}
use Rattle.vl_engine_laws.specs.Lent.{StandsOpen}
use Rattle.vl_space.specs.Pinning.{PinsPass}
use Rattle.vl_space.specs.Removing.{Removes}
use Rattle.vl_engine_model.specs.declared.layout.Layout.{Layout}
use Rattle.vl_disk.specs.DiskState.{DiskState}
use Rattle.vl_engine_laws.specs.declared.open.OpenMerge.{OpenMerge}
use Rattle.vl_engine_model.specs.Decides.{Decides, as_before, no_effects}
use Rattle.vl_engine_model.specs.Ruling.{pin_of}
use Rattle.vl_engine_model.specs.Rulings.Pick.{NoRewrite, pick_ruling}

pub returns-in-None-clause-stands : goal.returns-in-None-clause-stands
returns-in-None-clause-stands g c h l is has =
    decides_leaving (StandsOpen g.D.Held.HeldFile.bytes c.args.self.now.core c.args.self.now.merging) h l
    (pick_ruling l h c.args.percent) (as_before l l) NoRewrite l
    (is_none l h c.args.percent (sym c.is_unfair.ensures ∙ c.if-is_unfair.false) (sym c.in_default.is ∙ has.passing)
    (sym c.in-None.is ∙ c.best.ensures (layout_logs l) l h is.stands.tidy
    (c.in-Ok.ensures.readied.tallied h l is.stands has.tally)
    (c.head_of.ensures ∙ head_is_laid g.D.Held.HeldFile.bytes c.args.self.now.core h l is.stands))) is

pub returns-in-None-clause-represents : goal.returns-in-None-clause-represents
returns-in-None-clause-represents g c h l is has =
    decides_leaving (Represents g.D.Held.HeldFile.bytes c.args.self.now.core (g.D.Watched.told c.args.self.now.disk)) h
    l (pick_ruling l h c.args.percent) (as_before l l) NoRewrite l
    (is_none l h c.args.percent (sym c.is_unfair.ensures ∙ c.if-is_unfair.false) (sym c.in_default.is ∙ has.passing)
    (sym c.in-None.is ∙ c.best.ensures (layout_logs l) l h is.stands.tidy
    (c.in-Ok.ensures.readied.tallied h l is.stands has.tally)
    (c.head_of.ensures ∙ head_is_laid g.D.Held.HeldFile.bytes c.args.self.now.core h l is.stands))) is

pub returns-in-None-clause-fits : goal.returns-in-None-clause-fits
returns-in-None-clause-fits g c h l is has fits =
    decides_leaving (Fits (g.D.Watched.told c.args.self.now.disk) c.args.self.now.core) h l
    (pick_ruling l h c.args.percent) (as_before l l) NoRewrite l
    (is_none l h c.args.percent (sym c.is_unfair.ensures ∙ c.if-is_unfair.false) (sym c.in_default.is ∙ has.passing)
    (sym c.in-None.is ∙ c.best.ensures (layout_logs l) l h is.tidy
    (c.in-Ok.ensures.readied.tallied h l is has.tally)
    (c.head_of.ensures ∙ head_is_laid g.D.Held.HeldFile.bytes c.args.self.now.core h l is))) fits

pub returns-in-None-clause-collects : goal.returns-in-None-clause-collects
returns-in-None-clause-collects g c h l is has =
    decides_leaving (λ k x. Collects c.args.self.now.core c.ready.new.self x) h l (pick_ruling l h c.args.percent)
    (as_before l l) NoRewrite l
    (is_none l h c.args.percent (sym c.is_unfair.ensures ∙ c.if-is_unfair.false) (sym c.in_default.is ∙ has.passing)
    (sym c.in-None.is ∙ c.best.ensures (layout_logs l) l h is.tidy
    (c.in-Ok.ensures.readied.tallied h l is has.tally)
    (c.head_of.ensures ∙ head_is_laid g.D.Held.HeldFile.bytes c.args.self.now.core h l is)))
    (collects_kept g.D.Held.HeldFile.bytes c.args.self.now.core c.args.self.now.core c.args.self.now.collecting
    c.ready.new.self h l is refl
    (keeps_readied g.D.Held.HeldFile.bytes c.args.self.now.core c.args.self.now.collecting c.ready.new.self c.in-Ok.ensures.readied) has)

pub returns-in-Some-best-clause-stands : goal.returns-in-Some-best-clause-stands
returns-in-Some-best-clause-stands g c h l is has =
    let b = is_some l h c.args.percent (sym c.is_unfair.ensures ∙ c.if-is_unfair.false) (sym c.in_default.is ∙ has.passing)
    c.in-Some-best.number (sym c.in-Some-best.is
    ∙ c.best.ensures (layout_logs l) l h is.stands.tidy (c.in-Ok.ensures.readied.tallied h l is.stands has.tally)
    (c.head_of.ensures ∙ head_is_laid g.D.Held.HeldFile.bytes c.args.self.now.core h l is.stands)) in
    subst (λ (k : Core g.row.D-Held.Denot). Decides (StandsOpen g.D.Held.HeldFile.bytes k c.begin_pass.new.self.merging) h l
    (pick_ruling l h c.args.percent) (as_before l l) (pick_outcome (pick_ruling l h c.args.percent).answer c.begin_pass.result) no_effects)
    (sym c.begin_pass.ensures.core)
    (subst (λ (m : Option OpenMerge). Decides (StandsOpen g.D.Held.HeldFile.bytes c.args.self.now.core m) h l
    (pick_ruling l h c.args.percent) (as_before l l) (pick_outcome (pick_ruling l h c.args.percent).answer c.begin_pass.result) no_effects)
    (sym c.begin_pass.ensures.merging)
    (decides_begun l h c.args.percent (sym c.is_unfair.ensures ∙ c.if-is_unfair.false)
    (sym c.in_default.is ∙ has.passing) g.D.Held.HeldFile.bytes c.args.self.now.core is.stands c.in-Some-best.number b
    (StandsOpen g.D.Held.HeldFile.bytes c.args.self.now.core c.args.self.now.merging) c.begin_pass.result
    c.begin_pass.ensures.failed
    (λ pass ok. record {
      stands = stands_passing (Some (record { segment = c.in-Some-best.number; pin = pin_of l })) h l
          g.D.Held.HeldFile.bytes c.args.self.now.core
          (tidy_then l h c.args.percent (sym c.is_unfair.ensures ∙ c.if-is_unfair.false)
          (sym c.in_default.is ∙ has.passing) g.D.Held.HeldFile.bytes c.args.self.now.core is.stands c.in-Some-best.number b) is.stands;
      opens = is.opens;
    })
    (λ why err. is)))

pub returns-in-Some-best-clause-represents : goal.returns-in-Some-best-clause-represents
returns-in-Some-best-clause-represents g c h l is has =
    let b = is_some l h c.args.percent (sym c.is_unfair.ensures ∙ c.if-is_unfair.false) (sym c.in_default.is ∙ has.passing)
    c.in-Some-best.number (sym c.in-Some-best.is
    ∙ c.best.ensures (layout_logs l) l h is.stands.tidy (c.in-Ok.ensures.readied.tallied h l is.stands has.tally)
    (c.head_of.ensures ∙ head_is_laid g.D.Held.HeldFile.bytes c.args.self.now.core h l is.stands)) in
    subst (λ (k : Core g.row.D-Held.Denot). Decides (Represents g.D.Held.HeldFile.bytes k (g.D.Watched.told c.begin_pass.new.self.disk)) h l
    (pick_ruling l h c.args.percent) (as_before l l) (pick_outcome (pick_ruling l h c.args.percent).answer c.begin_pass.result) no_effects)
    (sym c.begin_pass.ensures.core)
    (subst (λ (t : Option DiskState). Decides (Represents g.D.Held.HeldFile.bytes c.args.self.now.core t) h l
    (pick_ruling l h c.args.percent) (as_before l l) (pick_outcome (pick_ruling l h c.args.percent).answer c.begin_pass.result) no_effects)
    (sym (ap g.D.Watched.told c.begin_pass.ensures.disk))
    (decides_begun l h c.args.percent (sym c.is_unfair.ensures ∙ c.if-is_unfair.false)
    (sym c.in_default.is ∙ has.passing) g.D.Held.HeldFile.bytes c.args.self.now.core is.stands c.in-Some-best.number b
    (Represents g.D.Held.HeldFile.bytes c.args.self.now.core (g.D.Watched.told c.args.self.now.disk)) c.begin_pass.result
    c.begin_pass.ensures.failed
    (λ pass ok. represents_passing (Some (record { segment = c.in-Some-best.number; pin = pin_of l })) h l
    g.D.Held.HeldFile.bytes c.args.self.now.core (g.D.Watched.told c.args.self.now.disk)
    (tidy_then l h c.args.percent (sym c.is_unfair.ensures ∙ c.if-is_unfair.false) (sym c.in_default.is ∙ has.passing)
    g.D.Held.HeldFile.bytes c.args.self.now.core is.stands c.in-Some-best.number b) is)
    (λ why err. is)))

pub returns-in-Some-best-clause-fits : goal.returns-in-Some-best-clause-fits
returns-in-Some-best-clause-fits g c h l is has fits =
    let b = is_some l h c.args.percent (sym c.is_unfair.ensures ∙ c.if-is_unfair.false) (sym c.in_default.is ∙ has.passing)
    c.in-Some-best.number (sym c.in-Some-best.is
    ∙ c.best.ensures (layout_logs l) l h is.tidy (c.in-Ok.ensures.readied.tallied h l is has.tally)
    (c.head_of.ensures ∙ head_is_laid g.D.Held.HeldFile.bytes c.args.self.now.core h l is)) in
    subst (λ (k : Core g.row.D-Held.Denot). Decides (Fits (g.D.Watched.told c.begin_pass.new.self.disk) k) h l
    (pick_ruling l h c.args.percent) (as_before l l) (pick_outcome (pick_ruling l h c.args.percent).answer c.begin_pass.result) no_effects)
    (sym c.begin_pass.ensures.core)
    (subst (λ (t : Option DiskState). Decides (Fits t c.args.self.now.core) h l
    (pick_ruling l h c.args.percent) (as_before l l) (pick_outcome (pick_ruling l h c.args.percent).answer c.begin_pass.result) no_effects)
    (sym (ap g.D.Watched.told c.begin_pass.ensures.disk))
    (decides_begun l h c.args.percent (sym c.is_unfair.ensures ∙ c.if-is_unfair.false)
    (sym c.in_default.is ∙ has.passing) g.D.Held.HeldFile.bytes c.args.self.now.core is c.in-Some-best.number b
    (Fits (g.D.Watched.told c.args.self.now.disk) c.args.self.now.core) c.begin_pass.result c.begin_pass.ensures.failed
    (λ pass ok. fits_passing (Some (record { segment = c.in-Some-best.number; pin = pin_of l })) h l
    c.args.self.now.core (g.D.Watched.told c.args.self.now.disk) fits)
    (λ why err. fits)))

pub returns-in-Some-best-clause-collects : goal.returns-in-Some-best-clause-collects
returns-in-Some-best-clause-collects g c h l is has =
    let b = is_some l h c.args.percent (sym c.is_unfair.ensures ∙ c.if-is_unfair.false) (sym c.in_default.is ∙ has.passing)
    c.in-Some-best.number (sym c.in-Some-best.is
    ∙ c.best.ensures (layout_logs l) l h is.tidy (c.in-Ok.ensures.readied.tallied h l is has.tally)
    (c.head_of.ensures ∙ head_is_laid g.D.Held.HeldFile.bytes c.args.self.now.core h l is)) in
    collects_begun l h c.args.percent (sym c.is_unfair.ensures ∙ c.if-is_unfair.false)
    (sym c.in_default.is ∙ has.passing) g.D.Held.HeldFile.bytes c.args.self.now.core is c.in-Some-best.number b
    c.begin_pass.new.self.core c.ready.new.self c.begin_pass.new.self.collecting
    c.begin_pass.ensures.core (c.in-Ok.ensures.readied.tallied h l is has.tally)
    (c.in-Ok.ensures.readied.passing ∙ has.passing) has.readable
    c.begin_pass.result c.begin_pass.ensures.collecting c.begin_pass.ensures.failed

pub returns-in-Some-best-clause-pass : goal.returns-in-Some-best-clause-pass
returns-in-Some-best-clause-pass g c h l is has =
    let b = is_some l h c.args.percent (sym c.is_unfair.ensures ∙ c.if-is_unfair.false) (sym c.in_default.is ∙ has.passing)
    c.in-Some-best.number (sym c.in-Some-best.is
    ∙ c.best.ensures (layout_logs l) l h is.tidy (c.in-Ok.ensures.readied.tallied h l is has.tally)
    (c.head_of.ensures ∙ head_is_laid g.D.Held.HeldFile.bytes c.args.self.now.core h l is)) in
    picked_pass l h c.args.percent (sym c.is_unfair.ensures ∙ c.if-is_unfair.false) (sym c.in_default.is ∙ has.passing)
    g.D.Held.HeldFile.bytes c.args.self.now.core is c.in-Some-best.number b c.begin_pass.result c.begin_pass.ensures.begins has.readable

pub returns-in-Some-best-clause-looks : goal.returns-in-Some-best-clause-looks
returns-in-Some-best-clause-looks g c h l is =
    pass_fits g.D.Held.HeldFile.bytes c.args.self.now.core h l is c.in-Some-best.number c.begin_pass.result c.begin_pass.ensures.begins

pub returns-in-None-clause-removes : goal.returns-in-None-clause-removes
returns-in-None-clause-removes g c h l is has removes =
    decides_leaving (λ _ (x : Layout). Removes c.args.self.now.core c.args.self.now.removing x) h l (pick_ruling l h c.args.percent)
    (as_before l l) NoRewrite l
    (is_none l h c.args.percent (sym c.is_unfair.ensures ∙ c.if-is_unfair.false) (sym c.in_default.is ∙ has.passing)
    (sym c.in-None.is ∙ c.best.ensures (layout_logs l) l h is.tidy
    (c.in-Ok.ensures.readied.tallied h l is has.tally)
    (c.head_of.ensures ∙ head_is_laid g.D.Held.HeldFile.bytes c.args.self.now.core h l is))) removes

pub returns-in-Some-best-clause-removes : goal.returns-in-Some-best-clause-removes
returns-in-Some-best-clause-removes g c h l is has removes =
    let b = is_some l h c.args.percent (sym c.is_unfair.ensures ∙ c.if-is_unfair.false) (sym c.in_default.is ∙ has.passing)
    c.in-Some-best.number (sym c.in-Some-best.is
    ∙ c.best.ensures (layout_logs l) l h is.tidy (c.in-Ok.ensures.readied.tallied h l is has.tally)
    (c.head_of.ensures ∙ head_is_laid g.D.Held.HeldFile.bytes c.args.self.now.core h l is)) in
    let core = c.args.self.now.core in
    let after = c.begin_pass.new.self in
    let version = core.back.epoch in
    decides_begun l h c.args.percent (sym c.is_unfair.ensures ∙ c.if-is_unfair.false)
    (sym c.in_default.is ∙ has.passing) g.D.Held.HeldFile.bytes core is c.in-Some-best.number b
    (λ _ (x : Layout). Removes after.core after.removing x) c.begin_pass.result
    c.begin_pass.ensures.failed
    (λ pass ok. removes_picked core after.core h l is.fronts c.begin_pass.ensures.core c.args.self.now.removing after.removing removes
    c.in-Some-best.number (subst (PinsPass version c.args.self.now.removing after.removing) ok c.begin_pass.ensures.removing))
    (λ why err. removes_kept core after.core h l is.fronts c.begin_pass.ensures.core c.args.self.now.removing after.removing removes
    (subst (PinsPass version c.args.self.now.removing after.removing) err c.begin_pass.ensures.removing))

pub returns-in-Some-best-clause-stock : goal.returns-in-Some-best-clause-stock
returns-in-Some-best-clause-stock g c =
    stock_picked c.args.self.now.core.back.epoch c.args.self.now.removing c.begin_pass.new.self.removing
    c.begin_pass.result c.begin_pass.ensures.removing
