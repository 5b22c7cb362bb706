use Rattle.std.specs.Prelude.{None}
use Rattle.vl_engine_laws.specs.Pointed.{layout_logs}
use Rattle.vl_engine.proofs.PassLaws.{fits_passing, represents_passing, stands_passing}
use Rattle.vl_engine.proofs.engine.Engine.end_pass.Goals as goal
use Rattle.vl_engine_model_laws.specs.laws.TidyRulings.{end_pass_tidy}

pub returns-clause-stands : goal.returns-clause-stands
returns-clause-stands g c h l p is = record {
  stands = stands_passing None h l g.D.Held.HeldFile.bytes c.args.self.now.core (end_pass_tidy (layout_logs l) l h is.stands.tidy p)
      is.stands;
  opens = is.opens;
}

pub returns-clause-represents : goal.returns-clause-represents
returns-clause-represents g c h l p is =
    represents_passing None h l g.D.Held.HeldFile.bytes c.args.self.now.core (g.D.Watched.told c.args.self.now.disk)
    (end_pass_tidy (layout_logs l) l h is.stands.tidy p) is

pub returns-clause-fits : goal.returns-clause-fits
returns-clause-fits g c h l p fits = fits_passing None h l c.args.self.now.core (g.D.Watched.told c.args.self.now.disk) fits
