use Rattle.vl_drive.proofs.Keeping.{opened_later}
use Rattle.vl_drive.proofs.Modesty.{aside_modest}
use Rattle.vl_drive.proofs.Playing.{on_then}
use Rattle.vl_drive.proofs.keeper.keep_up.Goals as goal

pub loop-preserved : goal.loop-preserved
loop-preserved g c =
    let v = g.S.Shop.knows c.args.shop.now in
    let u = g.S.Shop.knows c.loop.shop in
    let one = g.S.Shop.knows c.rotate.new.self in
    let two = g.S.Shop.knows c.flush.new.self in
    let three = g.S.Shop.knows c.merge.new.self in
    let four = g.S.Shop.knows c.collect.new.self in
    let five = g.S.Shop.knows c.sweep.new.self in
    let p = c.rotate.ensures.steps in
    let q = c.flush.ensures.steps in
    let r = c.merge.ensures.steps in
    let s = c.collect.ensures.steps in
    let t = c.sweep.ensures.steps in (
      on_then v u five c.loop.invariant.0 (on_then u one five p.on (on_then one two five q.on (on_then two three five r.on
          (on_then three four five s.on t.on)))),
      λ note opened. opened_later note four five (opened_later note three four (opened_later note two three (opened_later note one two
          (opened_later note u one (c.loop.invariant.1 note opened) p) q) r) s) t,
      λ turns modest. aside_modest four five t turns (aside_modest three four s turns (aside_modest two three r turns (aside_modest one two q turns
          (aside_modest u one p turns (c.loop.invariant.2 turns modest))))),
    )

pub returns-in_err-passed_over-clause-modest : goal.returns-in_err-passed_over-clause-modest
returns-in_err-passed_over-clause-modest g c turns modest =
    let knows = g.S.Shop.knows in
    aside_modest (knows c.loop.shop) (knows c.rotate.new.self) c.rotate.ensures.steps turns (c.loop.invariant.2 turns modest)

pub returns-in_err-passed_over-2-clause-modest : goal.returns-in_err-passed_over-2-clause-modest
returns-in_err-passed_over-2-clause-modest g c turns modest =
    let knows = g.S.Shop.knows in
    aside_modest (knows c.rotate.new.self) (knows c.flush.new.self) c.flush.ensures.steps turns (aside_modest (knows c.loop.shop) (knows c.rotate.new.self) c.rotate.ensures.steps turns (c.loop.invariant.2 turns modest))

pub returns-in_err-passed_over-3-clause-modest : goal.returns-in_err-passed_over-3-clause-modest
returns-in_err-passed_over-3-clause-modest g c turns modest =
    let knows = g.S.Shop.knows in
    aside_modest (knows c.flush.new.self) (knows c.merge.new.self) c.merge.ensures.steps turns (aside_modest (knows c.rotate.new.self) (knows c.flush.new.self) c.flush.ensures.steps turns (aside_modest (knows c.loop.shop) (knows c.rotate.new.self) c.rotate.ensures.steps turns (c.loop.invariant.2 turns modest)))

pub returns-in_err-passed_over-4-clause-modest : goal.returns-in_err-passed_over-4-clause-modest
returns-in_err-passed_over-4-clause-modest g c turns modest =
    let knows = g.S.Shop.knows in
    aside_modest (knows c.merge.new.self) (knows c.collect.new.self) c.collect.ensures.steps turns (aside_modest (knows c.flush.new.self) (knows c.merge.new.self) c.merge.ensures.steps turns (aside_modest (knows c.rotate.new.self) (knows c.flush.new.self) c.flush.ensures.steps turns (aside_modest (knows c.loop.shop) (knows c.rotate.new.self) c.rotate.ensures.steps turns (c.loop.invariant.2 turns modest))))

pub returns-in_err-passed_over-5-clause-modest : goal.returns-in_err-passed_over-5-clause-modest
returns-in_err-passed_over-5-clause-modest g c turns modest =
    let knows = g.S.Shop.knows in
    aside_modest (knows c.collect.new.self) (knows c.sweep.new.self) c.sweep.ensures.steps turns (aside_modest (knows c.merge.new.self) (knows c.collect.new.self) c.collect.ensures.steps turns (aside_modest (knows c.flush.new.self) (knows c.merge.new.self) c.merge.ensures.steps turns (aside_modest (knows c.rotate.new.self) (knows c.flush.new.self) c.flush.ensures.steps turns (aside_modest (knows c.loop.shop) (knows c.rotate.new.self) c.rotate.ensures.steps turns (c.loop.invariant.2 turns modest)))))

pub returns-clause-modest : goal.returns-clause-modest
returns-clause-modest g c turns modest = c.loop.invariant.2 turns modest
