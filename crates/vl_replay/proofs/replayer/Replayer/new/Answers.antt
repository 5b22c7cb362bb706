use Rattle.std.proofs.Common.{◌≡◌, ap, sym, subst, ◌∙◌, refl, arith}
use Rattle.vl_engine_model.specs.declared.layout.Layout.{Layout}
use Rattle.vl_replay_laws.specs.laws.Merges.Waiting.{none_merges}
use Rattle.vl_engine_laws.specs.Found.{IsDurable}
use Rattle.vl_recover.specs.laws.opening.OneFinding.{opened_not}
use Rattle.vl_script_model.specs.Sequential.{history_of}
use Rattle.vl_replay_laws.specs.laws.Disk.Begun.{opened_holds, opened_passes, opened_stands}
use Rattle.vl_script_model.specs.laws.Recovering.{refused_not}
use Rattle.vl_script_model.specs.laws.Starting.{at_most}
use Rattle.vl_space.specs.Removing.{Removes}
use Rattle.vl_disk.specs.laws.Counting.{none_counted}
use Rattle.vl_replay_laws.specs.laws.Names.Unfailing.{none_reads}
use Rattle.vl_replay.proofs.replayer.Replayer.new.Goals as goal

pub returns-in-Err-clause-refused : goal.returns-in-Err-clause-refused
returns-in-Err-clause-refused g c state read refusal is is_read refused =
    (refl, c.in-Err.ensures.not_opened state read is is_read (refused_not read refusal refused))

pub returns-in-Err-clause-through : goal.returns-in-Err-clause-through
returns-in-Err-clause-through g c s starts (state, is, durable) =
    let same : state ≡ starts.state = cc in
    c.in-Err.ensures.through starts.state starts.read _ starts.told (subst IsDurable same durable) starts.is_read starts.shown

pub returns-in-Err-clause-tells : goal.returns-in-Err-clause-tells
returns-in-Err-clause-tells g c state is = let told = c.in-Err.ensures.tells state is in (told.0, told.1, tt)

pub returns-in-Ok-clause-through : goal.returns-in-Ok-clause-through
returns-in-Ok-clause-through g c s starts (state, is, durable) =
    let same : state ≡ starts.state = cc in
    c.in-Ok.ensures.through starts.state starts.read _ starts.told (subst IsDurable same durable) starts.is_read starts.shown

pub returns-in-Ok-clause-tells : goal.returns-in-Ok-clause-tells
returns-in-Ok-clause-tells g c state is = let told = c.in-Ok.ensures.tells state is in (told.0, told.1, tt)

pub returns-in-Ok-clause-refused : goal.returns-in-Ok-clause-refused
returns-in-Ok-clause-refused g c state read refusal is is_read refused =
    let (found, unused) = c.in-Ok.ensures.answer state read is is_read in
    absurd (opened_not read found unused (refused_not read refusal refused))

pub returns-in-Err-clause-at_most : goal.returns-in-Err-clause-at_most
returns-in-Err-clause-at_most g c s starts below =
    at_most _ _ _ s.calls below
    (c.in-Err.ensures.stopped starts.state starts.read starts.found starts.strays starts.told starts.is_read
    starts.are_strays) starts.calls

pub returns-in-Ok-clause-at_most : goal.returns-in-Ok-clause-at_most
returns-in-Ok-clause-at_most g c s starts below =
    let made = c.in-Ok.ensures.calls starts.state starts.read starts.found starts.strays starts.told starts.is_read starts.are_strays in
    let same = made ∙ sym starts.calls in omega (arith, same)

pub returns-in-Err-clause-unmoved : goal.returns-in-Err-clause-unmoved
returns-in-Err-clause-unmoved g c some = c.in-Err.ensures.unmoved some

-- ---- what was opened

pub returns-in-Ok-clause-store : goal.returns-in-Ok-clause-store
returns-in-Ok-clause-store g c s starts = record {
  serves = opened_stands g.D.Watched g.D.Held.HeldFile.bytes c.args.disk s starts c.in-Ok.engine.core
      (c.in-Ok.ensures.back starts.state starts.read starts.found starts.told starts.is_read)
      c.new.result.items _ c.new.ensures.items
      (c.in-Ok.ensures.stands starts.state starts.read starts.found (history_of s) starts.told starts.is_read starts.shown)
      (c.in-Ok.ensures.fits starts.state starts.read starts.found (history_of s) starts.told starts.is_read starts.shown)
      (λ openable. c.in-Ok.ensures.represents starts.state starts.read starts.found (history_of s) starts.told
      (starts.openable openable) starts.is_read starts.shown);
  merges = none_merges g.D.Writer.Writer g.D.Held.HeldFile.bytes _ c.in-Ok.ensures.merging s.store.things s.store.layout
      (ap (λ (l : Layout). l.job) starts.layout) starts.things;
  passes = opened_passes g.D.Watched g.D.Held.HeldFile.bytes c.args.disk s starts c.in-Ok.engine.core
      (c.in-Ok.ensures.back starts.state starts.read starts.found starts.told starts.is_read) c.in-Ok.engine.collecting
      (c.in-Ok.ensures.collects starts.state starts.read starts.found (history_of s) starts.told starts.is_read starts.shown);
  removes = subst (Removes c.in-Ok.engine.core c.in-Ok.engine.removing) (sym starts.layout)
      (c.in-Ok.ensures.removes starts.state starts.read starts.found (history_of s) starts.told starts.is_read starts.shown);
}

pub returns-in-Ok-clause-holds : goal.returns-in-Ok-clause-holds
returns-in-Ok-clause-holds g c s starts openable =
    opened_holds g.D.Watched g.D.Held.HeldFile.bytes c.args.disk s starts c.in-Ok.engine.core
    (c.in-Ok.ensures.back starts.state starts.read starts.found starts.told starts.is_read) c.in-Ok.engine.disk openable
    (c.in-Ok.ensures.represents starts.state starts.read starts.found (history_of s) starts.told
    (starts.openable openable) starts.is_read starts.shown)
    (c.in-Ok.ensures.repaired starts.state starts.read starts.told starts.is_read)
    (c.in-Ok.ensures.calls starts.state starts.read starts.found starts.strays starts.told starts.is_read starts.are_strays)

-- ---- what fails beside the disk

pub returns-in-Ok-clause-steady : goal.returns-in-Ok-clause-steady
returns-in-Ok-clause-steady g c sure = none_counted

pub returns-in-Err-clause-steady : goal.returns-in-Err-clause-steady
returns-in-Err-clause-steady g c sure = c.in-Err.ensures.steady sure

pub returns-in-Ok-clause-unfailing : goal.returns-in-Ok-clause-unfailing
returns-in-Ok-clause-unfailing g c s starts gives = record {
  gives = (c.in-Ok.ensures.meanwhile starts.state starts.read starts.told starts.is_read).time.steady gives;
  reads = none_reads _ c.new.result.items c.new.ensures.items;
}
