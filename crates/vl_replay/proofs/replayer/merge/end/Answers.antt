-- The merge that waits is given up where it has the name; else what reads is ended.
use Rattle.std.proofs.Common.{◌≡◌, refl, ap, sym, ◌∙◌, subst}
use Rattle.std.specs.Prelude.{Ok, Option, Some}
use Rattle.vl_compact.specs.Progress.{made_of}
use Rattle.vl_engine_laws.specs.Represents as engine
use Rattle.vl_engine_laws.specs.Shown.{Shown}
use Rattle.vl_steps.specs.Merging.{HasMerge}
use Rattle.vl_engine.specs.UnderWay.{IsUnderWay}
use Rattle.vl_engine_model.specs.Jobs.{job_ended}
use Rattle.vl_script_model.specs.Durable.{CarriesOut}
use Rattle.vl_replay.specs.Handed.{CanHandIn}
use Rattle.vl_replay_laws.specs.Replaying.{Merges, state_by}
use Rattle.vl_script_model.specs.Stored.{IsStopped, IsStored}
use Rattle.vl_script.specs.declared.answer.Answer.TheVariants as answers
use Rattle.vl_replay.proofs.Merges.Handing.{can_still, under_way}
use Rattle.vl_replay_laws.specs.laws.Merges.Keeping.{drop_keeps_work, merges_kept}
use Rattle.vl_script_model.specs.laws.Explained.{only_reader}
use Rattle.vl_script_model.specs.laws.Growing.{drop_keeps}
use Rattle.vl_engine_model.specs.Store.Dispatch.{drop_by}
use Rattle.vl_engine_model.specs.Store.Things.{AJob, Thing, thing_of}
use Rattle.vl_script_model.specs.Sequential.{history_of}
use Rattle.vl_replay_laws.specs.laws.Disk.Carried.{quiet_carries}
use Rattle.vl_replay_laws.specs.laws.Merges.Dropping.{drop_carries, drop_makes, drop_merges}
use Rattle.vl_replay_laws.specs.laws.Merges.Waiting.{merges_behind, no_merge_named, took, took_none}
use Rattle.vl_replay_laws.specs.laws.Names.Serving.{represents}
use Rattle.vl_space.specs.Removing.{Removes}
use Rattle.vl_replay.proofs.replayer.merge.end.Goals as goal

pub returns-in-None-clause-makes : goal.returns-in-None-clause-makes
returns-in-None-clause-makes g c s stands no_pass =
    let (still, other) = took_none c.as_slice.result.now c.args.name c.as_slice.ensures c.args.planned.now
    c.take_planned.new.planned c.take_planned.result
    c.take_planned.ensures c.in-None.is in
    c.end.ensures.makes s stands.serves
    (no_merge_named g.D.Writer.Writer g.D.Held.HeldFile.bytes c.args.planned.now s.store.things s.store.layout
    c.args.name stands.merges.waits other) no_pass

pub abandon-requires : goal.abandon-requires
abandon-requires g c =
    let old = c.args.served.now.engine in
    let (p, there, named, job, none) = took c.as_slice.result.now c.args.name c.as_slice.ensures c.args.planned.now
    c.take_planned.new.planned c.take_planned.result c.in-Some.job
    c.take_planned.ensures c.in-Some.is in
    subst (λ (x : _). IsUnderWay g.D.Watched g.D.Writer.Writer old.disk old.core.front.halted old.merging x) (sym job)
    (under_way g.D.Watched g.D.Writer.Writer old.disk old.core.front.halted old.merging p.job (c.requires p there))

pub returns-in-Some-clause-makes : goal.returns-in-Some-clause-makes
returns-in-Some-clause-makes g c s stands no_pass =
    let bytes = g.D.Held.HeldFile.bytes in
    let old = c.args.served.now.engine in
    let new = c.abandon.new.self in
    let seen = g.D.Watched.told old.disk in
    let now = g.D.Watched.told new.disk in
    let (p, there, named, job, none) = took c.as_slice.result.now c.args.name c.as_slice.ensures c.args.planned.now
    c.take_planned.new.planned c.take_planned.result c.in-Some.job
    c.take_planned.ensures c.in-Some.is in
    let merges = subst (λ (o : Option _). Merges g.D.Writer.Writer bytes old.merging o s.store.things s.store.layout) there stands.merges in
    let o = merges.waits.open_job in
    let made = made_of p.job o.job in
    drop_makes g.D.Writer.Writer bytes seen now old.core new.core old.merging new.merging c.args.served.now.opens.items
    s stands.serves p merges c.args.name named
    c.abandon.ensures.core
    (c.abandon.ensures.stands (history_of s) s.store.layout o made
    (record { stands = stands.serves.engine; opens = merges.opens }) merges.waits.is_open merges.waits.lent)
    (c.abandon.ensures.fits (history_of s) s.store.layout o made stands.serves.fits)
    (λ openable. c.abandon.ensures.represents (history_of s) s.store.layout o made
    (represents bytes seen old.core c.args.served.now.opens.items s stands.serves openable) merges.waits.is_open merges.waits.lent)

pub returns-in-Some-clause-merges : goal.returns-in-Some-clause-merges
returns-in-Some-clause-merges g c s stands no_pass =
    let bytes = g.D.Held.HeldFile.bytes in
    let old = c.args.served.now.engine in
    let new = c.abandon.new.self in
    let seen = g.D.Watched.told old.disk in
    let now = g.D.Watched.told new.disk in
    let (p, there, named, job, none) = took c.as_slice.result.now c.args.name c.as_slice.ensures c.args.planned.now
    c.take_planned.new.planned c.take_planned.result c.in-Some.job
    c.take_planned.ensures c.in-Some.is in
    let merges = subst (λ (o : Option _). Merges g.D.Writer.Writer bytes old.merging o s.store.things s.store.layout) there stands.merges in
    let o = merges.waits.open_job in
    let made = made_of p.job o.job in
    let x = drop_by s.store c.args.name (thing_of s.store c.args.name) in
    subst (λ (q : Option _). Merges g.D.Writer.Writer bytes new.merging q x.state.things x.state.layout) (sym none)
    (drop_merges g.D.Writer.Writer bytes seen now old.core new.core old.merging new.merging
    c.args.served.now.opens.items s stands.serves p merges c.args.name named
    c.abandon.ensures.core
    (c.abandon.ensures.stands (history_of s) s.store.layout o made
    (record { stands = stands.serves.engine; opens = merges.opens }) merges.waits.is_open merges.waits.lent)
    (c.abandon.ensures.fits (history_of s) s.store.layout o made stands.serves.fits)
    (λ openable. c.abandon.ensures.represents (history_of s) s.store.layout o made
    (represents bytes seen old.core c.args.served.now.opens.items s stands.serves openable) merges.waits.is_open merges.waits.lent))

pub returns-in-Some-clause-carries : goal.returns-in-Some-clause-carries
returns-in-Some-clause-carries g c s stands no_pass =
    let bytes = g.D.Held.HeldFile.bytes in
    let old = c.args.served.now.engine in
    let new = c.abandon.new.self in
    let seen = g.D.Watched.told old.disk in
    let (p, there, named, job, none) = took c.as_slice.result.now c.args.name c.as_slice.ensures c.args.planned.now
    c.take_planned.new.planned c.take_planned.result c.in-Some.job
    c.take_planned.ensures c.in-Some.is in
    let merges = subst (λ (o : Option _). Merges g.D.Writer.Writer bytes old.merging o s.store.things s.store.layout) there stands.merges in
    let o = merges.waits.open_job in
    let made = made_of p.job o.job in
    subst (λ (d : _). CarriesOut g.D.Watched IsStored Shown IsStopped old.disk d s
    (state_by s (drop_by s.store c.args.name (thing_of s.store c.args.name))) (Ok answers.Done))
    (sym c.abandon.ensures.disk)
    (drop_carries g.D.Watched (record { only_now = g.met.D.Disk.only_now; counts_now = g.met.D.Disk.counts_now })
    g.D.Writer.Writer bytes old.disk old.core new.core old.merging
    c.args.served.now.opens.items s stands.serves p merges c.args.name named c.abandon.ensures.core
    (λ openable. subst (λ (d : _). engine.Represents bytes new.core (g.D.Watched.told d) (history_of s)
    (job_ended made s.store.layout)) c.abandon.ensures.disk
    (c.abandon.ensures.represents (history_of s) s.store.layout o made
    (represents bytes seen old.core c.args.served.now.opens.items s stands.serves openable) merges.waits.is_open merges.waits.lent)))

pub returns-in-None-clause-merges : goal.returns-in-None-clause-merges
returns-in-None-clause-merges g c s stands no_pass =
    let (still, other) = took_none c.as_slice.result.now c.args.name c.as_slice.ensures c.args.planned.now
    c.take_planned.new.planned c.take_planned.result
    c.take_planned.ensures c.in-None.is in
    let none = no_merge_named g.D.Writer.Writer g.D.Held.HeldFile.bytes c.args.planned.now s.store.things s.store.layout
    c.args.name stands.merges.waits other in
    merges_behind g.D.Writer.Writer g.D.Held.HeldFile.bytes c.args.served.now.engine.merging
    c.end.new.self.engine.merging c.args.planned.now c.take_planned.new.planned
    c.end.ensures.merging still s.store (drop_by s.store c.args.name (thing_of s.store c.args.name))
    (merges_kept s.store (drop_by s.store c.args.name (thing_of s.store c.args.name))
    (drop_keeps_work s.store c.args.name (thing_of s.store c.args.name) refl
    (only_reader s.store c.args.name none no_pass))) stands.merges

pub returns-in-None-clause-carries : goal.returns-in-None-clause-carries
returns-in-None-clause-carries g c s stands no_pass =
    let (still, other) = took_none c.as_slice.result.now c.args.name c.as_slice.ensures c.args.planned.now
    c.take_planned.new.planned c.take_planned.result
    c.take_planned.ensures c.in-None.is in
    let none = no_merge_named g.D.Writer.Writer g.D.Held.HeldFile.bytes c.args.planned.now s.store.things s.store.layout
    c.args.name stands.merges.waits other in
    quiet_carries g.D.Watched (record { only_now = g.met.D.Disk.only_now; counts_now = g.met.D.Disk.counts_now })
    g.D.Held.HeldFile.bytes (g.D.Watched.told c.end.new.self.engine.disk) c.end.new.self.engine.core c.end.new.self.opens.items s
    (drop_by s.store c.args.name (thing_of s.store c.args.name))
    (drop_keeps s.store c.args.name (thing_of s.store c.args.name)
    (only_reader s.store c.args.name none no_pass)) (Ok c.end.result)
    (c.end.ensures.makes s stands.serves none no_pass) (λ halts. halts)
    c.args.served.now.engine.disk c.end.new.self.engine.disk c.end.ensures.disk

pub returns-in-None-clause-handed : goal.returns-in-None-clause-handed
returns-in-None-clause-handed g c =
    let (still, other) = took_none c.as_slice.result.now c.args.name c.as_slice.ensures c.args.planned.now
    c.take_planned.new.planned c.take_planned.result
    c.take_planned.ensures c.in-None.is in
    subst (λ (q : Option _). CanHandIn g.D.Watched g.D.Writer.Writer c.end.new.self.engine.disk c.end.new.self.engine.merging q) (sym still)
    (can_still g.D.Watched g.D.Writer.Writer c.args.served.now.engine.disk c.end.new.self.engine.disk
    c.args.served.now.engine.merging c.end.new.self.engine.merging c.args.planned.now
    c.end.ensures.merging (λ none. ap (λ (d : _). g.D.Watched.told d) c.end.ensures.disk ∙ none) c.requires)

pub returns-in-None-clause-removes : goal.returns-in-None-clause-removes
returns-in-None-clause-removes g c s stands no_pass removes =
    let (still, other) = took_none c.as_slice.result.now c.args.name c.as_slice.ensures c.args.planned.now
    c.take_planned.new.planned c.take_planned.result
    c.take_planned.ensures c.in-None.is in
    c.end.ensures.removes s stands.serves
    (no_merge_named g.D.Writer.Writer g.D.Held.HeldFile.bytes c.args.planned.now s.store.things s.store.layout
    c.args.name stands.merges.waits other) no_pass removes

pub returns-in-Some-clause-removes : goal.returns-in-Some-clause-removes
returns-in-Some-clause-removes g c s stands no_pass removes =
    let bytes = g.D.Held.HeldFile.bytes in
    let old = c.args.served.now.engine in
    let new = c.abandon.new.self in
    let (p, there, named, job, none) = took c.as_slice.result.now c.args.name c.as_slice.ensures c.args.planned.now
    c.take_planned.new.planned c.take_planned.result c.in-Some.job
    c.take_planned.ensures c.in-Some.is in
    let merges = subst (λ (o : Option _). Merges g.D.Writer.Writer bytes old.merging o s.store.things s.store.layout) there stands.merges in
    let o = merges.waits.open_job in
    subst (λ (x : Option Thing). Removes new.core new.removing (drop_by s.store c.args.name x).state.layout)
    (sym (subst (λ (n : _). thing_of s.store n ≡ Some (AJob o.job (made_of p.job o.job))) named merges.waits.there))
    (subst (λ (x : _). Removes new.core new.removing (job_ended (made_of x o.job) s.store.layout)) job
    (c.abandon.ensures.removes (history_of s) s.store.layout o
    (record { stands = stands.serves.engine; opens = merges.opens }) merges.waits.is_open
    (subst (λ (x : _). HasMerge g.D.Writer.Writer bytes x o.job) (sym job) merges.waits.merge) removes))

-- ---- what reads then never fails

pub returns-in-None-clause-sure : goal.returns-in-None-clause-sure
returns-in-None-clause-sure g c s stands none = c.end.ensures.sure s stands.serves none

pub returns-in-Some-clause-sure : goal.returns-in-Some-clause-sure
returns-in-Some-clause-sure g c s stands none = none
