-- The pass that is open is ended where it has the name; else what waits or reads is.
use Rattle.std.proofs.Common.{◌≡◌, ◌∙◌, ap, sym, subst}
use Rattle.std.specs.Prelude.{Ok, Option, Some}
use Rattle.vl_engine_laws.specs.MayStep.{Fits}
use Rattle.vl_engine_laws.specs.Represents as engine
use Rattle.vl_engine_laws.specs.Shown.{Shown}
use Rattle.vl_engine_model.specs.Rulings.EndPass.{without_pass}
use Rattle.vl_engine_model.specs.Store.Dispatch.{drop_by}
use Rattle.vl_engine_model.specs.Store.Things.{APass, Thing, thing_of}
use Rattle.vl_script_model.specs.Durable.{CarriesOut}
use Rattle.vl_replay_laws.specs.Passing.{PassesIn}
use Rattle.vl_replay_laws.specs.Replaying.{MakesStep, state_by}
use Rattle.vl_script_model.specs.Sequential.{history_of}
use Rattle.vl_script_model.specs.Stored.{IsStopped, IsStored}
use Rattle.vl_script.specs.declared.answer.Answer.TheVariants as answers
use Rattle.vl_replay.proofs.Merges.Handing.{can_still}
use Rattle.vl_replay_laws.specs.laws.Names.Serving.{represents}
use Rattle.vl_replay_laws.specs.laws.Passes.Ending.{drop_passes, end_carries, end_makes, end_merges, end_passes, took_no_pass, took_pass}
use Rattle.vl_replay_laws.specs.laws.Passes.Used.{going_as, other_named}
use Rattle.vl_space.specs.Removing.{Removes}
use Rattle.vl_replay.proofs.replayer.collect.end.Goals as goal

pub returns-in-Some-clause-makes : goal.returns-in-Some-clause-makes
returns-in-Some-clause-makes g c s stands =
    let bytes = g.D.Held.HeldFile.bytes in
    let old = c.args.served.now.engine in
    let new = c.end_pass.new.self in
    let os = c.args.served.now.opens.items in
    let l = s.store.layout in
    let h = history_of s in
    let told = g.D.Watched.told old.disk in
    let did = c.end_pass.ensures in
    let (p, there, named, pass, none) = took_pass c.as_slice.result.now c.args.name c.as_slice.ensures c.args.passing.now
    c.take_pass.new.passing c.take_pass.result c.in-Some.pass c.take_pass.ensures c.in-Some.is in
    let going = going_as bytes c.args.passing.now p s.store.things l there stands.passes.is_open in
    subst (λ (d : _). MakesStep bytes (g.D.Watched.told d) new.core os s (drop_by s.store c.args.name (thing_of s.store c.args.name))
    (Ok answers.Done)) (sym did.disk)
    (end_makes bytes told old.core new.core os s stands.serves p going c.args.name named did.core new.merging
    (did.stands h l going.pass (record { stands = stands.serves.engine; opens = stands.merges.opens }))
    (subst (λ (d : _). Fits (g.D.Watched.told d) new.core h (without_pass l)) did.disk (did.fits h l going.pass stands.serves.fits))
    (λ openable. subst (λ (d : _). engine.Represents bytes new.core (g.D.Watched.told d) h (without_pass l)) did.disk
    (did.represents h l going.pass (represents bytes told old.core os s stands.serves openable))))

pub returns-in-Some-clause-passes : goal.returns-in-Some-clause-passes
returns-in-Some-clause-passes g c s stands =
    let bytes = g.D.Held.HeldFile.bytes in
    let old = c.args.served.now.engine in
    let new = c.end_pass.new.self in
    let os = c.args.served.now.opens.items in
    let l = s.store.layout in
    let h = history_of s in
    let (p, there, named, pass, none) = took_pass c.as_slice.result.now c.args.name c.as_slice.ensures c.args.passing.now
    c.take_pass.new.passing c.take_pass.result c.in-Some.pass c.take_pass.ensures c.in-Some.is in
    let going = going_as bytes c.args.passing.now p s.store.things l there stands.passes.is_open in
    subst (λ (o : Option _). PassesIn bytes new.core new.collecting o (drop_by s.store c.args.name (thing_of s.store c.args.name)).state)
    (sym none)
    (end_passes bytes (g.D.Watched.told old.disk) old.core new.core os s stands.serves p going c.args.name named c.end_pass.ensures.core
    new.collecting (c.end_pass.ensures.collects h l going.pass stands.passes.collects))

pub returns-in-Some-clause-merges : goal.returns-in-Some-clause-merges
returns-in-Some-clause-merges g c s stands =
    let bytes = g.D.Held.HeldFile.bytes in
    let old = c.args.served.now.engine in
    let new = c.end_pass.new.self in
    let os = c.args.served.now.opens.items in
    let l = s.store.layout in
    let (p, there, named, pass, none) = took_pass c.as_slice.result.now c.args.name c.as_slice.ensures c.args.passing.now
    c.take_pass.new.passing c.take_pass.result c.in-Some.pass c.take_pass.ensures c.in-Some.is in
    let going = going_as bytes c.args.passing.now p s.store.things l there stands.passes.is_open in
    end_merges bytes (g.D.Watched.told old.disk) old.core new.core os s stands.serves p going c.args.name named c.end_pass.ensures.core
    g.D.Writer.Writer old.merging new.merging c.args.planned.now c.end_pass.ensures.merging stands.merges

pub returns-in-Some-clause-carries : goal.returns-in-Some-clause-carries
returns-in-Some-clause-carries g c s stands =
    let bytes = g.D.Held.HeldFile.bytes in
    let old = c.args.served.now.engine in
    let new = c.end_pass.new.self in
    let os = c.args.served.now.opens.items in
    let l = s.store.layout in
    let h = history_of s in
    let told = g.D.Watched.told old.disk in
    let did = c.end_pass.ensures in
    let (p, there, named, pass, none) = took_pass c.as_slice.result.now c.args.name c.as_slice.ensures c.args.passing.now
    c.take_pass.new.passing c.take_pass.result c.in-Some.pass c.take_pass.ensures c.in-Some.is in
    let going = going_as bytes c.args.passing.now p s.store.things l there stands.passes.is_open in
    subst (λ (d : _). CarriesOut g.D.Watched IsStored Shown IsStopped old.disk d s
    (state_by s (drop_by s.store c.args.name (thing_of s.store c.args.name))) (Ok answers.Done)) (sym did.disk)
    (end_carries g.D.Watched (record { only_now = g.met.D.Disk.only_now; counts_now = g.met.D.Disk.counts_now })
    bytes old.disk old.core new.core os s stands.serves p going c.args.name named did.core
    (λ openable. subst (λ (d : _). engine.Represents bytes new.core (g.D.Watched.told d) h (without_pass l)) did.disk
    (did.represents h l going.pass (represents bytes told old.core os s stands.serves openable))))

pub returns-in-None-clause-makes : goal.returns-in-None-clause-makes
returns-in-None-clause-makes g c s stands =
    let bytes = g.D.Held.HeldFile.bytes in
    let (still, other) = took_no_pass c.as_slice.result.now c.args.name c.as_slice.ensures c.args.passing.now
    c.take_pass.new.passing c.take_pass.result c.take_pass.ensures c.in-None.is in
    c.end.ensures.makes s (record { serves = stands.serves; merges = stands.merges })
    (other_named bytes s.store.things s.store.layout c.args.name c.args.passing.now stands.passes.is_open other)

pub returns-in-None-clause-merges : goal.returns-in-None-clause-merges
returns-in-None-clause-merges g c s stands =
    let bytes = g.D.Held.HeldFile.bytes in
    let (still, other) = took_no_pass c.as_slice.result.now c.args.name c.as_slice.ensures c.args.passing.now
    c.take_pass.new.passing c.take_pass.result c.take_pass.ensures c.in-None.is in
    c.end.ensures.merges s (record { serves = stands.serves; merges = stands.merges })
    (other_named bytes s.store.things s.store.layout c.args.name c.args.passing.now stands.passes.is_open other)

pub returns-in-None-clause-carries : goal.returns-in-None-clause-carries
returns-in-None-clause-carries g c s stands =
    let bytes = g.D.Held.HeldFile.bytes in
    let (still, other) = took_no_pass c.as_slice.result.now c.args.name c.as_slice.ensures c.args.passing.now
    c.take_pass.new.passing c.take_pass.result c.take_pass.ensures c.in-None.is in
    c.end.ensures.carries s (record { serves = stands.serves; merges = stands.merges })
    (other_named bytes s.store.things s.store.layout c.args.name c.args.passing.now stands.passes.is_open other)

pub returns-in-None-clause-passes : goal.returns-in-None-clause-passes
returns-in-None-clause-passes g c s stands =
    let bytes = g.D.Held.HeldFile.bytes in
    let old = c.args.served.now.engine in
    let new = c.end.new.served.engine in
    let (still, other) = took_no_pass c.as_slice.result.now c.args.name c.as_slice.ensures c.args.passing.now
    c.take_pass.new.passing c.take_pass.result c.take_pass.ensures c.in-None.is in
    subst (λ (o : Option _). PassesIn bytes new.core new.collecting o (drop_by s.store c.args.name (thing_of s.store c.args.name)).state)
    (sym still)
    (drop_passes bytes old.core new.core old.collecting new.collecting c.args.passing.now s.store c.args.name
    (other_named bytes s.store.things s.store.layout c.args.name c.args.passing.now stands.passes.is_open other)
    c.end.ensures.logs c.end.ensures.collecting stands.passes)

pub returns-in-Some-clause-handed : goal.returns-in-Some-clause-handed
returns-in-Some-clause-handed g c = can_still g.D.Watched g.D.Writer.Writer c.args.served.now.engine.disk c.end_pass.new.self.disk
    c.args.served.now.engine.merging c.end_pass.new.self.merging c.args.planned.now c.end_pass.ensures.merging
    (λ none. ap (λ (d : _). g.D.Watched.told d) c.end_pass.ensures.disk ∙ none) c.requires

pub returns-in-Some-clause-removes : goal.returns-in-Some-clause-removes
returns-in-Some-clause-removes g c s stands =
    let bytes = g.D.Held.HeldFile.bytes in
    let new = c.end_pass.new.self in
    let l = s.store.layout in
    let (p, there, named, pass, none) = took_pass c.as_slice.result.now c.args.name c.as_slice.ensures c.args.passing.now
    c.take_pass.new.passing c.take_pass.result c.in-Some.pass c.take_pass.ensures c.in-Some.is in
    let going = going_as bytes c.args.passing.now p s.store.things l there stands.passes.is_open in
    subst (λ (x : Option Thing). Removes new.core new.removing (drop_by s.store c.args.name x).state.layout)
    (sym (subst (λ (n : _). thing_of s.store n ≡ Some (APass going.pass p.batch)) named going.there))
    (c.end_pass.ensures.removes (history_of s) l going.pass stands.removes)

pub returns-in-None-clause-removes : goal.returns-in-None-clause-removes
returns-in-None-clause-removes g c s stands =
    let bytes = g.D.Held.HeldFile.bytes in
    let (still, other) = took_no_pass c.as_slice.result.now c.args.name c.as_slice.ensures c.args.passing.now
    c.take_pass.new.passing c.take_pass.result c.take_pass.ensures c.in-None.is in
    c.end.ensures.removes s (record { serves = stands.serves; merges = stands.merges })
    (other_named bytes s.store.things s.store.layout c.args.name c.args.passing.now stands.passes.is_open other) stands.removes

-- ---- what reads then never fails

pub returns-in-Some-clause-sure : goal.returns-in-Some-clause-sure
returns-in-Some-clause-sure g c s stands none = none

pub returns-in-None-clause-sure : goal.returns-in-None-clause-sure
returns-in-None-clause-sure g c s stands none = c.end.ensures.sure s (record { serves = stands.serves; merges = stands.merges }) none
