use Rattle.std.proofs.Common.{◌≡◌, ap, arith, refl, ◌∙◌, ℕ}
use Rattle.std.specs.Prelude.{None, Some}
use Rattle.vl_space.specs.laws.Retired.Changing.{some_in}
use Rattle.vl_space.specs.laws.Retired.There.{there_begun}
use Rattle.vl_space.specs.laws.There.Kept.{there_kept, told_stand}
use Rattle.vl_steps.specs.laws.Begins.{begins_making, begins_nothing, keeps_making, keeps_told, made_so, next_back}
use Rattle.vl_steps.specs.laws.Begins.{next_version, none_known, same_back, still_numbered, stops_making, then_numbered}
use Rattle.vl_steps.specs.laws.Fitting.{fit_halted}
use Rattle.vl_steps.specs.laws.Lending.{leaves_made, leaves_then, still_lent}
use Rattle.vl_engine_laws.specs.laws.RotateFit.{fit_rotated, stands_still}
use Rattle.vl_engine_laws.specs.RotateFacts.{at_hold}
use Rattle.vl_engine_laws.specs.RotateFacts.{IsNextBack, IsSameBack}
use Rattle.vl_manifest.specs.declared.state.ManifestState.{ManifestState}
use Rattle.vl_memtable.specs.Contents.{Contents}
use Rattle.vl_seglog.specs.declared.active.ActiveLog.{ActiveLog}
use Rattle.vl_engine.proofs.engine.Engine.begin_log.Goals as goal

-- there was no room

pub invariant_of-self-in-Err-NoMemory-clause-lent : goal.invariant_of-self-in-Err-NoMemory-clause-lent
invariant_of-self-in-Err-NoMemory-clause-lent g c =
    let before = c.args.self.now in
    let same : IsSameBack before.core.back c.make_room.new.self =
    same_back before.core.back c.make_room.new.self c.in-Ok.ensures.others c.in-Ok.ensures.waiting in
    let up = ap (λ (s : ManifestState). s.next_table) same.state in
    still_lent g.D.Watched before.disk c.stage_rotation.new.disk before.core.back.state.next_table
    c.make_room.new.self.state.next_table before.merging (omega (arith, up))
    (c.stage_rotation.ensures.lent before.core.back.state.next_table) before.lent

pub invariant_of-self-in-Err-NoMemory-clause-there : goal.invariant_of-self-in-Err-NoMemory-clause-there
invariant_of-self-in-Err-NoMemory-clause-there g c running =
    let before = c.args.self.now in
    let told = g.D.Watched.told in
    let quiet = c.stage_rotation.ensures.no_change.told in
    let same : IsSameBack before.core.back c.make_room.new.self =
    same_back before.core.back c.make_room.new.self c.in-Ok.ensures.others c.in-Ok.ensures.waiting in
    there_kept g.D.Watched g.D.Writer.Writer before.disk c.stage_rotation.new.disk (λ none. quiet ∙ none)
    (told_stand (told before.disk) (told c.stage_rotation.new.disk) quiet) before.core (record before.core { back = c.make_room.new.self })
    before.merging before.merging before.removing.stock
    (record { version = refl; log = refl; tables = (let up = ap (λ (s : ManifestState). s.next_table) same.state in omega (arith, up)) })
    (c.stage_rotation.ensures.lent before.core.back.state.next_table) refl (before.there running)

-- it failed at the hold

pub invariant_of-self-in-Err-Failed-clause-lent : goal.invariant_of-self-in-Err-Failed-clause-lent
invariant_of-self-in-Err-Failed-clause-lent g c =
    let before = c.args.self.now in
    let same : IsSameBack before.core.back c.make_room.new.self =
    same_back before.core.back c.make_room.new.self c.in-Ok.ensures.others c.in-Ok.ensures.waiting in
    let up = ap (λ (s : ManifestState). s.next_table) same.state in
    still_lent g.D.Watched before.disk c.stage_rotation.new.disk before.core.back.state.next_table
    c.make_room.new.self.state.next_table before.merging (omega (arith, up))
    (c.stage_rotation.ensures.lent before.core.back.state.next_table) before.lent

pub returns-in-Err-Failed-clause-as_rotated : goal.returns-in-Err-Failed-clause-as_rotated
returns-in-Err-Failed-clause-as_rotated g c =
    let before = c.args.self.now.core in
    record {
      begins = begins_nothing g.D.Watched before c.args.self.now.disk c.stage_rotation.new.disk _ c.stage_rotation.ensures.no_change;
      stops = at_hold refl c.stage_rotation.ensures.no_change.calls;
      front = refl;
      back = same_back before.back c.make_room.new.self c.in-Ok.ensures.others c.in-Ok.ensures.waiting;
      version = refl;
    }

pub returns-in-Err-Failed-clause-files : goal.returns-in-Err-Failed-clause-files
returns-in-Err-Failed-clause-files g c = keeps_told _ _ _ c.stage_rotation.ensures.no_change.told

-- at the new log
pub invariant_of-self-in-Err : goal.invariant_of-self-in-Err
invariant_of-self-in-Err g c =
    let before = c.args.self.now.core in
    let told = g.D.Watched.told in
    let next = c.make_room.new.self.next_log in
    let same : IsSameBack before.back c.make_room.new.self =
    same_back before.back c.make_room.new.self c.in-Ok.ensures.others c.in-Ok.ensures.waiting in
    record {
      ready = fit_halted _ c.in-Err.name refl (told c.make_log.new.disk)
          (stands_still before.front.log.number next (told c.args.self.now.disk) (told c.stage_rotation.new.disk)
          (told c.make_log.new.disk) c.in-Ok-stage_rotation.ensures.no_change.told c.in-Err.ensures.files c.in-Err.ensures.untold
          (λ state is. (c.args.self.now.ready state is).log)
          (λ state is. ((c.args.self.now.ready state is).steps c.requires.may.running).logs next
          (let up = same.next_log in omega (arith, up))));
      numbered = still_numbered before.back c.make_room.new.self same c.args.self.now.numbered;
      lent = let up = ap (λ (s : ManifestState). s.next_table) same.state in
          still_lent g.D.Watched c.args.self.now.disk c.make_log.new.disk before.back.state.next_table
          c.make_room.new.self.state.next_table c.args.self.now.merging (omega (arith, up))
          (leaves_then g.D.Watched before.back.state.next_table c.args.self.now.disk c.stage_rotation.new.disk c.make_log.new.disk
          (c.in-Ok-stage_rotation.ensures.lent before.back.state.next_table)
          (leaves_made g.D.Watched c.stage_rotation.new.disk c.make_log.new.disk next c.in-Err.ensures.files c.in-Err.ensures.untold
          c.in-Err.ensures.spare before.back.state.next_table)) c.args.self.now.lent;
      known = c.args.self.now.known;
      pinned = c.args.self.now.pinned;
      there = λ running. absurd (let clash : Some c.in-Err.name ≡ None = running in cc);
    }

pub returns-in-Err-clause-as_rotated : goal.returns-in-Err-clause-as_rotated
returns-in-Err-clause-as_rotated g c =
    let before = c.args.self.now.core in
    let old = c.args.self.now.disk in
    let mid = c.stage_rotation.new.disk in
    let new = c.make_log.new.disk in
    let same : IsSameBack before.back c.make_room.new.self =
    same_back before.back c.make_room.new.self c.in-Ok.ensures.others c.in-Ok.ensures.waiting in
    let quiet = c.in-Ok-stage_rotation.ensures.no_change in
    record {
      begins = begins_making g.D.Watched before old mid new _ quiet c.make_room.new.self.next_log same.next_log _ c.in-Err.ensures.makes;
      stops = stops_making g.D.Watched before old mid new _ quiet c.make_room.new.self.next_log same.next_log _ c.in-Err.ensures.makes
          before.front.log.number c.in-Err.name c.in-Err.ensures.at;
      front = refl;
      back = same;
      version = refl;
    }

pub returns-in-Err-clause-files : goal.returns-in-Err-clause-files
returns-in-Err-clause-files g c =
    let before = c.args.self.now.core in
    let told = g.D.Watched.told in
    let same : IsSameBack before.back c.make_room.new.self =
    same_back before.back c.make_room.new.self c.in-Ok.ensures.others c.in-Ok.ensures.waiting in
    keeps_making before.back.next_log c.make_room.new.self.next_log same.next_log (told c.args.self.now.disk)
    (told c.stage_rotation.new.disk) (told c.make_log.new.disk) c.in-Ok-stage_rotation.ensures.no_change.told c.in-Err.ensures.files

-- it was begun
pub invariant_of-self-2 : goal.invariant_of-self-2
invariant_of-self-2 g c =
    let before = c.args.self.now.core in
    let old = c.args.self.now.disk in
    let mid = c.stage_rotation.new.disk in
    let new = c.make_log.new.disk in
    let same : IsSameBack before.back c.make_room.new.self =
    same_back before.back c.make_room.new.self c.in-Ok.ensures.others c.in-Ok.ensures.waiting in
    let quiet = c.in-Ok-stage_rotation.ensures.no_change in
    let log_is : c.new-self.result ≡ record { number = before.back.next_log; length = 16 } =
    c.new-self.ensures ∙ ap (λ (n : ℕ). record { number = n; length = 16 }) same.next_log in
    let next_is : IsNextBack before c.apply_rotation.new.self =
    next_back before c.make_room.new.self c.apply_rotation.new.self c.last-covered.result same c.apply_rotation.ensures.manifest
    c.apply_rotation.ensures.state c.apply_rotation.ensures.next_log c.apply_rotation.ensures.version
    c.apply_rotation.ensures.waiting c.last-covered.ensures.last in
    record {
      ready = fit_rotated before _ (ap (λ (log : ActiveLog). record before.front { log = log }) log_is) next_is c.requires.may.running
          (g.D.Watched.told old) (g.D.Watched.told mid) (g.D.Watched.told new) quiet.told
          (made_so g.D.Watched before old mid new _ quiet c.make_room.new.self.next_log same.next_log _
          c.in_default-make_log.ensures.makes c.in_default-make_log.ensures.makes.done) c.args.self.now.ready;
      numbered = then_numbered before c.apply_rotation.new.self next_is c.args.self.now.numbered;
      lent = let up = ap (λ (s : ManifestState). s.next_table) next_is.state in
          still_lent g.D.Watched old new before.back.state.next_table c.apply_rotation.new.self.state.next_table
          c.args.self.now.merging (omega (arith, up))
          (leaves_then g.D.Watched before.back.state.next_table old mid new
          (c.in-Ok-stage_rotation.ensures.lent before.back.state.next_table)
          (leaves_made g.D.Watched mid new c.make_room.new.self.next_log c.in_default-make_log.ensures.files
          c.in_default-make_log.ensures.untold c.in_default-make_log.ensures.spare before.back.state.next_table))
          c.args.self.now.lent;
      known = none_known before.front.oracle.last c.in-Ok-stage_rotation.version.active.entries
          (ap (λ (contents : Contents). contents.entries) c.in-Ok-stage_rotation.ensures.version.is.active);
      pinned = c.args.self.now.pinned;
      there = λ running.
          let found = some_in c.args.self.now.removing.stock.in_use c.requires.kept in
          let up = ap (λ (s : ManifestState). s.next_table) next_is.state in
          there_begun g.D.Watched g.D.Writer.Writer old new before _ c.args.self.now.merging c.args.self.now.removing.stock found.0
          found.1 c.make_room.new.self.next_log (ap (λ (log : ActiveLog). log.number) c.new-self.ensures)
          (λ none. c.in_default-make_log.ensures.untold (quiet.told ∙ none))
          (keeps_making c.make_room.new.self.next_log c.make_room.new.self.next_log refl (g.D.Watched.told old) (g.D.Watched.told mid)
          (g.D.Watched.told new) quiet.told c.in_default-make_log.ensures.files)
          (λ state told. ((c.args.self.now.ready state told).steps c.requires.may.running).logs c.make_room.new.self.next_log
          (let e = same.next_log in omega (arith, e)))
          (c.args.self.now.there c.requires.may.running) (omega (arith, up))
          (leaves_then g.D.Watched before.back.state.next_table old mid new
          (c.in-Ok-stage_rotation.ensures.lent before.back.state.next_table)
          (leaves_made g.D.Watched mid new c.make_room.new.self.next_log c.in_default-make_log.ensures.files
          c.in_default-make_log.ensures.untold c.in_default-make_log.ensures.spare before.back.state.next_table));
    }

pub returns-clause-as_rotated : goal.returns-clause-as_rotated
returns-clause-as_rotated g c =
    let before = c.args.self.now.core in
    let old = c.args.self.now.disk in
    let mid = c.stage_rotation.new.disk in
    let new = c.make_log.new.disk in
    let same : IsSameBack before.back c.make_room.new.self =
    same_back before.back c.make_room.new.self c.in-Ok.ensures.others c.in-Ok.ensures.waiting in
    let quiet = c.in-Ok-stage_rotation.ensures.no_change in
    let log_is : c.new-self.result ≡ record { number = before.back.next_log; length = 16 } =
    c.new-self.ensures ∙ ap (λ (n : ℕ). record { number = n; length = 16 }) same.next_log in
    let next_is : IsNextBack before c.apply_rotation.new.self =
    next_back before c.make_room.new.self c.apply_rotation.new.self c.last-covered.result same c.apply_rotation.ensures.manifest
    c.apply_rotation.ensures.state c.apply_rotation.ensures.next_log c.apply_rotation.ensures.version
    c.apply_rotation.ensures.waiting c.last-covered.ensures.last in (
      refl,
      record {
        begins = begins_making g.D.Watched before old mid new _ quiet c.make_room.new.self.next_log same.next_log _
            c.in_default-make_log.ensures.makes;
        changed = made_so g.D.Watched before old mid new _ quiet c.make_room.new.self.next_log same.next_log _
            c.in_default-make_log.ensures.makes c.in_default-make_log.ensures.makes.done;
        calls = c.in_default-make_log.ensures.makes.calls;
        front = ap (λ (log : ActiveLog). record before.front { log = log }) log_is;
        back = next_is;
        version = next_version g.D.Held.HeldFile.bytes (g.D.Watched.told old) before
            (record before { back = c.make_room.new.self }) c.in-Ok-stage_rotation.version refl refl
            c.in-Ok-stage_rotation.ensures.version;
      },
    )

pub returns-clause-files : goal.returns-clause-files
returns-clause-files g c =
    let before = c.args.self.now.core in
    let told = g.D.Watched.told in
    let same : IsSameBack before.back c.make_room.new.self =
    same_back before.back c.make_room.new.self c.in-Ok.ensures.others c.in-Ok.ensures.waiting in
    keeps_making before.back.next_log c.make_room.new.self.next_log same.next_log (told c.args.self.now.disk)
    (told c.stage_rotation.new.disk) (told c.make_log.new.disk) c.in-Ok-stage_rotation.ensures.no_change.told
    c.in_default-make_log.ensures.files
