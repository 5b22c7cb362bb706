use Rattle.std.proofs.Common.{refl, ◌≡◌, ◌+◌, ◌-◌, ◌^◌, length, min, ℕ, ap, arith, sym, subst, ◌∙◌}
use Rattle.std.specs.Option.{ForSome}
use Rattle.std.specs.Prelude.{Option, Some, true}
use Rattle.vl_back.specs.declared.back.Back.{Back}
use Rattle.vl_disk.specs.DiskState.{DiskState}
use Rattle.vl_disk.specs.declared.name.Name.TheVariants as names
use Rattle.vl_steps.specs.laws.Fitting.{fit_still, fit_written}
use Rattle.vl_steps.specs.laws.Lending.{leaves_then, still_lent}
use Rattle.vl_steps.specs.laws.Filing.{same_files_handed}
use Rattle.vl_space.specs.laws.StillThere.{there_still, there_told}
use Rattle.vl_space.specs.laws.There.Kept.{same_stand}
use Rattle.vl_steps.specs.laws.Untold.{untold_by}
use Rattle.vl_steps.specs.Staging.{IsStagedCommit}
use Rattle.vl_steps.specs.laws.Written.{changed_by, hands_by, known_then, knows_alike, longer, stopped_by}
use Rattle.vl_engine_laws.specs.Fit.{IsFitFor}
use Rattle.vl_engine_laws.specs.Known.{are_known}
use Rattle.vl_front.specs.Decisions.{MayWrite}
use Rattle.std.specs.FinMap.{entries}
use Rattle.vl_memtable.specs.Lengths.{lengths_with}
use Rattle.vl_model.specs.Keys.{Writes}
use Rattle.vl_oracle.specs.LiveTickets as oracle
use Rattle.vl_oracle.specs.LiveTickets.{LiveTickets}
use Rattle.vl_pins.specs.Same.{HaveSameTickets}
use Rattle.vl_space.specs.laws.Pinned.{both_ended}
use Rattle.vl_seglog.specs.declared.active.ActiveLog.{ActiveLog}
use Rattle.vl_version.specs.declared.version.Version.{Version}
use Rattle.vl_engine.proofs.engine.Engine.write.Goals as goal

pub stage_commit-requires-clause-may : goal.stage_commit-requires-clause-may
stage_commit-requires-clause-may g c =
    subst (λ (w : Writes). MayWrite c.args.self.now.core.front (entries w)) (sym c.writes.ensures) c.requires

pub returns-in_default-append_durably-clause-as_written : goal.returns-in_default-append_durably-clause-as_written
returns-in_default-append_durably-clause-as_written g c =
    let before = c.args.self.now.core.front in
    let then_front = c.stage_commit.new.core.front in
    let same = c.in-Ok.ensures.same in
    let writes = c.args.txn.writes in
    let number : then_front.log.number ≡ before.log.number = ap (λ (log : ActiveLog). log.number) same.log.log in
    let staged = subst (λ (w : Writes). IsStagedCommit c.args.self.now.core.front c.args.self.now.core.version.active.entries w c.in-Ok.staged)
    c.writes.ensures c.in-Ok.ensures.staged in (
      ap (λ (n : ℕ). names.Log n) number,
      record {
        hands = hands_by g.D.Watched before writes then_front.log.number c.in-Ok.staged.frame number staged.frame
            c.args.self.now.disk c.stage_commit.new.disk c.append_durably.new.disk c.in-Ok.ensures.no_change
            c.append_durably.ensures.time c.append_durably.ensures.tells;
        stopped = λ clean. stopped_by g.D.Watched before writes then_front.log.number c.in-Ok.staged.frame number staged.frame
            c.stage_commit.new.disk c.append_durably.new.disk (c.in_default-append_durably.ensures.stopped clean);
        live = c.end.ensures.oracle ∙ ap (λ (n : ℕ). oracle.ended n then_front.oracle) c.ticket-ticket.ensures
            ∙ ap (oracle.ended c.args.txn.ticket) same.oracle;
        log = c.end.ensures.log.log ∙ same.log.log;
        room = c.end.ensures.log.room ∙ same.log.room;
        halted = c.end.ensures.log.halted ∙ ap (λ (n : ℕ). Some (names.Log n)) number;
        knows = λ h knows. c.end.ensures.knows h (knows_alike before _ h same.oracle same.named knows);
        version = c.in-Ok.ensures.version;
      },
    )

pub invariant_of-self-clause-ready : goal.invariant_of-self-clause-ready
invariant_of-self-clause-ready g c state told =
    let same = c.in_default.ensures.same in
    fit_still c.args.self.now.core c.stage_commit.new.core (ap (λ (log : ActiveLog). log.number) same.log.log) same.log.halted
    c.in_default.ensures.back state (c.args.self.now.ready state (sym c.in_default.ensures.no_change.told ∙ told))

pub invariant_of-self-clause-lent : goal.invariant_of-self-clause-lent
invariant_of-self-clause-lent g c =
    let before = c.args.self.now in
    let same = ap (λ (b : Back). b.state.next_table) c.in_default.ensures.back in
    still_lent g.D.Watched before.disk c.stage_commit.new.disk before.core.back.state.next_table
    c.stage_commit.new.core.back.state.next_table before.merging (omega (arith, same))
    (c.in_default.ensures.lent before.core.back.state.next_table) before.lent

pub invariant_of-self-clause-known : goal.invariant_of-self-clause-known
invariant_of-self-clause-known g c =
    let before = c.args.self.now.core in
    subst (λ (v : Version g.row.D-Held.Denot). are_known c.stage_commit.new.core.front.oracle.last v.active.entries ≡ true)
    (sym c.in_default.ensures.version)
    (subst (λ (o : LiveTickets). are_known o.last before.version.active.entries ≡ true) (sym c.in_default.ensures.same.oracle)
    c.args.self.now.known)

pub invariant_of-self-clause-pinned : goal.invariant_of-self-clause-pinned
invariant_of-self-clause-pinned g c =
    subst (λ (o : LiveTickets). HaveSameTickets o c.args.self.now.removing.pins.live) (sym c.in_default.ensures.same.oracle)
    c.args.self.now.pinned

pub invariant_of-self-in_default-append_durably-clause-lent : goal.invariant_of-self-in_default-append_durably-clause-lent
invariant_of-self-in_default-append_durably-clause-lent g c =
    let before = c.args.self.now in
    let next = before.core.back.state.next_table in
    let same = ap (λ (b : Back). b.state.next_table) c.in-Ok.ensures.back in
    still_lent g.D.Watched before.disk c.append_durably.new.disk next c.stage_commit.new.core.back.state.next_table
    before.merging (omega (arith, same))
    (leaves_then g.D.Watched next before.disk c.stage_commit.new.disk c.append_durably.new.disk (c.in-Ok.ensures.lent next)
    (c.append_durably.ensures.lent next)) before.lent

pub invariant_of-self-in_default-append_durably-clause-known : goal.invariant_of-self-in_default-append_durably-clause-known
invariant_of-self-in_default-append_durably-clause-known g c =
    let before = c.args.self.now.core in
    let last = c.end.ensures.oracle ∙ ap (oracle.ended c.ticket-ticket.result) c.in-Ok.ensures.same.oracle in
    subst (λ (v : Version g.row.D-Held.Denot). are_known c.end.new.self.oracle.last v.active.entries ≡ true)
    (sym c.in-Ok.ensures.version)
    (subst (λ (o : LiveTickets). are_known o.last before.version.active.entries ≡ true) (sym last) c.args.self.now.known)

pub invariant_of-self-in_default-append_durably-clause-pinned : goal.invariant_of-self-in_default-append_durably-clause-pinned
invariant_of-self-in_default-append_durably-clause-pinned g c =
    let before = c.args.self.now in
    both_ended before.core.front.oracle before.removing.pins c.ticket-ticket.result c.end.new.self.oracle
    c.end-in_default-append_durably.new.self before.pinned
    (c.end.ensures.oracle ∙ ap (oracle.ended c.ticket-ticket.result) c.in-Ok.ensures.same.oracle)
    c.end-in_default-append_durably.ensures

pub invariant_of-self-2-clause-ready : goal.invariant_of-self-2-clause-ready
invariant_of-self-2-clause-ready g c =
    let before = c.args.self.now.core in
    let same = c.in-Ok.ensures.same in
    let name = names.Log c.stage_commit.new.core.front.log.number in
    fit_written before _
    (ap (λ (log : ActiveLog). log.number) c.committed.ensures.log.log ∙ c.append_durably.ensures.number
    ∙ ap (λ (log : ActiveLog). log.number) same.log.log)
    (c.committed.ensures.log.halted ∙ same.log.halted) c.in-Ok.ensures.back name c.in-Ok.staged.frame.frame.items _ _
    (subst (λ (told : Option DiskState). ForSome told (IsFitFor before)) (sym c.in-Ok.ensures.no_change.told) c.args.self.now.ready)
    (rw c.in-Ok-append_durably.is at c.append_durably.ensures.written)

pub invariant_of-self-2-clause-lent : goal.invariant_of-self-2-clause-lent
invariant_of-self-2-clause-lent g c =
    let before = c.args.self.now in
    let next = before.core.back.state.next_table in
    let same = ap (λ (b : Back). b.state.next_table) c.in-Ok.ensures.back in
    still_lent g.D.Watched before.disk c.append_durably.new.disk next c.stage_commit.new.core.back.state.next_table
    before.merging (omega (arith, same))
    (leaves_then g.D.Watched next before.disk c.stage_commit.new.disk c.append_durably.new.disk (c.in-Ok.ensures.lent next)
    (c.append_durably.ensures.lent next)) before.lent

pub invariant_of-self-2-clause-known : goal.invariant_of-self-2-clause-known
invariant_of-self-2-clause-known g c =
    let before = c.args.self.now.core in
    let same = c.in-Ok.ensures.same in
    let staged = subst (λ (w : Writes). IsStagedCommit c.args.self.now.core.front c.args.self.now.core.version.active.entries w c.in-Ok.staged)
    c.writes.ensures c.in-Ok.ensures.staged in
    known_then before.front c.args.txn.writes before.version.active.entries _ _
    (ap (λ (o : LiveTickets). o.last) c.committed.ensures.oracle ∙ ap (λ (o : LiveTickets). o.last + 1) same.oracle)
    (ap (λ (v : Version g.row.D-Held.Denot). v.active.entries) c.set_active.ensures ∙ staged.more)
    c.args.self.now.known

pub returns-clause-as_written : goal.returns-clause-as_written
returns-clause-as_written g c =
    let before = c.args.self.now.core in
    let then_front = c.stage_commit.new.core.front in
    let same = c.in-Ok.ensures.same in
    let writes = c.args.txn.writes in
    let number : then_front.log.number ≡ before.front.log.number = ap (λ (log : ActiveLog). log.number) same.log.log in
    let staged = subst (λ (w : Writes). IsStagedCommit c.args.self.now.core.front c.args.self.now.core.version.active.entries w c.in-Ok.staged)
    c.writes.ensures c.in-Ok.ensures.staged in (
      ap (λ (n : ℕ). n + 1) c.last-number.ensures.last ∙ ap (λ (o : LiveTickets). o.last + 1) same.oracle,
      record {
        hands = hands_by g.D.Watched before.front writes then_front.log.number c.in-Ok.staged.frame number staged.frame
            c.args.self.now.disk c.stage_commit.new.disk c.append_durably.new.disk c.in-Ok.ensures.no_change
            c.append_durably.ensures.time c.append_durably.ensures.tells;
        changed = changed_by g.D.Watched before.front writes then_front.log.number c.in-Ok.staged.frame number staged.frame
            c.stage_commit.new.disk c.append_durably.new.disk (rw c.in-Ok-append_durably.is at c.append_durably.ensures.written);
        calls = rw c.in-Ok-append_durably.is at c.append_durably.ensures.calls;
        live = c.committed.ensures.oracle
            ∙ ap (λ (n : ℕ). oracle.ended n (oracle.advanced (then_front.oracle.last + 1) then_front.oracle)) c.ticket-ticket.ensures
            ∙ ap (λ (o : LiveTickets). oracle.ended c.args.txn.ticket (oracle.advanced (o.last + 1) o)) same.oracle;
        number = ap (λ (log : ActiveLog). log.number) c.committed.ensures.log.log ∙ c.append_durably.ensures.number ∙ number;
        long = longer g.D.Watched before.front writes then_front.log.number c.in-Ok.staged.frame number staged.frame _
            (ap (λ (log : ActiveLog). log.length) c.committed.ensures.log.log
            ∙ (rw c.in-Ok-append_durably.is at c.append_durably.ensures.longer)
            ∙ ap (λ (log : ActiveLog). min (log.length + length c.in-Ok.staged.frame.frame.items) (2 ^ 64 - 1)) same.log.log);
        room = c.committed.ensures.log.room ∙ same.log.room;
        halted = c.committed.ensures.log.halted ∙ same.log.halted;
        knows = λ h knows. c.committed.ensures.knows h writes (knows_alike before.front _ h same.oracle same.named knows) staged.keys;
        behind = ap (λ (v : Version g.row.D-Held.Denot). v.behind) c.set_active.ensures
            ∙ ap (λ (v : Version g.row.D-Held.Denot). v.behind) c.in-Ok.ensures.version;
        more = ap (λ (v : Version g.row.D-Held.Denot). v.active.entries) c.set_active.ensures ∙ staged.more;
      },
    )

pub invariant_of-self-2-clause-pinned : goal.invariant_of-self-2-clause-pinned
invariant_of-self-2-clause-pinned g c =
    let before = c.args.self.now in
    let last = before.core.front.oracle.last + 1 in
    both_ended (oracle.advanced last before.core.front.oracle) before.removing.pins c.ticket-ticket.result c.committed.new.self.oracle
    c.end-2.new.self before.pinned
    (c.committed.ensures.oracle
    ∙ ap (λ (o : LiveTickets). oracle.ended c.ticket-ticket.result (oracle.advanced (o.last + 1) o)) c.in-Ok.ensures.same.oracle)
    c.end-2.ensures

-- ---- which files can go

pub invariant_of-self-clause-there : goal.invariant_of-self-clause-there
invariant_of-self-clause-there g c running =
    let before = c.args.self.now in
    let same = c.in_default.ensures.same in
    let back = ap (λ (b : Back). b.state.next_table) c.in_default.ensures.back in
    there_told g.D.Watched g.D.Writer.Writer before.disk c.stage_commit.new.disk before.core c.stage_commit.new.core
    before.merging before.merging before.removing.stock before.removing.stock
    (ap (λ (v : Version g.row.D-Held.Denot). v.behind) c.in_default.ensures.version)
    (ap (λ (log : ActiveLog). log.number) same.log.log) (omega (arith, back)) refl refl c.in_default.ensures.no_change.told
    (c.in_default.ensures.lent before.core.back.state.next_table) (before.there (sym same.log.halted ∙ running))

pub invariant_of-self-2-clause-there : goal.invariant_of-self-2-clause-there
invariant_of-self-2-clause-there g c running =
    let before = c.args.self.now in
    let next = before.core.back.state.next_table in
    let same = c.in-Ok.ensures.same in
    let writes = c.args.txn.writes in
    let number : c.stage_commit.new.core.front.log.number ≡ before.core.front.log.number
    = ap (λ (log : ActiveLog). log.number) same.log.log in
    let back = ap (λ (b : Back). b.state.next_table) c.in-Ok.ensures.back in
    let hands = hands_by g.D.Watched before.core.front writes c.stage_commit.new.core.front.log.number c.in-Ok.staged.frame number
    (subst (λ (w : Writes). IsStagedCommit c.args.self.now.core.front c.args.self.now.core.version.active.entries w c.in-Ok.staged)
    c.writes.ensures c.in-Ok.ensures.staged).frame before.disk c.stage_commit.new.disk c.append_durably.new.disk c.in-Ok.ensures.no_change
    c.append_durably.ensures.time c.append_durably.ensures.tells in
    there_still g.D.Watched g.D.Writer.Writer before.disk c.append_durably.new.disk before.core _
    before.merging before.merging before.removing.stock before.removing.stock
    (ap (λ (v : Version g.row.D-Held.Denot). v.behind) c.set_active.ensures
    ∙ ap (λ (v : Version g.row.D-Held.Denot). v.behind) c.in-Ok.ensures.version)
    (ap (λ (log : ActiveLog). log.number) c.committed.ensures.log.log ∙ c.append_durably.ensures.number ∙ number)
    (omega (arith, back)) refl refl
    (untold_by _ (g.D.Watched.told before.disk) (g.D.Watched.told c.stage_commit.new.disk) (g.D.Watched.told c.append_durably.new.disk)
    c.in-Ok.ensures.no_change.told (rw c.in-Ok-append_durably.is at c.append_durably.ensures.written))
    (same_stand (g.D.Watched.told before.disk) (g.D.Watched.told c.append_durably.new.disk)
    (same_files_handed g.D.Watched before.disk c.append_durably.new.disk before.core before.core c.args.txn.ticket writes
    (record { only_now = g.met.D.Disk.only_now; counts_now = g.met.D.Disk.counts_now }) hands))
    (leaves_then g.D.Watched next before.disk c.stage_commit.new.disk c.append_durably.new.disk (c.in-Ok.ensures.lent next)
    (c.append_durably.ensures.lent next))
    (before.there (sym (c.committed.ensures.log.halted ∙ same.log.halted) ∙ running))

-- ---- the runs in memory

pub returns-in_default-clause-runs : goal.returns-in_default-clause-runs
returns-in_default-clause-runs g c = ap (λ (v : Version g.row.D-Held.Denot). v.active.lengths) c.in_default.ensures.version

pub returns-in_default-append_durably-clause-runs : goal.returns-in_default-append_durably-clause-runs
returns-in_default-append_durably-clause-runs g c =
    ap (λ (v : Version g.row.D-Held.Denot). v.active.lengths) c.in-Ok.ensures.version

pub returns-clause-runs : goal.returns-clause-runs
returns-clause-runs g c =
    ap (λ (v : Version g.row.D-Held.Denot). v.active.lengths) c.set_active.ensures ∙ c.in-Ok.ensures.lengths
    ∙ ap (λ (w : Writes). lengths_with (length (entries w)) c.args.self.now.core.version.active.lengths) c.writes.ensures

-- ---- what is forgotten

pub returns-in_default-append_durably-clause-pruned : goal.returns-in_default-append_durably-clause-pruned
returns-in_default-append_durably-clause-pruned g c none = c.end.ensures.pruned

pub returns-clause-pruned : goal.returns-clause-pruned
returns-clause-pruned g c none = c.committed.ensures.pruned
