use Rattle.std.proofs.Common.{List, ap, arith, min, subst, ℕ, ◌+◌, ◌-◌, ◌^◌, ◌∙◌}
use Rattle.vl_disk.specs.Disk.{IsChangedBy}
use Rattle.vl_manifest.specs.Switching.{Switches, switched}
use Rattle.vl_manifest.proofs.Switches.{crash_leaves, has_more}
use Rattle.vl_manifest.proofs.manifest_log.ManifestLog.switch.Goals as goal

pub returns-in_err-append_and_sync-clause-leaves : goal.returns-in_err-append_and_sync-clause-leaves
returns-in_err-append_and_sync-clause-leaves g c frames edits state told has staged =
    crash_leaves c.args.self.now (omega arith) frames edits c.args.staged.now staged state has g.D.Watched g.met.D.Disk.only_now
    c.args.disk.now c.append_and_sync.new.disk c.append_and_sync.result told
    (subst (λ (p : List ℕ). Switches g.D.Watched c.args.self.now.number p c.args.disk.now c.append_and_sync.new.disk
    c.append_and_sync.result)
    c.deref.ensures.value c.append_and_sync.ensures)

pub returns-clause-leaves : goal.returns-clause-leaves
returns-clause-leaves g c frames edits state told has staged =
    crash_leaves c.args.self.now (omega arith) frames edits c.args.staged.now staged state has g.D.Watched g.met.D.Disk.only_now
    c.args.disk.now c.append_and_sync.new.disk c.append_and_sync.result told
    (subst (λ (p : List ℕ). Switches g.D.Watched c.args.self.now.number p c.args.disk.now c.append_and_sync.new.disk
    c.append_and_sync.result)
    c.deref.ensures.value c.append_and_sync.ensures)

pub returns-clause-has : goal.returns-clause-has
returns-clause-has g c frames edits has staged =
    has_more c.args.self.now (omega arith) frames edits c.args.staged.now staged c.saturating_add-self.result
    (c.saturating_add-self.ensures ∙ ap (λ (n : ℕ). min (c.args.self.now.length + n) (2 ^ 64 - 1))
    (c.len.ensures ∙ c.args.staged.now.frame.ok.0))
    (g.D.Watched.told c.args.disk.now) (g.D.Watched.told c.append_and_sync.new.disk)
    (subst (λ (p : List ℕ). IsChangedBy (switched c.args.self.now.number p) (g.D.Watched.told c.args.disk.now)
    (g.D.Watched.told c.append_and_sync.new.disk))
    c.deref.ensures.value c.in_ok-append_and_sync.ensures.performs.done) has
