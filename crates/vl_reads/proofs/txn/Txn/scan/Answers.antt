use Rattle.std.proofs.Common.{refl, Global, Vec}
use Rattle.vl_reads.proofs.Seeing.{damage_so, fails_so, fault_near, fault_sound, kept_beside, on_error, sees_scan, sees_still}
use Rattle.vl_reads.specs.laws.ReadLaws.{contents_stand, none_astray}
use Rattle.vl_model.specs.Keys.{Row}
use Rattle.vl_version.specs.Scans.{AreScanned, SomeAstray}
use Rattle.vl_version.specs.declared.wanted.Wanted.{Wanted}
use Rattle.vl_model.specs.History.{contents_at}
use Rattle.vl_version.specs.Gathered.{span_of}
use Rattle.vl_version.specs.Naming.{IsLogFault, IsScanFault}
use Rattle.vl_version.specs.Whole.{LevelsStop}
use Rattle.vl_version.specs.Standing.{DamagedOver, RowsOver}
use Rattle.std.specs.Prelude.{◌⊎◌}
use Rattle.vl_version.specs.Sources.{tables_in}
use Rattle.vl_reads.proofs.txn.Txn.scan.Goals as goal

pub returns-clause-rows : goal.returns-clause-rows
returns-clause-rows g c h reads sees =
    let v = sees.version in
    let number = c.args.self.now.number in
    c.in_ok-rows.ensures.answers v.entries_of v.logs v.has (contents_at h number) (contents_stand v.logs v.entries_of h number v.shows)

pub returns-clause-sees : goal.returns-clause-sees
returns-clause-sees g c h reads sees =
    sees_scan g.H.HeldFile.bytes c.args.self.now _ h reads sees refl refl refl
    (kept_beside sees.files c.args.self.now.reader _ c.in_ok-rows.ensures.kept sees.reader.kept)
    c.args.low.now c.args.high.now c.args.limit c.args.way
    _ _ c.deref.ensures.value (returns-clause-rows g c h reads sees) c.in_ok-note_scan.ensures.noted

pub returns-in_err-rows-clause-sound : goal.returns-in_err-rows-clause-sound
returns-in_err-rows-clause-sound g c h reads sees =
    let v = sees.version in
    let number = c.args.self.now.number in
    let asked : Wanted = record { low = c.args.low; high = c.args.high; limit = c.args.limit; way = c.args.way } in
    fault_sound (λ (rows : Vec Row Global). AreScanned v.logs v.entries_of number asked c.args.self.now.writes
    rows.items) (SomeAstray v.logs v.entries_of number)
    (λ name place astray. none_astray v.logs v.entries_of h number v.shows astray.0 astray.1.0)
    c.in_err-rows.field-0.0
    (c.in_err-rows.ensures.answers v.entries_of v.logs v.has)
    c.from_residual-in_err-rows.result c.from_residual-in_err-rows.ensures.1

pub returns-in_err-rows-clause-near : goal.returns-in_err-rows-clause-near
returns-in_err-rows-clause-near g c alone =
    fault_near (Vec Row Global) _ c.in_err-rows.field-0.0 (c.in_err-rows.ensures.near alone.tables alone.near)
    c.from_residual-in_err-rows.result c.from_residual-in_err-rows.ensures.1

pub returns-in_err-rows-clause-still : goal.returns-in_err-rows-clause-still
returns-in_err-rows-clause-still g c h reads sees =
    on_error _ _ _ c.from_residual-in_err-rows.result
    (sees_still g.H.HeldFile.bytes c.args.self.now _ h reads sees refl refl refl
    (kept_beside sees.files c.args.self.now.reader _ c.in_err-rows.ensures.kept sees.reader.kept) refl)

pub returns-in_err-note_scan-clause-still : goal.returns-in_err-note_scan-clause-still
returns-in_err-note_scan-clause-still g c h reads sees =
    on_error _ _ _ c.from_residual-in_err-note_scan.result
    (sees_still g.H.HeldFile.bytes c.args.self.now _ h reads sees refl refl refl
    (kept_beside sees.files c.args.self.now.reader _ c.in_ok-rows.ensures.kept sees.reader.kept) c.in_err-note_scan.ensures.err)

pub returns-in_err-rows-clause-fault : goal.returns-in_err-rows-clause-fault
returns-in_err-rows-clause-fault g c =
    let version = c.args.self.now.version in
    fails_so (IsScanFault g.H.HeldFile.bytes (span_of c.args.low.now c.args.high.now) (tables_in version) version.behind.logs.items)
    c.in_err-rows.field-0.0 c.in_err-rows.ensures.fault c.from_residual-in_err-rows.result c.from_residual-in_err-rows.ensures.1

pub returns-clause-whole : goal.returns-clause-whole
returns-clause-whole g c = c.in_ok-rows.ensures.whole

pub returns-in_err-rows-clause-stops : goal.returns-in_err-rows-clause-stops
returns-in_err-rows-clause-stops g c =
    let version = c.args.self.now.version in
    fails_so (λ fault. LevelsStop g.H.HeldFile.bytes (span_of c.args.low.now c.args.high.now) c.args.way version.behind.levels fault
    ⊎ IsLogFault version.behind.logs.items fault)
    c.in_err-rows.field-0.0 c.in_err-rows.ensures.stops c.from_residual-in_err-rows.result c.from_residual-in_err-rows.ensures.1

pub returns-clause-over : goal.returns-clause-over
returns-clause-over g c = c.in_ok-rows.ensures.over

pub returns-in_err-rows-clause-damaged : goal.returns-in_err-rows-clause-damaged
returns-in_err-rows-clause-damaged g c told =
    let version = c.args.self.now.version in
    let number = c.args.self.now.number in
    damage_so (λ (rows : Vec Row Global). RowsOver g.H.HeldFile.bytes version number c.args.low.now c.args.high.now c.args.limit c.args.way
    c.args.self.now.writes rows.items) (DamagedOver g.H.HeldFile.bytes version number c.args.low.now c.args.high.now c.args.way)
    c.in_err-rows.field-0.0 (c.in_err-rows.ensures.over told) c.from_residual-in_err-rows.result c.from_residual-in_err-rows.ensures.1
