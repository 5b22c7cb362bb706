use Rattle.std.proofs.Common.{◌≡◌, List, Option, length, refl, sym, ap, ◌∙◌, subst, arith, inr}
use Rattle.std.specs.Prelude.{true, IfNone, IsSome}
use Rattle.vl_compact.specs.laws.ReadLaws.{read_whole}
use Rattle.vl_compact.specs.declared.job.Job.{Job}
use Rattle.vl_disk.specs.DiskState.{new_file}
use Rattle.vl_steps.specs.Merging.{HasAllMerge, fresh_outcome}
use Rattle.vl_steps.specs.laws.SameJobs.{first_same, next_same, read_same}
use Rattle.vl_engine_model.specs.Rulings.Fresh.{fresh_ruling}
use Rattle.vl_version.specs.Bases as bases
use Rattle.vl_version.specs.declared.base.Base.{Base}
use Rattle.vlstore.specs.Entries.{fresh_entry}
use Rattle.vlstore.specs.Merging.{IsChange}
use Rattle.vlstore.proofs.Drawing.{some_is}
use Rattle.vlstore.proofs.Making.{all_made, asked_way, first_planned, left_way, looked_way, on_and_on, still, taken_way}
use Rattle.vlstore.proofs.Merged.{did_on, did_same, fresh_changes, own_stays, same_own, stepped_so}
use Rattle.vlstore.proofs.Refused.{drawn_in, fill_fails, fits_at, left_after, read_fails, same_after, short_of_memory, took_one, unlent, unread}
use Rattle.vlstore.specs.Refused.{WasDrawn}
use Rattle.vlstore.specs.Standing.{NeverFails}
use Rattle.vlstore.proofs.session.Session.carry_out.Goals as goal

-- before the first table

pub making-init : goal.making-init
making-init g c = record {
  on = c.reader.ensures.on;
  changes = λ told. did_same IsChange c.args.self.now c.reader.new.self c.reader.ensures.own;
  way = looked_way g.D.Writer.Writer g.D.Held.HeldFile.bytes c.args.self.now c.reader.new.self c.args.job.now c.reader.ensures.on
      c.reader.ensures.own c.requires.under_way;
  took = λ told. let same = ap (λ (es : List _). length es) c.reader.ensures.own in omega arith;
  base = refl;
  inputs = refl;
  fits = λ told. c.requires.looks (sym c.reader.ensures.on.tells ∙ told) c.in_ok-reader.reader.looks c.in_ok-reader.ensures.blocks;
  read = λ read. read;
}

-- it reads on

pub fresh-requires : goal.fresh-requires
fresh-requires g c =
    let inv = c.making.invariant in
    asked_way g.D.Writer.Writer g.D.Held.HeldFile.bytes c.making.self c.making.job c.ready.new.self inv.way c.ready.ensures.kept
    (λ told. (c.in_ok-next.ensures.answers inv.way.planned (inv.fits told) (inv.way.has_merge told)).state)

pub returns-in_err-next-clause-under_way : goal.returns-in_err-next-clause-under_way
returns-in_err-next-clause-under_way g c =
    let inv = c.making.invariant in
    let same = c.in_err-next.ensures.refused in
    asked_way g.D.Writer.Writer g.D.Held.HeldFile.bytes c.making.self c.making.job c.ready.new.self inv.way c.ready.ensures.kept
    (λ told. still g.D.Writer.Writer g.D.Held.HeldFile.bytes c.making.job c.ready.new.self inv.way.planned c.ready.ensures.kept
    same.0 same.1 (inv.way.has_merge told))

-- all tables are made

pub returns-in_default-clause-under_way : goal.returns-in_default-clause-under_way
returns-in_default-clause-under_way g c =
    let inv = c.making.invariant in
    asked_way g.D.Writer.Writer g.D.Held.HeldFile.bytes c.making.self c.making.job c.ready.new.self inv.way c.ready.ensures.kept
    (λ told. (c.in_ok-next.ensures.answers inv.way.planned (inv.fits told) (inv.way.has_merge told)).state)

pub returns-in_default-clause-handed : goal.returns-in_default-clause-handed
returns-in_default-clause-handed g c =
    let inv = c.making.invariant in
    all_made g.D.Writer.Writer g.D.Held.HeldFile.bytes c.making.self c.making.job c.ready.new.self inv.way c.ready.ensures.kept
    (λ told. (c.in_ok-next.ensures.answers inv.way.planned (inv.fits told) (inv.way.has_merge told)).state)
    (subst (λ (o : Option _). IfNone o (c.ready.new.self.ended ≡ true)) c.in_default.is c.in_ok-next.ensures.ended)
    (λ told. subst (λ (o : Option _). IfNone o (HasAllMerge g.D.Writer.Writer g.D.Held.HeldFile.bytes c.ready.new.self inv.way.planned))
    c.in_default.is (c.in_ok-next.ensures.answers inv.way.planned (inv.fits told) (inv.way.has_merge told)).all)

pub returns-in_default-clause-on : goal.returns-in_default-clause-on
returns-in_default-clause-on g c = c.making.invariant.on

pub returns-in_err-next-clause-on : goal.returns-in_err-next-clause-on
returns-in_err-next-clause-on g c = c.making.invariant.on

-- one more was made

pub making-preserved : goal.making-preserved
making-preserved g c =
    let bytes = g.D.Held.HeldFile.bytes in
    let writers = g.D.Writer.Writer in
    let inv = c.making.invariant in
    let on = c.fresh.ensures.on in
    let way = c.fresh.ensures.under_way in
    let file = c.in_ok-file.file in
    let reads = λ (told : c.fresh.new.self.tells ≡ true).
    subst (λ (j : Job (Base _ _) _ _ _). bases.Fits bytes j.base.version c.ready.new.reader.looks) (sym c.fresh.ensures.job.same)
    (subst (λ (j : Job (Base _ _) _ _ _). bases.Fits bytes j.base.version c.ready.new.reader.looks) (sym c.ready.ensures.kept)
    (c.ready.ensures.fits (inv.fits (sym on.tells ∙ told)))) in
    let first = λ (told : c.fresh.new.self.tells ≡ true).
    let before = sym on.tells ∙ told in
    let same = same_own c.fresh.new.self way.planned inv.way.planned way.own
    (own_stays c.making.self c.fresh.new.self inv.way.planned on.session
    (stepped_so IsChange c.making.self c.fresh.new.self fresh_ruling fresh_entry (fresh_outcome c.fresh.result)
    (λ s l h. fresh_changes s l h (fresh_outcome c.fresh.result)) (c.fresh.ensures.steps before)) inv.way.own) in
    first_planned _ way.planned inv.way.planned c.ready.new.self.after c.in-Some.next same
    ((c.in_ok-next.ensures.answers inv.way.planned (inv.fits before) (inv.way.has_merge before)).first c.in-Some.next c.in-Some.is) in
    record {
      on = on_and_on c.args.self.now c.making.self c.fresh.new.self inv.on on;
      changes = λ told. did_on IsChange c.args.self.now c.making.self c.fresh.new.self (inv.changes told)
          (stepped_so IsChange c.making.self c.fresh.new.self fresh_ruling fresh_entry (fresh_outcome c.fresh.result)
          (λ s l h. fresh_changes s l h (fresh_outcome c.fresh.result)) (c.fresh.ensures.steps (inv.on.tells ∙ told)));
      way = taken_way writers bytes c.fresh.new.self c.fresh.new.job c.fill.new.self file way c.in_ok-file.ensures.lent
          c.in_ok-fill.ensures.takes
          (λ told. subst IsSome (sym (c.in_ok-file.ensures.empty (sym on.tells ∙ told))) refl)
          (λ told. c.in_ok-fill.ensures.next way.planned (reads told)
          (λ f found. some_is f new_file (sym found ∙ c.in_ok-file.ensures.empty (sym on.tells ∙ told)))
          (way.has_merge told)
          (first_same c.ready.new.self c.fresh.new.job c.fresh.ensures.job c.in-Some.next _ way.planned (first told)));
      took = λ told. took_one c.args.self.now c.making.self c.fresh.new.self c.making.counter c.in_ok-file.file.number
          (inv.took told) (c.in_ok-file.ensures.steps (inv.on.tells ∙ told));
      base = ap (λ (j : Job (Base _ _) _ _ _). j.base) c.in_ok-fill.ensures.takes.kept
          ∙ ap (λ (j : Job (Base _ _) _ _ _). j.base) c.fresh.ensures.job.same
          ∙ ap (λ (j : Job (Base _ _) _ _ _). j.base) c.ready.ensures.kept ∙ inv.base;
      inputs = ap (λ (j : Job (Base _ _) _ _ _). j.inputs) c.in_ok-fill.ensures.takes.kept
          ∙ ap (λ (j : Job (Base _ _) _ _ _). j.inputs) c.fresh.ensures.job.same
          ∙ ap (λ (j : Job (Base _ _) _ _ _). j.inputs) c.ready.ensures.kept ∙ inv.inputs;
      fits = λ told. subst (λ (j : Job (Base _ _) _ _ _). bases.Fits bytes j.base.version c.fill.new.reader.looks)
          (sym c.in_ok-fill.ensures.takes.kept) (c.fill.ensures.fits (reads told));
      read = λ read. c.fill.ensures.read (read_same c.ready.new.self c.fresh.new.job c.fresh.ensures.job bytes
          (c.ready.ensures.read (inv.read read)));
    }

-- what it goes on with

pub fill-requires-clause-next : goal.fill-requires-clause-next
fill-requires-clause-next g c =
    next_same c.ready.new.self c.fresh.new.job c.fresh.ensures.job c.in-Some.next _ _ g.D.Held.HeldFile.bytes
    (c.in_ok-next.ensures.next c.in-Some.next c.in-Some.is)

-- or none

pub returns-in_err-file-clause-under_way : goal.returns-in_err-file-clause-under_way
returns-in_err-file-clause-under_way g c = c.fresh.ensures.under_way

pub returns-in_err-file-clause-on : goal.returns-in_err-file-clause-on
returns-in_err-file-clause-on g c =
    on_and_on c.args.self.now c.making.self c.fresh.new.self c.making.invariant.on c.fresh.ensures.on

pub returns-in_err-fill-clause-under_way : goal.returns-in_err-fill-clause-under_way
returns-in_err-fill-clause-under_way g c =
    left_way g.D.Writer.Writer g.D.Held.HeldFile.bytes c.fresh.new.self c.fresh.new.job c.fill.new.self c.in_ok-file.file
    c.fresh.ensures.under_way c.in_ok-file.ensures.lent c.in_err-fill.ensures.refused
    (λ told. subst IsSome (sym (c.in_ok-file.ensures.empty (sym c.fresh.ensures.on.tells ∙ told))) refl)

pub returns-in_err-fill-clause-on : goal.returns-in_err-fill-clause-on
returns-in_err-fill-clause-on g c =
    on_and_on c.args.self.now c.making.self c.fresh.new.self c.making.invariant.on c.fresh.ensures.on

-- before or behind all that

pub returns-in_err-reader-clause-under_way : goal.returns-in_err-reader-clause-under_way
returns-in_err-reader-clause-under_way g c =
    looked_way g.D.Writer.Writer g.D.Held.HeldFile.bytes c.args.self.now c.reader.new.self c.args.job.now c.reader.ensures.on
    c.reader.ensures.own c.requires.under_way

pub returns-clause-under_way : goal.returns-clause-under_way
returns-clause-under_way g c = c.making.invariant.way

pub returns-clause-on : goal.returns-clause-on
returns-clause-on g c = c.making.invariant.on

-- what its own steps are

pub returns-in_err-reader-clause-changes : goal.returns-in_err-reader-clause-changes
returns-in_err-reader-clause-changes g c told = did_same IsChange c.args.self.now c.reader.new.self c.reader.ensures.own

pub returns-in_err-next-clause-changes : goal.returns-in_err-next-clause-changes
returns-in_err-next-clause-changes g c told = c.making.invariant.changes told

pub returns-in_default-clause-changes : goal.returns-in_default-clause-changes
returns-in_default-clause-changes g c told = c.making.invariant.changes told

pub returns-clause-changes : goal.returns-clause-changes
returns-clause-changes g c told = c.making.invariant.changes told

pub returns-in_err-file-clause-changes : goal.returns-in_err-file-clause-changes
returns-in_err-file-clause-changes g c told =
    let inv = c.making.invariant in
    did_on IsChange c.args.self.now c.making.self c.fresh.new.self (inv.changes told)
    (stepped_so IsChange c.making.self c.fresh.new.self fresh_ruling fresh_entry (fresh_outcome c.fresh.result)
    (λ s l h. fresh_changes s l h (fresh_outcome c.fresh.result)) (c.fresh.ensures.steps (inv.on.tells ∙ told)))

pub returns-in_err-fill-clause-changes : goal.returns-in_err-fill-clause-changes
returns-in_err-fill-clause-changes g c told =
    let inv = c.making.invariant in
    did_on IsChange c.args.self.now c.making.self c.fresh.new.self (inv.changes told)
    (stepped_so IsChange c.making.self c.fresh.new.self fresh_ruling fresh_entry (fresh_outcome c.fresh.result)
    (λ s l h. fresh_changes s l h (fresh_outcome c.fresh.result)) (c.fresh.ensures.steps (inv.on.tells ∙ told)))

-- ---- why it is refused

pub returns-in_err-reader-clause-refused : goal.returns-in_err-reader-clause-refused
returns-in_err-reader-clause-refused g c told =
    short_of_memory (NeverFails g.D.Watched.faults g.D.Reader.Reader.faults g.D.Writer.Writer.faults) g.D.Writer.Writer
    g.D.Held.HeldFile.bytes (λ r. g.D.Reader.Reader.faults r) c.args.self.now c.reader.new.self c.args.job.now c.args.job.now.after c.from_residual.result
    c.from_residual.ensures.1

pub returns-in_err-next-clause-refused : goal.returns-in_err-next-clause-refused
returns-in_err-next-clause-refused g c told =
    let inv = c.making.invariant in
    let sure = NeverFails g.D.Watched.faults g.D.Reader.Reader.faults g.D.Writer.Writer.faults in
    unread sure g.D.Writer.Writer g.D.Held.HeldFile.bytes (λ r. g.D.Reader.Reader.faults r) c.args.self.now c.making.self c.args.job.now
    c.ready.new.self.after c.in_err-next.field-0.0 c.from_residual-in_err-next.result c.from_residual-in_err-next.ensures.1
    (read_fails sure g.D.Writer.Writer g.D.Held.HeldFile.bytes (λ r. g.D.Reader.Reader.faults r)
    (WasDrawn c.args.self.now c.making.self) c.args.job.now c.ready.new.self.after c.making.job.base c.making.job.inputs c.making.job.after c.making.reader c.ready.new.reader
    c.in_err-next.field-0.0 inv.base inv.inputs (same_after c.making.job c.ready.new.self c.ready.ensures.kept)
    (fits_at g.D.Held.HeldFile.bytes c.making.job.base c.args.job.now.base c.making.reader.looks inv.base
    (inv.fits (inv.on.tells ∙ told)))
    c.in_err-next.ensures.cause)

pub returns-in_err-file-clause-refused : goal.returns-in_err-file-clause-refused
returns-in_err-file-clause-refused g c told =
    let inv = c.making.invariant in
    unlent (NeverFails g.D.Watched.faults g.D.Reader.Reader.faults g.D.Writer.Writer.faults) g.D.Writer.Writer g.D.Held.HeldFile.bytes
    (λ r. g.D.Reader.Reader.faults r) c.args.self.now c.making.self c.fresh.new.self c.args.job.now c.fresh.new.job.after inv.on c.in_err-file.field-0.0
    (c.in_err-file.ensures.steps (inv.on.tells ∙ told)) c.from_residual-in_err-file.result c.from_residual-in_err-file.ensures.1

pub returns-in_err-fill-clause-refused : goal.returns-in_err-fill-clause-refused
returns-in_err-fill-clause-refused g c told =
    let inv = c.making.invariant in
    let sure = NeverFails g.D.Watched.faults g.D.Reader.Reader.faults g.D.Writer.Writer.faults in
    let base_is = ap (λ (j : Job (Base _ _) _ _ _). j.base) c.fresh.ensures.job.same
    ∙ ap (λ (j : Job (Base _ _) _ _ _). j.base) c.ready.ensures.kept ∙ inv.base in
    let inputs_are = ap (λ (j : Job (Base _ _) _ _ _). j.inputs) c.fresh.ensures.job.same
    ∙ ap (λ (j : Job (Base _ _) _ _ _). j.inputs) c.ready.ensures.kept ∙ inv.inputs in
    unread sure g.D.Writer.Writer g.D.Held.HeldFile.bytes (λ r. g.D.Reader.Reader.faults r) c.args.self.now c.fresh.new.self
    c.args.job.now c.fill.new.self.after c.in_err-fill.field-0.0 c.from_residual-in_err-fill.result c.from_residual-in_err-fill.ensures.1
    (fill_fails sure g.D.Writer.Writer g.D.Held.HeldFile.bytes (λ r. g.D.Reader.Reader.faults r)
    (WasDrawn c.args.self.now c.fresh.new.self) c.args.job.now c.fresh.new.job c.fill.new.self c.fill.new.self.after c.in_ok-file.file c.ready.new.reader
    c.fill.new.reader c.in_err-fill.field-0.0 base_is inputs_are
    (left_after g.D.Writer.Writer c.in_ok-file.file c.fresh.new.job c.fill.new.self c.in_err-fill.ensures.refused)
    (fits_at g.D.Held.HeldFile.bytes c.making.job.base c.args.job.now.base c.ready.new.reader.looks inv.base
    (c.ready.ensures.fits (inv.fits (inv.on.tells ∙ told))))
    (drawn_in c.args.self.now c.making.self c.fresh.new.self c.in_ok-file.file.number inv.on
    (c.in_ok-file.ensures.steps (inv.on.tells ∙ told)))
    c.in_err-fill.ensures.cause)

pub returns-clause-refused : goal.returns-clause-refused
returns-clause-refused g c told =
    inr (record { counter_is = refl; took = let took = c.making.invariant.took told in omega arith })

-- ---- up to where its inputs were read

pub returns-in_err-next-clause-inputs : goal.returns-in_err-next-clause-inputs
returns-in_err-next-clause-inputs g c = ap (λ (j : Job (Base _ _) _ _ _). j.inputs) c.ready.ensures.kept ∙ c.making.invariant.inputs

pub returns-in_default-clause-inputs : goal.returns-in_default-clause-inputs
returns-in_default-clause-inputs g c = ap (λ (j : Job (Base _ _) _ _ _). j.inputs) c.ready.ensures.kept ∙ c.making.invariant.inputs

pub returns-in_err-file-clause-inputs : goal.returns-in_err-file-clause-inputs
returns-in_err-file-clause-inputs g c =
    ap (λ (j : Job (Base _ _) _ _ _). j.inputs) c.fresh.ensures.job.same
    ∙ ap (λ (j : Job (Base _ _) _ _ _). j.inputs) c.ready.ensures.kept ∙ c.making.invariant.inputs

pub returns-in_err-fill-clause-inputs : goal.returns-in_err-fill-clause-inputs
returns-in_err-fill-clause-inputs g c =
    ap (λ (j : Job (Base _ _) _ _ _). j.inputs) c.in_err-fill.ensures.refused.kept
    ∙ ap (λ (j : Job (Base _ _) _ _ _). j.inputs) c.fresh.ensures.job.same
    ∙ ap (λ (j : Job (Base _ _) _ _ _). j.inputs) c.ready.ensures.kept ∙ c.making.invariant.inputs

pub returns-clause-inputs : goal.returns-clause-inputs
returns-clause-inputs g c = c.making.invariant.inputs

pub returns-in_err-next-clause-read : goal.returns-in_err-next-clause-read
returns-in_err-next-clause-read g c read = c.ready.ensures.read (c.making.invariant.read read)

pub returns-in_default-clause-read : goal.returns-in_default-clause-read
returns-in_default-clause-read g c read = c.ready.ensures.read (c.making.invariant.read read)

pub returns-in_err-file-clause-read : goal.returns-in_err-file-clause-read
returns-in_err-file-clause-read g c read =
    read_same c.ready.new.self c.fresh.new.job c.fresh.ensures.job g.D.Held.HeldFile.bytes
    (c.ready.ensures.read (c.making.invariant.read read))

pub returns-in_err-fill-clause-read : goal.returns-in_err-fill-clause-read
returns-in_err-fill-clause-read g c read =
    c.fill.ensures.read (read_same c.ready.new.self c.fresh.new.job c.fresh.ensures.job g.D.Held.HeldFile.bytes
    (c.ready.ensures.read (c.making.invariant.read read)))

pub returns-clause-read : goal.returns-clause-read
returns-clause-read g c = c.making.invariant.read

pub returns-in_default-clause-whole : goal.returns-in_default-clause-whole
returns-in_default-clause-whole g c read =
    read_whole g.D.Held.HeldFile.bytes c.ready.new.self (c.ready.ensures.read (c.making.invariant.read read))
    (subst (λ (o : Option _). IfNone o (c.ready.new.self.ended ≡ true)) c.in_default.is c.in_ok-next.ensures.ended)
