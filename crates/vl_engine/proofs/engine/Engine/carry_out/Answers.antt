use Rattle.std.proofs.Common.{Option, ap, arith, refl, subst, sym, true, ℕ, ◌+◌, ◌≡◌, ◌∙◌}
use Rattle.std.specs.Prelude.{IfNone}
use Rattle.vl_disk.specs.declared.name.Name.TheVariants.{Table}
use Rattle.vl_engine_laws.specs.laws.Carrying.{IsWatched}
use Rattle.vl_engine.proofs.Refusing.{all_drawn, below_none, below_one, below_then, draw_tells, drawn_above, draws_more, draws_none, fill_fails}
use Rattle.vl_engine.proofs.Refusing.{fits_at, halted_draw, has_drawn, kept_inputs, leaves_store, left_after, left_inputs, lends_more, lends_none}
use Rattle.vl_engine.proofs.Refusing.{lends_same, memory_exit}
use Rattle.vl_engine.proofs.Refusing.{none_lent, read_exit, read_fails, same_after, same_base, same_inputs, step_exit, taken_base, taken_inputs}
use Rattle.vl_engine.proofs.Refusing.{tells_then}
use Rattle.vl_disk.specs.laws.Performing.{changed_tells}
use Rattle.vl_engine.specs.Refusals.{IsLastDrawn, moment}
use Rattle.vl_engine.proofs.Sure.{at_read, at_step, not_memory}
use Rattle.vl_compact.specs.declared.files.Lent.{Lent}
use Rattle.vl_compact.specs.laws.ReadLaws.{read_whole}
use Rattle.vl_compact.specs.laws.SureReaders.{filled_surely, read_surely, still_sure}
use Rattle.vl_table.specs.declared.block_reader.BlockReader.{BlockReader}
use Rattle.vl_engine.proofs.UnderWay.{handed_in, one_more, quiet_draw, still_way, unfilled_way, unlent_way}
use Rattle.vl_engine.proofs.Whole.{drawn_runs, fails, fits_asked, fits_roomy, fits_taken, has_all, is_fresh}
use Rattle.vl_engine.proofs.Whole.{made_more, made_more_with, starts, unbegun, unfilled, unfilled_with, unlent, unlent_with}
use Rattle.vl_steps.specs.Drawing.{lent_new}
use Rattle.vl_steps.specs.Merging.{HasAllMerge}
use Rattle.vl_steps.specs.laws.SameJobs.{first_same, has_same, next_same, read_same}
use Rattle.vl_space.specs.Removing.{Removes}
use Rattle.vl_engine_laws.specs.declared.kept.Core.{Core}
use Rattle.vl_engine_model.specs.Decides.{no_effects}
use Rattle.vl_engine_model.specs.Rulings.Fresh as fresh
use Rattle.vl_engine_model.specs.declared.layout.Layout.{Layout}
use Rattle.vl_model.specs.History.{History}
use Rattle.vl_engine.proofs.engine.Engine.carry_out.Goals as goal

-- before the first table

pub making-init : goal.making-init
making-init g c =
    let watched : IsWatched g.D.Watched = record { only_now = g.met.D.Disk.only_now; counts_now = g.met.D.Disk.counts_now } in
    record {
      way = c.requires;
      makes = λ h x o is stands fits is_open has looks.
          starts g.D.Watched g.D.Writer.Writer g.D.Held.HeldFile.bytes h x watched c.args.self.now.disk c.args.self.now.core
          c.args.self.now.merging c.args.job.now c.in_ok-reader.reader o is stands fits is_open has looks c.in_ok-reader.ensures.blocks;
      removes = λ h x o is stands fits is_open has looks removes. (
        starts g.D.Watched g.D.Writer.Writer g.D.Held.HeldFile.bytes h x watched c.args.self.now.disk c.args.self.now.core
            c.args.self.now.merging c.args.job.now c.in_ok-reader.reader o is stands fits is_open has looks c.in_ok-reader.ensures.blocks,
        removes,
      );
      pins = refl;
      collecting = refl;
      logs = refl;
      draws = draws_none g.D.Watched (moment c.args.self.now.core c.args.self.now.merging c.args.self.now.disk);
      lends = lends_none c.args.self.now.core.back.state.next_table c.args.self.now.merging;
      files = below_none c.args.self.now.core.back.state.next_table (g.D.Watched.told c.args.self.now.disk) _ refl;
      tells = λ state is. (state, is);
      base = refl;
      inputs = refl;
      looks = λ readers. readers c.in_ok-reader.reader.looks c.in_ok-reader.ensures.blocks;
      gives = λ gives. gives;
      sure = λ gives. record {
        files_never = c.in_ok-reader.ensures.files.never_fails gives;
        looks_never = c.in_ok-reader.ensures.looks.never_fails gives;
      };
      read = λ read. read;
    }

-- what it goes on with

pub fill-requires-clause-next : goal.fill-requires-clause-next
fill-requires-clause-next g c =
    next_same c.ready.new.self c.fresh.new.job c.fresh.ensures.job c.in-Some.next _ _ g.D.Held.HeldFile.bytes
    (c.in_ok-next.ensures.next c.in-Some.next c.in-Some.is)

-- all tables are made

pub returns-in_default-clause-handed : goal.returns-in_default-clause-handed
returns-in_default-clause-handed g c =
    handed_in g.D.Watched g.D.Writer.Writer c.making.self.disk c.making.self.core.front.halted c.making.self.merging c.making.job
    c.ready.new.self c.making.invariant.way c.ready.ensures.kept (subst (λ (o : Option _). IfNone o (c.ready.new.self.ended ≡ true)) c.in_default.is c.in_ok-next.ensures.ended)

pub returns-in_default-clause-makes : goal.returns-in_default-clause-makes
returns-in_default-clause-makes g c h x o is stands fits is_open has looks =
    let m = c.making.invariant.makes h x o is stands fits is_open has looks in
    has_all g.D.Watched g.D.Writer.Writer g.D.Held.HeldFile.bytes h x o.job c.args.self.now.disk c.making.self.disk c.making.self.core
    c.making.self.merging c.making.job c.making.reader m c.making.self.core.front.halted c.ready.new.self
    (handed_in g.D.Watched g.D.Writer.Writer c.making.self.disk c.making.self.core.front.halted c.making.self.merging c.making.job
    c.ready.new.self c.making.invariant.way c.ready.ensures.kept (subst (λ (o : Option _). IfNone o (c.ready.new.self.ended ≡ true)) c.in_default.is c.in_ok-next.ensures.ended))
    (subst (λ (x : Option _). IfNone x (HasAllMerge g.D.Writer.Writer g.D.Held.HeldFile.bytes c.ready.new.self o.job)) c.in_default.is
    (c.in_ok-next.ensures.answers o.job m.fits m.has).all)

-- one more was made

pub making-preserved : goal.making-preserved
making-preserved g c =
    let bytes = g.D.Held.HeldFile.bytes in
    record {
      way = one_more g.D.Watched g.D.Writer.Writer (lent_new (Table c.in_ok-file.file.number)) c.making.self.disk c.fresh.new.self.disk
          c.making.self.core.front.halted c.fresh.new.self.core.front.halted c.making.self.merging c.fresh.new.self.merging c.making.job
          c.ready.new.self c.fresh.new.job c.fill.new.self c.in_ok-file.file c.making.invariant.way c.ready.ensures.kept
          c.fresh.ensures.job c.in_ok-fill.ensures.takes c.in_ok-file.ensures.merging c.in_ok-file.ensures.fresh
          c.in_ok-file.ensures.empty c.in_ok-file.ensures.written
          (ap (λ (core : Core _). core.front.halted) c.in_ok-file.ensures.core);
      makes = λ h x o is stands fits is_open has looks.
          let m = c.making.invariant.makes h x o is stands fits is_open has looks in
          let l = m.stays.layout in
          let stood = c.in_ok-file.ensures.stands h l m.stays.stands (λ running. (m.stays.fits.running running).numbers) in
          let reads = fits_roomy bytes c.ready.new.self c.fresh.new.job c.ready.new.reader.looks c.fresh.ensures.job
          (fits_asked bytes c.making.job c.ready.new.self c.ready.new.reader.looks c.ready.ensures.kept (c.ready.ensures.fits m.fits)) in
          let had = has_same g.D.Writer.Writer bytes c.ready.new.self c.fresh.new.job o.job c.fresh.ensures.job
          (c.in_ok-next.ensures.answers o.job m.fits m.has).state in
          let empty = is_fresh g.D.Watched g.D.Writer.Writer bytes c.making.self.disk c.making.self.core h l c.in_ok-file.file
          m.stays.represents (drawn_runs c.in_ok-file.file.number l h (stood.answered (fresh.Drawn c.in_ok-file.file.number) refl).0)
          c.in_ok-file.ensures.empty in
          made_more g.D.Watched g.D.Writer.Writer bytes h x o.job c.args.self.now.disk c.making.self.disk c.making.self.core
          c.making.self.merging c.making.job c.making.reader m c.fresh.new.self.disk c.fresh.new.self.core c.fresh.new.self.merging
          c.in_ok-file.file.number (record no_effects { calls = 1 }) stood (c.in_ok-file.ensures.carries h l m.stays.represents)
          (c.in_ok-file.ensures.fits h l m.stays.represents.stands.fronts m.stays.fits) c.fill.new.self c.fill.new.reader
          (c.in_ok-fill.ensures.next o.job reads empty had
          (first_same c.ready.new.self c.fresh.new.job c.fresh.ensures.job c.in-Some.next _ o.job
          ((c.in_ok-next.ensures.answers o.job m.fits m.has).first c.in-Some.next c.in-Some.is)))
          (fits_taken bytes c.fresh.new.job c.fill.new.self c.fill.new.reader.looks g.D.Writer.Writer c.in_ok-file.file
          c.in_ok-fill.ensures.takes (c.fill.ensures.fits reads));
      removes = λ h x o is stands fits is_open has looks removes.
          let (m, kept) = c.making.invariant.removes h x o is stands fits is_open has looks removes in
          let l = m.stays.layout in
          let stood = c.in_ok-file.ensures.stands h l m.stays.stands (λ running. (m.stays.fits.running running).numbers) in
          let reads = fits_roomy bytes c.ready.new.self c.fresh.new.job c.ready.new.reader.looks c.fresh.ensures.job
          (fits_asked bytes c.making.job c.ready.new.self c.ready.new.reader.looks c.ready.ensures.kept (c.ready.ensures.fits m.fits)) in
          let had = has_same g.D.Writer.Writer bytes c.ready.new.self c.fresh.new.job o.job c.fresh.ensures.job
          (c.in_ok-next.ensures.answers o.job m.fits m.has).state in
          let empty = is_fresh g.D.Watched g.D.Writer.Writer bytes c.making.self.disk c.making.self.core h l c.in_ok-file.file
          m.stays.represents (drawn_runs c.in_ok-file.file.number l h (stood.answered (fresh.Drawn c.in_ok-file.file.number) refl).0)
          c.in_ok-file.ensures.empty in
          made_more_with g.D.Watched g.D.Writer.Writer bytes h x o.job c.args.self.now.disk c.making.self.disk c.making.self.core
          c.making.self.merging c.making.job c.making.reader m c.fresh.new.self.disk c.fresh.new.self.core c.fresh.new.self.merging
          c.in_ok-file.file.number (record no_effects { calls = 1 }) stood (c.in_ok-file.ensures.carries h l m.stays.represents)
          (c.in_ok-file.ensures.fits h l m.stays.represents.stands.fronts m.stays.fits)
          (λ (k : History) (y : Layout). Removes c.fresh.new.self.core c.fresh.new.self.removing y)
          (c.in_ok-file.ensures.removes h l m.stays.stands (λ running. (m.stays.fits.running running).numbers) kept)
          c.fill.new.self c.fill.new.reader
          (c.in_ok-fill.ensures.next o.job reads empty had
          (first_same c.ready.new.self c.fresh.new.job c.fresh.ensures.job c.in-Some.next _ o.job
          ((c.in_ok-next.ensures.answers o.job m.fits m.has).first c.in-Some.next c.in-Some.is)))
          (fits_taken bytes c.fresh.new.job c.fill.new.self c.fill.new.reader.looks g.D.Writer.Writer c.in_ok-file.file
          c.in_ok-fill.ensures.takes (c.fill.ensures.fits reads));
      pins = c.fresh.ensures.pins ∙ c.making.invariant.pins;
      collecting = c.fresh.ensures.collecting ∙ c.making.invariant.collecting;
      logs = c.fresh.ensures.logs ∙ c.making.invariant.logs;
      draws = draws_more g.D.Watched (moment c.args.self.now.core c.args.self.now.merging c.args.self.now.disk)
          (moment c.making.self.core c.making.self.merging c.making.self.disk)
          (moment c.fresh.new.self.core c.fresh.new.self.merging c.fresh.new.self.disk) c.making.counter c.in_ok-file.file
          c.making.invariant.draws c.in_ok-file.ensures.core c.in_ok-file.ensures.calls c.in_ok-file.ensures.cause
          c.in_ok-file.ensures.halted;
      lends = lends_more c.args.self.now.core.back.state.next_table c.in_ok-file.file.number c.args.self.now.merging
          c.making.self.merging c.fresh.new.self.merging c.making.invariant.lends c.in_ok-file.ensures.merging
          (drawn_above c.args.self.now.core c.making.self.core c.making.counter c.in_ok-file.file.number
          c.making.invariant.draws.core c.in_ok-file.ensures.number);
      files = below_then c.args.self.now.core.back.state.next_table (g.D.Watched.told c.args.self.now.disk)
          (g.D.Watched.told c.making.self.disk) (g.D.Watched.told c.fresh.new.self.disk) c.making.invariant.files
          c.making.invariant.tells
          (below_one c.args.self.now.core.back.state.next_table c.making.self.core.back.state.next_table
          (g.D.Watched.told c.making.self.disk) (g.D.Watched.told c.fresh.new.self.disk) c.in_ok-file.ensures.files
          (drawn_above c.args.self.now.core c.making.self.core c.making.counter c.making.self.core.back.state.next_table
          c.making.invariant.draws.core refl));
      tells = tells_then (g.D.Watched.told c.args.self.now.disk) (g.D.Watched.told c.making.self.disk)
          (g.D.Watched.told c.fresh.new.self.disk) c.making.invariant.tells
          (changed_tells (lent_new (Table c.in_ok-file.file.number)) (g.D.Watched.told c.making.self.disk)
          (g.D.Watched.told c.fresh.new.self.disk) c.in_ok-file.ensures.written);
      base = taken_base g.D.Writer.Writer c.in_ok-file.file c.fresh.new.job c.fill.new.self c.in_ok-fill.ensures.takes
          ∙ same_base c.making.job c.ready.new.self c.fresh.new.job c.ready.ensures.kept c.fresh.ensures.job ∙ c.making.invariant.base;
      inputs = taken_inputs g.D.Writer.Writer c.in_ok-file.file c.fresh.new.job c.fill.new.self c.in_ok-fill.ensures.takes
          ∙ same_inputs c.making.job c.ready.new.self c.fresh.new.job c.ready.ensures.kept c.fresh.ensures.job ∙ c.making.invariant.inputs;
      looks = λ readers.
          fits_at g.D.Held.HeldFile.bytes c.fresh.new.job.base c.args.job.now.base c.fill.new.reader.looks
          (same_base c.making.job c.ready.new.self c.fresh.new.job c.ready.ensures.kept c.fresh.ensures.job ∙ c.making.invariant.base)
          (c.fill.ensures.fits (fits_at g.D.Held.HeldFile.bytes c.args.job.now.base c.fresh.new.job.base c.ready.new.reader.looks
          (sym (same_base c.making.job c.ready.new.self c.fresh.new.job c.ready.ensures.kept c.fresh.ensures.job ∙ c.making.invariant.base))
          (fits_at g.D.Held.HeldFile.bytes c.making.job.base c.args.job.now.base c.ready.new.reader.looks c.making.invariant.base
          (c.ready.ensures.fits (fits_at g.D.Held.HeldFile.bytes c.args.job.now.base c.making.job.base c.making.reader.looks
          (sym c.making.invariant.base) (c.making.invariant.looks readers))))));
      gives = λ gives. c.fresh.ensures.steady (c.making.invariant.gives gives);
      sure = λ gives.
          let faults = g.D.Reader.Reader.faults in
          still_sure (λ (l : BlockReader _). faults l.reader) faults c.ready.new.reader c.fill.new.reader c.in_ok-fill.ensures.steady
          (still_sure (λ (l : BlockReader _). faults l.reader) faults c.making.reader c.ready.new.reader c.in_ok-next.ensures.steady
          (c.making.invariant.sure gives));
      read = λ read. c.fill.ensures.read (read_same c.ready.new.self c.fresh.new.job c.fresh.ensures.job bytes
          (c.ready.ensures.read (c.making.invariant.read read)));
    }

-- it ends before that

pub returns-in_err-reader-clause-makes : goal.returns-in_err-reader-clause-makes
returns-in_err-reader-clause-makes g c h x o is stands fits is_open has looks =
    let watched : IsWatched g.D.Watched = record { only_now = g.met.D.Disk.only_now; counts_now = g.met.D.Disk.counts_now } in
    unbegun g.D.Watched g.D.Writer.Writer g.D.Held.HeldFile.bytes h x watched c.args.self.now.disk c.args.self.now.core
    c.args.self.now.merging c.args.job.now c.from_residual.result c.from_residual.ensures.0 o is stands fits is_open

pub returns-in_err-next-clause-makes : goal.returns-in_err-next-clause-makes
returns-in_err-next-clause-makes g c h x o is stands fits is_open has looks =
    fails g.D.Watched g.D.Writer.Writer g.D.Held.HeldFile.bytes h x o.job c.args.self.now.disk c.making.self.disk c.making.self.core
    c.making.self.merging c.making.job c.making.reader (c.making.invariant.makes h x o is stands fits is_open has looks)
    c.ready.new.self c.from_residual-in_err-next.result c.from_residual-in_err-next.ensures.0

pub returns-in_err-file-clause-makes : goal.returns-in_err-file-clause-makes
returns-in_err-file-clause-makes g c h x o is stands fits is_open has looks =
    let m = c.making.invariant.makes h x o is stands fits is_open has looks in
    let l = m.stays.layout in
    unlent g.D.Watched g.D.Writer.Writer g.D.Held.HeldFile.bytes h x o.job c.args.self.now.disk c.making.self.disk c.making.self.core
    c.making.self.merging c.making.job c.making.reader m c.fresh.new.self.disk c.fresh.new.self.core c.fresh.new.self.merging
    c.in_err-file.field-0.0 c.fresh.new.job c.from_residual-in_err-file.result c.from_residual-in_err-file.ensures.0
    (c.in_err-file.ensures.stands h l m.stays.stands (λ running. (m.stays.fits.running running).numbers))
    (c.in_err-file.ensures.carries h l m.stays.represents)
    (c.in_err-file.ensures.fits h l m.stays.represents.stands.fronts m.stays.fits)

pub returns-in_err-fill-clause-makes : goal.returns-in_err-fill-clause-makes
returns-in_err-fill-clause-makes g c h x o is stands fits is_open has looks =
    let m = c.making.invariant.makes h x o is stands fits is_open has looks in
    let l = m.stays.layout in
    unfilled g.D.Watched g.D.Writer.Writer g.D.Held.HeldFile.bytes h x o.job c.args.self.now.disk c.making.self.disk c.making.self.core
    c.making.self.merging c.making.job c.making.reader m c.fresh.new.self.disk c.fresh.new.self.core c.fresh.new.self.merging
    c.in_ok-file.file.number (record no_effects { calls = 1 })
    (c.in_ok-file.ensures.stands h l m.stays.stands (λ running. (m.stays.fits.running running).numbers))
    (c.in_ok-file.ensures.carries h l m.stays.represents)
    (c.in_ok-file.ensures.fits h l m.stays.represents.stands.fronts m.stays.fits) c.fill.new.self
    c.from_residual-in_err-fill.result c.from_residual-in_err-fill.ensures.0

pub returns-clause-makes : goal.returns-clause-makes
returns-clause-makes g c h x o is stands fits is_open has looks =
    fails g.D.Watched g.D.Writer.Writer g.D.Held.HeldFile.bytes h x o.job c.args.self.now.disk c.making.self.disk c.making.self.core
    c.making.self.merging c.making.job c.making.reader (c.making.invariant.makes h x o is stands fits is_open has looks)
    c.making.job _ refl

-- what is kept of where space comes back from

pub returns-in_err-next-clause-collecting : goal.returns-in_err-next-clause-collecting
returns-in_err-next-clause-collecting g c = c.making.invariant.collecting

pub returns-in_err-next-clause-logs : goal.returns-in_err-next-clause-logs
returns-in_err-next-clause-logs g c = c.making.invariant.logs

pub returns-in_default-clause-collecting : goal.returns-in_default-clause-collecting
returns-in_default-clause-collecting g c = c.making.invariant.collecting

pub returns-in_default-clause-logs : goal.returns-in_default-clause-logs
returns-in_default-clause-logs g c = c.making.invariant.logs

pub returns-clause-collecting : goal.returns-clause-collecting
returns-clause-collecting g c = c.making.invariant.collecting

pub returns-clause-logs : goal.returns-clause-logs
returns-clause-logs g c = c.making.invariant.logs

pub returns-in_err-file-clause-collecting : goal.returns-in_err-file-clause-collecting
returns-in_err-file-clause-collecting g c = c.fresh.ensures.collecting ∙ c.making.invariant.collecting

pub returns-in_err-file-clause-logs : goal.returns-in_err-file-clause-logs
returns-in_err-file-clause-logs g c = c.fresh.ensures.logs ∙ c.making.invariant.logs

pub returns-in_err-fill-clause-collecting : goal.returns-in_err-fill-clause-collecting
returns-in_err-fill-clause-collecting g c = c.fresh.ensures.collecting ∙ c.making.invariant.collecting

pub returns-in_err-fill-clause-logs : goal.returns-in_err-fill-clause-logs
returns-in_err-fill-clause-logs g c = c.fresh.ensures.logs ∙ c.making.invariant.logs

-- it is under way yet

pub returns-in_err-next-clause-under_way : goal.returns-in_err-next-clause-under_way
returns-in_err-next-clause-under_way g c =
    still_way g.D.Watched g.D.Writer.Writer c.making.self.disk c.making.self.core.front.halted c.making.self.merging c.making.job
    c.ready.new.self c.making.invariant.way c.ready.ensures.kept

pub returns-in_default-clause-under_way : goal.returns-in_default-clause-under_way
returns-in_default-clause-under_way g c =
    still_way g.D.Watched g.D.Writer.Writer c.making.self.disk c.making.self.core.front.halted c.making.self.merging c.making.job
    c.ready.new.self c.making.invariant.way c.ready.ensures.kept

pub returns-in_err-file-clause-under_way : goal.returns-in_err-file-clause-under_way
returns-in_err-file-clause-under_way g c =
    unlent_way g.D.Watched g.D.Writer.Writer c.making.self.disk c.fresh.new.self.disk c.making.self.core.front.halted
    c.fresh.new.self.core.front.halted c.making.self.merging c.fresh.new.self.merging c.making.job c.ready.new.self c.fresh.new.job
    c.making.invariant.way c.ready.ensures.kept c.fresh.ensures.job c.in_err-file.ensures.refused
    (quiet_draw g.D.Watched g.D.Writer.Writer c.making.self.disk c.fresh.new.self.disk c.making.self.core c.fresh.new.self.core
    c.in_err-file.field-0.0
    c.in_err-file.ensures.core c.in_err-file.ensures.untouched)

pub returns-in_err-fill-clause-under_way : goal.returns-in_err-fill-clause-under_way
returns-in_err-fill-clause-under_way g c =
    unfilled_way g.D.Watched g.D.Writer.Writer (lent_new (Table c.in_ok-file.file.number)) c.making.self.disk c.fresh.new.self.disk
    c.making.self.core.front.halted c.fresh.new.self.core.front.halted c.making.self.merging c.fresh.new.self.merging c.making.job
    c.ready.new.self c.fresh.new.job c.fill.new.self c.in_ok-file.file c.making.invariant.way c.ready.ensures.kept
    c.fresh.ensures.job c.in_err-fill.ensures.refused c.in_ok-file.ensures.merging c.in_ok-file.ensures.fresh
    c.in_ok-file.ensures.empty c.in_ok-file.ensures.written
    (ap (λ (core : Core _). core.front.halted) c.in_ok-file.ensures.core)

-- what is kept of which files can go

pub returns-in_default-clause-removes : goal.returns-in_default-clause-removes
returns-in_default-clause-removes g c h x o is stands fits is_open has looks removes =
    let (m, kept) = c.making.invariant.removes h x o is stands fits is_open has looks removes in
    record {
      makes = has_all g.D.Watched g.D.Writer.Writer g.D.Held.HeldFile.bytes h x o.job c.args.self.now.disk c.making.self.disk
          c.making.self.core c.making.self.merging c.making.job c.making.reader m c.making.self.core.front.halted c.ready.new.self
          (handed_in g.D.Watched g.D.Writer.Writer c.making.self.disk c.making.self.core.front.halted c.making.self.merging c.making.job
          c.ready.new.self c.making.invariant.way c.ready.ensures.kept (subst (λ (o : Option _). IfNone o (c.ready.new.self.ended ≡ true)) c.in_default.is c.in_ok-next.ensures.ended))
          (subst (λ (x : Option _). IfNone x (HasAllMerge g.D.Writer.Writer g.D.Held.HeldFile.bytes c.ready.new.self o.job)) c.in_default.is
          (c.in_ok-next.ensures.answers o.job m.fits m.has).all);
      removes = kept;
    }

pub returns-in_err-reader-clause-removes : goal.returns-in_err-reader-clause-removes
returns-in_err-reader-clause-removes g c h x o is stands fits is_open has looks removes =
    let watched : IsWatched g.D.Watched = record { only_now = g.met.D.Disk.only_now; counts_now = g.met.D.Disk.counts_now } in
    record {
      makes = unbegun g.D.Watched g.D.Writer.Writer g.D.Held.HeldFile.bytes h x watched c.args.self.now.disk c.args.self.now.core
          c.args.self.now.merging c.args.job.now c.from_residual.result c.from_residual.ensures.0 o is stands fits is_open;
      removes = removes;
    }

pub returns-in_err-next-clause-removes : goal.returns-in_err-next-clause-removes
returns-in_err-next-clause-removes g c h x o is stands fits is_open has looks removes =
    let (m, kept) = c.making.invariant.removes h x o is stands fits is_open has looks removes in
    record {
      makes = fails g.D.Watched g.D.Writer.Writer g.D.Held.HeldFile.bytes h x o.job c.args.self.now.disk c.making.self.disk
          c.making.self.core c.making.self.merging c.making.job c.making.reader m c.ready.new.self
          c.from_residual-in_err-next.result c.from_residual-in_err-next.ensures.0;
      removes = kept;
    }

pub returns-in_err-file-clause-removes : goal.returns-in_err-file-clause-removes
returns-in_err-file-clause-removes g c h x o is stands fits is_open has looks removes =
    let (m, kept) = c.making.invariant.removes h x o is stands fits is_open has looks removes in
    let l = m.stays.layout in
    let (t, so) = unlent_with g.D.Watched g.D.Writer.Writer g.D.Held.HeldFile.bytes h x o.job c.args.self.now.disk c.making.self.disk
    c.making.self.core c.making.self.merging c.making.job c.making.reader m c.fresh.new.self.disk c.fresh.new.self.core
    c.fresh.new.self.merging (λ (k : History) (y : Layout). Removes c.fresh.new.self.core c.fresh.new.self.removing y)
    c.in_err-file.field-0.0 c.fresh.new.job c.from_residual-in_err-file.result c.from_residual-in_err-file.ensures.0
    (c.in_err-file.ensures.stands h l m.stays.stands (λ running. (m.stays.fits.running running).numbers))
    (c.in_err-file.ensures.carries h l m.stays.represents)
    (c.in_err-file.ensures.fits h l m.stays.represents.stands.fronts m.stays.fits)
    (c.in_err-file.ensures.removes h l m.stays.stands (λ running. (m.stays.fits.running running).numbers) kept) in
    record { makes = t; removes = so }

pub returns-in_err-fill-clause-removes : goal.returns-in_err-fill-clause-removes
returns-in_err-fill-clause-removes g c h x o is stands fits is_open has looks removes =
    let (m, kept) = c.making.invariant.removes h x o is stands fits is_open has looks removes in
    let l = m.stays.layout in
    let (t, so) = unfilled_with g.D.Watched g.D.Writer.Writer g.D.Held.HeldFile.bytes h x o.job c.args.self.now.disk c.making.self.disk
    c.making.self.core c.making.self.merging c.making.job c.making.reader m c.fresh.new.self.disk c.fresh.new.self.core
    c.fresh.new.self.merging c.in_ok-file.file.number (record no_effects { calls = 1 })
    (c.in_ok-file.ensures.stands h l m.stays.stands (λ running. (m.stays.fits.running running).numbers))
    (c.in_ok-file.ensures.carries h l m.stays.represents)
    (c.in_ok-file.ensures.fits h l m.stays.represents.stands.fronts m.stays.fits)
    (λ (k : History) (y : Layout). Removes c.fresh.new.self.core c.fresh.new.self.removing y)
    (c.in_ok-file.ensures.removes h l m.stays.stands (λ running. (m.stays.fits.running running).numbers) kept) c.fill.new.self
    c.from_residual-in_err-fill.result c.from_residual-in_err-fill.ensures.0 in
    record { makes = t; removes = so }

pub returns-clause-removes : goal.returns-clause-removes
returns-clause-removes g c h x o is stands fits is_open has looks removes =
    let (m, kept) = c.making.invariant.removes h x o is stands fits is_open has looks removes in
    record {
      makes = fails g.D.Watched g.D.Writer.Writer g.D.Held.HeldFile.bytes h x o.job c.args.self.now.disk c.making.self.disk
          c.making.self.core c.making.self.merging c.making.job c.making.reader m c.making.job _ refl;
      removes = kept;
    }

-- what it answers has its cause

pub returns-in_err-reader-clause-as_made : goal.returns-in_err-reader-clause-as_made
returns-in_err-reader-clause-as_made g c =
    let old = moment c.args.self.now.core c.args.self.now.merging c.args.self.now.disk in
    memory_exit g.D.Writer.Writer g.D.Held.HeldFile.bytes (λ r. g.D.Reader.Reader.faults r) g.D.Watched c.args.job.now c.args.job.now.after old old
    c.from_residual.result c.from_residual.ensures.1 (has_drawn g.D.Watched old old 0 (draws_none g.D.Watched old))

pub returns-in_err-next-clause-as_made : goal.returns-in_err-next-clause-as_made
returns-in_err-next-clause-as_made g c =
    let old = moment c.args.self.now.core c.args.self.now.merging c.args.self.now.disk in
    let mid = moment c.making.self.core c.making.self.merging c.making.self.disk in
    read_exit g.D.Writer.Writer g.D.Held.HeldFile.bytes (λ r. g.D.Reader.Reader.faults r) g.D.Watched c.args.job.now c.ready.new.self.after old mid
    c.in_err-next.field-0.0 c.from_residual-in_err-next.result c.from_residual-in_err-next.ensures.1
    (has_drawn g.D.Watched old mid c.making.counter c.making.invariant.draws)
    (read_fails g.D.Writer.Writer g.D.Held.HeldFile.bytes (λ r. g.D.Reader.Reader.faults r) g.D.Watched c.args.job.now c.ready.new.self.after old
    (IsLastDrawn mid) c.making.job.base c.making.job.inputs c.making.job.after c.making.reader c.ready.new.reader
    c.in_err-next.field-0.0 c.making.invariant.base c.making.invariant.inputs
    (sym (same_after c.making.job c.ready.new.self c.ready.ensures.kept)) c.making.invariant.looks c.in_err-next.ensures.cause)

pub returns-in_err-file-clause-as_made : goal.returns-in_err-file-clause-as_made
returns-in_err-file-clause-as_made g c =
    step_exit g.D.Writer.Writer g.D.Held.HeldFile.bytes (λ r. g.D.Reader.Reader.faults r) g.D.Watched c.args.job.now c.fresh.new.job.after
    (moment c.args.self.now.core c.args.self.now.merging c.args.self.now.disk)
    (moment c.making.self.core c.making.self.merging c.making.self.disk)
    (moment c.fresh.new.self.core c.fresh.new.self.merging c.fresh.new.self.disk) c.making.counter c.making.invariant.draws
    c.in_err-file.field-0.0 c.in_err-file.ensures.core c.in_err-file.ensures.halted c.in_err-file.ensures.counted
    c.in_err-file.ensures.failed c.in_err-file.ensures.stopped c.in_err-file.ensures.cause c.in_err-file.ensures.untouched
    c.from_residual-in_err-file.result c.from_residual-in_err-file.ensures.1

pub returns-in_err-fill-clause-as_made : goal.returns-in_err-fill-clause-as_made
returns-in_err-fill-clause-as_made g c =
    let old = moment c.args.self.now.core c.args.self.now.merging c.args.self.now.disk in
    let mid = moment c.making.self.core c.making.self.merging c.making.self.disk in
    let new = moment c.fresh.new.self.core c.fresh.new.self.merging c.fresh.new.self.disk in
    read_exit g.D.Writer.Writer g.D.Held.HeldFile.bytes (λ r. g.D.Reader.Reader.faults r) g.D.Watched c.args.job.now c.fill.new.self.after old new
    c.in_err-fill.field-0.0 c.from_residual-in_err-fill.result c.from_residual-in_err-fill.ensures.1
    (has_drawn g.D.Watched old new (c.making.counter + 1)
    (draws_more g.D.Watched old mid new c.making.counter c.in_ok-file.file c.making.invariant.draws c.in_ok-file.ensures.core
    c.in_ok-file.ensures.calls c.in_ok-file.ensures.cause c.in_ok-file.ensures.halted))
    (fill_fails g.D.Writer.Writer g.D.Held.HeldFile.bytes (λ r. g.D.Reader.Reader.faults r) g.D.Watched c.args.job.now c.fill.new.self.after old
    (IsLastDrawn new) c.fresh.new.job c.fill.new.self c.in_ok-file.file c.ready.new.reader c.fill.new.reader
    c.in_err-fill.field-0.0
    (same_base c.making.job c.ready.new.self c.fresh.new.job c.ready.ensures.kept c.fresh.ensures.job ∙ c.making.invariant.base)
    (same_inputs c.making.job c.ready.new.self c.fresh.new.job c.ready.ensures.kept c.fresh.ensures.job ∙ c.making.invariant.inputs)
    (sym (left_after g.D.Writer.Writer c.in_ok-file.file c.fresh.new.job c.fill.new.self c.in_err-fill.ensures.refused))
    (λ readers.
    fits_at g.D.Held.HeldFile.bytes c.making.job.base c.args.job.now.base c.ready.new.reader.looks c.making.invariant.base
    (c.ready.ensures.fits (fits_at g.D.Held.HeldFile.bytes c.args.job.now.base c.making.job.base c.making.reader.looks
    (sym c.making.invariant.base) (c.making.invariant.looks readers))))
    (ap (λ (n : ℕ). n + 1) c.in_ok-file.ensures.number
    ∙ sym (ap (λ (core : Core _). core.back.state.next_table) c.in_ok-file.ensures.core))
    c.in_err-fill.ensures.cause)

pub returns-in_default-clause-as_made : goal.returns-in_default-clause-as_made
returns-in_default-clause-as_made g c =
    has_drawn g.D.Watched (moment c.args.self.now.core c.args.self.now.merging c.args.self.now.disk)
    (moment c.making.self.core c.making.self.merging c.making.self.disk) c.making.counter c.making.invariant.draws

pub returns-clause-as_made : goal.returns-clause-as_made
returns-clause-as_made g c =
    let old = moment c.args.self.now.core c.args.self.now.merging c.args.self.now.disk in
    let mid = moment c.making.self.core c.making.self.merging c.making.self.disk in (
      has_drawn g.D.Watched old mid c.making.counter c.making.invariant.draws,
      all_drawn g.D.Watched old mid c.making.counter c.args.self.now.numbered.1 c.making.invariant.draws (omega arith),
    )

-- over a disk that gives what never fails

pub returns-in_err-reader-clause-sure : goal.returns-in_err-reader-clause-sure
returns-in_err-reader-clause-sure g c name gives at = absurd (not_memory c.from_residual.result name c.from_residual.ensures.1 at)

pub returns-in_err-next-clause-sure : goal.returns-in_err-next-clause-sure
returns-in_err-next-clause-sure g c name gives at =
    absurd (read_surely (λ (l : BlockReader _). g.D.Reader.Reader.faults l.reader) g.D.Reader.Reader.faults _ _ c.making.reader
    c.ready.new.reader (c.making.invariant.sure gives) c.in_err-next.field-0.0 name c.in_err-next.ensures.cause
    (at_read c.in_err-next.field-0.0 c.from_residual-in_err-next.result name c.from_residual-in_err-next.ensures.1 at))

pub returns-in_err-file-clause-sure : goal.returns-in_err-file-clause-sure
returns-in_err-file-clause-sure g c name gives at =
    at_step (Lent g.row.D-Writer.Denot g.D.Writer.Writer) _ _ _ c.in_err-file.field-0.0 c.from_residual-in_err-file.result name c.making.invariant.draws.steady
    c.in_err-file.ensures.cause c.from_residual-in_err-file.ensures.1 at

pub returns-in_err-fill-clause-sure : goal.returns-in_err-fill-clause-sure
returns-in_err-fill-clause-sure g c name gives at =
    let faults = g.D.Reader.Reader.faults in
    absurd (filled_surely (λ (l : BlockReader _). faults l.reader) faults _ _ c.ready.new.reader c.fill.new.reader
    (still_sure (λ (l : BlockReader _). faults l.reader) faults c.making.reader c.ready.new.reader c.in_ok-next.ensures.steady
    (c.making.invariant.sure gives)) g.D.Writer.Writer c.in_ok-file.file c.fresh.new.job c.fill.new.self c.in_err-fill.field-0.0 name
    (c.in_ok-file.ensures.writer.never_fails (c.making.invariant.gives gives)) c.in_err-fill.ensures.cause
    (at_read c.in_err-fill.field-0.0 c.from_residual-in_err-fill.result name c.from_residual-in_err-fill.ensures.1 at))

-- a halted engine did nothing

pub returns-in_err-reader-clause-idle : goal.returns-in_err-reader-clause-idle
returns-in_err-reader-clause-idle g c name is =
    let old = moment c.args.self.now.core c.args.self.now.merging c.args.self.now.disk in
    leaves_store g.D.Watched old old (refl, refl)

pub returns-in_err-next-clause-idle : goal.returns-in_err-next-clause-idle
returns-in_err-next-clause-idle g c name is =
    leaves_store g.D.Watched (moment c.args.self.now.core c.args.self.now.merging c.args.self.now.disk)
    (moment c.making.self.core c.making.self.merging c.making.self.disk) (c.making.invariant.draws.idle name is)

pub returns-in_err-file-clause-idle : goal.returns-in_err-file-clause-idle
returns-in_err-file-clause-idle g c name is =
    halted_draw g.D.Watched (moment c.args.self.now.core c.args.self.now.merging c.args.self.now.disk)
    (moment c.making.self.core c.making.self.merging c.making.self.disk)
    (moment c.fresh.new.self.core c.fresh.new.self.merging c.fresh.new.self.disk) c.in_err-file.field-0.0 name
    (c.making.invariant.draws.idle name is)
    (c.in_err-file.ensures.halted name (ap (λ (core : Core _). core.front.halted) c.making.invariant.draws.core ∙ is))
    c.in_err-file.ensures.core c.in_err-file.ensures.untouched

pub returns-in_err-fill-clause-idle : goal.returns-in_err-fill-clause-idle
returns-in_err-fill-clause-idle g c name is =
    none_lent _ _ (c.in_ok-file.ensures.halted name (ap (λ (core : Core _). core.front.halted) c.making.invariant.draws.core ∙ is))

pub returns-in_default-clause-idle : goal.returns-in_default-clause-idle
returns-in_default-clause-idle g c name is =
    leaves_store g.D.Watched (moment c.args.self.now.core c.args.self.now.merging c.args.self.now.disk)
    (moment c.making.self.core c.making.self.merging c.making.self.disk) (c.making.invariant.draws.idle name is)

pub returns-clause-idle : goal.returns-clause-idle
returns-clause-idle g c name is =
    leaves_store g.D.Watched (moment c.args.self.now.core c.args.self.now.merging c.args.self.now.disk)
    (moment c.making.self.core c.making.self.merging c.making.self.disk) (c.making.invariant.draws.idle name is)

-- which files come and go

pub returns-in_err-reader-clause-files : goal.returns-in_err-reader-clause-files
returns-in_err-reader-clause-files g c =
    below_none c.args.self.now.core.back.state.next_table (g.D.Watched.told c.args.self.now.disk) _ refl

pub returns-in_err-next-clause-files : goal.returns-in_err-next-clause-files
returns-in_err-next-clause-files g c = c.making.invariant.files

pub returns-in_err-file-clause-files : goal.returns-in_err-file-clause-files
returns-in_err-file-clause-files g c =
    below_then c.args.self.now.core.back.state.next_table (g.D.Watched.told c.args.self.now.disk)
    (g.D.Watched.told c.making.self.disk) (g.D.Watched.told c.fresh.new.self.disk) c.making.invariant.files
    c.making.invariant.tells
    (below_one c.args.self.now.core.back.state.next_table c.making.self.core.back.state.next_table
    (g.D.Watched.told c.making.self.disk) (g.D.Watched.told c.fresh.new.self.disk) c.fresh.ensures.files
    (drawn_above c.args.self.now.core c.making.self.core c.making.counter c.making.self.core.back.state.next_table
    c.making.invariant.draws.core refl))

pub returns-in_err-fill-clause-files : goal.returns-in_err-fill-clause-files
returns-in_err-fill-clause-files g c =
    below_then c.args.self.now.core.back.state.next_table (g.D.Watched.told c.args.self.now.disk)
    (g.D.Watched.told c.making.self.disk) (g.D.Watched.told c.fresh.new.self.disk) c.making.invariant.files
    c.making.invariant.tells
    (below_one c.args.self.now.core.back.state.next_table c.making.self.core.back.state.next_table
    (g.D.Watched.told c.making.self.disk) (g.D.Watched.told c.fresh.new.self.disk) c.fresh.ensures.files
    (drawn_above c.args.self.now.core c.making.self.core c.making.counter c.making.self.core.back.state.next_table
    c.making.invariant.draws.core refl))

pub returns-in_default-clause-files : goal.returns-in_default-clause-files
returns-in_default-clause-files g c = c.making.invariant.files

pub returns-clause-files : goal.returns-clause-files
returns-clause-files g c = c.making.invariant.files

-- what tells goes on telling

pub returns-in_err-reader-clause-tells : goal.returns-in_err-reader-clause-tells
returns-in_err-reader-clause-tells g c state is = (state, is)

pub returns-in_err-next-clause-tells : goal.returns-in_err-next-clause-tells
returns-in_err-next-clause-tells g c = c.making.invariant.tells

pub returns-in_err-file-clause-tells : goal.returns-in_err-file-clause-tells
returns-in_err-file-clause-tells g c =
    tells_then (g.D.Watched.told c.args.self.now.disk) (g.D.Watched.told c.making.self.disk)
    (g.D.Watched.told c.fresh.new.self.disk) c.making.invariant.tells
    (draw_tells g.D.Watched g.D.Writer.Writer c.making.self.core c.making.self.disk c.fresh.new.self.disk c.in_err-file.field-0.0
    c.in_err-file.ensures.untouched c.in_err-file.ensures.meanwhile)

pub returns-in_err-fill-clause-tells : goal.returns-in_err-fill-clause-tells
returns-in_err-fill-clause-tells g c =
    tells_then (g.D.Watched.told c.args.self.now.disk) (g.D.Watched.told c.making.self.disk)
    (g.D.Watched.told c.fresh.new.self.disk) c.making.invariant.tells
    (changed_tells (lent_new (Table c.in_ok-file.file.number)) (g.D.Watched.told c.making.self.disk)
    (g.D.Watched.told c.fresh.new.self.disk) c.in_ok-file.ensures.written)

pub returns-in_default-clause-tells : goal.returns-in_default-clause-tells
returns-in_default-clause-tells g c = c.making.invariant.tells

pub returns-clause-tells : goal.returns-clause-tells
returns-clause-tells g c = c.making.invariant.tells

-- which files were lent

pub returns-in_err-reader-clause-lends : goal.returns-in_err-reader-clause-lends
returns-in_err-reader-clause-lends g c = lends_none c.args.self.now.core.back.state.next_table c.args.self.now.merging

pub returns-in_err-next-clause-lends : goal.returns-in_err-next-clause-lends
returns-in_err-next-clause-lends g c = c.making.invariant.lends

pub returns-in_err-file-clause-lends : goal.returns-in_err-file-clause-lends
returns-in_err-file-clause-lends g c =
    lends_same c.args.self.now.core.back.state.next_table c.args.self.now.merging c.making.self.merging c.fresh.new.self.merging
    c.making.invariant.lends c.in_err-file.ensures.refused

pub returns-in_err-fill-clause-lends : goal.returns-in_err-fill-clause-lends
returns-in_err-fill-clause-lends g c =
    lends_more c.args.self.now.core.back.state.next_table c.in_ok-file.file.number c.args.self.now.merging
    c.making.self.merging c.fresh.new.self.merging c.making.invariant.lends c.in_ok-file.ensures.merging
    (drawn_above c.args.self.now.core c.making.self.core c.making.counter c.in_ok-file.file.number
    c.making.invariant.draws.core c.in_ok-file.ensures.number)

pub returns-in_default-clause-lends : goal.returns-in_default-clause-lends
returns-in_default-clause-lends g c = c.making.invariant.lends

pub returns-clause-lends : goal.returns-clause-lends
returns-clause-lends g c = c.making.invariant.lends

-- up to where its inputs were read

pub returns-in_err-next-clause-inputs : goal.returns-in_err-next-clause-inputs
returns-in_err-next-clause-inputs g c = kept_inputs c.making.job c.ready.new.self c.ready.ensures.kept ∙ c.making.invariant.inputs

pub returns-in_default-clause-inputs : goal.returns-in_default-clause-inputs
returns-in_default-clause-inputs g c = kept_inputs c.making.job c.ready.new.self c.ready.ensures.kept ∙ c.making.invariant.inputs

pub returns-in_err-file-clause-inputs : goal.returns-in_err-file-clause-inputs
returns-in_err-file-clause-inputs g c =
    same_inputs c.making.job c.ready.new.self c.fresh.new.job c.ready.ensures.kept c.fresh.ensures.job ∙ c.making.invariant.inputs

pub returns-in_err-fill-clause-inputs : goal.returns-in_err-fill-clause-inputs
returns-in_err-fill-clause-inputs g c =
    left_inputs g.D.Writer.Writer c.in_ok-file.file c.fresh.new.job c.fill.new.self c.in_err-fill.ensures.refused
    ∙ same_inputs c.making.job c.ready.new.self c.fresh.new.job c.ready.ensures.kept c.fresh.ensures.job ∙ c.making.invariant.inputs

pub returns-clause-inputs : goal.returns-clause-inputs
returns-clause-inputs g c = c.making.invariant.inputs

pub returns-in_err-next-clause-read : goal.returns-in_err-next-clause-read
returns-in_err-next-clause-read g c read = c.ready.ensures.read (c.making.invariant.read read)

pub returns-in_default-clause-read : goal.returns-in_default-clause-read
returns-in_default-clause-read g c read = c.ready.ensures.read (c.making.invariant.read read)

pub returns-in_err-file-clause-read : goal.returns-in_err-file-clause-read
returns-in_err-file-clause-read g c read =
    read_same c.ready.new.self c.fresh.new.job c.fresh.ensures.job g.D.Held.HeldFile.bytes
    (c.ready.ensures.read (c.making.invariant.read read))

pub returns-in_err-fill-clause-read : goal.returns-in_err-fill-clause-read
returns-in_err-fill-clause-read g c read =
    c.fill.ensures.read (read_same c.ready.new.self c.fresh.new.job c.fresh.ensures.job g.D.Held.HeldFile.bytes
    (c.ready.ensures.read (c.making.invariant.read read)))

pub returns-clause-read : goal.returns-clause-read
returns-clause-read g c = c.making.invariant.read

pub returns-in_default-clause-whole : goal.returns-in_default-clause-whole
returns-in_default-clause-whole g c read =
    read_whole g.D.Held.HeldFile.bytes c.ready.new.self (c.ready.ensures.read (c.making.invariant.read read))
    (subst (λ (o : Option _). IfNone o (c.ready.new.self.ended ≡ true)) c.in_default.is c.in_ok-next.ensures.ended)
