use Rattle.std.proofs.Common.{◌≡◌, ◌+◌, drop, get_or, refl, sym, subst, ◌∙◌}
use Rattle.std.specs.Prelude.{All, nat_lt}
use Rattle.std.proofs.lemmas.List.Elements.{All-nil}
use Rattle.std.proofs.lemmas.List.{drop_all, drop_more}
use Rattle.vl_disk.specs.Disk.{Stands}
use Rattle.vl_disk.specs.declared.name.Name.{Name}
use Rattle.vl_disk.specs.declared.name.Name.TheVariants.{Log}
use Rattle.vl_recover.specs.opening.Finding.{IsReadLog}
use Rattle.vl_recover.specs.opening.Results.{IsOneRun}
use Rattle.vl_recover.proofs.opening.FaultNames.{handed_on}
use Rattle.vl_recover.proofs.opening.Naming.{LogsToCome, all_to_come, next_come, none_come, not_come}
use Rattle.vl_recover.proofs.opening.ReadingLogs.{all_held, all_read, all_wait, follows, last_named, listed, none_read, one_read}
use Rattle.vl_recover.proofs.opening.Unmoved.{no_call, then_call}
use Rattle.vl_recover.proofs.logs.read_logs.Goals as goal

pub loop-name-init : goal.loop-name-init
loop-name-init g c = record {
  still = no_call g.D.Watched c.args.disk.now;
  come = all_to_come c.args.names.now c.args.head c.requires.rising;
  last = tt;
  runs = subst (All IsOneRun) (sym c.new.ensures.items) (All-nil IsOneRun);
  reads = λ state read told is.
      none_read read c.args.names.now (listed read state c.args.names.now is (c.requires.lists state told)) g.D.Held.HeldFile.bytes
      c.args.lower.items c.args.head
      c.args.covered _ refl c.new.ensures.items c.new-2.ensures.items refl refl;
}

pub loop-name-preserved-in_default : goal.loop-name-preserved-in_default
loop-name-preserved-in_default g c =
    let names = c.args.names.now in
    let i = c.loop-name.name-index in
    let so = c.loop-name.invariant in
    record {
      still = so.still;
      come = not_come names c.loop-name.least (get_or names i (Log 0)) (drop (i + 1) names)
          (subst (LogsToCome names c.loop-name.least) (drop_more names i (Log 0) c.loop-name-test.true) so.come)
          (sym c.log_from.ensures ∙ c.in_default.is);
      last = so.last;
      runs = so.runs;
      reads = so.reads;
    }

pub loop-name-preserved : goal.loop-name-preserved
loop-name-preserved g c =
    let names = c.args.names.now in
    let i = c.loop-name.name-index in
    let so = c.loop-name.invariant in
    let next = next_come names c.loop-name.least (get_or names i (Log 0)) c.in-Some.number (drop (i + 1) names)
    (subst (LogsToCome names c.loop-name.least) (drop_more names i (Log 0) c.loop-name-test.true) so.come)
    (sym c.log_from.ensures ∙ c.in-Some.is) in
    record {
      still = then_call g.D.Watched c.args.disk.now c.loop-name.disk c.with_next.new.disk ⊥ so.still c.in_ok-so_far.ensures.no_change;
      come = next.come;
      last = last_named names c.in-Some.number c.in_ok-so_far.so_far.last next.first.0.0 c.in_ok-so_far.ensures.last;
      runs = c.in_ok-so_far.ensures.runs so.runs;
      reads = λ state read told is.
          one_read read names (listed read state names is (c.requires.lists state told)) g.D.Held.HeldFile.bytes c.args.lower.items
          c.args.head c.args.covered c.loop-name.least c.in-Some.number
          (nat_lt c.in-Some.number c.args.greatest) c.loop-name.so_far c.in_ok-so_far.so_far (so.reads state read told is) next.first
          (follows names c.in-Some.number c.args.greatest c.requires.greatest (nat_lt c.in-Some.number c.args.greatest) refl)
          (c.in_ok-so_far.ensures.reads state read (so.still.told ∙ told) is);
    }

pub returns-clause-reads : goal.returns-clause-reads
returns-clause-reads g c = λ state read told is.
    let names = c.args.names.now in
    let so = c.loop-name.invariant in
    all_read read names (listed read state names is (c.requires.lists state told)) g.D.Held.HeldFile.bytes c.args.lower.items c.args.head
    c.args.covered
    c.loop-name.least c.loop-name.so_far (so.reads state read told is)
    (none_come names c.loop-name.least (subst (LogsToCome names c.loop-name.least)
    (drop_all c.loop-name.name-index names c.loop-name-test.false) so.come))

pub returns-clause-waiting : goal.returns-clause-waiting
returns-clause-waiting g c = λ state read logs number told is standing walk.
    let names = c.args.names.now in
    let so = c.loop-name.invariant in
    all_wait read names (listed read state names is (c.requires.lists state told)) g.D.Held.HeldFile.bytes c.args.lower.items c.args.head
    c.args.covered
    c.loop-name.least c.loop-name.so_far (so.reads state read told is)
    (none_come names c.loop-name.least (subst (LogsToCome names c.loop-name.least)
    (drop_all c.loop-name.name-index names c.loop-name-test.false) so.come))
    logs standing number walk

pub returns-clause-held : goal.returns-clause-held
returns-clause-held g c = λ state read logs told is standing.
    let names = c.args.names.now in
    let so = c.loop-name.invariant in
    all_held read names (listed read state names is (c.requires.lists state told)) g.D.Held.HeldFile.bytes c.args.lower.items c.args.head
    c.args.covered
    c.loop-name.least c.loop-name.so_far (so.reads state read told is)
    (none_come names c.loop-name.least (subst (LogsToCome names c.loop-name.least)
    (drop_all c.loop-name.name-index names c.loop-name-test.false) so.come))
    logs standing

pub returns-in_err-so_far-clause-at : goal.returns-in_err-so_far-clause-at
returns-in_err-so_far-clause-at g c =
    let names = c.args.names.now in
    let i = c.loop-name.name-index in
    let next = next_come names c.loop-name.least (get_or names i (Log 0)) c.in-Some.number (drop (i + 1) names)
    (subst (LogsToCome names c.loop-name.least) (drop_more names i (Log 0) c.loop-name-test.true) c.loop-name.invariant.come)
    (sym c.log_from.ensures ∙ c.in-Some.is) in
    handed_on c.with_next.result c.in_err-so_far.field-0.0 c.from_residual.result (λ at. at ≡ Log c.in-Some.number)
    (IsReadLog (g.D.Watched.told c.args.disk.now)) c.in_err-so_far.was c.from_residual.ensures.0 c.from_residual.ensures.1
    (λ name is. record {
      number = c.in-Some.number;
      is = is;
      stands = λ state told. subst (λ (n : Name). Stands n state) (sym is)
          (((c.requires.lists state told).all (Log c.in-Some.number)).0 next.first.0.0);
    }) c.with_next.ensures.at

pub returns-clause-runs : goal.returns-clause-runs
returns-clause-runs g c = c.loop-name.invariant.runs
