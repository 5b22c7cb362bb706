-- The commit is answered as the ruling on it has it, and carried out so.
use Rattle.std.specs.Prelude.{Ok, Err, None, Option}
use Rattle.std.proofs.Common.{◌≡◌, ap, refl, subst, sym, ◌∙◌}
use Rattle.vl_engine_laws.specs.Represents as engine
use Rattle.vl_engine_model.specs.Rulings.Commit as rulings
use Rattle.vl_engine_model.specs.Rulings.Commit.{commit_lost, commit_ruling}
use Rattle.vl_engine_model.specs.Store.Reading.{commit_by}
use Rattle.vl_engine_model.specs.Store.Lines.{Unknown}
use Rattle.vl_engine_model.specs.Store.Things.{Thing, only, thing_of}
use Rattle.vl_model.specs.declared.counter.Counter.TheVariants as counters
use Rattle.vl_script_model.specs.Sequential.{history_of}
use Rattle.vl_replay_laws.specs.laws.Names.CommitMaking.{conflict_makes, decided_so, exhausted_makes, full_makes, never_halted}
use Rattle.vl_replay_laws.specs.laws.Names.CommitMaking.{failed_so, handed_so, nothing_makes, number_makes, outcome_done, outcome_fail}
use Rattle.vl_script_model.specs.declared.fails.Halt.TheVariants as halts
use Rattle.vl_script.specs.declared.answer.Answer.TheVariants as answers
use Rattle.vl_replay_laws.specs.laws.Disk.Carried.{quiet_carries}
use Rattle.vl_replay_laws.specs.laws.Disk.Committed.{answered_carries, carries_short, failed_carries, halted_carries}
use Rattle.vl_replay_laws.specs.laws.Disk.Committed.{only_keeps, short_carries}
use Rattle.vl_replay_laws.specs.laws.Names.Making.{its, itself, nothing_there}
use Rattle.vl_replay_laws.specs.laws.Names.Serving.{Serves, decides_all, represents}
use Rattle.vl_replay_laws.specs.laws.Names.Returning.{read_only_returns, returns_so, taken_as, taken_out, unknown_returns}
use Rattle.vl_space.specs.Removing.{Removes}
use Rattle.vl_replay_laws.specs.laws.Lines.Ruled.{committed_layout}
use Rattle.vl_script_model.specs.laws.Halting.{err_reads_well}
use Rattle.vl_reads.specs.declared.txn.Txn.{Txn}
use Rattle.vl_replay_laws.specs.declared.open.Thing.TheVariants.{Transaction, View}
use Rattle.vl_replay_laws.specs.laws.Names.Unfailing.{back_reads, same_reads, taken_reads}
use Rattle.vl_replay.proofs.replayer.Served.commit.Goals as goal

pub returns-in-None-clause-makes : goal.returns-in-None-clause-makes
returns-in-None-clause-makes g c s stands =
    unknown_returns g.D.Held.HeldFile.bytes _ c.args.self.now.engine.core c.args.self.now.opens.items
    c.take_out.new.opens.items s stands
    c.as_slice.result.now c.args.name c.as_slice.ensures c.in-None.ensures (commit_by s.store c.args.name) refl (λ job made. refl)
    (λ pass batch. refl)

pub returns-in-Some-View-clause-makes : goal.returns-in-Some-View-clause-makes
returns-in-Some-View-clause-makes g c s stands =
    read_only_returns g.D.Held.HeldFile.bytes _ c.args.self.now.engine.core c.args.self.now.opens.items
    c.take_out.new.opens.items s stands
    c.as_slice.result.now c.args.name c.as_slice.ensures c.in-Some-View.view c.put.new.opens.items _
    c.in-Some-View.field-0-is c.in-Some-View.ensures
    c.in_ok-put-in-Some-View.ensures
    (commit_by s.store c.args.name) (λ v b. refl)

pub returns-in-Ok-At-clause-makes : goal.returns-in-Ok-At-clause-makes
returns-in-Ok-At-clause-makes g c s stands =
    let bytes = g.D.Held.HeldFile.bytes in
    let seen = g.D.Watched.told c.args.self.now.engine.disk in
    let core = c.args.self.now.engine.core in
    let now = g.D.Watched.told c.commit.new.self.disk in
    let then = c.commit.new.self.core in
    let os = c.args.self.now.opens.items in
    let left = c.take_out.new.opens.items in
    let txn = c.in-Some-Transaction.txn in
    let taken = taken_out bytes seen core os left s stands c.as_slice.result.now c.args.name c.as_slice.ensures _ _
    c.in-Some-Transaction.field-0-is c.in-Some-Transaction.ensures in
    let (t, b, there, is, began) = itself bytes seen core os s stands left c.args.name txn taken in
    number_makes bytes seen now core then os s stands c.commit.ensures.steps left c.args.name txn taken t b there is _ _
    c.in-Ok-At.number
    (decided_so txn bytes (Serves bytes now s.openable then) (history_of s) s.store.layout t is _ _ (rulings.At c.in-Ok-At.number)
    (outcome_done txn _ _ c.in-Ok-At.field-0-is)
    (decides_all bytes now s.openable then (history_of s) s.store.layout _ _ _ _
    (c.in-Ok-At.ensures.stands (history_of s) s.store.layout t.reads stands.engine is.live is.sees.notes)
    (c.in-Ok-At.ensures.fits (history_of s) s.store.layout t.reads stands.engine stands.fits is.live is.sees.notes)
    (λ openable. (c.in-Ok-At.ensures.carries (history_of s) s.store.layout t.reads (represents bytes seen core os s stands openable)
    is.live is.sees.notes).decides)))

pub returns-in-Ok-Nothing-clause-makes : goal.returns-in-Ok-Nothing-clause-makes
returns-in-Ok-Nothing-clause-makes g c s stands =
    let bytes = g.D.Held.HeldFile.bytes in
    let seen = g.D.Watched.told c.args.self.now.engine.disk in
    let core = c.args.self.now.engine.core in
    let now = g.D.Watched.told c.commit.new.self.disk in
    let then = c.commit.new.self.core in
    let os = c.args.self.now.opens.items in
    let left = c.take_out.new.opens.items in
    let txn = c.in-Some-Transaction.txn in
    let taken = taken_out bytes seen core os left s stands c.as_slice.result.now c.args.name c.as_slice.ensures _ _
    c.in-Some-Transaction.field-0-is c.in-Some-Transaction.ensures in
    let (t, b, there, is, began) = itself bytes seen core os s stands left c.args.name txn taken in
    nothing_makes bytes seen now core then os s stands c.commit.ensures.steps left c.args.name txn taken t b there is _ _
    (decided_so txn bytes (Serves bytes now s.openable then) (history_of s) s.store.layout t is _ _ rulings.Nothing
    (outcome_done txn _ _ c.in-Ok-Nothing.field-0-is)
    (decides_all bytes now s.openable then (history_of s) s.store.layout _ _ _ _
    (c.in-Ok-Nothing.ensures.stands (history_of s) s.store.layout t.reads stands.engine is.live is.sees.notes)
    (c.in-Ok-Nothing.ensures.fits (history_of s) s.store.layout t.reads stands.engine stands.fits is.live is.sees.notes)
    (λ openable. (c.in-Ok-Nothing.ensures.carries (history_of s) s.store.layout t.reads (represents bytes seen core os s stands openable)
    is.live is.sees.notes).decides)))

pub returns-in-Err-Conflict-clause-makes : goal.returns-in-Err-Conflict-clause-makes
returns-in-Err-Conflict-clause-makes g c s stands =
    let bytes = g.D.Held.HeldFile.bytes in
    let seen = g.D.Watched.told c.args.self.now.engine.disk in
    let core = c.args.self.now.engine.core in
    let now = g.D.Watched.told c.commit.new.self.disk in
    let then = c.commit.new.self.core in
    let os = c.args.self.now.opens.items in
    let left = c.take_out.new.opens.items in
    let txn = c.in-Some-Transaction.txn in
    let taken = taken_out bytes seen core os left s stands c.as_slice.result.now c.args.name c.as_slice.ensures _ _
    c.in-Some-Transaction.field-0-is c.in-Some-Transaction.ensures in
    let (t, b, there, is, began) = itself bytes seen core os s stands left c.args.name txn taken in
    conflict_makes bytes seen now core then os s stands c.commit.ensures.steps left c.args.name txn taken t b there is _ _
    c.in-Err-Conflict.key c.in-Err-Conflict.number
    (decided_so txn bytes (Serves bytes now s.openable then) (history_of s) s.store.layout t is _ _
    (rulings.Conflict c.in-Err-Conflict.key c.in-Err-Conflict.number)
    (outcome_fail txn _ _ c.in-Err-Conflict.field-0-is)
    (decides_all bytes now s.openable then (history_of s) s.store.layout _ _ _ _
    (c.in-Err-Conflict.ensures.stands (history_of s) s.store.layout t.reads stands.engine is.live is.sees.notes)
    (c.in-Err-Conflict.ensures.fits (history_of s) s.store.layout t.reads stands.engine stands.fits is.live is.sees.notes)
    (λ openable. (c.in-Err-Conflict.ensures.carries (history_of s) s.store.layout t.reads (represents bytes seen core os s stands openable)
    is.live is.sees.notes).decides)))

pub returns-in-Err-Exhausted-clause-makes : goal.returns-in-Err-Exhausted-clause-makes
returns-in-Err-Exhausted-clause-makes g c s stands =
    let bytes = g.D.Held.HeldFile.bytes in
    let seen = g.D.Watched.told c.args.self.now.engine.disk in
    let core = c.args.self.now.engine.core in
    let now = g.D.Watched.told c.commit.new.self.disk in
    let then = c.commit.new.self.core in
    let os = c.args.self.now.opens.items in
    let left = c.take_out.new.opens.items in
    let txn = c.in-Some-Transaction.txn in
    let taken = taken_out bytes seen core os left s stands c.as_slice.result.now c.args.name c.as_slice.ensures _ _
    c.in-Some-Transaction.field-0-is c.in-Some-Transaction.ensures in
    let (t, b, there, is, began) = itself bytes seen core os s stands left c.args.name txn taken in
    returns_so bytes now then _ c.put-in-Err-Exhausted.new.opens.items s
    (commit_by s.store c.args.name (thing_of s.store c.args.name))
    (commit_by s.store c.args.name (thing_of s.store c.args.name))
    (Ok (answers.Exhausted counters.Commit)) (Ok (answers.Exhausted counters.Commit))
    c.in_ok-put-in-Err-Exhausted.ensures refl refl
    (exhausted_makes bytes seen now core then os s stands c.commit.ensures.steps left c.args.name txn taken t b there is _ _
    c.in-Err-Exhausted.txn
    (c.in-Err-Exhausted.ensures.back c.in-Err-Exhausted.txn (handed_so txn _ _ c.in-Err-Exhausted.field-0-is)) counters.Commit
    (decided_so txn bytes (Serves bytes now s.openable then) (history_of s) s.store.layout t is _ _ (rulings.Exhausted counters.Commit)
    (outcome_fail txn _ _ c.in-Err-Exhausted.field-0-is)
    (decides_all bytes now s.openable then (history_of s) s.store.layout _ _ _ _
    (c.in-Err-Exhausted.ensures.stands (history_of s) s.store.layout t.reads stands.engine is.live is.sees.notes)
    (c.in-Err-Exhausted.ensures.fits (history_of s) s.store.layout t.reads stands.engine stands.fits is.live is.sees.notes)
    (λ openable. (c.in-Err-Exhausted.ensures.carries (history_of s) s.store.layout t.reads (represents bytes seen core os s stands openable)
    is.live is.sees.notes).decides))))

pub returns-in-Err-Full-clause-makes : goal.returns-in-Err-Full-clause-makes
returns-in-Err-Full-clause-makes g c s stands =
    let bytes = g.D.Held.HeldFile.bytes in
    let seen = g.D.Watched.told c.args.self.now.engine.disk in
    let core = c.args.self.now.engine.core in
    let now = g.D.Watched.told c.commit.new.self.disk in
    let then = c.commit.new.self.core in
    let os = c.args.self.now.opens.items in
    let left = c.take_out.new.opens.items in
    let txn = c.in-Some-Transaction.txn in
    let taken = taken_out bytes seen core os left s stands c.as_slice.result.now c.args.name c.as_slice.ensures _ _
    c.in-Some-Transaction.field-0-is c.in-Some-Transaction.ensures in
    let (t, b, there, is, began) = itself bytes seen core os s stands left c.args.name txn taken in
    returns_so bytes now then _ c.put-in-Err-Full.new.opens.items s
    (commit_by s.store c.args.name (thing_of s.store c.args.name))
    (commit_by s.store c.args.name (thing_of s.store c.args.name))
    (Ok answers.Full) (Ok answers.Full) c.in_ok-put-in-Err-Full.ensures refl refl
    (full_makes bytes seen now core then os s stands c.commit.ensures.steps left c.args.name txn taken t b there is _ _
    c.in-Err-Full.txn
    (c.in-Err-Full.ensures.back c.in-Err-Full.txn (handed_so txn _ _ c.in-Err-Full.field-0-is))
    c.in-Err-Full.field-0-1 c.in-Err-Full.field-0-2
    (decided_so txn bytes (Serves bytes now s.openable then) (history_of s) s.store.layout t is _ _
    (rulings.Full c.in-Err-Full.field-0-1 c.in-Err-Full.field-0-2)
    (outcome_fail txn _ _ c.in-Err-Full.field-0-is)
    (decides_all bytes now s.openable then (history_of s) s.store.layout _ _ _ _
    (c.in-Err-Full.ensures.stands (history_of s) s.store.layout t.reads stands.engine is.live is.sees.notes)
    (c.in-Err-Full.ensures.fits (history_of s) s.store.layout t.reads stands.engine stands.fits is.live is.sees.notes)
    (λ openable. (c.in-Err-Full.ensures.carries (history_of s) s.store.layout t.reads (represents bytes seen core os s stands openable)
    is.live is.sees.notes).decides))))

pub returns-clause-sound : goal.returns-clause-sound
returns-clause-sound g c s stands halts =
    let bytes = g.D.Held.HeldFile.bytes in
    let seen = g.D.Watched.told c.args.self.now.engine.disk in
    let core = c.args.self.now.engine.core in
    let now = g.D.Watched.told c.commit.new.self.disk in
    let then = c.commit.new.self.core in
    let os = c.args.self.now.opens.items in
    let left = c.take_out.new.opens.items in
    let txn = c.in-Some-Transaction.txn in
    let taken = taken_out bytes seen core os left s stands c.as_slice.result.now c.args.name c.as_slice.ensures _ _
    c.in-Some-Transaction.field-0-is c.in-Some-Transaction.ensures in
    let (t, b, there, is, began) = itself bytes seen core os s stands left c.args.name txn taken in
    never_halted bytes seen now core then os s stands c.commit.ensures.steps left c.args.name txn taken t b there is _ _ _
    (decided_so txn bytes (Serves bytes now s.openable then) (history_of s) s.store.layout t is _ _
    (rulings.Halted (engine.file_of c.in-Err-Halted.file))
    (outcome_fail txn _ _ c.in-Err-Halted.field-0-is)
    (decides_all bytes now s.openable then (history_of s) s.store.layout _ _ _ _
    (c.in-Err-Halted.ensures.stands (history_of s) s.store.layout t.reads stands.engine is.live is.sees.notes)
    (c.in-Err-Halted.ensures.fits (history_of s) s.store.layout t.reads stands.engine stands.fits is.live is.sees.notes)
    (λ openable. (c.in-Err-Halted.ensures.carries (history_of s) s.store.layout t.reads (represents bytes seen core os s stands openable)
    is.live is.sees.notes).decides)))

-- ---- the disk

pub returns-in-None-clause-carries : goal.returns-in-None-clause-carries
returns-in-None-clause-carries g c s stands =
    let bytes = g.D.Held.HeldFile.bytes in
    let seen = g.D.Watched.told c.args.self.now.engine.disk in
    let core = c.args.self.now.engine.core in
    let os = c.args.self.now.opens.items in
    let left = c.take_out.new.opens.items in
    let taken = taken_as bytes seen core os left s stands c.as_slice.result.now c.args.name c.as_slice.ensures _
    c.in-None.ensures in
    quiet_carries g.D.Watched (record { only_now = g.met.D.Disk.only_now; counts_now = g.met.D.Disk.counts_now }) bytes
    seen core left s
    (commit_by s.store c.args.name (thing_of s.store c.args.name))
    (only_keeps s.store _ _ (nothing_there bytes seen core os s stands left c.args.name taken
    (λ (o : Option Thing). commit_by s.store c.args.name o ≡ only (Unknown c.args.name) s.store) refl (λ job made. refl)
    (λ pass batch. refl)))
    _ (returns-in-None-clause-makes g c s stands) (λ halts. halts) c.args.self.now.engine.disk c.args.self.now.engine.disk refl

pub returns-in-Some-View-clause-carries : goal.returns-in-Some-View-clause-carries
returns-in-Some-View-clause-carries g c s stands =
    let bytes = g.D.Held.HeldFile.bytes in
    let seen = g.D.Watched.told c.args.self.now.engine.disk in
    let core = c.args.self.now.engine.core in
    let os = c.args.self.now.opens.items in
    let left = c.take_out.new.opens.items in
    let taken = taken_out bytes seen core os left s stands c.as_slice.result.now c.args.name c.as_slice.ensures _ _
    c.in-Some-View.field-0-is c.in-Some-View.ensures in
    quiet_carries g.D.Watched (record { only_now = g.met.D.Disk.only_now; counts_now = g.met.D.Disk.counts_now }) bytes
    seen core c.put.new.opens.items s
    (commit_by s.store c.args.name (thing_of s.store c.args.name))
    (only_keeps s.store _ _ (ap (commit_by s.store c.args.name)
    (its bytes seen core os s stands left c.args.name c.in-Some-View.view taken).1))
    _ (returns-in-Some-View-clause-makes g c s stands) (λ halts. halts) c.args.self.now.engine.disk c.args.self.now.engine.disk refl

pub returns-in-Ok-At-clause-carries : goal.returns-in-Ok-At-clause-carries
returns-in-Ok-At-clause-carries g c s stands =
    let bytes = g.D.Held.HeldFile.bytes in
    let seen = g.D.Watched.told c.args.self.now.engine.disk in
    let core = c.args.self.now.engine.core in
    let now = g.D.Watched.told c.commit.new.self.disk in
    let then = c.commit.new.self.core in
    let os = c.args.self.now.opens.items in
    let left = c.take_out.new.opens.items in
    let txn = c.in-Some-Transaction.txn in
    let taken = taken_out bytes seen core os left s stands c.as_slice.result.now c.args.name c.as_slice.ensures _ _
    c.in-Some-Transaction.field-0-is c.in-Some-Transaction.ensures in
    let (t, b, there, is, began) = itself bytes seen core os s stands left c.args.name txn taken in
    answered_carries g.D.Watched bytes core then c.args.self.now.engine.disk c.commit.new.self.disk os s stands
    c.commit.ensures.steps c.args.name txn t b there is _ _
    (λ represents. c.in-Ok-At.ensures.carries (history_of s) s.store.layout t.reads represents is.live is.sees.notes)
    c.commit.ensures.files (rulings.At c.in-Ok-At.number) (outcome_done txn _ _ c.in-Ok-At.field-0-is) _

pub returns-in-Ok-Nothing-clause-carries : goal.returns-in-Ok-Nothing-clause-carries
returns-in-Ok-Nothing-clause-carries g c s stands =
    let bytes = g.D.Held.HeldFile.bytes in
    let seen = g.D.Watched.told c.args.self.now.engine.disk in
    let core = c.args.self.now.engine.core in
    let now = g.D.Watched.told c.commit.new.self.disk in
    let then = c.commit.new.self.core in
    let os = c.args.self.now.opens.items in
    let left = c.take_out.new.opens.items in
    let txn = c.in-Some-Transaction.txn in
    let taken = taken_out bytes seen core os left s stands c.as_slice.result.now c.args.name c.as_slice.ensures _ _
    c.in-Some-Transaction.field-0-is c.in-Some-Transaction.ensures in
    let (t, b, there, is, began) = itself bytes seen core os s stands left c.args.name txn taken in
    answered_carries g.D.Watched bytes core then c.args.self.now.engine.disk c.commit.new.self.disk os s stands
    c.commit.ensures.steps c.args.name txn t b there is _ _
    (λ represents. c.in-Ok-Nothing.ensures.carries (history_of s) s.store.layout t.reads represents is.live is.sees.notes)
    c.commit.ensures.files rulings.Nothing (outcome_done txn _ _ c.in-Ok-Nothing.field-0-is) _

pub returns-in-Err-Conflict-clause-carries : goal.returns-in-Err-Conflict-clause-carries
returns-in-Err-Conflict-clause-carries g c s stands =
    let bytes = g.D.Held.HeldFile.bytes in
    let seen = g.D.Watched.told c.args.self.now.engine.disk in
    let core = c.args.self.now.engine.core in
    let now = g.D.Watched.told c.commit.new.self.disk in
    let then = c.commit.new.self.core in
    let os = c.args.self.now.opens.items in
    let left = c.take_out.new.opens.items in
    let txn = c.in-Some-Transaction.txn in
    let taken = taken_out bytes seen core os left s stands c.as_slice.result.now c.args.name c.as_slice.ensures _ _
    c.in-Some-Transaction.field-0-is c.in-Some-Transaction.ensures in
    let (t, b, there, is, began) = itself bytes seen core os s stands left c.args.name txn taken in
    answered_carries g.D.Watched bytes core then c.args.self.now.engine.disk c.commit.new.self.disk os s stands
    c.commit.ensures.steps c.args.name txn t b there is _ _
    (λ represents. c.in-Err-Conflict.ensures.carries (history_of s) s.store.layout t.reads represents is.live is.sees.notes)
    c.commit.ensures.files
    (rulings.Conflict c.in-Err-Conflict.key c.in-Err-Conflict.number) (outcome_fail txn _ _ c.in-Err-Conflict.field-0-is) _

pub returns-in-Err-Exhausted-clause-carries : goal.returns-in-Err-Exhausted-clause-carries
returns-in-Err-Exhausted-clause-carries g c s stands =
    let bytes = g.D.Held.HeldFile.bytes in
    let seen = g.D.Watched.told c.args.self.now.engine.disk in
    let core = c.args.self.now.engine.core in
    let now = g.D.Watched.told c.commit.new.self.disk in
    let then = c.commit.new.self.core in
    let os = c.args.self.now.opens.items in
    let left = c.take_out.new.opens.items in
    let txn = c.in-Some-Transaction.txn in
    let taken = taken_out bytes seen core os left s stands c.as_slice.result.now c.args.name c.as_slice.ensures _ _
    c.in-Some-Transaction.field-0-is c.in-Some-Transaction.ensures in
    let (t, b, there, is, began) = itself bytes seen core os s stands left c.args.name txn taken in
    answered_carries g.D.Watched bytes core then c.args.self.now.engine.disk c.commit.new.self.disk os s stands
    c.commit.ensures.steps c.args.name txn t b there is _ _
    (λ represents. c.in-Err-Exhausted.ensures.carries (history_of s) s.store.layout t.reads represents is.live is.sees.notes)
    c.commit.ensures.files (rulings.Exhausted counters.Commit) (outcome_fail txn _ _ c.in-Err-Exhausted.field-0-is) _

pub returns-in-Err-Full-clause-carries : goal.returns-in-Err-Full-clause-carries
returns-in-Err-Full-clause-carries g c s stands =
    let bytes = g.D.Held.HeldFile.bytes in
    let seen = g.D.Watched.told c.args.self.now.engine.disk in
    let core = c.args.self.now.engine.core in
    let now = g.D.Watched.told c.commit.new.self.disk in
    let then = c.commit.new.self.core in
    let os = c.args.self.now.opens.items in
    let left = c.take_out.new.opens.items in
    let txn = c.in-Some-Transaction.txn in
    let taken = taken_out bytes seen core os left s stands c.as_slice.result.now c.args.name c.as_slice.ensures _ _
    c.in-Some-Transaction.field-0-is c.in-Some-Transaction.ensures in
    let (t, b, there, is, began) = itself bytes seen core os s stands left c.args.name txn taken in
    answered_carries g.D.Watched bytes core then c.args.self.now.engine.disk c.commit.new.self.disk os s stands
    c.commit.ensures.steps c.args.name txn t b there is _ _
    (λ represents. c.in-Err-Full.ensures.carries (history_of s) s.store.layout t.reads represents is.live is.sees.notes)
    c.commit.ensures.files
    (rulings.Full c.in-Err-Full.field-0-1 c.in-Err-Full.field-0-2) (outcome_fail txn _ _ c.in-Err-Full.field-0-is) _

pub returns-in-Err-NoMemory-clause-carries : goal.returns-in-Err-NoMemory-clause-carries
returns-in-Err-NoMemory-clause-carries g c s stands =
    let bytes = g.D.Held.HeldFile.bytes in
    let seen = g.D.Watched.told c.args.self.now.engine.disk in
    let core = c.args.self.now.engine.core in
    let now = g.D.Watched.told c.commit.new.self.disk in
    let then = c.commit.new.self.core in
    let os = c.args.self.now.opens.items in
    let left = c.take_out.new.opens.items in
    let txn = c.in-Some-Transaction.txn in
    let taken = taken_out bytes seen core os left s stands c.as_slice.result.now c.args.name c.as_slice.ensures _ _
    c.in-Some-Transaction.field-0-is c.in-Some-Transaction.ensures in
    let (t, b, there, is, began) = itself bytes seen core os s stands left c.args.name txn taken in
    short_carries g.D.Watched bytes core then c.args.self.now.engine.disk c.commit.new.self.disk os s stands
    c.commit.ensures.steps c.args.name txn t b there is _ _
    (λ represents. c.in-Err-NoMemory.ensures.carries (history_of s) s.store.layout t.reads represents is.live is.sees.notes)
    c.commit.ensures.files ((rw c.in-Err-NoMemory.field-0-is at c.in-Err-NoMemory.ensures.untouched) tt)

pub returns-in-Err-Disk-clause-carries : goal.returns-in-Err-Disk-clause-carries
returns-in-Err-Disk-clause-carries g c s stands =
    let bytes = g.D.Held.HeldFile.bytes in
    let seen = g.D.Watched.told c.args.self.now.engine.disk in
    let core = c.args.self.now.engine.core in
    let now = g.D.Watched.told c.commit.new.self.disk in
    let then = c.commit.new.self.core in
    let os = c.args.self.now.opens.items in
    let left = c.take_out.new.opens.items in
    let txn = c.in-Some-Transaction.txn in
    let taken = taken_out bytes seen core os left s stands c.as_slice.result.now c.args.name c.as_slice.ensures _ _
    c.in-Some-Transaction.field-0-is c.in-Some-Transaction.ensures in
    let (t, b, there, is, began) = itself bytes seen core os s stands left c.args.name txn taken in
    failed_carries g.D.Watched bytes core then c.args.self.now.engine.disk c.commit.new.self.disk os s stands
    c.commit.ensures.steps c.args.name txn t b there is _ _
    (λ represents. c.in-Err-Disk.ensures.carries (history_of s) s.store.layout t.reads represents is.live is.sees.notes)
    c.commit.ensures.files
    (c.in-Err-Disk.ensures.failed (history_of s) s.store.layout t.reads stands.engine.fronts is.live is.sees.notes
    (failed_so txn _ _ c.in-Err-Disk.field-0-is))
    _
    (λ clean. c.in-Err-Disk.ensures.stopped (history_of s) s.store.layout stands.engine.fronts clean
    (failed_so txn _ _ c.in-Err-Disk.field-0-is))

pub returns-clause-carries : goal.returns-clause-carries
returns-clause-carries g c s stands =
    let bytes = g.D.Held.HeldFile.bytes in
    let seen = g.D.Watched.told c.args.self.now.engine.disk in
    let core = c.args.self.now.engine.core in
    let now = g.D.Watched.told c.commit.new.self.disk in
    let then = c.commit.new.self.core in
    let os = c.args.self.now.opens.items in
    let left = c.take_out.new.opens.items in
    let txn = c.in-Some-Transaction.txn in
    let taken = taken_out bytes seen core os left s stands c.as_slice.result.now c.args.name c.as_slice.ensures _ _
    c.in-Some-Transaction.field-0-is c.in-Some-Transaction.ensures in
    let (t, b, there, is, began) = itself bytes seen core os s stands left c.args.name txn taken in
    halted_carries g.D.Watched bytes core then c.args.self.now.engine.disk c.commit.new.self.disk os s stands
    c.commit.ensures.steps c.args.name txn t b there is _ _
    (λ represents. c.in-Err-Halted.ensures.carries (history_of s) s.store.layout t.reads represents is.live is.sees.notes)
    c.commit.ensures.files _ (returns-clause-sound g c s stands tt)

-- ---- the file at which it failed

pub returns-in-Err-Disk-clause-named : goal.returns-in-Err-Disk-clause-named
returns-in-Err-Disk-clause-named g c s file stands failed =
    let same : c.in-Err-Disk.file ≡ file = cc in
    sym same ∙ c.in-Err-Disk.ensures.named (history_of s) s.store.layout c.in-Err-Disk.file stands.engine.fronts
    (ap Err c.in-Err-Disk.field-0-is)

-- ---- no memory to put it back

pub returns-in_err-put-in-Some-View-clause-carries : goal.returns-in_err-put-in-Some-View-clause-carries
returns-in_err-put-in-Some-View-clause-carries g c s stands =
    let bytes = g.D.Held.HeldFile.bytes in
    let seen = g.D.Watched.told c.args.self.now.engine.disk in
    let core = c.args.self.now.engine.core in
    let os = c.args.self.now.opens.items in
    let left = c.take_out.new.opens.items in
    let taken = taken_out bytes seen core os left s stands c.as_slice.result.now c.args.name c.as_slice.ensures _ _
    c.in-Some-View.field-0-is c.in-Some-View.ensures in
    carries_short g.D.Watched _ _ s _ _ c.from_residual.ensures.1
    (quiet_carries g.D.Watched (record { only_now = g.met.D.Disk.only_now; counts_now = g.met.D.Disk.counts_now }) bytes seen core left s
    (commit_by s.store c.args.name (thing_of s.store c.args.name))
    (only_keeps s.store _ _ (ap (commit_by s.store c.args.name)
    (its bytes seen core os s stands left c.args.name c.in-Some-View.view taken).1))
    (Err halts.NoMemory) tt (λ by. by) c.args.self.now.engine.disk c.args.self.now.engine.disk refl)

pub returns-in_err-put-in-Err-Exhausted-clause-carries : goal.returns-in_err-put-in-Err-Exhausted-clause-carries
returns-in_err-put-in-Err-Exhausted-clause-carries g c s stands =
    let bytes = g.D.Held.HeldFile.bytes in
    let seen = g.D.Watched.told c.args.self.now.engine.disk in
    let core = c.args.self.now.engine.core in
    let now = g.D.Watched.told c.commit.new.self.disk in
    let then = c.commit.new.self.core in
    let os = c.args.self.now.opens.items in
    let left = c.take_out.new.opens.items in
    let txn = c.in-Some-Transaction.txn in
    let taken = taken_out bytes seen core os left s stands c.as_slice.result.now c.args.name c.as_slice.ensures _ _
    c.in-Some-Transaction.field-0-is c.in-Some-Transaction.ensures in
    let (t, b, there, is, began) = itself bytes seen core os s stands left c.args.name txn taken in
    carries_short g.D.Watched _ _ s _ _ c.from_residual-in_err-put-in-Err-Exhausted.ensures.1
    (short_carries g.D.Watched bytes core then c.args.self.now.engine.disk c.commit.new.self.disk os s stands
    c.commit.ensures.steps c.args.name txn t b there is _ _
    (λ represents. c.in-Err-Exhausted.ensures.carries (history_of s) s.store.layout t.reads represents is.live is.sees.notes)
    c.commit.ensures.files ((rw c.in-Err-Exhausted.field-0-is at c.in-Err-Exhausted.ensures.untouched) tt))

pub returns-in_err-put-in-Err-Full-clause-carries : goal.returns-in_err-put-in-Err-Full-clause-carries
returns-in_err-put-in-Err-Full-clause-carries g c s stands =
    let bytes = g.D.Held.HeldFile.bytes in
    let seen = g.D.Watched.told c.args.self.now.engine.disk in
    let core = c.args.self.now.engine.core in
    let now = g.D.Watched.told c.commit.new.self.disk in
    let then = c.commit.new.self.core in
    let os = c.args.self.now.opens.items in
    let left = c.take_out.new.opens.items in
    let txn = c.in-Some-Transaction.txn in
    let taken = taken_out bytes seen core os left s stands c.as_slice.result.now c.args.name c.as_slice.ensures _ _
    c.in-Some-Transaction.field-0-is c.in-Some-Transaction.ensures in
    let (t, b, there, is, began) = itself bytes seen core os s stands left c.args.name txn taken in
    carries_short g.D.Watched _ _ s _ _ c.from_residual-in_err-put-in-Err-Full.ensures.1
    (short_carries g.D.Watched bytes core then c.args.self.now.engine.disk c.commit.new.self.disk os s stands
    c.commit.ensures.steps c.args.name txn t b there is _ _
    (λ represents. c.in-Err-Full.ensures.carries (history_of s) s.store.layout t.reads represents is.live is.sees.notes)
    c.commit.ensures.files ((rw c.in-Err-Full.field-0-is at c.in-Err-Full.ensures.untouched) tt))

pub returns-in-None-clause-removes : goal.returns-in-None-clause-removes
returns-in-None-clause-removes g c s stands removes =
    let bytes = g.D.Held.HeldFile.bytes in
    let seen = g.D.Watched.told c.args.self.now.engine.disk in
    let core = c.args.self.now.engine.core in
    let os = c.args.self.now.opens.items in
    let left = c.take_out.new.opens.items in
    let taken = taken_as bytes seen core os left s stands c.as_slice.result.now c.args.name c.as_slice.ensures _ c.in-None.ensures in
    subst (Removes core c.args.self.now.engine.removing)
    (sym (nothing_there bytes seen core os s stands left c.args.name taken
    (λ (o : Option Thing). (commit_by s.store c.args.name o).state.layout ≡ s.store.layout) refl (λ job made. refl) (λ pass batch. refl)))
    removes

pub returns-in-Some-View-clause-removes : goal.returns-in-Some-View-clause-removes
returns-in-Some-View-clause-removes g c s stands removes =
    let bytes = g.D.Held.HeldFile.bytes in
    let seen = g.D.Watched.told c.args.self.now.engine.disk in
    let core = c.args.self.now.engine.core in
    let os = c.args.self.now.opens.items in
    let left = c.take_out.new.opens.items in
    let taken = taken_out bytes seen core os left s stands c.as_slice.result.now c.args.name c.as_slice.ensures _ _
    c.in-Some-View.field-0-is c.in-Some-View.ensures in
    let (b, there, sees, live, near, began) = its bytes seen core os s stands left c.args.name c.in-Some-View.view taken in
    subst (Removes core c.args.self.now.engine.removing)
    (sym (ap (λ (o : Option Thing). (commit_by s.store c.args.name o).state.layout) there)) removes

pub returns-in-Ok-At-clause-removes : goal.returns-in-Ok-At-clause-removes
returns-in-Ok-At-clause-removes g c s stands removes =
    let bytes = g.D.Held.HeldFile.bytes in
    let seen = g.D.Watched.told c.args.self.now.engine.disk in
    let core = c.args.self.now.engine.core in
    let os = c.args.self.now.opens.items in
    let left = c.take_out.new.opens.items in
    let now = c.commit.new.self in
    let txn = c.in-Some-Transaction.txn in
    let taken = taken_out bytes seen core os left s stands c.as_slice.result.now c.args.name c.as_slice.ensures _ _
    c.in-Some-Transaction.field-0-is c.in-Some-Transaction.ensures in
    let (t, b, there, is, began) = itself bytes seen core os s stands left c.args.name txn taken in
    subst (Removes now.core now.removing) (sym (committed_layout s c.args.name t b stands.sound there))
    ((decided_so txn bytes (λ _ l. Removes now.core now.removing l) (history_of s) s.store.layout t is _ _ (rulings.At c.in-Ok-At.number)
    (outcome_done txn _ _ c.in-Ok-At.field-0-is)
    (c.in-Ok-At.ensures.removes (history_of s) s.store.layout t.reads stands.engine.fronts removes is.live is.sees.notes)).answered
    (rulings.At c.in-Ok-At.number) refl).1

pub returns-in-Ok-Nothing-clause-removes : goal.returns-in-Ok-Nothing-clause-removes
returns-in-Ok-Nothing-clause-removes g c s stands removes =
    let bytes = g.D.Held.HeldFile.bytes in
    let seen = g.D.Watched.told c.args.self.now.engine.disk in
    let core = c.args.self.now.engine.core in
    let os = c.args.self.now.opens.items in
    let left = c.take_out.new.opens.items in
    let now = c.commit.new.self in
    let txn = c.in-Some-Transaction.txn in
    let taken = taken_out bytes seen core os left s stands c.as_slice.result.now c.args.name c.as_slice.ensures _ _
    c.in-Some-Transaction.field-0-is c.in-Some-Transaction.ensures in
    let (t, b, there, is, began) = itself bytes seen core os s stands left c.args.name txn taken in
    subst (Removes now.core now.removing) (sym (committed_layout s c.args.name t b stands.sound there))
    ((decided_so txn bytes (λ _ l. Removes now.core now.removing l) (history_of s) s.store.layout t is _ _ rulings.Nothing
    (outcome_done txn _ _ c.in-Ok-Nothing.field-0-is)
    (c.in-Ok-Nothing.ensures.removes (history_of s) s.store.layout t.reads stands.engine.fronts removes is.live is.sees.notes)).answered
    rulings.Nothing refl).1

pub returns-in-Err-Conflict-clause-removes : goal.returns-in-Err-Conflict-clause-removes
returns-in-Err-Conflict-clause-removes g c s stands removes =
    let bytes = g.D.Held.HeldFile.bytes in
    let seen = g.D.Watched.told c.args.self.now.engine.disk in
    let core = c.args.self.now.engine.core in
    let os = c.args.self.now.opens.items in
    let left = c.take_out.new.opens.items in
    let now = c.commit.new.self in
    let txn = c.in-Some-Transaction.txn in
    let taken = taken_out bytes seen core os left s stands c.as_slice.result.now c.args.name c.as_slice.ensures _ _
    c.in-Some-Transaction.field-0-is c.in-Some-Transaction.ensures in
    let (t, b, there, is, began) = itself bytes seen core os s stands left c.args.name txn taken in
    subst (Removes now.core now.removing) (sym (committed_layout s c.args.name t b stands.sound there))
    ((decided_so txn bytes (λ _ l. Removes now.core now.removing l) (history_of s) s.store.layout t is _ _ (rulings.Conflict
    c.in-Err-Conflict.key c.in-Err-Conflict.number)
    (outcome_fail txn _ _ c.in-Err-Conflict.field-0-is)
    (c.in-Err-Conflict.ensures.removes (history_of s) s.store.layout t.reads stands.engine.fronts removes is.live
    is.sees.notes)).answered
    (rulings.Conflict c.in-Err-Conflict.key c.in-Err-Conflict.number) refl).1

pub returns-in-Err-Exhausted-clause-removes : goal.returns-in-Err-Exhausted-clause-removes
returns-in-Err-Exhausted-clause-removes g c s stands removes =
    let bytes = g.D.Held.HeldFile.bytes in
    let seen = g.D.Watched.told c.args.self.now.engine.disk in
    let core = c.args.self.now.engine.core in
    let os = c.args.self.now.opens.items in
    let left = c.take_out.new.opens.items in
    let now = c.commit.new.self in
    let txn = c.in-Some-Transaction.txn in
    let taken = taken_out bytes seen core os left s stands c.as_slice.result.now c.args.name c.as_slice.ensures _ _
    c.in-Some-Transaction.field-0-is c.in-Some-Transaction.ensures in
    let (t, b, there, is, began) = itself bytes seen core os s stands left c.args.name txn taken in
    subst (Removes now.core now.removing) (sym (committed_layout s c.args.name t b stands.sound there))
    ((decided_so txn bytes (λ _ l. Removes now.core now.removing l) (history_of s) s.store.layout t is _ _ (rulings.Exhausted
    counters.Commit)
    (outcome_fail txn _ _ c.in-Err-Exhausted.field-0-is)
    (c.in-Err-Exhausted.ensures.removes (history_of s) s.store.layout t.reads stands.engine.fronts removes is.live
    is.sees.notes)).answered
    (rulings.Exhausted counters.Commit) refl).1

pub returns-in-Err-Full-clause-removes : goal.returns-in-Err-Full-clause-removes
returns-in-Err-Full-clause-removes g c s stands removes =
    let bytes = g.D.Held.HeldFile.bytes in
    let seen = g.D.Watched.told c.args.self.now.engine.disk in
    let core = c.args.self.now.engine.core in
    let os = c.args.self.now.opens.items in
    let left = c.take_out.new.opens.items in
    let now = c.commit.new.self in
    let txn = c.in-Some-Transaction.txn in
    let taken = taken_out bytes seen core os left s stands c.as_slice.result.now c.args.name c.as_slice.ensures _ _
    c.in-Some-Transaction.field-0-is c.in-Some-Transaction.ensures in
    let (t, b, there, is, began) = itself bytes seen core os s stands left c.args.name txn taken in
    subst (Removes now.core now.removing) (sym (committed_layout s c.args.name t b stands.sound there))
    ((decided_so txn bytes (λ _ l. Removes now.core now.removing l) (history_of s) s.store.layout t is _ _ (rulings.Full
    c.in-Err-Full.field-0-1 c.in-Err-Full.field-0-2)
    (outcome_fail txn _ _ c.in-Err-Full.field-0-is)
    (c.in-Err-Full.ensures.removes (history_of s) s.store.layout t.reads stands.engine.fronts removes is.live is.sees.notes)).answered
    (rulings.Full c.in-Err-Full.field-0-1 c.in-Err-Full.field-0-2) refl).1

-- ---- it reads nothing

pub returns-in_err-put-in-Some-View-clause-reads_well : goal.returns-in_err-put-in-Some-View-clause-reads_well
returns-in_err-put-in-Some-View-clause-reads_well g c = err_reads_well c.from_residual.result c.from_residual.ensures.1

pub returns-in_err-put-in-Err-Exhausted-clause-reads_well : goal.returns-in_err-put-in-Err-Exhausted-clause-reads_well
returns-in_err-put-in-Err-Exhausted-clause-reads_well g c =
    err_reads_well c.from_residual-in_err-put-in-Err-Exhausted.result c.from_residual-in_err-put-in-Err-Exhausted.ensures.1

pub returns-in_err-put-in-Err-Full-clause-reads_well : goal.returns-in_err-put-in-Err-Full-clause-reads_well
returns-in_err-put-in-Err-Full-clause-reads_well g c =
    err_reads_well c.from_residual-in_err-put-in-Err-Full.result c.from_residual-in_err-put-in-Err-Full.ensures.1

-- ---- what reads then never fails

pub returns-in-None-clause-sure : goal.returns-in-None-clause-sure
returns-in-None-clause-sure g c s stands none =
    let bytes = g.D.Held.HeldFile.bytes in
    let seen = g.D.Watched.told c.args.self.now.engine.disk in
    let core = c.args.self.now.engine.core in
    let os = c.args.self.now.opens.items in
    let left = c.take_out.new.opens.items in
    let taken = taken_as bytes seen core os left s stands c.as_slice.result.now c.args.name c.as_slice.ensures _ c.in-None.ensures in
    taken_reads _ os left c.args.name None taken none

pub returns-in-Some-View-clause-sure : goal.returns-in-Some-View-clause-sure
returns-in-Some-View-clause-sure g c s stands none =
    let bytes = g.D.Held.HeldFile.bytes in
    let seen = g.D.Watched.told c.args.self.now.engine.disk in
    let core = c.args.self.now.engine.core in
    let os = c.args.self.now.opens.items in
    let left = c.take_out.new.opens.items in
    let taken = taken_out bytes seen core os left s stands c.as_slice.result.now c.args.name c.as_slice.ensures _ _
    c.in-Some-View.field-0-is c.in-Some-View.ensures in
    same_reads _ _ _ c.in_ok-put-in-Some-View.ensures
    (back_reads _ os left c.args.name (View c.in-Some-View.view) (View c.in-Some-View.view) taken refl none)

pub returns-in-Ok-At-clause-sure : goal.returns-in-Ok-At-clause-sure
returns-in-Ok-At-clause-sure g c s stands none =
    let bytes = g.D.Held.HeldFile.bytes in
    let seen = g.D.Watched.told c.args.self.now.engine.disk in
    let core = c.args.self.now.engine.core in
    let os = c.args.self.now.opens.items in
    let left = c.take_out.new.opens.items in
    let taken = taken_out bytes seen core os left s stands c.as_slice.result.now c.args.name c.as_slice.ensures _ _
    c.in-Some-Transaction.field-0-is c.in-Some-Transaction.ensures in
    taken_reads _ os left c.args.name _ taken none

pub returns-in-Ok-Nothing-clause-sure : goal.returns-in-Ok-Nothing-clause-sure
returns-in-Ok-Nothing-clause-sure g c s stands none =
    let bytes = g.D.Held.HeldFile.bytes in
    let seen = g.D.Watched.told c.args.self.now.engine.disk in
    let core = c.args.self.now.engine.core in
    let os = c.args.self.now.opens.items in
    let left = c.take_out.new.opens.items in
    let taken = taken_out bytes seen core os left s stands c.as_slice.result.now c.args.name c.as_slice.ensures _ _
    c.in-Some-Transaction.field-0-is c.in-Some-Transaction.ensures in
    taken_reads _ os left c.args.name _ taken none

pub returns-in-Err-Conflict-clause-sure : goal.returns-in-Err-Conflict-clause-sure
returns-in-Err-Conflict-clause-sure g c s stands none =
    let bytes = g.D.Held.HeldFile.bytes in
    let seen = g.D.Watched.told c.args.self.now.engine.disk in
    let core = c.args.self.now.engine.core in
    let os = c.args.self.now.opens.items in
    let left = c.take_out.new.opens.items in
    let taken = taken_out bytes seen core os left s stands c.as_slice.result.now c.args.name c.as_slice.ensures _ _
    c.in-Some-Transaction.field-0-is c.in-Some-Transaction.ensures in
    taken_reads _ os left c.args.name _ taken none

pub returns-in-Err-Exhausted-clause-sure : goal.returns-in-Err-Exhausted-clause-sure
returns-in-Err-Exhausted-clause-sure g c s stands none =
    let bytes = g.D.Held.HeldFile.bytes in
    let seen = g.D.Watched.told c.args.self.now.engine.disk in
    let core = c.args.self.now.engine.core in
    let os = c.args.self.now.opens.items in
    let left = c.take_out.new.opens.items in
    let txn = c.in-Some-Transaction.txn in
    let taken = taken_out bytes seen core os left s stands c.as_slice.result.now c.args.name c.as_slice.ensures _ _
    c.in-Some-Transaction.field-0-is c.in-Some-Transaction.ensures in
    same_reads _ _ _ c.in_ok-put-in-Err-Exhausted.ensures
    (back_reads _ os left c.args.name (Transaction txn) (Transaction c.in-Err-Exhausted.txn) taken
    (ap (λ (t : Txn _ _). Transaction t) (c.in-Err-Exhausted.ensures.back c.in-Err-Exhausted.txn (handed_so txn _ _ c.in-Err-Exhausted.field-0-is))) none)

pub returns-in-Err-Full-clause-sure : goal.returns-in-Err-Full-clause-sure
returns-in-Err-Full-clause-sure g c s stands none =
    let bytes = g.D.Held.HeldFile.bytes in
    let seen = g.D.Watched.told c.args.self.now.engine.disk in
    let core = c.args.self.now.engine.core in
    let os = c.args.self.now.opens.items in
    let left = c.take_out.new.opens.items in
    let txn = c.in-Some-Transaction.txn in
    let taken = taken_out bytes seen core os left s stands c.as_slice.result.now c.args.name c.as_slice.ensures _ _
    c.in-Some-Transaction.field-0-is c.in-Some-Transaction.ensures in
    same_reads _ _ _ c.in_ok-put-in-Err-Full.ensures
    (back_reads _ os left c.args.name (Transaction txn) (Transaction c.in-Err-Full.txn) taken
    (ap (λ (t : Txn _ _). Transaction t) (c.in-Err-Full.ensures.back c.in-Err-Full.txn (handed_so txn _ _ c.in-Err-Full.field-0-is))) none)
