-- Where the name is free, what begins stands for it.
use Rattle.std.proofs.Common.{refl, ap, subst, sym}
use Rattle.std.specs.Prelude.{Ok}
use Rattle.vl_engine_laws.specs.laws.VersionLaws.{laid_in_memory}
use Rattle.vl_engine_model.specs.Store.Reading.{a_transaction, begin_as}
use Rattle.vl_engine_model.specs.Store.Things.{thing_of}
use Rattle.vl_script_model.specs.Sequential.{history_of}
use Rattle.vl_replay_laws.specs.Standing.{open_in}
use Rattle.vl_script_model.specs.laws.Laws.{state_after-sound}
use Rattle.vl_replay_laws.specs.laws.Names.BeginMaking.{too_many_makes, transaction_makes, unread_of}
use Rattle.vl_replay_laws.specs.laws.Names.Returning.{returns_so}
use Rattle.vl_replay_laws.specs.laws.Names.Serving.{decides_all, represents}
use Rattle.vl_space.specs.Removing.{Removes}
use Rattle.vl_engine_model.specs.declared.layout.Layout.{Layout}
use Rattle.vl_engine_model.specs.Rulings.Begin.{TooMany}
use Rattle.vl_replay_laws.specs.laws.Lines.Ruled.{begun_layout}
use Rattle.vl_replay_laws.specs.laws.Names.Unfailing.{put_reads, same_reads}
use Rattle.vl_replay_laws.specs.declared.open.Thing.TheVariants.{Transaction}
use Rattle.vl_replay.proofs.replayer.Served.begin.Goals as goal
use Rattle.vl_script.specs.declared.answer.Answer.TheVariants as answers
use Rattle.vl_script.specs.declared.line.Line.TheVariants as lines

pub returns-in-Ok-clause-makes : goal.returns-in-Ok-clause-makes
returns-in-Ok-clause-makes g c s stands bare =
    let bytes = g.D.Held.HeldFile.bytes in
    let core = c.args.self.now.engine.core in
    let seen = g.D.Watched.told c.args.self.now.engine.disk in
    let now = g.D.Watched.told c.begin.new.self.disk in
    let os = c.args.self.now.opens.items in
    let free = unread_of bytes (history_of s) s.store.layout (open_in os c.args.name) (thing_of s.store c.args.name)
    (stands.names.each c.args.name) bare in
    returns_so bytes now c.begin.new.self.core _ c.put.new.opens.items s
    (begin_as s.store c.args.name a_transaction (thing_of s.store c.args.name)) (begin_as s.store c.args.name
    a_transaction (thing_of s.store c.args.name)) _ _
    c.in_ok-put-in-Ok.ensures refl (ap (λ n. Ok (answers.Number n)) c.number-number.ensures)
    (transaction_makes bytes seen now core c.begin.new.self.core os s stands c.begin.ensures.back c.args.name bare free c.in-Ok.txn
    c.in-Ok.ensures.fresh (c.in-Ok.ensures.sees (history_of s) s.store.layout stands.engine)
    (λ untabled. c.in-Ok.ensures.memory (laid_in_memory bytes core.version s.store.layout stands.engine.has untabled))
    (c.in-Ok.ensures.began (history_of s) s.store.layout stands.engine)
    (decides_all bytes now s.openable c.begin.new.self.core (history_of s) s.store.layout _ _ _ _
    (c.in-Ok.ensures.stands (history_of s) s.store.layout stands.engine)
    (c.in-Ok.ensures.fits (history_of s) s.store.layout stands.engine stands.fits)
    (λ openable. c.in-Ok.ensures.represents (history_of s) s.store.layout (represents bytes seen core os s stands openable))))

pub returns-in-Err-TooMany-clause-makes : goal.returns-in-Err-TooMany-clause-makes
returns-in-Err-TooMany-clause-makes g c s stands bare =
    let bytes = g.D.Held.HeldFile.bytes in
    let core = c.args.self.now.engine.core in
    let seen = g.D.Watched.told c.args.self.now.engine.disk in
    let now = g.D.Watched.told c.begin.new.self.disk in
    let os = c.args.self.now.opens.items in
    let free = unread_of bytes (history_of s) s.store.layout (open_in os c.args.name) (thing_of s.store c.args.name)
    (stands.names.each c.args.name) bare in
    too_many_makes bytes seen now core c.begin.new.self.core os s stands
    c.begin.ensures.back c.args.name a_transaction
    (state_after-sound s (lines.Begin c.args.name) stands.sound) bare
    (decides_all bytes now s.openable c.begin.new.self.core (history_of s) s.store.layout _ _ _ _
    (rw c.in-Err-TooMany.field-0-is at (c.in-Err-TooMany.ensures.stands (history_of s) s.store.layout stands.engine))
    (rw c.in-Err-TooMany.field-0-is at (c.in-Err-TooMany.ensures.fits (history_of s) s.store.layout stands.engine stands.fits))
    (λ openable. rw c.in-Err-TooMany.field-0-is at (c.in-Err-TooMany.ensures.represents (history_of s) s.store.layout
    (represents bytes seen core os s stands openable))))

pub returns-in-Ok-clause-removes : goal.returns-in-Ok-clause-removes
returns-in-Ok-clause-removes g c s stands bare removes =
    subst (λ (l : Layout). Removes c.begin.new.self.core c.begin.new.self.removing l)
    (sym (begun_layout s.store c.args.name a_transaction bare))
    ((c.in-Ok.ensures.removes (history_of s) s.store.layout stands.engine.fronts removes).answered _ refl).1

pub returns-in-Err-TooMany-clause-removes : goal.returns-in-Err-TooMany-clause-removes
returns-in-Err-TooMany-clause-removes g c s stands bare removes =
    subst (λ (l : Layout). Removes c.begin.new.self.core c.begin.new.self.removing l)
    (sym (begun_layout s.store c.args.name a_transaction bare))
    ((rw c.in-Err-TooMany.field-0-is at (c.in-Err-TooMany.ensures.removes (history_of s) s.store.layout stands.engine.fronts
    removes)).answered
    TooMany refl).1

-- ---- what reads then never fails

pub returns-in-Ok-clause-sure : goal.returns-in-Ok-clause-sure
returns-in-Ok-clause-sure g c s stands bare was =
    let os = c.args.self.now.opens.items in
    let free = unread_of g.D.Held.HeldFile.bytes (history_of s) s.store.layout (open_in os c.args.name) (thing_of s.store c.args.name)
    (stands.names.each c.args.name) bare in
    same_reads _ _ _ c.in_ok-put-in-Ok.ensures
    (put_reads _ os (record { name = c.args.name; thing = Transaction c.in-Ok.txn }) free was.reads
    (c.in-Ok.ensures.faults.never_fails was.gives))

pub returns-in-Err-TooMany-clause-sure : goal.returns-in-Err-TooMany-clause-sure
returns-in-Err-TooMany-clause-sure g c s stands bare was = was.reads
