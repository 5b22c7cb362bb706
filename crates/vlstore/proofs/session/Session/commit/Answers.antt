use Rattle.std.proofs.Common.{◌≡◌, refl, sym, ap, ◌∙◌, subst, []}
use Rattle.std.specs.Prelude.{is_some, true, List, Some}
use Rattle.vlstore.specs.Entries.{Done, commit_done, commit_entry, done_by}
use Rattle.vlstore.specs.Knowing.{GoesOn, IsSession, Stepped, session_in, KeepsOwnMerge}
use Rattle.vlstore.specs.Lists.{history_by, layout_by}
use Rattle.vlstore.specs.Standing.{NeverFails, Stands, parts}
use Rattle.vlstore.proofs.Calls.{commit_leaves, leaves_by, leaves_merge}
use Rattle.vlstore.proofs.Lending.{merges_left}
use Rattle.vlstore.proofs.Faults.{commit_fails, unfailing}
use Rattle.vlstore.proofs.Sessions.{knowing, may_enter, on_after, over, session_after, stepped_after, number_now, own_is}
use Rattle.vl_turn.specs.Locks.{lock_name, lock_start}
use Rattle.std.specs.FinMap.{entries, entries_sorted, is_sorted}
use Rattle.vl_model.specs.Keys.{key_cmp}
use Rattle.vl_steps.specs.Answers.{commit_effects, commit_outcome}
use Rattle.vl_reads.specs.Sees.{asked}
use Rattle.vl_reads.specs.declared.txn.Txn.{Txn}
use Rattle.vl_engine_model.specs.Decides.{as_before}
use Rattle.vl_engine_model.specs.LockHistory.{number_of, open_tickets}
use Rattle.vl_engine_model.specs.Ruling.{ended}
use Rattle.vl_engine_model.specs.Rulings.Commit.{commit_lost, commit_ruling}
use Rattle.vl_engine_model.specs.declared.lock_history.LockStep.TheVariants.{Ended}
use Rattle.vl_model.specs.Notes.{AreNotesOf}
use Rattle.vl_model.specs.Reads.{Read}
use Rattle.vlstore.specs.Knowing.{Knows}
use Rattle.vlstore.proofs.Collecting.{collects_by, commit_same, is_so, lost_same}
use Rattle.vlstore.proofs.Leading.{goes_by}
use Rattle.vlstore.proofs.Steps.{commit_leads}
use Rattle.vlstore.proofs.Tickets.{ticket_lives, ticket_open, merge_kept}
use Rattle.vlstore.proofs.Wholes.{still_open, whole_by}
use Rattle.vl_turn.specs.Entries.{with_entry}
use Rattle.vlstore.proofs.session.Session.commit.Goals as goal

pub finish-requires-clause-entry : goal.finish-requires-clause-entry
finish-requires-clause-entry g c =
    let at = c.deref-lock.result.now in
    let o = (lock_start at).origin.me.0 in
    let v = c.take-turn.result.token.now.me.0 in
    let l = layout_by o v.seen in
    let h = history_by o v.seen in
    let outcome = commit_outcome c.commit-answer.result in
    may_enter v c.self.invariant.session c.self.invariant.own
    (done_by (commit_done c.of-asked.result.value.ticket (entries c.of-asked.result.value.writes) l h)
    (Ended c.of-asked.result.value.ticket, ended c.of-asked.result.value.ticket l) outcome) c.has_ended-enters.result
    (ap (λ u. u.owns) c.take-turn.ensures.begins.is ∙ c.self.invariant.owns)
    (c.has_ended-enters.ensures c.of-asked.result.value.ticket (entries c.of-asked.result.value.writes) l h
    (Ended c.of-asked.result.value.ticket, ended c.of-asked.result.value.ticket l))

pub finish-requires-clause-stands : goal.finish-requires-clause-stands
finish-requires-clause-stands g c =
    let at = c.deref-lock.result.now in
    let o = (lock_start at).origin.me.0 in
    let tells = is_some (g.D.Watched.told (lock_start at).engine.disk) in
    let bytes = g.D.Held.HeldFile.bytes in
    let sure = NeverFails g.D.Watched.faults g.D.Reader.Reader.faults g.D.Writer.Writer.faults in
    let v = c.take-turn.result.token.now.me.0 in
    let l = layout_by o v.seen in
    let h = history_by o v.seen in
    let s = session_in v.owns in
    let old = c.value-locked.result.now.engine in
    let new = c.commit-answer.new.self in
    let x = parts (g.D.Watched.told old.disk) old.core old.merging old.collecting old.removing in
    let y = parts (g.D.Watched.told new.disk) new.core new.merging new.collecting new.removing in
    let st = subst (λ (k : _). Stands bytes sure o tells v.seen (parts (g.D.Watched.told k.engine.disk) k.engine.core
    k.engine.merging k.engine.collecting k.engine.removing))
    (sym c.value-locked.ensures.value) c.take-turn.ensures.begins.meaning.1 in
    let outcome = commit_outcome c.commit-answer.result in
    let done : Done = done_by (commit_done c.args.txn.ticket (entries c.args.txn.writes) l h)
    (Ended c.args.txn.ticket, ended c.args.txn.ticket l) outcome in
    subst (λ (t : Txn _ _). Stands bytes sure o tells (with_entry v.seen
    (commit_entry t.ticket (entries t.writes) s l h outcome)) y) (sym c.of-asked.ensures) (record {
      merges = merges_left o v.seen old.merging new.merging st.merges c.commit-answer.ensures.merging
          (commit_entry c.args.txn.ticket (entries c.args.txn.writes) s l h outcome)
          (leaves_merge l s done (leaves_by l (commit_done c.args.txn.ticket (entries c.args.txn.writes) l h)
          (Ended c.args.txn.ticket, ended c.args.txn.ticket l) outcome
          (commit_leaves c.args.txn.ticket (entries c.args.txn.writes) l h) (tt, refl)));
      behind = λ told.
          let is = st.behind told in
          let w = is.whole in
          let told_now = subst (λ (u : Knows). u.tells ≡ true) c.self.view_is
          (over c.deref-lock.ensures (λ (k : _). is_some (g.D.Watched.told (lock_start k).engine.disk) ≡ true) told) in
          let own = subst (λ (u : Knows). number_of c.args.txn.ticket (open_tickets [] u.own) ≡ Some c.args.txn.number)
          (sym c.self.view_is) ((c.requires (lock_start at).engine.disk told told_now).own) in
          let sess = over (sym c.deref-lock.ensures) (λ (k : _). IsSession (lock_name k) (lock_start k)
          c.self.inside.token) c.self.invariant in
          let live = ticket_lives _ (lock_name at) (lock_start at) c.take-turn.result.value c.self.inside.token v sess
          c.take-turn.ensures.begins o is.legal c.args.txn.ticket c.args.txn.number own is.start in
          let reads = (c.requires (lock_start at).engine.disk told told_now).reads in
          let noted = (c.requires (lock_start at).engine.disk told told_now).noted in
          goes_by bytes o v.seen (commit_ruling l h (asked c.args.txn reads))
          (as_before l (commit_lost l (asked c.args.txn reads)))
          (commit_entry c.args.txn.ticket (entries c.args.txn.writes) s l h) x y outcome
          (commit_effects c.commit-answer.result) is
          (commit_leads bytes o v.seen x is s (asked c.args.txn reads)
          (ticket_open _ (lock_name at) (lock_start at) c.take-turn.result.value c.self.inside.token v sess
          c.take-turn.ensures.begins o is.legal c.args.txn.ticket c.args.txn.number own)
          (is_so (is_sorted key_cmp (entries c.args.txn.writes)) (entries_sorted c.args.txn.writes)))
          (unfailing g.D.Watched.faults g.D.Reader.Reader.faults g.D.Writer.Writer.faults old.disk new.disk outcome c.commit-answer.ensures.cause
          (commit_fails c.commit-answer.result))
          (whole_by bytes y h l (commit_ruling l h (asked c.args.txn reads))
          (as_before l (commit_lost l (asked c.args.txn reads))) outcome (commit_effects c.commit-answer.result)
          (c.commit-answer.ensures.carries h l reads w.represents live noted).decides
          (still_open l h bytes y old.merging (commit_ruling l h (asked c.args.txn reads))
          (commit_lost l (asked c.args.txn reads)) outcome (commit_effects c.commit-answer.result)
          (commit_same l h (asked c.args.txn reads)).job_is (lost_same l h (asked c.args.txn reads)).job_is
          c.commit-answer.ensures.merging w.opens)
          (c.commit-answer.ensures.fits h l reads w.represents.stands w.fits live noted)
          (collects_by old.core new.core old.collecting new.collecting c.commit-answer.ensures.logs
          c.commit-answer.ensures.collecting _ h l (commit_lost l (asked c.args.txn reads))
          (commit_ruling l h (asked c.args.txn reads)) outcome (commit_effects c.commit-answer.result)
          ((c.commit-answer.ensures.carries h l reads w.represents live noted).decides)
          (commit_same l h (asked c.args.txn reads)) (lost_same l h (asked c.args.txn reads)) w.collects)
          (c.commit-answer.ensures.removes h l reads w.represents.stands.fronts w.removes live noted));
    })

pub invariant_of-self : goal.invariant_of-self
invariant_of-self g c =
    let at = c.deref-lock.result.now in
    let o = (lock_start at).origin.me.0 in
    let v = c.take-turn.result.token.now.me.0 in
    let s = session_in v.owns in
    let l = layout_by o v.seen in
    let h = history_by o v.seen in
    let outcome = commit_outcome c.commit-answer.result in
    let before = c.self.inside.token in
    let is = over (sym c.deref-lock.ensures) (λ (k : _). IsSession (lock_name k) (lock_start k) before) c.self.invariant in
    over c.deref-lock.ensures (λ (k : _). IsSession (lock_name k) (lock_start k) c.finish.new.turn.1.0)
    (session_after _ (lock_name at) (lock_start at) (lock_start at).origin.me.0
    (is_some (g.D.Watched.told (lock_start at).engine.disk)) c.take-turn.result.value before c.finish.new.turn.1.0
    c.take-turn.result.token.now.me.0 (commit_entry c.of-asked.result.value.ticket
    (entries c.of-asked.result.value.writes) s l h outcome) is c.take-turn.ensures.begins c.finish.ensures.entered
    c.finish.ensures.token)

pub returns-clause-on : goal.returns-clause-on
returns-clause-on g c =
    let at = c.deref-lock.result.now in
    let o = (lock_start at).origin.me.0 in
    let v = c.take-turn.result.token.now.me.0 in
    let s = session_in v.owns in
    let l = layout_by o v.seen in
    let h = history_by o v.seen in
    let outcome = commit_outcome c.commit-answer.result in
    let before = c.self.inside.token in
    let after = c.finish.new.turn.1.0 in
    let is = over (sym c.deref-lock.ensures) (λ (k : _). IsSession (lock_name k) (lock_start k) before) c.self.invariant in
    rw (sym c.self.view_is) (over c.deref-lock.ensures (λ (k : _). GoesOn
    (knowing (lock_name k) (lock_start k).origin.me.0 (is_some (g.D.Watched.told (lock_start k).engine.disk)) before)
    (knowing (lock_name k) (lock_start k).origin.me.0 (is_some (g.D.Watched.told (lock_start k).engine.disk)) after))
    (on_after _ (lock_name at) (lock_start at) (lock_start at).origin.me.0
    (is_some (g.D.Watched.told (lock_start at).engine.disk)) c.take-turn.result.value before after
    c.take-turn.result.token.now.me.0 (commit_entry c.of-asked.result.value.ticket
    (entries c.of-asked.result.value.writes) s l h outcome) is c.take-turn.ensures.begins c.finish.ensures.entered))

pub returns-clause-steps : goal.returns-clause-steps
returns-clause-steps g c =
    let at = c.deref-lock.result.now in
    let o = (lock_start at).origin.me.0 in
    let tells = is_some (g.D.Watched.told (lock_start at).engine.disk) in
    let bytes = g.D.Held.HeldFile.bytes in
    let sure = NeverFails g.D.Watched.faults g.D.Reader.Reader.faults g.D.Writer.Writer.faults in
    let v = c.take-turn.result.token.now.me.0 in
    let l = layout_by o v.seen in
    let h = history_by o v.seen in
    let s = session_in v.owns in
    let old = c.value-locked.result.now.engine in
    let new = c.commit-answer.new.self in
    let st = subst (λ (k : _). Stands bytes sure o tells v.seen (parts (g.D.Watched.told k.engine.disk) k.engine.core
    k.engine.merging k.engine.collecting k.engine.removing))
    (sym c.value-locked.ensures.value) c.take-turn.ensures.begins.meaning.1 in
    let outcome = commit_outcome c.commit-answer.result in
    let before = c.self.inside.token in
    let after = c.finish.new.turn.1.0 in
    let is = over (sym c.deref-lock.ensures) (λ (k : _). IsSession (lock_name k) (lock_start k) before) c.self.invariant in
    rw (sym c.self.view_is) (over c.deref-lock.ensures
    (λ (k : _). is_some (g.D.Watched.told (lock_start k).engine.disk) ≡ true → (reads : List Read) → AreNotesOf reads
    c.args.txn.reads.keys c.args.txn.reads.spans → Stepped sure
    (knowing (lock_name k) (lock_start k).origin.me.0 (is_some (g.D.Watched.told (lock_start k).engine.disk)) before)
    (knowing (lock_name k) (lock_start k).origin.me.0 (is_some (g.D.Watched.told (lock_start k).engine.disk)) after)
    (λ l h. commit_ruling l h (asked c.args.txn reads)) (commit_entry c.args.txn.ticket (entries c.args.txn.writes)) outcome)
    (λ told reads noted.
    let w = (st.behind told).whole in
    stepped_after _ (lock_name at) (lock_start at) o tells c.take-turn.result.value before after v
    (commit_entry c.of-asked.result.value.ticket (entries c.of-asked.result.value.writes) s l h outcome) is
    c.take-turn.ensures.begins
    c.finish.ensures.entered (λ l h. commit_ruling l h (asked c.args.txn reads))
    (commit_entry c.args.txn.ticket (entries c.args.txn.writes)) outcome _
    (as_before l (commit_lost l (asked c.args.txn reads))) (commit_effects c.commit-answer.result)
    (ap (λ (t : Txn _ _). commit_entry t.ticket (entries t.writes) s l h outcome) c.of-asked.ensures)
    (let is = st.behind told in let told_now = subst (λ (u : Knows). u.tells ≡ true) c.self.view_is
    (over c.deref-lock.ensures (λ (k : _). is_some (g.D.Watched.told (lock_start k).engine.disk) ≡ true) told) in
    let own = subst (λ (u : Knows). number_of c.args.txn.ticket (open_tickets [] u.own) ≡ Some c.args.txn.number)
    (sym c.self.view_is) ((c.requires (lock_start at).engine.disk told told_now).own) in
    let sess = over (sym c.deref-lock.ensures) (λ (k : _). IsSession (lock_name k) (lock_start k) c.self.inside.token)
    c.self.invariant in
    let live = ticket_lives _ (lock_name at) (lock_start at) c.take-turn.result.value c.self.inside.token v sess
    c.take-turn.ensures.begins o is.legal c.args.txn.ticket c.args.txn.number own is.start in
    (c.commit-answer.ensures.carries h l reads w.represents live noted).decides)
    ((finish-requires-clause-stands g c.before.before).behind told).legal
    (st.behind told) (unfailing g.D.Watched.faults g.D.Reader.Reader.faults g.D.Writer.Writer.faults old.disk new.disk outcome c.commit-answer.ensures.cause
    (commit_fails c.commit-answer.result))))

pub returns-clause-merge : goal.returns-clause-merge
returns-clause-merge g c =
    let at = c.deref-lock.result.now in
    let o = (lock_start at).origin.me.0 in
    let tells = is_some (g.D.Watched.told (lock_start at).engine.disk) in
    let bytes = g.D.Held.HeldFile.bytes in
    let sure = NeverFails g.D.Watched.faults g.D.Reader.Reader.faults g.D.Writer.Writer.faults in
    let v = c.take-turn.result.token.now.me.0 in
    let l = layout_by o v.seen in
    let h = history_by o v.seen in
    let s = session_in v.owns in
    let st = subst (λ (k : _). Stands bytes sure o tells v.seen
    (parts (g.D.Watched.told k.engine.disk) k.engine.core k.engine.merging k.engine.collecting k.engine.removing))
    (sym c.value-locked.ensures.value) c.take-turn.ensures.begins.meaning.1 in
    let outcome = commit_outcome c.commit-answer.result in
    let ticket = c.of-asked.result.value.ticket in
    let writes = entries c.of-asked.result.value.writes in
    let done : Done = done_by (commit_done ticket writes l h) (Ended ticket, ended ticket l) outcome in
    let before = c.self.inside.token in
    let after = c.finish.new.turn.1.0 in
    let is = over (sym c.deref-lock.ensures) (λ (k : _). IsSession (lock_name k) (lock_start k) before) c.self.invariant in
    rw (sym c.self.view_is) (over c.deref-lock.ensures (λ (k : _). KeepsOwnMerge
    (knowing (lock_name k) (lock_start k).origin.me.0 (is_some (g.D.Watched.told (lock_start k).engine.disk)) before)
    (knowing (lock_name k) (lock_start k).origin.me.0 (is_some (g.D.Watched.told (lock_start k).engine.disk)) after))
    (merge_kept _ (lock_name at) (lock_start at) c.take-turn.result.value before v is c.take-turn.ensures.begins o tells
    st.merges.keep after
    (commit_entry ticket writes s l h outcome) (own_is _ (lock_name at) (lock_start at) o tells c.take-turn.result.value before
    after v (commit_entry ticket writes s l h outcome) is c.take-turn.ensures.begins
    c.finish.ensures.entered)
    (number_now _ (lock_name at) (lock_start at) o tells c.take-turn.result.value before after v
    (commit_entry ticket writes s l h outcome) is c.take-turn.ensures.begins
    c.finish.ensures.entered)
    (leaves_merge l s done (leaves_by l (commit_done ticket writes l h) (Ended ticket, ended ticket l) outcome
    (commit_leaves ticket writes l h) (tt, refl)))))

pub returns-clause-cause : goal.returns-clause-cause
returns-clause-cause g c failed = record {
  before = c.value-locked.result.now.engine.disk;
  after = c.commit-answer.new.self.disk;
  rose = c.commit-answer.ensures.cause.rose failed;
}
