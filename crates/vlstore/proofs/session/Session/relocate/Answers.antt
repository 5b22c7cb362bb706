use Rattle.std.proofs.Common.{◌≡◌, refl, sym, ap, ◌∙◌, subst}
use Rattle.std.specs.Prelude.{is_some, true}
use Rattle.vlstore.specs.Entries.{Done}
use Rattle.vlstore.specs.Knowing.{GoesOn, IsSession, Knows, Stepped, session_in, KeepsOwnMerge}
use Rattle.vlstore.specs.Lists.{history_by, layout_by}
use Rattle.vlstore.specs.Standing.{NeverFails, Stands, parts}
use Rattle.vlstore.proofs.Sessions.{knowing, may_enter, on_after, over, session_after, stepped_after, number_now, own_is}
use Rattle.vl_turn.specs.Locks.{lock_name, lock_start}
use Rattle.std.proofs.Common.{List, []}
use Rattle.vl_steps.specs.Relocating.{move_effects, move_outcome}
use Rattle.vl_engine_model.specs.Decides.{Decides, as_before}
use Rattle.vl_engine_model.specs.Relocation.{Candidate, Pass}
use Rattle.vl_engine_model.specs.Ruling.{Ruling}
use Rattle.vl_engine_model.specs.Rulings.Relocate.{MoveAnswer, relocate_ruling}
use Rattle.vl_engine_model.specs.declared.lock_history.LockStep.TheVariants.{Changed}
use Rattle.vlstore.specs.Entries.{done_by, entry_by, move_done, relocate_entry}
use Rattle.vlstore.specs.Handing.{HasLasted}
use Rattle.vlstore.specs.Standing.{IsWhole}
use Rattle.vlstore.proofs.Calls.{leaves_merge}
use Rattle.vlstore.proofs.Leading.{goes_by}
use Rattle.vlstore.proofs.Lending.{merges_left, merges_same}
use Rattle.vlstore.proofs.Moving.{moves_lent, relocate_by, relocate_leaves, still_lasts}
use Rattle.vlstore.proofs.Stores.{prefix_on}
use Rattle.vlstore.proofs.Works.{relocate_leads}
use Rattle.vlstore.proofs.Tickets.{merge_kept}
use Rattle.vlstore.proofs.session.Session.relocate.Goals as goal

pub finish-requires-clause-entry : goal.finish-requires-clause-entry
finish-requires-clause-entry g c =
    let at = c.deref-lock.result.now in
    let o = (lock_start at).origin.me.0 in
    let v = c.take-turn.result.token.now.me.0 in
    let l = layout_by o v.seen in
    let h = history_by o v.seen in
    let p : Pass = record { segment = c.segment-segment.result; base = []; left = [] } in
    let batch = c.of-moved.result.value in
    let outcome = move_outcome c.move_now-answer.result in
    let done : Done = done_by (move_done (relocate_ruling l h p batch).layout) (Changed, l) outcome in
    may_enter v c.self.invariant.session c.self.invariant.own done c.has_moved-enters.result
    (ap (λ u. u.owns) c.take-turn.ensures.begins.is ∙ c.self.invariant.owns)
    (c.has_moved-enters.ensures (relocate_ruling l h p batch).layout (Changed, l))

pub finish-requires-clause-stands : goal.finish-requires-clause-stands
finish-requires-clause-stands g c =
    let at = c.deref-lock.result.now in
    let o = (lock_start at).origin.me.0 in
    let tells = is_some (g.D.Watched.told (lock_start at).engine.disk) in
    let bytes = g.D.Held.HeldFile.bytes in
    let sure = NeverFails g.D.Watched.faults g.D.Reader.Reader.faults g.D.Writer.Writer.faults in
    let v = c.take-turn.result.token.now.me.0 in
    let l = layout_by o v.seen in
    let h = history_by o v.seen in
    let s = session_in v.owns in
    let old = c.value-locked.result.now.engine in
    let new = c.move_now-answer.new.engine in
    let x = parts (g.D.Watched.told old.disk) old.core old.merging old.collecting old.removing in
    let y = parts (g.D.Watched.told new.disk) new.core new.merging new.collecting new.removing in
    let st = subst (λ (k : _). Stands bytes sure o tells v.seen
    (parts (g.D.Watched.told k.engine.disk) k.engine.core k.engine.merging k.engine.collecting k.engine.removing))
    (sym c.value-locked.ensures.value) c.take-turn.ensures.begins.meaning.1 in
    let p : Pass = record { segment = c.segment-segment.result; base = []; left = [] } in
    let batch = c.of-moved.result.value in
    let outcome = move_outcome c.move_now-answer.result in
    let done : Done = done_by (move_done (relocate_ruling l h p batch).layout) (Changed, l) outcome in
    let before = c.self.inside.token in
    record {
      merges = let same = moves_lent _ old.merging new.merging c.move_now-answer.result c.move_now-answer.ensures.merging in
          merges_left o v.seen new.merging new.merging (merges_same o v.seen old.merging new.merging st.merges same.0 same.1) refl
          (relocate_entry p batch s l h outcome) (leaves_merge l s done (relocate_leaves l h p batch outcome));
      behind = λ told.
          let is_behind = st.behind told in
          let told_now = subst (λ (u : Knows). u.tells ≡ true) c.self.view_is
          (over c.deref-lock.ensures (λ (k : _). is_some (g.D.Watched.told (lock_start k).engine.disk) ≡ true) told) in
          let lasted = over (sym c.deref-lock.ensures) (λ (k : _). HasLasted
          (knowing (lock_name k) (lock_start k).origin.me.0 (is_some (g.D.Watched.told (lock_start k).engine.disk))
          before) bytes c.args.pass.now.log)
          (subst (λ (u : Knows). HasLasted u bytes c.args.pass.now.log) (sym c.self.view_is) (c.requires.lasts (lock_start at).engine.disk told told_now)) in
          let lasts = still_lasts bytes o lasted.before v.seen c.args.pass.now.log is_behind.last
          (prefix_on lasted.before before.me.0.seen v.seen lasted.seen c.take-turn.ensures.begins.later) lasted.lasts in
          let there = c.requires.there (lock_start at).engine.disk told told_now in
          goes_by bytes o v.seen (relocate_ruling l h p batch) (as_before l l) (relocate_entry p batch s l h) x y
          outcome (move_effects c.move_now-answer.result)
          is_behind (relocate_leads bytes o v.seen x is_behind s p batch)
          c.move_now-answer.ensures.cause
          (subst (λ (b : List Candidate). Decides (IsWhole bytes y) h l (relocate_ruling l h p b) (as_before l l) outcome
          (move_effects c.move_now-answer.result)) (sym c.of-moved.ensures)
          (c.move_now-answer.ensures.whole h l p is_behind.whole c.segment-segment.ensures lasts there));
    }

pub invariant_of-self : goal.invariant_of-self
invariant_of-self g c =
    let at = c.deref-lock.result.now in
    let o = (lock_start at).origin.me.0 in
    let tells = is_some (g.D.Watched.told (lock_start at).engine.disk) in
    let v = c.take-turn.result.token.now.me.0 in
    let l = layout_by o v.seen in
    let h = history_by o v.seen in
    let s = session_in v.owns in
    let p : Pass = record { segment = c.segment-segment.result; base = []; left = [] } in
    let batch = c.of-moved.result.value in
    let outcome = move_outcome c.move_now-answer.result in
    let before = c.self.inside.token in
    let after = c.finish.new.turn.1.0 in
    let is = over (sym c.deref-lock.ensures) (λ (k : _). IsSession (lock_name k) (lock_start k) before) c.self.invariant in
    over c.deref-lock.ensures (λ (k : _). IsSession (lock_name k) (lock_start k) after)
    (session_after _ (lock_name at) (lock_start at) o tells c.take-turn.result.value before after v
    (relocate_entry p batch s l h outcome) is c.take-turn.ensures.begins
    c.finish.ensures.entered c.finish.ensures.token)

pub returns-clause-on : goal.returns-clause-on
returns-clause-on g c =
    let at = c.deref-lock.result.now in
    let o = (lock_start at).origin.me.0 in
    let tells = is_some (g.D.Watched.told (lock_start at).engine.disk) in
    let v = c.take-turn.result.token.now.me.0 in
    let l = layout_by o v.seen in
    let h = history_by o v.seen in
    let s = session_in v.owns in
    let p : Pass = record { segment = c.segment-segment.result; base = []; left = [] } in
    let batch = c.of-moved.result.value in
    let outcome = move_outcome c.move_now-answer.result in
    let before = c.self.inside.token in
    let after = c.finish.new.turn.1.0 in
    let is = over (sym c.deref-lock.ensures) (λ (k : _). IsSession (lock_name k) (lock_start k) before) c.self.invariant in
    rw (sym c.self.view_is) (over c.deref-lock.ensures (λ (k : _). GoesOn
    (knowing (lock_name k) (lock_start k).origin.me.0 (is_some (g.D.Watched.told (lock_start k).engine.disk)) before)
    (knowing (lock_name k) (lock_start k).origin.me.0 (is_some (g.D.Watched.told (lock_start k).engine.disk)) after))
    (on_after _ (lock_name at) (lock_start at) o tells c.take-turn.result.value before after v
    (relocate_entry p batch s l h outcome) is c.take-turn.ensures.begins
    c.finish.ensures.entered))

pub returns-clause-steps : goal.returns-clause-steps
returns-clause-steps g c =
    let at = c.deref-lock.result.now in
    let o = (lock_start at).origin.me.0 in
    let tells = is_some (g.D.Watched.told (lock_start at).engine.disk) in
    let bytes = g.D.Held.HeldFile.bytes in
    let sure = NeverFails g.D.Watched.faults g.D.Reader.Reader.faults g.D.Writer.Writer.faults in
    let v = c.take-turn.result.token.now.me.0 in
    let l = layout_by o v.seen in
    let h = history_by o v.seen in
    let s = session_in v.owns in
    let st = subst (λ (k : _). Stands bytes sure o tells v.seen
    (parts (g.D.Watched.told k.engine.disk) k.engine.core k.engine.merging k.engine.collecting k.engine.removing))
    (sym c.value-locked.ensures.value) c.take-turn.ensures.begins.meaning.1 in
    let p : Pass = record { segment = c.segment-segment.result; base = []; left = [] } in
    let batch = c.of-moved.result.value in
    let outcome = move_outcome c.move_now-answer.result in
    let before = c.self.inside.token in
    let after = c.finish.new.turn.1.0 in
    let is = over (sym c.deref-lock.ensures) (λ (k : _). IsSession (lock_name k) (lock_start k) before) c.self.invariant in
    rw (sym c.self.view_is) (over c.deref-lock.ensures (λ (k : _). is_some (g.D.Watched.told (lock_start k).engine.disk) ≡ true
    → (q : Pass) → q.segment ≡ c.args.pass.now.log.number → Stepped sure
    (knowing (lock_name k) (lock_start k).origin.me.0 (is_some (g.D.Watched.told (lock_start k).engine.disk)) before)
    (knowing (lock_name k) (lock_start k).origin.me.0 (is_some (g.D.Watched.told (lock_start k).engine.disk)) after)
    (λ l h. relocate_ruling l h q c.args.batch) (relocate_entry q c.args.batch) outcome)
    (λ told q segment.
    let is_behind = st.behind told in
    let told_now = subst (λ (u : Knows). u.tells ≡ true) c.self.view_is
    (over c.deref-lock.ensures (λ (k : _). is_some (g.D.Watched.told (lock_start k).engine.disk) ≡ true) told) in
    let lasted = over (sym c.deref-lock.ensures) (λ (k : _). HasLasted
    (knowing (lock_name k) (lock_start k).origin.me.0 (is_some (g.D.Watched.told (lock_start k).engine.disk))
    before) bytes c.args.pass.now.log)
    (subst (λ (u : Knows). HasLasted u bytes c.args.pass.now.log) (sym c.self.view_is) (c.requires.lasts (lock_start at).engine.disk told told_now)) in
    let lasts = still_lasts bytes o lasted.before v.seen c.args.pass.now.log is_behind.last
    (prefix_on lasted.before before.me.0.seen v.seen lasted.seen c.take-turn.ensures.begins.later) lasted.lasts in
    let there = c.requires.there (lock_start at).engine.disk told told_now in
    stepped_after _ (lock_name at) (lock_start at) o tells c.take-turn.result.value before after v
    (relocate_entry p batch s l h outcome) is c.take-turn.ensures.begins
    c.finish.ensures.entered (λ l h. relocate_ruling l h q c.args.batch) (relocate_entry q c.args.batch) outcome _ (as_before l l)
    (move_effects c.move_now-answer.result) (ap (λ (b : List Candidate). relocate_entry p b s l h outcome) c.of-moved.ensures
    ∙ ap (λ (r : Ruling MoveAnswer). entry_by (move_done r.layout) (Changed, l) s outcome)
    (relocate_by l h p q c.args.batch (c.segment-segment.ensures ∙ sym segment)))
    (c.move_now-answer.ensures.whole h l q is_behind.whole segment lasts there)
    ((finish-requires-clause-stands g c.before.before).behind told).legal
    (st.behind told) c.move_now-answer.ensures.cause))

pub returns-clause-undamaged : goal.returns-clause-undamaged
returns-clause-undamaged g c told_now =
    let at = c.deref-lock.result.now in
    let o = (lock_start at).origin.me.0 in
    let tells = is_some (g.D.Watched.told (lock_start at).engine.disk) in
    let bytes = g.D.Held.HeldFile.bytes in
    let sure = NeverFails g.D.Watched.faults g.D.Reader.Reader.faults g.D.Writer.Writer.faults in
    let v = c.take-turn.result.token.now.me.0 in
    let l = layout_by o v.seen in
    let h = history_by o v.seen in
    let st = subst (λ (k : _). Stands bytes sure o tells v.seen
    (parts (g.D.Watched.told k.engine.disk) k.engine.core k.engine.merging k.engine.collecting k.engine.removing))
    (sym c.value-locked.ensures.value) c.take-turn.ensures.begins.meaning.1 in
    let before = c.self.inside.token in
    let told = over (sym c.deref-lock.ensures) (λ (k : _). is_some (g.D.Watched.told (lock_start k).engine.disk) ≡ true)
    (subst (λ (u : Knows). u.tells ≡ true) (sym c.self.view_is) told_now) in
    let is_behind = st.behind told in
    let lasted = over (sym c.deref-lock.ensures) (λ (k : _). HasLasted
    (knowing (lock_name k) (lock_start k).origin.me.0 (is_some (g.D.Watched.told (lock_start k).engine.disk))
    before) bytes c.args.pass.now.log)
    (subst (λ (u : Knows). HasLasted u bytes c.args.pass.now.log) (sym c.self.view_is) (c.requires.lasts (lock_start at).engine.disk told told_now)) in
    let lasts = still_lasts bytes o lasted.before v.seen c.args.pass.now.log is_behind.last
    (prefix_on lasted.before before.me.0.seen v.seen lasted.seen c.take-turn.ensures.begins.later) lasted.lasts in
    let there = c.requires.there (lock_start at).engine.disk told told_now in
    c.move_now-answer.ensures.undamaged h l is_behind.whole.represents.stands lasts there

pub returns-clause-merge : goal.returns-clause-merge
returns-clause-merge g c =
    let at = c.deref-lock.result.now in
    let o = (lock_start at).origin.me.0 in
    let tells = is_some (g.D.Watched.told (lock_start at).engine.disk) in
    let bytes = g.D.Held.HeldFile.bytes in
    let sure = NeverFails g.D.Watched.faults g.D.Reader.Reader.faults g.D.Writer.Writer.faults in
    let v = c.take-turn.result.token.now.me.0 in
    let l = layout_by o v.seen in
    let h = history_by o v.seen in
    let s = session_in v.owns in
    let st = subst (λ (k : _). Stands bytes sure o tells v.seen
    (parts (g.D.Watched.told k.engine.disk) k.engine.core k.engine.merging k.engine.collecting k.engine.removing))
    (sym c.value-locked.ensures.value) c.take-turn.ensures.begins.meaning.1 in
    let p : Pass = record { segment = c.segment-segment.result; base = []; left = [] } in
    let batch = c.of-moved.result.value in
    let outcome = move_outcome c.move_now-answer.result in
    let done : Done = done_by (move_done (relocate_ruling l h p batch).layout) (Changed, l) outcome in
    let before = c.self.inside.token in
    let after = c.finish.new.turn.1.0 in
    let is = over (sym c.deref-lock.ensures) (λ (k : _). IsSession (lock_name k) (lock_start k) before) c.self.invariant in
    rw (sym c.self.view_is) (over c.deref-lock.ensures (λ (k : _). KeepsOwnMerge
    (knowing (lock_name k) (lock_start k).origin.me.0 (is_some (g.D.Watched.told (lock_start k).engine.disk)) before)
    (knowing (lock_name k) (lock_start k).origin.me.0 (is_some (g.D.Watched.told (lock_start k).engine.disk)) after))
    (merge_kept _ (lock_name at) (lock_start at) c.take-turn.result.value before v is c.take-turn.ensures.begins o tells
    st.merges.keep after
    (relocate_entry p batch s l h outcome) (own_is _ (lock_name at) (lock_start at) o tells c.take-turn.result.value before after
    v (relocate_entry p batch s l h outcome) is c.take-turn.ensures.begins
    c.finish.ensures.entered)
    (number_now _ (lock_name at) (lock_start at) o tells c.take-turn.result.value before after v
    (relocate_entry p batch s l h outcome) is c.take-turn.ensures.begins
    c.finish.ensures.entered)
    (leaves_merge l s done (relocate_leaves l h p batch outcome))))

pub returns-clause-cause : goal.returns-clause-cause
returns-clause-cause g c = c.move_now-answer.ensures.counted
