use Rattle.std.proofs.Common.{arith, ◌≡◌, ◌++◌, ◌∷◌, [], ◌^◌, ◌<◌, ℕ, List, sym, subst, ◌∙◌, refl}
use Rattle.std.specs.Prelude.{IfNone, Ok, Option, Some}
use Rattle.std.proofs.lemmas.Result.{err_from_is_err_and}
use Rattle.vl_backup.proofs.Sending.{fails_by, never_damaged, no_err, no_fail, put_fails, reads_on, same_number, same_version}
use Rattle.vl_backup.proofs.Sending.{sends_begun, sends_ended, sends_next, told_held}
use Rattle.vl_engine_model.specs.Changes.{changes}
use Rattle.vl_model.specs.Keys.{Stored}
use Rattle.vl_model.specs.declared.change.Change.{Change}
use Rattle.vl_stream.specs.Grammar.{stream_grammar}
use Rattle.vl_stream.specs.Packing.{Packs, PacksOn}
use Rattle.vl_stream.specs.Streams.{frames}
use Rattle.vl_version.specs.Changes.{GivesNext, HasLeft, IsChangeFault, IsOver, StandsToEnd}
use Rattle.vl_version.specs.declared.version.Version.{Version}
use Rattle.vl_backup.proofs.backing.send.Goals as goal

pub loop-changes-init : goal.loop-changes-init
loop-changes-init g c = record {
  sends = λ h tells may.
      sends_begun (g.K.Sink.held c.args.sink.now) (g.K.Sink.held c.begin.new.sink) c.args.since _ _ _
      (HasLeft g.H.HeldFile.bytes c.args.view.now.version c.in_ok-changes.changes)
      (changes h c.args.since c.args.view.now.number)
      c.in_ok-packer.ensures.header c.in_ok-packer.ensures.begun (c.in_ok-changes.ensures.left h tells may);
  over = c.in_ok-changes.ensures.over;
  whole = c.in_ok-changes.ensures.whole;
  keeps = refl;
  still = λ h sees. sees;
  reads = refl;
  puts = c.in_ok-packer.ensures.cause.steady no_fail;
}

pub returns-in_err-key-clause-fault : goal.returns-in_err-key-clause-fault
returns-in_err-key-clause-fault g c =
    let p = err_from_is_err_and c.from_residual-in_err-key.result c.from_residual-in_err-key.ensures.1 in
    let same = same_version c.args.view.now c.loop-changes.view c.loop-changes.invariant.keeps in
    fails_by (IsChangeFault g.H.HeldFile.bytes c.args.view.now.version c.args.since) c.in_err-key.field-0.0 p.0 _ p.1 p.2
    (subst (λ (v : Version g.row.H.Denot). IsChangeFault g.H.HeldFile.bytes v c.args.since c.in_err-key.field-0.0) same
    (c.in_err-key.ensures.fault c.args.since
    (subst (λ (v : Version g.row.H.Denot). IsOver g.H.HeldFile.bytes v c.args.since c.loop-changes.changes) (sym same)
    c.loop-changes.invariant.over)))

pub returns-in_err-key-clause-sound : goal.returns-in_err-key-clause-sound
returns-in_err-key-clause-sound g c = λ h name place tells may is.
    let p = err_from_is_err_and c.from_residual-in_err-key.result c.from_residual-in_err-key.ensures.1 in
    let s = c.loop-changes.invariant.sends h tells may in
    never_damaged (HasLeft g.H.HeldFile.bytes c.loop-changes.view.version c.next_change.new.changes) s.rest
    c.in_err-key.field-0.0 p.0 _ name place (c.in_err-key.ensures.gives s.rest s.left) p.1 p.2 is

pub returns-in_err-key-clause-still : goal.returns-in_err-key-clause-still
returns-in_err-key-clause-still g c = λ h sees. c.next_change.ensures.still h (c.loop-changes.invariant.still h sees)

pub loop-changes-preserved : goal.loop-changes-preserved
loop-changes-preserved g c =
    let same = same_version c.args.view.now c.loop-changes.view c.loop-changes.invariant.keeps in
    let next = same_version c.loop-changes.view c.next_change.new.self c.next_change.ensures.keeps in
    record {
      sends = λ h tells may.
          let s = c.loop-changes.invariant.sends h tells may in
          let row : List ℕ × Option Stored = (c.in-Some.key, c.in-Some.value) in
          sends_next (g.K.Sink.held c.args.sink.now) (g.K.Sink.held c.loop-changes.sink) (g.K.Sink.held c.add.new.sink)
          c.args.since _ _ _ _ _ _ (HasLeft g.H.HeldFile.bytes c.loop-changes.view.version c.loop-changes.changes)
          (HasLeft g.H.HeldFile.bytes c.next_change.new.self.version c.next_change.new.changes)
          (changes h c.args.since c.args.view.now.number) row s
          (subst (λ (v : Version g.row.H.Denot). GivesNext
          (HasLeft g.H.HeldFile.bytes v c.next_change.new.changes) s.rest (Ok (Some row)))
          (sym next)
          (subst (λ (o : Option (List ℕ × Option Stored)). GivesNext
          (HasLeft g.H.HeldFile.bytes c.loop-changes.view.version c.next_change.new.changes) s.rest (Ok o))
          c.in-Some.is (c.in_ok-key.ensures.gives s.rest s.left)))
          (subst (λ (made : Change). PacksOn (g.K.Sink.held c.loop-changes.sink) (g.K.Sink.held c.add.new.sink) s.bytes
          (λ (got : List ℕ). Packs c.add.new.self.at c.add.new.self.records c.add.new.self.waiting.records.items got
          (s.done ++ (c.in-Some.key, made) ∷ []))) c.change_to.ensures
          (c.in_ok-add.ensures.packs s.bytes s.done s.packs));
      over =
          subst (λ (v : Version g.row.H.Denot). IsOver g.H.HeldFile.bytes v c.args.since c.next_change.new.changes) same
          (c.next_change.ensures.over c.args.since
          (subst (λ (v : Version g.row.H.Denot). IsOver g.H.HeldFile.bytes v c.args.since c.loop-changes.changes) (sym same)
          c.loop-changes.invariant.over));
      whole = λ stands. c.loop-changes.invariant.whole (c.next_change.ensures.back stands);
      keeps =
          reads_on c.args.view.now c.loop-changes.view c.next_change.new.self c.loop-changes.invariant.keeps
          c.next_change.ensures.keeps;
      still = λ h sees. c.next_change.ensures.still h (c.loop-changes.invariant.still h sees);
      reads = c.in_ok-key.ensures.cause.steady (λ none. none) ∙ c.loop-changes.invariant.reads;
      puts = c.in_ok-add.ensures.cause.steady (λ same. no_err _ _ same) ∙ c.loop-changes.invariant.puts;
    }

pub returns-in_err-add-clause-put : goal.returns-in_err-add-clause-put
returns-in_err-add-clause-put g c =
    let p = err_from_is_err_and c.from_residual-in_err-add.result c.from_residual-in_err-add.ensures.1 in
    put_fails {T = Unit {0}} (g.K.Sink.faults c.args.sink.now) (g.K.Sink.faults c.loop-changes.sink)
    (g.K.Sink.faults c.add.new.sink) c.in_err-add.field-0.0 p.0 _ c.in_err-add.ensures.cause
    c.loop-changes.invariant.puts p.1 p.2

pub returns-in_err-add-clause-still : goal.returns-in_err-add-clause-still
returns-in_err-add-clause-still g c = λ h sees. c.next_change.ensures.still h (c.loop-changes.invariant.still h sees)

pub returns-in_err-end-clause-put : goal.returns-in_err-end-clause-put
returns-in_err-end-clause-put g c =
    let p = err_from_is_err_and c.from_residual-in_err-end.result c.from_residual-in_err-end.ensures.1 in
    put_fails {T = ℕ} (g.K.Sink.faults c.args.sink.now) (g.K.Sink.faults c.loop-changes.sink) (g.K.Sink.faults c.end.new.sink)
    c.in_err-end.field-0.0 p.0 _ c.in_err-end.ensures.cause c.loop-changes.invariant.puts p.1 p.2

pub returns-in_err-end-clause-still : goal.returns-in_err-end-clause-still
returns-in_err-end-clause-still g c = λ h sees. c.next_change.ensures.still h (c.loop-changes.invariant.still h sees)

pub returns-clause-stream : goal.returns-clause-stream
returns-clause-stream g c = λ h tells may.
    let s = c.loop-changes.invariant.sends h tells may in
    let keeps = reads_on c.args.view.now c.loop-changes.view c.next_change.new.self c.loop-changes.invariant.keeps
    c.next_change.ensures.keeps in
    let own = c.number.ensures ∙ same_number c.args.view.now c.next_change.new.self keeps in
    let few : c.in_ok-end.field-0 < 2 ^ 64 = omega (arith, rw c.in_ok-end.was at c.end.type_inv) in
    let ended = c.in_ok-end.ensures.written s.bytes s.done s.packs in
    sends_ended (g.K.Sink.held c.args.sink.now) (g.K.Sink.held c.loop-changes.sink) (g.K.Sink.held c.end.new.sink) c.args.since
    c.args.view.now.number _ _ c.in_ok-end.field-0 _
    (HasLeft g.H.HeldFile.bytes c.loop-changes.view.version c.loop-changes.changes)
    (HasLeft g.H.HeldFile.bytes c.loop-changes.view.version c.next_change.new.changes)
    (changes h c.args.since c.args.view.now.number) s
    (subst (λ (o : Option (List ℕ × Option Stored)). GivesNext
    (HasLeft g.H.HeldFile.bytes c.loop-changes.view.version c.next_change.new.changes) s.rest (Ok o))
    c.in_default.is (c.in_ok-key.ensures.gives s.rest s.left))
    ended.0
    (subst (λ (n : ℕ). PacksOn (g.K.Sink.held c.loop-changes.sink) (g.K.Sink.held c.end.new.sink) s.bytes
    (λ (got : List ℕ). got ≡ frames stream_grammar n s.done)) own ended.1)
    (λ counted. told_held g.H.HeldFile.bytes c.args.view.now.version c.args.view.now.past c.args.since c.args.view.now.number
    c.in_ok-end.field-0 h tells may c.ranges.since.fits (omega (arith, own, c.number.type_inv)) few counted)

pub returns-clause-whole : goal.returns-clause-whole
returns-clause-whole g c =
    c.loop-changes.invariant.whole
    (subst (λ (o : Option (List ℕ × Option Stored)). IfNone o (StandsToEnd g.H.HeldFile.bytes c.loop-changes.changes))
    c.in_default.is c.in_ok-key.ensures.ended)

pub returns-clause-still : goal.returns-clause-still
returns-clause-still g c = λ h sees. c.next_change.ensures.still h (c.loop-changes.invariant.still h sees)
