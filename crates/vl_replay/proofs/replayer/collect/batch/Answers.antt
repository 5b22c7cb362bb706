-- A batch is answered as the pass gives it, and waits then.
use Rattle.std.proofs.Common.{◌∙◌, inl, inr, refl, ap, sym, subst, ℕ, true, false, List}
use Rattle.std.specs.Prelude.{Option, None, Some, Ok, Err}
use Rattle.std.specs.Str.{bytes_eq}
use Rattle.vl_engine_model.specs.Relocation.{Candidate}
use Rattle.vl_engine_model.specs.Store.Lines.{Name}
use Rattle.vl_engine_model.specs.Store.Dispatch.{batch_by}
use Rattle.vl_engine_model.specs.Store.Lines as store_lines
use Rattle.vl_engine_model.specs.Store.Things.{thing_of}
use Rattle.vl_script_model.specs.Halts.{HaltsByDamage, HaltsByReader}
use Rattle.vl_replay_laws.specs.Passing.{Passes}
use Rattle.vl_script_model.specs.declared.fails.Halt.{Halt}
use Rattle.vl_script.specs.declared.answer.Answer.{Answer}
use Rattle.vl_script.specs.declared.answer.Answer.TheVariants as answers
use Rattle.vl_replay_laws.specs.laws.Names.BeginMaking.{none_or_some}
use Rattle.vl_replay_laws.specs.laws.Names.Making.{only_makes}
use Rattle.vl_replay_laws.specs.laws.Passes.Batching.{batch_makes, batch_unknown, none_named, other_named, own_name, passes_then, there_is}
use Rattle.vl_replay_laws.specs.laws.Passes.Undamaged.{undamaged}
use Rattle.vl_replay.proofs.AsCalled.Going.{batch_answered, no_counts, out_of_memory, passing_weaker, some_of}
use Rattle.vl_replay.specs.AsCalled.{AnswersBatch, batch_answer}
use Rattle.vl_replay.proofs.AsCalled.Passing.{passing_fails}
use Rattle.vl_replay.proofs.replayer.collect.batch.Goals as goal

pub returns-in_default-clause-makes : goal.returns-in_default-clause-makes
returns-in_default-clause-makes g c s stands =
    only_makes g.D.Held.HeldFile.bytes (g.D.Watched.told c.args.served.now.engine.disk) c.args.served.now.engine.core
    c.args.served.now.opens.items s stands.serves c.args.served.now.opens.items
    (batch_by s.store c.args.name (thing_of s.store c.args.name)) (answers.Unknown c.args.name) (store_lines.Unknown c.args.name)
    (batch_unknown s.store c.args.name (thing_of s.store c.args.name)
    (none_named g.D.Held.HeldFile.bytes s.store.things s.store.layout c.args.passing.now stands.passes.is_open c.args.name c.args.name refl
    c.in_default.is)) refl stands.serves.names

pub returns-then-not-is_named-clause-makes : goal.returns-then-not-is_named-clause-makes
returns-then-not-is_named-clause-makes g c s stands =
    only_makes g.D.Held.HeldFile.bytes (g.D.Watched.told c.args.served.now.engine.disk) c.args.served.now.engine.core
    c.args.served.now.opens.items s stands.serves c.args.served.now.opens.items
    (batch_by s.store c.args.name (thing_of s.store c.args.name)) (answers.Unknown c.args.name) (store_lines.Unknown c.args.name)
    (batch_unknown s.store c.args.name (thing_of s.store c.args.name)
    (other_named g.D.Held.HeldFile.bytes s.store.things s.store.layout c.args.passing.now stands.passes.is_open c.args.name
    c.as_slice.result.now c.as_slice.ensures c.in-Some.going c.in-Some.is (sym c.is_named.ensures ∙ c.if-not-is_named.true))) refl
    stands.serves.names

pub returns-in-Ok-Some-clause-makes : goal.returns-in-Ok-Some-clause-makes
returns-in-Ok-Some-clause-makes g c s stands =
    let bytes = g.D.Held.HeldFile.bytes in
    let before = subst (λ (o : Option _). Passes bytes c.args.served.now.engine.core c.args.served.now.engine.collecting o s.store.things
    s.store.layout) c.in-Some.is stands.passes in
    let name_is = own_name bytes s.store.things s.store.layout c.args.passing.now stands.passes.is_open c.args.name c.as_slice.result.now
    c.as_slice.ensures c.in-Some.going c.in-Some.is (sym c.is_named.ensures ∙ c.if-not-is_named.false) in
    let none = none_or_some c.in-Some.going.batch (sym c.is_some.ensures ∙ c.if-is_some.false) in
    let gives = c.in-Ok-Some.ensures.gives before.is_open.pass
    (before.is_open.looks c.in_ok-reader.reader.looks (λ files. c.in_ok-reader.ensures.blocks files)) before.is_open.goes in
    batch_makes bytes (g.D.Watched.told c.args.served.now.engine.disk) c.args.served.now.engine.core c.args.served.now.opens.items s
    stands.serves c.args.name before.is_open.pass (there_is bytes c.args.served.now.engine.core c.args.served.now.engine.collecting s.store
    c.args.name c.in-Some.going c.in-Some.going before name_is none refl refl) (Some c.in-Ok-Some.batch)
    (sym c.in-Ok-Some.field-0-is ∙ gives.batch_is) (answers.FoundRecords c.len-count.result)
    (ap store_lines.Found c.len-count.ensures)

pub returns-in-Ok-Some-clause-passes : goal.returns-in-Ok-Some-clause-passes
returns-in-Ok-Some-clause-passes g c s stands =
    let bytes = g.D.Held.HeldFile.bytes in
    let before = subst (λ (o : Option _). Passes bytes c.args.served.now.engine.core c.args.served.now.engine.collecting o s.store.things
    s.store.layout) c.in-Some.is stands.passes in
    let name_is = own_name bytes s.store.things s.store.layout c.args.passing.now stands.passes.is_open c.args.name c.as_slice.result.now
    c.as_slice.ensures c.in-Some.going c.in-Some.is (sym c.is_named.ensures ∙ c.if-not-is_named.false) in
    let none = none_or_some c.in-Some.going.batch (sym c.is_some.ensures ∙ c.if-is_some.false) in
    let gives = c.in-Ok-Some.ensures.gives before.is_open.pass
    (before.is_open.looks c.in_ok-reader.reader.looks (λ files. c.in_ok-reader.ensures.blocks files)) before.is_open.goes in
    passes_then bytes c.args.served.now.engine.core c.args.served.now.engine.collecting s.store c.args.name c.in-Some.going
    (record { name = c.in-Some.going.name; pass = c.next.new.self; batch = Some c.in-Ok-Some.batch }) before name_is none refl
    c.next.ensures.kept (Some c.in-Ok-Some.batch) refl (sym c.in-Ok-Some.field-0-is ∙ gives.batch_is) gives.now
    c.in-Ok-Some.ensures.ends

pub returns-in-Ok-None-clause-makes : goal.returns-in-Ok-None-clause-makes
returns-in-Ok-None-clause-makes g c s stands =
    let bytes = g.D.Held.HeldFile.bytes in
    let before = subst (λ (o : Option _). Passes bytes c.args.served.now.engine.core c.args.served.now.engine.collecting o s.store.things
    s.store.layout) c.in-Some.is stands.passes in
    let name_is = own_name bytes s.store.things s.store.layout c.args.passing.now stands.passes.is_open c.args.name c.as_slice.result.now
    c.as_slice.ensures c.in-Some.going c.in-Some.is (sym c.is_named.ensures ∙ c.if-not-is_named.false) in
    let none = none_or_some c.in-Some.going.batch (sym c.is_some.ensures ∙ c.if-is_some.false) in
    let gives = c.in-Ok-None.ensures.gives before.is_open.pass
    (before.is_open.looks c.in_ok-reader.reader.looks (λ files. c.in_ok-reader.ensures.blocks files)) before.is_open.goes in
    batch_makes bytes (g.D.Watched.told c.args.served.now.engine.disk) c.args.served.now.engine.core c.args.served.now.opens.items s
    stands.serves c.args.name before.is_open.pass (there_is bytes c.args.served.now.engine.core c.args.served.now.engine.collecting s.store
    c.args.name c.in-Some.going c.in-Some.going before name_is none refl refl) None (sym c.in-Ok-None.field-0-is ∙ gives.batch_is)
    answers.End refl

pub returns-in-Ok-None-clause-passes : goal.returns-in-Ok-None-clause-passes
returns-in-Ok-None-clause-passes g c s stands =
    let bytes = g.D.Held.HeldFile.bytes in
    let before = subst (λ (o : Option _). Passes bytes c.args.served.now.engine.core c.args.served.now.engine.collecting o s.store.things
    s.store.layout) c.in-Some.is stands.passes in
    let name_is = own_name bytes s.store.things s.store.layout c.args.passing.now stands.passes.is_open c.args.name c.as_slice.result.now
    c.as_slice.ensures c.in-Some.going c.in-Some.is (sym c.is_named.ensures ∙ c.if-not-is_named.false) in
    let none = none_or_some c.in-Some.going.batch (sym c.is_some.ensures ∙ c.if-is_some.false) in
    let gives = c.in-Ok-None.ensures.gives before.is_open.pass
    (before.is_open.looks c.in_ok-reader.reader.looks (λ files. c.in_ok-reader.ensures.blocks files)) before.is_open.goes in
    passes_then bytes c.args.served.now.engine.core c.args.served.now.engine.collecting s.store c.args.name c.in-Some.going
    (record { name = c.in-Some.going.name; pass = c.next.new.self; batch = c.in-Some.going.batch }) before name_is none refl
    c.next.ensures.kept None none (sym c.in-Ok-None.field-0-is ∙ gives.batch_is) gives.now c.in-Ok-None.ensures.ends

pub returns-clause-undamaged : goal.returns-clause-undamaged
returns-clause-undamaged g c s stands halts =
    let bytes = g.D.Held.HeldFile.bytes in
    let before = subst (λ (o : Option _). Passes bytes c.args.served.now.engine.core c.args.served.now.engine.collecting o s.store.things
    s.store.layout) c.in-Some.is stands.passes in
    undamaged bytes c.in-Some.going s.store.things s.store.layout before.is_open c.in_ok-reader.reader.looks
    (before.is_open.looks c.in_ok-reader.reader.looks (λ files. c.in_ok-reader.ensures.blocks files)) _ _ c.in-Err.fault
    c.in-Err.ensures.cause
    (subst (λ (h : Halt). HaltsByDamage {T = Answer} (Err h)) c.halt_at.ensures halts)

-- ---- what it is answered, whatever the disk holds

pub returns-in_default-clause-as_called : goal.returns-in_default-clause-as_called
returns-in_default-clause-as_called g c =
    subst (λ (p : Option _). AnswersBatch g.D.Held.HeldFile.bytes p c.args.name (Ok (answers.Unknown c.args.name))) (sym c.in_default.is) refl

pub returns-then-not-is_named-clause-as_called : goal.returns-then-not-is_named-clause-as_called
returns-then-not-is_named-clause-as_called g c =
    batch_answered g.D.Held.HeldFile.bytes c.args.passing.now c.in-Some.going c.in-Some.is c.args.name false
    (ap (λ (n : Name). bytes_eq n c.in-Some.going.name) (sym c.as_slice.ensures) ∙ sym c.is_named.ensures ∙ c.if-not-is_named.true)
    c.in-Some.going.batch refl _ refl

pub returns-then-is_some-clause-as_called : goal.returns-then-is_some-clause-as_called
returns-then-is_some-clause-as_called g c =
    let (batch, waits) = some_of c.in-Some.going.batch (sym c.is_some.ensures ∙ c.if-is_some.true) in
    batch_answered g.D.Held.HeldFile.bytes c.args.passing.now c.in-Some.going c.in-Some.is c.args.name true
    (ap (λ (n : Name). bytes_eq n c.in-Some.going.name) (sym c.as_slice.ensures) ∙ sym c.is_named.ensures ∙ c.if-not-is_named.false)
    (Some batch) waits _ refl

pub returns-in_err-reader-clause-as_called : goal.returns-in_err-reader-clause-as_called
returns-in_err-reader-clause-as_called g c =
    batch_answered g.D.Held.HeldFile.bytes c.args.passing.now c.in-Some.going c.in-Some.is c.args.name true
    (ap (λ (n : Name). bytes_eq n c.in-Some.going.name) (sym c.as_slice.ensures) ∙ sym c.is_named.ensures ∙ c.if-not-is_named.false)
    None (none_or_some c.in-Some.going.batch (sym c.is_some.ensures ∙ c.if-is_some.false)) _
    (inl (out_of_memory c.from_residual.result c.from_residual.ensures.0 c.from_residual.ensures.1))

pub returns-in-Ok-Some-clause-as_called : goal.returns-in-Ok-Some-clause-as_called
returns-in-Ok-Some-clause-as_called g c =
    batch_answered g.D.Held.HeldFile.bytes c.args.passing.now c.in-Some.going c.in-Some.is c.args.name true
    (ap (λ (n : Name). bytes_eq n c.in-Some.going.name) (sym c.as_slice.ensures) ∙ sym c.is_named.ensures ∙ c.if-not-is_named.false)
    None (none_or_some c.in-Some.going.batch (sym c.is_some.ensures ∙ c.if-is_some.false)) _
    (inr (
      Ok c.in-Ok-Some.field-0,
      c.next.new.self.at.place,
      no_counts,
      record { reaches = c.in-Ok-Some.ensures.reaches; over = c.in-Ok-Some.ensures.over; given = c.in-Ok-Some.ensures.read; cause = tt },
      ap (λ (n : ℕ). Ok (answers.FoundRecords n)) c.len-count.ensures
          ∙ sym (ap (λ (o : Option (List Candidate)). batch_answer (Ok o)) c.in-Ok-Some.field-0-is),
    ))

pub returns-in-Ok-None-clause-as_called : goal.returns-in-Ok-None-clause-as_called
returns-in-Ok-None-clause-as_called g c =
    batch_answered g.D.Held.HeldFile.bytes c.args.passing.now c.in-Some.going c.in-Some.is c.args.name true
    (ap (λ (n : Name). bytes_eq n c.in-Some.going.name) (sym c.as_slice.ensures) ∙ sym c.is_named.ensures ∙ c.if-not-is_named.false)
    None (none_or_some c.in-Some.going.batch (sym c.is_some.ensures ∙ c.if-is_some.false)) _
    (inr (
      Ok c.in-Ok-None.field-0,
      c.next.new.self.at.place,
      no_counts,
      record { reaches = c.in-Ok-None.ensures.reaches; over = c.in-Ok-None.ensures.over; given = c.in-Ok-None.ensures.read; cause = tt },
      sym (ap (λ (o : Option (List Candidate)). batch_answer (Ok o)) c.in-Ok-None.field-0-is),
    ))

pub returns-clause-as_called : goal.returns-clause-as_called
returns-clause-as_called g c =
    batch_answered g.D.Held.HeldFile.bytes c.args.passing.now c.in-Some.going c.in-Some.is c.args.name true
    (ap (λ (n : Name). bytes_eq n c.in-Some.going.name) (sym c.as_slice.ensures) ∙ sym c.is_named.ensures ∙ c.if-not-is_named.false)
    None (none_or_some c.in-Some.going.batch (sym c.is_some.ensures ∙ c.if-is_some.false)) _
    (inr (
      Err c.in-Err.fault,
      c.in-Some.going.pass.at.place,
      _,
      record {
        reaches = tt;
        over = tt;
        given = tt;
        cause = passing_weaker _ _ _ (λ f may fits. may (fits c.in_ok-reader.reader.looks (λ files. c.in_ok-reader.ensures.blocks files)))
            c.in-Some.going.pass.log.number _ _ c.in-Err.fault c.in-Err.ensures.cause;
      },
      ap Err c.halt_at.ensures,
    ))

-- ---- what failed

pub returns-clause-fault : goal.returns-clause-fault
returns-clause-fault g c by =
    passing_fails g.D.Reader.Reader.faults _ _ _ c.in_ok-reader.reader.looks c.next.new.looks c.in_ok-reader.reader.files c.next.new.files
    (g.D.Watched.gives_steady c.args.served.now.engine.disk) c.in_ok-reader.ensures.looks.never_fails
    c.in_ok-reader.ensures.files.never_fails c.in-Err.fault c.in-Err.ensures.cause
    (subst (λ (h : Halt). HaltsByReader {T = Answer} (Err h)) c.halt_at.ensures by)
