use Rattle.std.proofs.Common.{◌≡◌, ◌+◌, List, ap, refl, sym, subst, ◌∙◌, inl, inr, drop, length, ◌++◌, arith}
use Rattle.std.proofs.Common.{Option}
use Rattle.vl_collect.proofs.Failing.{passed_on, looks_later}
use Rattle.std.proofs.lemmas.List.Elements.{All-contains_itself, All-push, All-weaker, Contains-get_or}
use Rattle.std.specs.List.{All, Contains}
use Rattle.std.specs.Prelude.{IfSome}
use Rattle.vl_collect.proofs.Outcomes.{left_out, passed_by, records_end, taken_in}
use Rattle.vl_collect.proofs.Rising.{InFront, all_rise, lawful_one, passes_on, takes_on}
use Rattle.vl_collect.proofs.take.take_found.Goals.{in-None, in-Some+else-not-has_room+in_ok-put-in-Some}
use Rattle.vl_collect.specs.Batches.{IsLawful, IsOf, IsOldOrOf}
use Rattle.vl_collect.specs.Taking.{candidates, one_of, outcome, record_of, records_as}
use Rattle.vl_collect.specs.declared.batch.Found.{Found}
use Rattle.vl_engine_model.specs.Logs.{LogRecord}
use Rattle.vl_engine_model.specs.Relocation.{found_in, has_room, value_lengths}
use Rattle.vl_collect.proofs.take.take_found.Goals as goal

pub returns-in_err-found_in-clause-cause : goal.returns-in_err-found_in-clause-cause
returns-in_err-found_in-clause-cause g c =
    passed_on _ c.from_residual.result _ c.from_residual.ensures.1
    (looks_later (λ f. g.V.Sources.is_read_fault f) (g.V.Sources.may_fail c.args.base.now) _ _ c.loop-at.invariant.fits _ _ _
    c.loop-at.invariant.steady _ c.in_err-found_in.ensures.cause)

pub returns-then-not-has_room-clause-passes : goal.returns-then-not-has_room-clause-passes
returns-then-not-has_room-clause-passes g c = λ entries fits has.
    let one = subst (λ (o : Option Found). one_of o ≡ found_in entries c.args.segment (record_of c.index-records-at.result)) c.in-Some.is
    (c.in_ok-found_in.ensures.found entries (c.loop-at.invariant.fits fits) has) in
    let room = subst (λ (xs : List Found). c.has_room.result ≡ has_room (length xs) (value_lengths (candidates xs))
    c.len.result) c.deref.ensures.value
    c.has_room.ensures in
    record {
      same = λ others. c.loop-at.invariant.same entries fits has others;
      stops = inr (λ others. left_out entries c.args.segment c.args.records.now c.loop-at.at c.index-records-at.result c.loop-at-test.true
          c.index-records-at.is c.loop-at.batch.items c.in-Some.found one
          (sym (room ∙ ap (has_room (length c.loop-at.batch.items) (value_lengths (candidates c.loop-at.batch.items)))
          c.len.ensures) ∙ c.if-not-has_room.true) others);
    }

pub returns-clause-passes : goal.returns-clause-passes
returns-clause-passes g c = λ entries fits has.
    let recs = c.args.records.now in
    let now = records_end recs c.loop-at.at (omega (arith, c.loop-at-test.false)) in
    let end = records_end recs (length recs) (omega arith) in
    record {
      same = λ others. c.loop-at.invariant.same entries fits has others
          ∙ ap (λ (l : List LogRecord). outcome entries c.args.segment (candidates c.loop-at.batch.items) (l ++ others)) (now ∙ sym end);
      stops = inl end;
    }

pub returns-then-not-has_room-clause-rises : goal.returns-then-not-has_room-clause-rises
returns-then-not-has_room-clause-rises g c = λ low high before behind.
    all_rise c.loop-at.batch.items (drop c.loop-at.at c.args.records.now) high (c.loop-at.invariant.rises low high before behind)

pub returns-clause-rises : goal.returns-clause-rises
returns-clause-rises g c = λ low high before behind.
    all_rise c.loop-at.batch.items (drop c.loop-at.at c.args.records.now) high (c.loop-at.invariant.rises low high before behind)

pub loop-at-init : goal.loop-at-init
loop-at-init g c =
    let old = c.args.batch.now.items in
    record {
      same = λ entries fits has others. refl;
      rises = λ low high before behind. (low, before, behind);
      lawful = λ all before. before;
      read = All-weaker (Contains old) (IsOldOrOf old c.args.records.now) (λ x there. inl there) old (All-contains_itself old);
      fits = λ fits. fits;
      steady = refl;
    }

pub loop-at-preserved : goal.loop-at-preserved
loop-at-preserved g c =
    let recs = c.args.records.now in
    let at = c.loop-at.at in
    let r = c.index-records-at.result in
    let taken = c.loop-at.batch.items in
    record {
      same = λ entries fits has others.
          let segment = c.args.segment in
          let found = c.in_ok-found_in.ensures.found entries (c.loop-at.invariant.fits fits) has in
          let so_far = c.loop-at.invariant.same entries fits has others in
          let rest = records_as (drop (at + 1) recs) ++ others in
          elim c.match-branch-2.branch [
            | in-None w ↦
                so_far
                ∙ passed_by entries segment recs at r c.loop-at-test.true c.index-records-at.is taken
                (subst (λ (o : Option Found). one_of o ≡ found_in entries segment (record_of r)) w.in-None.is found) others
                ∙ ap (λ (xs : List Found). outcome entries segment (candidates xs) rest) (sym (ap (λ v. v.items) w.batch-is))
            | in-Some+else-not-has_room+in_ok-put-in-Some w ↦
                let one = subst (λ (o : Option Found). one_of o ≡ found_in entries segment (record_of r)) w.in-Some.is found in
                let room = subst (λ (xs : List Found). w.has_room.result ≡ has_room (length xs)
                (value_lengths (candidates xs)) w.len.result)
                w.deref.ensures.value w.has_room.ensures in
                so_far
                ∙ taken_in entries segment recs at r c.loop-at-test.true c.index-records-at.is taken w.in-Some.found one
                (sym (room ∙ ap (has_room (length taken) (value_lengths (candidates taken))) w.len.ensures)
                ∙ w.if-not-has_room.false) others
                ∙ ap (λ (xs : List Found). outcome entries segment (candidates xs) rest)
                (sym (ap (λ v. v.items) w.batch-is ∙ w.in_ok-put-in-Some.ensures))
          ];
      rises = λ low high before behind.
          let front = c.loop-at.invariant.rises low high before behind in
          elim c.match-branch-2.branch [
            | in-None w ↦
                subst (λ (xs : List Found). InFront xs (drop (at + 1) recs) high) (sym (ap (λ v. v.items) w.batch-is))
                (passes_on taken recs at r c.loop-at-test.true c.index-records-at.is high front)
            | in-Some+else-not-has_room+in_ok-put-in-Some w ↦
                subst (λ (xs : List Found). InFront xs (drop (at + 1) recs) high)
                (sym (ap (λ v. v.items) w.batch-is ∙ w.in_ok-put-in-Some.ensures))
                (takes_on taken recs at r c.loop-at-test.true c.index-records-at.is high w.in-Some.found
                (subst (λ (o : Option Found). IfSome o (IsOf r)) w.in-Some.is c.in_ok-found_in.ensures.is) front)
          ];
      lawful = λ all before.
          let so_far = c.loop-at.invariant.lawful all before in
          elim c.match-branch-2.branch [
            | in-None w ↦ subst (λ (xs : List Found). All IsLawful xs) (sym (ap (λ v. v.items) w.batch-is)) so_far
            | in-Some+else-not-has_room+in_ok-put-in-Some w ↦
                subst (λ (xs : List Found). All IsLawful xs) (sym (ap (λ v. v.items) w.batch-is ∙ w.in_ok-put-in-Some.ensures))
                (All-push IsLawful taken w.in-Some.found so_far
                (lawful_one taken recs at r c.loop-at-test.true c.index-records-at.is all w.in-Some.found
                (subst (λ (o : Option Found). IfSome o (IsOf r)) w.in-Some.is c.in_ok-found_in.ensures.is)))
          ];
      read =
          let all = IsOldOrOf c.args.batch.now.items recs in
          let so_far = c.loop-at.invariant.read in
          elim c.match-branch-2.branch [
            | in-None w ↦ subst (λ (xs : List Found). All all xs) (sym (ap (λ v. v.items) w.batch-is)) so_far
            | in-Some+else-not-has_room+in_ok-put-in-Some w ↦
                subst (λ (xs : List Found). All all xs) (sym (ap (λ v. v.items) w.batch-is ∙ w.in_ok-put-in-Some.ensures))
                (All-push all taken w.in-Some.found so_far (inr (record {
                  r = r;
                  among = subst (Contains recs) (sym c.index-records-at.is) (Contains-get_or recs at r c.loop-at-test.true);
                  is = subst (λ (o : Option Found). IfSome o (IsOf r)) w.in-Some.is c.in_ok-found_in.ensures.is;
                })))
          ];
      fits = λ fits. c.found_in.ensures.fits (c.loop-at.invariant.fits fits);
      steady = c.in_ok-found_in.ensures.steady ∙ c.loop-at.invariant.steady;
    }
