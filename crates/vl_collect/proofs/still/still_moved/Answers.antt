use Rattle.std.proofs.Common.{◌≡◌, Bool, List, [], map, ap, sym, subst, ◌∙◌, inr, true, false}
use Rattle.std.proofs.lemmas.List.Elements.{All-push}
use Rattle.std.specs.List.{All, AllByRecursion, Contains}
use Rattle.vl_collect.proofs.Apart.{all_more, is_among, is_apart, is_lawful, once_more}
use Rattle.vl_collect.proofs.Failing.{passed_on, theirs_later}
use Rattle.vl_collect.proofs.Stills.{one_moved, one_stays}
use Rattle.vl_collect.proofs.still.still_moved.Goals as goal
use Rattle.vl_collect.proofs.still.still_moved.Goals.{then-branch+then-is_elsewhere+in_ok-put, else-branch}
use Rattle.vl_collect.proofs.still.still_moved.Goals.{else-branch-via-then-branch+else-is_elsewhere, else-branch-via-else-branch}
use Rattle.vl_engine_model.specs.Relocation.{Candidate}
use Rattle.vl_model.specs.Formats.{log_format}
use Rattle.vl_model.specs.declared.log_frame.Moved.{Moved}
use Rattle.vl_seglog.specs.Moves.{AreOnce, IsElsewhere, IsMoved}

pub returns-in_err-is_moved-clause-cause : goal.returns-in_err-is_moved-clause-cause
returns-in_err-is_moved-clause-cause g c =
    passed_on _ c.from_residual.result _ c.from_residual.ensures.1
    (inr
    (theirs_later (λ f. g.V.Sources.is_read_fault f) (g.V.Sources.may_fail c.args.sources.now) _ _ c.loop-found.invariant.fits _ _ _
    c.loop-found.invariant.steady _ c.in_err-is_moved.ensures.cause))

not_both : (b : Bool) → b ≡ true → b ≡ false → ⊥
not_both b is isnt = cc

pub loop-found-preserved : goal.loop-found-preserved
loop-found-preserved g c =
    let xs = c.records-found-items.result.now in
    let is_batch = c.records-found-items.ensures.batch in
    let are = c.records-found-items.ensures.are in
    let i = c.loop-found.found-index in
    let x = c.found-item.result in
    let moved = c.loop-found.moved.items in
    record {
      moved = λ entries fits has.
          let tested = c.in_ok-is_moved.ensures.moved entries (c.loop-found.invariant.fits fits) has in
          let so_far = c.loop-found.invariant.moved entries fits has in
          elim c.if-branch.branch [
            | then-branch+then-is_elsewhere+in_ok-put w ↦
                ap (λ v. v.items) w.moved-is ∙ w.in_ok-put.ensures
                ∙ one_moved entries c.args.segment c.args.last xs c.args.batch.now are i x c.loop-found-test.true c.found-item.is moved
                so_far (sym tested ∙ w.if-branch.true)
            | else-branch w ↦
                elim w.else-branch.branch [
                  | else-branch-via-then-branch+else-is_elsewhere w' ↦
                      let apart = is_apart entries c.args.segment c.args.last xs is_batch c.args.batch.now are i x c.loop-found-test.true
                      c.found-item.is (sym tested ∙ w'.if-branch.true) moved so_far in
                      absurd (not_both w'.is_elsewhere.result
                      (w'.is_elsewhere.ensures.1
                      (subst (λ (ms : List Moved). IsElsewhere x.moved ms) (sym w'.deref.ensures.value) apart))
                      w'.if-is_elsewhere.false)
                  | else-branch-via-else-branch w' ↦
                      ap (λ v. v.items) w.moved-is
                      ∙ one_stays entries c.args.segment c.args.last xs c.args.batch.now are i x c.loop-found-test.true c.found-item.is
                      moved so_far (sym tested ∙ w'.if-branch.false)
                ]
          ];
      lawful = elim c.if-branch.branch [
        | then-branch+then-is_elsewhere+in_ok-put w ↦
            subst (λ (ms : List Moved). AllByRecursion (IsMoved log_format) ms) (sym (ap (λ v. v.items) w.moved-is ∙ w.in_ok-put.ensures))
            (all_more moved x.moved c.loop-found.invariant.lawful
            (is_lawful [] 0 0 xs is_batch c.args.batch.now are i x c.loop-found-test.true c.found-item.is))
        | else-branch w ↦
            subst (λ (ms : List Moved). AllByRecursion (IsMoved log_format) ms) (sym (ap (λ v. v.items) w.moved-is))
            c.loop-found.invariant.lawful
      ];
      once = elim c.if-branch.branch [
        | then-branch+then-is_elsewhere+in_ok-put w ↦
            subst (λ (ms : List Moved). AreOnce ms) (sym (ap (λ v. v.items) w.moved-is ∙ w.in_ok-put.ensures))
            (once_more x.moved moved c.loop-found.invariant.once
            (subst (λ (ms : List Moved). IsElsewhere x.moved ms) w.deref.ensures.value (w.is_elsewhere.ensures.0 w.if-is_elsewhere.true)))
        | else-branch w ↦ subst (λ (ms : List Moved). AreOnce ms) (sym (ap (λ v. v.items) w.moved-is)) c.loop-found.invariant.once
      ];
      among =
          let IsAmong : Moved → Type 0 = λ m. Contains (map (λ (c : Candidate). c.moved) c.args.batch.now) m in
          elim c.if-branch.branch [
            | then-branch+then-is_elsewhere+in_ok-put w ↦
                subst (All IsAmong) (sym (ap (λ v. v.items) w.moved-is ∙ w.in_ok-put.ensures))
                (All-push IsAmong moved x.moved c.loop-found.invariant.among
                (is_among [] 0 0 xs is_batch c.args.batch.now are i x c.loop-found-test.true c.found-item.is))
            | else-branch w ↦ subst (All IsAmong) (sym (ap (λ v. v.items) w.moved-is)) c.loop-found.invariant.among
          ];
      fits = λ fits. c.is_moved.ensures.fits (c.loop-found.invariant.fits fits);
      steady = c.in_ok-is_moved.ensures.steady ∙ c.loop-found.invariant.steady;
    }
