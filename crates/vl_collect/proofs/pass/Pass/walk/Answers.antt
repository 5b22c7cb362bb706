use Rattle.std.proofs.Common.{◌≡◌, ℕ, ◌+◌, List, length, drop, Option, Some, refl, ap, sym, subst, ◌∙◌, arith}
use Rattle.vl_collect.proofs.Failing.{log_behind, passed_on}
use Rattle.vl_collect.proofs.Frames.{frame_behind, frame_moves}
use Rattle.vl_collect.proofs.Rising.{test_of}
use Rattle.vl_collect.proofs.Walking.{all_read, as_given, at_end, ends_on, ends_torn, frame_within, leads_on, stays, walks_on, walks_to}
use Rattle.vl_collect.specs.Passing.{EndAt, FramesTo, IsTornAt}
use Rattle.vl_collect.specs.Taking.{Passes, candidates, records_as}
use Rattle.vl_seglog.specs.Placed.{IsFrameAt}
use Rattle.vl_seglog.specs.Sealed.{IsFound, IsTorn}
use Rattle.vl_seglog.specs.declared.frame.Frame.{Frame}
use Rattle.vl_seglog.specs.declared.frame.ReadRecord.{ReadRecord}
use Rattle.vl_collect.proofs.pass.Pass.walk.Goals as goal

pub returns-in_err-frame-clause-cause : goal.returns-in_err-frame-clause-cause
returns-in_err-frame-clause-cause g c =
    let log = c.args.self.now.log in
    let start = c.args.self.now.at.place in
    let here = c.loop-at.at.place in
    passed_on _ c.from_residual.result _ c.from_residual.ensures.1
    (log_behind (λ f. g.V.Sources.is_read_fault f) (g.V.Sources.may_fail c.args.self.now.base) log.number _ _ _ _
    c.loop-at.invariant.steady _ _ _ (λ bytes place. IsTornAt log.format log.number bytes start place) refl (g.H.HeldFile.bytes log.held)
    _ (λ bytes at. IsTorn log.format log.number here bytes × (at ≡ here)) c.in_err-frame.field-0.0 c.in_err-frame.ensures.answers
    (λ bytes told place bad. record {
      to = subst (λ (n : ℕ). FramesTo log.format log.number bytes start n) (sym bad.1)
          (c.loop-at.invariant.leads bytes told here (stays log.format log.number bytes here));
      torn = subst (λ n. IsTorn log.format log.number n bytes) (sym bad.1) bad.0;
      ends = λ end at. bad.1 ∙ ends_torn log.format log.number bytes here end bad.0 (c.loop-at.invariant.ends bytes told end at);
    }))

pub returns-then-done-count-clause-walks : goal.returns-then-done-count-clause-walks
returns-then-done-count-clause-walks g c = λ p fits is.
    let log = c.args.self.now.log in
    let w = c.loop-at.invariant.walked p fits is in
    let at = c.loop-at.at in
    let f = c.in-Some.frame in
    let recs = c.records_of-records.result.now in
    let found = subst (λ (o : Option Frame). IsFound log.format log.number at.place w.told o) c.in-Some.is
    (c.in_ok-frame.ensures.answers.answer w.told w.tells) in
    let lies : IsFrameAt log.format log.number at.place f = rw c.in-Some.is at c.in_ok-frame.ensures.place in
    let passes = subst (λ (rs : List ReadRecord). Passes p.base p.segment (candidates c.loop-at.batch.items)
    (records_as (drop at.done rs)) (candidates c.take_found.new.batch.items) (records_as (drop c.in_ok-done.done rs)))
    c.records_of-records.ensures
    (subst (λ (n : ℕ). Passes p.base n (candidates c.loop-at.batch.items) (records_as (drop at.done recs))
    (candidates c.take_found.new.batch.items) (records_as (drop c.in_ok-done.done recs)))
    is.segment (c.in_ok-done.ensures.passes p.base (c.loop-at.invariant.fits fits) is.base)) in
    walks_to g.H.HeldFile.bytes log p c.args.batch.now.items c.loop-at.batch.items at w f found lies
    c.take_found.new.batch.items c.in_ok-done.done passes
    (omega (arith, c.if-done-count.true, ap length c.records_of-records.ensures))

pub returns-then-done-count-clause-reaches : goal.returns-then-done-count-clause-reaches
returns-then-done-count-clause-reaches g c = λ told tells.
    let log = c.args.self.now.log in
    c.loop-at.invariant.leads told tells c.loop-at.at.place (stays log.format log.number told c.loop-at.at.place)

pub returns-in_default-clause-reaches : goal.returns-in_default-clause-reaches
returns-in_default-clause-reaches g c = λ told tells.
    let log = c.args.self.now.log in
    c.loop-at.invariant.leads told tells c.loop-at.at.place (stays log.format log.number told c.loop-at.at.place)

pub returns-clause-reaches : goal.returns-clause-reaches
returns-clause-reaches g c = λ told tells.
    let log = c.args.self.now.log in
    c.loop-at.invariant.leads told tells c.loop-at.at.place (stays log.format log.number told c.loop-at.at.place)

pub returns-then-done-count-clause-read : goal.returns-then-done-count-clause-read
returns-then-done-count-clause-read g c = λ none told tells.
    let log = c.args.self.now.log in
    let at = c.loop-at.at in
    let f = c.in-Some.frame in
    let recs = c.records_of-records.result.now in
    let lies : IsFrameAt log.format log.number at.place f = rw c.in-Some.is at c.in_ok-frame.ensures.place in
    let found = subst (λ (o : Option Frame). IsFound log.format log.number at.place told o) c.in-Some.is
    (c.in_ok-frame.ensures.answers.answer told tells) in
    as_given log.format log.number told c.args.self.now.at.place c.args.batch.now.items c.take_found.new.batch.items none
    (λ before. all_read log.format log.number told at.place f found lies c.args.self.now.at.place
    (c.loop-at.invariant.leads told tells at.place (stays log.format log.number told at.place)) recs
    c.records_of-records.ensures c.loop-at.batch.items c.take_found.new.batch.items
    (c.loop-at.invariant.read told tells before) c.in_ok-done.ensures.read)

pub returns-in_default-clause-read : goal.returns-in_default-clause-read
returns-in_default-clause-read g c = λ none told tells.
    let log = c.args.self.now.log in
    as_given log.format log.number told c.args.self.now.at.place c.args.batch.now.items c.loop-at.batch.items none
    (c.loop-at.invariant.read told tells)

pub returns-clause-read : goal.returns-clause-read
returns-clause-read g c = λ none told tells.
    let log = c.args.self.now.log in
    as_given log.format log.number told c.args.self.now.at.place c.args.batch.now.items c.loop-at.batch.items none
    (c.loop-at.invariant.read told tells)

pub returns-then-done-count-clause-over : goal.returns-then-done-count-clause-over
returns-then-done-count-clause-over g c = λ none.
    absurd (let some = c.in_ok-done.ensures.some (omega (arith, c.if-done-count.true)) in omega (arith, some, ap length none))

pub returns-clause-over : goal.returns-clause-over
returns-clause-over g c = λ none told tells.
    let size = g.met.H.HeldFile.sized c.args.self.now.log.held told tells in
    omega (arith, size, c.len.ensures, c.loop-at-test.false)

pub loop-at-preserved : goal.loop-at-preserved
loop-at-preserved g c =
    let log = c.args.self.now.log in
    let at = c.loop-at.at in
    let f = c.in-Some.frame in
    let recs = c.records_of-records.result.now in
    let lies : IsFrameAt log.format log.number at.place f = rw c.in-Some.is at c.in_ok-frame.ensures.place in
    let found : (told : List ℕ) → g.H.HeldFile.bytes log.held ≡ Some told → IsFound log.format log.number at.place told (Some f) =
    λ told tells. subst (λ (o : Option Frame). IsFound log.format log.number at.place told o) c.in-Some.is
    (c.in_ok-frame.ensures.answers.answer told tells) in
    let next : (told : List ℕ) → g.H.HeldFile.bytes log.held ≡ Some told → c.saturating_add.result ≡ at.place + f.length =
    λ told tells. let within = (frame_within log.format log.number told at.place f (found told tells) lies).1 in
    omega (arith, within, g.met.H.HeldFile.sized log.held told tells, c.len.ensures, c.len.type_inv, c.saturating_add.ensures) in
    record {
      walked = λ p fits is.
          let w = c.loop-at.invariant.walked p fits is in
          let passes = subst (λ (rs : List ReadRecord). Passes p.base p.segment (candidates c.loop-at.batch.items)
          (records_as (drop at.done rs)) (candidates c.take_found.new.batch.items) (records_as (drop c.in_ok-done.done rs)))
          c.records_of-records.ensures
          (subst (λ (n : ℕ). Passes p.base n (candidates c.loop-at.batch.items) (records_as (drop at.done recs))
          (candidates c.take_found.new.batch.items) (records_as (drop c.in_ok-done.done recs)))
          is.segment (c.in_ok-done.ensures.passes p.base (c.loop-at.invariant.fits fits) is.base)) in
          walks_on g.H.HeldFile.bytes log p c.args.batch.now.items c.loop-at.batch.items at w f (found w.told w.tells)
          lies c.take_found.new.batch.items c.in_ok-done.done passes
          (omega (arith, c.if-done-count.false, ap length c.records_of-records.ensures)) c.saturating_add.result (next w.told w.tells);
      ends = λ told tells end ends.
          subst (λ (n : ℕ). EndAt log.format log.number told n end) (sym (next told tells))
          (ends_on log.format log.number told at.place f (found told tells) lies end (c.loop-at.invariant.ends told tells end ends));
      leads = λ told tells to run.
          c.loop-at.invariant.leads told tells to
          (leads_on log.format log.number told at.place f (found told tells) lies to
          (subst (λ (n : ℕ). FramesTo log.format log.number told n to) (next told tells) run));
      read = λ told tells before.
          all_read log.format log.number told at.place f (found told tells) lies c.args.self.now.at.place
          (c.loop-at.invariant.leads told tells at.place (stays log.format log.number told at.place)) recs
          c.records_of-records.ensures c.loop-at.batch.items c.take_found.new.batch.items
          (c.loop-at.invariant.read told tells before) c.in_ok-done.ensures.read;
      rises = λ none.
          let front = c.loop-at.invariant.rises none in
          let here : front.0 ≡ at.place = front.3 (omega (arith, c.loop-at-test.true, c.len.type_inv)) in
          let behind = frame_behind log.format log.number at.place f recs c.records_of-records.ensures lies front.0
          at.done (omega (arith, here)) in
          let all = c.in_ok-done.ensures.rises front.0 (at.place + f.length) front.1 behind in
          let sum = c.saturating_add.ensures in
          (at.place + f.length, all, omega (arith, sum), λ less. omega (arith, sum, less));
      lawful = λ none.
          let may = frame_moves log.format log.number at.place f recs c.records_of-records.ensures
          (rw c.in-Some.is at c.in_ok-frame.ensures.lawful) lies in
          c.in_ok-done.ensures.lawful may (c.loop-at.invariant.lawful none);
      fits = λ fits. c.take_found.ensures.fits (c.loop-at.invariant.fits fits);
      steady = record {
        sources = c.in_ok-done.ensures.steady ∙ c.loop-at.invariant.steady.sources;
        files = c.in_ok-frame.ensures.answers.cause.steady (λ x. x) ∙ c.loop-at.invariant.steady.files;
      };
    }

pub loop-at-preserved-else-done-count : goal.loop-at-preserved-else-done-count
loop-at-preserved-else-done-count g c =
    let log = c.args.self.now.log in
    let at = c.loop-at.at in
    let f = c.in-Some.frame in
    let recs = c.records_of-records.result.now in
    let lies : IsFrameAt log.format log.number at.place f = rw c.in-Some.is at c.in_ok-frame.ensures.place in
    let found : (told : List ℕ) → g.H.HeldFile.bytes log.held ≡ Some told → IsFound log.format log.number at.place told (Some f) =
    λ told tells. subst (λ (o : Option Frame). IsFound log.format log.number at.place told o) c.in-Some.is
    (c.in_ok-frame.ensures.answers.answer told tells) in
    let next : (told : List ℕ) → g.H.HeldFile.bytes log.held ≡ Some told → c.saturating_add.result ≡ at.place + f.length =
    λ told tells. let within = (frame_within log.format log.number told at.place f (found told tells) lies).1 in
    omega (arith, within, g.met.H.HeldFile.sized log.held told tells, c.len.ensures, c.len.type_inv, c.saturating_add.ensures) in
    record {
      walked = λ p fits is.
          let w = c.loop-at.invariant.walked p fits is in
          let passes = subst (λ (rs : List ReadRecord). Passes p.base p.segment (candidates c.loop-at.batch.items)
          (records_as (drop at.done rs)) (candidates c.take_found.new.batch.items) (records_as (drop c.in_ok-done.done rs)))
          c.records_of-records.ensures
          (subst (λ (n : ℕ). Passes p.base n (candidates c.loop-at.batch.items) (records_as (drop at.done recs))
          (candidates c.take_found.new.batch.items) (records_as (drop c.in_ok-done.done recs)))
          is.segment (c.in_ok-done.ensures.passes p.base (c.loop-at.invariant.fits fits) is.base)) in
          walks_on g.H.HeldFile.bytes log p c.args.batch.now.items c.loop-at.batch.items at w f (found w.told w.tells)
          lies c.take_found.new.batch.items c.in_ok-done.done passes
          (omega (arith, c.if-done-count.false, ap length c.records_of-records.ensures)) c.saturating_add.result (next w.told w.tells);
      ends = λ told tells end ends.
          subst (λ (n : ℕ). EndAt log.format log.number told n end) (sym (next told tells))
          (ends_on log.format log.number told at.place f (found told tells) lies end (c.loop-at.invariant.ends told tells end ends));
      leads = λ told tells to run.
          c.loop-at.invariant.leads told tells to
          (leads_on log.format log.number told at.place f (found told tells) lies to
          (subst (λ (n : ℕ). FramesTo log.format log.number told n to) (next told tells) run));
      read = λ told tells before.
          all_read log.format log.number told at.place f (found told tells) lies c.args.self.now.at.place
          (c.loop-at.invariant.leads told tells at.place (stays log.format log.number told at.place)) recs
          c.records_of-records.ensures c.loop-at.batch.items c.take_found.new.batch.items
          (c.loop-at.invariant.read told tells before) c.in_ok-done.ensures.read;
      rises = λ none.
          let front = c.loop-at.invariant.rises none in
          let here : front.0 ≡ at.place = front.3 (omega (arith, c.loop-at-test.true, c.len.type_inv)) in
          let behind = frame_behind log.format log.number at.place f recs c.records_of-records.ensures lies front.0
          at.done (omega (arith, here)) in
          let all = c.in_ok-done.ensures.rises front.0 (at.place + f.length) front.1 behind in
          let sum = c.saturating_add.ensures in
          (at.place + f.length, all, omega (arith, sum), λ less. omega (arith, sum, less));
      lawful = λ none.
          let may = frame_moves log.format log.number at.place f recs c.records_of-records.ensures
          (rw c.in-Some.is at c.in_ok-frame.ensures.lawful) lies in
          c.in_ok-done.ensures.lawful may (c.loop-at.invariant.lawful none);
      fits = λ fits. c.take_found.ensures.fits (c.loop-at.invariant.fits fits);
      steady = record {
        sources = c.in_ok-done.ensures.steady ∙ c.loop-at.invariant.steady.sources;
        files = c.in_ok-frame.ensures.answers.cause.steady (λ x. x) ∙ c.loop-at.invariant.steady.files;
      };
    }

pub returns-clause-walks : goal.returns-clause-walks
returns-clause-walks g c = λ p fits is.
    let w = c.loop-at.invariant.walked p fits is in
    at_end g.H.HeldFile.bytes c.args.self.now.log p c.args.batch.now.items c.loop-at.batch.items c.loop-at.at w
    (let size = g.met.H.HeldFile.sized c.args.self.now.log.held w.told w.tells in omega (arith, size, c.len.ensures, c.loop-at-test.false))

pub returns-in_default-clause-batch : goal.returns-in_default-clause-batch
returns-in_default-clause-batch g c = λ none.
    let front = c.loop-at.invariant.rises none in
    record {
      lawful = c.loop-at.invariant.lawful none;
      rising = test_of 0 c.loop-at.batch.items front.0 front.1;
    }

pub returns-clause-batch : goal.returns-clause-batch
returns-clause-batch g c = λ none.
    let front = c.loop-at.invariant.rises none in
    record {
      lawful = c.loop-at.invariant.lawful none;
      rising = test_of 0 c.loop-at.batch.items front.0 front.1;
    }

pub returns-then-done-count-clause-batch : goal.returns-then-done-count-clause-batch
returns-then-done-count-clause-batch g c = λ none.
    let log = c.args.self.now.log in
    let at = c.loop-at.at in
    let f = c.in-Some.frame in
    let recs = c.records_of-records.result.now in
    let lies : IsFrameAt log.format log.number at.place f = rw c.in-Some.is at c.in_ok-frame.ensures.place in
    let front = c.loop-at.invariant.rises none in
    let here : front.0 ≡ at.place = front.3 (omega (arith, c.loop-at-test.true, c.len.type_inv)) in
    let behind = frame_behind log.format log.number at.place f recs c.records_of-records.ensures lies front.0 at.done
    (omega (arith, here)) in
    let may = frame_moves log.format log.number at.place f recs c.records_of-records.ensures
    (rw c.in-Some.is at c.in_ok-frame.ensures.lawful) lies in
    record {
      lawful = c.in_ok-done.ensures.lawful may (c.loop-at.invariant.lawful none);
      rising = test_of 0 c.take_found.new.batch.items (at.place + f.length)
          (c.in_ok-done.ensures.rises front.0 (at.place + f.length) front.1 behind);
    }
