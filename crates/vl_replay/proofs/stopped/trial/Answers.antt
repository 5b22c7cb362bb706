use Rattle.std.proofs.Common.{◌≡◌, ⊎_elim, inl, inr, [], Some, refl, sym, subst, ◌∙◌, true, false}
use Rattle.vl_script_model.specs.Sequential.{history_of}
use Rattle.vl_script_model.specs.Endings.{read_fault_line}
use Rattle.vl_script_model.specs.Steps.{Finishes}
use Rattle.vl_script_model.specs.Trial.{reopened_state}
use Rattle.vl_script_model.specs.Trying.{ComesTo, ReopensAs, trial_of}
use Rattle.vl_model.specs.History.{last_number}
use Rattle.vl_script_model.specs.declared.ending.Ending.{Ending}
use Rattle.vl_script_model.specs.declared.ending.Ending.TheVariants.{ReadFault}
use Rattle.vl_replay.proofs.Trials.TrialEnds.{ends_reopened, ends_so, ends_source, no_fault}
use Rattle.vl_replay.proofs.Trials.InTime.{behind_all, more_in_time, reopened_takes}
use Rattle.vl_replay.proofs.stopped.trial.Goals as goal

not_both : true ≡ false → ⊥
not_both e = cc

pub returns-then-is_complete-clause-ends : goal.returns-then-is_complete-clause-ends
returns-then-is_complete-clause-ends g c input told =
    let ran = c.run_to_stop-ending in
    let is = c.is_complete.ensures.0 c.if-is_complete.true in
    let (reaches, all, tried) = subst
    (λ (e : Ending). ComesTo (trial_of c.args.stop input) (g.K.Sink.held c.args.sink.now) (g.K.Sink.held ran.new.sink)
    (g.S.Source.left ran.new.source) ran.result.disk e)
    is (ran.ensures.comes input told) in
    ends_reopened (trial_of c.args.stop input c.args.outcome) _ _ (tried.taken c.args.outcome) g.K.Sink ran.new.sink
    c.reopen.new.sink refl _ c.reopen.result
    (reaches c.args.outcome) all (c.reopen.ensures.reopens _ (tried.leaves c.args.outcome))

pub returns-then-has_stopped-clause-ends : goal.returns-then-has_stopped-clause-ends
returns-then-has_stopped-clause-ends g c input told =
    let ran = c.run_to_stop-ending in
    let is = c.has_stopped.ensures.0 c.if-has_stopped.true in
    let (meets, (rest, left), tried) = subst
    (λ (e : Ending). ComesTo (trial_of c.args.stop input) (g.K.Sink.held c.args.sink.now) (g.K.Sink.held ran.new.sink)
    (g.S.Source.left ran.new.source) ran.result.disk e)
    is (ran.ensures.comes input told) in
    let t = trial_of c.args.stop input c.args.outcome in
    let s = reopened_state t in
    ⊎_elim
    (λ (all : (g.S.Source.left c.pass_and_reopen.new.source ≡ Some [])
    × ReopensAs g.K.Sink (history_of s) (last_number (history_of s)) ran.new.sink c.pass_and_reopen.new.sink c.pass_and_reopen.result).
    ends_reopened t _ _ (tried.taken c.args.outcome) g.K.Sink ran.new.sink c.pass_and_reopen.new.sink refl _
    c.pass_and_reopen.result (inl (meets c.args.outcome)) all.0 all.1)
    (λ (failed : Finishes g.K.Sink ran.new.sink c.pass_and_reopen.new.sink read_fault_line ReadFault c.pass_and_reopen.result).
    ends_source t _ _ (tried.taken c.args.outcome) g.K.Sink ran.new.sink c.pass_and_reopen.new.sink refl _ c.pass_and_reopen.result failed)
    (c.pass_and_reopen.ensures.reopens rest (history_of s) left (tried.leaves c.args.outcome))

pub returns-clause-ends : goal.returns-clause-ends
returns-clause-ends g c input told =
    let ran = c.run_to_stop-ending in
    ends_so (trial_of c.args.stop input) _ _ _ ran.result.disk ran.result.ending (ran.ensures.comes input told)
    (λ whole. not_both (sym (c.is_complete.ensures.1 whole) ∙ c.if-is_complete.false))
    (λ silent. not_both (sym (c.has_stopped.ensures.1 silent) ∙ c.if-has_stopped.false)) c.args.outcome

-- ---- no fault is reported

pub returns-then-is_complete-clause-no_disk_fault : goal.returns-then-is_complete-clause-no_disk_fault
returns-then-is_complete-clause-no_disk_fault g c = c.reopen.ensures.no_disk_fault

pub returns-then-has_stopped-clause-no_disk_fault : goal.returns-then-has_stopped-clause-no_disk_fault
returns-then-has_stopped-clause-no_disk_fault g c = c.pass_and_reopen.ensures.no_disk_fault

pub returns-clause-no_disk_fault : goal.returns-clause-no_disk_fault
returns-clause-no_disk_fault g c =
    let ran = c.run_to_stop-ending in
    no_fault ran.result.ending ran.ensures.no_disk_fault ran.ensures.no_read_fault
    (λ silent. not_both (sym (c.has_stopped.ensures.1 silent) ∙ c.if-has_stopped.false))

-- ---- when answers are put

pub returns-then-is_complete-clause-in_time : goal.returns-then-is_complete-clause-in_time
returns-then-is_complete-clause-in_time g c input told =
    let ran = c.run_to_stop-ending in
    let is = c.is_complete.ensures.0 c.if-is_complete.true in
    let (reaches, all, tried) = subst
    (λ (e : Ending). ComesTo (trial_of c.args.stop input) (g.K.Sink.held c.args.sink.now) (g.K.Sink.held ran.new.sink)
    (g.S.Source.left ran.new.source) ran.result.disk e)
    is (ran.ensures.comes input told) in
    let (printed, taken) = reopened_takes g.K.Sink _ _ ran.new.sink c.reopen.new.sink c.reopen.result
    (c.reopen.ensures.reopens _ (tried.leaves c.args.outcome)) in
    inl (more_in_time (trial_of c.args.stop input c.args.outcome) _ _ _ printed taken _ (ran.ensures.in_time input c.args.outcome told))

pub returns-then-has_stopped-clause-in_time : goal.returns-then-has_stopped-clause-in_time
returns-then-has_stopped-clause-in_time g c input told =
    let ran = c.run_to_stop-ending in
    let is = c.has_stopped.ensures.0 c.if-has_stopped.true in
    let (meets, (rest, left), tried) = subst
    (λ (e : Ending). ComesTo (trial_of c.args.stop input) (g.K.Sink.held c.args.sink.now) (g.K.Sink.held ran.new.sink)
    (g.S.Source.left ran.new.source) ran.result.disk e)
    is (ran.ensures.comes input told) in
    let t = trial_of c.args.stop input c.args.outcome in
    let s = reopened_state t in
    ⊎_elim
    (λ (all : (g.S.Source.left c.pass_and_reopen.new.source ≡ Some [])
    × ReopensAs g.K.Sink (history_of s) (last_number (history_of s)) ran.new.sink c.pass_and_reopen.new.sink c.pass_and_reopen.result).
    let (printed, taken) = reopened_takes g.K.Sink _ _ ran.new.sink c.pass_and_reopen.new.sink c.pass_and_reopen.result all.1 in
    inr (meets c.args.outcome, (printed, behind_all t _ _ _ printed taken (tried.taken c.args.outcome))))
    (λ (failed : Finishes g.K.Sink ran.new.sink c.pass_and_reopen.new.sink read_fault_line ReadFault c.pass_and_reopen.result).
    inr (meets c.args.outcome, (failed.printed, behind_all t _ _ _ failed.printed failed.taken (tried.taken c.args.outcome))))
    (c.pass_and_reopen.ensures.reopens rest (history_of s) left (tried.leaves c.args.outcome))

pub returns-clause-in_time : goal.returns-clause-in_time
returns-clause-in_time g c input told = inl (c.run_to_stop-ending.ensures.in_time input c.args.outcome told)
