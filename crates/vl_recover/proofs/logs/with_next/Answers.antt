use Rattle.std.proofs.Common.{ℕ, subst, ◌∙◌}
use Rattle.vl_recover.specs.declared.fails.OpenError.TheVariants as why
use Rattle.vl_recover.specs.opening.ReadLogs.{IsReadAs, standing_log}
use Rattle.vl_recover.proofs.opening.HandedCalls.{fault_handed}
use Rattle.vl_recover.proofs.opening.ReadingLogs.{holds_more}
use Rattle.vl_recover.proofs.opening.Unmoved.{then_call}
use Rattle.vl_recover.proofs.logs.with_next.Goals as goal

pub returns-in_err-held-clause-no_change : goal.returns-in_err-held-clause-no_change
returns-in_err-held-clause-no_change g c =
    fault_handed g.D.Watched c.args.disk.now c.read_log.new.disk c.hold_log.new.disk c.in_ok-log.ensures.no_change c.in_err-held.field-0.0
    c.from_residual-in_err-held.result c.from_residual-in_err-held.ensures.0 c.from_residual-in_err-held.ensures.1
    c.in_err-held.ensures.no_change

pub returns-in_err-with_log-clause-no_change : goal.returns-in_err-with_log-clause-no_change
returns-in_err-with_log-clause-no_change g c =
    fault_handed g.D.Watched c.args.disk.now c.read_log.new.disk c.hold_log.new.disk c.in_ok-log.ensures.no_change why.NoMemory
    c.from_residual-in_err-with_log.result c.from_residual-in_err-with_log.ensures.0 c.from_residual-in_err-with_log.ensures.1
    c.in_ok-held.ensures.no_change

pub returns-clause-no_change : goal.returns-clause-no_change
returns-clause-no_change g c =
    then_call g.D.Watched c.args.disk.now c.read_log.new.disk c.hold_log.new.disk ⊥ c.in_ok-log.ensures.no_change
    c.in_ok-held.ensures.no_change

pub returns-clause-reads : goal.returns-clause-reads
returns-clause-reads g c = λ state read told is.
    let found = c.in_ok-log.ensures.reads state read told is in
    let held = c.in_ok-held.ensures.held state read (c.in_ok-log.ensures.no_change.told ∙ told) is in
    let logs = c.in_ok-with_log.field-0 in
    record {
      log = standing_log c.in_ok-log.log found.reading;
      number_is = found.number_is;
      bytes = found.bytes;
      stands = found.stands;
      length_is = found.length_is;
      reads = found.reads;
      one_more = c.in_ok-with_log.ensures.one_more found.reading
          (subst (λ (n : ℕ). IsReadAs n found.reading c.in_ok-log.log) c.last_before.ensures found.read_as);
      held = holds_more g.D.Held.HeldFile.bytes read (standing_log c.in_ok-log.log found.reading) c.args.number
          c.in_ok-log.log.format c.args.followed c.in_ok-held.held c.args.so_far.sealed.items logs.sealed.items found.number_is
          found.read_as.format_is held
          c.in_ok-with_log.ensures.sealed;
    }

pub returns-clause-runs : goal.returns-clause-runs
returns-clause-runs g c before = c.in_ok-with_log.ensures.runs before
