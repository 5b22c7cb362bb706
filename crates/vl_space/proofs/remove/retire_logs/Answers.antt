use Rattle.std.proofs.Common.{arith, sym, ◌∙◌}
use Rattle.vl_space.specs.laws.Retired.Changing.{fewer_left, has_some, looks_done, looks_first, looks_past, looks_retired, place_fits}
use Rattle.vl_space.specs.laws.Retired.Changing.{past_place}
use Rattle.vl_space.specs.Retiring.{is_idle_log}
use Rattle.vl_space.proofs.remove.retire_logs.Goals as goal

pub loop-log-init : goal.loop-log-init
loop-log-init g c = record {
  looks = λ kept has. looks_first c.args.epoch (is_idle_log c.args.head c.args.live.now) c.args.stock.now kept has;
  room = λ n has. has;
}

pub retire_log-requires : goal.retire_log-requires
retire_log-requires g c = c.loop-log.invariant.room 0 c.requires

pub loop-log-smaller-then-is_idle : goal.loop-log-smaller-then-is_idle
loop-log-smaller-then-is_idle g c =
    let there = sym c.log_at.ensures ∙ c.in-Some.is in
    let first = has_some c.args.stock.now c.requires.in_use c.requires.is_some in
    let fewer = fewer_left c.args.epoch (is_idle_log c.args.head c.args.live.now) c.loop-log.at c.in-Some.log c.loop-log.stock
    c.retire_log.new.self there c.retire_log.ensures.retired _ (c.loop-log.invariant.looks _ first)
    (sym c.is_idle.ensures ∙ c.if-is_idle.true) in
    let within = past_place c.loop-log.stock c.loop-log.at c.in-Some.log there in
    omega (arith, fewer, within)

pub loop-log-preserved-then-is_idle : goal.loop-log-preserved-then-is_idle
loop-log-preserved-then-is_idle g c = record {
  looks = λ kept has. looks_retired c.args.epoch (is_idle_log c.args.head c.args.live.now) c.loop-log.at c.in-Some.log
      c.loop-log.stock c.retire_log.new.self kept (sym c.log_at.ensures ∙ c.in-Some.is) (sym c.is_idle.ensures ∙ c.if-is_idle.true)
      c.retire_log.ensures.retired (c.loop-log.invariant.looks kept has);
  room = λ n has. c.retire_log.ensures.room 0 0 n (c.loop-log.invariant.room n has);
}

pub overflow_add-at : goal.overflow_add-at
overflow_add-at g c =
    let fits = place_fits c.loop-log.stock c.loop-log.at c.in-Some.log (sym c.log_at.ensures ∙ c.in-Some.is) in
    omega (arith, fits)

pub loop-log-smaller : goal.loop-log-smaller
loop-log-smaller g c =
    let within = past_place c.loop-log.stock c.loop-log.at c.in-Some.log (sym c.log_at.ensures ∙ c.in-Some.is) in
    omega (arith, within)

pub loop-log-preserved : goal.loop-log-preserved
loop-log-preserved g c = record {
  looks = λ kept has. looks_past c.args.epoch (is_idle_log c.args.head c.args.live.now) c.loop-log.at c.in-Some.log
      c.loop-log.stock kept (sym c.log_at.ensures ∙ c.in-Some.is) (sym c.is_idle.ensures ∙ c.if-is_idle.false)
      (c.loop-log.invariant.looks kept has);
  room = c.loop-log.invariant.room;
}

pub returns-clause-retired : goal.returns-clause-retired
returns-clause-retired g c = λ kept has.
    looks_done c.args.epoch (is_idle_log c.args.head c.args.live.now) c.loop-log.at c.loop-log.stock kept
    (sym c.log_at.ensures ∙ c.in_default.is) (c.loop-log.invariant.looks kept has)
