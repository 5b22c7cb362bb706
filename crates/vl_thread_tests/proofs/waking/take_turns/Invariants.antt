use Rattle.vl_turn.specs.Locks.{lock_name, lock_start}
use Rattle.vl_turn.specs.Tokens.{IsTokenOf}
use Rattle.vl_thread_tests.proofs.waking.take_turns.Given as goal

-- it stays a token of the lock
abbrev pub invariant-loop : goal.invariant-loop
invariant-loop g l = IsTokenOf (lock_name l.lock) (lock_start l.lock) l.token
