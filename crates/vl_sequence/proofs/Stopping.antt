-- What stopped a client on its way is a stop of the whole way.
use Rattle.std.proofs.Common.{◌≡◌, ℕ, ◌+◌, List, IfErr, Result, Ok, Err, ap, ◌∙◌, subst, arith}
use Rattle.std.specs.Prelude.{Option, Some}
use Rattle.vl_drive.specs.Knowing.{GoesOn, Knows}
use Rattle.vl_drive.specs.Steps.{Origin}
use Rattle.vl_engine_model.specs.Rulings.Commit.{CommitAnswer, Conflict, Exhausted, Full, Halted}
use Rattle.vl_model.specs.Keys.{Stored}
use Rattle.vl_sequence.proofs.Beginnings.{begins_more}
use Rattle.vl_sequence.specs.Causes.{Asks, Finds, IsCause, IsRuled, lease_txn}
use Rattle.vl_sequence.specs.Counting.{IsStop}
use Rattle.vl_sequence.specs.Leases.{number_in}
use Rattle.vl_sequence.specs.Takings.{last_value}
use Rattle.vl_sequence.specs.declared.fails.SeqFail.{SeqFail}
use Rattle.vl_sequence.specs.declared.fails.SeqFail.TheVariants as fail

module _ (v u w : Knows) (key : List ℕ) (lease : ℕ) (on : GoesOn v u) where
  asks_since : (answer : CommitAnswer) → Asks u w key lease answer → Asks v w key lease answer
  asks_since answer x = record {
    earlier = x.earlier;
    later = begins_more v.seen u.seen x.earlier on.seen x.later;
    first = x.first;
    told = subst (λ (o : Origin). number_in (last_value o key x.earlier) ≡ Some x.first) on.origin x.told;
    fits = x.fits;
    ticket = x.ticket;
    ruled = subst (λ (o : Origin). IsRuled o x.earlier w.seen (lease_txn o key x.earlier x.ticket (x.first + lease)) answer)
        on.origin x.ruled;
  }

  finds_since : (value : Option Stored) → Finds u w key value → Finds v w key value
  finds_since value x = record {
    earlier = x.earlier;
    later = begins_more v.seen u.seen x.earlier on.seen x.later;
    seen = x.seen;
    value_is = x.value_is ∙ ap (λ (o : Origin). last_value o key x.earlier) on.origin;
  }

  pub cause_since : (why : SeqFail) → IsCause u w key lease why → IsCause v w key lease why
  cause_since (fail.Raced number) is = (is.0, asks_since (Conflict is.0 number) is.1)
  cause_since fail.Spent is = (is.0, finds_since is.0 is.1, is.2)
  cause_since (fail.Malformed len) is = (is.0, finds_since is.0 is.1, is.2)
  cause_since fail.TooMany is = is
  cause_since (fail.Full length frame) is = asks_since (Full length frame) is
  cause_since (fail.Exhausted counter) is = (is.0, asks_since (Exhausted counter) is.1)
  cause_since (fail.Halted name) is =
      let before = on.faults in let rose = is.0 in (omega (arith, before, rose), asks_since (Halted name) is.1)
  cause_since (fail.Disk name) is = let before = on.faults in omega (arith, before, is)
  cause_since (fail.Damaged name place) is = let before = on.faults in omega (arith, before, is)
  cause_since fail.NoMemory is = tt

  pub stop_since : (why : SeqFail) → IsStop u w key lease why → IsStop v w key lease why
  stop_since why is = (cause_since why is.0, is.1)

  pub stops_since : {A : Type 0} (r : Result A SeqFail) → IfErr r (IsStop u w key lease) → IfErr r (IsStop v w key lease)
  stops_since (Ok a) is = is
  stops_since (Err why) is = stop_since why is

  pub causes_since : {A : Type 0} (r : Result A SeqFail) → IfErr r (IsCause u w key lease) → IfErr r (IsCause v w key lease)
  causes_since (Ok a) is = is
  causes_since (Err why) is = cause_since why is
