-- What a key's value refuses a lease for refuses to raise the key.
use Rattle.std.proofs.Common.{ℕ}
use Rattle.std.specs.Prelude.{Option}
use Rattle.vl_drive.specs.Knowing.{Knows}
use Rattle.vl_model.specs.Keys.{Stored}
use Rattle.vl_sequence.specs.Causes.{IsRaiseCause, IsValueCause}
use Rattle.vl_sequence.specs.declared.fails.SeqFail.{SeqFail}
use Rattle.vl_sequence.specs.declared.fails.SeqFail.TheVariants as fail

pub raise_cause : (v w : Knows) (value : Option Stored) (lease : ℕ) (why : SeqFail) → IsValueCause value lease why
    → IsRaiseCause v w value lease why
raise_cause v w value lease (fail.Raced number) is = absurd is
raise_cause v w value lease fail.Spent is = is
raise_cause v w value lease (fail.Malformed len) is = is
raise_cause v w value lease fail.TooMany is = absurd is
raise_cause v w value lease (fail.Full length frame) is = absurd is
raise_cause v w value lease (fail.Exhausted counter) is = absurd is
raise_cause v w value lease (fail.Halted name) is = absurd is
raise_cause v w value lease (fail.Disk name) is = absurd is
raise_cause v w value lease (fail.Damaged name place) is = absurd is
raise_cause v w value lease fail.NoMemory is = absurd is
