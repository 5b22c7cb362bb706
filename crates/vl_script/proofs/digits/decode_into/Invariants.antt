use Rattle.vl_script.proofs.DigitPairs.{Reads, Fails}
use Rattle.vl_script.proofs.digits.decode_into.Given as goal

-- up to here all were digits, and were decoded; or one wasn't
abbrev pub invariant-pairs : goal.invariant-pairs
invariant-pairs l = record {
  reads : Reads l.digits l.bytes l.i l.greatest;
  fails : Fails l.digits l.greatest;
}
