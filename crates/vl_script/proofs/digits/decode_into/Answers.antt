use Rattle.std.proofs.Common.{◌≡◌, ◌∙◌, ap, inl, inr, arith, rules, nat_lt, true, false}
use Rattle.std.proofs.lemmas.Bool.{cases_lt}
use Rattle.std.proofs.lemmas.Bool.Decides.{nat_tests}
use Rattle.hex.proofs.Pairs.{decode_start, decode_done}
use Rattle.hex.proofs.HexLemmas.{decode_of-even}
use Rattle.vl_script.specs.Script.{decoded}
use Rattle.vl_script.proofs.DigitPairs.{reads_on, fails_on}
use Rattle.vl_script.proofs.digits.decode_into.Goals as goal

pub pairs-init : goal.pairs-init
pairs-init c = record {
  reads = λ small. decode_start c.args.digits.now c.args.bytes.now;
  fails = λ great. absurd (omega arith);
}

pub pairs-preserved : goal.pairs-preserved
pairs-preserved c =
    let i = c.pairs.i in
    let h = c.digit_value-high in
    let l = c.digit_value-low in
    let most = c.max-greatest.result in
    record {
      reads = reads_on c.args.digits.now c.pairs.bytes i c.pairs.greatest (omega arith) (omega arith)
          h.result l.result most h.ensures l.ensures (search rules) c.pairs.invariant.reads;
      fails = fails_on c.args.digits.now c.pairs.bytes i c.pairs.greatest (omega arith) (omega arith)
          h.result l.result most h.ensures l.ensures (search rules) c.pairs.invariant.reads c.pairs.invariant.fails;
    }

pub returns : goal.returns
returns c =
    let pairs = decode_of-even c.args.digits.now (omega arith) in
    elim (cases_lt c.pairs.greatest 16) [
      | inl small ↦
          let test : nat_lt c.pairs.greatest 16 ≡ true = grind (arith, nat_tests) in
          let reads = c.pairs.invariant.reads small in
          let done = decode_done c.args.digits.now c.pairs.bytes c.pairs.i (omega arith) (omega arith) reads in
          rw test (ap decoded (pairs ∙ done))
      | inr great ↦
          let test : nat_lt c.pairs.greatest 16 ≡ false = grind (arith, nat_tests) in
          rw test (ap decoded pairs ∙ c.pairs.invariant.fails great)
    ]
