use Rattle.std.proofs.Common.{arith}
use Rattle.std.proofs.lemmas.Bool.Decides.{nat_tests}
use Rattle.vl_stream.proofs.PackedLaws.{answers_behind, answers_end}
use Rattle.vl_stream.proofs.packer.Packer.end.Goals as goal

pub returns-then-not-is_empty-clause-written : goal.returns-then-not-is_empty-clause-written
returns-then-not-is_empty-clause-written g c bytes ws packs =
    answers_behind c.put_end.result _ _ _ c.args.self.at _ c.args.self.records _ c.args.number _ bytes ws packs
    (grind (arith, nat_tests)) c.in_ok-put_batch.ensures.put c.in_ok-put_batch.ensures.place c.in_ok-put_batch.ensures.records
    c.put_end.ensures.put c.put_end.ensures.count

pub returns-clause-written : goal.returns-clause-written
returns-clause-written g c bytes ws packs =
    answers_end c.put_end-2.result _ _ c.args.self.at c.args.self.records c.args.number _ bytes ws packs
    (grind (arith, nat_tests)) c.put_end-2.ensures.put c.put_end-2.ensures.count
