use Rattle.std.proofs.Common.{take, get_or}
use Rattle.std.proofs.lemmas.List.{take_more}
use Rattle.vl_disk.specs.declared.name.Name.TheVariants.{Log}
use Rattle.vl_recover.specs.opening.Finding.{greatest_of}
use Rattle.vl_recover.proofs.opening.Naming.{greatest_more_names}
use Rattle.vl_recover.proofs.names.greatest_numbers.Goals as goal

pub loop-name-preserved : goal.loop-name-preserved
loop-name-preserved c =
    let names = c.args.names.now in
    let i = c.loop-name.name-index in
    rw (take_more names i (Log 0) c.loop-name-test.true)
    (rw c.greatest_with-greatest.ensures
    (greatest_more_names (take i names) (get_or names i (Log 0)) (greatest_of c.loop-name.greatest) c.loop-name.invariant))
