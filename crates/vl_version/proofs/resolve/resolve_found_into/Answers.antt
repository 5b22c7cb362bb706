use Rattle.std.proofs.Common.{ap, sym, Some}
use Rattle.vl_table.specs.body.Founds.{found_body, found_of, short_of}
use Rattle.vl_table.specs.declared.body.found.FoundBody.{FoundBody}
use Rattle.vl_model.specs.Winners.{resolved}
use Rattle.vl_version.specs.Sources.{stored_in}
use Rattle.vl_version.proofs.PutLaws.{put_found}
use Rattle.vl_version.proofs.resolve.resolve_found_into.Goals as goal

pub returns-in-Inline-clause-answers : goal.returns-in-Inline-clause-answers
returns-in-Inline-clause-answers g c told =
    let logs = stored_in g.H.HeldFile.bytes c.args.logs.now in
    put_found logs (Some (found_of c.args.key.now c.args.found.now)) (short_of c.in-Inline.value)
    (ap (λ (b : FoundBody). resolved logs c.args.key.now (found_body b)) c.in-Inline.is)
    c.args.out.now c.put.new.out c.put.result (c.put.ensures (short_of c.in-Inline.value) (sym c.as_slice.ensures))
