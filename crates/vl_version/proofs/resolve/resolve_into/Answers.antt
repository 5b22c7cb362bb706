use Rattle.std.proofs.Common.{ap, sym, Some}
use Rattle.vl_model.specs.Winners.{resolved}
use Rattle.vl_model.specs.declared.entry.Body.{Body}
use Rattle.vl_version.specs.Sources.{stored_in}
use Rattle.vl_version.proofs.PutLaws.{put_found}
use Rattle.vl_version.proofs.resolve.resolve_into.Goals as goal

pub returns-in-Inline-clause-answers : goal.returns-in-Inline-clause-answers
returns-in-Inline-clause-answers g c told =
    let logs = stored_in g.H.HeldFile.bytes c.args.logs.now in
    put_found logs (Some c.args.entry.now) c.in-Inline.value (ap (λ (b : Body). resolved logs c.args.entry.now.key b) c.in-Inline.is)
    c.args.out.now c.put.new.out c.put.result (c.put.ensures c.in-Inline.value (sym c.as_slice.ensures))

pub returns-in-Logged-clause-answers : goal.returns-in-Logged-clause-answers
returns-in-Logged-clause-answers g c told =
    let logs = stored_in g.H.HeldFile.bytes c.args.logs.now in
    put_found logs (Some c.args.entry.now) c.in-Logged.value (ap (λ (b : Body). resolved logs c.args.entry.now.key b) c.in-Logged.is)
    c.args.out.now c.put-in-Logged.new.out c.put-in-Logged.result
    (c.put-in-Logged.ensures c.in-Logged.value (sym c.as_slice-in-Logged.ensures))
