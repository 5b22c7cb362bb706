use Rattle.std.proofs.Common.{ap, length, map, ◌∙◌}
use Rattle.std.specs.Option.{option_copied}
use Rattle.vl_compact.specs.declared.files.Synced.{Synced}
use Rattle.vl_steps.proofs.InstallReady.{as_many, ready_by}
use Rattle.vl_steps.specs.Installing.{first_made}
use Rattle.vl_table.specs.Tables.{number_of}
use Rattle.vl_steps.proofs.install.ready_install.Goals as goal

pub returns-clause-ready : goal.returns-clause-ready
returns-clause-ready g c =
    let inputs_are = c.in_ok-inputs.ensures ∙ ap (map number_of) (c.deref.ensures.value ∙ ap (λ i. i.tables.items) c.inputs.ensures) in
    let made_are = c.in_ok-made.ensures ∙ ap (λ ts. map (λ (t : Synced _ _). t.number) ts) c.made.ensures in
    ready_by g.D.Held.HeldFile.bytes g.D.Writer.Writer c.args.core.now c.args.job.now _ c.gone.result c.gone.ensures
    c.deref-3.result.now c.deref-2.result.now c.deref-4.result.now (option_copied c.first_key.result) c.levels.result.now
    c.inputs-2.result.now.target c.len.result
    (c.deref-3.ensures.value ∙ inputs_are) (c.deref-2.ensures.value ∙ inputs_are) (c.deref-4.ensures.value ∙ made_are)
    (c.first_key.ensures ∙ ap first_made c.made-2.ensures) c.levels.ensures (ap (λ i. i.target) c.inputs-2.ensures)
    (c.len.ensures ∙ c.in_ok-made.made.ok.0 ∙ ap (λ ns. length ns) made_are
    ∙ as_many (λ (t : Synced _ _). t.number) c.args.job.now.made.items)
    c.in_ok-staged.ensures.staged c.in_ok-version.ensures c.in_ok-levels.ensures.ready c.in_ok-levels.ensures.room
