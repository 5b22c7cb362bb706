use Rattle.std.proofs.Common.{ap, arith, sym, ◌∙◌}
use Rattle.std.specs.Prelude.{Some}
use Rattle.vl_steps.proofs.FlushLawful.{no_memory, oldest_spells, oldest_there, same_fault, switch_applies}
use Rattle.vl_steps.specs.laws.Lending.{leaves_staged}
use Rattle.vl_memtable.specs.Contents.{Contents}
use Rattle.vl_steps.proofs.flush.ready_flush.Goals as goal

pub returns-clause-of : goal.returns-clause-of
returns-clause-of g c = record {
  log = c.in-Some.oldest.now;
  oldest = sym c.in-Some.ensures;
  is = c.in_ok-staged.ensures.staged c.in-Some.oldest.now.memtable.entries
      (c.in_ok-entries.ensures ∙ ap (λ (m : Contents). Some m.entries) c.memtable.ensures);
  numbered = c.in_ok-staged.ensures.numbered;
}

pub returns-clause-lent : goal.returns-clause-lent
returns-clause-lent g c =
    let back = c.args.core.now.back in
    leaves_staged g.D.Watched c.args.disk.now c.stage_flush.new.disk back.manifest.number back.state.next_table
    c.in_ok-staged.ensures.no_change.told c.in_ok-staged.ensures.beside

pub returns-in_default-clause-lawful : goal.returns-in_default-clause-lawful
returns-in_default-clause-lawful g c h l is refused =
    oldest_there g.D.Held.HeldFile.bytes c.args.core.now (g.D.Watched.told c.args.disk.now) h l is c.requires.running
    c.requires.may (sym c.in_default.ensures)

pub returns-in_err-entries-clause-lawful : goal.returns-in_err-entries-clause-lawful
returns-in_err-entries-clause-lawful g c h l is = no_memory c.from_residual.result c.from_residual.ensures.1

pub returns-in_err-version-clause-lawful : goal.returns-in_err-version-clause-lawful
returns-in_err-version-clause-lawful g c h l is =
    no_memory c.from_residual-in_err-version.result c.from_residual-in_err-version.ensures.1

pub returns-in_err-staged-clause-lawful : goal.returns-in_err-staged-clause-lawful
returns-in_err-staged-clause-lawful g c h l is =
    let bytes = g.D.Held.HeldFile.bytes in
    let told = g.D.Watched.told c.args.disk.now in
    let core = c.args.core.now in
    let applies = switch_applies bytes core told h l is c.requires.running c.requires.may c.requires.numbered (omega arith) in
    same_fault _ c.from_residual-in_err-staged.result c.from_residual-in_err-staged.ensures.1
    (c.in_err-staged.ensures.lawful c.in-Some.oldest.now.memtable.entries applies.0
    (c.in_ok-entries.ensures ∙ ap (λ (m : Contents). Some m.entries) c.memtable.ensures)
    (oldest_spells bytes core told h l is c.requires.running c.requires.may c.in-Some.oldest.now (sym c.in-Some.ensures))
    applies.1)
