use Rattle.std.proofs.Common.{ap, sym, ◌∙◌, Some}
use Rattle.vl_compact.proofs.Passing.{passes, placed}
use Rattle.vl_compact.specs.Keeps.{fate_of, place_at, place_in}
use Rattle.vl_compact.proofs.keeping.pass.Goals as goal

pub returns-clause-passes : goal.returns-clause-passes
returns-clause-passes g c = λ j are has fits.
    let at = place_in c.args.last.now in
    let e = c.args.entry.now in
    passes j at (Some (place_at c.in_ok-now.now)) e c.args.found.now.items c.note.new.found.items c.in_ok-fate.fate c.is_kept.result
    (sym c.comes_again.ensures ∙ c.if-comes_again.false)
    (c.in_ok-fate.ensures.fate j are has fits ∙ ap (λ n. fate_of j n e) c.seen_before-seen.ensures)
    (placed c.args.rules.now j are at e c.in_ok-now.now c.seen_before-seen.result c.seen_before-seen.ensures
    c.in_ok-now.ensures.key c.in_ok-now.ensures.version c.in_ok-now.ensures.seen)
    c.in_ok-note.ensures c.is_kept.ensures
