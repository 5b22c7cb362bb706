use Rattle.std.proofs.Common.{List, ℕ, sym, ◌∙◌}
use Rattle.std.proofs.lemmas.Bool.{true≢false}
use Rattle.vl_model.specs.declared.change.Change.{Change}
use Rattle.vl_model.specs.declared.change.Change.TheVariants.{Set}
use Rattle.vl_seglog.specs.Record.{IsSpelled}
use Rattle.vl_seglog.proofs.Moving.{behind_version, is_moved, must_set}
use Rattle.vl_seglog.proofs.Options.{at_none}
use Rattle.vl_seglog.proofs.read.moves.take_moved.Goals as goal

pub returns-in_default-2-clause-none : goal.returns-in_default-2-clause-none
returns-in_default-2-clause-none c = λ moved after lawful spelled.
    let s = behind_version c.args.format c.args.bytes.now c.in-Some.version c.in-Some.rest.now moved after
    c.in-Some.ensures.found c.in-Some.ensures.fits lawful spelled in
    at_none c.in_ok-record.field-0
    ((key : List ℕ) (change : Change) → IsSpelled c.args.format c.in-Some.rest.now key change → ⊥)
    c.in_default-2.not-Some c.in_ok-record.ensures.none moved.key (Set moved.value) s

pub returns-then-not-sets-clause-none : goal.returns-then-not-sets-clause-none
returns-then-not-sets-clause-none c = λ moved after lawful spelled.
    let s = behind_version c.args.format c.args.bytes.now c.in-Some.version c.in-Some.rest.now moved after
    c.in-Some.ensures.found c.in-Some.ensures.fits lawful spelled in
    let took = rw c.in-Some-2.is at c.in_ok-record.ensures.found in
    true≢false (sym (c.sets.ensures.1
    (must_set c.args.format c.in-Some.rest.now c.in-Some-2.record.key c.in-Some-2.record.change c.in-Some-2.after.now
    moved took.0 took.1 s)) ∙ c.if-not-sets.true)

pub returns-clause-found : goal.returns-clause-found
returns-clause-found c =
    let took = rw c.in-Some-2.is at c.in_ok-record.ensures.found in
    let at = rw c.in-Some-2.is at c.in_ok-record.ensures.place in
    is_moved c.args.format c.args.bytes.now c.in-Some.version c.in-Some.rest.now c.in-Some-2.record
    c.in-Some-2.after.now c.in-Some.ensures.found c.in-Some.ensures.fits took.0 took.1 at.version_is
    (c.sets.ensures.0 c.if-not-sets.false)

pub returns-clause-place : goal.returns-clause-place
returns-clause-place c =
    let at = rw c.in-Some-2.is at c.in_ok-record.ensures.place in
    record { sets = c.sets.ensures.0 c.if-not-sets.false; pointer_is = at.pointer_is }
