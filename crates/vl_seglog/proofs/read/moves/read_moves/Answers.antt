use Rattle.std.proofs.Common.{List, map, sym, subst, ◌∙◌, arith}
use Rattle.std.proofs.lemmas.Bool.{true≢false}
use Rattle.vl_model.specs.declared.log_frame.Moved.{Moved}
use Rattle.vl_seglog.specs.Reading.{moved_of}
use Rattle.vl_seglog.specs.declared.frame.ReadRecord.{ReadRecord}
use Rattle.vl_seglog.specs.Relocation.{moves_spelling}
use Rattle.vl_seglog.specs.Moves.{AreOnce}
use Rattle.vl_seglog.specs.Series.{IsSeries}
use Rattle.vl_seglog.proofs.Moving.{is_relocation, no_count, not_once, series_of}
use Rattle.vl_seglog.proofs.Options.{at_none}
use Rattle.vl_seglog.proofs.read.moves.read_moves.Goals as goal

pub returns-in_default-clause-none : goal.returns-in_default-clause-none
returns-in_default-clause-none c = λ records lawful spelled. no_count c.args.format c.args.body.now records
    c.in_default.ensures.none spelled

pub returns-then-count-eq0-clause-none : goal.returns-then-count-eq0-clause-none
returns-then-count-eq0-clause-none c = λ records lawful spelled.
    let s = series_of c.args.format c.args.body.now c.in-Some.count c.in-Some.rest.now records c.in-Some.ensures.fits
    c.in-Some.ensures.found c.requires.short lawful spelled in
    omega (arith, s.counted, lawful.some)

pub returns-in_default-2-clause-none : goal.returns-in_default-2-clause-none
returns-in_default-2-clause-none c = λ records lawful spelled.
    let s = series_of c.args.format c.args.body.now c.in-Some.count c.in-Some.rest.now records c.in-Some.ensures.fits
    c.in-Some.ensures.found c.requires.short lawful spelled in
    at_none c.in_ok-records.field-0
    ((records : List Moved) → IsSeries (moves_spelling c.args.format) c.in-Some.rest.now c.in-Some.count records → ⊥)
    c.in_default-2.not-Some c.in_ok-records.ensures.none records s

pub returns-then-not-are_once-clause-none : goal.returns-then-not-are_once-clause-none
returns-then-not-are_once-clause-none c = λ records lawful spelled.
    let s = series_of c.args.format c.args.body.now c.in-Some.count c.in-Some.rest.now records c.in-Some.ensures.fits
    c.in-Some.ensures.found c.requires.short lawful spelled in
    let read = rw c.in-Some-2.is at c.in_ok-records.ensures.found in
    not_once c.args.format c.in-Some.rest.now c.in-Some.count (map moved_of c.in-Some-2.records.items) records read
    (λ once. true≢false (sym
    (c.are_once.ensures.1 (subst (λ (rs : List ReadRecord). AreOnce (map moved_of rs)) (sym c.deref.ensures.value)
    once)) ∙ c.if-not-are_once.true)) s lawful

pub returns-clause-found : goal.returns-clause-found
returns-clause-found c =
    let read = rw c.in-Some-2.is at c.in_ok-records.ensures.found in
    is_relocation c.args.format c.args.body.now c.in-Some.count c.in-Some.rest.now
    (map moved_of c.in-Some-2.records.items) c.in-Some.ensures.found (omega arith) read
    (subst (λ (rs : List ReadRecord). AreOnce (map moved_of rs)) c.deref.ensures.value (c.are_once.ensures.0 c.if-not-are_once.false))
