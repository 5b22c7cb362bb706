use Rattle.std.proofs.Common.{◌≡◌, ℕ, List, ap, refl, subst, sym, ◌∙◌}
use Rattle.std.specs.Prelude.{Err, None, Ok, Some}
use Rattle.vl_manifest.specs.Manifest.{no_frame}
use Rattle.vl_manifest.specs.Reading.{GoesOn, GoesOnSo}
use Rattle.vl_manifest.specs.States.{first_state}
use Rattle.vl_manifest.proofs.Said.{first_breaks, place_of, says_damage, says_state}
use Rattle.vl_manifest.proofs.manifest_log.ManifestLog.read.Goals as goal

pub returns-in_default-2 : goal.returns-in_default-2
returns-in_default-2 c =
    no_frame c.in-Some.format c.in-Some.ensures.found
    (rw c.behind_header-frames.ensures at (rw c.in_default-2.is at c.in_ok-edits.ensures.none)) refl

pub returns-in_default-3 : goal.returns-in_default-3
returns-in_default-3 c =
    let stands = rw c.behind_header-frames.ensures at (rw c.in-Some-2.is at c.in_ok-edits.ensures.found) in
    let none : first_state c.in-Some-2.edits.items ≡ None =
    ap first_state (sym c.deref.ensures.value) ∙ sym c.in_ok-state.ensures ∙ c.in_default-3.is in
    first_breaks c.in-Some.format c.args.number c.args.bytes.now c.in-Some-2.edits.items c.in-Some-2.rest.now
    c.in-Some.ensures.found stands none

pub returns-in_err-last : goal.returns-in_err-last
returns-in_err-last c =
    let rest = c.in-Some-2.rest.now in
    let stands = rw c.behind_header-frames.ensures at (rw c.in-Some-2.is at c.in_ok-edits.ensures.found) in
    let some : first_state c.in-Some-2.edits.items ≡ Some c.in-Some-3.state =
    ap first_state (sym c.deref.ensures.value) ∙ sym c.in_ok-state.ensures ∙ c.in-Some-3.is in
    says_damage c.in-Some.format c.args.number c.args.bytes.now c.in-Some-2.edits.items rest c.in-Some-3.state c.in_err-last.field-0.0
    c.from_residual-in_err-last.result c.from_residual-in_err-last.ensures.0 c.from_residual-in_err-last.ensures.1
    c.in-Some.ensures.found stands some
    (subst (λ (b : List ℕ). GoesOnSo c.in-Some.format c.args.number (place_of b rest) rest c.in-Some-3.state (Err c.in_err-last.field-0.0))
    c.behind_header-frames.ensures c.in_err-last.ensures)

pub returns : goal.returns
returns c =
    let rest = c.in-Some-2.rest.now in
    let stands = rw c.behind_header-frames.ensures at (rw c.in-Some-2.is at c.in_ok-edits.ensures.found) in
    let some : first_state c.in-Some-2.edits.items ≡ Some c.in-Some-3.state =
    ap first_state (sym c.deref.ensures.value) ∙ sym c.in_ok-state.ensures ∙ c.in-Some-3.is in
    let goes = subst (λ (b : List ℕ). GoesOn c.in-Some.format c.args.number (place_of b rest) rest c.in-Some-3.state (Ok c.in_ok-last.last))
    c.behind_header-frames.ensures c.in_ok-last.ensures in
    rw (← c.as_read.ensures) at
    (says_state c.in-Some.format c.args.number c.args.bytes.now c.in-Some-2.edits.items rest c.in-Some-3.state c.in_ok-last.last
    c.in-Some.ensures.found stands some goes)
