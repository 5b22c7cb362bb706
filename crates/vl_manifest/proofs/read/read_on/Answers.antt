use Rattle.std.proofs.Common.{◌≡◌, List, ap, sym, ◌∙◌}
use Rattle.std.specs.Prelude.{None, Some}
use Rattle.vl_manifest.specs.declared.edit.Edit.{Edit}
use Rattle.vl_manifest.specs.States.{next_state}
use Rattle.vl_manifest.proofs.Said.{breaks, ends, further, one_more, place_of}
use Rattle.vl_manifest.proofs.read.read_on.Goals as goal

pub returns-in_default : goal.returns-in_default
returns-in_default c =
    let frames = c.args.frames.now in
    let rest = c.args.rest.now in
    let left = c.frames.left.now in
    ends c.args.format c.args.number (place_of frames rest) rest c.args.state (place_of frames left) left c.frames.latest
    c.frames.invariant.1 (rw c.in_default.is at c.in_ok-edits.ensures.none)

pub returns-in_default-2 : goal.returns-in_default-2
returns-in_default-2 c =
    let frames = c.args.frames.now in
    let rest = c.args.rest.now in
    let left = c.frames.left.now in
    let stands = rw c.in-Some.is at c.in_ok-edits.ensures.found in
    let none : next_state c.in-Some.edits.items c.frames.latest ≡ None =
    ap (λ (es : List Edit). next_state es c.frames.latest) (sym c.deref.ensures.value) ∙ sym c.in_ok-next.ensures ∙ c.in_default-2.is in
    breaks c.args.format c.args.number (place_of frames rest) rest c.args.state (place_of frames left) left c.frames.latest
    c.in-Some.edits.items c.in-Some.after.now c.frames.invariant.1 stands none

pub frames-smaller : goal.frames-smaller
frames-smaller c =
    let stands = rw c.in-Some.is at c.in_ok-edits.ensures.found in
    (further c.args.format c.args.number c.args.frames.now c.frames.left.now c.in-Some.edits.items c.in-Some.after.now
    c.frames.invariant.0 stands).less

pub frames-preserved : goal.frames-preserved
frames-preserved c =
    let frames = c.args.frames.now in
    let rest = c.args.rest.now in
    let left = c.frames.left.now in
    let stands = rw c.in-Some.is at c.in_ok-edits.ensures.found in
    let some : next_state c.in-Some.edits.items c.frames.latest ≡ Some c.in-Some-2.next =
    ap (λ (es : List Edit). next_state es c.frames.latest) (sym c.deref.ensures.value) ∙ sym c.in_ok-next.ensures ∙ c.in-Some-2.is in
    let on = further c.args.format c.args.number frames left c.in-Some.edits.items c.in-Some.after.now c.frames.invariant.0 stands in (
      on.within,
      one_more c.args.format c.args.number (place_of frames rest) rest c.args.state (place_of frames left) left c.frames.latest
          c.in-Some.edits.items c.in-Some.after.now c.in-Some-2.next (place_of frames c.in-Some.after.now)
          c.frames.invariant.1 stands some on.place,
    )
