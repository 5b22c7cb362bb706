use Rattle.std.proofs.Common.{◌≡◌, ◌+◌, ◌∙◌, List, arith, drop, length, length-drop, subst, sym, ℕ}
use Rattle.std.proofs.lemmas.List.{with_items_is}
use Rattle.vl_stream.proofs.Framed.{frame_long_so, gave_frame, none_behind, none_filled, none_long}
use Rattle.vl_stream.specs.Reading.{Gave, IsFrameLong}
use Rattle.vl_stream.proofs.reader.take_frame.Goals as goal

pub returns-then-branch-lt-HEAD_BYTES-clause-none : goal.returns-then-branch-lt-HEAD_BYTES-clause-none
returns-then-branch-lt-HEAD_BYTES-clause-none g c bytes at is =
    none_filled at bytes c.fill.new.out c.in_ok-fill.field-0 _ _ is c.in_ok-fill.ensures.given c.if-branch-lt-HEAD_BYTES.true
    c.in_ok-fill.ensures.length c.in_ok-fill.ensures.end

pub returns-in_default-clause-none : goal.returns-in_default-clause-none
returns-in_default-clause-none g c bytes at is =
    none_long at bytes c.fill.new.out c.in_ok-fill.field-0 _ _ is c.in_ok-fill.ensures.given c.if-branch-lt-HEAD_BYTES.false
    c.in_ok-fill.ensures.length (c.in_default.ensures.none c.in_ok-fill.ensures.length)

pub returns-then-branch-body-clause-none : goal.returns-then-branch-body-clause-none
returns-then-branch-body-clause-none g c bytes at is =
    let new = c.fill_behind.new.frame in
    let size : length new ≡ c.in-Some.body + 13 =
    omega (arith, c.in_ok-fill_behind.ensures.length, c.deref_mut.ensures.len, c.in_ok-frame.ensures.len) in
    none_behind at bytes c.fill.new.out (drop 5 new) c.in_ok-fill.field-0 c.in_ok-fill_behind.field-0 c.in-Some.body _ _ _ is
    c.in_ok-fill.ensures.given c.if-branch-lt-HEAD_BYTES.false c.in_ok-fill.ensures.length
    (c.in-Some.ensures.found c.in_ok-fill.ensures.length) c.in_ok-fill_behind.ensures.given c.if-branch-body.true
    (omega (arith, size, length-drop 5 new))
    (λ less. c.in_ok-fill_behind.ensures.end (omega (arith, less, length-drop 5 new)))

pub returns-clause-found : goal.returns-clause-found
returns-clause-found g c bytes is =
    let new = c.fill_behind.new.frame in
    let size : length new ≡ c.in-Some.body + 13 =
    omega (arith, c.in_ok-fill_behind.ensures.length, c.deref_mut.ensures.len, c.in_ok-frame.ensures.len) in
    let same : length new ≡ c.in_ok-frame.frame.len =
    omega (arith, c.in_ok-fill_behind.ensures.length, c.deref_mut.ensures.len) in
    subst (λ (l : List ℕ). Gave bytes (g.S.Source.left c.fill_behind.new.source) l)
    (sym (with_items_is c.in_ok-frame.frame new same ∙ c.in_ok-fill_behind.ensures.front))
    (gave_frame bytes c.fill.new.out (drop 5 new) c.in_ok-fill.field-0 c.in_ok-fill_behind.field-0 _ _ _ is
    c.in_ok-fill.ensures.given (omega (arith, c.if-branch-lt-HEAD_BYTES.false, c.in_ok-fill.ensures.length))
    c.in_ok-fill_behind.ensures.given (omega (arith, size, length-drop 5 new, c.if-branch-body.false)))

pub returns-clause-long : goal.returns-clause-long
returns-clause-long g c =
    let new = c.fill_behind.new.frame in
    let size : length new ≡ c.in-Some.body + 13 =
    omega (arith, c.in_ok-fill_behind.ensures.length, c.deref_mut.ensures.len, c.in_ok-frame.ensures.len) in
    let same : length new ≡ c.in_ok-frame.frame.len =
    omega (arith, c.in_ok-fill_behind.ensures.length, c.deref_mut.ensures.len) in
    subst (λ (l : List ℕ). IsFrameLong l) (sym (with_items_is c.in_ok-frame.frame new same ∙ c.in_ok-fill_behind.ensures.front))
    (frame_long_so c.fill.new.out (drop 5 new) c.in-Some.body (c.in-Some.ensures.found c.in_ok-fill.ensures.length)
    c.in_ok-fill.ensures.length (omega (arith, size, length-drop 5 new)))
