use Rattle.std.proofs.Common.{[], ap, is_some, refl}
use Rattle.std.specs.FinMap.{empty}
use Rattle.vl_disk.specs.DiskState.{empty_disk}
use Rattle.vlstore.specs.Lists.{history_by}
use Rattle.vlstore.specs.Shops.{first_origin}
use Rattle.vlstore.specs.Standing.{NeverFails, parts}
use Rattle.vlstore.proofs.EmptyDisk.{bare_read, empty_may_open, finds_nothing, shown_first}
use Rattle.vlstore.proofs.First.{is_whole, no_steps}
use Rattle.vlstore.proofs.shop.ends.opened.Goals as goal

pub returns-in-Ok-clause-stands : goal.returns-in-Ok-clause-stands
returns-in-Ok-clause-stands g c =
    let engine = c.in-Ok.engine in
    let bytes = g.D.Held.HeldFile.bytes in
    let told = g.D.Watched.told engine.disk in
    let x = parts told engine.core engine.merging engine.collecting engine.removing in
    let h = history_by first_origin [] in
    no_steps bytes (NeverFails g.D.Watched.faults g.D.Reader.Reader.faults g.D.Writer.Writer.faults) first_origin (is_some told) x
    c.in-Ok.ensures.merging (record { live = refl; job = refl; pass = refl })
    (λ tells. is_whole bytes x h first_origin.layout c.in-Ok.ensures.merging refl
    (c.in-Ok.ensures.represents empty_disk empty finds_nothing h c.requires.empty empty_may_open bare_read shown_first)
    (c.in-Ok.ensures.fits empty_disk empty finds_nothing h c.requires.empty bare_read shown_first)
    (c.in-Ok.ensures.collects empty_disk empty finds_nothing h c.requires.empty bare_read shown_first)
    (c.in-Ok.ensures.removes empty_disk empty finds_nothing h c.requires.empty bare_read shown_first))

pub returns-in-Ok-clause-tells : goal.returns-in-Ok-clause-tells
returns-in-Ok-clause-tells g c = ap is_some (c.in-Ok.ensures.tells empty_disk c.requires.empty).1
