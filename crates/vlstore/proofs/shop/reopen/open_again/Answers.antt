use Rattle.std.proofs.Common.{map, ap, sym, ◌∙◌, subst}
use Rattle.std.specs.Prelude.{is_some}
use Rattle.vl_disk.specs.DiskState.{DiskState}
use Rattle.vl_drive.specs.Stores as drive
use Rattle.vlstore.specs.Reopening.{IsOnlyWantOfOpening}
use Rattle.vlstore.specs.Shops.{known_by, opened_by}
use Rattle.vlstore.proofs.ShopKept.{only_want, some_same}
use Rattle.vlstore.proofs.ShopStores.{first_so, first_sure, map_same}
use Rattle.vlstore.proofs.shop.reopen.open_again.Goals as goal

pub open-requires-clause-keeps : goal.open-requires-clause-keeps
open-requires-clause-keeps g c other is = c.requires

pub all_sure-requires : goal.all_sure-requires
all_sure-requires g c =
    let goes = c.in-Ok.ensures.from c.requires.0 c.requires.1 in
    record {
      each = first_sure c.in-Ok.store 0 c.in-Ok.sessions.items (c.in-Ok.ensures.tells ∙ ap is_some c.requires.1)
          (ap (λ l. l.halted) goes.layout.is) c.in-Ok.ensures.first;
    }

pub returns-in-Ok-clause-from : goal.returns-in-Ok-clause-from
returns-in-Ok-clause-from g c = c.in-Ok.ensures.from

pub returns-in-Ok-clause-tells : goal.returns-in-Ok-clause-tells
returns-in-Ok-clause-tells g c = c.in-Ok.ensures.tells ∙ ap is_some c.requires.1

pub returns-in-Ok-clause-runs : goal.returns-in-Ok-clause-runs
returns-in-Ok-clause-runs g c =
    let goes = c.in-Ok.ensures.from c.requires.0 c.requires.1 in ap (λ l. l.halted) goes.layout.is

pub returns-in-Ok-clause-first : goal.returns-in-Ok-clause-first
returns-in-Ok-clause-first g c =
    let store = c.in-Ok.store in
    let known = map_same c.in-Ok-all_sure.shops.items ∙ ap (map known_by) c.in-Ok-all_sure.ensures in
    subst (drive.AreFirst (opened_by store) 0) (sym known) (first_so store 0 c.in-Ok.sessions.items c.in-Ok.ensures.first)

pub returns-clause-refused : goal.returns-clause-refused
returns-clause-refused g c left told =
    let never = g.met.D.Unfailing.unfailing in
    let (state, at, kept) = c.requires in
    subst (λ (d : DiskState). IsOnlyWantOfOpening d c.in-Err.field-0.why) (some_same state left (sym at ∙ told))
    (only_want g.D.Watched (λ r. g.D.Reader.Reader.faults r) never.disks never.readers c.args.disk state at kept c.in-Err.field-0
    c.in-Err.ensures.refused)
