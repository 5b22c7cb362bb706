use Rattle.std.specs.declared.clone.Clone as Clone
use Rattle.vl_disk.specs.declared.reader.HeldFile as HeldFile
use Rattle.std.proofs.Common.{◌++◌, [], refl, sym, subst, ℕ, List, Option}
use Rattle.vl_model.specs.Cutting.{joined}
use Rattle.vl_model.specs.declared.way.Way.TheVariants.{Up}
use Rattle.vl_version.specs.Changes.{everywhere}
use Rattle.vl_version.specs.Gathered.{TellWinners}
use Rattle.vl_version.specs.Naming.{FailWithin}
use Rattle.vl_version.specs.Sources.{held_entries}
use Rattle.vl_version.specs.declared.source.Source.{Source}
use Rattle.vl_version.proofs.GatherLaws.{give_none}
use Rattle.vl_version.proofs.Telling.{adds_then}
use Rattle.vl_version.proofs.gather.stored_sources.Goals as goal

-- no sources tell of no entries, and none of them fails
tells_none : {H : Type 0} (R : Type 0) (g : HeldFile.Ghosts H) (k : Clone.Ghosts H) (bytes_of : H → Option (List ℕ))
    → TellWinners {H = H} {R = R} {g = g} {k = k} bytes_of everywhere Up [] []
tells_none R g k bytes_of = record { left = []; told = refl; give = give_none everywhere Up; sound = λ name place none. none }

fail_none : {H : Type 0} (R : Type 0) (g : HeldFile.Ghosts H) (k : Clone.Ghosts H) (bytes_of : H → Option (List ℕ))
    → FailWithin {H = H} bytes_of everywhere {R = R} {g = g} {k = k} [] []
fail_none R g k bytes_of fault none = absurd none

pub returns-clause-winners : goal.returns-clause-winners
returns-clause-winners g c tabled are in_order =
    let bytes = g.H.HeldFile.bytes in
    let held = held_entries c.args.frozen.now in
    let first = c.new-sources.result.items in
    let then_active = c.add_memtable.new.sources.items in
    let then_frozen = c.add_frozen.new.sources.items in
    let all = c.add_levels.new.sources.items in
    adds_then bytes everywhere Up (c.args.active.now.entries ++ held) (joined tabled) first then_frozen all
    (adds_then bytes everywhere Up c.args.active.now.entries held first then_active then_frozen
    c.in_ok-add_memtable.ensures.winners c.in_ok-add_frozen.ensures.winners)
    (c.in_ok-add_levels.ensures.winners tabled are in_order) []
    (subst (λ (l : List (Source g.row.H.Denot g.row.R.Denot g.H.HeldFile g.H.Clone)). TellWinners bytes everywhere Up [] l)
    (sym c.new-sources.ensures.items) (tells_none g.row.R.Denot g.H.HeldFile g.H.Clone bytes))

pub returns-clause-faults : goal.returns-clause-faults
returns-clause-faults g c =
    c.in_ok-add_levels.ensures.faults []
    (c.in_ok-add_frozen.ensures.faults [] (c.in_ok-add_memtable.ensures.faults []
    (subst
    (λ (l : List (Source g.row.H.Denot g.row.R.Denot g.H.HeldFile g.H.Clone)). FailWithin g.H.HeldFile.bytes everywhere [] l)
    (sym c.new-sources.ensures.items) (fail_none g.row.R.Denot g.H.HeldFile g.H.Clone g.H.HeldFile.bytes))))

pub returns-clause-reads : goal.returns-clause-reads
returns-clause-reads g c = λ is_met stand. (c.in_ok-add_levels.ensures.reads is_met stand).1
