use Rattle.std.proofs.Common.{◌≡◌, ◌++◌, Some, sym, ◌∙◌, ap, subst}
use Rattle.std.specs.Option.{option_map}
use Rattle.vl_disk.specs.Disk.{IsFree}
use Rattle.vl_disk.specs.DiskState.{created, settled, without}
use Rattle.vl_disk.specs.Lending.{adopted}
use Rattle.vl_disk.specs.laws.Lending.{created_just_made, written_file}
use Rattle.vl_disk.proofs.TwoFiles.{both_stand, lent_stays_free, not_failed, other_stays_free}
use Rattle.vl_disk.proofs.beside.make_beside.Goals as goal

pub lend-requires-clause-just_made : goal.lend-requires-clause-just_made
lend-requires-clause-just_made g c = created_just_made c.args.name (g.D.Watched.told c.args.disk.now)
    (g.D.Watched.told c.create.new.self) c.in_ok-create.ensures.created

pub make_file-requires-clause-free : goal.make_file-requires-clause-free
make_file-requires-clause-free g c = other_stays_free c.args.name c.args.other c.requires.apart
    (g.D.Watched.told c.args.disk.now) (g.D.Watched.told c.create.new.self) (g.D.Watched.told c.lend.new.self)
    c.in_ok-create.ensures.created (c.in_ok-writer.ensures.lends.lent (λ f. not_failed f)) c.requires.other_free

pub adopt-requires-clause-free : goal.adopt-requires-clause-free
adopt-requires-clause-free g c = λ x there.
    let named = c.in_ok-sync.ensures.named ∙ c.in_ok-append-2.ensures.named ∙ c.in_ok-append.ensures.named ∙ c.in_ok-writer.ensures.named in
    subst (λ n. IsFree n x) (sym named)
    (lent_stays_free c.args.name c.args.other c.requires.apart c.args.first.now c.args.bytes.now
    (g.D.Watched.told c.create.new.self) (g.D.Watched.told c.lend.new.self) (g.D.Watched.told c.make_file.new.disk)
    (c.in_ok-writer.ensures.lends.lent (λ f. not_failed f)) c.in_ok-make_file.ensures.made x there)

pub returns : goal.returns
returns g c = λ state is x here.
    let named = c.in_ok-sync.ensures.named ∙ c.in_ok-append-2.ensures.named ∙ c.in_ok-append.ensures.named ∙ c.in_ok-writer.ensures.named in
    let one : g.D.Watched.told c.create.new.self ≡ Some (created c.args.name state) = c.in_ok-create.ensures.created
    ∙ ap (option_map (created c.args.name)) is in
    let two : g.D.Watched.told c.lend.new.self ≡ Some
    (without c.args.name (created c.args.name state)) = c.in_ok-writer.ensures.lends.lent (λ f. not_failed f)
    ∙ ap (option_map (without c.args.name)) one in
    let file = written_file c.args.first.now c.args.second.now _ _ _ _
    (c.in_ok-writer.ensures.file (created c.args.name state) one) c.in_ok-append.ensures.appended
    c.in_ok-append-2.ensures.appended c.in_ok-sync.ensures.synced in
    both_stand c.args.name c.args.other c.requires.apart (c.args.first.now ++ c.args.second.now) c.args.bytes.now
    (without c.args.name (created c.args.name state)) x
    (g.D.Watched.told c.lend.new.self) (g.D.Watched.told c.make_file.new.disk) (g.D.Watched.told c.adopt.new.self)
    c.in_ok-make_file.ensures.made two
    (λ now held. subst (λ n. g.D.Watched.told c.adopt.new.self ≡ Some
    (adopted n (settled (c.args.first.now ++ c.args.second.now)) now)) named
    (c.adopt.ensures.adopted now held (settled (c.args.first.now ++ c.args.second.now)) file)) here
