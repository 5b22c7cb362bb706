use Rattle.std.specs.Option.{ForSome}
use Rattle.std.proofs.Common.{subst, sym, ◌∙◌}
use Rattle.vl_disk.specs.Disk.{IsFree, Stands}
use Rattle.vl_disk.specs.declared.name.Name.{Name}
use Rattle.vl_space.specs.laws.There.Taking.{taken_stands}
use Rattle.vl_space.proofs.sweep.remove_file.Goals as goal
use Rattle.vl_space.proofs.sweep.remove_file.Goals.{in-Some, in_default}

pub adopt-requires-clause-free : goal.adopt-requires-clause-free
adopt-requires-clause-free g c = let left = c.requires.1.left c.in-Some.lent c.in-Some.is in
    subst (λ (name : Name). ForSome (g.D.Watched.told c.args.disk.now) (IsFree name)) (sym c.in-Some.lent.named) left.lent.free

pub remove-requires : goal.remove-requires
remove-requires g c = elim c.match-lent.branch [
  | in-Some w ↦ let waits = c.requires.1 in let left = waits.left w.in-Some.lent w.in-Some.is in
      subst (λ (d : g.row.D.Denot). ForSome (g.D.Watched.told d) (Stands c.args.file.name)) (sym w.disk-is)
      (subst (λ (name : Name). ForSome (g.D.Watched.told w.adopt.new.self) (Stands name))
      (w.in-Some.lent.named ∙ sym (waits.named w.in-Some.lent w.in-Some.is))
      (taken_stands g.D.Watched (g.D.Writer.Writer.named w.in-Some.lent.writer) (g.D.Writer.Writer.file w.in-Some.lent.writer)
      c.args.disk.now w.adopt.new.self w.adopt.ensures left.tells))
  | in_default w ↦ subst (λ (d : g.row.D.Denot). ForSome (g.D.Watched.told d) (Stands c.args.file.name)) (sym w.disk-is)
      (c.requires.1.stands w.in_default.is)
]
