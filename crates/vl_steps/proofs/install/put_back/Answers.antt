use Rattle.std.proofs.Common.{[], ap, refl, subst, ◌∙◌, ◌∷◌}
use Rattle.vl_disk.specs.Lending.{Adopts}
use Rattle.vl_disk.specs.declared.name.Name.TheVariants as names
use Rattle.vl_disk.specs.declared.name.Name.{Name}
use Rattle.vl_steps.specs.Taking.{file_in}
use Rattle.vl_steps.proofs.Taking.{held_bytes, puts_one, taken, taken_stands, takes_one}
use Rattle.vl_steps.proofs.install.put_back.Goals as goal

pub hold-requires : goal.hold-requires
hold-requires g c =
    taken_stands g.D.Watched g.D.Writer.Writer c.args.table c.args.disk.now c.adopt.new.self c.adopt.new.self c.requires.may
    (subst (λ (n : Name). Adopts g.D.Watched n (g.D.Writer.Writer.file c.args.table.writer) c.args.disk.now c.adopt.new.self)
    c.args.table.named c.adopt.ensures)

pub returns-in-Ok-clause-put : goal.returns-in-Ok-clause-put
returns-in-Ok-clause-put g c = record {
  front = c.args.table ∷ [];
  made_are = refl;
  takes = takes_one g.D.Watched g.D.Writer.Writer c.args.table c.args.disk.now c.adopt.new.self c.hold.new.self c.requires.may
      (subst (λ (n : Name). Adopts g.D.Watched n (g.D.Writer.Writer.file c.args.table.writer) c.args.disk.now c.adopt.new.self)
      c.args.table.named c.adopt.ensures) c.in-Ok.ensures.no_change c.in-Ok.ensures.spare;
  tables = c.of.result ∷ [];
  held = (
    record {
      shape = c.of.ensures.shape;
      held = λ disk told. ap g.D.Held.HeldFile.bytes c.of.ensures.held
          ∙ held_bytes (names.Table c.args.table.number) (file_in (g.D.Writer.Writer.file c.args.table.writer))
          (g.D.Watched.told c.args.disk.now) (g.D.Watched.told c.adopt.new.self)
          (taken g.D.Watched g.D.Writer.Writer c.args.table c.args.disk.now c.adopt.new.self c.adopt.new.self c.requires.may
          (subst (λ (n : Name). Adopts g.D.Watched n (g.D.Writer.Writer.file c.args.table.writer) c.args.disk.now c.adopt.new.self)
          c.args.table.named c.adopt.ensures)) (g.D.Held.HeldFile.bytes c.in-Ok.held) c.in-Ok.ensures.held disk told;
    },
    tt,
  );
  puts = puts_one g.D.Held.HeldFile.bytes c.args.levels.now c.put.new.self c.of.result
      (λ target inputs first ls new u ready are. c.put.ensures.put target inputs first ls new u ready are.0);
}
