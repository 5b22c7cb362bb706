use Rattle.std.proofs.Common.{◌≡◌, ℕ, List, [], ◌∷◌, Option, Some, ◌++◌, ap, subst, sym, ◌∙◌}
use Rattle.std.specs.Arc.{arc_value}
use Rattle.std.specs.Option.{ForSome}
use Rattle.std.specs.Prelude.{IsSome}
use Rattle.vl_compact.proofs.Making.{makes_one}
use Rattle.vl_compact.specs.Progress.{Has, HasTaken}
use Rattle.vl_compact.specs.Stops.{InputsReadUpTo}
use Rattle.vl_compact.specs.laws.ReadLaws.{read_alike, read_filled}
use Rattle.vl_compact.specs.declared.files.Synced.{Synced}
use Rattle.vl_compact.specs.declared.job.Job.{Job}
use Rattle.vl_disk.specs.DiskState.{File, settled}
use Rattle.vl_table.specs.declared.body.shape.TableShape.{TableShape}
use Rattle.vl_compact.proofs.job.Job.fill.Goals as goal

pub returns-in-Ok-clause-next : goal.returns-in-Ok-clause-next
returns-in-Ok-clause-next g c = λ j fits fresh h first.
    let W = g.W.Writer in
    let bytes = g.H.HeldFile.bytes in
    let has = g.V.Sources.has in
    let old = c.args.self.now in
    let between = c.write.new.self in
    let new = c.take.new.self in
    let filled = c.in-Ok.filled in
    let same = c.take.ensures.same
    ∙ ap (λ (s : Job g.row.V.Denot g.row.H.Denot g.row.W.Denot W). record s
    { after = Some filled.last; made = new.made; needless = new.needless })
    c.write.ensures.same in
    subst (λ (s : Job g.row.V.Denot g.row.H.Denot g.row.W.Denot W). Has W bytes has s j) (sym same)
    (makes_one W bytes has old j h c.write.new.lent filled (c.in-Ok.ensures.fills j fits fresh h first)
    c.in-Ok.ensures.settled
    new.made
    (subst (λ (l : List (Synced g.row.W.Denot W)). HasTaken c.write.new.lent filled l new.made.items)
    (ap (λ (s : Job g.row.V.Denot g.row.H.Denot g.row.W.Denot W). s.made.items) c.write.ensures.same) c.take.ensures.made)
    new.needless (c.take.ensures.needless ∙ ap (λ l. l ++ filled.found.items) c.write.ensures.items))

pub returns-in-Ok-clause-takes : goal.returns-in-Ok-clause-takes
returns-in-Ok-clause-takes g c =
    let W = g.W.Writer in
    let t = c.take.ensures.made in
    record {
      table = t.table;
      number = t.number ∙ c.write.ensures.number;
      made = t.made
          ∙ ap (λ (s : Job g.row.V.Denot g.row.H.Denot g.row.W.Denot W). s.made.items ++ t.table ∷ []) c.write.ensures.same;
      last = ap (λ (s : Job g.row.V.Denot g.row.H.Denot g.row.W.Denot W). s.after) c.take.ensures.same
          ∙ ap (λ (k : List ℕ). Some k) (c.in-Ok.ensures.ends
          ∙ ap (λ (x : TableShape). x.footer.last) (sym (ap arc_value t.shape)));
      leavings = ap (λ (s : Job g.row.V.Denot g.row.H.Denot g.row.W.Denot W). s.leavings) c.take.ensures.same
          ∙ ap (λ (s : Job g.row.V.Denot g.row.H.Denot g.row.W.Denot W). s.leavings) c.write.ensures.same;
      ended = ap (λ (s : Job g.row.V.Denot g.row.H.Denot g.row.W.Denot W). s.ended) c.take.ensures.same
          ∙ ap (λ (s : Job g.row.V.Denot g.row.H.Denot g.row.W.Denot W). s.ended) c.write.ensures.same;
      kept = c.take.ensures.same
          ∙ ap (λ (s : Job g.row.V.Denot g.row.H.Denot g.row.W.Denot W).
          record s { after = Some c.in-Ok.filled.last; made = c.take.new.self.made; needless = c.take.new.self.needless })
          c.write.ensures.same
          ∙ ap (λ (o : Option (List ℕ)). record c.args.self.now {
            after = o;
            made = c.take.new.self.made;
            needless = c.take.new.self.needless;
          })
          (sym (ap (λ (s : Job g.row.V.Denot g.row.H.Denot g.row.W.Denot W). s.after) c.take.ensures.same));
      tells = λ told. subst (λ (w : g.row.W.Denot). IsSome (W.file w)) (sym t.writer) (c.write.ensures.tells told);
      durable = subst (λ (w : g.row.W.Denot). ForSome (W.file w) (λ (f : File). f ≡ settled f.bytes)) (sym t.writer)
          c.in-Ok.ensures.settled;
    }

pub returns-in-Err-clause-refused : goal.returns-in-Err-clause-refused
returns-in-Err-clause-refused g c =
    let W = g.W.Writer in
    record {
      leaving = c.write.new.lent;
      number = c.write.ensures.number;
      kept = ap (λ (s : Job g.row.V.Denot g.row.H.Denot g.row.W.Denot W). record s
          { leavings = c.push_reserved.new.self }) c.write.ensures.same;
      left = c.push_reserved.ensures.items
          ∙ ap (λ (s : Job g.row.V.Denot g.row.H.Denot g.row.W.Denot W). s.leavings.items ++ c.write.new.lent ∷ []) c.write.ensures.same;
      needless_are = c.write.ensures.items;
      tells = c.write.ensures.tells;
    }

pub returns-in-Err-clause-cause : goal.returns-in-Err-clause-cause
returns-in-Err-clause-cause g c =
    let W = g.W.Writer in (
      c.write.new.lent,
      c.push_reserved.ensures.items
          ∙ ap (λ (s : Job g.row.V.Denot g.row.H.Denot g.row.W.Denot W). s.leavings.items ++ c.write.new.lent ∷ []) c.write.ensures.same,
      c.in-Err.ensures.cause,
    )

-- up to where its inputs were read

pub returns-in-Ok-clause-whole : goal.returns-in-Ok-clause-whole
returns-in-Ok-clause-whole g c =
    let W = g.W.Writer in
    subst (λ (o : Option (List ℕ)). InputsReadUpTo g.H.HeldFile.bytes c.args.self.now.after o c.args.self.now.inputs.tables.items)
    (sym (ap (λ (s : Job g.row.V.Denot g.row.H.Denot g.row.W.Denot W). s.after) c.take.ensures.same)) c.in-Ok.ensures.whole

pub returns-in-Ok-clause-read : goal.returns-in-Ok-clause-read
returns-in-Ok-clause-read g c = λ read.
    let W = g.W.Writer in
    read_filled g.H.HeldFile.bytes c.args.self.now c.take.new.self c.in-Ok.filled.last
    (ap (λ (s : Job g.row.V.Denot g.row.H.Denot g.row.W.Denot W). s.after) c.take.ensures.same)
    (ap (λ (s : Job g.row.V.Denot g.row.H.Denot g.row.W.Denot W). s.inputs) c.take.ensures.same
    ∙ ap (λ (s : Job g.row.V.Denot g.row.H.Denot g.row.W.Denot W). s.inputs) c.write.ensures.same)
    (ap (λ (s : Job g.row.V.Denot g.row.H.Denot g.row.W.Denot W). s.ended) c.take.ensures.same
    ∙ ap (λ (s : Job g.row.V.Denot g.row.H.Denot g.row.W.Denot W). s.ended) c.write.ensures.same)
    c.requires.next.going c.in-Ok.ensures.whole read

pub returns-in-Err-clause-read : goal.returns-in-Err-clause-read
returns-in-Err-clause-read g c = λ read.
    let W = g.W.Writer in
    read_alike g.H.HeldFile.bytes c.args.self.now _
    (ap (λ (s : Job g.row.V.Denot g.row.H.Denot g.row.W.Denot W). s.after) c.write.ensures.same)
    (ap (λ (s : Job g.row.V.Denot g.row.H.Denot g.row.W.Denot W). s.inputs) c.write.ensures.same)
    (ap (λ (s : Job g.row.V.Denot g.row.H.Denot g.row.W.Denot W). s.ended) c.write.ensures.same) read
