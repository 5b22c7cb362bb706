-- What a job goes on with: the next entry that it keeps, and where its reading is behind that.
use Rattle.std.specs.Prelude.{List, [], Option, None, Some}
use Rattle.vl_compact.specs.Keeps.{AreRulesOf, GivesNext, stage}
use Rattle.vl_compact.specs.declared.next.Next.{Next}
use Rattle.vl_engine_model.specs.declared.job.Job.{Job}
use Rattle.vl_model.specs.declared.entry.Entry.{Entry}

-- It is the first that is kept of these entries of a merge's inputs, by a cursor that tells what is left of them.
pub record IsFirstOf {C : Type 0} (left : C → Option (List Entry)) (j : Job) (all : List Entry) (next : Next C) : Type 0 where
  pub rules : AreRulesOf next.keeping.rules j
  pub gives : GivesNext j (stage None all []) next.keeping.last (left next.keeping.cursor) next.found.items (Some next.first)
