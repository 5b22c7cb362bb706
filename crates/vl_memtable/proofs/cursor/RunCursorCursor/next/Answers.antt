use Rattle.std.proofs.Common.{◌≡◌, ◌<◌, length, get_or, Some, ap, ◌∙◌, arith}
use Rattle.vl_model.specs.EntryOrder.{along, between}
use Rattle.vl_memtable.proofs.Along.{along-up, along-down, given_next}
use Rattle.vl_memtable.proofs.cursor.RunCursorCursor.next.Goals as goal
use Rattle.vl_memtable.proofs.cursor.RunCursorCursor.next.Goals.{in-Up, in-Down}

pub returns-clause-given : goal.returns-clause-given
returns-clause-given c =
    let way = c.self.inside.way in
    let i = c.self.inside.given in
    let entries = c.part-entries.result.now in
    let e = c.index-entries-at.result in
    let within : i < length entries = let test = c.if-self-entries.false in omega arith in
    let found : e ≡ get_or (along way entries) i e = elim c.match-self.branch [
      | in-Up w ↦ along-up way entries i c.match-self.at e w.in-Up.is w.at-is c.index-entries-at.is
      | in-Down w ↦ along-down way entries i c.match-self.at e w.in-Down.is w.at-is within c.index-entries-at.is
    ] in
    λ left here.
    given_next way (between c.self.inside.first c.self.inside.end c.self.inside.run) entries i e c.in_ok-entry.entry
    c.part-entries.ensures c.in_ok-entry.ensures within found left (ap Some c.self.view_is ∙ here)
