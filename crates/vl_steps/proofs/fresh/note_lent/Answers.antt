use Rattle.std.proofs.Common.{refl}
use Rattle.vl_steps.proofs.fresh.note_lent.Goals as goal

pub returns-in-Some : goal.returns-in-Some
returns-in-Some c = record {
  merge = c.in-Some.merge;
  was_open = c.in-Some.is;
  next = record { lent = c.push_reserved.new.self; moved = c.in-Some.merge.moved };
  is_open = refl;
  lent = c.push_reserved.ensures.items;
  moved = refl;
}
