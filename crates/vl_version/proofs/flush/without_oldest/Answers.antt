use Rattle.std.proofs.Common.{◌∙◌, ap, sym, ◌++◌, List, Vec, Global}
use Rattle.vl_memtable.specs.declared.frozen_log.FrozenLog.{FrozenLog}
use Rattle.vl_version.specs.Oldest.{but_oldest}
use Rattle.vl_version.proofs.OldestLaws.{front_of, none_of}
use Rattle.vl_version.proofs.flush.without_oldest.Goals.{in-Some+in_ok-share_frozen, in_default}
use Rattle.vl_version.proofs.flush.without_oldest.Goals as goal

pub returns : goal.returns
returns c = elim c.match-split_last.branch [
  | in-Some+in_ok-share_frozen w ↦
      ap (λ (logs : Vec FrozenLog Global). logs.items) w.newer-is ∙ w.in_ok-share_frozen.ensures
      ∙ ap (λ (logs : List FrozenLog). logs ++ w.in-Some.front.now) c.new-newer.ensures.items
      ∙ sym (ap but_oldest w.in-Some.ensures.cases.0 ∙ front_of w.in-Some.front.now w.in-Some.field-0-0.now)
  | in_default w ↦
      ap (λ (logs : Vec FrozenLog Global). logs.items) w.newer-is ∙ c.new-newer.ensures.items
      ∙ sym (none_of c.args.frozen.now w.in_default.ensures.cases)
]
