use Rattle.std.proofs.Common.{◌∙◌, ap, sym, subst, ◌∷◌, List, refl}
use Rattle.vl_memtable.specs.Contents.{Contents}
use Rattle.vl_memtable.specs.declared.frozen_log.FrozenLog.{FrozenLog}
use Rattle.vl_seglog.specs.declared.sealed.SealedLog.{SealedLog}
use Rattle.vl_version.specs.Shared.{AreSameLevels, AreSameLogs, IsSameLog}
use Rattle.vl_version.specs.declared.behind.Behind.{Behind}
use Rattle.vl_version.specs.declared.levels.Levels.{Levels}
use Rattle.vl_version.proofs.SharedLaws.{same_pushed}
use Rattle.vl_version.proofs.version.Version.rotated.Goals as goal

pub returns : goal.returns
returns g c =
    let H = g.row.H.Denot in
    let bytes = g.H.HeldFile.bytes in
    let behind : Behind H = c.args.self.now.behind in
    let newest : Contents → FrozenLog = λ memtable. record { number = c.args.log.number; length = c.args.length; memtable = memtable } in
    record {
      active = c.new.ensures;
      frozen = ap (λ (b : Behind H). b.frozen.items) c.new-2.ensures ∙ c.in_ok-frozen.ensures
          ∙ ap (λ (m : Contents). newest m ∷ c.deref.result.now) (c.freeze.ensures ∙ c.in_ok-share.ensures)
          ∙ ap (λ (logs : List FrozenLog). newest c.args.self.now.active ∷ logs)
          (c.deref.ensures.value ∙ ap (λ (b : Behind H). b.frozen.items) c.as_ref-behind.ensures);
      levels = subst (λ (levels : Levels H). AreSameLevels bytes behind.levels levels)
          (sym (ap (λ (b : Behind H). b.levels) c.new-2.ensures))
          (subst (λ (b : Behind H). AreSameLevels bytes b.levels c.in_ok-levels.levels) c.as_ref-behind.ensures c.in_ok-levels.ensures);
      logs = same_pushed (IsSameLog bytes) behind.logs.items c.in_ok-logs.logs.items c.new-2.result.logs.items c.args.log c.args.log
          (subst (λ (logs : List (SealedLog H)). AreSameLogs bytes logs c.in_ok-logs.logs.items)
          (c.deref-2.ensures.value ∙ ap (λ (b : Behind H). b.logs.items) c.as_ref-behind.ensures) c.in_ok-logs.ensures)
          (record { number = refl; format = refl; bytes = refl })
          (ap (λ (b : Behind H). b.logs.items) c.new-2.ensures ∙ c.in_ok-push.ensures.items);
    }
