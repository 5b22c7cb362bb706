use Rattle.std.proofs.Common.{◌+◌, ℕ, Some, length, refl, sym, ap, ◌∙◌, arith}
use Rattle.vl_disk.specs.DiskState.{bytes_at}
use Rattle.vl_model.specs.Formats.{record_head}
use Rattle.vl_model.specs.Keys.{tagged}
use Rattle.vl_seglog.proofs.AnswerSteps.{then_gives, then_refuses}
use Rattle.vl_seglog.proofs.Cut.{read_so}
use Rattle.vl_seglog.proofs.Found.{gives_none, gives_some, leads_front}
use Rattle.vl_seglog.proofs.sealed.SealedLog.find_in.Goals as goal

-- another head or another key stands there
pub returns-in_default-clause-answers : goal.returns-in_default-clause-answers
returns-in_default-clause-answers g c =
    then_refuses _ _ c.args.self.now.number c.args.pointer.place _ _ _ _ _ c.in_ok-fill.field-0 _ c.damaged.ensures
    (λ bytes told read. (
      gives_none c.args.self.now.format bytes c.args.pointer c.args.key.now
          (λ value leads.
          let front = leads_front c.args.self.now.format bytes c.args.pointer c.args.key.now value c.args.value_len leads (omega arith) in
          c.in_default.ensures.none value.tag leads.stands.lawful.tag
          (read_so _ bytes c.args.pointer.place _ (record_head c.args.self.now.format + length c.args.key.now) read (omega arith) ∙ front)),
      refl,
    ))
    c.in_ok-fill.ensures.answers

pub returns-clause-answers : goal.returns-clause-answers
returns-clause-answers g c =
    then_gives _ _ c.args.self.now.number _ _ _ _ _ c.in_ok-fill.field-0 _
    (λ bytes told read.
    let front = record_head c.args.self.now.format + length c.args.key.now in
    let here = c.in-Some.ensures.found in
    let found = gives_some c.args.self.now.format bytes c.args.pointer c.args.key.now c.in-Some.tag c.args.value_len
    c.requires.key c.requires.value here.0 (omega arith)
    (omega (arith, g.met.H.HeldFile.sized c.args.self.now.held bytes told))
    (sym (read_so _ bytes c.args.pointer.place _ front read (omega arith)) ∙ here.1) in
    found ∙ ap (λ (k : ℕ). Some (tagged (bytes_at (c.args.pointer.place + k) c.args.value_len bytes) c.in-Some.tag)) (sym c.requires.front))
    c.in_ok-fill.ensures.answers
