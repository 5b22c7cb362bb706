use Rattle.std.proofs.Common.{ap, sym, ◌∙◌, ◌∷◌, [], arith, length-append}
use Rattle.std.specs.FinMap.{put}
use Rattle.vl_model.specs.Keys.{key_cmp}
use Rattle.vl_front.proofs.Knowing.{noted_keys-one_more}
use Rattle.vl_front.proofs.note.note_all.Goals as goal

pub loop-key-preserved : goal.loop-key-preserved
loop-key-preserved c = (
  c.note.ensures.named ∙ ap (put key_cmp c.in-Some.key c.args.number) c.loop-key.invariant.0
      ∙ sym (noted_keys-one_more c.args.number c.loop-key.yielded c.in-Some.key c.args.recent.now.named),
  omega (arith, c.loop-key.invariant.1, c.note.ensures.room, length-append c.loop-key.yielded (c.in-Some.key ∷ [])),
)
