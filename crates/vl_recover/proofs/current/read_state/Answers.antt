use Rattle.std.proofs.Common.{refl, subst, Ok, Err}
use Rattle.vl_manifest.specs.Reading.{AnswersSo}
use Rattle.vl_manifest.specs.declared.fails.StateFail.{StateFail}
use Rattle.vl_manifest.specs.laws.ManifestLaws.{says_in_range}
use Rattle.vl_recover.proofs.current.read_state.Goals as goal

pub returns-in-Ok-clause-says : goal.returns-in-Ok-clause-says
returns-in-Ok-clause-says c = (Ok c.in-Ok.state, c.in-Ok.ensures, refl)

pub returns-in-Err-Damaged-clause-says : goal.returns-in-Err-Damaged-clause-says
returns-in-Err-Damaged-clause-says c = (
  Err c.in-Err-Damaged.place,
  subst (λ (f : StateFail). AnswersSo c.args.number c.args.bytes.now (Err f)) c.in-Err-Damaged.field-0-is c.in-Err-Damaged.ensures,
  refl,
)

pub returns-in-Ok-clause-seven : goal.returns-in-Ok-clause-seven
returns-in-Ok-clause-seven c = (says_in_range c.args.number c.args.bytes.now c.in-Ok.state c.in-Ok.ensures).tables.seven
