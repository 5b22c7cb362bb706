use Rattle.std.proofs.Common.{◌≡◌, ◌∙◌, ap, refl}
use Rattle.std.specs.Prelude.{ℕ, Some}
use Rattle.std.specs.FinMap.{get}
use Rattle.vl_disk.specs.DiskState.{bytes_at, file_at}
use Rattle.vl_disk.specs.declared.name.Name.TheVariants.{Log}
use Rattle.vl_recover.proofs.opening.Looking.{as_read}
use Rattle.vl_recover.proofs.opening.OneLog.{header_begins}
use Rattle.vl_recover.proofs.led.format_of_log.Goals as goal

pub returns-in-Some-clause-format : goal.returns-in-Some-clause-format
returns-in-Some-clause-format g c = λ state read told is.
    let name = Log c.args.number in
    let bytes = (file_at state name).bytes in
    let there = ((c.requires.lists state told).all name).0 (c.has.ensures.0 c.if-not-has.false) in
    let stands : get read name ≡ Some bytes = as_read read state name bytes is there refl in
    let told_too = c.in_ok-length.ensures.no_change.told ∙ told in
    header_begins read c.args.number 0 c.in_ok-length.length bytes stands (c.in_ok-length.ensures.size state told)
    c.deref.result.now
    (c.deref.ensures.value ∙ c.in_ok-front.ensures.bytes state told_too ∙ ap (λ (n : ℕ). bytes_at 0 n bytes) c.front_length.ensures)
    c.header_format.result _ c.in-Some.is c.header_format.ensures

pub returns-in-Some-clause-answer : goal.returns-in-Some-clause-answer
returns-in-Some-clause-answer g c = λ state read told is.
    let begins = returns-in-Some-clause-format g c state read told is in
    (begins.bytes, begins.stands, (c.in-Some.format, begins.format_is, begins.header))
