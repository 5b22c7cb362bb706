use Rattle.std.proofs.Common.{◌≡◌, ◌∙◌, ℕ, ap, refl}
use Rattle.std.specs.Prelude.{Some}
use Rattle.std.specs.FinMap.{get}
use Rattle.vl_disk.specs.DiskState.{bytes_at, file_at}
use Rattle.vl_disk.specs.declared.name.Name.TheVariants.{Log}
use Rattle.vl_recover.proofs.opening.Looking.{as_read}
use Rattle.vl_recover.proofs.opening.OneLog.{headed_found, headless_found}
use Rattle.vl_recover.proofs.one_log.read_log.Goals as goal

pub returns-in_default-clause-reads : goal.returns-in_default-clause-reads
returns-in_default-clause-reads g c = λ state read told is.
    let name = Log c.args.number in
    let bytes = (file_at state name).bytes in
    let stands : get read (Log c.args.number) ≡ Some bytes = as_read read state name bytes is (c.requires state told) refl in
    let told_too = c.in_ok-length.ensures.no_change.told ∙ told in
    headless_found read c.args.number c.args.before c.in_ok-length.length bytes stands (c.in_ok-length.ensures.size state told)
    c.deref.result.now
    (c.deref.ensures.value ∙ c.in_ok-front.ensures.bytes state told_too ∙ ap (λ (n : ℕ). bytes_at 0 n bytes) c.front_length.ensures)
    c.header_format.result c.in_default.is c.header_format.ensures c.no_content.result c.no_content.ensures

pub returns-clause-reads : goal.returns-clause-reads
returns-clause-reads g c = λ state read told is.
    let name = Log c.args.number in
    let bytes = (file_at state name).bytes in
    let stands : get read (Log c.args.number) ≡ Some bytes = as_read read state name bytes is (c.requires state told) refl in
    let told_too = c.in_ok-length.ensures.no_change.told ∙ told in
    headed_found read c.args.number c.args.before c.in_ok-length.length bytes stands (c.in_ok-length.ensures.size state told)
    c.deref.result.now
    (c.deref.ensures.value ∙ c.in_ok-front.ensures.bytes state told_too ∙ ap (λ (n : ℕ). bytes_at 0 n bytes) c.front_length.ensures)
    c.header_format.result c.in-Some.format c.in-Some.is c.header_format.ensures
    c.deref-2.result.now (c.deref-2.ensures.value ∙ c.in_ok-bytes.ensures.bytes state (c.in_ok-front.ensures.no_change.told ∙ told_too))
    c.in_ok-read_content.field-0 c.in_ok-read_content.ensures
