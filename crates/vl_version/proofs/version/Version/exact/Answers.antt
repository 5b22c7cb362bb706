use Rattle.std.specs.Prelude.{Err, Ok, None, Some}
use Rattle.std.specs.Option.{option_copied, option_map}
use Rattle.std.proofs.Common.{◌∙◌, ap, sym}
use Rattle.std.proofs.lemmas.Result.{err_from_is_err_and}
use Rattle.vl_table.specs.body.Founds.{found_of}
use Rattle.vl_version.specs.declared.behind.Behind.{Behind}
use Rattle.vl_version.proofs.marking.VersionLaws.{SourcesHave, TablesHave, held_first, held_told, memory_wanted}
use Rattle.vl_version.proofs.marking.VersionLaws.{tables_failed, tables_first, tables_told}
use Rattle.vl_version.proofs.version.Version.exact.Goals as goal

pub returns-in-Some : goal.returns-in-Some
returns-in-Some g c =
    let bytes = g.H.HeldFile.bytes in
    let faults = g.R.Reader.faults in
    let self = c.args.self.now in
    let key = c.args.key.now in
    held_told bytes faults self (SourcesHave bytes faults self key c.args.version) c.args.reader.now (Some c.in_ok-share.field-0)
    (held_first bytes faults self key c.args.version c.exact_held.result c.exact_held.ensures c.in_ok-share.field-0
    (ap option_copied c.in-Some.is ∙ ap Some (sym c.in_ok-share.ensures)))

pub returns-in_err-found : goal.returns-in_err-found
returns-in_err-found g c =
    let bytes = g.H.HeldFile.bytes in
    let faults = g.R.Reader.faults in
    let self = c.args.self.now in
    let key = c.args.key.now in
    let p = err_from_is_err_and c.from_residual-in_err-found.result c.from_residual-in_err-found.ensures.1 in
    tables_failed bytes faults self key c.args.version c.args.reader.now c.exact.new.reader c.in_err-found.field-0.0
    c.from_residual-in_err-found.result (p.1 ∙ ap Err p.2)
    (tables_told bytes faults self key c.args.version c.as_ref-behind.result.now.levels
    (ap (λ (b : Behind g.row.H.Denot). b.levels) c.as_ref-behind.ensures) c.args.reader.now c.exact.new.reader
    (Err c.in_err-found.field-0.0)
    c.in_err-found.ensures.cause c.in_err-found.ensures.kept c.in_err-found.ensures.answers)

pub returns-in_err-entry-in-Some-2 : goal.returns-in_err-entry-in-Some-2
returns-in_err-entry-in-Some-2 g c =
    let bytes = g.H.HeldFile.bytes in
    let faults = g.R.Reader.faults in
    let self = c.args.self.now in
    let key = c.args.key.now in
    let p = err_from_is_err_and c.from_residual-in_err-entry-in-Some-2.result c.from_residual-in_err-entry-in-Some-2.ensures.1 in
    memory_wanted bytes faults self (TablesHave bytes faults self key c.args.version) (SourcesHave bytes faults self key c.args.version)
    c.args.reader.now c.exact.new.reader c.in_ok-found.field-0 c.from_residual-in_err-entry-in-Some-2.result (p.1 ∙ ap Err p.2)
    (tables_told bytes faults self key c.args.version c.as_ref-behind.result.now.levels
    (ap (λ (b : Behind g.row.H.Denot). b.levels) c.as_ref-behind.ensures) c.args.reader.now c.exact.new.reader (Ok c.in_ok-found.field-0)
    c.in_ok-found.ensures.cause c.in_ok-found.ensures.kept c.in_ok-found.ensures.answers)

pub returns-in_ok-entry-in-Some-2 : goal.returns-in_ok-entry-in-Some-2
returns-in_ok-entry-in-Some-2 g c =
    let bytes = g.H.HeldFile.bytes in
    let faults = g.R.Reader.faults in
    let self = c.args.self.now in
    let key = c.args.key.now in
    tables_first bytes faults self key c.args.version c.exact_held.result c.exact_held.ensures c.in_default.is
    c.args.reader.now c.exact.new.reader c.in_ok-found.field-0 (Some c.in_ok-entry-in-Some-2.entry)
    (ap Some c.in_ok-entry-in-Some-2.ensures ∙ sym (ap (option_map (found_of key)) c.in-Some-2.is))
    (tables_told bytes faults self key c.args.version c.as_ref-behind.result.now.levels
    (ap (λ (b : Behind g.row.H.Denot). b.levels) c.as_ref-behind.ensures) c.args.reader.now c.exact.new.reader (Ok c.in_ok-found.field-0)
    c.in_ok-found.ensures.cause c.in_ok-found.ensures.kept c.in_ok-found.ensures.answers)

pub returns-in-None : goal.returns-in-None
returns-in-None g c =
    let bytes = g.H.HeldFile.bytes in
    let faults = g.R.Reader.faults in
    let self = c.args.self.now in
    let key = c.args.key.now in
    tables_first bytes faults self key c.args.version c.exact_held.result c.exact_held.ensures c.in_default.is
    c.args.reader.now c.exact.new.reader c.in_ok-found.field-0 None
    (sym (ap (option_map (found_of key)) c.in-None.is))
    (tables_told bytes faults self key c.args.version c.as_ref-behind.result.now.levels
    (ap (λ (b : Behind g.row.H.Denot). b.levels) c.as_ref-behind.ensures) c.args.reader.now c.exact.new.reader (Ok c.in_ok-found.field-0)
    c.in_ok-found.ensures.cause c.in_ok-found.ensures.kept c.in_ok-found.ensures.answers)
