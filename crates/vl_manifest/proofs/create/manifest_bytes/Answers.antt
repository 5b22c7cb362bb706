use Rattle.std.proofs.Common.{[], ◌∷◌, arith}
use Rattle.vl_frame.specs.Runs.{HasFrame}
use Rattle.vl_model.specs.Formats.{manifest_format}
use Rattle.vl_manifest.specs.Grammar.{edits_grammar}
use Rattle.vl_manifest.specs.laws.ManifestLaws.{manifest_reads}
use Rattle.vl_manifest.proofs.create.manifest_bytes.Goals as goal

pub returns-clause-reads : goal.returns-clause-reads
returns-clause-reads c =
    let has : HasFrame (edits_grammar manifest_format) c.args.edits.now =
    record { lawful = c.in_ok-write_edits.ensures.lawful; short = omega (arith, c.in_ok-write_edits.ensures.short) } in
    manifest_reads c.args.number (c.args.edits.now ∷ []) (omega (arith, c.ranges.number.fits)) (has, tt)
