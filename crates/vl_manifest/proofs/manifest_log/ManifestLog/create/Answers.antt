use Rattle.std.proofs.Common.{◌≡◌, List, ℕ, subst, sym, ◌∙◌}
use Rattle.vl_disk.specs.declared.name.Name.TheVariants as names
use Rattle.vl_disk.specs.MadeFile.{Makes}
use Rattle.vl_manifest.specs.Making.{new_manifest}
use Rattle.vl_manifest.proofs.Made.{same_length, was_broken, was_made}
use Rattle.vl_manifest.proofs.manifest_log.ManifestLog.create.Goals as goal

pub returns-then-is_err : goal.returns-then-is_err
returns-then-is_err g c =
    let bytes : c.deref.result.now ≡ new_manifest c.args.number c.args.edits.now = c.deref.ensures.value ∙ c.in_ok-bytes.ensures.bytes in
    was_broken g.D.Watched c.args.number c.args.edits.now c.args.disk.now c.ready.new.self c.make_file.new.disk
    c.in_ok-ready.ensures.no_change c.in_ok-ready.ensures.elsewhere
    c.make_file.result (sym c.is_err.ensures.value ∙ c.if-is_err.true) c.in_ok-bytes.ensures.reads
    (subst (λ (b : List ℕ). Makes g.D.Watched (names.Manifest c.args.number) b c.ready.new.self c.make_file.new.disk
    c.make_file.result) bytes c.make_file.ensures)

pub returns : goal.returns
returns g c =
    let bytes : c.deref.result.now ≡ new_manifest c.args.number c.args.edits.now = c.deref.ensures.value ∙ c.in_ok-bytes.ensures.bytes in
    was_made g.D.Watched c.args.number c.args.edits.now c.args.disk.now c.ready.new.self c.make_file.new.disk
    c.in_ok-ready.ensures.no_change c.in_ok-ready.ensures.elsewhere
    c.make_file.result c.len-2.result (sym c.is_err.ensures.value ∙ c.if-is_err.false)
    (same_length c.len-2.result c.in_ok-bytes.bytes.items (new_manifest c.args.number c.args.edits.now)
    (c.len-2.ensures ∙ c.in_ok-bytes.bytes.ok.0) c.in_ok-bytes.ensures.bytes)
    c.in_ok-bytes.ensures.reads
    (subst (λ (b : List ℕ). Makes g.D.Watched (names.Manifest c.args.number) b c.ready.new.self c.make_file.new.disk
    c.make_file.result) bytes c.make_file.ensures)
