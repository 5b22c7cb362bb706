use Rattle.std.proofs.Common.{List, ℕ, ap, arith, length, ◌++◌, ◌∙◌, ◌≡◌}
use Rattle.vl_frame.specs.Runs.{item_frame}
use Rattle.vl_frame.specs.declared.kinds.FrameKind.TheVariants as kinds
use Rattle.vl_frame.specs.laws.Laws.{length-frame_bytes}
use Rattle.vl_manifest.specs.Edits.{edits_body}
use Rattle.vl_model.specs.Formats.{manifest_format}
use Rattle.vl_manifest.specs.Grammar.{edits_grammar}
use Rattle.vl_manifest.proofs.switch.staged_edits.Goals as goal

pub returns-clause-staged : goal.returns-clause-staged
returns-clause-staged c =
    let written = item_frame (edits_grammar manifest_format) c.args.manifest c.args.place c.args.edits.now in
    let frame : c.write_edits.new.out.items ≡ written =
    c.in_ok-write_edits.ensures.written ∙ ap (λ (l : List ℕ). l ++ written) c.new-frame.ensures.items in
    let long = length-frame_bytes c.args.manifest c.args.place kinds.Edits (edits_body c.args.edits.now) in
    record {
      frame = frame;
      has = record { lawful = c.in_ok-write_edits.ensures.lawful; short = omega (arith, c.in_ok-write_edits.ensures.short) };
      short = omega (arith, c.in_ok-write_edits.ensures.short, ap length frame, long);
      fits = omega arith;
    }
