use Rattle.std.proofs.Common.{sym, subst, List, ℕ}
use Rattle.vl_table.specs.body.Footer.{SpellsFooter}
use Rattle.vl_frame.specs.laws.Laws.{one_frame}
use Rattle.vl_frame.specs.declared.kinds.FileKind.TheVariants as files
use Rattle.vl_frame.specs.declared.kinds.FrameKind.TheVariants as kinds
use Rattle.vl_table.proofs.Results.{none_weaker}
use Rattle.vl_table.proofs.open.footer_in.Goals as goal
use Rattle.vl_table.proofs.open.footer_in.Goals.{in_default-via-in-Some+else-is_same, in_default-via-in_default}

pub returns-in-Some-clause-none : goal.returns-in-Some-clause-none
returns-in-Some-clause-none c =
    let frame = c.in-Some.frame in
    none_weaker c.read_footer.result _ _
    (λ none f s.
    let same = one_frame files.Table c.args.number c.args.place c.args.bytes.now frame.kind kinds.Footer frame.body.now
    s.body c.in-Some.ensures.found.0 s.frame in
    none f (subst (λ (b : List ℕ). SpellsFooter c.args.format b f) (sym same.1) s.says))
    c.read_footer.ensures.none

pub returns-in_default-clause-none : goal.returns-in_default-clause-none
returns-in_default-clause-none c = λ f s. elim c.in_default.branch [
  | in_default-via-in-Some+else-is_same w ↦
      let frame = w.in-Some.frame in
      let same = one_frame files.Table c.args.number c.args.place c.args.bytes.now frame.kind kinds.Footer
      frame.body.now s.body w.in-Some.ensures.found.0 s.frame in
      let yes = w.is_same.ensures.1 same.0 in let no = w.if-is_same.false in cc
  | in_default-via-in_default w ↦ w.in_default.ensures.none kinds.Footer s.body s.frame
]
