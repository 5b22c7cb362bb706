use Rattle.std.proofs.Common.{◌≡◌, ◌∙◌, ap, sym, subst, get_or, List}
use Rattle.vl_model.specs.declared.entry.Entry.{Entry}
use Rattle.vl_table.specs.declared.body.shape.TableShape.{TableShape}
use Rattle.vl_table.specs.Answers.{Answers}
use Rattle.vl_table.specs.Kept.{HasBlock, IsMissing, id_of}
use Rattle.vl_table.specs.Tables.{number_of, shape_of}
use Rattle.vl_table.specs.declared.slot.BlockId.{BlockId}
use Rattle.vl_table.proofs.KeptSteps.{one_default}
use Rattle.vl_table.proofs.block_reader.BlockReader.load.Goals as goal

pub returns-clause-kept : goal.returns-clause-kept
returns-clause-kept g c = λ files reads.
    let t = c.args.table.now in
    let numbers : c.of-id.result.number ≡ number_of c.args.table.now =
    ap (λ (i : BlockId). i.number) c.of-id.ensures ∙ ap (λ (s : TableShape). s.number) c.shape-shape.ensures in
    c.load_block.ensures.kept files reads.kept (ap files numbers ∙ reads.told.0 ∙ ap g.H.HeldFile.bytes (sym c.held.ensures))

pub returns-clause-answers : goal.returns-clause-answers
returns-clause-answers g c = λ files p reads named.
    let t = c.args.table.now in
    let s = shape_of c.args.table.now in
    let numbers : c.of-id.result.number ≡ number_of c.args.table.now =
    ap (λ (i : BlockId). i.number) c.of-id.ensures ∙ ap (λ (s : TableShape). s.number) c.shape-shape.ensures in
    let place : c.index.result.now ≡ p =
    c.index.ensures ∙ ap (λ (s : TableShape). get_or s.blocks.items c.args.at c.index.result.now) c.shape-shape.ensures
    ∙ one_default (shape_of c.args.table.now).blocks.items c.args.at c.index.result.now p c.requires ∙ sym named in
    let same : c.of-id.result ≡ id_of (shape_of c.args.table.now) p =
    c.of-id.ensures ∙ ap (λ (s : TableShape). id_of s c.index.result.now) c.shape-shape.ensures
    ∙ ap (id_of (shape_of c.args.table.now)) place in
    let file = ap files numbers ∙ reads.told.0 ∙ ap g.H.HeldFile.bytes (sym c.held.ensures) in
    subst (λ (h : g.row.H.Denot). Answers (g.R.Reader.faults c.args.self.now.reader)
    (g.R.Reader.faults c.load_block.new.self.reader) (number_of t) (g.H.HeldFile.bytes h)
    (λ bytes done. (es : List Entry) × HasBlock c.load_block.new.self.front (id_of s p) bytes es)
    (IsMissing (id_of s p)) c.load_block.result) c.held.ensures
    (subst (λ (i : BlockId). Answers (g.R.Reader.faults c.args.self.now.reader)
    (g.R.Reader.faults c.load_block.new.self.reader) i.number (g.H.HeldFile.bytes c.held.result.now)
    (λ bytes done. (es : List Entry) × HasBlock c.load_block.new.self.front i bytes es) (IsMissing i) c.load_block.result) same
    (c.load_block.ensures.answers files reads.kept file))
