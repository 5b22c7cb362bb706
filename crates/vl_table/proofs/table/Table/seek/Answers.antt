use Rattle.std.proofs.Common.{◌≡◌, ◌<◌, ◌≤◌, ◌∷◌, [], ◌∙◌, ap, refl, sym, subst, arith, length, List, Option, Some, None}
use Rattle.std.specs.Prelude.{Result, Err}
use Rattle.std.specs.List.{prefix_len}
use Rattle.std.proofs.lemmas.Result.{err_from_is_err_and}
use Rattle.vl_model.specs.Lookups.{if_of_key, is_below, IsParted}
use Rattle.vl_table.specs.declared.body.found.Found.{Found}
use Rattle.vl_table.specs.declared.body.index.BlockPlace.{BlockPlace}
use Rattle.vl_table.specs.declared.body.shape.TableShape.{TableShape}
use Rattle.vl_table.specs.Answers.{Answers}
use Rattle.vl_table.specs.Kept.{id_of}
use Rattle.vl_table.specs.KeptBlocks.{ReadsOf}
use Rattle.vl_table.specs.Meets.{LooksIn}
use Rattle.vl_table.specs.Seeks.{IsBadBlock}
use Rattle.vl_table.specs.Tables.{number_of, shape_of}
use Rattle.vl_table.proofs.KeptSteps.{place_at}
use Rattle.vl_table.proofs.SeekSteps.{Finds, finds_none, found_here, load_fails, looks_here, looks_none, moves_on}
use Rattle.vl_table.proofs.SeekSteps.{says_at, says_other, seeks}
use Rattle.vl_disk.specs.declared.read_fault.ReadFault.{ReadFault}
use Rattle.vl_table.proofs.table.Table.seek.Goals as goal

pub loop-at-init : goal.loop-at-init
loop-at-init g c = record {
  steady = refl;
  so = λ files reads.
      let places : c.as_slice-places.result.now ≡ (shape_of c.args.self.now).blocks.items =
      c.as_slice-places.ensures.value ∙ ap (λ (s : TableShape). s.blocks.items) c.shape.ensures in
      seeks g.H.HeldFile.bytes c.args.self.now c.args.key.now c.args.version files _ c.args.reader.now c.first_block-at.result reads.kept
      (subst (λ (l : List BlockPlace). IsParted (λ (p : BlockPlace). is_below c.args.key.now p.last) l
      → c.first_block-at.result ≡ prefix_len (λ (p : BlockPlace). is_below c.args.key.now p.last) l) places c.first_block-at.ensures.first);
}

pub returns-in_err-load-clause-kept : goal.returns-in_err-load-clause-kept
returns-in_err-load-clause-kept g c = λ files reads.
    let so = c.loop-at.invariant.so files reads in
    let over : ReadsOf g.H.HeldFile.bytes files c.loop-at.reader (c.args.self.now ∷ []) = record { kept = so.kept; told = reads.told } in
    c.load.ensures.kept files over

pub returns-in_err-load-clause-answers : goal.returns-in_err-load-clause-answers
returns-in_err-load-clause-answers g c = λ files reads.
    let so = c.loop-at.invariant.so files reads in
    let over : ReadsOf g.H.HeldFile.bytes files c.loop-at.reader (c.args.self.now ∷ []) = record { kept = so.kept; told = reads.told } in
    let places : c.as_slice-places.result.now ≡ (shape_of c.args.self.now).blocks.items =
    c.as_slice-places.ensures.value ∙ ap (λ (s : TableShape). s.blocks.items) c.shape.ensures in
    let within : c.loop-at.at < length (shape_of c.args.self.now).blocks.items = omega (arith, c.loop-at-test.true, ap length places) in
    let p = place_at (shape_of c.args.self.now).blocks.items c.loop-at.at within in
    let e = err_from_is_err_and c.from_residual.result c.from_residual.ensures.1 in
    subst (λ (r : Result (Option Found) ReadFault). Answers (g.R.Reader.faults c.args.reader.now.reader)
    (g.R.Reader.faults c.load.new.self.reader)
    (number_of c.args.self.now) (g.H.HeldFile.bytes c.args.self.now.held)
    (Finds g.H.HeldFile.bytes c.args.self.now c.args.key.now c.args.version) (IsBadBlock (shape_of c.args.self.now)) r)
    (sym (e.1 ∙ ap Err e.2))
    (load_fails g.H.HeldFile.bytes c.args.self.now c.args.key.now c.args.version c.loop-at.at p.0 within p.1 _ _ _
    c.load.new.self.front c.in_err-load.field-0.0 so.steady
    (c.in_err-load.ensures.answers files p.0 over p.1))

pub returns-in-At-clause-kept : goal.returns-in-At-clause-kept
returns-in-At-clause-kept g c = λ files reads.
    let so = c.loop-at.invariant.so files reads in
    let over : ReadsOf g.H.HeldFile.bytes files c.loop-at.reader (c.args.self.now ∷ []) = record { kept = so.kept; told = reads.told } in
    c.load.ensures.kept files over

pub returns-in-At-clause-answers : goal.returns-in-At-clause-answers
returns-in-At-clause-answers g c = λ files reads.
    let so = c.loop-at.invariant.so files reads in
    let over : ReadsOf g.H.HeldFile.bytes files c.loop-at.reader (c.args.self.now ∷ []) = record { kept = so.kept; told = reads.told } in
    let places : c.as_slice-places.result.now ≡ (shape_of c.args.self.now).blocks.items =
    c.as_slice-places.ensures.value ∙ ap (λ (s : TableShape). s.blocks.items) c.shape.ensures in
    let within : c.loop-at.at < length (shape_of c.args.self.now).blocks.items = omega (arith, c.loop-at-test.true, ap length places) in
    let p = place_at (shape_of c.args.self.now).blocks.items c.loop-at.at within in
    let says = says_at c.args.key.now c.args.version c.args.self.now p.0 c.load.new.self.front c.in-At.found
    (λ bytes es has. c.in-At.ensures es (c.entries.ensures (id_of (shape_of c.args.self.now) p.0) bytes es has)) in
    found_here g.H.HeldFile.bytes c.args.self.now c.args.key.now c.args.version c.loop-at.at p.0 within p.1 _ _ _
    c.load.new.self.front (Some c.in-At.found) so.steady
    (c.in_ok-load.ensures.answers files p.0 over p.1) says so.so_far

pub returns-in-At-clause-looks : goal.returns-in-At-clause-looks
returns-in-At-clause-looks g c = λ files reads.
    let so = c.loop-at.invariant.so files reads in
    let over : ReadsOf g.H.HeldFile.bytes files c.loop-at.reader (c.args.self.now ∷ []) = record { kept = so.kept; told = reads.told } in
    let places : c.as_slice-places.result.now ≡ (shape_of c.args.self.now).blocks.items =
    c.as_slice-places.ensures.value ∙ ap (λ (s : TableShape). s.blocks.items) c.shape.ensures in
    let within : c.loop-at.at < length (shape_of c.args.self.now).blocks.items = omega (arith, c.loop-at-test.true, ap length places) in
    let p = place_at (shape_of c.args.self.now).blocks.items c.loop-at.at within in
    let says = says_at c.args.key.now c.args.version c.args.self.now p.0 c.load.new.self.front c.in-At.found
    (λ bytes es has. c.in-At.ensures es (c.entries.ensures (id_of (shape_of c.args.self.now) p.0) bytes es has)) in
    looks_here g.H.HeldFile.bytes c.args.self.now c.args.key.now c.args.version c.loop-at.at p.0 within p.1 _ _
    c.load.new.self.front (Some c.in-At.found)
    (c.in_ok-load.ensures.answers files p.0 over p.1) says so.met

pub returns-in-Other-clause-kept : goal.returns-in-Other-clause-kept
returns-in-Other-clause-kept g c = λ files reads.
    let so = c.loop-at.invariant.so files reads in
    let over : ReadsOf g.H.HeldFile.bytes files c.loop-at.reader (c.args.self.now ∷ []) = record { kept = so.kept; told = reads.told } in
    c.load.ensures.kept files over

pub returns-in-Other-clause-answers : goal.returns-in-Other-clause-answers
returns-in-Other-clause-answers g c = λ files reads.
    let so = c.loop-at.invariant.so files reads in
    let over : ReadsOf g.H.HeldFile.bytes files c.loop-at.reader (c.args.self.now ∷ []) = record { kept = so.kept; told = reads.told } in
    let places : c.as_slice-places.result.now ≡ (shape_of c.args.self.now).blocks.items =
    c.as_slice-places.ensures.value ∙ ap (λ (s : TableShape). s.blocks.items) c.shape.ensures in
    let within : c.loop-at.at < length (shape_of c.args.self.now).blocks.items = omega (arith, c.loop-at-test.true, ap length places) in
    let p = place_at (shape_of c.args.self.now).blocks.items c.loop-at.at within in
    let says = says_other c.args.key.now c.args.version c.args.self.now p.0 c.load.new.self.front
    (λ bytes es has. c.in-Other.ensures es (c.entries.ensures (id_of (shape_of c.args.self.now) p.0) bytes es has)) in
    found_here g.H.HeldFile.bytes c.args.self.now c.args.key.now c.args.version c.loop-at.at p.0 within p.1 _ _ _
    c.load.new.self.front None so.steady
    (c.in_ok-load.ensures.answers files p.0 over p.1) says so.so_far

pub returns-in-Other-clause-looks : goal.returns-in-Other-clause-looks
returns-in-Other-clause-looks g c = λ files reads.
    let so = c.loop-at.invariant.so files reads in
    let over : ReadsOf g.H.HeldFile.bytes files c.loop-at.reader (c.args.self.now ∷ []) = record { kept = so.kept; told = reads.told } in
    let places : c.as_slice-places.result.now ≡ (shape_of c.args.self.now).blocks.items =
    c.as_slice-places.ensures.value ∙ ap (λ (s : TableShape). s.blocks.items) c.shape.ensures in
    let within : c.loop-at.at < length (shape_of c.args.self.now).blocks.items = omega (arith, c.loop-at-test.true, ap length places) in
    let p = place_at (shape_of c.args.self.now).blocks.items c.loop-at.at within in
    let says = says_other c.args.key.now c.args.version c.args.self.now p.0 c.load.new.self.front
    (λ bytes es has. c.in-Other.ensures es (c.entries.ensures (id_of (shape_of c.args.self.now) p.0) bytes es has)) in
    looks_here g.H.HeldFile.bytes c.args.self.now c.args.key.now c.args.version c.loop-at.at p.0 within p.1 _ _ c.load.new.self.front None
    (c.in_ok-load.ensures.answers files p.0 over p.1) says so.met

pub loop-at-preserved : goal.loop-at-preserved
loop-at-preserved g c = record {
  steady = c.in_ok-load.ensures.cause.steady (λ none. none) ∙ c.loop-at.invariant.steady;
  so = λ files reads.
      let so = c.loop-at.invariant.so files reads in
      let over : ReadsOf g.H.HeldFile.bytes files c.loop-at.reader (c.args.self.now ∷ []) = record { kept = so.kept; told = reads.told } in
      let places : c.as_slice-places.result.now ≡ (shape_of c.args.self.now).blocks.items =
      c.as_slice-places.ensures.value ∙ ap (λ (s : TableShape). s.blocks.items) c.shape.ensures in
      let within : c.loop-at.at < length (shape_of c.args.self.now).blocks.items = omega (arith, c.loop-at-test.true, ap length places) in
      let p = place_at (shape_of c.args.self.now).blocks.items c.loop-at.at within in
      moves_on g.H.HeldFile.bytes c.args.self.now c.args.key.now c.args.version c.loop-at.at p.0 within p.1 _ _ _ files
      c.loop-at.reader c.load.new.self so
      (c.load.ensures.kept files over) (c.in_ok-load.ensures.answers files p.0 over p.1)
      (λ bytes es has. c.in-Behind.ensures es (c.entries.ensures (id_of (shape_of c.args.self.now) p.0) bytes es has));
}

pub returns-clause-kept : goal.returns-clause-kept
returns-clause-kept g c = λ files reads.
    (c.loop-at.invariant.so files reads).kept

pub returns-clause-answers : goal.returns-clause-answers
returns-clause-answers g c = λ files reads.
    let places : c.as_slice-places.result.now ≡ (shape_of c.args.self.now).blocks.items =
    c.as_slice-places.ensures.value ∙ ap (λ (s : TableShape). s.blocks.items) c.shape.ensures in
    let past : length (shape_of c.args.self.now).blocks.items ≤ c.loop-at.at = omega (arith, c.loop-at-test.false, ap length places) in
    finds_none g.H.HeldFile.bytes c.args.self.now c.args.key.now c.args.version files _ _ c.loop-at.reader c.loop-at.at
    (c.loop-at.invariant.so files reads) past

pub returns-clause-looks : goal.returns-clause-looks
returns-clause-looks g c = λ files reads.
    let places : c.as_slice-places.result.now ≡ (shape_of c.args.self.now).blocks.items =
    c.as_slice-places.ensures.value ∙ ap (λ (s : TableShape). s.blocks.items) c.shape.ensures in
    let past : length (shape_of c.args.self.now).blocks.items ≤ c.loop-at.at = omega (arith, c.loop-at-test.false, ap length places) in
    looks_none g.H.HeldFile.bytes c.args.self.now c.args.key.now c.args.version files (g.R.Reader.faults c.args.reader.now.reader)
    (g.R.Reader.faults c.loop-at.reader.reader) c.loop-at.reader c.loop-at.at (c.loop-at.invariant.so files reads) past

pub returns-in_err-load-clause-looks : goal.returns-in_err-load-clause-looks
returns-in_err-load-clause-looks g c = λ files reads.
    let e = err_from_is_err_and c.from_residual.result c.from_residual.ensures.1 in
    subst (λ (r : Result (Option Found) ReadFault). LooksIn g.H.HeldFile.bytes (if_of_key c.args.key.now)
    c.args.self.now c.args.key.now c.args.version r) (sym e.1) tt
