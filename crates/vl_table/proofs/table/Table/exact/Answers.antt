use Rattle.std.proofs.Common.{◌≡◌, ◌∙◌, ap, sym, refl, subst, List, Option, None}
use Rattle.std.specs.Prelude.{Result, Err}
use Rattle.std.specs.Option.{option_map}
use Rattle.std.proofs.lemmas.Result.{err_from_is_err_and}
use Rattle.vl_model.specs.Winners.{exact}
use Rattle.vl_model.specs.declared.entry.Entry.{Entry}
use Rattle.vl_model.specs.Lookups.{first_over, if_exact}
use Rattle.vl_model.specs.Cutting.{blocks}
use Rattle.vl_table.specs.body.Founds.{found_of}
use Rattle.vl_table.specs.declared.body.found.Found.{Found}
use Rattle.vl_table.specs.Answers.{Answers}
use Rattle.vl_table.specs.Meets.{LooksIn}
use Rattle.vl_table.specs.Seeks.{IsBadBlock}
use Rattle.vl_table.specs.Tables.{IsOf, number_of, shape_of}
use Rattle.vl_disk.specs.declared.read_fault.ReadFault.{ReadFault}
use Rattle.vl_table.specs.laws.KeyRanges.{exact-none}
use Rattle.vl_table.specs.laws.RangeLaws.{holds_none}
use Rattle.vl_table.proofs.AnswerSteps.{and_then, fails, gives, none_needed}
use Rattle.vl_table.proofs.Lookups.{exact-blocks}
use Rattle.vl_table.proofs.Results.{true_false}
use Rattle.vl_table.proofs.table.Table.exact.Goals as goal

pub returns-clause-answers : goal.returns-clause-answers
returns-clause-answers g c = λ files reads.
    let key = c.args.key.now in
    let t = c.args.self.now in
    and_then _ _ _ (number_of t) (g.H.HeldFile.bytes t.held) _ (λ bytes found. found ≡ c.of_version.result) _ _
    (λ bytes damage. ⊥) _ c.in_ok-found.found _
    (λ bytes told good found is es is_of.
    ap (option_map (found_of key)) is
    ∙ c.of_version.ensures key (first_over key c.args.version (blocks (shape_of t).format es)) (good es is_of)
    ∙ exact-blocks (shape_of t).format key c.args.version es is_of.shape.table.tabled.ordered)
    (λ bytes told good damage none. absurd none)
    (c.in_ok-found.ensures.answers files reads) (gives _ (number_of t) _ _ _ c.of_version.result (λ bytes told. refl))

pub returns-in_err-found-clause-answers : goal.returns-in_err-found-clause-answers
returns-in_err-found-clause-answers g c = λ files reads.
    let t = c.args.self.now in
    let p = err_from_is_err_and c.from_residual.result c.from_residual.ensures.1 in
    subst (λ (r : Result (Option Found) ReadFault). Answers (g.R.Reader.faults c.args.reader.now.reader)
    (g.R.Reader.faults c.seek.new.reader.reader)
    (number_of c.args.self.now) (g.H.HeldFile.bytes c.args.self.now.held)
    (λ bytes found. (es : List Entry) → IsOf g.H.HeldFile.bytes c.args.self.now es
    → option_map (found_of c.args.key.now) found ≡ exact es c.args.key.now c.args.version)
    (IsBadBlock (shape_of c.args.self.now)) r) (sym (p.1 ∙ ap Err p.2))
    (fails _ _ (number_of t) _ _ _ _ _ c.in_err-found.field-0.0 (λ bytes told damage bad. bad) (c.in_err-found.ensures.answers files reads))

pub returns-clause-looks : goal.returns-clause-looks
returns-clause-looks g c = λ files reads holds bytes told.
    let looks = c.in_ok-found.ensures.looks files reads bytes told in
    record { met = λ rises. let meets = looks.met rises in (meets.0, meets.1, c.of_version.ensures c.args.key.now meets.0 meets.2) }

pub returns-in_err-found-clause-looks : goal.returns-in_err-found-clause-looks
returns-in_err-found-clause-looks g c = λ files reads holds.
    let p = err_from_is_err_and c.from_residual.result c.from_residual.ensures.1 in
    subst (λ (r : Result (Option Found) ReadFault). LooksIn g.H.HeldFile.bytes (if_exact c.args.key.now c.args.version)
    c.args.self.now c.args.key.now c.args.version r) (sym p.1) tt

pub returns-in_err-found-clause-no_memory : goal.returns-in_err-found-clause-no_memory
returns-in_err-found-clause-no_memory g c =
    let p = err_from_is_err_and c.from_residual.result c.from_residual.ensures.1 in
    none_needed (Option Found) c.in_err-found.field-0.0 p.0 c.from_residual.result p.1 p.2 c.in_err-found.ensures.no_memory

pub returns-clause-unread : goal.returns-clause-unread
returns-clause-unread g c = λ unheld. absurd (true_false (sym (sym c.may_hold.ensures ∙ c.if-not-may_hold.false) ∙ unheld))

pub returns-in_err-found-clause-unread : goal.returns-in_err-found-clause-unread
returns-in_err-found-clause-unread g c = λ unheld. absurd (true_false (sym (sym c.may_hold.ensures ∙ c.if-not-may_hold.false) ∙ unheld))

pub returns-then-not-may_hold-clause-answers : goal.returns-then-not-may_hold-clause-answers
returns-then-not-may_hold-clause-answers g c = λ files reads.
    let t = c.args.self.now in
    let unheld = sym c.may_hold.ensures ∙ c.if-not-may_hold.true in
    gives _ (number_of t) _ _ _ None (λ bytes told es is.
    sym (exact-none c.args.key.now c.args.version es (holds_none (number_of t) c.args.key.now (shape_of t) es is.shape unheld)))

pub returns-then-not-may_hold-clause-looks : goal.returns-then-not-may_hold-clause-looks
returns-then-not-may_hold-clause-looks g c = λ files reads holds. absurd
    (true_false (sym holds ∙ (sym c.may_hold.ensures ∙ c.if-not-may_hold.true)))
