use Rattle.std.specs.Prelude.{ℕ, Bool, true, false, List, Ok, Err, None, Result, Option}
use Rattle.std.specs.Option.{option_map}
use Rattle.std.proofs.Common.{◌≡◌, ◌∙◌, ◌∷◌, [], ap, refl, sym, subst}
use Rattle.std.proofs.lemmas.Result.{err_from_is_err_and}
use Rattle.vl_table.specs.body.Founds.{found_of}
use Rattle.vl_table.specs.declared.body.found.Found.{Found}
use Rattle.vl_table.specs.declared.body.shape.TableShape.{TableShape}
use Rattle.vl_table.specs.Tables.{shape_of}
use Rattle.vl_disk.specs.declared.read_fault.ReadFault.{ReadFault}
use Rattle.vl_table.specs.declared.table.Table.{Table}
use Rattle.vl_version.specs.levels.LookedUp.{LooksInAll, LooksOn}
use Rattle.vl_version.specs.levels.Looks.{is_wanted}
use Rattle.vl_version.specs.declared.levels.look.Look.{Look}
use Rattle.vl_version.proofs.looking.LookSteps.{asks, asks_in_vain, skips}
use Rattle.vl_version.proofs.looking.Through.{looks_in, stops_here, through_one, unheld}
use Rattle.vl_version.proofs.levels.lookup.look_in.Goals as goal

wants : {H : Type 0} (look : Look) (key : List ℕ) (best : Option Found) (t : Table H) (s : TableShape) (is b : Bool) → s ≡ shape_of t
    → is ≡ is_wanted look (option_map (found_of key) best) s.footer.greatest → is ≡ b
    → is_wanted look (option_map (found_of key) best) (shape_of t).footer.greatest ≡ b
wants look key best t s is b same wanted test =
    ap (λ (u : TableShape). is_wanted look (option_map (found_of key) best) u.footer.greatest) (sym same) ∙ sym wanted ∙ test

pub returns-then-not-is_wanted-clause-answers : goal.returns-then-not-is_wanted-clause-answers
returns-then-not-is_wanted-clause-answers g c = λ files reads.
    skips g.H.HeldFile.bytes c.args.look c.args.key.now c.args.table.now
    (option_map (found_of c.args.key.now) c.args.best) (Unit {0}) c.args.best _ refl
    (wants c.args.look c.args.key.now c.args.best c.args.table.now c.shape.result.now c.is_wanted.result false
    c.shape.ensures (c.is_wanted.ensures c.args.key.now) c.if-not-is_wanted.true)

pub returns-in_err-older-clause-answers : goal.returns-in_err-older-clause-answers
returns-in_err-older-clause-answers g c = λ files reads.
    let p = err_from_is_err_and c.from_residual.result c.from_residual.ensures.1 in
    subst (λ (r : Result (Option Found) ReadFault). LooksOn g.H.HeldFile.bytes (c.args.table.now ∷ []) (Unit {0})
    c.args.look c.args.key.now
    (option_map (found_of c.args.key.now) c.args.best) (g.R.Reader.faults c.args.reader.now.reader)
    (g.R.Reader.faults c.ask.new.reader.reader) r)
    (sym (p.1 ∙ ap Err p.2))
    (asks_in_vain g.H.HeldFile.bytes c.args.look c.args.key.now c.args.table.now
    (option_map (found_of c.args.key.now) c.args.best) (Unit {0}) _ _
    c.in_err-older.field-0.0 (λ no. (c.in_err-older.ensures.unread no).0) (c.in_err-older.ensures.answers files reads))

pub returns-clause-answers : goal.returns-clause-answers
returns-clause-answers g c = λ files reads.
    asks g.H.HeldFile.bytes c.args.look c.args.key.now c.args.table.now (option_map (found_of c.args.key.now) c.args.best) (Unit {0}) _ _
    c.in_ok-older.older c.better.result (c.better.ensures.counts c.args.key.now) (c.in_ok-older.ensures.answers files reads)

pub returns-clause-looks : goal.returns-clause-looks
returns-clause-looks g c = λ files reads.
    through_one g.H.HeldFile.bytes c.args.look c.args.key.now (option_map (found_of c.args.key.now) c.args.best) c.args.table.now
    (option_map (found_of c.args.key.now) c.better.result)
    (looks_in g.H.HeldFile.bytes c.args.look c.args.key.now (option_map (found_of c.args.key.now) c.args.best) c.args.table.now
    c.in_ok-older.older c.better.result
    (wants c.args.look c.args.key.now c.args.best c.args.table.now c.shape.result.now c.is_wanted.result true
    c.shape.ensures (c.is_wanted.ensures c.args.key.now) c.if-not-is_wanted.false)
    (c.better.ensures.counts c.args.key.now)
    (λ refused. let unread = (c.in_ok-older.ensures.unread refused).0 in cc) (c.in_ok-older.ensures.looks files reads))

other_answer : (e : ReadFault) (x : Option Found) → ◌≡◌ {A = Result (Option Found) ReadFault} (Err e) (Ok x) → ⊥
other_answer e x is = cc

pub returns-in_err-older-clause-looks : goal.returns-in_err-older-clause-looks
returns-in_err-older-clause-looks g c = λ files reads.
    let p = err_from_is_err_and c.from_residual.result c.from_residual.ensures.1 in
    subst (λ (r : Result (Option Found) ReadFault). LooksInAll g.H.HeldFile.bytes c.args.look c.args.key.now
    (option_map (found_of c.args.key.now) c.args.best) (c.args.table.now ∷ []) r) (sym (p.1 ∙ ap Err p.2))
    (stops_here g.H.HeldFile.bytes c.args.look c.args.key.now (option_map (found_of c.args.key.now) c.args.best)
    c.args.table.now _ _ _ c.in_err-older.field-0.0
    (wants c.args.look c.args.key.now c.args.best c.args.table.now c.shape.result.now c.is_wanted.result true
    c.shape.ensures (c.is_wanted.ensures c.args.key.now) c.if-not-is_wanted.false)
    (λ no. other_answer c.in_err-older.field-0.0 None (c.in_err-older.ensures.unread no).0) (c.in_err-older.ensures.answers files reads))

pub returns-in_err-older-clause-unread : goal.returns-in_err-older-clause-unread
returns-in_err-older-clause-unread g c = λ refused.
    let wanted = wants c.args.look c.args.key.now c.args.best c.args.table.now c.shape.result.now c.is_wanted.result
    true c.shape.ensures (c.is_wanted.ensures c.args.key.now) c.if-not-is_wanted.false in
    let no = unheld g.H.HeldFile.bytes c.args.look c.args.key.now (option_map (found_of c.args.key.now) c.args.best)
    c.args.table.now wanted refused in
    absurd (other_answer c.in_err-older.field-0.0 None (c.in_err-older.ensures.unread no).0)

pub returns-clause-unread : goal.returns-clause-unread
returns-clause-unread g c = λ refused.
    let wanted = wants c.args.look c.args.key.now c.args.best c.args.table.now c.shape.result.now c.is_wanted.result
    true c.shape.ensures (c.is_wanted.ensures c.args.key.now) c.if-not-is_wanted.false in
    let no = unheld g.H.HeldFile.bytes c.args.look c.args.key.now (option_map (found_of c.args.key.now) c.args.best)
    c.args.table.now wanted refused in
    let unread = c.in_ok-older.ensures.unread no in
    (ap Ok (c.better.ensures.same (inside c.in_ok-older.older None unread.0)), unread.1)
  where
    inside : (x y : Option Found) → ◌≡◌ {A = Result (Option Found) ReadFault} (Ok x) (Ok y) → x ≡ y
    inside x y is = cc
