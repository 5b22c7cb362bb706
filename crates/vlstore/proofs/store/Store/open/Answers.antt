use Rattle.std.proofs.Common.{refl, sym, ap, ◌∙◌, subst}
use Rattle.std.specs.Prelude.{None, is_some}
use Rattle.vl_disk.specs.Started.{read_left}
use Rattle.vl_engine_laws.specs.Found.{recovered}
use Rattle.vl_engine_laws.specs.Reopened.{reopened}
use Rattle.vl_engine_model.specs.Start.{layout_at_start}
use Rattle.vl_model.specs.History.{last_number}
use Rattle.vl_recover.specs.declared.fails.OpenError.TheVariants as why
use Rattle.vl_recover.specs.laws.opening.ReadImage.{read_image}
use Rattle.vlstore.specs.Opening.{IsRefusedOpening}
use Rattle.vlstore.specs.Reopening.{KeepsStore}
use Rattle.vlstore.specs.Standing.{NeverFails, parts}
use Rattle.vl_sequence.proofs.Beginnings.{passed_up}
use Rattle.vlstore.proofs.First.{is_whole}
use Rattle.vlstore.proofs.ShopKept.{begins_again, begins_over, origin_again, same_telling, shown_again, unopened, unseated}
use Rattle.vlstore.proofs.store.Store.open.Goals as goal

pub store_from-requires-clause-suits : goal.store_from-requires-clause-suits
store_from-requires-clause-suits g c =
    let engine = c.in_ok-engine.engine in
    let opens = c.in_ok-engine.ensures in
    let bytes = g.D.Held.HeldFile.bytes in
    let sure = NeverFails g.D.Watched.faults g.D.Reader.Reader.faults g.D.Writer.Writer.faults in
    let x = parts (g.D.Watched.told engine.disk) engine.core engine.merging engine.collecting engine.removing in
    begins_over bytes sure x _ c.args.room opens.merging
    (λ state at. ap is_some (opens.tells state (sym (ap g.D.Watched.told c.of-before.ensures) ∙ at)).1)
    (λ is.
    let (state, told, (h, kept)) = c.requires.keeps engine.disk is in
    let again = reopened h (last_number h) in
    let (read, is_read) = read_image state in
    let shown = shown_again read h (kept.shows read (read_left read state is_read)) in
    let found = (opens.answer state read told is_read).0 in
    let l = layout_at_start c.args.room (recovered found shown) in (
      origin_again h l,
      begins_again bytes sure x h c.args.room state _ read found shown (ap g.D.Watched.told c.of-before.ensures ∙ told) kept is_read
          opens.merging
          (λ tells. is_whole bytes x again l opens.merging refl
          (opens.represents state read found again told kept.may_open is_read shown)
          (opens.fits state read found again told is_read shown)
          (opens.collects state read found again told is_read shown)
          (opens.removes state read found again told is_read shown)),
    ))

pub store_from-requires-clause-stands : goal.store_from-requires-clause-stands
store_from-requires-clause-stands g c o begins = begins.stands

pub returns-in-Ok-clause-from : goal.returns-in-Ok-clause-from
returns-in-Ok-clause-from g c left told =
    c.in-Ok.ensures.suits.from left (ap g.D.Watched.told c.of-before.ensures ∙ told)

pub returns-in-Ok-clause-tells : goal.returns-in-Ok-clause-tells
returns-in-Ok-clause-tells g c =
    let engine = c.in_ok-engine.engine in
    c.in-Ok.ensures.tells
    ∙ same_telling KeepsStore (g.D.Watched.told c.args.disk) (g.D.Watched.told engine.disk) c.in_ok-engine.ensures.tells
    (c.requires.keeps engine.disk)

-- an engine's opening was refused

pub returns-in_err-engine-clause-refused : goal.returns-in_err-engine-clause-refused
returns-in_err-engine-clause-refused g c =
    let fail = c.in_err-engine.field-0.0 in
    let opens = c.in_err-engine.ensures in
    passed_up c.from_residual.result fail (IsRefusedOpening g.D.Watched (λ r. g.D.Reader.Reader.faults r) c.args.disk)
    c.from_residual.ensures.1
    (unopened g.D.Watched (λ r. g.D.Reader.Reader.faults r) c.args.disk fail opens.answer opens.cause opens.read_fault
    (λ none. opens.left_alone none refl) opens.through opens.again)

-- no memory was left for the sessions

pub returns-clause-refused : goal.returns-clause-refused
returns-clause-refused g c =
    let opens = c.in_ok-engine.ensures in
    subst (λ d. IsRefusedOpening g.D.Watched (λ r. g.D.Reader.Reader.faults r) c.args.disk
    (record { why = why.NoMemory; disk = d; reader = None }))
    (sym (c.close.ensures ∙ ap (λ e. e.disk) c.in-Err.ensures.back))
    (unseated g.D.Watched (λ r. g.D.Reader.Reader.faults r) c.args.disk c.in_ok-engine.engine.disk opens.cause opens.through opens.again)
