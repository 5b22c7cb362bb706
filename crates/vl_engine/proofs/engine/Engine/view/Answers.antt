use Rattle.std.proofs.Common.{◌≡◌, ℕ, ap, arith, refl, sym, subst, true, ◌∙◌}
use Rattle.vl_engine.proofs.Beginning.{began_as, decides_begun, decides_refused, gone_kept, has_room, is_full, last_begun}
use Rattle.vl_engine.proofs.Beginning.{sees_now, tells_now, ticket_is}
use Rattle.vl_reads.specs.declared.past.Past.{Past}
use Rattle.vl_steps.specs.laws.Fitting.{fit_still}
use Rattle.vl_engine_laws.specs.laws.Knowing.{knows_of}
use Rattle.vl_engine_laws.specs.laws.Represented.{represents_live}
use Rattle.vl_engine_laws.specs.laws.Standing.{fronts_begun, stands_begun}
use Rattle.vl_steps.specs.laws.InstallDisk.{files_held}
use Rattle.vl_steps.specs.laws.Stepped.{fits_back, fits_live}
use Rattle.vl_engine_laws.specs.Known.{are_known}
use Rattle.vl_version.specs.LiesOver.{IsInMemory}
use Rattle.vl_engine_laws.specs.Represents.{Fronts, Represents, StandsFor}
use Rattle.vl_front.specs.declared.front.Front.{Front}
use Rattle.vl_engine_model.specs.Rulings.Begin.{begun}
use Rattle.vl_engine_model.specs.Tickets.{free_ticket, tickets_of}
use Rattle.vl_model.specs.History.{last_number}
use Rattle.vl_oracle.specs.LiveTickets.{LiveTickets}
use Rattle.vl_pins.specs.laws.SameTickets.{same_free_ticket, same_many}
use Rattle.vl_seglog.specs.declared.active.ActiveLog.{ActiveLog}
use Rattle.vl_table.specs.KeptBlocks.{AreKept}
use Rattle.vl_version.specs.declared.version.Version.{Version}
use Rattle.vl_space.specs.laws.StillRemoved.{pins_here, removes_live, removes_same}
use Rattle.vl_engine.proofs.engine.Engine.view.Goals as goal

pub returns-in-Ok-begin-clause-decides : goal.returns-in-Ok-begin-clause-decides
returns-in-Ok-begin-clause-decides g c h l is =
    let core = c.args.self.now.core in
    let room = has_room core h l is c.in-Ok-begin.ensures.room in
    decides_begun l h _ room _ _ (c.new.ensures.ticket ∙ c.in-Ok-begin.ensures.ok.0 ∙ ticket_is core h l is)
    (c.new.ensures.number ∙ c.last.ensures.last ∙ ap (λ (o : LiveTickets). o.last) c.in-Ok-begin.ensures.ok.1 ∙ is.front.last)
    (fronts_begun core h l is _ c.in-Ok-begin.ensures.log refl (c.in-Ok-begin.ensures.knows h (knows_of core h l is))
    c.in-Ok-begin.ensures.ok.1 room)

pub returns-in-Ok-begin-clause-stands : goal.returns-in-Ok-begin-clause-stands
returns-in-Ok-begin-clause-stands g c h l is =
    let core = c.args.self.now.core in
    let f = is.fronts in
    let room = has_room core h l f c.in-Ok-begin.ensures.room in
    decides_begun l h _ room _ _ (c.new.ensures.ticket ∙ c.in-Ok-begin.ensures.ok.0 ∙ ticket_is core h l f)
    (c.new.ensures.number ∙ c.last.ensures.last ∙ ap (λ (o : LiveTickets). o.last) c.in-Ok-begin.ensures.ok.1 ∙ f.front.last)
    (stands_begun g.D.Held.HeldFile.bytes core _ h l is c.share.ensures.same
    (fronts_begun core h l f _ c.in-Ok-begin.ensures.log refl (c.in-Ok-begin.ensures.knows h (knows_of core h l f))
    c.in-Ok-begin.ensures.ok.1 room))

pub returns-in-Ok-begin-clause-represents : goal.returns-in-Ok-begin-clause-represents
returns-in-Ok-begin-clause-represents g c h l is =
    let core = c.args.self.now.core in
    let f = is.stands.fronts in
    let room = has_room core h l f c.in-Ok-begin.ensures.room in
    decides_begun l h _ room _ _ (c.new.ensures.ticket ∙ c.in-Ok-begin.ensures.ok.0 ∙ ticket_is core h l f)
    (c.new.ensures.number ∙ c.last.ensures.last ∙ ap (λ (o : LiveTickets). o.last) c.in-Ok-begin.ensures.ok.1 ∙ f.front.last)
    (represents_live g.D.Held.HeldFile.bytes core _ h l refl _ _ refl
    (begun l (free_ticket (tickets_of l.live)) (last_number h)).live is
    (stands_begun g.D.Held.HeldFile.bytes core _ h l is.stands c.share.ensures.same
    (fronts_begun core h l f _ c.in-Ok-begin.ensures.log refl (c.in-Ok-begin.ensures.knows h (knows_of core h l f))
    c.in-Ok-begin.ensures.ok.1 room)))

pub returns-in-Ok-begin-clause-fits : goal.returns-in-Ok-begin-clause-fits
returns-in-Ok-begin-clause-fits g c h l is fits =
    let core = c.args.self.now.core in
    let f = is.fronts in
    let room = has_room core h l f c.in-Ok-begin.ensures.room in
    decides_begun l h _ room _ _ (c.new.ensures.ticket ∙ c.in-Ok-begin.ensures.ok.0 ∙ ticket_is core h l f)
    (c.new.ensures.number ∙ c.last.ensures.last ∙ ap (λ (o : LiveTickets). o.last) c.in-Ok-begin.ensures.ok.1 ∙ f.front.last)
    (fits_live core _ h l _ _ refl refl (begun l (free_ticket (tickets_of l.live)) (last_number h)).live fits)

pub returns-in-Ok-begin-clause-sees : goal.returns-in-Ok-begin-clause-sees
returns-in-Ok-begin-clause-sees g c h l is =
    sees_now g.D.Held.HeldFile.bytes c.args.self.now.core h l is _ (c.new.ensures.version ∙ c.in_ok-version.ensures.shared)
    (c.new.ensures.number ∙ c.last.ensures.last ∙ ap (λ (o : LiveTickets). o.last) c.in-Ok-begin.ensures.ok.1 ∙ is.fronts.front.last)
    (c.new.ensures.past ∙ c.past_of-past.ensures)
    (λ files. subst (AreKept files) (sym c.new.ensures.reader) (c.in-Ok.ensures.blocks files))

pub returns-in-Ok-begin-clause-tells : goal.returns-in-Ok-begin-clause-tells
returns-in-Ok-begin-clause-tells g c h l is files up =
    tells_now g.D.Held.HeldFile.bytes c.args.self.now.core h l is c.new.result
    (c.new.ensures.version ∙ c.in_ok-version.ensures.shared)
    (c.new.ensures.number ∙ c.last.ensures.last ∙ ap (λ (o : LiveTickets). o.last) c.in-Ok-begin.ensures.ok.1
    ∙ is.fronts.front.last)
    (c.new.ensures.past ∙ c.past_of-past.ensures) files up

pub returns-in-Ok-begin-clause-gone : goal.returns-in-Ok-begin-clause-gone
returns-in-Ok-begin-clause-gone g c = ap (λ (p : Past). p.gone) (c.new.ensures.past ∙ c.past_of-past.ensures)

pub returns-in-Ok-begin-clause-tells_held : goal.returns-in-Ok-begin-clause-tells_held
returns-in-Ok-begin-clause-tells_held g c h l is going =
    let core = c.args.self.now.core in
    let gone = gone_kept g.D.Held.HeldFile.bytes core (g.D.Watched.told c.args.self.now.disk) h l is going in (
      tells_now g.D.Held.HeldFile.bytes core h l is.stands c.new.result (c.new.ensures.version ∙ c.in_ok-version.ensures.shared)
          (c.new.ensures.number ∙ c.last.ensures.last ∙ ap (λ (o : LiveTickets). o.last) c.in-Ok-begin.ensures.ok.1
          ∙ is.stands.fronts.front.last)
          (c.new.ensures.past ∙ c.past_of-past.ensures)
          (files_held core.back (g.D.Watched.told c.args.self.now.disk) h l (is.held going)) (omega (arith, gone)),
      ap (λ (p : Past). p.gone) (c.new.ensures.past ∙ c.past_of-past.ensures) ∙ gone,
    )

pub returns-in-Ok-begin-clause-began : goal.returns-in-Ok-begin-clause-began
returns-in-Ok-begin-clause-began g c h l is =
    began_as c.args.self.now.core h l is.fronts c.new.result.past (c.new.ensures.past ∙ c.past_of-past.ensures)

pub returns-in-Ok-begin-clause-memory : goal.returns-in-Ok-begin-clause-memory
returns-in-Ok-begin-clause-memory g c in_memory =
    subst (IsInMemory {H = g.row.D-Held.Denot}) (sym (c.new.ensures.version ∙ c.in_ok-version.ensures.shared)) in_memory

pub returns-in-Ok-begin-clause-blocks : goal.returns-in-Ok-begin-clause-blocks
returns-in-Ok-begin-clause-blocks g c files = subst (AreKept files) (sym c.new.ensures.reader) (c.in-Ok.ensures.blocks files)

pub returns-in-Err-clause-decides : goal.returns-in-Err-clause-decides
returns-in-Err-clause-decides g c h l is =
    let core = c.args.self.now.core in
    decides_refused l h _ g.row.D-Held.Denot g.row.D-Reader.Denot c.in-Err.why
    (λ many. is_full core h l is (c.in-Err.ensures.too_many (cc)))
    (subst (λ (f : Front). Fronts (record core { version = c.share.new.self; front = f }) h l) (sym c.in-Err.ensures.err)
    (subst (λ (v : Version g.row.D-Held.Denot). Fronts (record core { version = v }) h l) (sym c.share.ensures.same) is))

pub returns-in-Err-clause-stands : goal.returns-in-Err-clause-stands
returns-in-Err-clause-stands g c h l is =
    let core = c.args.self.now.core in
    decides_refused l h _ g.row.D-Held.Denot g.row.D-Reader.Denot c.in-Err.why
    (λ many. is_full core h l is.fronts (c.in-Err.ensures.too_many (cc)))
    (subst (λ (f : Front). StandsFor g.D.Held.HeldFile.bytes (record core { version = c.share.new.self; front = f }) h
    l) (sym c.in-Err.ensures.err)
    (subst (λ (v : Version g.row.D-Held.Denot). StandsFor g.D.Held.HeldFile.bytes (record core { version = v }) h l)
    (sym c.share.ensures.same) is))

pub returns-in-Err-clause-represents : goal.returns-in-Err-clause-represents
returns-in-Err-clause-represents g c h l is =
    let core = c.args.self.now.core in
    decides_refused l h _ g.row.D-Held.Denot g.row.D-Reader.Denot c.in-Err.why
    (λ many. is_full core h l is.stands.fronts (c.in-Err.ensures.too_many (cc)))
    (subst (λ (f : Front). Represents g.D.Held.HeldFile.bytes (record core { version = c.share.new.self; front = f })
    (g.D.Watched.told c.args.self.now.disk) h l)
    (sym c.in-Err.ensures.err)
    (subst (λ (v : Version g.row.D-Held.Denot). Represents g.D.Held.HeldFile.bytes (record core { version = v })
    (g.D.Watched.told c.args.self.now.disk) h l)
    (sym c.share.ensures.same) is))

pub returns-in-Err-clause-fits : goal.returns-in-Err-clause-fits
returns-in-Err-clause-fits g c h l is fits =
    let core = c.args.self.now.core in
    decides_refused l h _ g.row.D-Held.Denot g.row.D-Reader.Denot c.in-Err.why
    (λ many. is_full core h l is.fronts (c.in-Err.ensures.too_many (cc)))
    (fits_back core _ h l _ _ refl refl fits)

pub invariant_of-self-2-clause-ready : goal.invariant_of-self-2-clause-ready
invariant_of-self-2-clause-ready g c state told =
    fit_still c.args.self.now.core _ (ap (λ (log : ActiveLog). log.number) c.begin.ensures.log.log) c.begin.ensures.log.halted refl
    state (c.args.self.now.ready state told)

pub invariant_of-self-2-clause-known : goal.invariant_of-self-2-clause-known
invariant_of-self-2-clause-known g c =
    let core = c.args.self.now.core in
    subst (λ (n : ℕ). are_known n c.share.new.self.active.entries ≡ true)
    (sym (last_begun c.begin.result core.front c.begin.new.front c.begin.ensures.ok c.begin.ensures.err))
    (subst (λ (v : Version g.row.D-Held.Denot). are_known core.front.oracle.last v.active.entries ≡ true) (sym c.share.ensures.same)
    c.args.self.now.known)

-- what lives is what is pinned, by its tickets

pub invariant_of-self-2-clause-pinned : goal.invariant_of-self-2-clause-pinned
invariant_of-self-2-clause-pinned g c = c.begin.ensures.same c.args.self.now.pinned

pub returns-in-Ok-begin-clause-pins : goal.returns-in-Ok-begin-clause-pins
returns-in-Ok-begin-clause-pins g c =
    let was = c.args.self.now in
    c.in-Ok-begin.ensures.pins
    (λ full. c.in-Ok-begin.ensures.room (same_many was.core.front.oracle was.removing.pins.live was.pinned ∙ full))

pub returns-in-Ok-begin-clause-ticket : goal.returns-in-Ok-begin-clause-ticket
returns-in-Ok-begin-clause-ticket g c =
    let was = c.args.self.now in
    c.new.ensures.ticket ∙ c.in-Ok-begin.ensures.ok.0
    ∙ same_free_ticket was.core.front.oracle was.removing.pins.live was.pinned

pub returns-in-Ok-begin-clause-removes : goal.returns-in-Ok-begin-clause-removes
returns-in-Ok-begin-clause-removes g c h l is removes =
    let core = c.args.self.now.core in
    let room = has_room core h l is c.in-Ok-begin.ensures.room in
    decides_begun l h _ room _ _ (c.new.ensures.ticket ∙ c.in-Ok-begin.ensures.ok.0 ∙ ticket_is core h l is)
    (c.new.ensures.number ∙ c.last.ensures.last ∙ ap (λ (o : LiveTickets). o.last) c.in-Ok-begin.ensures.ok.1 ∙ is.front.last)
    (removes_live core _ c.args.self.now.removing (record c.args.self.now.removing { pins = c.begin.new.pins }) l
    (begun l (free_ticket (tickets_of l.live)) (last_number h)).live
    (ap (λ (v : Version g.row.D-Held.Denot). v.behind.logs.items) c.share.ensures.same) refl
    (c.in-Ok-begin.ensures.pinned l (last_number h) (pins_here core h l is c.args.self.now.removing removes)) removes)

pub returns-in-Err-clause-removes : goal.returns-in-Err-clause-removes
returns-in-Err-clause-removes g c h l is removes =
    let core = c.args.self.now.core in
    decides_refused l h _ g.row.D-Held.Denot g.row.D-Reader.Denot c.in-Err.why
    (λ many. is_full core h l is (c.in-Err.ensures.too_many (cc)))
    (removes_same core _ c.args.self.now.removing (record c.args.self.now.removing { pins = c.begin.new.pins }) l
    (ap (λ (v : Version g.row.D-Held.Denot). v.behind.logs.items) c.share.ensures.same) refl
    (c.in-Err.ensures.unpinned l (pins_here core h l is c.args.self.now.removing removes)) removes)
