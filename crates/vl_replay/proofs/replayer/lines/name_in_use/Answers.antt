-- The name is in use exactly where it stands for something.
use Rattle.std.proofs.Common.{◌≡◌, ◌∙◌, ap, refl, sym}
use Rattle.std.specs.Prelude.{None, Some}
use Rattle.vl_engine_model.specs.Store.Lines.{Name}
use Rattle.vl_engine_model.specs.Store.Things.{thing_of}
use Rattle.vl_script_model.specs.Sequential.{history_of}
use Rattle.vl_replay_laws.specs.laws.Names.BeginMaking.{none_or_some}
use Rattle.vl_replay_laws.specs.laws.Passes.Used.{tested}
use Rattle.vl_replay.proofs.replayer.lines.name_in_use.Goals as goal

some_same : (a b : Name) → Some a ≡ Some b → a ≡ b
some_same a b e = cc

pub returns-then-not-is_used-clause-used : goal.returns-then-not-is_used-clause-used
returns-then-not-is_used-clause-used g c s stands name is =
    let own : c.in-Some.name.now ≡ name = some_same c.in-Some.name.now name (c.in-Some.ensures ∙ is) in
    none_or_some (thing_of s.store name)
    (sym (tested g.D.Writer.Writer g.D.Held.HeldFile.bytes c.args.planned.now c.args.passing.now c.args.served.now.opens.items
    s.store.things (history_of s) s.store.layout name stands.serves.names stands.merges.waits stands.passes.is_open
    c.deref.result.now c.deref.ensures.value c.as_slice.result.now (c.as_slice.ensures ∙ own) c.is_used.result c.is_used.ensures)
    ∙ c.if-not-is_used.true)

pub returns-clause-used : goal.returns-clause-used
returns-clause-used g c s stands = (
  sym c.in-Some.ensures ∙ ap Some (sym c.in_ok-share.ensures),
  sym (tested g.D.Writer.Writer g.D.Held.HeldFile.bytes c.args.planned.now c.args.passing.now c.args.served.now.opens.items
      s.store.things (history_of s) s.store.layout c.in_ok-share.field-0 stands.serves.names stands.merges.waits stands.passes.is_open
      c.deref.result.now c.deref.ensures.value c.as_slice.result.now (c.as_slice.ensures ∙ sym c.in_ok-share.ensures)
      c.is_used.result c.is_used.ensures)
      ∙ c.if-not-is_used.false,
)

-- ---- a line that makes no name

some_none : {X : Type 0} (x : X) → Some x ≡ None → ⊥
some_none x e = cc

pub returns-then-not-is_used-clause-unnamed : goal.returns-then-not-is_used-clause-unnamed
returns-then-not-is_used-clause-unnamed g c none = refl

pub returns-in_err-share-clause-unnamed : goal.returns-in_err-share-clause-unnamed
returns-in_err-share-clause-unnamed g c none = absurd (some_none c.in-Some.name.now (c.in-Some.ensures ∙ none))

pub returns-clause-unnamed : goal.returns-clause-unnamed
returns-clause-unnamed g c none = absurd (some_none c.in-Some.name.now (c.in-Some.ensures ∙ none))
