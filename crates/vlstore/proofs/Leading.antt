-- A step more under the lock: the list with its entry is lawful, and comes to the history and the layout that the
-- call leaves.
use Rattle.std.proofs.Common.{◌≡◌, ℕ, List, [], ◌∷◌, ◌++◌, refl, sym, ap, ◌∙◌, subst}
use Rattle.std.specs.Prelude.{Option, None, Some}
use Rattle.vl_engine_laws.specs.Lasts.{Lasts}
use Rattle.vl_engine_model.specs.Decides.{Answered, Damaged, Decides, Effects, Failed, NoMemory, Otherwise, Outcome}
use Rattle.vl_engine_model.specs.LockHistory.{IsLegalEntry, last_from, last_layout, nothing_open}
use Rattle.vl_engine_model.specs.Ruling.{Ruling, halted_at}
use Rattle.vl_engine_model.specs.declared.file_name.FileName.{FileName}
use Rattle.vl_engine_model.specs.declared.layout.Layout.{Layout}
use Rattle.vl_engine_model.specs.declared.lock_history.LockEntry.{LockEntry}
use Rattle.vl_engine_model.specs.laws.LockHistoryLaws.{last_layout-append, legal-append, none≢some}
use Rattle.vl_model.specs.History.{History}
use Rattle.vl_seglog.specs.declared.sealed.SealedLog.{SealedLog}
use Rattle.vlstore.specs.Lists.{history_by, layout_by, open_by}
use Rattle.vlstore.specs.Standing.{AreLasting, IsBehind, IsWhole, Parts}
use Rattle.vlstore.specs.declared.locked.Origin.{Origin}
use Rattle.vl_turn.specs.Entries.{with_entry}

lasting-append : {H : Type 0} (bytes : H → Option (List ℕ)) (l : Layout) (es more : List LockEntry) → AreLasting bytes l es
    → AreLasting bytes (last_layout l es) more → AreLasting bytes l (es ++ more)
lasting-append bytes l [] more last later = later
lasting-append bytes l (e ∷ es) more last later = (last.0, lasting-append bytes e.layout es more last.1 later)

module _ {H : Type 0} (bytes : H → Option (List ℕ)) (o : Origin) (list : List LockEntry) where
  -- the entry is lawful, and leads to these, halted at this file or running
  pub record Enters (at : Option FileName) (e : LockEntry) (h : History) (l : Layout) : Type 0 where
    pub legal : IsLegalEntry (last_from o.number list) (open_by list) e
    pub lasts : (log : SealedLog H) → Lasts bytes log (layout_by o list) → Lasts bytes log e.layout
    pub halted : e.layout.halted ≡ at
    pub layout : e.layout ≡ l
    pub history : history_by o (list ++ e ∷ []) ≡ h

  -- where there is none, these are what was before
  abbrev pub LeadsTo : Option FileName → Option LockEntry → History → Layout → Type 0
  LeadsTo at None h l = (history_by o list ≡ h) × (layout_by o list ≡ l)
  LeadsTo at (Some e) h l = Enters at e h l

  -- what a step may make of a halt, over disks that are sure not to fail or any
  abbrev pub HaltsOn : (sure : Type 0) → Option FileName → Type 0
  HaltsOn sure at = ((name : FileName) → (layout_by o list).halted ≡ Some name → at ≡ Some name)
      × (sure → (layout_by o list).halted ≡ None → at ≡ None)

  pub goes_on : {L : Type 0} {sure : Type 0} (x y : Parts H L) (h : History) (l : Layout) (at : Option FileName) (e : Option LockEntry)
      → IsBehind bytes sure o list x → HaltsOn sure at → LeadsTo at e h l → IsWhole bytes y h l
      → IsBehind bytes sure o (with_entry list e) y
  goes_on x y h l at None is halts leads whole = record {
    start = is.start;
    legal = is.legal;
    last = is.last;
    runs = is.runs;
    whole = subst (λ (k : History). IsWhole bytes y k (layout_by o list)) (sym leads.0)
        (subst (λ (m : Layout). IsWhole bytes y h m) (sym leads.1) whole);
  }
  goes_on x y h l at (Some e) is halts leads whole = record {
    start = is.start;
    legal = legal-append o.number nothing_open list (e ∷ []) is.legal (leads.legal, tt);
    last = lasting-append bytes o.layout list (e ∷ []) is.last
        (record { logs = leads.lasts; halt = λ name was. leads.halted ∙ halts.0 name was }, tt);
    runs = λ surely none. ap (λ (m : Layout). m.halted) (last_layout-append o.layout list (e ∷ []))
        ∙ (leads.halted ∙ halts.1 surely (is.runs surely none));
    whole = subst (λ (k : History). IsWhole bytes y k (layout_by o (list ++ e ∷ []))) (sym leads.history)
        (subst (λ (m : Layout). IsWhole bytes y h m) (sym (last_layout-append o.layout list (e ∷ []) ∙ leads.layout)) whole);
  }

  module _ {A : Type 0} (ruling : Ruling A) (otherwise : Otherwise) (entry : Outcome A → Option LockEntry) where
    -- so it is of each outcome, by what the ruling leaves
    pub record LeadsBy : Type 0 where
      pub answered : LeadsTo (layout_by o list).halted (entry (Answered ruling.answer)) ruling.history ruling.layout
      pub short : LeadsTo (layout_by o list).halted (entry NoMemory) (history_by o list) otherwise.short
      pub failed : (name : FileName) → LeadsTo (Some name) (entry (Failed name)) (history_by o list) (halted_at name otherwise.lost)
      pub damaged : (name : FileName) (place : ℕ)
          → LeadsTo (layout_by o list).halted (entry (Damaged name place)) (history_by o list) (layout_by o list)

    pub goes_by : {L : Type 0} {sure : Type 0} (x y : Parts H L) (outcome : Outcome A) (effects : Effects)
        → IsBehind bytes sure o list x → LeadsBy
        → (sure → (name : FileName) → outcome ≡ Failed name → ⊥)
        → Decides (IsWhole bytes y) (history_by o list) (layout_by o list) ruling otherwise outcome effects
        → IsBehind bytes sure o (with_entry list (entry outcome)) y
    goes_by x y (Answered a) effects is leads cause decides =
        let answered = decides.answered a refl in
        goes_on x y ruling.history ruling.layout (layout_by o list).halted (entry (Answered a)) is (λ name was. was, λ surely none. none)
        (subst (λ (b : A). LeadsTo (layout_by o list).halted (entry (Answered b)) ruling.history ruling.layout) (sym answered.0)
        leads.answered) answered.1
    goes_by x y NoMemory effects is leads cause decides =
        goes_on x y (history_by o list) otherwise.short (layout_by o list).halted (entry NoMemory) is
        (λ name was. was, λ surely none. none) leads.short (decides.no_memory refl).0
    goes_by x y (Failed name) effects is leads cause decides =
        goes_on x y (history_by o list) (halted_at name otherwise.lost) (Some name) (entry (Failed name)) is
        (λ other was. absurd (none≢some other (sym (decides.failed name refl).0 ∙ was)), λ surely none. absurd (cause surely name refl))
        (leads.failed name) (decides.failed name refl).1
    goes_by x y (Damaged name place) effects is leads cause decides =
        goes_on x y (history_by o list) (layout_by o list) (layout_by o list).halted (entry (Damaged name place)) is
        (λ name was. was, λ surely none. none) (leads.damaged name place) (decides.damaged name place refl).0
