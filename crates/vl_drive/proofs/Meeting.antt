-- What a client met before its own first step.
use Rattle.std.proofs.Common.{◌≡◌, ℕ, ◌==◌, Bool, List, [], ◌∷◌, refl, ap, sym, ◌∙◌, subst}
use Rattle.std.proofs.lemmas.List.Elements.{filter-append}
use Rattle.vl_drive.proofs.Prefixes.{begins_itself, begins_more, none_in_front}
use Rattle.vl_drive.specs.Clients.{HasMet}
use Rattle.vl_drive.specs.Knowing.{Knows}
use Rattle.vl_drive.specs.Playing.{HasTaken}
use Rattle.vl_drive.specs.declared.transfer.Transfer.{Transfer}
use Rattle.vl_engine_model.specs.LockHistory.{entries_by}
use Rattle.vl_engine_model.specs.declared.lock_history.LockEntry.{LockEntry}
use mathlib.Core.List.{IsPrefix}

-- where a list has none of a session's, its beginnings have none
pub none_by : (session : ℕ) (front list : List LockEntry) → IsPrefix front list → entries_by session list ≡ []
    → entries_by session front ≡ []
none_by session front list begins none =
    none_in_front (entries_by session front) (entries_by session begins.0)
    (sym (filter-append (λ (e : LockEntry). e.session == session) front begins.0) ∙ ap (entries_by session) begins.1 ∙ none)

-- what was seen without a step of one's own
pub met_none : (v : Knows) → v.own ≡ [] → HasMet v.seen v
met_none v none = record { seen = begins_itself v.seen; none = λ some. absurd (some none) }

-- a part of what was met
pub met_less : (note more : List LockEntry) (v : Knows) → IsPrefix note more → HasMet more v → HasMet note v
met_less note more v part met = record {
  seen = begins_more note more v.seen part met.seen;
  none = λ some. none_by v.session note more part (met.none some);
}

-- A turn makes the first own step behind all that was seen.
pub met_turn : (note : List LockEntry) (t : Transfer) (committed : Bool) (v w : Knows) → HasMet note v → HasTaken t committed v w
    → HasMet note w
met_turn note t committed v w met taken = record {
  seen = begins_more note v.seen w.seen met.seen taken.on.seen;
  none = λ some. subst (λ (s : ℕ). entries_by s note ≡ []) (sym taken.on.session) (by_own v.own refl);
}
  where
    by_own : (own : List LockEntry) → v.own ≡ own → entries_by v.session note ≡ []
    by_own [] is =
        none_by v.session note taken.start (begins_more note v.seen taken.start met.seen taken.later) (sym taken.mine ∙ is)
    by_own (e ∷ es) is = met.none (λ none. cc)
