-- What sources that show the history at a number give to reads at it.
use Rattle.std.specs.Prelude.{◌≡◌, ℕ, List, Option, Some, None}
use Rattle.std.specs.FinMap.{get}
use Rattle.std.proofs.Common.{sym, subst, ◌∙◌, arith}
use Rattle.vl_engine_model.specs.Shows.{Shows}
use Rattle.vl_model.specs.History.{History, contents_at, value_at}
use Rattle.vl_model.specs.Keys.{Stored}
use Rattle.vl_model.specs.Winners.{Logs, resolved_at, winner}
use Rattle.vl_model.specs.declared.entry.Entry.{Entry}
use Rattle.vl_model.specs.laws.HistoryLaws.{get-contents_at}
use Rattle.vl_version.specs.Scans.{MayHave, MayStandFor}

module _ (logs : Logs) (es : List Entry) (h : History) (number : ℕ) (shows : Shows logs es h (λ key. number) number) where
  -- A key's winner leads to what the history has there,
  pub winner_leads : (key : List ℕ) → resolved_at logs (winner es key number) ≡ Some (value_at h number key)
  winner_leads key = shows.values key number (omega arith) (omega arith)

  -- so that what it leads to is that,
  pub value_led : (key : List ℕ) (value : Option Stored) → resolved_at logs (winner es key number) ≡ Some value
      → value ≡ value_at h number key
  value_led key value led = same value (value_at h number key) (sym led ∙ winner_leads key)
    where
      same : (v w : Option Stored) → Some v ≡ Some w → v ≡ w
      same v w is = cc

  -- and none leads nowhere,
  pub none_astray : (key : List ℕ) → resolved_at logs (winner es key number) ≡ None → ⊥
  none_astray key nowhere = apart (value_at h number key) (sym (winner_leads key) ∙ nowhere)
    where
      apart : (value : Option Stored) → Some value ≡ None → ⊥
      apart value e = cc

  -- and a scan's rows are those of all that stands there.
  pub contents_stand : MayStandFor logs es number (contents_at h number)
  contents_stand key =
      subst (λ led. MayHave led (get (contents_at h number) key)) (sym (winner_leads key)) (get-contents_at h number key)
