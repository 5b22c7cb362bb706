-- An engine in which nothing lives and nothing is open stands for no steps.
use Rattle.std.proofs.Common.{◌≡◌, ℕ, List, [], refl, sym, ap, ◌∙◌, subst}
use Rattle.std.proofs.lemmas.Bool.{false≢true}
use Rattle.std.specs.Prelude.{Bool, true, Option, None, Some, is_some}
use Rattle.std.specs.Option.{option_map}
use Rattle.vl_engine_laws.specs.MayStep.{Fits}
use Rattle.vl_engine_laws.specs.Represents.{Represents}
use Rattle.vl_space.specs.Collecting.{Collects}
use Rattle.vl_engine_laws.specs.Lent.{Opens}
use Rattle.vl_space.specs.Removing.{Removes}
use Rattle.vl_engine_laws.specs.declared.open.OpenMerge.{OpenMerge}
use Rattle.vl_engine_model.specs.LockHistory.{HasOpen, nothing_open}
use Rattle.vl_engine_model.specs.declared.job.OpenJob.{OpenJob}
use Rattle.vl_engine_model.specs.declared.layout.Layout.{Layout}
use Rattle.vl_engine_model.specs.laws.LockHistoryLaws.{none≢some}
use Rattle.vl_model.specs.History.{History}
use Rattle.vlstore.specs.Lists.{history_by}
use Rattle.vlstore.specs.Standing.{IsWhole, Parts, Stands}
use Rattle.vlstore.specs.declared.locked.Origin.{Origin}

none_lent : (j : Option OpenJob) → option_map (λ (x : OpenJob). x.job) j ≡ None
    → option_map (λ (x : OpenJob). x.lent) j ≡ None
none_lent None none = refl
none_lent (Some j) none = absurd (none≢some j.job (sym none))

pub no_steps : {H L : Type 0} (bytes : H → Option (List ℕ)) (sure : Type 0) (o : Origin) (tells : Bool) (x : Parts H L)
    → x.merging ≡ None → HasOpen nothing_open o.layout → (tells ≡ true → IsWhole bytes x (history_by o []) o.layout)
    → Stands bytes sure o tells [] x
no_steps bytes sure o tells x none start whole = record {
  merges = record {
    keep = tt;
    open_is = ap is_some none;
    lent = ap (option_map (λ (m : OpenMerge). m.lent.items)) none ∙ sym (none_lent o.layout.job start.job);
  };
  behind = λ told. record { start = start; legal = tt; last = tt; runs = λ surely none. none; whole = whole told };
}

-- nothing is claimed where nothing is told
pub none_told : {S P : Type 0} (told : Option S) → told ≡ None → is_some told ≡ true → P
none_told told none is = absurd (false≢true (sym (ap is_some none) ∙ is))

pub is_whole : {H L : Type 0} (bytes : H → Option (List ℕ)) (x : Parts H L) (h : History) (l : Layout) → x.merging ≡ None → l.job ≡ None
    → Represents bytes x.core x.told h l → Fits x.told x.core h l → Collects x.core x.collecting l → Removes x.core x.removing l
    → IsWhole bytes x h l
is_whole bytes x h l none no_job represents fits collects removes = record {
  represents = represents;
  opens = subst (λ (m : Option OpenMerge). Opens m l.job) (sym none) (subst (Opens None) (sym no_job) tt);
  fits = fits;
  collects = collects;
  removes = removes;
}
