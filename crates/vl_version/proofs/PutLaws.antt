-- A value that was copied is what was found.
use Rattle.std.proofs.Common.{◌≡◌, ℕ, List, Option, Some, ap, sym, subst}
use Rattle.std.specs.Prelude.{option_and_then}
use Rattle.vl_model.specs.Keys.{Stored}
use Rattle.vl_model.specs.Winners.{Logs, resolved_at}
use Rattle.vl_model.specs.declared.entry.Entry.{Entry}
use Rattle.vl_seglog.specs.Sealed.{IsHere, IsSmall}
use Rattle.vl_version.specs.Answers.{IsFound, value_of}
use Rattle.vl_version.specs.Values.{IsPut}
use Rattle.vl_version.specs.declared.found.Found.{Found}
use Rattle.vl_version.specs.declared.found.Found.TheVariants as found

module _ (logs : Logs) (w : Option Entry) (value : Stored) (led : resolved_at logs w ≡ Some (Some value)) where
  its_value : value_of logs w ≡ Some value
  its_value = ap (λ (o : Option (Option Stored)). option_and_then (λ (v : Option Stored). v) o) led

  pub put_found : (old new : List ℕ) (f : Found) → IsPut value old new f → IsFound logs w old new f
  put_found old new found.None put = absurd put
  put_found old new (found.Here len) put = subst (λ (v : Option Stored). IsHere v old new len) (sym its_value) put
  put_found old new (found.Small len) put = subst (λ (v : Option Stored). IsSmall v old new len) (sym its_value) put
