-- Where the batches of a pass were found stands what they say, in the layout's logs too.
use Rattle.std.specs.Prelude.{◌≡◌, ℕ, List, [], ◌∷◌, Option, None, Some, refl}
use Rattle.std.specs.List.{AllByRecursion}
use Rattle.std.proofs.Common.{sym, ap, subst, ◌∙◌}
use Rattle.vl_engine_laws.specs.MoveFacts.{AreThere}
use Rattle.vl_engine_laws.specs.Passing.{IsStillIn}
use Rattle.vl_engine_laws.specs.Pointed.{bytes_of_log, layout_logs, segment_at, stored_of}
use Rattle.vl_engine_model.specs.Relocation.{Candidate}
use Rattle.vl_engine_model.specs.Shown.{IsThere}
use Rattle.vl_engine_model.specs.Tidy.{sealed}
use Rattle.vl_engine_model.specs.declared.layout.Layout.{Layout}
use Rattle.vl_engine_model.specs.declared.segment.Segment.{Segment}
use Rattle.vl_model.specs.Keys.{Stored}
use Rattle.vl_model.specs.declared.pointer.Pointer.{Pointer}
use Rattle.vl_seglog.specs.Stored.{stored_at}
use Rattle.vl_seglog.specs.declared.sealed.SealedLog.{SealedLog}

module _ {H : Type 0} (bytes : H → Option (List ℕ)) (log : SealedLog H) (l : Layout) (still : IsStillIn bytes log l) where
  -- where the layout's logs have a value the log's own bytes have it,
  pub still_only : (told : List ℕ) → bytes log.held ≡ Some told → (p : Pointer) (key : List ℕ) (value : Stored)
      → p.segment ≡ log.number → layout_logs l p key ≡ Some value → stored_at log.format told p key ≡ Some value
  still_only told tells p key value into has = by (segment_at (sealed l) log.number) refl
    where
      now : stored_of (segment_at (sealed l) log.number) p key ≡ Some value
      now = subst (λ (n : ℕ). stored_of (segment_at (sealed l) n) p key ≡ Some value) into has

      same_bytes : (s : Segment) → Some told ≡ Some (bytes_of_log s) → told ≡ bytes_of_log s
      same_bytes s e = cc

      by : (o : Option Segment) → segment_at (sealed l) log.number ≡ o → stored_at log.format told p key ≡ Some value
      by None is = absurd (let none : None ≡ Some value = sym (ap (λ (o : Option Segment). stored_of o p key) is) ∙ now in cc)
      by (Some s) is =
          let same = still s is in
          ap (λ (n : ℕ). stored_at n told p key) same.format
          ∙ ap (λ (bs : List ℕ). stored_at s.format bs p key) (same_bytes s (sym tells ∙ same.told))
          ∙ sym (ap (λ (o : Option Segment). stored_of o p key) is) ∙ now

  one_there : (told : List ℕ) → bytes log.held ≡ Some told → (c : Candidate)
      → IsThere (stored_at log.format told) log.number c → IsThere (layout_logs l) log.number c
  one_there told tells c there p value into place has = there p value into place (still_only told tells p c.moved.key value into has)

  all_there : (told : List ℕ) → bytes log.held ≡ Some told → (batch : List Candidate)
      → AllByRecursion (IsThere (stored_at log.format told) log.number) batch
      → AllByRecursion (IsThere (layout_logs l) log.number) batch
  all_there told tells [] there = tt
  all_there told tells (c ∷ cs) there = (one_there told tells c there.0, all_there told tells cs there.1)

  -- where they have no such log they have nothing there
  none_there : segment_at (sealed l) log.number ≡ None → (batch : List Candidate)
      → AllByRecursion (IsThere (layout_logs l) log.number) batch
  none_there none [] = tt
  none_there none (c ∷ cs) = (
    λ p value into place has. absurd (
        let nothing : None ≡ Some value =
        sym (ap (λ (o : Option Segment). stored_of o p c.moved.key) none)
        ∙ subst (λ (n : ℕ). stored_of (segment_at (sealed l) n) p c.moved.key ≡ Some value) into has in cc
        ),
    none_there none cs,
  )

  -- In the layout nothing but its value stands where a candidate of a batch was found.
  pub there_now : (batch : List Candidate) → AreThere bytes log batch → AllByRecursion (IsThere (layout_logs l) log.number) batch
  there_now batch there = by (segment_at (sealed l) log.number) refl
    where
      by : (o : Option Segment) → segment_at (sealed l) log.number ≡ o → AllByRecursion (IsThere (layout_logs l) log.number) batch
      by None is = none_there is batch
      by (Some s) is = let tells = (still s is).told in all_there (bytes_of_log s) tells batch (there (bytes_of_log s) tells)
