-- What becomes of an entry, by what sources answer.
use Rattle.std.proofs.Common.{◌≡◌, ℕ, Bool, true, false, not, ◌&&◌, ◌==◌, List, [], ◌∷◌, refl, ap, sym, ◌∙◌}
use Rattle.std.specs.Prelude.{nat_le}
use Rattle.std.specs.List.{list_any}
use Rattle.vl_compact.specs.Keeps.{AreRulesOf, fate_by, fate_of}
use Rattle.vl_compact.specs.Walking.{is_hidden, is_old, is_spent}
use Rattle.vl_compact.specs.declared.rules.Rules.{Rules}
use Rattle.vl_compact.specs.declared.rules.Fate.TheVariants.{Kept, Dropped, Needless}
use Rattle.vl_engine_model.specs.Merging.{if_so, is_below, is_needless, outside_of}
use Rattle.vl_engine_model.specs.declared.job.Job.{Job}
use Rattle.vl_merge.specs.Marked.{Marked, unless_marked}
use Rattle.vl_merge.specs.Marked as marked
use Rattle.vl_model.specs.Merging.{has_older}
use Rattle.vl_model.specs.Entries.{is_gone}
use Rattle.vl_model.specs.declared.entry.Entry.{Entry}

one_outside : (b : Bool) (e : Entry) (es : List Entry) → unless_marked b e es ≡ if_so (not b) e es
one_outside true e es = refl
one_outside false e es = refl

same_outside : (ms : List Marked) → marked.outside_of ms ≡ outside_of ms
same_outside [] = refl
same_outside (m ∷ ms) = one_outside m.0 m.1 (marked.outside_of ms) ∙ ap (if_so (not m.0) m.1) (same_outside ms)

regrouped : (a b c d : Bool) → (a && (b && (c && d))) ≡ ((a && (b && c)) && d)
regrouped true true true d = refl
regrouped true true false d = refl
regrouped true false c d = refl
regrouped false b c d = refl

module _ (rules : Rules) (j : Job) (are : AreRulesOf rules j) (e : Entry) where
  abbrev may_be : Bool
  may_be = (rules.keep == 1) && (is_gone e.body && nat_le e.version rules.floor)

  by_rules : is_needless rules.keep (outside_of j.base) rules.floor e ≡ is_spent j e
  by_rules =
      ap (λ k. is_needless k (outside_of j.base) rules.floor e) are.keep
      ∙ ap (λ f. is_needless j.keep (outside_of j.base) f e) are.floor

  parted : (may_be && not (list_any (is_below e) (outside_of j.base))) ≡ is_spent j e
  parted =
      sym (regrouped (rules.keep == 1) (is_gone e.body) (nat_le e.version rules.floor) (not (list_any (is_below e) (outside_of j.base))))
      ∙ by_rules

  pub not_spent : may_be ≡ false → false ≡ is_spent j e
  not_spent is = ap (λ b. b && not (list_any (is_below e) (outside_of j.base))) (sym is) ∙ parted

  pub spent_by : may_be ≡ true → (older : Bool) → older ≡ has_older (marked.outside_of j.base) e.key e.version → not older ≡ is_spent j e
  spent_by is older answer =
      ap not (answer ∙ ap (λ es. has_older es e.key e.version) (same_outside j.base))
      ∙ ap (λ b. b && not (list_any (is_below e) (outside_of j.base))) (sym is) ∙ parted

  pub old_by : (seen : ℕ) → (nat_le e.version rules.floor && nat_le rules.keep seen) ≡ is_old j seen e
  old_by seen = ap (λ f. nat_le e.version f && nat_le rules.keep seen) are.floor
      ∙ ap (λ k. nat_le e.version j.floor && nat_le k seen) are.keep

module _ (j : Job) (seen : ℕ) (e : Entry) where
  pub fate_old : is_old j seen e ≡ true → Dropped ≡ fate_of j seen e
  fate_old is = ap (λ b. fate_by b (is_hidden j e) (is_spent j e)) (sym is)

  pub fate_hidden : is_old j seen e ≡ false → is_hidden j e ≡ true → Dropped ≡ fate_of j seen e
  fate_hidden is hidden =
      ap (λ b. fate_by false b (is_spent j e)) (sym hidden) ∙ ap (λ b. fate_by b (is_hidden j e) (is_spent j e)) (sym is)

  pub fate_spent : is_old j seen e ≡ false → is_hidden j e ≡ false → is_spent j e ≡ true → Needless ≡ fate_of j seen e
  fate_spent is hidden spent =
      ap (λ b. fate_by false false b) (sym spent) ∙ ap (λ b. fate_by false b (is_spent j e)) (sym hidden)
      ∙ ap (λ b. fate_by b (is_hidden j e) (is_spent j e)) (sym is)

  pub fate_kept : is_old j seen e ≡ false → is_hidden j e ≡ false → is_spent j e ≡ false → Kept ≡ fate_of j seen e
  fate_kept is hidden spent =
      ap (λ b. fate_by false false b) (sym spent) ∙ ap (λ b. fate_by false b (is_spent j e)) (sym hidden)
      ∙ ap (λ b. fate_by b (is_hidden j e) (is_spent j e)) (sym is)
