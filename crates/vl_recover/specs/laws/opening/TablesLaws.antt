-- Of the tables that a manifest names, and of the logs that these lead into, one thing can be said.
use Rattle.std.specs.Prelude.{◌≡◌, ℕ, List, [], ◌∷◌, Option, None, Some, Ok, Err, refl, true, Bool}
use Rattle.std.proofs.Common.{sym, ap, subst, ◌∙◌}
use Rattle.vl_disk.specs.Crash.{Image}
use Rattle.vl_disk.specs.declared.name.Name.TheVariants.{Table}
use Rattle.vl_recover.specs.laws.repairing.StageLaws.{single_then}
use Rattle.vl_recover.specs.opening.Opening.{Damaged, FoundTable, IsAbove, IsBadTable, NamedLevel, NamedLevels}
use Rattle.vl_recover.specs.opening.Opening.{NamedLog, NamedLogs, NamedTable, Refusal, StandsTable, damaged}
use Rattle.vl_recover.specs.opening.Opening.{first_key, key_before, missing, not_above}
use Rattle.vl_recover.specs.opening.Stages.{AndThen, IsSingle}
use Rattle.vl_table.specs.Begun.{said_place}
use Rattle.vl_table.specs.Opening.{IsDamaged, IsRead}
use Rattle.vl_recover.specs.laws.opening.Readings.{not_damaged, one_damage, one_read}

some_same : {X : Type 0} (a b : X) → Some a ≡ Some b → a ≡ b
some_same a b e = cc

some_none : {X : Type 0} (a : X) → Some a ≡ None → ⊥
some_none a e = cc

-- ---- the stage of tables

module _ (image : Image) where
  pub one_table : (n : ℕ) (t u : FoundTable) → (p : StandsTable image n t) → (q : StandsTable image n u) → (t ≡ u) × (p.bytes ≡ q.bytes)
  one_table n t u p q =
      let bytes : p.bytes ≡ q.bytes = some_same p.bytes q.bytes (sym p.stands ∙ q.stands) in
      let read = one_read n q.bytes t.said u.said (subst (λ (b : List ℕ). IsRead n b t.said) bytes p.reads) q.reads in
      let number : t.number ≡ u.number = p.numbered ∙ sym q.numbered in
      ((λ i. record { number = number i; said = read i }), bytes)

  good_or_bad : (before : Option (List ℕ)) (n : ℕ) (t : FoundTable) (place : ℕ) → StandsTable image n t → IsAbove before (first_key t)
      → IsBadTable image before n place → ⊥
  good_or_bad before n t place p above (missing none at) = some_none p.bytes (sym p.stands ∙ none)
  good_or_bad before n t place p above (damaged bytes stands is) =
      let same : p.bytes ≡ bytes = some_same p.bytes bytes (sym p.stands ∙ stands) in
      not_damaged n bytes t.said place (subst (λ (b : List ℕ). IsRead n b t.said) same p.reads) is
  good_or_bad before n t place p above (not_above u q low at) =
      low (subst (λ (x : FoundTable). IsAbove before (first_key x)) (one_table n t u p q).0 above)

  one_bad : (before : Option (List ℕ)) (n p q : ℕ) → IsBadTable image before n p → IsBadTable image before n q → p ≡ q
  one_bad before n p q (missing none at) (missing other is) = at ∙ sym is
  one_bad before n p q (missing none at) (damaged bytes stands is) = absurd (some_none bytes (sym stands ∙ none))
  one_bad before n p q (missing none at) (not_above u s low is) = absurd (some_none s.bytes (sym s.stands ∙ none))
  one_bad before n p q (damaged bytes stands at) (missing none is) = absurd (some_none bytes (sym stands ∙ none))
  one_bad before n p q (damaged bytes stands at) (damaged others stands' is) =
      let same : bytes ≡ others = some_same bytes others (sym stands ∙ stands') in
      one_damage n others p q (subst (λ (b : List ℕ). IsDamaged n b p) same at) is
  one_bad before n p q (damaged bytes stands at) (not_above u s low is) =
      let same : s.bytes ≡ bytes = some_same s.bytes bytes (sym s.stands ∙ stands) in
      absurd (not_damaged n bytes u.said p (subst (λ (b : List ℕ). IsRead n b u.said) same s.reads) at)
  one_bad before n p q (not_above t s low at) (missing none is) = absurd (some_none s.bytes (sym s.stands ∙ none))
  one_bad before n p q (not_above t s low at) (damaged bytes stands is) =
      let same : s.bytes ≡ bytes = some_same s.bytes bytes (sym s.stands ∙ stands) in
      absurd (not_damaged n bytes t.said q (subst (λ (b : List ℕ). IsRead n b t.said) same s.reads) is)
  one_bad before n p q (not_above t s low at) (not_above u r low' is) = at ∙ ap said_place (one_table n t u s r).1 ∙ sym is

  single_table : (before : Option (List ℕ)) (n : ℕ) → IsSingle (NamedTable image before n)
  single_table before n (Ok t) (Ok u) p q = ap (λ (x : FoundTable). Ok x) (one_table n t u p.0 q.0).0
  single_table before n (Ok t) (Err why) p (place, bad, is) = absurd (good_or_bad before n t place p.0 p.1 bad)
  single_table before n (Err why) (Ok u) (place, bad, is) q = absurd (good_or_bad before n u place q.0 q.1 bad)
  single_table before n (Err why) (Err other) (place, bad, is) (spot, worse, at) =
      ap (λ (x : Refusal). Err x) (is ∙ ap (Damaged (Table n)) (one_bad before n place spot bad worse) ∙ sym at)

  single_level : (deeper : Bool) (before : Option (List ℕ)) (ns : List ℕ) → IsSingle (NamedLevel deeper image before ns)
  single_level deeper before [] = λ r s p q. p ∙ sym q
  single_level deeper before (n ∷ ns) =
      single_then (NamedTable image before n) (λ t. AndThen (NamedLevel deeper image (key_before deeper t) ns) (λ ts s. s ≡ Ok (t ∷ ts)))
      (single_table before n)
      (λ t. single_then (NamedLevel deeper image (key_before deeper t) ns) (λ ts s. s ≡ Ok (t ∷ ts))
      (single_level deeper (key_before deeper t) ns) (λ ts r s p q. p ∙ sym q))

  pub single_levels : (deeper : Bool) (levels : List (List ℕ)) → IsSingle (NamedLevels deeper image levels)
  single_levels deeper [] = λ r s p q. p ∙ sym q
  single_levels deeper (ns ∷ levels) =
      single_then (NamedLevel deeper image None ns) (λ ts. AndThen (NamedLevels true image levels) (λ others s. s ≡ Ok (ts ∷ others)))
      (single_level deeper None ns)
      (λ ts. single_then (NamedLevels true image levels) (λ others s. s ≡ Ok (ts ∷ others)) (single_levels true levels)
      (λ others r s p q. p ∙ sym q))

  -- ---- the stage of the logs that tables lead into

  single_named : (n : ℕ) → IsSingle (NamedLog image n)
  single_named n (Ok t) (Ok u) p q = refl
  single_named n (Ok t) (Err why) (bytes, stands, header) q = absurd (q.0 bytes stands header)
  single_named n (Err why) (Ok u) p (bytes, stands, header) = absurd (p.0 bytes stands header)
  single_named n (Err why) (Err other) p q = ap (λ (x : Refusal). Err x) (p.1 ∙ sym q.1)

  pub single_logs_led : (ns : List ℕ) → IsSingle (NamedLogs image ns)
  single_logs_led [] = λ r s p q. p ∙ sym q
  single_logs_led (n ∷ ns) = single_then (NamedLog image n) (λ t. NamedLogs image ns) (single_named n) (λ t. single_logs_led ns)
