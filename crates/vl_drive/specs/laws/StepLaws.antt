-- Laws of sessions' steps: which kinds exclude each other, and how many a longer list has.
use Rattle.std.proofs.Common.{◌≡◌, ◌⊎◌, inl, inr, ℕ, ◌+◌, ◌<◌, ◌==◌, Bool, true, false, cond, ◌&&◌, List, [], ◌∷◌, ◌++◌}
use Rattle.std.proofs.Common.{refl, ap, sym, ◌∙◌, arith}
use Rattle.std.proofs.lemmas.Bool.{false≢true}
use Rattle.std.proofs.lemmas.Bool.Decides.{nat_tests}
use Rattle.std.proofs.lemmas.List.Elements.{filter-append}
use Rattle.vl_drive.specs.Steps.{AreBy, count_by, is_aside, is_end, is_put}
use Rattle.vl_engine_model.specs.LockHistory.{entries_by}
use Rattle.vl_engine_model.specs.declared.lock_history.LockEntry.{LockEntry}
use Rattle.vl_engine_model.specs.declared.lock_history.LockStep.{LockStep}
use Rattle.vl_engine_model.specs.declared.lock_history.LockStep.TheVariants.{Begun, Changed, Ended, JobEnded, PassEnded}
use Rattle.vl_engine_model.specs.declared.lock_history.LockStep.TheVariants.{Picked, Planned, Put}

-- ---- kinds

pub aside_is_no_end : (step : LockStep) → is_aside step ≡ true → is_end step ≡ false
aside_is_no_end (Begun ticket number) aside = absurd (false≢true aside)
aside_is_no_end (Put ticket number writes) aside = absurd (false≢true aside)
aside_is_no_end (Ended ticket) aside = absurd (false≢true aside)
aside_is_no_end Planned aside = refl
aside_is_no_end JobEnded aside = refl
aside_is_no_end Picked aside = refl
aside_is_no_end PassEnded aside = refl
aside_is_no_end Changed aside = refl

pub aside_is_no_put : (step : LockStep) → is_aside step ≡ true → is_put step ≡ false
aside_is_no_put (Begun ticket number) aside = absurd (false≢true aside)
aside_is_no_put (Put ticket number writes) aside = absurd (false≢true aside)
aside_is_no_put (Ended ticket) aside = absurd (false≢true aside)
aside_is_no_put Planned aside = refl
aside_is_no_put JobEnded aside = refl
aside_is_no_put Picked aside = refl
aside_is_no_put PassEnded aside = refl
aside_is_no_put Changed aside = refl

-- ---- a session's steps

module _ (kind : LockStep → Bool) (session : ℕ) where
  pub by_parts : (es more : List LockEntry) → AreBy kind session es → AreBy kind session more
      → AreBy kind session (es ++ more)
  by_parts [] more all later = later
  by_parts (e ∷ es) more all later = (all.0, by_parts es more all.1 later)

  pub counted_parts : (es more : List LockEntry)
      → count_by kind session (es ++ more) ≡ count_by kind session es + count_by kind session more
  counted_parts [] more = omega arith
  counted_parts (e ∷ es) more = let rest = counted_parts es more in omega (arith, rest)

  -- one of them is counted
  pub counted_first : (e : LockEntry) (after : List LockEntry) → e.session ≡ session → kind e.step ≡ true
      → count_by kind session (e ∷ after) ≡ 1 + count_by kind session after
  counted_first e after mine is =
      let own : (e.session == session) ≡ true = grind (arith, nat_tests) in
      ap (λ b. cond (b && kind e.step) 1 0 + count_by kind session after) own
      ∙ ap (λ b. cond b 1 0 + count_by kind session after) is

  pub counted_one : (before : List LockEntry) (e : LockEntry) (after : List LockEntry) → e.session ≡ session
      → kind e.step ≡ true → 0 < count_by kind session (before ++ e ∷ after)
  counted_one before e after mine is =
      let parts = counted_parts before (e ∷ after) in
      let one = counted_first e after mine is in
      omega (arith, parts, one)

  -- a session's own steps have what it has of the whole
  pub counted_own : (es : List LockEntry) → count_by kind session (entries_by session es) ≡ count_by kind session es
  counted_own [] = refl
  counted_own (e ∷ es) = by_test (e.session == session) refl (counted_own es)
    where
      by_test : (b : Bool) → (e.session == session) ≡ b
          → count_by kind session (entries_by session es) ≡ count_by kind session es
          → count_by kind session (cond b (e ∷ entries_by session es) (entries_by session es)) ≡ cond (b && kind e.step) 1 0
          + count_by kind session es
      by_test true is rest =
          ap (λ c. cond (c && kind e.step) 1 0 + count_by kind session (entries_by session es)) is
          ∙ ap (λ n. cond (kind e.step) 1 0 + n) rest
      by_test false is rest = omega (arith, rest)

-- where all of a session's steps are of one kind, none is of another
pub counted_none : (kind other : LockStep → Bool) (session : ℕ)
    → ((step : LockStep) → kind step ≡ true → other step ≡ false)
    → (es : List LockEntry) → AreBy kind session es → count_by other session es ≡ 0
counted_none kind other session apart [] all = refl
counted_none kind other session apart (e ∷ es) all =
    by_test (e.session == session) refl (counted_none kind other session apart es all.1)
  where
    by_test : (b : Bool) → (e.session == session) ≡ b → count_by other session es ≡ 0
        → cond (b && other e.step) 1 0 + count_by other session es ≡ 0
    by_test true is rest =
        let mine : e.session ≡ session = grind (arith, nat_tests) in
        ap (λ c. cond c 1 0 + count_by other session es) (apart e.step (all.0 mine)) ∙ omega (arith, rest)
    by_test false is rest = omega (arith, rest)

pub counted_aside : (session : ℕ) (es : List LockEntry) → AreBy is_aside session es → count_by is_end session es ≡ 0
counted_aside session es aside = counted_none is_aside is_end session aside_is_no_end es aside

-- where a session has no step, all that it has are of any kind
pub by_none : (kind : LockStep → Bool) (session : ℕ) (es : List LockEntry) → entries_by session es ≡ []
    → AreBy kind session es
by_none kind session [] none = tt
by_none kind session (e ∷ es) none = by_test (e.session == session) refl none (λ rest. by_none kind session es rest)
  where
    other : (e.session == session) ≡ false → e.session ≡ session → ⊥
    other is mine = let same : (e.session == session) ≡ true = grind (arith, nat_tests) in false≢true (sym is ∙ same)

    by_test : (b : Bool) → (e.session == session) ≡ b → cond b (e ∷ entries_by session es) (entries_by session es) ≡ []
        → (entries_by session es ≡ [] → AreBy kind session es) → AreBy kind session (e ∷ es)
    by_test true is none rest = absurd cc
    by_test false is none rest = (λ mine. absurd (other is mine), rest none)

nothing_added : (xs ys : List LockEntry) → xs ++ ys ≡ xs → ys ≡ []
nothing_added [] ys same = same
nothing_added (x ∷ xs) ys same = let rest : xs ++ ys ≡ xs = cc in nothing_added xs ys rest

-- what others added has none of the session's
pub others_are : (kind : LockStep → Bool) (session : ℕ) (es more : List LockEntry)
    → entries_by session (es ++ more) ≡ entries_by session es → AreBy kind session more
others_are kind session es more same =
    by_none kind session more
    (nothing_added (entries_by session es) (entries_by session more)
    (sym (filter-append (λ (e : LockEntry). e.session == session) es more) ∙ same))

-- ---- a step of a longer list

-- it stands in the first part, or behind it
abbrev pub Place : (es more before : List LockEntry) (e : LockEntry) (after : List LockEntry) → Type 0
Place es more before e after =
    ((rest : List LockEntry) × (es ≡ before ++ e ∷ rest))
    ⊎ ((front : List LockEntry) × (before ≡ es ++ front) × (more ≡ front ++ e ∷ after))

pub place_of : (es more before : List LockEntry) (e : LockEntry) (after : List LockEntry)
    → es ++ more ≡ before ++ e ∷ after → Place es more before e after
place_of [] more before e after is = inr (before, refl, is)
place_of (d ∷ es) more [] e after is = inl (es, let same : d ≡ e = cc in ap (λ x. x ∷ es) same)
place_of (d ∷ es) more (b ∷ before) e after is =
    let same : d ≡ b = cc in
    let rest : es ++ more ≡ before ++ e ∷ after = cc in
    by same (place_of es more before e after rest)
  where
    by : d ≡ b → Place es more before e after → Place (d ∷ es) more (b ∷ before) e after
    by same (inl x) = inl (x.0, ap (λ y. y ∷ es) same ∙ ap (λ ys. b ∷ ys) x.1)
    by same (inr x) = inr (x.0, ap (λ ys. b ∷ ys) x.1 ∙ ap (λ y. y ∷ (es ++ x.0)) (sym same), x.2)
