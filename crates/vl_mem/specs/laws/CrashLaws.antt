-- Laws of the image that a crash of a disk in memory leaves: what it has under each name, and that a crash may leave it.
use Rattle.std.specs.Prelude.{◌≡◌, ◌≢◌, ◌⊎◌, ◌||◌, ℕ, ◌+◌, ◌-◌, ◌/◌, ◌≤◌, Bool, true, false, cond, List, [], ◌∷◌}
use Rattle.std.specs.Prelude.{◌++◌, length, take, Option, None, Some, is_some, if◌then◌else◌}
use Rattle.std.specs.FinMap.{get, keys, get-empty, contains_key-keys}
use Rattle.std.specs.List.{list_any}
use Rattle.std.specs.Ordering.{eq_by_cmp}
use Rattle.std.proofs.Common.{inl, inr, ⊎_elim, refl, sym, ◌∙◌, ap, subst, arith}
use Rattle.std.proofs.lemmas.List.{take-take, take_all}
use Rattle.std.proofs.lemmas.List.Folds.{list_any-append}
use Rattle.vl_disk.specs.declared.name.Name.{Name}
use Rattle.vl_disk.specs.Name.{name_cmp}
use Rattle.vl_disk.specs.laws.NameMap.{same_or_other, tied_same, tied_other, get_inserted, get_inserted_other}
use Rattle.vl_disk.specs.Crash.{Image, Agrees, MayLeaveOne, MayLeave}
use Rattle.vl_disk.specs.DiskState.{File, DiskState, IsLawfulFile, IsLawful}
use Rattle.vl_mem.specs.declared.outcome.Outcome.{Outcome}
use Rattle.vl_mem.specs.declared.outcome.Outcome.TheVariants.{Lost, Kept, Halved}
use Rattle.vl_mem.specs.CrashImage.{crash_image, durable_bytes, half_torn_bytes, image_at, lasting_bytes, left_of, with_bytes}

-- ---- name by name

module _ (q : Name) (image : Image) (bytes : Option (List ℕ)) where
  pub with_there : (get image q ≡ None) ⊎ (get image q ≡ bytes) → get (with_bytes q bytes image) q ≡ bytes
  with_there is = of bytes is
    where
      of : (b : Option (List ℕ)) → (get image q ≡ None) ⊎ (get image q ≡ b) → get (with_bytes q b image) q ≡ b
      of None is = ⊎_elim (λ (e : get image q ≡ None). e) (λ (e : get image q ≡ None). e) is
      of (Some b) is = get_inserted image q b

  pub with_other : (name : Name) → q ≢ name → get (with_bytes name bytes image) q ≡ get image q
  with_other name apart = of bytes
    where
      of : (b : Option (List ℕ)) → get (with_bytes name b image) q ≡ get image q
      of None = refl
      of (Some b) = get_inserted_other image name b q apart

module _ (left : Name → Option (List ℕ)) (q : Name) where
  abbrev tied : Name → Bool
  tied = eq_by_cmp name_cmp q

  none_or : (b : Bool) (found : Option (List ℕ)) → found ≡ cond b (left q) None → (found ≡ None) ⊎ (found ≡ left q)
  none_or true found is = inr is
  none_or false found is = inl is

  at_names : (names : List Name) → get (image_at left names) q ≡ cond (list_any tied names) (left q) None
  at_names [] = get-empty name_cmp q
  at_names (name ∷ names) = ⊎_elim
      (λ (same : q ≡ name). subst
      (λ (n : Name). get (with_bytes n (left n) (image_at left names)) q ≡ cond (tied n || list_any tied names) (left q) None) same
      (with_there q (image_at left names) (left q) (none_or (list_any tied names) (get (image_at left names) q) (at_names names))
      ∙ sym (ap (λ (b : Bool). cond (b || list_any tied names) (left q) None) (tied_same q))))
      (λ (other : q ≢ name). with_other q (image_at left names) (left name) name other ∙ at_names names
      ∙ sym (ap (λ (b : Bool). cond (b || list_any tied names) (left q) None) (tied_other q name other)))
      (same_or_other q name)

pub left_none : (outcome : Outcome) → left_of outcome None None ≡ None
left_none Lost = refl
left_none Kept = refl
left_none Halved = refl

-- so of each name the image has what is left of its files
pub image_left : (outcome : Outcome) (disk : DiskState) (name : Name)
    → get (crash_image outcome disk) name ≡ left_of outcome (get disk.standing name) (get disk.removed name)
image_left outcome disk q = at_names left q (keys disk.standing ++ keys disk.removed)
    ∙ ap (λ (b : Bool). cond b (left q) None) (list_any-append tied_with (keys disk.standing) (keys disk.removed))
    ∙ ap (λ (b : Bool). cond (b || list_any tied_with (keys disk.removed)) (left q) None)
    (sym (contains_key-keys disk.standing q))
    ∙ ap (λ (b : Bool). cond (is_some (get disk.standing q) || b) (left q) None) (sym (contains_key-keys disk.removed q))
    ∙ of (get disk.standing q) (get disk.removed q)
  where
    tied_with : Name → Bool
    tied_with = eq_by_cmp name_cmp q

    left : Name → Option (List ℕ)
    left name = left_of outcome (get disk.standing name) (get disk.removed name)

    of : (standing removed : Option File)
        → cond (is_some standing || is_some removed) (left_of outcome standing removed) None ≡ left_of outcome standing removed
    of None None = sym (left_none outcome)
    of None (Some gone) = refl
    of (Some file) removed = refl

-- ---- a crash may leave it

module _ (file : File) (lawful : IsLawfulFile file) where
  cut_agrees : (n : ℕ) → file.synced ≤ n → Agrees file (take n file.bytes)
  cut_agrees n durable = record {
    durable = take-take file.synced n file.bytes durable;
    whole = λ whole. take_all n file.bytes (omega (arith, durable, ap (λ (f : File). f.synced) (lawful.as_synced whole)));
  }

  half_agrees : Agrees file (half_torn_bytes file)
  half_agrees = cut_agrees (file.synced + (length file.bytes - file.synced) / 2) (omega arith)

  standing_left : (removed : Option File) → MayLeaveOne (Some file) removed (lasting_bytes file)
  standing_left removed = of file.lasting refl
    where
      of : (b : Bool) → file.lasting ≡ b → MayLeaveOne (Some file) removed (if b then Some (durable_bytes file) else None)
      of true lasts = cut_agrees file.synced (omega arith)
      of false lasts = lasts

  removed_left : MayLeaveOne None (Some file) (lasting_bytes file)
  removed_left = of file.lasting
    where
      of : (b : Bool) → MayLeaveOne None (Some file) (if b then Some (durable_bytes file) else None)
      of true = cut_agrees file.synced (omega arith)
      of false = tt

-- a crash of a disk may leave this image
pub crash_left : (outcome : Outcome) (disk : DiskState) → IsLawful disk → MayLeave disk (crash_image outcome disk)
crash_left outcome disk lawful name =
    subst (MayLeaveOne (get disk.standing name) (get disk.removed name)) (sym (image_left outcome disk name))
    (of outcome (get disk.standing name) (get disk.removed name) refl refl)
  where
    of : (o : Outcome) (standing removed : Option File) → get disk.standing name ≡ standing → get disk.removed name ≡ removed
        → MayLeaveOne standing removed (left_of o standing removed)
    of Lost (Some file) removed stands gone = standing_left file (lawful.standing name file stands) removed
    of Lost None (Some file) stands gone = removed_left file (lawful.removed name file gone)
    of Lost None None stands gone = tt
    of Kept (Some file) removed stands gone = record { durable = refl; whole = λ whole. refl }
    of Kept None (Some file) stands gone = tt
    of Kept None None stands gone = tt
    of Halved (Some file) removed stands gone = half_agrees file (lawful.standing name file stands)
    of Halved None (Some file) stands gone = tt
    of Halved None None stands gone = tt
