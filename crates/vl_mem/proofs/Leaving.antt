-- The files that a crash of a disk in memory leaves.
use Rattle.std.proofs.Common.{◌≡◌, ◌≢◌, inl, ⊎_elim, ℕ, zero, suc, List, [], ◌∷◌, ◌++◌, get_or, All, IsSome, Option}
use Rattle.std.proofs.Common.{None, Some, Vec, Global, refl, sym, ◌∙◌, ap, subst, arith, false, true}
use Rattle.std.specs.Option.{option_and_then, option_map}
use Rattle.std.specs.BTreeMap as tree
use Rattle.std.specs.FinMap.{get, empty, insert, get-empty, same_map}
use Rattle.std.specs.List.{AllByRecursion}
use Rattle.std.specs.List.Sorted.{IsStrictlySortedBy}
use Rattle.std.specs.Map.{keys_of}
use Rattle.std.specs.declared.cmp.Ordering.TheVariants.{Less}
use Rattle.vl_disk.specs.declared.name.Name.{Name}
use Rattle.vl_disk.specs.Name.{IsNumbered, name_cmp, name_cmp_total, name_cmp_exact}
use Rattle.vl_disk.specs.laws.NameMap.{same_or_other, get_inserted, get_inserted_other}
use Rattle.vl_disk.specs.Crash.{Image}
use Rattle.vl_disk.specs.DiskState.{File, DiskState, IsLawful}
use Rattle.vl_mem.specs.declared.entry.Entry.{Entry}
use Rattle.vl_mem.specs.declared.outcome.Outcome.{Outcome}
use Rattle.vl_mem.specs.declared.outcome.Outcome.TheVariants.{Lost, Kept, Halved}
use Rattle.vl_mem.specs.CrashImage.{crash_image, left_of, with_bytes}
use Rattle.vl_mem.specs.laws.CrashLaws.{image_left, left_none, with_there, with_other}
use Rattle.vl_mem.specs.Entry.{Entries, HasFiles, entry_of, plain, removed_in, standing_in}
use Rattle.vl_mem.specs.Kept.{image_of, with_files}
use Rattle.vl_mem.proofs.Listed.{at, at_head, at_rest, less_apart}

false_true : false ≡ true → ⊥
false_true e = cc

-- what is left by an entry
abbrev pub left_in : Outcome → Entry → Option (List ℕ)
left_in outcome entry = left_of outcome (standing_in (Some entry)) (removed_in (Some entry))

-- the image with what is left by some entries
abbrev pub with_left : Outcome → List (Name × Entry) → Image → Image
with_left outcome [] image = image
with_left outcome (e ∷ es) image = with_left outcome es (with_bytes e.0 (left_in outcome e.1) image)

pub with_files-push : (files : List (Name × Vec ℕ Global)) (file : Name × Vec ℕ Global) (image : Image)
    → with_files (files ++ file ∷ []) image ≡ insert (with_files files image) file.0 file.1.items
with_files-push [] file image = refl
with_files-push (f ∷ files) file image = with_files-push files file (insert image f.0 f.1.items)

-- a file that is left is pushed
pub pushed : (outcome : Outcome) (es rest : List (Name × Entry)) (files later : List (Name × Vec ℕ Global))
    (name : Name) (entry : Entry) (bytes : Vec ℕ Global) (all : Image)
    → es ≡ (name, entry) ∷ rest → later ≡ files ++ (name, bytes) ∷ [] → left_in outcome entry ≡ Some bytes.items
    → with_left outcome es (image_of files) ≡ all → with_left outcome rest (image_of later) ≡ all
pushed outcome es rest files later name entry bytes all shown longer left so_far =
    ap (λ fs. with_left outcome rest (image_of fs)) longer ∙ ap (with_left outcome rest) (with_files-push files (name, bytes) empty)
    ∙ sym (ap (λ b. with_left outcome rest (with_bytes name b (image_of files))) left)
    ∙ sym (ap (λ es. with_left outcome es (image_of files)) shown) ∙ so_far

module _ (outcome : Outcome) (q : Name) where
  -- an image has under a name what the other names left of it
  untouched : (es : List (Name × Entry)) (image : Image) → AllByRecursion (λ (k : Name). q ≢ k) (keys_of es)
      → get (with_left outcome es image) q ≡ get image q
  untouched [] image apart = refl
  untouched (e ∷ es) image apart =
      untouched es (with_bytes e.0 (left_in outcome e.1) image) apart.1 ∙ with_other q image (left_in outcome e.1) e.0 apart.0

  later_apart : (names : List Name) → AllByRecursion (λ (k : Name). name_cmp q k ≡ Less) names → AllByRecursion (λ (k : Name). q ≢ k) names
  later_apart [] less = tt
  later_apart (k ∷ names) less = (less_apart q k less.0, later_apart names less.1)

  left_there : (es : List (Name × Entry)) (image : Image) → IsStrictlySortedBy name_cmp (keys_of es) → get image q ≡ None
      → get (with_left outcome es image) q ≡ option_and_then (left_in outcome) (at q es)
  unfolding IsStrictlySortedBy
  left_there [] image sorted none = none
  left_there (e ∷ es) image sorted none = ⊎_elim
      (λ (same : q ≡ e.0).
      untouched es (with_bytes e.0 (left_in outcome e.1) image)
      (later_apart (keys_of es)
      (subst (λ (k : Name). AllByRecursion (λ (n : Name). name_cmp k n ≡ Less) (keys_of es)) (sym same) sorted.0))
      ∙ ap (λ (k : Name). get (with_bytes k (left_in outcome e.1) image) q) (sym same) ∙ with_there q image (left_in outcome e.1) (inl none)
      ∙ sym (ap (option_and_then (left_in outcome)) (at_head q e es same)))
      (λ (other : q ≢ e.0).
      left_there es (with_bytes e.0 (left_in outcome e.1) image) sorted.1 (with_other q image (left_in outcome e.1) e.0 other ∙ none)
      ∙ sym (ap (option_and_then (left_in outcome)) (at_rest q e es other)))
      (same_or_other q e.0)

  by_entry : (entry : Option Entry) → option_and_then (left_in outcome) entry ≡ left_of outcome (standing_in entry) (removed_in entry)
  by_entry None = sym (left_none outcome)
  by_entry (Some entry) = refl

-- what is unsynced plays no part
left_plain : (outcome : Outcome) (standing removed : Option File)
    → left_of outcome (option_map plain standing) (option_map plain removed) ≡ left_of outcome standing removed
left_plain Lost (Some file) removed = refl
left_plain Lost None (Some gone) = refl
left_plain Lost None None = refl
left_plain Kept (Some file) removed = refl
left_plain Kept None removed = refl
left_plain Halved (Some file) removed = refl
left_plain Halved None removed = refl

-- all entries of a disk leave its image
pub left_of_all : (outcome : Outcome) (entries : Entries) (disk : DiskState) → HasFiles entries disk → tree.IsOrdered name_cmp entries
    → with_left outcome entries.entries empty ≡ crash_image outcome disk
left_of_all outcome entries disk has sorted = same_map name_cmp_total name_cmp_exact
    (with_left outcome entries.entries empty) (crash_image outcome disk) (λ q.
    left_there outcome q entries.entries empty sorted (get-empty name_cmp q) ∙ by_entry outcome q (entry_of entries q)
    ∙ ap (λ (s : Option File). left_of outcome s (removed_in (entry_of entries q))) (has q).standing
    ∙ ap (left_of outcome (option_map plain (get disk.standing q))) (has q).removed
    ∙ left_plain outcome (get disk.standing q) (get disk.removed q)
    ∙ sym (image_left outcome disk q))

-- ---- names

stays_some : (files : List (Name × Vec ℕ Global)) (image : Image) (q : Name) → IsSome (get image q)
    → IsSome (get (with_files files image) q)
stays_some [] image q some = some
stays_some (file ∷ files) image q some = stays_some files (insert image file.0 file.1.items) q (⊎_elim
    (λ (same : q ≡ file.0). subst (λ (n : Name). IsSome (get (insert image n file.1.items) q)) same
    (subst IsSome (sym (get_inserted image q file.1.items)) refl))
    (λ (other : q ≢ file.0). subst IsSome (sym (get_inserted_other image file.0 file.1.items q other)) some)
    (same_or_other q file.0))

each_some : (files : List (Name × Vec ℕ Global)) (image : Image) → All (λ file. IsSome (get (with_files files image) file.0)) files
each_some [] image k d within = absurd (omega (arith, within))
each_some (file ∷ files) image zero d within = stays_some files (insert image file.0 file.1.items) file.0
    (subst IsSome (sym (get_inserted image file.0 file.1.items)) refl)
each_some (file ∷ files) image (suc k) d within = each_some files (insert image file.0 file.1.items) k d (omega (arith, within))

left_numbered : (outcome : Outcome) (disk : DiskState) → IsLawful disk → (name : Name)
    → IsSome (get (crash_image outcome disk) name) → IsNumbered name
left_numbered outcome disk lawful name some = of (get disk.standing name) (get disk.removed name) refl refl
    (subst IsSome (image_left outcome disk name) some)
  where
    of : (standing removed : Option File) → get disk.standing name ≡ standing → get disk.removed name ≡ removed
        → IsSome (left_of outcome (get disk.standing name) (get disk.removed name)) → IsNumbered name
    of (Some file) removed stands gone left = lawful.numbered name file stands
    of None (Some file) stands gone left = lawful.removed_numbered name file gone
    of None None stands gone left = absurd
        (false_true (subst IsSome
        (ap (λ (s : Option File). left_of outcome s (get disk.removed name)) stands ∙ ap (left_of outcome None) gone
        ∙ left_none outcome) left))

-- the files of a lawful disk's image have numbers that names may have
pub files_numbered : (outcome : Outcome) (disk : DiskState) (files : List (Name × Vec ℕ Global)) → IsLawful disk
    → image_of files ≡ crash_image outcome disk
    → All (λ file. IsNumbered file.0) files
files_numbered outcome disk files lawful image k d within =
    left_numbered outcome disk lawful (get_or files k d).0
    (subst (λ (i : Image). IsSome (get i (get_or files k d).0)) image (each_some files empty k d within))
