-- The files that a sweep removes are those that the layout's ruling removes, and none of them is needed.
use Rattle.std.specs.Prelude.{◌≡◌, ◌≤◌, ◌||◌, ◌&&◌, not, nat_le, min, ℕ, Bool, List, [], ◌∷◌, length, map}
use Rattle.std.specs.Prelude.{if◌then◌else◌, Option, None, Some, true, false, refl}
use Rattle.std.specs.List.{AllByRecursion, filter, list_any}
use Rattle.std.proofs.Common.{sym, ap, ◌∙◌, arith}
use Rattle.std.proofs.lemmas.Bool.Decides.{nat_tests}
use Rattle.vl_engine_laws.specs.Represents.{file_of}
use Rattle.vl_space.specs.Removing.{all_retired}
use Rattle.vl_space.specs.Sweeping.{held, ready, up_to}
use Rattle.vl_engine_model.specs.Rulings.Sweep.{is_held, is_retired_up_to, is_same, pins as pins_of, swept, without_files}
use Rattle.vl_engine_model.specs.Stock.{AreOnce, files_of, is_in}
use Rattle.vl_engine_model.specs.declared.file_name.FileName.{FileName}
use Rattle.vl_engine_model.specs.declared.file_name.FileName.TheVariants.{Log, Table, Manifest}
use Rattle.vl_engine_model.specs.declared.file_name.Retired.{Retired}
use Rattle.vl_engine_model.specs.declared.layout.Layout.{Layout}
use Rattle.vl_engine_model.specs.laws.RisingLaws.{map-filter}
use Rattle.vl_engine_model_laws.specs.laws.Files.{or_false}
use Rattle.vl_engine_model_laws.specs.laws.Once.{off_filtered}
use Rattle.vl_pins.specs.Files.{is_up_to, retired_of}
use Rattle.vl_pins.specs.Pins.{ArePinsOf, bound_of}
use Rattle.vl_pins.specs.declared.pins.Pins.{Pins}
use Rattle.vl_pins.specs.declared.retired_file.RetiredFile.{RetiredFile}
use Rattle.vl_pins.specs.laws.PinLaws.{free_up_to}

-- ---- lists

module _ {X : Type 0} where
  -- where two tests agree they leave the same
  pub filter_alike : (p q : X → Bool) (xs : List X) → AllByRecursion (λ x. p x ≡ q x) xs → filter p xs ≡ filter q xs
  filter_alike p q [] all = refl
  filter_alike p q (x ∷ xs) all = (λ i. if all.0 i then x ∷ filter_alike p q xs all.1 i else filter_alike p q xs all.1 i)

  all_so : (P : X → Type 0) → ((x : X) → P x) → (xs : List X) → AllByRecursion P xs
  all_so P so [] = tt
  all_so P so (x ∷ xs) = (so x, all_so P so xs)

  pub all_then : (P Q : X → Type 0) → ((x : X) → P x → Q x) → (xs : List X) → AllByRecursion P xs → AllByRecursion Q xs
  all_then P Q so [] all = tt
  all_then P Q so (x ∷ xs) all = (so x all.0, all_then P Q so xs all.1)

  pub all_filtered : (P : X → Type 0) (p : X → Bool) (xs : List X) → AllByRecursion P xs → AllByRecursion P (filter p xs)
  all_filtered P p [] all = tt
  all_filtered P p (x ∷ xs) all = by (p x) all.0 (all_filtered P p xs all.1)
    where
      by : (b : Bool) → P x → AllByRecursion P (filter p xs) → AllByRecursion P (if b then x ∷ filter p xs else filter p xs)
      by true here rest = (here, rest)
      by false here rest = rest

-- ---- what is left

same_file : (f : FileName) → is_same f f ≡ true
same_file (Log a) = grind (arith, nat_tests)
same_file (Table a) = grind (arith, nat_tests)
same_file (Manifest a) = grind (arith, nat_tests)

turned : (f g : FileName) → is_same f g ≡ false → is_same g f ≡ false
turned (Log a) (Log b) is = grind (arith, nat_tests, is)
turned (Log a) (Table b) is = refl
turned (Log a) (Manifest b) is = refl
turned (Table a) (Log b) is = refl
turned (Table a) (Table b) is = grind (arith, nat_tests, is)
turned (Table a) (Manifest b) is = refl
turned (Manifest a) (Log b) is = refl
turned (Manifest a) (Table b) is = refl
turned (Manifest a) (Manifest b) is = grind (arith, nat_tests, is)

-- What passes a test is taken out by its files, where no file stands twice.
module _ (p : Retired → Bool) where
  abbrev gone : List Retired → List FileName
  gone rs = files_of (filter p rs)

  others : (f : FileName) (rs : List Retired) → is_in f (files_of rs) ≡ false
      → AllByRecursion (λ (r : Retired). is_same r.file f ≡ false) rs
  others f [] off = tt
  others f (r ∷ rs) off = let both = or_false (is_same f r.file) (is_in f (files_of rs)) off in
      (turned f r.file both.0, others f rs both.1)

  pub left_over : (rs : List Retired) → AreOnce (files_of rs)
      → filter (λ (r : Retired). not (list_any (is_same r.file) (files_of (filter p rs)))) rs ≡ filter (λ (r : Retired). not (p r)) rs
  left_over [] once = refl
  left_over (x ∷ rs) once = by (p x) refl (left_over rs once.1)
    where
      rest : (b : Bool) → Retired → Bool
      rest b r = not (list_any (is_same r.file) (files_of (if b then x ∷ filter p rs else filter p rs)))

      by : (b : Bool) → p x ≡ b
          → filter (λ (r : Retired). not (list_any (is_same r.file) (files_of (filter p rs)))) rs ≡ filter (λ (r : Retired). not (p r)) rs
          → (if not (list_any (is_same x.file) (files_of (if b then x ∷ filter p rs else filter p rs)))
          then x ∷ filter (λ (r : Retired). not (list_any (is_same r.file) (files_of (if b then x ∷ filter p rs else filter p rs)))) rs
          else filter (λ (r : Retired). not (list_any (is_same r.file) (files_of (if b then x ∷ filter p rs else filter p rs)))) rs)
          ≡ (if not b then x ∷ filter (λ (r : Retired). not (p r)) rs else filter (λ (r : Retired). not (p r)) rs)
      by true is later =
          ap (λ (b : Bool). if not (b || list_any (is_same x.file) (files_of (filter p rs)))
          then x ∷ filter (λ (r : Retired). not (is_same r.file x.file || list_any (is_same r.file) (files_of (filter p rs)))) rs
          else filter (λ (r : Retired). not (is_same r.file x.file || list_any (is_same r.file) (files_of (filter p rs)))) rs)
          (same_file x.file)
          ∙ filter_alike (λ (r : Retired). not (is_same r.file x.file || list_any (is_same r.file) (files_of (filter p rs))))
          (λ (r : Retired). not (list_any (is_same r.file) (files_of (filter p rs)))) rs
          (all_then (λ (r : Retired). is_same r.file x.file ≡ false)
          (λ (r : Retired). not (is_same r.file x.file || list_any (is_same r.file) (files_of (filter p rs)))
          ≡ not (list_any (is_same r.file) (files_of (filter p rs))))
          (λ r no_same. ap (λ (b : Bool). not (b || list_any (is_same r.file) (files_of (filter p rs)))) no_same) rs
          (others x.file rs once.0))
          ∙ later
      by false is later =
          (λ i. if not (off_filtered x.file p rs once.0 i) then x ∷ later i else later i)

-- ---- a layout's

module _ {L : Type 0} (l : Layout) (pins : Pins) (trash : List (RetiredFile L)) (are : ArePinsOf pins l)
    (trash_is : all_retired trash ≡ l.retired) (aged : AllByRecursion (λ (r : Retired). r.epoch ≤ l.epoch) l.retired)
    (version : ℕ) (version_is : version ≡ l.epoch) (least : Option ℕ) where
  abbrev pub bound : ℕ
  bound = up_to least version pins

  abbrev goes : Retired → Bool
  goes r = not (is_held (pins_of l) r) && is_retired_up_to least r

  abbrev is_ready : Retired → Bool
  is_ready r = nat_le r.epoch (up_to least version pins)

  and_true : (b : Bool) → (b && true) ≡ b
  and_true true = refl
  and_true false = refl

  least_of : (n a b : ℕ) → (nat_le n b && nat_le n a) ≡ nat_le n (min a b)
  least_of n a b = by (nat_le n b) (nat_le n a) (nat_le n (min a b)) refl refl refl
    where
      by : (x y z : Bool) → nat_le n b ≡ x → nat_le n a ≡ y → nat_le n (min a b) ≡ z → (x && y) ≡ z
      by true true true p q r = refl
      by true false false p q r = refl
      by false y false p q r = refl
      by true true false p q r = absurd (grind (arith, nat_tests, p, q, r))
      by true false true p q r = absurd (grind (arith, nat_tests, p, q, r))
      by false y true p q r = absurd (grind (arith, nat_tests, p, q, r))

  agrees : (r : Retired) → r.epoch ≤ l.epoch → goes r ≡ is_ready r
  agrees r old = by least
    where
      free : not (is_held (pins_of l) r) ≡ nat_le r.epoch (bound_of version pins)
      free = free_up_to l r old pins are ∙ ap (λ (v : ℕ). nat_le r.epoch (bound_of v pins)) (sym version_is)

      by : (o : Option ℕ) → (not (is_held (pins_of l) r) && is_retired_up_to o r) ≡ nat_le r.epoch (up_to o version pins)
      by None = and_true (not (is_held (pins_of l) r)) ∙ free
      by (Some n) = ap (λ (b : Bool). b && nat_le r.epoch n) free ∙ least_of r.epoch n (bound_of version pins)

  agree : filter (λ r. not (is_held (pins_of l) r) && is_retired_up_to least r) l.retired ≡ filter is_ready l.retired
  agree = filter_alike goes is_ready l.retired (all_then (λ (r : Retired). r.epoch ≤ l.epoch)
      (λ (r : Retired). goes r ≡ is_ready r) agrees l.retired aged)

  -- the files that are ready, as the layout has them
  pub ready_retired : map retired_of (ready (up_to least version pins) trash) ≡ filter is_ready l.retired
  ready_retired = map-filter retired_of (is_up_to (up_to least version pins)) is_ready (λ x. refl) trash ∙ ap (filter is_ready) trash_is

  names_files : (xs : List (RetiredFile L)) → files_of (map retired_of xs) ≡ map (λ (file : RetiredFile L). file_of file.name) xs
  names_files [] = refl
  names_files (x ∷ xs) = ap (λ (fs : List FileName). file_of x.name ∷ fs) (names_files xs)

  -- are those that the ruling removes,
  pub swept_are : swept least l ≡ map (λ (file : RetiredFile L). file_of file.name) (ready (up_to least version pins) trash)
  swept_are = ap files_of (agree ∙ sym ready_retired) ∙ names_files (ready (up_to least version pins) trash)

  length_names : (xs : List (RetiredFile L)) → length (map (λ (file : RetiredFile L). file_of file.name) xs) ≡ length xs
  length_names [] = refl
  length_names (x ∷ xs) = omega (arith, length_names xs)

  -- as many,
  pub swept_count : length (swept least l) ≡ length (ready (up_to least version pins) trash)
  swept_count = ap length swept_are ∙ length_names (ready (up_to least version pins) trash)

  -- and the others are left.
  pub left_are : AreOnce (files_of l.retired)
      → all_retired (held (up_to least version pins) trash) ≡ (without_files (swept least l) l).retired
  left_are once = map-filter retired_of (λ (file : RetiredFile L). not (is_up_to (up_to least version pins) file))
      (λ (r : Retired). not (is_ready r)) (λ x. refl) trash ∙ ap (filter (λ (r : Retired). not (is_ready r))) trash_is
      ∙ sym (left_over is_ready l.retired once)
      ∙ ap (λ (fs : List FileName). filter (λ (r : Retired). not (list_any (is_same r.file) fs)) l.retired)
      (sym (ap files_of agree))
