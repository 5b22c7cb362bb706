-- Manifests are looked at from the greatest down.
use Rattle.std.proofs.Common.{◌≡◌, ◌⊎◌, ℕ, ◌-◌, ◌<◌, ◌≤◌, ◌^◌, Bool, true, false, ◌&&◌, List, refl, sym, ap, ◌∙◌}
use Rattle.std.proofs.Common.{subst, arith, inl, inr, ⊎_elim}
use Rattle.std.specs.Prelude.{Contains, IsSome, ◌==◌, if◌then◌else◌, Option, None, Some, Result, Ok, Err, unwrap_or}
use Rattle.std.specs.FinMap.{get}
use Rattle.std.specs.Option.{option_map}
use Rattle.std.proofs.lemmas.Bool.{cases_eq}
use Rattle.std.proofs.lemmas.Bool.Decides.{nat_tests}
use Rattle.vl_disk.specs.Crash.{Image}
use Rattle.vl_disk.specs.Disk.{Lists, Stands}
use Rattle.vl_disk.specs.DiskState.{DiskState, File, file_at, new_file}
use Rattle.vl_disk.specs.Name.{IsNumbered}
use Rattle.vl_disk.specs.Started.{IsRead}
use Rattle.vl_disk.specs.declared.name.Name.{Name}
use Rattle.vl_disk.specs.declared.name.Name.TheVariants.{Log, Table, Manifest}
use Rattle.vl_manifest.specs.Current.{IsCurrent, StandsReadable}
use Rattle.vl_manifest.specs.Manifest.{IsNewer, IsReadable}
use Rattle.vl_manifest.specs.declared.state.ManifestState.{ManifestState}
use Rattle.vl_recover.specs.declared.fails.OpenError.{OpenError}
use Rattle.vl_recover.specs.declared.fails.OpenError.TheVariants as why
use Rattle.vl_recover.specs.opening.Leading.{AnswersStage, ArePassed, IsNewestDownTo, IsNewestWith, headed_by, heading_without}
use Rattle.vl_recover.specs.opening.Finding.{IsExcused}
use Rattle.vl_recover.specs.opening.Named.{AreGreatestIn, IsGreatestOf, IsManifestBelow}
use Rattle.vl_recover.specs.opening.Opening.{Bare, Current, Heading, IsHeaded, Refusal, Says}
use Rattle.vl_recover.specs.opening.Plans.{Greatest}
use Rattle.vl_recover.proofs.opening.ReadingLogs.{not_named}

some_bytes : (a b : List ℕ) → Some a ≡ Some b → a ≡ b
some_bytes a b e = cc

-- what a read gives of a file that stands
pub as_read : (image : Image) (disk : DiskState) (name : Name) (bytes : List ℕ) → IsRead image disk → Stands name disk
    → bytes ≡ (file_at disk name).bytes → get image name ≡ Some bytes
as_read image disk name bytes read stands is = read.each name ∙ by (get disk.standing name) refl
  where
    by : (file : Option File) → get disk.standing name ≡ file → option_map (λ (f : File). f.bytes) (get disk.standing name) ≡ Some bytes
    by (Some file) here = ap (option_map (λ (f : File). f.bytes)) here
        ∙ ap Some (sym (is ∙ ap (λ (o : Option File). (unwrap_or o new_file).bytes) here))
    by None here = absurd (nothing (subst IsSome here stands))
      where
        nothing : IsSome {T = File} None → ⊥
        nothing e = cc

-- a name that is listed has a file that a read gives
pub given : (image : Image) (disk : DiskState) (names : List Name) → IsRead image disk → Lists names disk
    → (name : Name) → Contains names name → IsSome (get image name)
given image disk names read lists name c =
    subst IsSome (sym (as_read image disk name ((file_at disk name).bytes) read ((lists.all name).0 c) refl)) refl

-- ---- which stage answers

pub excused_stage : {A : Type 0} (stage : Result A Refusal → Type 0) (e : OpenError) → IsExcused e → AnswersStage stage (Err e)
excused_stage stage why.NotAStore x = absurd x
excused_stage stage (why.NewerFormat format) x = absurd x
excused_stage stage (why.Damaged name place) x = absurd x
excused_stage stage (why.Exhausted counter) x = absurd x
excused_stage stage why.NoMemory x = tt
excused_stage stage (why.Disk name) x = tt

pub says_current : (image : Image) (heading : Heading) → IsHeaded image heading
    → (result : Result ManifestState OpenError) → AnswersStage (Says heading) result → AnswersStage (Current image) result
says_current image heading is (Ok state) says = (heading, is, says)
says_current image heading is (Err why.NotAStore) says = (heading, is, says)
says_current image heading is (Err (why.NewerFormat format)) says = (heading, is, says)
says_current image heading is (Err (why.Damaged name place)) says = (heading, is, says)
says_current image heading is (Err (why.Exhausted counter)) says = says
says_current image heading is (Err why.NoMemory) says = tt
says_current image heading is (Err (why.Disk name)) says = tt

-- ---- one manifest after the other

module _ (image : Image) (names : List Name) (named : (name : Name) → IsSome (get image name) → Contains names name) where
  here_named : (n : ℕ) (bytes : List ℕ) → get image (Manifest n) ≡ Some bytes → Contains names (Manifest n)
  here_named n bytes is = named (Manifest n) (subst IsSome (sym is) refl)

  pub none_passed : (numbered : (name : Name) → Contains names name → IsNumbered name) → ArePassed image (2 ^ 32 - 1) None
  none_passed numbered = record {
    unreadable = λ n bytes is. let most = (numbered (Manifest n) (here_named n bytes is.stands)).1 in omega (arith, most);
    newest_is = λ n format is. let most = (numbered (Manifest n) (here_named n is.bytes is.stands)).1 in omega (arith, most);
  }

  module _ (above number : ℕ) (bytes : List ℕ) (newest : Option ℕ) (so : ArePassed image above newest)
      (next : IsGreatestOf (IsManifestBelow names above) (Some number)) (stands : get image (Manifest number) ≡ Some bytes) where
    -- a manifest that was not passed yet is this one, or below
    at_most : (n : ℕ) (others : List ℕ) → get image (Manifest n) ≡ Some others → n < above → n ≤ number
    at_most n others is below = next.1 n (here_named n others is, below)

    same : (n : ℕ) (others : List ℕ) → get image (Manifest n) ≡ Some others → n ≡ number → others ≡ bytes
    same n others is e = some_bytes others bytes (sym is ∙ ap (λ (k : ℕ). get image (Manifest k)) e ∙ stands)

    pub is_current : IsReadable number bytes → IsCurrent image number bytes
    is_current readable = record {
      here = record { stands = stands; readable = readable };
      greatest = λ n others is. at_most n others is.stands (so.unreadable n others is);
    }

    below_it : (n : ℕ) → n ≤ number → (n ≡ number → ⊥) → n < number
    below_it n le other = ⊎_elim (λ (e : n ≡ number). absurd (other e))
        (λ (apart : n ≡ number → ⊥). omega (arith, le, apart)) (cases_eq n number)

    newest_next : (old : Option ℕ) → IsNewestDownTo image above old → (new : Option ℕ)
        → IsNewestWith old number bytes new → IsNewestDownTo image number new
    newest_next (Some format) is new with_it =
        subst (IsNewestDownTo image number) (sym with_it)
        (is.0, (let past = is.1 in let below = next.0.1 in omega (arith, past, below)), is.2, is.3)
    newest_next None is None with_it = λ n format newer.
        below_it n (at_most n newer.bytes newer.stands (is n format newer))
        (λ e. with_it format (subst (λ (b : List ℕ). IsNewer number b format) (same n newer.bytes newer.stands e)
        (subst (λ (k : ℕ). IsNewer k newer.bytes format) e newer.newer)))
    newest_next None is (Some format) with_it = (
      number,
      omega arith,
      record { bytes = bytes; stands = stands; newer = with_it },
      λ m other newer. at_most m
          newer.bytes newer.stands (is m other newer),
    )

    pub one_passed : (IsReadable number bytes → ⊥) → (new : Option ℕ) → IsNewestWith newest number bytes new → ArePassed image number new
    one_passed unreadable new with_it = record {
      unreadable = λ n others is. below_it n (at_most n others is.stands (so.unreadable n others is))
          (λ e. unreadable (subst (IsReadable number) (same n others is.stands e) (subst (λ (k : ℕ). IsReadable k others) e is.readable)));
      newest_is = newest_next newest so.newest_is new with_it;
    }

-- ---- no manifest is current

module _ (image : Image) (names : List Name) (named : (name : Name) → IsSome (get image name) → Contains names name)
    (given_all : (name : Name) → Contains names name → IsSome (get image name))
    (numbered : (name : Name) → Contains names name → IsNumbered name) where
  without : (kind : ℕ → Name) → ((n : ℕ) → IsNumbered (kind n) → 1 ≤ n) → (g : ℕ)
      → ((n : ℕ) → Contains names (kind n) → n ≤ g) → g ≡ 0 → (n : ℕ) → get image (kind n) ≡ None
  without kind from_one g above none n = not_named image names named (kind n)
      (λ c. let most = above n c in let least = from_one n (numbered (kind n) c) in omega (arith, most, least, none))

  pub is_headed : (above : ℕ) (newest : Option ℕ) (g : Greatest) → AreGreatestIn names g → ArePassed image above newest
      → IsGreatestOf (IsManifestBelow names above) None → IsHeaded image (heading_without g newest)
  is_headed above newest g are so none = by (g.log == 0) (g.table == 0) refl refl
    where
      no_current : (n : ℕ) (bytes : List ℕ) → StandsReadable image n bytes → ⊥
      no_current n bytes is = none n (named (Manifest n) (subst IsSome (sym is.stands) refl), so.unreadable n bytes is)

      headed : (((n : ℕ) × IsSome (get image (Log n))) ⊎ ((n : ℕ) × IsSome (get image (Table n)))) → (o : Option ℕ)
          → IsNewestDownTo image above o → IsHeaded image (headed_by o)
      headed some None is = (
        record { none = no_current; some = some },
        λ n format newer. none n
            (named (Manifest n) (subst IsSome (sym newer.stands) refl), is n format newer),
      )
      headed some (Some format)
          is = (
            record { none = no_current; some = some },
            record
                { number = is.0; newer = is.2; greatest = λ m other newer. is.3 m other newer },
          )

      by : (a b : Bool) → (g.log == 0) ≡ a → (g.table == 0) ≡ b → IsHeaded image (if a && b then Bare else headed_by newest)
      by true true no_log no_table = record {
        none = no_current;
        no_log = without Log (λ n is. is.0) g.log are.log.above (grind (arith, nat_tests));
        no_table = without Table (λ n is. is.0) g.table are.table.above (grind (arith, nat_tests));
      }
      by true false no_log table = headed
          (inr (g.table, given_all (Table g.table) (are.table.is_there (grind (arith, nat_tests))))) newest so.newest_is
      by false b log table = headed (inl (g.log, given_all (Log g.log) (are.log.is_there (grind (arith, nat_tests))))) newest so.newest_is
