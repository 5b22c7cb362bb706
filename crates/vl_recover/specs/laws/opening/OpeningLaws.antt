-- An image opens in one way; an opening taken apart, and put together.
use Rattle.std.specs.Prelude.{◌≡◌, ◌<◌, ℕ, ◌+◌, List, [], ◌∷◌, length, Option, None, Some, Result, Ok, Err, IsSome, refl, true, false}
use Rattle.std.specs.FinMap.{get}
use Rattle.std.proofs.Common.{sym, ap, subst, ◌∙◌, arith, ⊎_elim}
use Rattle.vl_disk.specs.Crash.{Image}
use Rattle.vl_disk.specs.declared.name.Name.TheVariants.{Log, Table}
use Rattle.vl_engine_model.specs.declared.segment.Segment.{Segment}
use Rattle.vl_manifest.specs.laws.CurrentLaws as manifests
use Rattle.vl_manifest.specs.laws.ManifestLaws.{one_saying}
use Rattle.vl_manifest.specs.declared.state.ManifestState.{ManifestState}
use Rattle.vl_seglog.specs.LogReading.{ReadsLog}
use Rattle.vl_seglog.specs.laws.LogReadingLaws.{one_log_reading}
use Rattle.vl_recover.specs.opening.Opening.{Bare, Current, FoundTable, Headless, Heading, IsBare, IsHeaded}
use Rattle.vl_recover.specs.opening.Opening.{IsHeadless, Led, LogsFrom, NamedLevels, NamedLogs, Newest, Opening}
use Rattle.vl_recover.specs.opening.Opening.{Opens, Says, StandingLogs, WithLogs, WithTables, led_into, of_manifest}
use Rattle.vl_recover.specs.opening.Opening.{opening_of}
use Rattle.vl_recover.specs.laws.opening.TablesLaws.{single_levels, single_logs_led}
use Rattle.vl_recover.specs.laws.repairing.StageLaws.{ok_err, ok_same, single_then}
use Rattle.vl_recover.specs.opening.Stages.{IsSingle}
use Rattle.vl_recover.specs.opening.Walk.{LogDamage, StandingLog, filled, walked}

pub some_same : {X : Type 0} (a b : X) → Some a ≡ Some b → a ≡ b
some_same a b e = cc

pub some_none : {X : Type 0} (a : X) → Some a ≡ None → ⊥
some_none a e = cc

-- what stands under a name isn't missing there
stands_or_not : {X : Type 0} (there : Option X) → IsSome there → there ≡ None → ⊥
stands_or_not None some none = false_true some
  where
    false_true : false ≡ true → ⊥
    false_true e = cc
stands_or_not (Some x) some none = some_none x none

-- ---- one heading

bare_or_headless : (image : Image) → IsBare image → IsHeadless image → ⊥
bare_or_headless image bare headless = ⊎_elim
    (λ (log : (n : ℕ) × IsSome (get image (Log n))). stands_or_not (get image (Log log.0)) log.1 (bare.no_log log.0))
    (λ (table : (n : ℕ) × IsSome (get image (Table n))).
    stands_or_not (get image (Table table.0)) table.1 (bare.no_table table.0))
    headless.some

pub one_heading : (image : Image) (h k : Heading) → IsHeaded image h → IsHeaded image k → h ≡ k
one_heading image Bare Bare p q = refl
one_heading image Bare (Led n other) p q = absurd (p.none n other q.here)
one_heading image Bare Headless p q = absurd (bare_or_headless image p q.0)
one_heading image Bare (Newest b) p q = absurd (bare_or_headless image p q.0)
one_heading image (Led m bytes) Bare p q = absurd (q.none m bytes p.here)
one_heading image (Led m bytes) (Led n other) p q =
    let same = manifests.one_current image m n bytes other p q in λ i. Led (same.0 i) (same.1 i)
one_heading image (Led m bytes) Headless p q = absurd (q.0.none m bytes p.here)
one_heading image (Led m bytes) (Newest b) p q = absurd (q.0.none m bytes p.here)
one_heading image Headless Bare p q = absurd (bare_or_headless image q p.0)
one_heading image Headless (Led n other) p q = absurd (p.0.none n other q.here)
one_heading image Headless Headless p q = refl
one_heading image Headless (Newest b) p q = absurd (p.1 q.1.number b q.1.newer)
one_heading image (Newest a) Bare p q = absurd (bare_or_headless image q p.0)
one_heading image (Newest a) (Led n other) p q = absurd (p.0.none n other q.here)
one_heading image (Newest a) Headless p q = absurd (q.1 p.1.number a p.1.newer)
one_heading image (Newest a) (Newest b) p q = ap Newest (manifests.one_newest image a b p.1 q.1)

-- a heading says one thing
pub single_says : (h : Heading) → IsSingle (Says h)
single_says Bare r s p q = p ∙ sym q
single_says (Led n bytes) r s (a, says, p) (b, says_too, q) =
    p ∙ ap (of_manifest n) (one_saying n bytes a b says says_too) ∙ sym q
single_says Headless r s p q = p ∙ sym q
single_says (Newest format) r s p q = p ∙ sym q

pub single_current : (image : Image) → IsSingle (Current image)
single_current image r s (h, headed, p) (k, headed_too, q) =
    single_says k r s (subst (λ (x : Heading). Says x r) (one_heading image h k headed headed_too) p) q

-- ---- one list of logs

pub one_standing : (image : Image) (least : ℕ) (ps qs : List StandingLog)
    → StandingLogs image least ps → StandingLogs image least qs → ps ≡ qs
one_standing image least [] [] p q = refl
one_standing image least [] (b ∷ qs) p (there, q) =
    absurd (some_none there.bytes (sym there.stands ∙ p b.number there.from))
one_standing image least (a ∷ ps) [] (here, p) q =
    absurd (some_none here.bytes (sym here.stands ∙ q a.number here.from))
one_standing image least (a ∷ ps) (b ∷ qs) (here, p) (there, q) =
    let not_less : a.number < b.number → ⊥ =
    λ less. some_none here.bytes (sym here.stands ∙ there.between a.number here.from less) in
    let not_more : b.number < a.number → ⊥ =
    λ less. some_none there.bytes (sym there.stands ∙ here.between b.number there.from less) in
    let number : a.number ≡ b.number = omega (arith, not_less, not_more) in
    let bytes : here.bytes ≡ there.bytes = some_same here.bytes there.bytes
    (sym here.stands ∙ ap (λ (n : ℕ). get image (Log n)) number ∙ there.stands) in
    let size : a.length ≡ b.length = here.length_is ∙ ap length bytes ∙ sym there.length_is in
    let reads : ReadsLog b.number there.bytes a.reading =
    subst (λ (x : List ℕ). ReadsLog b.number x a.reading) bytes
    (subst (λ (n : ℕ). ReadsLog n here.bytes a.reading) number here.reads) in
    let reading : a.reading ≡ b.reading =
    one_log_reading b.number there.bytes a.reading b.reading reads there.reads in
    let others : ps ≡ qs = one_standing image (b.number + 1) ps qs
    (subst (λ (n : ℕ). StandingLogs image (n + 1) ps) number p) q in
    λ i. record { number = number i; length = size i; reading = reading i } ∷ others i

pub single_logs : (image : Image) (state : ManifestState) (levels : List (List FoundTable)) → IsSingle (LogsFrom image state levels)
single_logs image state levels r s (ps, standing, p) (qs, standing_too, q) =
    p ∙ ap (λ (logs : List StandingLog). opening_of state levels logs (walked state.covered logs))
    (one_standing image state.head ps qs standing standing_too) ∙ sym q

-- ---- one opening

-- An image opens in one way.
pub single_opening : (image : Image) → IsSingle (Opens image)
single_opening image = single_then (Current image) (WithTables image) (single_current image) (λ state.
    single_then (NamedLevels false image state.levels) (WithLogs image state) (single_levels image false state.levels) (λ levels.
    single_then (NamedLogs image (led_into levels)) (λ t. LogsFrom image state levels) (single_logs_led image (led_into levels))
    (λ t. single_logs image state levels)))

-- ---- what an opening is made of

-- what was found in an image that opens
pub record IsOpened (image : Image) (o : Opening) : Type 0 where
  pub heading : Heading
  pub headed : IsHeaded image heading
  pub says : Says heading (Ok o.state)
  -- the tables that are named, and the logs that these lead into
  pub levels : NamedLevels false image o.state.levels (Ok o.levels)
  pub led : NamedLogs image (led_into o.levels) (Ok tt)
  -- the logs from head on
  pub standing : List StandingLog
  pub stands : StandingLogs image o.state.head standing
  pub walk : walked o.state.covered standing ≡ Ok o.number
  pub logs_are : o.logs ≡ filled standing

opening_apart : (state : ManifestState) (levels : List (List FoundTable)) (logs : List StandingLog) (walk : Result ℕ LogDamage)
    (o : Opening)
    → Ok o ≡ opening_of state levels logs walk
    → (walk ≡ Ok o.number) × (o.state ≡ state) × (o.levels ≡ levels) × (o.logs ≡ filled logs)
opening_apart state levels logs (Ok number) o e =
    let same : o ≡ record { state = state; levels = levels; logs = filled logs; number = number } =
    ok_same o (record { state = state; levels = levels; logs = filled logs; number = number }) e in (
      ap Ok (sym (ap (λ (x : Opening). x.number) same)),
      ap (λ (x : Opening). x.state) same,
      ap (λ (x : Opening). x.levels) same,
      ap (λ (x : Opening). x.logs) same,
    )
opening_apart state levels logs (Err damage) o e = absurd (ok_err o _ e)

abbrev pub opening_made : ManifestState → List (List FoundTable) → List StandingLog → ℕ → Opening
opening_made state levels logs number = record { state = state; levels = levels; logs = filled logs; number = number }

-- An opening taken apart.
pub opened : (image : Image) (o : Opening) → Opens image (Ok o) → IsOpened image o
opened image o (state, (heading, headed, says), (levels, named, (u, led, (logs, standing, e)))) =
    let apart = opening_apart state levels logs (walked state.covered logs) o e in
    let same : o ≡ opening_made state levels logs o.number =
    λ i. record { state = apart.1 i; levels = apart.2 i; logs = apart.3 i; number = o.number } in
    subst (IsOpened image) (sym same) (record {
      heading = heading;
      headed = headed;
      says = says;
      levels = named;
      led = led;
      standing = logs;
      stands = standing;
      walk = apart.0;
      logs_are = refl;
    })

-- An opening put together.
pub is_opened : (image : Image) (o : Opening) → IsOpened image o → Opens image (Ok o)
is_opened image o is =
    subst (λ (l : List Segment). Opens image (Ok (record { state = o.state; levels = o.levels; logs = l; number = o.number })))
    (sym is.logs_are) (
      o.state,
      (is.heading, is.headed, is.says),
      (
        o.levels,
        is.levels,
        (tt, is.led, (is.standing, is.stands, sym (ap (opening_of o.state o.levels is.standing) is.walk))),
      ),
    )
