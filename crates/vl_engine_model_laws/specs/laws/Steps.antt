-- Each ruling keeps what is so of retired files, pins and numbers.
use Rattle.std.proofs.Common.{◌≡◌, ◌⊎◌, inl, inr, ⊎_elim, ℕ, ◌+◌, ◌≤◌, ◌<◌, true, false, not, ◌||◌, List, [], ◌∷◌}
use Rattle.std.proofs.Common.{◌++◌, map, refl, ap, sym, ◌∙◌, subst, arith}
use Rattle.std.proofs.lemmas.Bool.{and_parts}
use Rattle.std.proofs.lemmas.Bool.Decides.{nat_tests}
use Rattle.std.specs.Prelude.{Option, Some, None, nat_lt, ◌==◌}
use Rattle.std.specs.List.{AllByRecursion, flat_map, list_any, filter}
use Rattle.std.specs.Ordering.{nat_cmp}
use Rattle.std.specs.declared.cmp.Ordering.TheVariants.{Less, Equal, Greater}
use Rattle.vl_model.specs.Entries.{by_order}
use Rattle.vl_model.specs.declared.log_frame.LogFrame.{LogFrame}
use Rattle.vl_model.specs.declared.log_frame.Moved.{Moved}
use Rattle.vl_model.specs.declared.point.Point.{Point}
use Rattle.vl_engine_model.specs.Garbage.{live_bytes}
use Rattle.vl_engine_model.specs.laws.RisingLaws.{all-put_by}
use Rattle.vl_engine_model.specs.Ruling.{logged, ended, pin_of, is_idle, retired_at, switched}
use Rattle.vl_engine_model.specs.Rulings.Begin.{begun}
use Rattle.vl_engine_model.specs.Rulings.EndPass.{without_pass}
use Rattle.vl_engine_model.specs.Rulings.Pick.{with_pass}
use Rattle.vl_engine_model.specs.Rulings.Plan.{with_job}
use Rattle.vl_engine_model.specs.Rulings.Relocate.{with_moves, relocated}
use Rattle.vl_engine_model.specs.Rulings.Rotate.{rotated}
use Rattle.vl_engine_model.specs.Rulings.Sweep.{is_same, pins, job_pin, pass_pin}
use Rattle.vl_engine_model.specs.Sources.{needed, tables, head, log_of, table_of, pointed_logs, put_segment, rising}
use Rattle.vl_engine_model.specs.declared.file_name.FileName.{FileName}
use Rattle.vl_engine_model.specs.declared.file_name.FileName.TheVariants.{Log, Table as TableFile, Manifest}
use Rattle.vl_engine_model.specs.declared.file_name.Retired.{Retired}
use Rattle.vl_engine_model.specs.declared.job.Job.{Job}
use Rattle.vl_engine_model.specs.declared.job.OpenJob.{OpenJob}
use Rattle.vl_engine_model.specs.declared.layout.Layout.{Layout}
use Rattle.vl_engine_model.specs.declared.live.Live.{Live}
use Rattle.vl_engine_model.specs.declared.live.Pin.{Pin}
use Rattle.vl_engine_model.specs.declared.segment.Segment.{Segment}
use Rattle.vl_engine_model.specs.declared.table.Table.{Table}
use Rattle.vl_engine_model_laws.specs.laws.Files.{true_false, or_cases, or_left, or_right, neither, is_not, any-append}
use Rattle.vl_engine_model_laws.specs.laws.Files.{any-map, all_weaker, all_both, all_parts, all_filtered, all_passed}
use Rattle.vl_engine_model_laws.specs.laws.Files.{all_mapped, all_unmapped, same_file, none_live}
use Rattle.vl_engine_model_laws.specs.laws.Stock.{head_least}
use Rattle.vl_engine_model.specs.Stock.{is_in, leads, IsFooted, IsDrawn, IsUnneeded, IsOff, IsPinned, IsFalling, IsStocked}

-- ---- pins

own_pin : (l : Layout) → IsStocked l → IsPinned l.epoch l.retired (pin_of l)
own_pin l s = record {
  old = omega arith;
  off = all_weaker (IsUnneeded (needed l)) (IsOff (pin_of l)) (λ r is. inr is) l.retired s.unneeded;
}

module _ (l : Layout) (s : IsStocked l) where
  P : Pin → Type 0
  P = IsPinned l.epoch l.retired

  -- the pins of what lives, of a job, of a pass
  pub parts : (AllByRecursion (IsPinned l.epoch l.retired) (map (λ (x : Live). x.pin) l.live)
      × AllByRecursion (IsPinned l.epoch l.retired) (job_pin l.job))
      × AllByRecursion (IsPinned l.epoch l.retired) (pass_pin l.pass)
  parts =
      let outer = all_parts (IsPinned l.epoch l.retired) (map (λ (x : Live). x.pin) l.live ++ job_pin l.job)
      (pass_pin l.pass) s.pinned in
      (all_parts (IsPinned l.epoch l.retired) (map (λ (x : Live). x.pin) l.live) (job_pin l.job) outer.0, outer.1)

  together : (live job pass : List Pin) → AllByRecursion (IsPinned l.epoch l.retired) live
      → AllByRecursion (IsPinned l.epoch l.retired) job
      → AllByRecursion (IsPinned l.epoch l.retired) pass
      → AllByRecursion (IsPinned l.epoch l.retired) ((live ++ job) ++ pass)
  together live job pass a b c =
      all_both (IsPinned l.epoch l.retired) (live ++ job) pass (all_both (IsPinned l.epoch l.retired) live job a b) c

  pub stocked_begun : (ticket number : ℕ) → IsStocked (begun l ticket number)
  stocked_begun ticket number = record {
    unneeded = s.unneeded;
    retired_drawn = s.retired_drawn;
    pinned = together (map (λ (x : Live). x.pin) (begun l ticket number).live) (job_pin l.job) (pass_pin l.pass)
        (all_mapped (IsPinned l.epoch l.retired) (λ (x : Live). x.pin) (begun l ticket number).live
        (all-put_by (λ (x : Live). x.ticket) (λ (x : Live). IsPinned l.epoch l.retired x.pin)
        (record { ticket = ticket; number = number; pin = pin_of l }) l.live (own_pin l s)
        (all_unmapped (IsPinned l.epoch l.retired) (λ (x : Live). x.pin) l.live parts.0.0)))
        parts.0.1 parts.1;
    tables_drawn = s.tables_drawn;
    logs_drawn = s.logs_drawn;
    flushed_drawn = s.flushed_drawn;
    falling = s.falling;
    footed = s.footed;
  }

  pub stocked_ended : (ticket : ℕ) → IsStocked (ended ticket l)
  stocked_ended ticket = record {
    unneeded = s.unneeded;
    retired_drawn = s.retired_drawn;
    pinned =
        together (map (λ (x : Live). x.pin) (filter (λ (x : Live). not (x.ticket == ticket)) l.live)) (job_pin l.job) (pass_pin l.pass)
        (all_mapped (IsPinned l.epoch l.retired) (λ (x : Live). x.pin) (filter (λ (x : Live). not (x.ticket == ticket)) l.live)
        (all_filtered (λ (x : Live). IsPinned l.epoch l.retired x.pin) (λ (x : Live). not (x.ticket == ticket)) l.live
        (all_unmapped (IsPinned l.epoch l.retired) (λ (x : Live). x.pin) l.live parts.0.0)))
        parts.0.1 parts.1;
    tables_drawn = s.tables_drawn;
    logs_drawn = s.logs_drawn;
    flushed_drawn = s.flushed_drawn;
    falling = s.falling;
    footed = s.footed;
  }

  pub stocked_planned : (job : Job) → IsStocked (with_job job l)
  stocked_planned job = record {
    unneeded = s.unneeded;
    retired_drawn = s.retired_drawn;
    pinned =
        together (map (λ (x : Live). x.pin) l.live) (pin_of l ∷ []) (pass_pin l.pass) parts.0.0 (own_pin l s, tt) parts.1;
    tables_drawn = s.tables_drawn;
    logs_drawn = s.logs_drawn;
    flushed_drawn = s.flushed_drawn;
    falling = s.falling;
    footed = s.footed;
  }

  pub stocked_picked : (segment : ℕ) → IsStocked (with_pass segment l)
  stocked_picked segment = record {
    unneeded = s.unneeded;
    retired_drawn = s.retired_drawn;
    pinned =
        together (map (λ (x : Live). x.pin) l.live) (job_pin l.job) (pin_of l ∷ []) parts.0.0 parts.0.1 (own_pin l s, tt);
    tables_drawn = s.tables_drawn;
    logs_drawn = s.logs_drawn;
    flushed_drawn = s.flushed_drawn;
    falling = s.falling;
    footed = s.footed;
  }

  pub stocked_freed : IsStocked (record l { job = None })
  stocked_freed = record {
    unneeded = s.unneeded;
    retired_drawn = s.retired_drawn;
    pinned = together (map (λ (x : Live). x.pin) l.live) [] (pass_pin l.pass) parts.0.0 tt parts.1;
    tables_drawn = s.tables_drawn;
    logs_drawn = s.logs_drawn;
    flushed_drawn = s.flushed_drawn;
    falling = s.falling;
    footed = s.footed;
  }

  pub stocked_pass_ended : IsStocked (without_pass l)
  stocked_pass_ended = record {
    unneeded = s.unneeded;
    retired_drawn = s.retired_drawn;
    pinned = together (map (λ (x : Live). x.pin) l.live) (job_pin l.job) [] parts.0.0 parts.0.1 tt;
    tables_drawn = s.tables_drawn;
    logs_drawn = s.logs_drawn;
    flushed_drawn = s.flushed_drawn;
    falling = s.falling;
    footed = s.footed;
  }

  -- ---- frames

  pub stocked_logged : (f : LogFrame) → IsStocked (logged f l)
  stocked_logged f = record {
    unneeded = s.unneeded;
    retired_drawn = s.retired_drawn;
    pinned = s.pinned;
    tables_drawn = s.tables_drawn;
    logs_drawn = s.logs_drawn;
    flushed_drawn = s.flushed_drawn;
    falling = s.falling;
    footed = s.footed;
  }

  -- the epoch rises, and files retire at the new one
  pub later_pins : (fresh : List Retired)
      → AllByRecursion (λ (r : Retired). r.epoch ≡ l.epoch + 1) fresh
      → (ps : List Pin) → AllByRecursion (IsPinned l.epoch l.retired) ps
      → AllByRecursion (IsPinned (l.epoch + 1) (l.retired ++ fresh)) ps
  later_pins fresh at ps all =
      all_weaker (IsPinned l.epoch l.retired) (IsPinned (l.epoch + 1) (l.retired ++ fresh))
      (λ p is. record {
        old = let less = is.old in omega (arith, less);
        off = all_both (IsOff p) l.retired fresh is.off
            (all_weaker (λ (r : Retired). r.epoch ≡ l.epoch + 1) (IsOff p)
            (λ r here. let less = is.old in inl (omega (arith, less, here))) fresh at);
      })
      ps all

pub nothing_more : {X : Type 0} (xs : List X) → xs ++ [] ≡ xs
nothing_more [] = refl
nothing_more (x ∷ xs) = ap (λ ys. x ∷ ys) (nothing_more xs)

noted_pin : (number : ℕ) (moved : List Moved) (o : Option OpenJob) → job_pin (with_moves number moved o) ≡ job_pin o
noted_pin number moved None = refl
noted_pin number moved (Some job) = refl

pub stocked_relocated : (l : Layout) → IsStocked l → (records : List Moved) → IsStocked (relocated l records)
stocked_relocated l s records = record {
  unneeded = s.unneeded;
  retired_drawn = s.retired_drawn;
  pinned =
      subst (λ (ps : List Pin). AllByRecursion (IsPinned (l.epoch + 1) l.retired)
      ((map (λ (x : Live). x.pin) l.live ++ ps) ++ pass_pin l.pass)) (sym (noted_pin (l.epoch + 1) records l.job))
      (subst (λ (rs : List Retired). AllByRecursion (IsPinned (l.epoch + 1) rs) (pins l))
      (nothing_more l.retired) (later_pins l s [] tt (pins l) s.pinned));
  tables_drawn = s.tables_drawn;
  logs_drawn = s.logs_drawn;
  flushed_drawn = s.flushed_drawn;
  falling = s.falling;
  footed = s.footed;
}

-- ---- what is needed now

-- what is needed now was needed, or is new
abbrev pub Gains : ℕ → ℕ → List FileName → List FileName → Type 0
Gains next_log next_table before now = (f : FileName) → is_in f now ≡ true
    → (is_in f before ≡ true) ⊎ (IsDrawn next_log next_table f → ⊥)

pub still_unneeded : (next_log next_table : ℕ) (before now : List FileName) → Gains next_log next_table before now
    → (rs : List Retired) → AllByRecursion (IsUnneeded before) rs
    → AllByRecursion (λ (r : Retired). IsDrawn next_log next_table r.file) rs
    → AllByRecursion (IsUnneeded now) rs
still_unneeded next_log next_table before now gains [] un drawn = tt
still_unneeded next_log next_table before now gains (r ∷ rs) un drawn = (
  is_not (is_in r.file now)
      (λ there. ⊎_elim (λ (was : is_in r.file before ≡ true). true_false (sym was ∙ un.0))
      (λ (new : IsDrawn next_log next_table r.file → ⊥). new drawn.0) (gains r.file there)),
  still_unneeded next_log next_table before now gains rs un.1 drawn.1,
)

pub drawn_later : (a b c d : ℕ) → a ≤ c → b ≤ d → (f : FileName) → IsDrawn a b f → IsDrawn c d f
drawn_later a b c d al bl (Log n) is = omega (arith, al, is)
drawn_later a b c d al bl (TableFile n) is = omega (arith, bl, is)
drawn_later a b c d al bl (Manifest n) is = is

-- the three kinds of what is needed
pub needed_parts : (f : FileName) (ts : List FileName) (ps ls : List FileName) → is_in f ((ts ++ ps) ++ ls) ≡ true
    → (is_in f ts ≡ true) ⊎ ((is_in f ps ≡ true) ⊎ (is_in f ls ≡ true))
needed_parts f ts ps ls there = ⊎_elim
    (λ (front : is_in f (ts ++ ps) ≡ true). ⊎_elim (λ (one : is_in f ts ≡ true). inl one)
    (λ (two : is_in f ps ≡ true). inr (inl two)) (or_cases (is_in f ts) (is_in f ps) (sym (any-append (is_same f) ts ps) ∙ front)))
    (λ (back : is_in f ls ≡ true). inr (inr back))
    (or_cases (is_in f (ts ++ ps)) (is_in f ls) (sym (any-append (is_same f) (ts ++ ps) ls) ∙ there))

pub in_tables : (f : FileName) (ts ps ls : List FileName) → is_in f ts ≡ true → is_in f ((ts ++ ps) ++ ls) ≡ true
in_tables f ts ps ls is =
    any-append (is_same f) (ts ++ ps) ls
    ∙ or_left (is_in f (ts ++ ps)) (is_in f ls) (any-append (is_same f) ts ps ∙ or_left (is_in f ts) (is_in f ps) is)

pub in_points : (f : FileName) (ts ps ls : List FileName) → is_in f ps ≡ true → is_in f ((ts ++ ps) ++ ls) ≡ true
in_points f ts ps ls is =
    any-append (is_same f) (ts ++ ps) ls
    ∙ or_left (is_in f (ts ++ ps)) (is_in f ls) (any-append (is_same f) ts ps ∙ or_right (is_in f ts) (is_in f ps) is)

pub in_logs : (f : FileName) (ts ps ls : List FileName) → is_in f ls ≡ true → is_in f ((ts ++ ps) ++ ls) ≡ true
in_logs f ts ps ls is = any-append (is_same f) (ts ++ ps) ls ∙ or_right (is_in f (ts ++ ps)) (is_in f ls) is

-- ---- a rotation

new_log_gains : (next_log next_table : ℕ) (ts ps ls : List FileName)
    → Gains next_log next_table ((ts ++ ps) ++ ls) ((ts ++ ps) ++ (Log next_log ∷ ls))
new_log_gains next_log next_table ts ps ls f there = ⊎_elim
    (λ (one : is_in f ts ≡ true). inl (in_tables f ts ps ls one))
    (λ (other : (is_in f ps ≡ true) ⊎ (is_in f (Log next_log ∷ ls) ≡ true)). ⊎_elim
    (λ (two : is_in f ps ≡ true). inl (in_points f ts ps ls two))
    (λ (three : is_in f (Log next_log ∷ ls) ≡ true). ⊎_elim
    (λ (here : is_same f (Log next_log) ≡ true). inr
    (λ drawn. let less : next_log < next_log = subst (IsDrawn next_log next_table) (same_file f (Log next_log) here)
    drawn in omega (arith, less)))
    (λ (later : is_in f ls ≡ true). inl (in_logs f ts ps ls later))
    (or_cases (is_same f (Log next_log)) (is_in f ls) three))
    other)
    (needed_parts f ts ps (Log next_log ∷ ls) there)

pub stocked_rotated : (l : Layout) → IsStocked l → IsStocked (rotated l)
stocked_rotated l s = record {
  unneeded = still_unneeded l.next_log l.next_table (needed l) (needed (rotated l))
      (new_log_gains l.next_log l.next_table (map table_of (tables l)) (flat_map pointed_logs (tables l))
      (map log_of (l.active ∷ l.frozen)))
      l.retired s.unneeded s.retired_drawn;
  retired_drawn =
      all_weaker (λ (r : Retired). IsDrawn l.next_log l.next_table r.file) (λ (r : Retired). IsDrawn (l.next_log + 1) l.next_table r.file)
      (λ r is. drawn_later l.next_log l.next_table (l.next_log + 1) l.next_table (omega arith) (omega arith) r.file is)
      l.retired s.retired_drawn;
  pinned =
      subst (λ (rs : List Retired). AllByRecursion (IsPinned (l.epoch + 1) rs) (pins l))
      (nothing_more l.retired) (later_pins l s [] tt (pins l) s.pinned);
  tables_drawn = s.tables_drawn;
  logs_drawn = (
    omega arith,
    all_weaker (λ (x : Segment). x.number < l.next_log) (λ (x : Segment). x.number < l.next_log + 1)
        (λ x less. omega (arith, less)) (l.active ∷ l.frozen) s.logs_drawn,
  );
  flushed_drawn =
      all_weaker (λ (x : Segment). x.number < l.next_log) (λ (x : Segment). x.number < l.next_log + 1)
      (λ x less. omega (arith, less)) l.flushed s.flushed_drawn;
  falling = (s.logs_drawn, s.falling);
  footed = s.footed;
}

-- ---- retirement by a switch

pub tables_only : (n : ℕ) (ts : List Table) → is_in (Log n) (map table_of ts) ≡ false
tables_only n [] = refl
tables_only n (t ∷ ts) = tables_only n ts

pub is_pointed : (n : ℕ) (ts : List Table)
    → is_in (Log n) (flat_map pointed_logs ts) ≡ list_any (λ (t : Table). leads n t.points) ts
is_pointed n [] = refl
is_pointed n (t ∷ ts) =
    any-append (is_same (Log n)) (pointed_logs t) (flat_map pointed_logs ts)
    ∙ ap (λ b. b || is_in (Log n) (flat_map pointed_logs ts)) (any-map (is_same (Log n)) (λ (p : Point). Log p.segment) t.points)
    ∙ ap (λ b. leads n t.points || b) (is_pointed n ts)

none_below : (n least : ℕ) (ss : List Segment) → n < least
    → AllByRecursion (λ (s : Segment). least ≤ s.number) ss → is_in (Log n) (map log_of ss) ≡ false
none_below n least [] less all = refl
none_below n least (s ∷ ss) less all =
    let apart : (n == s.number) ≡ false = let low = all.0 in grind (arith, nat_tests, low, less) in
    neither (n == s.number) (is_in (Log n) (map log_of ss)) apart (none_below n least ss less all.1)

pub not_in : (f : FileName) (ts ps ls : List FileName) → is_in f ts ≡ false → is_in f ps ≡ false → is_in f ls ≡ false
    → is_in f ((ts ++ ps) ++ ls) ≡ false
not_in f ts ps ls a b c =
    any-append (is_same f) (ts ++ ps) ls
    ∙ neither (is_in f (ts ++ ps)) (is_in f ls) (any-append (is_same f) ts ps ∙ neither (is_in f ts) (is_in f ps) a b) c

idle_unneeded : (l : Layout) → AllByRecursion IsFooted (tables l) → IsFalling (l.active ∷ l.frozen)
    → (s : Segment) → is_idle l s ≡ true → is_in (log_of s) (needed l) ≡ false
idle_unneeded l footed falling s idle =
    let both = and_parts (nat_lt s.number (head l)) (live_bytes (tables l) s.number == 0) idle in
    let below : s.number < head l = grind (arith, nat_tests, both.0) in
    let none : live_bytes (tables l) s.number ≡ 0 = grind (arith, nat_tests, both.1) in
    not_in (log_of s) (map table_of (tables l)) (flat_map pointed_logs (tables l)) (map log_of (l.active ∷ l.frozen))
    (tables_only s.number (tables l))
    (is_pointed s.number (tables l) ∙ none_live s.number (tables l) footed none)
    (none_below s.number (head l) (l.active ∷ l.frozen) below (head_least l falling))

all_put : (P : Segment → Type 0) (s : Segment) (ss : List Segment) → P s → AllByRecursion P ss
    → AllByRecursion P (put_segment s ss)
all_put P s [] here all = (here, tt)
all_put P s (t ∷ ts) here all = elim (nat_cmp s.number t.number) as
    (λ r. AllByRecursion P (by_order r (s ∷ t ∷ ts) (s ∷ ts) (t ∷ put_segment s ts))) [
      | Less ↦ (here, all)
      | Equal ↦ (here, all.1)
      | Greater ↦ (all.0, all_put P s ts here all.1)
    ]

pub all_rising : (P : Segment → Type 0) (ss : List Segment) → AllByRecursion P ss → AllByRecursion P (rising ss)
all_rising P [] all = tt
all_rising P (s ∷ ss) all = all_put P s (rising ss) all.0 (all_rising P ss all.1)

both_all : {X : Type 0} (P Q : X → Type 0) (xs : List X) → AllByRecursion P xs → AllByRecursion Q xs
    → AllByRecursion (λ (x : X). P x × Q x) xs
both_all P Q [] a b = tt
both_all P Q (x ∷ xs) a b = ((a.0, b.0), both_all P Q xs a.1 b.1)

module _ (l : Layout) (s : IsStocked l) (dropped : List Table)
    (early : AllByRecursion (λ (p : Pin). p.epoch < l.epoch) (pins l))
    (free : AllByRecursion (λ (t : Table). (is_in (table_of t) (needed l) ≡ false) × (t.number < l.next_table)) dropped) where
  R : Retired → Type 0
  R r = IsUnneeded (needed l) r × (IsDrawn l.next_log l.next_table r.file × (r.epoch ≡ l.epoch))

  fresh : List Retired
  fresh =
      map (retired_at l.epoch) (map table_of dropped ++ map log_of (rising (filter (is_idle l) l.flushed)))

  idle_logs : AllByRecursion (λ (x : Segment). (is_in (log_of x) (needed l) ≡ false) × (x.number < l.next_log))
      (rising (filter (is_idle l) l.flushed))
  idle_logs =
      all_rising (λ (x : Segment). (is_in (log_of x) (needed l) ≡ false) × (x.number < l.next_log)) (filter (is_idle l) l.flushed)
      (all_passed (λ (x : Segment). x.number < l.next_log)
      (λ (x : Segment). (is_in (log_of x) (needed l) ≡ false) × (x.number < l.next_log)) (is_idle l)
      (λ x drawn idle. (idle_unneeded l s.footed s.falling x idle, drawn)) l.flushed s.flushed_drawn)

  fresh_are : AllByRecursion
      (λ (r : Retired). IsUnneeded (needed l) r × (IsDrawn l.next_log l.next_table r.file × (r.epoch ≡ l.epoch)))
      (map (retired_at l.epoch) (map table_of dropped ++ map log_of (rising (filter (is_idle l) l.flushed))))
  fresh_are =
      let Q : Retired → Type 0 =
      λ r. IsUnneeded (needed l) r × (IsDrawn l.next_log l.next_table r.file × (r.epoch ≡ l.epoch)) in
      all_mapped Q (retired_at l.epoch) (map table_of dropped ++ map log_of (rising (filter (is_idle l) l.flushed)))
      (all_both (λ (f : FileName). Q (retired_at l.epoch f)) (map table_of dropped)
      (map log_of (rising (filter (is_idle l) l.flushed)))
      (all_mapped (λ (f : FileName). Q (retired_at l.epoch f)) table_of dropped
      (all_weaker (λ (t : Table). (is_in (table_of t) (needed l) ≡ false) × (t.number < l.next_table))
      (λ (t : Table). Q (retired_at l.epoch (table_of t))) (λ t is. (is.0, (is.1, refl))) dropped free))
      (all_mapped (λ (f : FileName). Q (retired_at l.epoch f)) log_of (rising (filter (is_idle l) l.flushed))
      (all_weaker (λ (x : Segment). (is_in (log_of x) (needed l) ≡ false) × (x.number < l.next_log))
      (λ (x : Segment). Q (retired_at l.epoch (log_of x))) (λ x is. (is.0, (is.1, refl)))
      (rising (filter (is_idle l) l.flushed)) idle_logs)))

  pub stocked_switched : IsStocked (switched dropped l)
  stocked_switched =
      let Q : Retired → Type 0 =
      λ r. IsUnneeded (needed l) r × (IsDrawn l.next_log l.next_table r.file × (r.epoch ≡ l.epoch)) in
      let new : List Retired =
      map (retired_at l.epoch) (map table_of dropped ++ map log_of (rising (filter (is_idle l) l.flushed))) in
      record {
        unneeded =
            all_both (IsUnneeded (needed l)) l.retired new s.unneeded (all_weaker Q (IsUnneeded (needed l)) (λ r is. is.0) new fresh_are);
        retired_drawn =
            all_both (λ (r : Retired). IsDrawn l.next_log l.next_table r.file) l.retired new s.retired_drawn
            (all_weaker Q (λ (r : Retired). IsDrawn l.next_log l.next_table r.file) (λ r is. is.1.0) new fresh_are);
        pinned =
            all_weaker (λ (p : Pin). IsPinned l.epoch l.retired p × (p.epoch < l.epoch))
            (IsPinned l.epoch (l.retired ++ new))
            (λ p is. record {
              old = is.0.old;
              off =
                  all_both (IsOff p) l.retired new is.0.off
                  (all_weaker Q (IsOff p) (λ r at. let less = is.1 in let here = at.1.1 in inl
                  (omega (arith, less, here))) new fresh_are);
            })
            (pins l) (both_all (IsPinned l.epoch l.retired) (λ (p : Pin). p.epoch < l.epoch)
            (pins l) s.pinned early);
        tables_drawn = s.tables_drawn;
        logs_drawn = s.logs_drawn;
        flushed_drawn =
            all_filtered (λ (x : Segment). x.number < l.next_log) (λ (x : Segment). not (is_idle l x)) l.flushed s.flushed_drawn;
        falling = s.falling;
        footed = s.footed;
      }
