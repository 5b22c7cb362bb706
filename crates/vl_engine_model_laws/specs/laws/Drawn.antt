-- What is pointed into and what pins need was drawn: each ruling keeps that.
use Rattle.std.proofs.Common.{◌≡◌, ℕ, ◌+◌, ◌≤◌, ◌<◌, true, false, cond, not, List, [], ◌∷◌, ◌++◌, map, refl, ap, sym, ◌∙◌, subst, arith}
use Rattle.std.specs.Prelude.{Option, Some, None, nat_le, ◌==◌}
use Rattle.std.specs.List.{AllByRecursion, flat_map, filter}
use Rattle.std.specs.Ordering.{nat_cmp}
use Rattle.std.specs.declared.cmp.Ordering.TheVariants.{Less, Equal, Greater}
use Rattle.vl_model.specs.Entries.{by_order}
use Rattle.vl_model.specs.Limits.{max_inline_bytes}
use Rattle.vl_model.specs.Placement.{placement, placed}
use Rattle.vl_model.specs.declared.entry.Entry.{Entry}
use Rattle.vl_model.specs.declared.entry.Body.{Body}
use Rattle.vl_model.specs.declared.entry.Body.TheVariants.{Inline, Gone, Far, Logged}
use Rattle.vl_model.specs.declared.log_frame.LogFrame.{LogFrame}
use Rattle.vl_model.specs.declared.log_frame.Moved.{Moved}
use Rattle.vl_model.specs.Cutting.{points_of}
use Rattle.vl_model.specs.declared.point.Point.{Point}
use Rattle.vl_engine_model.specs.laws.RisingLaws.{all-put_by}
use Rattle.vl_engine_model.specs.Levels.{is_among, in_front}
use Rattle.vl_engine_model.specs.Logs.{memtable}
use Rattle.vl_engine_model.specs.Ruling.{logged, ended, pin_of, switched}
use Rattle.vl_engine_model.specs.Rulings.Begin.{begun}
use Rattle.vl_engine_model.specs.Rulings.EndPass.{without_pass}
use Rattle.vl_engine_model.specs.Rulings.Flush.{flushed, flushed_table}
use Rattle.vl_engine_model.specs.Rulings.Pick.{with_pass}
use Rattle.vl_engine_model.specs.Rulings.Plan.{with_job}
use Rattle.vl_engine_model.specs.Rulings.Relocate.{with_moves, relocated}
use Rattle.vl_engine_model.specs.Rulings.Rotate.{rotated}
use Rattle.vl_engine_model.specs.Rulings.Sweep.{pins, job_pin, pass_pin, without_files}
use Rattle.vl_engine_model.specs.Sources.{needed, tables, oldest}
use Rattle.vl_engine_model.specs.declared.file_name.FileName.{FileName}
use Rattle.vl_engine_model.specs.declared.file_name.Retired.{Retired}
use Rattle.vl_engine_model.specs.declared.job.Job.{Job}
use Rattle.vl_engine_model.specs.declared.job.OpenJob.{OpenJob}
use Rattle.vl_engine_model.specs.declared.layout.Layout.{Layout}
use Rattle.vl_engine_model.specs.declared.live.Live.{Live}
use Rattle.vl_engine_model.specs.declared.live.Pin.{Pin}
use Rattle.vl_engine_model.specs.declared.segment.Segment.{Segment}
use Rattle.vl_engine_model.specs.declared.table.Table.{Table}
use Rattle.vl_engine_model_laws.specs.laws.Files.{all_weaker, all_both, all_parts, all_filtered, all_mapped, all_unmapped}
use Rattle.vl_engine_model_laws.specs.laws.Switches.{all_replaced, own_memtable, IsOwn, IsOwnAt}
use Rattle.vl_engine_model_laws.specs.laws.Streaming.{needed_drawn, lending, putting}
use Rattle.vl_engine_model_laws.specs.laws.Steps.{drawn_later}
use Rattle.vl_engine_model.specs.Stock.{PointsDrawn, IsDrawnWhole, IsDrawn, IsStocked}
use Rattle.vl_model.specs.Keys.{value_length}

-- ---- points

abbrev pub IsFarBelowAt : ℕ → Body → Type 0
IsFarBelowAt n (Inline value) = Unit {0}
IsFarBelowAt n Gone = Unit {0}
IsFarBelowAt n (Far pointer) = pointer.segment < n
IsFarBelowAt n (Logged value pointer) = Unit {0}

below_pointed : (n to bytes : ℕ) (ps : List Point) → to < n → AllByRecursion (λ (p : Point). p.segment < n) ps
    → AllByRecursion (λ (p : Point). p.segment < n) (Rattle.vl_model.specs.Cutting.pointed to bytes ps)
below_pointed n to bytes [] less all = (less, tt)
below_pointed n to bytes (p ∷ ps) less all =
    elim (nat_cmp to p.segment) as
    (λ r. AllByRecursion (λ (q : Point). q.segment < n)
    (by_order r (record { segment = to; bytes = bytes } ∷ p ∷ ps)
    (record { segment = p.segment; bytes = p.bytes + bytes } ∷ ps) (p ∷ Rattle.vl_model.specs.Cutting.pointed to bytes ps))) [
      | Less ↦ (less, all)
      | Equal ↦ all
      | Greater ↦ (all.0, below_pointed n to bytes ps less all.1)
    ]

below_with : (n : ℕ) (body : Body) (ps : List Point) → IsFarBelowAt n body
    → AllByRecursion (λ (p : Point). p.segment < n) ps
    → AllByRecursion (λ (p : Point). p.segment < n) (Rattle.vl_model.specs.Cutting.with_point body ps)
below_with n (Inline value) ps less all = all
below_with n Gone ps less all = all
below_with n (Far pointer) ps less all = below_pointed n pointer.segment pointer.length ps less all
below_with n (Logged value pointer) ps less all = all

below_points : (n : ℕ) (es : List Entry) → AllByRecursion (λ (e : Entry). IsFarBelowAt n e.body) es
    → AllByRecursion (λ (p : Point). p.segment < n) (points_of es)
below_points n [] all = tt
below_points n (e ∷ es) all = below_with n e.body (points_of es) all.0 (below_points n es all.1)

placed_below : (n number : ℕ) → number < n → (b : Body) → IsOwnAt number b → IsFarBelowAt n (placement b)
placed_below n number less (Inline value) own = tt
placed_below n number less Gone own = tt
placed_below n number less (Far pointer) own = absurd own
placed_below n number less (Logged value pointer) own =
    elim (nat_le (value_length value) max_inline_bytes) as (λ t. IsFarBelowAt n (cond t (Inline value) (Far pointer))) [
      | true ↦ tt
      | false ↦ (let same = own.0 in omega (arith, less, same))
    ]

all_placed_below : (n number : ℕ) → number < n → (es : List Entry) → AllByRecursion (IsOwn number) es
    → AllByRecursion (λ (e : Entry). IsFarBelowAt n e.body) (map placed es)
all_placed_below n number less [] own = tt
all_placed_below n number less (e ∷ es) own =
    (placed_below n number less e.body own.0, all_placed_below n number less es own.1)

-- ---- rulings

points_later : (a b : ℕ) → a ≤ b → (ts : List Table) → AllByRecursion (PointsDrawn a) ts
    → AllByRecursion (PointsDrawn b) ts
points_later a b le ts all =
    all_weaker (PointsDrawn a) (PointsDrawn b)
    (λ t is. all_weaker (λ (p : Point). p.segment < a) (λ (p : Point). p.segment < b)
    (λ p less. omega (arith, le, less)) t.points is) ts all

pins_later : (a b c d : ℕ) → a ≤ c → b ≤ d → (ps : List Pin)
    → AllByRecursion (λ (p : Pin). AllByRecursion (IsDrawn a b) p.needs) ps
    → AllByRecursion (λ (p : Pin). AllByRecursion (IsDrawn c d) p.needs) ps
pins_later a b c d al bl ps all =
    all_weaker (λ (p : Pin). AllByRecursion (IsDrawn a b) p.needs) (λ (p : Pin). AllByRecursion (IsDrawn c d) p.needs)
    (λ p is. all_weaker (IsDrawn a b) (IsDrawn c d) (λ f drawn. drawn_later a b c d al bl f drawn) p.needs is) ps all

module _ (l : Layout) (s : IsStocked l) (d : IsDrawnWhole l) where
  Q : Pin → Type 0
  Q p = AllByRecursion (IsDrawn l.next_log l.next_table) p.needs

  mine : AllByRecursion (IsDrawn l.next_log l.next_table) (needed l)
  mine = needed_drawn l s d.points

  split : (AllByRecursion (λ (p : Pin). AllByRecursion (IsDrawn l.next_log l.next_table) p.needs) (map (λ (x : Live). x.pin) l.live)
      × AllByRecursion (λ (p : Pin). AllByRecursion (IsDrawn l.next_log l.next_table) p.needs) (job_pin l.job))
      × AllByRecursion (λ (p : Pin). AllByRecursion (IsDrawn l.next_log l.next_table) p.needs) (pass_pin l.pass)
  split =
      let R : Pin → Type 0 = λ p. AllByRecursion (IsDrawn l.next_log l.next_table) p.needs in
      let outer = all_parts R (map (λ (x : Live). x.pin) l.live ++ job_pin l.job) (pass_pin l.pass) d.pins_drawn in
      (all_parts R (map (λ (x : Live). x.pin) l.live) (job_pin l.job) outer.0, outer.1)

  together : (live job pass : List Pin)
      → AllByRecursion (λ (p : Pin). AllByRecursion (IsDrawn l.next_log l.next_table) p.needs) live
      → AllByRecursion (λ (p : Pin). AllByRecursion (IsDrawn l.next_log l.next_table) p.needs) job
      → AllByRecursion (λ (p : Pin). AllByRecursion (IsDrawn l.next_log l.next_table) p.needs) pass
      → AllByRecursion (λ (p : Pin). AllByRecursion (IsDrawn l.next_log l.next_table) p.needs) ((live ++ job) ++ pass)
  together live job pass a b c =
      let R : Pin → Type 0 = λ p. AllByRecursion (IsDrawn l.next_log l.next_table) p.needs in
      all_both R (live ++ job) pass (all_both R live job a b) c

  pub drawn_begun : (ticket number : ℕ) → IsDrawnWhole (begun l ticket number)
  drawn_begun ticket number = record {
    points = d.points;
    pins_drawn = together (map (λ (x : Live). x.pin) (begun l ticket number).live) (job_pin l.job) (pass_pin l.pass)
        (all_mapped (λ (p : Pin). AllByRecursion (IsDrawn l.next_log l.next_table) p.needs) (λ (x : Live). x.pin)
        (begun l ticket number).live
        (all-put_by (λ (x : Live). x.ticket)
        (λ (x : Live). AllByRecursion (IsDrawn l.next_log l.next_table) x.pin.needs)
        (record { ticket = ticket; number = number; pin = pin_of l }) l.live mine
        (all_unmapped (λ (p : Pin). AllByRecursion (IsDrawn l.next_log l.next_table) p.needs) (λ (x : Live). x.pin) l.live split.0.0)))
        split.0.1 split.1;
  }

  pub drawn_ended : (ticket : ℕ) → IsDrawnWhole (ended ticket l)
  drawn_ended ticket = record {
    points = d.points;
    pins_drawn =
        together (map (λ (x : Live). x.pin) (filter (λ (x : Live). not (x.ticket == ticket)) l.live)) (job_pin l.job) (pass_pin l.pass)
        (all_mapped (λ (p : Pin). AllByRecursion (IsDrawn l.next_log l.next_table) p.needs) (λ (x : Live). x.pin)
        (filter (λ (x : Live). not (x.ticket == ticket)) l.live)
        (all_filtered (λ (x : Live). AllByRecursion (IsDrawn l.next_log l.next_table) x.pin.needs)
        (λ (x : Live). not (x.ticket == ticket)) l.live
        (all_unmapped (λ (p : Pin). AllByRecursion (IsDrawn l.next_log l.next_table) p.needs) (λ (x : Live). x.pin) l.live split.0.0)))
        split.0.1 split.1;
  }

  pub drawn_planned : (job : Job) → IsDrawnWhole (with_job job l)
  drawn_planned job = record {
    points = d.points;
    pins_drawn = together (map (λ (x : Live). x.pin) l.live) (pin_of l ∷ []) (pass_pin l.pass)
        split.0.0 (mine, tt) split.1;
  }

  pub drawn_picked : (segment : ℕ) → IsDrawnWhole (with_pass segment l)
  drawn_picked segment = record {
    points = d.points;
    pins_drawn = together (map (λ (x : Live). x.pin) l.live) (job_pin l.job) (pin_of l ∷ [])
        split.0.0 split.0.1 (mine, tt);
  }

  pub drawn_freed : IsDrawnWhole (record l { job = None })
  drawn_freed = record {
    points = d.points;
    pins_drawn = together (map (λ (x : Live). x.pin) l.live) []
        (pass_pin l.pass) split.0.0 tt split.1;
  }

  pub drawn_pass_ended : IsDrawnWhole (without_pass l)
  drawn_pass_ended = record
      { points = d.points; pins_drawn = together (map (λ (x : Live). x.pin) l.live) (job_pin l.job) [] split.0.0 split.0.1 tt }

  pub drawn_logged : (f : LogFrame) → IsDrawnWhole (logged f l)
  drawn_logged f = record { points = d.points; pins_drawn = d.pins_drawn }

  pub drawn_swept : (gone : List FileName) → IsDrawnWhole (without_files gone l)
  drawn_swept gone = record { points = d.points; pins_drawn = d.pins_drawn }

  noted_same : (number : ℕ) (moved : List Moved) (o : Option OpenJob) → job_pin (with_moves number moved o) ≡ job_pin o
  noted_same number moved None = refl
  noted_same number moved (Some job) = refl

  pub drawn_relocated : (records : List Moved) → IsDrawnWhole (relocated l records)
  drawn_relocated records = record {
    points = d.points;
    pins_drawn =
        subst (λ (ps : List Pin). AllByRecursion (λ (p : Pin). AllByRecursion (IsDrawn l.next_log l.next_table) p.needs)
        ((map (λ (x : Live). x.pin) l.live ++ ps) ++ pass_pin l.pass))
        (sym (noted_same (l.epoch + 1) records l.job)) d.pins_drawn;
  }

  pub drawn_rotated : IsDrawnWhole (rotated l)
  drawn_rotated = record {
    points = points_later l.next_log (l.next_log + 1) (omega arith) (tables l) d.points;
    pins_drawn =
        pins_later l.next_log l.next_table (l.next_log + 1) l.next_table (omega arith) (omega arith) (pins l) d.pins_drawn;
  }

  pub drawn_lent : IsDrawnWhole (lending l)
  drawn_lent = record {
    points = d.points;
    pins_drawn = pins_later l.next_log l.next_table l.next_log (l.next_table + 1)
        (omega arith) (omega arith) (pins l) d.pins_drawn;
  }

  pub drawn_flushed : (x : Segment) (level : List Table) (deeper : List (List Table))
      → oldest l.frozen ≡ Some x → l.levels ≡ level ∷ deeper
      → IsDrawnWhole (flushed l x)
  drawn_flushed x level deeper waits are = record {
    points =
        let t = flushed_table l x in
        let new : flat_map (λ ts. ts) (in_front t l.levels) ≡ t ∷ tables l =
        ap (λ (levels : List (List Table)). flat_map (λ ts. ts) (in_front t levels)) are
        ∙ ap (λ (levels : List (List Table)). t ∷ flat_map (λ ts. ts) levels) (sym are) in
        subst (AllByRecursion (PointsDrawn l.next_log)) (sym new) (
          below_points l.next_log (map placed (memtable x))
              (all_placed_below l.next_log x.number (of_oldest l.frozen x waits s.logs_drawn.1) (memtable x) (own_memtable x)),
          d.points,
        );
    pins_drawn =
        pins_later l.next_log l.next_table l.next_log (l.next_table + 1) (omega arith) (omega arith) (pins l) d.pins_drawn;
  }
    where
      of_oldest : (ss : List Segment) (y : Segment) → oldest ss ≡ Some y
          → AllByRecursion (λ (z : Segment). z.number < l.next_log) ss → y.number < l.next_log
      of_oldest [] y is all = absurd cc
      of_oldest (t ∷ []) y is all = subst (λ (z : Segment). z.number < l.next_log) (the_one t y is) all.0
        where
          the_one : (a b : Segment) → Some a ≡ Some b → a ≡ b
          the_one a b e = cc
      of_oldest (t ∷ u ∷ us) y is all = of_oldest (u ∷ us) y is all.1

  pub drawn_put : (job : Job) (made : List Table) (rest : List Retired) → AllByRecursion (PointsDrawn l.next_log) made
      → IsDrawnWhole (switched (filter (is_among job.inputs) (tables l)) (putting l job made rest))
  drawn_put job made rest below = record {
    points = all_replaced (PointsDrawn l.next_log) job.inputs made below job.target l.levels
        (all_weaker (PointsDrawn l.next_log) (λ (t : Table). is_among job.inputs t ≡ false → PointsDrawn l.next_log t)
        (λ t is out. is) (tables l) d.points);
    pins_drawn = together (map (λ (x : Live). x.pin) l.live) [] (pass_pin l.pass) split.0.0 tt split.1;
  }
