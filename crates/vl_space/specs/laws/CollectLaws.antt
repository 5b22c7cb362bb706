-- What is kept of where space comes back from, over a version, over layouts that are alike, and where nothing changes it.
use Rattle.std.specs.Prelude.{◌≡◌, ℕ, ◌+◌, true, length, List, ◌++◌, Option, None, Some}
use Rattle.std.specs.Prelude.{Result, Ok, Err, OnErr, refl}
use Rattle.std.specs.List.{AllByRecursion, filter}
use Rattle.std.specs.Option.{option_map}
use Rattle.std.proofs.Common.{sym, ap, subst, ◌∙◌}
use Rattle.vl_model.specs.declared.point.Point.{Point}
use Rattle.vl_engine_laws.specs.Files.{IsLogFile}
use Rattle.vl_engine_laws.specs.Represents.{StandsFor}
use Rattle.vl_engine_laws.specs.declared.kept.Core.{Core}
use Rattle.vl_engine_laws.specs.laws.LaidTables.{tables_are}
use Rattle.vl_engine_laws.specs.laws.NeededLogs.{head_there}
use Rattle.vl_space.specs.laws.Tallying.{inputs_held, lengths_held, points_held}
use Rattle.vl_space.specs.Collecting.{AreSealed, Collects, IsReadied, IsTallied, Keeps, LeadsFrom, Tallies}
use Rattle.vl_space.specs.Collecting.{head_in, lengths_in, points_in}
use Rattle.vl_space.specs.declared.kept.Collecting.{Collecting}
use Rattle.vl_engine_model.specs.Levels.{is_among}
use Rattle.vl_engine_model.specs.Sources.{head, rising, tables}
use Rattle.vl_engine_model.specs.Tidy.{log_numbers, sealed}
use Rattle.vl_engine_model.specs.declared.job.OpenPass.{OpenPass}
use Rattle.vl_engine_model.specs.declared.layout.Layout.{Layout}
use Rattle.vl_engine_model.specs.declared.segment.Segment.{Segment}
use Rattle.vl_engine_model.specs.declared.table.Table as laid
use Rattle.vl_model.specs.History.{History}
use Rattle.vl_model.specs.Numbers.{has}
use Rattle.vl_seglog.specs.declared.sealed.SealedLog.{SealedLog}
use Rattle.vl_stats.specs.Live.{AreOf, Switches, points_of_tables}
use Rattle.vl_stats.specs.Tallies.{IsTally, Tallied, lengths_of}
use Rattle.vl_version.specs.Bases.{is_input}
use Rattle.vl_version.specs.Sources.{tables_in}

-- ---- what a version says

module _ {H : Type 0} (bytes : H → Option (List ℕ)) (core : Core H) (h : History) (l : Layout) (is : StandsFor bytes core h l) where
  pub points_are_laid : points_in (tables_in core.version) ≡ points_of_tables (tables l)
  points_are_laid = points_held bytes (tables_in core.version) (tables l) (tables_are bytes core.version l is.has) is.tidy.true_tables

  pub inputs_are_laid : (ns : List ℕ)
      → points_in (filter (is_input ns) (tables_in core.version)) ≡ points_of_tables (filter (is_among ns) (tables l))
  inputs_are_laid ns =
      inputs_held bytes ns (tables_in core.version) (tables l) (tables_are bytes core.version l is.has) is.tidy.true_tables

  pub lengths_are_laid : (size : H → ℕ) → ((held : H) (told : List ℕ) → bytes held ≡ Some told → length told ≡ size held)
      → AreSealed core.version.behind.logs.items l
      → lengths_in size core.version.behind.logs.items ≡ lengths_of (rising (sealed l))
  lengths_are_laid size sized are =
      lengths_held bytes size sized core.version.behind.logs.items (sealed l) is.has.told.rising is.tidy.distinct.1
      is.tidy.true_logs.1 is.has.logs are

  pub head_is_laid : head_in core ≡ head l
  head_is_laid = head_there l.active core.front.log.number is.fronts.number core.version.behind.frozen.items l.frozen is.has.frozen

-- ---- layouts of the same logs, tables and pass

pub record IsAlike (l x : Layout) : Type 0 where
  pub frozen : x.frozen ≡ l.frozen
  pub flushed : x.flushed ≡ l.flushed
  pub levels : x.levels ≡ l.levels
  pub pass : x.pass ≡ l.pass

pub alike_same : (l : Layout) → IsAlike l l
alike_same l = record { frozen = refl; flushed = refl; levels = refl; pass = refl }

pub alike_then : (l m n : Layout) → IsAlike l m → IsAlike m n → IsAlike l n
alike_then l m n a b = record {
  frozen = b.frozen ∙ a.frozen;
  flushed = b.flushed ∙ a.flushed;
  levels = b.levels ∙ a.levels;
  pass = b.pass ∙ a.pass;
}

tally_alike : (tally : Tallied) (l x : Layout) → x.frozen ≡ l.frozen → x.flushed ≡ l.flushed → x.levels ≡ l.levels
    → IsTally tally l → IsTally tally x
tally_alike tally l x frozen flushed levels is = record {
  logs = is.logs
      ∙ ap (λ (ss : List Segment). lengths_of (rising (ss ++ l.flushed))) (sym frozen)
      ∙ ap (λ (ss : List Segment). lengths_of (rising (x.frozen ++ ss))) (sym flushed);
  live = subst (λ (ts : List laid.Table). AreOf ts tally.live)
      (ap (λ (ls : List (List laid.Table)). tables (record l { levels = ls })) (sym levels)) is.live;
}

pub tallies_alike : {H : Type 0} (logs : List (SealedLog H)) (kept : Option Tallied) (l x : Layout) → x.frozen ≡ l.frozen
    → x.flushed ≡ l.flushed → x.levels ≡ l.levels → Tallies logs kept l → Tallies logs kept x
tallies_alike {H} logs None l x frozen flushed levels is =
    subst (λ (ss : List Segment). AllByRecursion (λ (log : SealedLog H). has log.number (log_numbers ss) ≡ true) logs)
    (ap (λ (ss : List Segment). ss ++ l.flushed) (sym frozen) ∙ ap (λ (ss : List Segment). x.frozen ++ ss) (sym flushed)) is
tallies_alike logs (Some tally) l x frozen flushed levels is = tally_alike tally l x frozen flushed levels is

pub passed_alike : (p q : Option OpenPass) → q ≡ p
    → option_map (λ (o : OpenPass). o.segment) p ≡ option_map (λ (o : OpenPass). o.segment) q
passed_alike p q same = ap (λ (o : Option OpenPass). option_map (λ (x : OpenPass). x.segment) o) (sym same)

pub collects_alike : {H : Type 0} (core : Core H) (kept : Collecting) (l x : Layout) → IsAlike l x → Collects core kept l
    → Collects core kept x
collects_alike core kept l x alike is = record {
  tally = tallies_alike core.version.behind.logs.items kept.tally l x alike.frozen alike.flushed alike.levels is.tally;
  passing = is.passing ∙ passed_alike l.pass x.pass alike.pass;
  readable = subst (AllByRecursion IsLogFile) (sym alike.flushed) is.readable;
}

-- What is kept stays the layout's in memory where its logs stay.
pub collects_kept : {H : Type 0} (bytes : H → Option (List ℕ)) (before after : Core H) (old new : Collecting) (h : History) (l : Layout)
    → StandsFor bytes before h l → after.version.behind.logs.items ≡ before.version.behind.logs.items → Keeps bytes before old new
    → Collects before old l → Collects after new l
collects_kept {H} bytes before after old new h l is logs keeps has = record {
  tally = subst (λ (ls : List (SealedLog H)). Tallies ls new.tally l) (sym logs) (keeps.tallies h l is has.tally);
  passing = keeps.passing ∙ has.passing;
  readable = has.readable;
}

-- where nothing changes
pub collects_same : {H : Type 0} (before after : Core H) (old new : Collecting) (l : Layout)
    → after.version.behind.logs.items ≡ before.version.behind.logs.items → new ≡ old → Collects before old l → Collects after new l
collects_same {H} before after old new l logs same has = record {
  tally = subst (λ (ls : List (SealedLog H)). Tallies ls new.tally l) (sym logs)
      (subst (λ (c : Collecting). Tallies before.version.behind.logs.items c.tally l) (sym same) has.tally);
  passing = ap (λ (c : Collecting). c.passing) same ∙ has.passing;
  readable = has.readable;
}

-- what is made is
pub tallies_made : {H : Type 0} (logs : List (SealedLog H)) (kept : Option Tallied) (l : Layout) → IsTallied kept l → Tallies logs kept l
tallies_made logs None l is = absurd is
tallies_made logs (Some tally) l is = is

-- it keeps what is kept
pub keeps_readied : {H : Type 0} (bytes : H → Option (List ℕ)) (core : Core H) (old new : Collecting) → IsReadied bytes core old new
    → Keeps bytes core old new
keeps_readied bytes core old new is = record {
  passing = is.passing;
  tallies = λ h l stands has. tallies_made core.version.behind.logs.items new.tally l (is.tallied h l stands has);
}

pub keeps_same : {H : Type 0} (bytes : H → Option (List ℕ)) (core : Core H) (old new : Collecting) → new ≡ old
    → Keeps bytes core old new
keeps_same bytes core old new same = subst (Keeps bytes core old) (sym same) (record { passing = refl; tallies = λ h l stands has. has })

-- where room was made for a log more
pub keeps_reserved : {H : Type 0} (bytes : H → Option (List ℕ)) (core : Core H) (old mid : Collecting) (t u : Tallied)
    → IsReadied bytes core old mid → mid.tally ≡ Some t → u.logs ≡ t.logs → u.live ≡ t.live
    → Keeps bytes core old (record { passing = mid.passing; tally = Some u })
keeps_reserved bytes core old mid t u is made logs live = record {
  passing = is.passing;
  tallies = λ h l stands has.
      let was = subst (λ (o : Option Tallied). IsTallied o l) made (is.tallied h l stands has) in
      record { logs = logs ∙ was.logs; live = subst (AreOf (tables l)) (sym live) was.live };
}

-- what is led to is the same by other names of what comes and goes
pub leads_same : (kept : Option Tallied) (live : List (ℕ × ℕ)) (a b x y : List (List Point)) → a ≡ x → b ≡ y
    → LeadsFrom kept live a b → LeadsFrom kept live x y
leads_same kept live a b x y first second is =
    subst (λ (ps : List (List Point)). LeadsFrom kept live ps y) first (subst (LeadsFrom kept live a) second is)

pub leads_some : (kept : Option Tallied) (t : Tallied) (live : List (ℕ × ℕ)) (a b : List (List Point)) → kept ≡ Some t
    → Switches t.live live a b → LeadsFrom kept live a b
leads_some kept t live a b some is u same = subst (λ (x : Tallied). Switches x.live live a b) one is
  where
    one : t ≡ u
    one = cc

pub on_err : {X Y : Type 0} (r : Result X Y) (P : Type 0) → P → OnErr r P
on_err (Ok x) P is = tt
on_err (Err y) P is = is
