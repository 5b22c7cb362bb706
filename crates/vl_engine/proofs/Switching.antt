-- What is kept of live bytes behind a flush and an install.
use Rattle.std.specs.Prelude.{◌≡◌, ℕ, Bool, true, false, not, if◌then◌else◌, List, [], ◌∷◌, ◌++◌, map, Option, None}
use Rattle.std.specs.Prelude.{Some, IsSome, Result, Ok, Err, refl}
use Rattle.std.specs.Arc.{arc_value}
use Rattle.std.specs.List.{AllZip, filter, flat_map}
use Rattle.std.proofs.Common.{sym, ap, subst, ◌∙◌}
use Rattle.vl_model.specs.Cutting.{points_of}
use Rattle.vl_table.specs.body.Footer.{Foot}
use Rattle.vl_model.specs.declared.point.Point.{Point}
use Rattle.vl_compact.specs.Laid as compact
use Rattle.vl_compact.specs.Progress.{IsTableFile, made_of}
use Rattle.vl_compact.specs.declared.files.Synced.{Synced}
use Rattle.vl_compact.specs.declared.job.Job.{Job}
use Rattle.vl_engine_laws.specs.Laid.{IsTableOf}
use Rattle.vl_engine_laws.specs.Pointed.{layout_logs}
use Rattle.vl_engine_laws.specs.Files.{IsLogFile}
use Rattle.vl_engine_laws.specs.Passing.{AreReadable}
use Rattle.vl_engine_laws.specs.Represents.{StandsFor}
use Rattle.vl_engine_laws.specs.declared.kept.Core.{Core}
use Rattle.vl_engine_laws.specs.laws.FileLaws.{all_filtered}
use Rattle.vl_engine_laws.specs.laws.LaidTables.{tables_are}
use Rattle.vl_disk.specs.declared.writer.Writer.{Ghosts as Writers}
use Rattle.vl_space.specs.laws.CollectLaws.{IsAlike, collects_alike, collects_kept, collects_same}
use Rattle.vl_engine.proofs.Collected.{decides_too, flush_by}
use Rattle.vl_space.specs.laws.CollectLaws.{head_is_laid, inputs_are_laid, passed_alike, tallies_made}
use Rattle.vl_space.specs.laws.Tallying.{points_are}
use Rattle.vl_space.specs.Collecting.{Collects, IsReadied, IsTallied, LeadsFrom, Tallies}
use Rattle.vl_engine.specs.Space.{HasFlushed, HasPutIn, InstallsFor}
use Rattle.vl_space.specs.Collecting.{head_in, passed_in, points_in, points_made}
use Rattle.vl_steps.specs.Installing.{InstallsCore, install_otherwise}
use Rattle.vl_steps.specs.Merging.{HasAllMerge, install_outcome}
use Rattle.vl_steps.specs.declared.fails.InstallFail.TheVariants as fails
use Rattle.vl_steps.specs.declared.fails.InstallFail.{InstallFail}
use Rattle.vl_space.specs.declared.kept.Collecting.{Collecting}
use Rattle.vl_engine_model.specs.Decides.{Answered, Damaged, Decides, Effects, Failed, NoMemory}
use Rattle.vl_engine_model.specs.Jobs.{Made, tables_made}
use Rattle.vl_engine_model.specs.Levels.{in_front, is_among}
use Rattle.vl_engine_model.specs.Ruling.{Ruling, StepAnswer, Stepped, halted_at, has_no_epoch, is_idle, leaving}
use Rattle.vl_engine_model.specs.Rulings.Flush.{flush_ruling, flushed, flushed_table}
use Rattle.vl_engine_model.specs.Rulings.Install as install
use Rattle.vl_engine_model.specs.Rulings.Install.{InstallAnswer, Installed, install_checked, install_ruling, install_unless, installed}
use Rattle.vl_engine_model.specs.Rulings.Install.{moved_since, put_in, race}
use Rattle.vl_engine_model.specs.Sources.{head, numbers_of, tables}
use Rattle.vl_engine_model.specs.Tidy.{IsTidy, IsTrueTable}
use Rattle.vl_engine_model.specs.declared.file_name.FileName.{FileName}
use Rattle.vl_engine_model.specs.declared.job.Job as laid_job
use Rattle.vl_engine_model.specs.declared.job.OpenJob.{OpenJob}
use Rattle.vl_engine_model.specs.declared.layout.Layout.{Layout}
use Rattle.vl_engine_model.specs.declared.segment.Segment.{Segment}
use Rattle.vl_engine_model.specs.declared.table.Table as laid
use Rattle.vl_model.specs.Conflicts.{Named}
use Rattle.vl_model.specs.History.{History}
use Rattle.vl_model.specs.Winners.{Logs}
use Rattle.vl_model.specs.declared.counter.Counter.TheVariants as counters
use Rattle.vl_model.specs.declared.entry.Entry.{Entry}
use Rattle.vl_engine_model.specs.Jobs.{job_ended}
use Rattle.vl_stats.specs.Live.{AreOf, IsSwitch, points_of_tables}
use Rattle.vl_stats.specs.Tallies.{IsOfLayout, Tallied}
use Rattle.vl_stats.specs.laws.RulingLaws.{switch_flushed, switch_installed}
use Rattle.vl_table.specs.Tables.{number_of}
use Rattle.vl_table.specs.declared.table.Table.{Table}
use Rattle.vl_version.specs.Bases.{is_input}
use Rattle.vl_version.specs.Sources.{tables_in}
use Rattle.vl_version.specs.declared.base.Base.{Base}
use Rattle.vl_version.specs.declared.version.Version.{Version}

-- ---- live bytes

leads_to : (l : Layout) (came gone after : List laid.Table) (kept : Option Tallied) (live : List (ℕ × ℕ))
    (added dropped : List (List Point))
    → IsTallied kept l → LeadsFrom kept live added dropped → added ≡ points_of_tables came → dropped ≡ points_of_tables gone
    → IsSwitch (tables l) came gone after → AreOf after live
leads_to l came gone after None live added dropped is leads first second switch = absurd is
leads_to l came gone after (Some t) live added dropped is leads first second switch =
    leads t refl (tables l) came gone after is.live first second switch

-- ---- a flush

flushed_points : {H : Type 0} (bytes : H → Option (List ℕ)) (ls : List (List laid.Table)) (t : laid.Table) (table : Table H)
    (rest : List (Table H)) → AllZip (IsTableOf bytes) (table ∷ rest) (flat_map (λ level. level) (in_front t ls)) → IsTrueTable t
    → points_in (table ∷ []) ≡ points_of_tables (t ∷ [])
flushed_points bytes [] t table rest zip true_table = absurd zip
flushed_points bytes (l ∷ ls) t table rest zip true_table =
    ap (λ (p : List Point). p ∷ []) (points_are bytes table t zip.0 true_table)

flush_layout : (l : Layout) (h : History) (n : ℕ) → (flush_ruling l h).answer ≡ Stepped n
    → (s : Segment) × ((flush_ruling l h).layout ≡ flushed l s)
flush_layout l h n = flush_by l h (λ r. r.answer ≡ Stepped n → (s : Segment) × (r.layout ≡ flushed l s))
    (λ a no stepped. absurd (no n stepped)) (λ s runs at stepped. (s, refl))

pub has_flushed : {H : Type 0} (bytes : H → Option (List ℕ)) (before after : Core H) (was mid now : Collecting) (table : Table H)
    (rest : List (Table H)) (live : List (ℕ × ℕ)) (n : ℕ) → IsReadied bytes before was mid
    → LeadsFrom mid.tally live (points_in (table ∷ [])) [] → tables_in after.version ≡ table ∷ rest → n ≡ head_in after
    → now.passing ≡ mid.passing
    → ((logs : Logs) (l : Layout) (h : History) (k : ℕ) → IsTidy logs l h → IsTallied mid.tally l
    → (flush_ruling l h).answer ≡ Stepped k → IsOfLayout live n (flush_ruling l h).layout → IsTallied now.tally (flush_ruling l h).layout)
    → HasFlushed bytes before was now after
has_flushed {H} bytes before after was mid now table rest live n readied leads front number passing switch = record {
  passing = passing ∙ readied.passing;
  tallied = λ h l k is has stepped after_is.
      let tallied = readied.tallied h l is has in
      let (s, same) = flush_layout l h k stepped in
      switch (layout_logs l) l h k is.tidy tallied stepped (record {
        live_is = subst (λ (x : Layout). AreOf (tables x) live) (sym same)
            (leads_to l (flushed_table l s ∷ []) [] (tables (flushed l s)) mid.tally live (points_in (table ∷ [])) [] tallied leads
            (flushed_points bytes l.levels (flushed_table l s) table rest
            (subst (λ (ts : List (Table H)). AllZip (IsTableOf bytes) ts (tables (flushed l s))) front
            (subst (λ (x : Layout). AllZip (IsTableOf bytes) (tables_in after.version) (tables x)) same
            (tables_are bytes after.version (flush_ruling l h).layout after_is.has))) refl)
            refl (switch_flushed (layout_logs l) l h s is.tidy));
        head_is = number ∙ head_is_laid bytes after h (flush_ruling l h).layout after_is;
      });
}

-- ---- an install

-- an install leaves the layout with its tables put in, or with the merge given up
pub install_by : (l : Layout) (h : History) (job : laid_job.Job) (made : Made) (P : Ruling InstallAnswer → Type 0)
    → ((a : InstallAnswer) → (a ≡ Installed → ⊥) → P (leaving a h (job_ended made l)))
    → P (record { answer = Installed; history = h; layout = installed job made l; calls = 2; gone = [] })
    → P (install_ruling l h job made)
install_by l h job made P left put = by l.halted
  where
    versioned : (b : Bool) → P (if b then leaving (install.Exhausted counters.Version) h (job_ended made l)
        else record { answer = Installed; history = h; layout = installed job made l; calls = 2; gone = [] })
    versioned true = left (install.Exhausted counters.Version) (λ e. cc)
    versioned false = put

    checked : (o : Option Named) → P (install_checked l h job made o)
    checked None = versioned (has_no_epoch l)
    checked (Some named) = left (install.Raced named.0 named.1) (λ e. cc)

    by : (o : Option FileName) → P (install_unless o l h job made)
    by None = checked (race job (moved_since l.job))
    by (Some name) = left (install.Halted name) (λ e. cc)

pub install_layout : (l : Layout) (h : History) (job : laid_job.Job) (made : Made) → (install_ruling l h job made).answer ≡ Installed
    → (install_ruling l h job made).layout ≡ installed job made l
install_layout l h job made = install_by l h job made (λ r. r.answer ≡ Installed → r.layout ≡ installed job made l)
    (λ a other is. absurd (other is)) (λ is. refl)

made_points : {W : Type 0} (writers : Writers W) {g : _} (made : List (Synced W g)) (ess : List (List Entry))
    → AllZip (IsTableFile writers) made ess
    → points_made made ≡ points_of_tables (tables_made (map (λ (t : Synced W g). t.number) made) ess)
made_points writers [] [] zip = refl
made_points writers [] (es ∷ ess) zip = absurd zip
made_points writers (t ∷ made) [] zip = absurd zip
made_points {W} writers {g} (t ∷ made) (es ∷ ess) zip =
    ap (λ (p : List Point). p ∷ points_made made) (ap (λ (f : Foot). f.points) zip.0.shape.foot)
    ∙ ap (λ (ps : List (List Point)). points_of es ∷ ps) (made_points writers made ess zip.1)

pub numbers_zip : {H : Type 0} (bytes : H → Option (List ℕ)) (ts : List (Table H)) (us : List laid.Table) → compact.AreTablesOf bytes ts us
    → map number_of ts ≡ numbers_of us
numbers_zip bytes [] [] zip = refl
numbers_zip bytes [] (u ∷ us) zip = absurd zip
numbers_zip bytes (t ∷ ts) [] zip = absurd zip
numbers_zip bytes (t ∷ ts) (u ∷ us) zip =
    ap (λ (n : ℕ). n ∷ map number_of ts) zip.0.number ∙ ap (λ (ns : List ℕ). u.number ∷ ns) (numbers_zip bytes ts us zip.1)

pub has_put_in : {H R W : Type 0} (bytes : H → Option (List ℕ)) (writers : Writers W) {g : _} (job : Job (Base H R) H W g)
    (before after : Core H) (was mid now : Collecting) (live : List (ℕ × ℕ)) (n : ℕ) → IsReadied bytes before was mid
    → LeadsFrom mid.tally live (points_made job.made.items)
    (points_in (filter (is_input (map number_of job.inputs.tables.items)) (tables_in before.version)))
    → n ≡ head_in after → now.passing ≡ mid.passing
    → ((logs : Logs) (l : Layout) (h : History) (j : laid_job.Job) (made : Made) → IsTidy logs l h → IsTallied mid.tally l
    → (install_ruling l h j made).answer ≡ Installed → IsOfLayout live n (install_ruling l h j made).layout
    → IsTallied now.tally (install_ruling l h j made).layout)
    → HasPutIn bytes before was now writers job after
has_put_in {H} {R} {W} bytes writers {g} job before after was mid now live n readied leads number passing switch = record {
  passing = passing ∙ readied.passing;
  tallied = λ h l o is open_is all has answered after_is.
      let tallied = readied.tallied h l is has in
      let made = made_of job o.job in
      let same = install_layout l h o.job made answered in
      switch (layout_logs l) l h o.job made is.tidy tallied answered (record {
        live_is = subst (λ (x : Layout). AreOf (tables x) live) (sym same)
            (leads_to l made.tables (filter (is_among o.job.inputs) (tables l)) (tables (installed o.job made l)) mid.tally live
            (points_made job.made.items)
            (points_in (filter (is_input (map number_of job.inputs.tables.items)) (tables_in before.version))) tallied leads
            (made_points writers job.made.items _ all.made)
            (ap (λ (ns : List ℕ). points_in (filter (is_input ns) (tables_in before.version)))
            (numbers_zip bytes job.inputs.tables.items all.is.tables all.is.inputs ∙ sym all.is.numbers)
            ∙ inputs_are_laid bytes before h l is o.job.inputs)
            (switch_installed (layout_logs l) l h o made is.tidy open_is));
        head_is = number ∙ head_is_laid bytes after h (install_ruling l h o.job made).layout after_is;
      });
}

-- ---- what an install came to

install_alike : (l : Layout) (h : History) (job : laid_job.Job) (made : Made)
    → ((install_ruling l h job made).answer ≡ Installed → ⊥) → IsAlike l (install_ruling l h job made).layout
install_alike l h job made = install_by l h job made (λ r. (r.answer ≡ Installed → ⊥) → IsAlike l r.layout)
    (λ a other no. record { frozen = refl; flushed = refl; levels = refl; pass = refl }) (λ no. absurd (no refl))

install_pass : (l : Layout) (h : History) (job : laid_job.Job) (made : Made) → (install_ruling l h job made).layout.pass ≡ l.pass
install_pass l h job made = install_by l h job made (λ r. r.layout.pass ≡ l.pass) (λ a other. refl) refl

-- it may retire logs that can be read
install_readable : (l : Layout) (h : History) (job : laid_job.Job) (made : Made) → AreReadable l
    → AreReadable (install_ruling l h job made).layout
install_readable l h job made is = install_by l h job made (λ r. AreReadable r.layout) (λ a other. is)
    (all_filtered IsLogFile (λ (s : Segment). not (is_idle (put_in job made l) s)) l.flushed is)

pub install_history : (l : Layout) (h : History) (job : laid_job.Job) (made : Made) → (install_ruling l h job made).history ≡ h
install_history l h job made = install_by l h job made (λ r. r.history ≡ h) (λ a other. refl) refl

module _ {H : Type 0} (core : Core H) (kept : Collecting) (S : History → Layout → Type 0) (h : History) (l : Layout)
    (job : laid_job.Job) (made : Made) (effects : Effects) where
  abbrev So : History → Layout → Type 0
  So k x = Collects core kept x

  -- it wasn't done, and what is kept is still the layout's
  pub install_left : {V W : Type 0} {g : _} → Collects core kept l → (result : Result (Unit {0}) (InstallFail V H W g))
      → (result ≡ Ok tt → ⊥)
      → Decides S h l (install_ruling l h job made) (install_otherwise l made) (install_outcome result) effects
      → Decides So h l (install_ruling l h job made) (install_otherwise l made) (install_outcome result) effects
  install_left {V} {W} {g} has result undone is =
      decides_too S So h l (install_ruling l h job made) (install_otherwise l made) (install_outcome result) effects is
      (λ a same answer. collects_alike core kept l (install_ruling l h job made).layout
      (install_alike l h job made (λ put. no result undone (same ∙ ap Answered (sym answer ∙ put)))) has)
      (λ same. has)
      (λ name same. collects_alike core kept l (halted_at name (job_ended made l))
      (record { frozen = refl; flushed = refl; levels = refl; pass = refl }) has)
      (λ name place same. has)
    where
      no : (r : Result (Unit {0}) (InstallFail V H W g)) → (r ≡ Ok tt → ⊥) → install_outcome r ≡ Answered Installed → ⊥
      no (Ok done) other e = other refl
      no (Err (fails.Halted name)) other e = cc
      no (Err (fails.Raced key number)) other e = cc
      no (Err (fails.Exhausted counter)) other e = cc
      no (Err (fails.NoMemory back)) other e = cc
      no (Err (fails.Disk name)) other e = cc

  -- it was done, and what is kept is that of the layout behind it
  pub install_done : ((install_ruling l h job made).answer ≡ Installed → IsTallied kept.tally (install_ruling l h job made).layout)
      → kept.passing ≡ passed_in l → AreReadable (install_ruling l h job made).layout
      → Decides S h l (install_ruling l h job made) (install_otherwise l made) (Answered Installed) effects
      → Decides So h l (install_ruling l h job made) (install_otherwise l made) (Answered Installed) effects
  install_done tallied passing readable is =
      decides_too S So h l (install_ruling l h job made) (install_otherwise l made) (Answered Installed) effects is
      (λ a same answer. record {
        tally = tallies_made core.version.behind.logs.items kept.tally (install_ruling l h job made).layout
            (tallied (answer ∙ sym (one a same)));
        passing = passing ∙ passed_alike l.pass (install_ruling l h job made).layout.pass (install_pass l h job made);
        readable = readable;
      })
      (λ same. absurd (none same))
      (λ name same. absurd (no_fail name same))
      (λ name place same. absurd (no_damage name place same))
    where
      one : (a : InstallAnswer) → Answered Installed ≡ Answered a → Installed ≡ a
      one a e = cc

      none : Answered Installed ≡ NoMemory → ⊥
      none e = cc

      no_fail : (name : FileName) → Answered Installed ≡ Failed name → ⊥
      no_fail name e = cc

      no_damage : (name : FileName) (place : ℕ) → Answered Installed ≡ Damaged name place → ⊥
      no_damage name place e = cc

-- what failed isn't done
pub install_undone : {V H W : Type 0} {g : _} (why : InstallFail V H W g) (result : Result (Unit {0}) (InstallFail V H W g))
    → result ≡ Err why → result ≡ Ok tt → ⊥
install_undone {V} {H} {W} {g} why result is e = cc

-- the same of why it wasn't
pub install_err : {H : Type 0} (R W : Type 0) (writers : Writers W) (core : Core H) (kept : Collecting) (S : History → Layout → Type 0)
    (h : History) (l : Layout) (job : laid_job.Job) (made : Made) (effects : Effects) → Collects core kept l
    → (why : InstallFail (Base H R) H W writers)
    → Decides S h l (install_ruling l h job made) (install_otherwise l made) (install_outcome (Err why)) effects
    → Decides (λ k x. Collects core kept x) h l (install_ruling l h job made) (install_otherwise l made) (install_outcome (Err why)) effects
install_err R W writers core kept S h l job made effects has why is =
    install_left core kept S h l job made effects has (Err why) (install_undone why (Err why) refl) is

install_same : {V H W : Type 0} {g : _} (before after : Core H) (why : InstallFail V H W g)
    (result : Result (Unit {0}) (InstallFail V H W g))
    → result ≡ Err why → InstallsCore before after result → after.version ≡ before.version
install_same {V} {H} {W} {g} before after why (Ok done) is did = absurd cc
install_same {V} {H} {W} {g} before after why (Err (fails.Halted name)) is did = ap (λ (c : Core H). c.version) did.1
install_same {V} {H} {W} {g} before after why (Err (fails.Raced key number)) is did = ap (λ (c : Core H). c.version) did.1
install_same {V} {H} {W} {g} before after why (Err (fails.Exhausted counter)) is did = ap (λ (c : Core H). c.version) did.same
install_same {V} {H} {W} {g} before after why (Err (fails.NoMemory job)) is did = ap (λ (c : Core H). c.version) did
install_same {V} {H} {W} {g} before after why (Err (fails.Disk name)) is did = did.version

pub install_collects : {H R W : Type 0} (bytes : H → Option (List ℕ)) (writers : Writers W) {g : _} (job : Job (Base H R) H W g)
    (before after : Core H) (was now : Collecting) (h : History) (l : Layout) (o : OpenJob)
    → StandsFor bytes before h l → l.job ≡ Some o → HasAllMerge writers bytes job o.job → Collects before was l
    → (result : Result (Unit {0}) (InstallFail (Base H R) H W g)) → InstallsCore before after result
    → InstallsFor bytes before was now writers job after result → (effects : Effects) (S : History → Layout → Type 0)
    → ((k : History) (x : Layout) → S k x → StandsFor bytes after k x)
    → Decides S h l (install_ruling l h o.job (made_of job o.job)) (install_otherwise l (made_of job o.job))
    (install_outcome result) effects
    → Decides (λ k x. Collects after now x) h l (install_ruling l h o.job (made_of job o.job)) (install_otherwise l (made_of job o.job))
    (install_outcome result) effects
install_collects {H} {R} {W} bytes writers {g} job before after was now h l o is open_is all has (Ok done) did puts
    effects S stood decides =
    install_done after now S h l o.job (made_of job o.job) effects
    (λ answered. puts.tallied h l o is open_is all has.tally answered
    (subst (λ (k : History). StandsFor bytes after k (install_ruling l h o.job (made_of job o.job)).layout)
    (install_history l h o.job (made_of job o.job)) (stood _ _ (decides.answered Installed refl).1)))
    (puts.passing ∙ has.passing) (install_readable l h o.job (made_of job o.job) has.readable) decides
install_collects {H} {R} {W} bytes writers {g} job before after was now h l o is open_is all has (Err why) did puts
    effects S stood decides =
    install_left after now S h l o.job (made_of job o.job) effects
    (collects_kept bytes before after was now h l is
    (ap (λ (v : Version H). v.behind.logs.items) (install_same before after why (Err why) refl did)) puts has)
    (Err why) (install_undone why (Err why) refl) decides

-- nothing was done
pub install_idle : {H R W : Type 0} {g : _} (before after : Core H) (was now : Collecting) (S : History → Layout → Type 0) (h : History)
    (l : Layout) (j : laid_job.Job) (made : Made) (effects : Effects) (why : InstallFail (Base H R) H W g)
    (result : Result (Unit {0}) (InstallFail (Base H R) H W g)) → result ≡ Err why → InstallsCore before after result → now ≡ was
    → Collects before was l → Decides S h l (install_ruling l h j made) (install_otherwise l made) (install_outcome result) effects
    → Decides (λ k x. Collects after now x) h l (install_ruling l h j made) (install_otherwise l made) (install_outcome result) effects
install_idle {H} before after was now S h l j made effects why result is did same has decides =
    install_left after now S h l j made effects
    (collects_same before after was now l (ap (λ (v : Version H). v.behind.logs.items) (install_same before after why result is did)) same
    has) result (install_undone why result is) decides

pub install_passes : {H R W : Type 0} (bytes : H → Option (List ℕ)) (writers : Writers W) {g : _} (job : Job (Base H R) H W g)
    (before after : Core H) (was now : Collecting) (result : Result (Unit {0}) (InstallFail (Base H R) H W g))
    → InstallsFor bytes before was now writers job after result → now.passing ≡ was.passing
install_passes bytes writers job before after was now (Ok done) is = is.passing
install_passes bytes writers job before after was now (Err why) is = is.passing

-- ---- what was made ready before

pub readied_self : {H : Type 0} (bytes : H → Option (List ℕ)) (core : Core H) (kept : Collecting) → IsSome kept.tally
    → IsReadied bytes core kept kept
readied_self bytes core kept some = record {
  passing = refl;
  made = some;
  tallied = λ h l is has. by l kept.tally some has;
}
  where
    by : (l : Layout) (o : Option Tallied) → IsSome o → Tallies core.version.behind.logs.items o l → IsTallied o l
    by l None none has = absurd cc
    by l (Some t) made has = has

-- What an install does behind that it does from what was kept before.
pub installs_then : {H R W : Type 0} (bytes : H → Option (List ℕ)) (writers : Writers W) {g : _} (job : Job (Base H R) H W g)
    (before after : Core H) (was mid now : Collecting) → IsReadied bytes before was mid
    → (result : Result (Unit {0}) (InstallFail (Base H R) H W g)) → InstallsFor bytes before mid now writers job after result
    → InstallsFor bytes before was now writers job after result
installs_then bytes writers job before after was mid now readied (Ok done) puts = record {
  passing = puts.passing ∙ readied.passing;
  tallied = λ h l o is open_is all has answered after_is.
      puts.tallied h l o is open_is all
      (tallies_made before.version.behind.logs.items mid.tally l (readied.tallied h l is has)) answered after_is;
}
installs_then bytes writers job before after was mid now readied (Err why) keeps = record {
  passing = keeps.passing ∙ readied.passing;
  tallies = λ h l is has. keeps.tallies h l is
      (tallies_made before.version.behind.logs.items mid.tally l (readied.tallied h l is has));
}
