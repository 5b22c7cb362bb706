-- A version that has a layout has the one behind a begin, an end, a halt, a commit and a relocation; and where the layout has no
-- tables, all that is read of it is in memory.
use Rattle.std.specs.Prelude.{◌≡◌, ◌<◌, ℕ, ◌+◌, List, [], ◌∷◌, ◌++◌, Option, refl}
use Rattle.std.specs.List.{AllByRecursion, AllZip}
use Rattle.std.proofs.Common.{sym, ap, subst, ◌∙◌}
use Rattle.vl_engine_laws.specs.Laid.{AreLevelsOf, HasLayout, HasLog, IsMemtableOf, IsTableOf}
use Rattle.vl_version.specs.LiesOver.{IsInMemory}
use Rattle.vl_engine_laws.specs.laws.AppendedLaws.{with_more}
use Rattle.vl_engine_laws.specs.laws.LaidLaws.{memtable_near}
use Rattle.vl_engine_laws.specs.laws.LaidTables.{tables_are}
use Rattle.vl_engine_laws.specs.laws.LedLaws.{AreFarTo, IsFarTo}
use Rattle.vl_engine_laws.specs.laws.MemtableLaws.{memtable_more}
use Rattle.vl_engine_model.specs.Logs.{frame_entries, memtable}
use Rattle.vl_engine_model.specs.Ruling.{ended, halted_at}
use Rattle.vl_engine_model.specs.Rulings.Commit.{Transaction, commit_frame, committed}
use Rattle.vl_engine_model.specs.Rulings.Relocate.{relocated, with_moves}
use Rattle.vl_engine_model.specs.Sources.{tables}
use Rattle.vl_engine_model.specs.Tidy.{IsTrueLog}
use Rattle.vl_engine_model.specs.declared.file_name.FileName.{FileName}
use Rattle.vl_engine_model.specs.declared.job.OpenJob.{OpenJob}
use Rattle.vl_engine_model.specs.declared.layout.Layout.{Layout}
use Rattle.vl_engine_model.specs.declared.live.Live.{Live}
use Rattle.vl_engine_model.specs.declared.segment.Segment.{Segment}
use Rattle.vl_engine_model.specs.declared.table.Table as laid
use Rattle.vl_engine_model.specs.laws.ShowsLaws.{all_both}
use Rattle.vl_memtable.specs.declared.frozen_log.FrozenLog.{FrozenLog}
use Rattle.vl_model.specs.Entries.{in_order}
use Rattle.vl_model.specs.History.{History}
use Rattle.vl_model.specs.declared.entry.Body.TheVariants.{Inline, Gone, Far, Logged}
use Rattle.vl_model.specs.declared.entry.Body.{Body}
use Rattle.vl_model.specs.declared.entry.Entry.{Entry}
use Rattle.vl_model.specs.declared.log_frame.LogFrame.TheVariants.{Relocated}
use Rattle.vl_model.specs.declared.log_frame.LogFrame.{LogFrame}
use Rattle.vl_model.specs.declared.log_frame.Moved.{Moved}
use Rattle.vl_seglog.specs.declared.sealed.SealedLog.{SealedLog}
use Rattle.vl_table.specs.declared.table.Table.{Table}
use Rattle.vl_version.specs.Near.{AreNear, IsNear}
use Rattle.vl_version.specs.Sources.{AreTold, held_entries, in_memory, tables_in}
use Rattle.vl_version.specs.declared.behind.Behind.{Behind}
use Rattle.vl_version.specs.declared.version.Version.{Version}
use Rattle.vl_version.specs.levels.LevelsLooked.{AreInOrder}

-- the entries that a commit adds
abbrev pub next_entries : Layout → History → Transaction → List Entry
next_entries l h t = frame_entries l.active.format l.active.number l.active.length (commit_frame h t.writes)

module _ {H : Type 0} (bytes : H → Option (List ℕ)) (version : Version H) (l : Layout) (has : HasLayout bytes version l) where
  -- whatever else lives,
  pub laid_live : (live : List Live) → HasLayout bytes version (record l { live = live })
  laid_live live = record {
    active = has.active;
    frozen = has.frozen;
    levels = has.levels;
    in_order = has.in_order;
    logs = has.logs;
    told = has.told;
    below = has.below;
  }

  -- and where it is halted
  pub laid_halted : (name : FileName) → HasLayout bytes version (halted_at name l)
  laid_halted name = record {
    active = has.active;
    frozen = has.frozen;
    levels = has.levels;
    in_order = has.in_order;
    logs = has.logs;
    told = has.told;
    below = has.below;
  }

  -- ---- behind a frame

  -- With the frame's entries over it the memtable is that of the log with its frame, and nothing else changed.
  pub laid_appended : (after : Version H) (f : LogFrame) (live : List Live) (number : ℕ) (job : Option OpenJob) → IsTrueLog l.active
      → after.behind ≡ version.behind
      → after.active.entries
      ≡ in_order (frame_entries l.active.format l.active.number l.active.length f ++ version.active.entries)
      → HasLayout bytes after (with_more f live number job l)
  laid_appended after f live number job true_log behind more = record {
    active = more
        ∙ ap (λ (es : List Entry). in_order (frame_entries l.active.format l.active.number l.active.length f ++ es)) has.active
        ∙ memtable_more l f true_log;
    frozen = subst (λ (b : Behind H). AllZip IsMemtableOf b.frozen.items l.frozen) (sym behind) has.frozen;
    levels = subst (λ (b : Behind H). AreLevelsOf bytes b.levels l.levels) (sym behind) has.levels;
    in_order = subst (λ (b : Behind H). AreInOrder b.levels) (sym behind) has.in_order;
    logs = λ n s at. subst (λ (b : Behind H). HasLog bytes b.logs.items n s) (sym behind) (has.logs n s at);
    told = subst (λ (b : Behind H). AreTold bytes b.logs.items) (sym behind) has.told;
    below = subst (λ (b : Behind H). AllByRecursion (λ (log : SealedLog H). log.number < l.active.number) b.logs.items) (sym behind)
        has.below;
  }

  -- So behind a commit,
  pub laid_committed : (after : Version H) (h : History) (t : Transaction) → IsTrueLog l.active
      → after.behind ≡ version.behind → after.active.entries ≡ in_order (next_entries l h t ++ version.active.entries)
      → HasLayout bytes after (committed l h t).layout
  laid_committed after h t =
      laid_appended after (commit_frame h t.writes) (ended t.ticket l).live l.epoch l.job

  -- and behind a relocation.
  pub laid_relocated : (after : Version H) (moved : List Moved) → IsTrueLog l.active → after.behind ≡ version.behind
      → after.active.entries
      ≡ in_order (frame_entries l.active.format l.active.number l.active.length (Relocated moved) ++ version.active.entries)
      → HasLayout bytes after (relocated l moved)
  laid_relocated after moved =
      laid_appended after (Relocated moved) l.live (l.epoch + 1) (with_moves (l.epoch + 1) moved l.job)

  -- ---- without tables

  none_held : (held : List (Table H)) (ts : List laid.Table) → AllZip (IsTableOf bytes) held ts → ts ≡ [] → held ≡ []
  none_held [] ts zip none = refl
  none_held (t ∷ held) [] zip none = absurd zip
  none_held (t ∷ held) (u ∷ ts) zip none = absurd cc

  near_body : (body : Body) → IsFarTo (λ n. ⊥) body → IsNear body
  near_body (Inline value) far = tt
  near_body Gone far = tt
  near_body (Far pointer) far = far
  near_body (Logged value pointer) far = tt

  all_near : (es : List Entry) → AreFarTo (λ n. ⊥) es → AreNear es
  all_near [] far = tt
  all_near (e ∷ es) far = (near_body e.body far.0, all_near es far.1)

  near_memtable : (es : List Entry) (s : Segment) → es ≡ memtable s → AreNear es
  near_memtable es s is = subst AreNear (sym is) (all_near (memtable s) (memtable_near (λ n. ⊥) s))

  near_frozen : (held : List FrozenLog) (ss : List Segment) → AllZip IsMemtableOf held ss → AreNear (held_entries held)
  near_frozen [] ss zip = tt
  near_frozen (f ∷ held) [] zip = absurd zip
  near_frozen (f ∷ held) (s ∷ ss) zip =
      all_both (λ (e : Entry). IsNear e.body) f.memtable.entries (held_entries held)
      (near_memtable f.memtable.entries s zip.0.entries) (near_frozen held ss zip.1)

  -- No entry in memory leads into a log; so where the layout has no tables, nothing that is read stands in a file.
  pub laid_near : AreNear (in_memory version)
  laid_near = all_both (λ (e : Entry). IsNear e.body) version.active.entries (held_entries version.behind.frozen.items)
      (near_memtable version.active.entries l.active has.active)
      (near_frozen version.behind.frozen.items l.frozen has.frozen)

  pub laid_in_memory : tables l ≡ [] → IsInMemory version
  laid_in_memory none = record {
    tables = none_held (tables_in version) (tables l) (tables_are bytes version l has) none;
    near = laid_near;
  }
