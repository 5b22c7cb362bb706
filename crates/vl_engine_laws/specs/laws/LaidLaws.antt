-- A version that has a layout has its sources, and its pointers lead where the layout's do.
use Rattle.std.specs.Prelude.{◌≡◌, ℕ, ◌+◌, List, [], ◌∷◌, ◌++◌, map, option_and_then, Option, Some, refl}
use Rattle.std.specs.List.{AllByRecursion, AllZip, flat_map}
use Rattle.std.specs.Option.{option_map}
use Rattle.std.proofs.Common.{sym, ap, ◌∙◌, append_assoc}
use Rattle.vl_model.specs.Cutting.{joined}
use Rattle.vl_engine_laws.specs.Laid.{HasLayout, IsMemtableOf, IsTableOf}
use Rattle.vl_engine_laws.specs.Pointed.{bytes_of_log, layout_logs, stored_of}
use Rattle.vl_engine_laws.specs.laws.FlushTidy.{IsThere, flat_far, tables_far}
use Rattle.vl_engine_laws.specs.laws.LaidTables.{tables_are}
use Rattle.vl_engine_laws.specs.laws.LedLaws.{AreFarTo, IsFarTo}
use Rattle.vl_engine_model.specs.Logs.{committed_records, frame_entries, logged_entries, memtable, record_entry, relocated_records}
use Rattle.vl_engine_model.specs.Sources.{behind_active, sources, table_entries, tables}
use Rattle.vl_engine_model.specs.Tidy.{IsTidy, sealed}
use Rattle.vl_engine_model.specs.declared.layout.Layout.{Layout}
use Rattle.vl_engine_model.specs.declared.segment.Segment.{Segment}
use Rattle.vl_engine_model.specs.declared.table.Table as laid
use Rattle.vl_engine_model.specs.laws.OrderShows.{all-in_order}
use Rattle.vl_engine_model.specs.laws.ShowsLaws.{all_both}
use Rattle.vl_memtable.specs.declared.frozen_log.FrozenLog.{FrozenLog}
use Rattle.vl_model.specs.Frames.{frame_length, moved_length, record_length}
use Rattle.vl_model.specs.History.{History}
use Rattle.vl_model.specs.Winners.{resolved}
use Rattle.vl_model.specs.declared.change.Change.{Change}
use Rattle.vl_model.specs.declared.change.Change.TheVariants.{Delete, Set}
use Rattle.vl_model.specs.declared.entry.Body.{Body}
use Rattle.vl_model.specs.declared.entry.Body.TheVariants.{Far, Gone, Inline, Logged}
use Rattle.vl_model.specs.declared.entry.Entry.{Entry}
use Rattle.vl_model.specs.declared.log_frame.LogFrame.{LogFrame}
use Rattle.vl_model.specs.declared.log_frame.LogFrame.TheVariants.{Committed, Relocated}
use Rattle.vl_model.specs.declared.log_frame.Moved.{Moved}
use Rattle.vl_seglog.specs.Stored.{stored_at}
use Rattle.vl_seglog.specs.declared.sealed.SealedLog.{SealedLog}
use Rattle.vl_table.specs.OfTables.{AreOf}
use Rattle.vl_table.specs.declared.table.Table.{Table}
use Rattle.vl_version.specs.Sources.{HasEntries, held_entries, stored_in, tables_in}
use Rattle.vl_version.specs.declared.version.Version.{Version}

-- ---- what a memtable has leads into no log

module _ (P : ℕ → Type 0) (format segment : ℕ) where
  abbrev IsFar : Entry → Type 0
  IsFar e = IsFarTo P e.body

  record_far : (key : List ℕ) (version : ℕ) (change : Change) (place : ℕ)
      → IsFar (record_entry format segment (record { key = key; version = version; change = change; place = place }))
  record_far key version (Set value) place = tt
  record_far key version Delete place = tt

  commit_far : (place number : ℕ) (writes : List (List ℕ × Change))
      → AllByRecursion IsFar (map (record_entry format segment) (committed_records format place number writes))
  commit_far place number [] = tt
  commit_far place number (w ∷ writes) =
      (record_far w.0 number w.1 place, commit_far (place + record_length format w.0 w.1) number writes)

  moves_far : (place : ℕ) (records : List Moved)
      → AllByRecursion IsFar (map (record_entry format segment) (relocated_records format place records))
  moves_far place [] = tt
  moves_far place (m ∷ records) =
      (record_far m.key m.version (Set m.value) (place + 8), moves_far (place + moved_length format m) records)

  frame_far : (place : ℕ) (f : LogFrame) → AllByRecursion IsFar (frame_entries format segment place f)
  frame_far place (Committed number writes) = commit_far (place + 17) number writes
  frame_far place (Relocated records) = moves_far (place + 9) records

  frames_far : (place : ℕ) (fs : List LogFrame) → AllByRecursion IsFar (logged_entries format segment place fs)
  frames_far place [] = tt
  frames_far place (f ∷ fs) =
      all_both IsFar (logged_entries format segment (place + frame_length format f) fs) (frame_entries format segment place f)
      (frames_far (place + frame_length format f) fs) (frame_far place f)

pub memtable_near : (P : ℕ → Type 0) (s : Segment) → AreFarTo P (memtable s)
memtable_near P s =
    all-in_order (λ (e : Entry). IsFarTo P e.body) (logged_entries s.format s.number 16 s.frames)
    (frames_far P s.format s.number 16 s.frames)

pub memtables_near : (P : ℕ → Type 0) (ss : List Segment) → AreFarTo P (flat_map memtable ss)
memtables_near P [] = tt
memtables_near P (s ∷ ss) = all_both (λ (e : Entry). IsFarTo P e.body) (memtable s) (flat_map memtable ss)
    (memtable_near P s) (memtables_near P ss)

-- The sources of a tidy layout lead into its sealed logs.
pub sources_far : (l : Layout) (h : History) → IsTidy (layout_logs l) l h → AreFarTo (IsThere (sealed l)) (sources l)
sources_far l h tidy =
    let P = IsThere (sealed l) in
    all_both (λ (e : Entry). IsFarTo P e.body) (memtable l.active) (behind_active l) (memtable_near P l.active)
    (all_both (λ (e : Entry). IsFarTo P e.body) (flat_map memtable l.frozen) (flat_map table_entries (tables l))
    (memtables_near P l.frozen) (flat_far P (tables l) (tables_far (sealed l) (tables l) tidy.placed)))

-- ---- the version's entries

entries_joined : (ts : List laid.Table) → flat_map table_entries ts ≡ joined (map table_entries ts)
entries_joined [] = refl
entries_joined (t ∷ ts) = ap (λ (es : List Entry). t.entries ++ es) (entries_joined ts)

frozen_entries : (held : List FrozenLog) (ss : List Segment) → AllZip IsMemtableOf held ss
    → flat_map memtable ss ≡ held_entries held
frozen_entries [] [] all = refl
frozen_entries [] (s ∷ ss) all = absurd all
frozen_entries (f ∷ held) [] all = absurd all
frozen_entries (f ∷ held) (s ∷ ss) all =
    ap (λ (es : List Entry). es ++ flat_map memtable ss) (sym all.0.entries)
    ∙ ap (λ (es : List Entry). f.memtable.entries ++ es) (frozen_entries held ss all.1)

module _ {H : Type 0} (bytes : H → Option (List ℕ)) where
  tables_of_entries : (tables_held : List (Table H)) (ts : List laid.Table) → AllZip (IsTableOf bytes) tables_held ts
      → AreOf bytes tables_held (map table_entries ts)
  tables_of_entries [] [] all = tt
  tables_of_entries [] (t ∷ ts) all = absurd all
  tables_of_entries (h ∷ held) [] all = absurd all
  tables_of_entries (h ∷ held) (t ∷ ts) all = (all.0.of, tables_of_entries held ts all.1)

  module _ (version : Version H) (l : Layout) (has : HasLayout bytes version l) where
    leads_alike : (key : List ℕ) (body : Body) → IsFarTo (IsThere (sealed l)) body
        → resolved (stored_in bytes version.behind.logs.items) key body ≡ resolved (layout_logs l) key body
    leads_alike key (Inline value) far = refl
    leads_alike key Gone far = refl
    leads_alike key (Logged value p) far = refl
    leads_alike key (Far p) (s, at) =
        let here = has.logs p.segment s at in
        ap (λ (o : Option (SealedLog H)). option_map Some
        (option_and_then (λ (log : SealedLog H). option_and_then (λ bs. stored_at log.format bs p key) (bytes log.held)) o)) here.at
        ∙ ap (λ (o : Option (List ℕ)). option_map Some (option_and_then (λ bs. stored_at here.log.format bs p key) o)) here.is.told
        ∙ ap (λ (n : ℕ). option_map Some (stored_at n (bytes_of_log s) p key)) here.is.format
        ∙ sym (ap (λ (o : Option Segment). option_map Some (stored_of o p key)) at)

    all_lead : (es : List Entry) → AreFarTo (IsThere (sealed l)) es
        → AllByRecursion (λ (e : Entry). resolved (stored_in bytes version.behind.logs.items) e.key e.body
        ≡ resolved (layout_logs l) e.key e.body) es
    all_lead [] far = tt
    all_lead (e ∷ es) far = (leads_alike e.key e.body far.0, all_lead es far.1)

    -- Its sources are the layout's, and lead where these lead.
    pub laid_entries : (h : History) → IsTidy (layout_logs l) l h → HasEntries bytes version (sources l) (layout_logs l)
    laid_entries h tidy = record {
      tabled = map table_entries (tables l);
      tables = tables_of_entries (tables_in version) (tables l) (tables_are bytes version l has);
      in_order = has.in_order;
      entries = ap (λ (es : List Entry). es ++ behind_active l) (sym has.active)
          ∙ ap (λ (es : List Entry). version.active.entries ++ (es ++ flat_map table_entries (tables l)))
          (frozen_entries version.behind.frozen.items l.frozen has.frozen)
          ∙ ap (λ (es : List Entry). version.active.entries ++ (held_entries version.behind.frozen.items ++ es))
          (entries_joined (tables l))
          ∙ sym (append_assoc version.active.entries (held_entries version.behind.frozen.items) (joined (map table_entries (tables l))));
      told = has.told;
      leads = all_lead (sources l) (sources_far l h tidy);
    }
