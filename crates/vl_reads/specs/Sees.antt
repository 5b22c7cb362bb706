-- What a transaction and a view see: the history at their own number, whatever is committed meanwhile. No layout and no disk
-- stands here, so that no step of the engine touches it.
use Rattle.std.specs.Prelude.{◌≡◌, ◌≤◌, ℕ, List, Option}
use Rattle.std.specs.FinMap.{empty, entries}
use Rattle.vl_reads.specs.Past.{ShowsPast}
use Rattle.vl_reads.specs.declared.past.Past.{Past}
use Rattle.vl_reads.specs.declared.txn.Txn.{Txn}
use Rattle.vl_reads.specs.declared.view.View.{View}
use Rattle.vl_engine_model.specs.Rulings.Commit.{Transaction}
use Rattle.vl_engine_model.specs.Rulings.View as rulings
use Rattle.vl_engine_model.specs.Shows.{Shows}
use Rattle.vl_model.specs.History.{History, last_number}
use Rattle.vl_model.specs.Notes.{AreNotesOf}
use Rattle.vl_model.specs.Reads.{IsExplained, Read}
use Rattle.vl_model.specs.Winners.{Logs}
use Rattle.vl_model.specs.declared.entry.Entry.{Entry}
use Rattle.vl_table.specs.Kept.{Files}
use Rattle.vl_table.specs.KeptBlocks.{ReadsOf}
use Rattle.vl_txn.specs.Reads.{no_notes}
use Rattle.vl_version.specs.Sources.{HasEntries, tables_in}
use Rattle.vl_version.specs.declared.version.Version.{Version}

-- The version shows the history at this number, which can be read, and the past before it as far back as it may be read.
pub record ShowsAt {H : Type 0} (bytes : H → Option (List ℕ)) (version : Version H) (past : Past) (h : History) (number : ℕ)
    : Type 0 where
  pub entries_of : List Entry
  pub logs : Logs
  pub has : HasEntries bytes version entries_of logs
  pub shows : Shows logs entries_of h (λ key. number) number
  -- the number is one of the history's
  pub readable : h.first ≤ number
  pub known : number ≤ last_number h
  pub shows_past : ShowsPast bytes version past number h

-- The transaction sees the history at its number; the blocks that its reader keeps are of the version's tables, of which these
-- are the files; and its notes are those of these reads, which the history explains there.
pub record Sees {H R : Type 0} (bytes : H → Option (List ℕ)) (txn : Txn H R) (h : History) (reads : List Read)
    : Type 0 where
  pub version : ShowsAt bytes txn.version txn.past h txn.number
  pub files : Files
  pub reader : ReadsOf bytes files txn.reader (tables_in txn.version)
  pub notes : AreNotesOf reads txn.reads.keys txn.reads.spans
  pub explained : IsExplained h txn.number reads

-- a view, which notes nothing
pub record SeesAlone {H R : Type 0} (bytes : H → Option (List ℕ)) (view : View H R) (h : History) : Type 0 where
  pub version : ShowsAt bytes view.version view.past h view.number
  pub files : Files
  pub reader : ReadsOf bytes files view.reader (tables_in view.version)

-- one that has read and written nothing yet
pub record IsNew {H R : Type 0} (txn : Txn H R) : Type 0 where
  pub reads : txn.reads ≡ no_notes
  pub writes : txn.writes ≡ empty

-- a transaction that made these reads, as a ruling is asked of it
abbrev pub asked : {H R : Type 0} → Txn H R → List Read → Transaction
asked txn reads =
    record { ticket = txn.ticket; number = txn.number; reads = reads; writes = entries txn.writes }

-- and a view
abbrev pub asked_view : {H R : Type 0} → View H R → rulings.View
asked_view view = record { ticket = view.ticket; number = view.number }
