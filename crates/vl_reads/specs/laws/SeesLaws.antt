-- What is seen at a begin stays as it was, whatever is committed later.
use Rattle.std.specs.Prelude.{◌≤◌, ℕ, List, length, Option}
use Rattle.std.proofs.Common.{ap, arith, length-append, ◌∙◌}
use Rattle.vl_reads.specs.Sees.{Sees, SeesAlone, ShowsAt}
use Rattle.vl_reads.specs.declared.past.Past.{Past}
use Rattle.vl_reads.specs.declared.txn.Txn.{Txn}
use Rattle.vl_reads.specs.declared.view.View.{View}
use Rattle.vl_reads.specs.laws.PastLaws.{past_later}
use Rattle.vl_engine_model.specs.Shown.{ShowsLow, low_at}
use Rattle.vl_engine_model.specs.Shows.{Shows}
use Rattle.vl_engine_model.specs.Sources.{floor, sources}
use Rattle.vl_engine_model.specs.declared.layout.Layout.{Layout}
use Rattle.vl_engine_model.specs.laws.LowShows.{floor-up, low_up, shows-extends, shows_from}
use Rattle.vl_model.specs.History.{Extends, History, last_number}
use Rattle.vl_model.specs.Winners.{Logs}
use Rattle.vl_model.specs.Reads.{Read}
use Rattle.vl_model.specs.declared.entry.Entry.{Entry}
use Rattle.vl_model.specs.laws.ExplainedLaws.{explained-extends}
use Rattle.vl_version.specs.declared.version.Version.{Version}

last-extended : (least most : History) → Extends least most → last_number least ≤ last_number most
last-extended least most extends =
    let first = extends.first in
    let more = ap length extends.commits ∙ length-append least.commits extends.later in
    omega (arith, first, more)

-- The sources show the history at each number from the floor on, also at the last one, at which what begins reads.
pub shows_at : (logs : Logs) (l : Layout) (h : History) (number : ℕ) → floor l h ≤ number → number ≤ last_number h
    → ShowsLow logs l h → Shows logs (sources l) h (λ key. number) number
shows_at logs l h number low high shows =
    let from = shows_from logs (sources l) h (low_at l h) (λ key. number) (last_number h)
    (λ key. let up = low_up h (floor l h) l.keep l.since key in omega (arith, up, low)) shows in
    record {
      values = λ key n above below. from.values key n above (omega (arith, below, high));
      meaning = from.meaning;
      resolves = from.resolves;
      gone_once = from.gone_once;
    }

pub shows_last : (logs : Logs) (l : Layout) (h : History) → ShowsLow logs l h
    → Shows logs (sources l) h (λ key. last_number h) (last_number h)
shows_last logs l h shows = shows_at logs l h (last_number h) (floor-up l h) (omega arith) shows

-- What is shown at a number stays, whatever is committed later.
pub shows_at_later : (logs : Logs) (es : List Entry) (least most : History) (number : ℕ) → Extends least most
    → number ≤ last_number least → Shows logs es least (λ key. number) number → Shows logs es most (λ key. number) number
shows_at_later logs es least most number extends known shows =
    shows-extends logs es least most (λ key. number) number extends known shows

-- ---- what a reader sees

-- So a version shows to a later history what it shows,
pub version_later : {H : Type 0} (bytes : H → Option (List ℕ)) (version : Version H) (past : Past) (least most : History) (number : ℕ)
    → Extends least most → ShowsAt bytes version past least number → ShowsAt bytes version past most number
version_later bytes version past least most number extends shows =
    let known = shows.known in
    let readable = shows.readable in
    let first = extends.first in
    let later = last-extended least most extends in
    record {
      entries_of = shows.entries_of;
      logs = shows.logs;
      has = shows.has;
      shows = shows_at_later shows.logs shows.entries_of least most number extends known shows.shows;
      readable = omega (arith, readable, first);
      known = omega (arith, known, later);
      shows_past = past_later bytes version past number least most extends known shows.shows_past;
    }

-- and a transaction and a view see there what they see.
pub sees_later : {H R : Type 0} (bytes : H → Option (List ℕ)) (txn : Txn H R) (least most : History) (reads : List Read)
    → Extends least most → Sees bytes txn least reads → Sees bytes txn most reads
sees_later bytes txn least most reads extends sees = record {
  version = version_later bytes txn.version txn.past least most txn.number extends sees.version;
  files = sees.files;
  reader = sees.reader;
  notes = sees.notes;
  explained = explained-extends least most extends txn.number sees.version.known reads sees.explained;
}

pub sees_alone_later : {H R : Type 0} (bytes : H → Option (List ℕ)) (view : View H R) (least most : History)
    → Extends least most → SeesAlone bytes view least → SeesAlone bytes view most
sees_alone_later bytes view least most extends sees = record {
  version = version_later bytes view.version view.past least most view.number extends sees.version;
  files = sees.files;
  reader = sees.reader;
}
