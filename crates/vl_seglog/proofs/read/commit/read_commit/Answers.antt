use Rattle.std.proofs.Common.{◌≡◌, ℕ, List, map, true, false, sym, ap, ◌∙◌, arith}
use Rattle.std.specs.FinMap.{is_sorted}
use Rattle.vl_model.specs.Keys.{key_cmp}
use Rattle.vl_model.specs.declared.change.Change.{Change}
use Rattle.vl_seglog.specs.Commit.{records_spelling}
use Rattle.vl_seglog.specs.Reading.{write_of}
use Rattle.vl_seglog.specs.Series.{IsSeries}
use Rattle.vl_seglog.specs.laws.SeriesLaws.{one_series}
use Rattle.vl_seglog.specs.declared.frame.ReadRecord.{ReadRecord}
use Rattle.vl_seglog.proofs.Bodies.{agrees, is_body, no_head}
use Rattle.vl_seglog.proofs.Options.{at_none}
use Rattle.vl_seglog.proofs.read.commit.read_commit.Goals as goal
use Rattle.vl_seglog.proofs.read.commit.read_commit.Goals.{then-number-eq0-via-then-number-eq0}
use Rattle.vl_seglog.proofs.read.commit.read_commit.Goals.{then-number-eq0-via-else-number-eq0+then-number-gt-MAX_COMMIT_NUMBER}
use Rattle.vl_seglog.proofs.read.commit.read_commit.Goals.{then-number-eq0-via-else-number-eq0+else-number-gt-MAX_COMMIT_NUMBER+then-count-eq0}

pub returns-in_default-clause-none : goal.returns-in_default-clause-none
returns-in_default-clause-none c = λ commit lawful spelled.
    no_head c.args.format c.args.body.now commit c.in_default.ensures.none spelled

pub returns-then-number-eq0-clause-none : goal.returns-then-number-eq0-clause-none
returns-then-number-eq0-clause-none c = λ commit lawful spelled.
    let a = agrees c.args.format c.args.body.now c.in-Some.number c.in-Some.count c.in-Some.rest.now commit
    c.in-Some.ensures.fits.0 c.in-Some.ensures.fits.1 c.in-Some.ensures.found c.requires.short lawful spelled in
    elim c.then-number-eq0.branch [
      | then-number-eq0-via-then-number-eq0 w ↦ omega (arith, a.number, lawful.first)
      | then-number-eq0-via-else-number-eq0+then-number-gt-MAX_COMMIT_NUMBER w ↦ omega (arith, a.number, lawful.last)
      | then-number-eq0-via-else-number-eq0+else-number-gt-MAX_COMMIT_NUMBER+then-count-eq0 w ↦ omega (arith, a.count, lawful.some)
    ]

pub returns-in_default-2-clause-none : goal.returns-in_default-2-clause-none
returns-in_default-2-clause-none c = λ commit lawful spelled.
    let a = agrees c.args.format c.args.body.now c.in-Some.number c.in-Some.count c.in-Some.rest.now commit
    c.in-Some.ensures.fits.0 c.in-Some.ensures.fits.1 c.in-Some.ensures.found c.requires.short lawful spelled in
    at_none c.in_ok-records.field-0
    ((writes : List (List ℕ × Change)) → IsSeries (records_spelling c.args.format) c.in-Some.rest.now c.in-Some.count
    writes → ⊥) c.in_default-2.not-Some c.in_ok-records.ensures.none commit.writes a.series

pub returns-then-not-is_rising-clause-none : goal.returns-then-not-is_rising-clause-none
returns-then-not-is_rising-clause-none c = λ commit lawful spelled.
    let a = agrees c.args.format c.args.body.now c.in-Some.number c.in-Some.count c.in-Some.rest.now commit
    c.in-Some.ensures.fits.0 c.in-Some.ensures.fits.1 c.in-Some.ensures.found c.requires.short lawful spelled in
    let run = rw c.in-Some-2.is at c.in_ok-records.ensures.found in
    let one : commit.writes ≡ map write_of c.in-Some-2.records.items = one_series (records_spelling c.args.format)
    commit.writes (map write_of c.in-Some-2.records.items) a.series.lawful run.lawful
    (a.series.counted ∙ sym run.counted) (sym a.series.spelled ∙ run.spelled) in
    let falls : is_sorted key_cmp (map write_of c.in-Some-2.records.items) ≡ false = sym
    (ap (λ (rs : List ReadRecord). is_sorted key_cmp (map write_of rs)) c.deref.ensures.value)
    ∙ sym c.is_rising.ensures ∙ c.if-not-is_rising.true in
    let rises : is_sorted key_cmp commit.writes ≡ true = lawful.rising in
    cc (falls, rises, ap (is_sorted key_cmp) one)

pub returns-clause-found : goal.returns-clause-found
returns-clause-found c =
    let run = rw c.in-Some-2.is at c.in_ok-records.ensures.found in
    is_body c.args.format c.args.body.now c.in-Some.number c.in-Some.count c.in-Some.rest.now
    (map write_of c.in-Some-2.records.items) c.in-Some.ensures.found
    (omega arith) (omega arith) (omega arith) run
    (sym (ap (λ (rs : List ReadRecord). is_sorted key_cmp (map write_of rs)) c.deref.ensures.value)
    ∙ sym c.is_rising.ensures ∙ c.if-not-is_rising.false)
