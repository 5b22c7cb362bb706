-- What a backup and its load come to together.
use Rattle.std.specs.Prelude.{◌≡◌, ◌<◌, ◌≤◌, ◌^◌, ◌+◌, ℕ, zero, suc, T, Bool, true, false, ◌&&◌, nat_le, List, [], ◌∷◌, ◌++◌, length, refl}
use Rattle.std.specs.FinMap.{is_sorted}
use Rattle.std.specs.FinMap.Entries.{below_all}
use Rattle.std.specs.List.{AllByRecursion}
use Rattle.std.specs.Ordering.{is_lt}
use Rattle.std.proofs.Common.{sym, ap, subst, ◌∙◌, append_assoc, arith}
use Rattle.std.proofs.lemmas.Bool.{and_parts}
use Rattle.std.proofs.lemmas.Bool.Decides.{nat_tests}
use Rattle.vl_stream.specs.Batches.{AreBatches, Write, batches, joined}
use Rattle.vl_stream.specs.Grammar.{stream_grammar}
use Rattle.vl_stream.specs.Loads.{loaded}
use Rattle.vl_stream.specs.Pieces.{AreChanges, Records, record_format}
use Rattle.vl_stream.specs.Restores.{stood_at}
use Rattle.vl_stream.specs.Streams.{Found, Holds, HoldsStream, Whole, frames, stream, stream_header}
use Rattle.vl_stream.specs.laws.BatchLaws.{batches_lawful, batches_whole}
use Rattle.vl_stream.specs.laws.GrammarLaws.{changes_short}
use Rattle.vl_stream.specs.laws.LoadLaws.{AreRising, changed_again, contents_loaded, rising_back, rising_front}
use Rattle.vl_stream.specs.laws.StreamLaws.{holds_frames, one_holding}
use Rattle.vl_engine_model.specs.Changes.{changes}
use Rattle.vl_engine_model_laws.specs.laws.ChangeLaws.{changes_rise, contents_from_nothing, contents_later}
use Rattle.vl_frame.specs.Runs.{HasFrame}
use Rattle.vl_frame.specs.laws.NumberLaws.{same_front}
use Rattle.vl_model.specs.History.{History, changed_by, contents_at, last_number}
use Rattle.vl_model.specs.Keys.{Pairs, key_cmp}
use Rattle.vl_model.specs.Limits.{max_key_bytes}
use Rattle.vl_seglog.specs.Commit.{AreRecords}
use Rattle.vl_seglog.specs.Record.{IsRecord}

-- ---- one reading

-- An input holds one list of batches, and is whole or damaged at one place.
pub one_stream : (input : List ℕ) (bs cs : List (List Write)) (f g : Found) → HoldsStream input bs f → HoldsStream input cs g
    → (bs ≡ cs) × (f ≡ g)
one_stream input bs cs f g p q =
    let same = same_front (stream_header p.since) (stream_header q.since) p.rest q.rest refl (sym p.spelled ∙ q.spelled) in
    one_holding stream_grammar 16 [] 0 p.rest bs cs f g p.holds
    (subst (λ (r : List ℕ). Holds stream_grammar 16 [] 0 r cs g) (sym same.1) q.holds)

-- ---- what is written

is_true : (b : Bool) → T b → b ≡ true
is_true true is = refl
is_true false is = absurd is

lawful_front : (a b : List Write) → AreRecords record_format (a ++ b) → AreRecords record_format a
lawful_front [] b all = tt
lawful_front (w ∷ a) b all = (all.0, lawful_front a b all.1)

lawful_back : (a b : List Write) → AreRecords record_format (a ++ b) → AreRecords record_format b
lawful_back [] b all = all
lawful_back (w ∷ a) b all = lawful_back a b all.1

-- each batch is one that a frame can hold
all_have : (bs : List (List Write)) → AreBatches bs → AreRecords record_format (joined bs) → AreRising (joined bs)
    → AllByRecursion (λ (b : List Write). HasFrame stream_grammar (Records b)) bs
all_have [] are lawful rising = tt
all_have (b ∷ bs) are lawful rising =
    let is : AreChanges b = record {
      batch = are.0;
      lawful = lawful_front b (joined bs) lawful;
      rising = is_true (is_sorted key_cmp b) (rising_front b (joined bs) rising);
    } in (
      record { lawful = is; short = (let short = changes_short b is in omega (arith, short)) },
      all_have bs are.2 (lawful_back b (joined bs) lawful) (rising_back b (joined bs) rising),
    )

-- lawful keys aren't empty
above_none : (ws : List Write) → AreRecords record_format ws → T (below_all key_cmp [] ws)
above_none [] lawful = tt
above_none (w ∷ ws) lawful = by w.0 (some_key w lawful.0) (above_none ws lawful.1)
  where
    some_key : (v : Write) → IsRecord record_format v.0 v.1 → 1 ≤ length v.0
    some_key v is =
        let key = and_parts (nat_le 1 (length v.0)) (nat_le (length v.0) max_key_bytes) is.key_length in
        grind (arith, nat_tests, key.0)

    by : (key : List ℕ) → 1 ≤ length key → T (below_all key_cmp [] ws) → T (is_lt (key_cmp [] key) && below_all key_cmp [] ws)
    by [] some later = absurd (omega (arith, some))
    by (b ∷ key) some later = later

-- The stream of lawful records in key order holds them, in their batches, and is whole.
pub stream_holds : (since number : ℕ) (ws : List Write) → since < 2 ^ 64 → number < 2 ^ 64 → length ws < 2 ^ 64
    → AreRecords record_format ws → AreRising ws → HoldsStream (stream since number ws) (batches ws) Whole
stream_holds since number ws since_fits number_fits few lawful rising =
    let whole = batches_whole ws in
    record {
      since = since;
      fits = since_fits;
      rest = frames stream_grammar number ws;
      spelled = refl;
      holds = holds_frames stream_grammar number ws (above_none ws lawful) rising
          (all_have (batches ws) (batches_lawful ws) (subst (AreRecords record_format) (sym whole) lawful)
          (subst AreRising (sym whole) rising))
          (record { lawful = (number_fits, few); short = omega arith });
    }

-- ---- what is loaded

-- A backup that is loaded into what stood at its first number makes it what stands at the other.
pub restores : (h k : History) (since number : ℕ) (bs : List (List Write)) → since ≤ number
    → HoldsStream (stream since number (changes h since number)) (batches (changes h since number)) Whole
    → contents_at k (last_number k) ≡ stood_at h since → HoldsStream (stream since number (changes h since number)) bs Whole
    → contents_at (loaded k bs) (last_number (loaded k bs)) ≡ contents_at h number
restores h k since number bs up own stood holds =
    let ws : List Write = changes h since number in
    let rising : AreRising ws = changes_rise h since number in
    let same = one_stream (stream since number ws) bs (batches ws) Whole Whole holds own in
    let all : joined bs ≡ ws = ap joined same.0 ∙ batches_whole ws in
    contents_loaded k bs (subst AreRising (sym all) rising)
    ∙ ap (λ (pairs : Pairs). changed_by pairs (joined bs)) stood
    ∙ ap (changed_by (stood_at h since)) all
    ∙ by since up
  where
    by : (s : ℕ) → s ≤ number → changed_by (stood_at h s) (changes h s number) ≡ contents_at h number
    by zero le = contents_from_nothing h number
    by (suc s) le = contents_later h s number le

-- Where a front of the batches was loaded before, loading all of them comes to the same.
pub restores_again : (k : History) (front back : List (List Write)) → AreRising (joined (front ++ back))
    → contents_at (loaded (loaded k front) (front ++ back)) (last_number (loaded (loaded k front) (front ++ back)))
    ≡ contents_at (loaded k (front ++ back)) (last_number (loaded k (front ++ back)))
restores_again k front back rising =
    let parts : joined (front ++ back) ≡ joined front ++ joined back = joined-append front back in
    let pairs : Pairs = contents_at k (last_number k) in
    contents_loaded (loaded k front) (front ++ back) rising
    ∙ ap (λ (p : Pairs). changed_by p (joined (front ++ back)))
    (contents_loaded k front (rising_front (joined front) (joined back) (subst AreRising parts rising)))
    ∙ ap (λ (ws : List Write). changed_by (changed_by pairs (joined front)) ws) parts
    ∙ changed_again pairs (joined front) (joined back)
    ∙ ap (changed_by pairs) (sym parts)
    ∙ sym (contents_loaded k (front ++ back) rising)
  where
    joined-append : (a b : List (List Write)) → joined (a ++ b) ≡ joined a ++ joined b
    joined-append [] b = refl
    joined-append (x ∷ a) b = ap (λ (ws : List Write). x ++ ws) (joined-append a b) ∙ sym (append_assoc x (joined a) (joined b))
