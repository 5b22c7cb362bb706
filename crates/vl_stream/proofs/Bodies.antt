-- The body of a frame of changes, as it is read.
use Rattle.std.specs.Prelude.{◌≡◌, ◌⊎◌, ◌<◌, ◌≤◌, ◌^◌, ◌+◌, ℕ, IsTrue, T, Bool, true, false, List, ◌++◌, length, refl}
use Rattle.std.specs.FinMap.{is_sorted}
use Rattle.std.proofs.Common.{sym, ap, ◌∙◌, inl, inr, ⊎_elim, length-append, arith}
use Rattle.byteorder.specs.Endian.{big_bytes}
use Rattle.vl_frame.specs.laws.NumberLaws.{one_number}
use Rattle.vl_model.specs.Keys.{key_cmp}
use Rattle.vl_seglog.specs.Commit.{records_bytes, records_spelling}
use Rattle.vl_seglog.specs.laws.SeriesLaws.{one_series}
use Rattle.vl_stream.proofs.SeriesAbove.{above_of, rise_of, sorted_of}
use Rattle.vl_stream.specs.Batches.{Write, max_bytes, max_records, size_of}
use Rattle.vl_stream.specs.Pieces.{AreChanges, changes_body, record_format}
use Rattle.vl_stream.specs.Reading.{IsSeriesAbove}
use Rattle.vl_stream.specs.Streams.{IsAbove}
use Rattle.vl_stream.specs.laws.GrammarLaws.{batch_few}
use Rattle.vl_stream.specs.laws.LoadLaws.{of_test}

body_is : (ws : List Write) → changes_body ws ≡ big_bytes 4 (length ws) ++ records_bytes record_format ws
unfolding changes_body
body_is ws = refl

is_true : (b : Bool) → T b → IsTrue b
is_true true is = refl
is_true false is = absurd is

-- It is too short for a count.
pub none_short : (body : List ℕ) → length body < 4 → (ws : List Write) → body ≡ changes_body ws → ⊥
none_short body short ws is =
    omega (arith, short, ap length (is ∙ body_is ws), length-append (big_bytes 4 (length ws)) (records_bytes record_format ws))

-- The count, and what stands behind it.
pub record Counts (rest : List ℕ) (count : ℕ) (ws : List Write) : Type 0 where
  pub counted : count ≡ length ws
  pub behind : rest ≡ records_bytes record_format ws

pub counts : (body rest : List ℕ) (count : ℕ) → count < 2 ^ 32 → body ≡ big_bytes 4 count ++ rest → (ws : List Write)
    → AreChanges ws → body ≡ changes_body ws → Counts rest count ws
counts body rest count fits is ws are says =
    let few = batch_few ws are in
    let both = one_number 4 count (length ws) rest (records_bytes record_format ws) fits (omega (arith, few))
    (sym is ∙ says ∙ body_is ws) in
    record { counted = both.0; behind = both.1 }

-- It isn't the count of a batch.
pub none_counted : (body rest : List ℕ) (count : ℕ) → count < 2 ^ 32 → body ≡ big_bytes 4 count ++ rest
    → (count ≡ 0) ⊎ (max_records < count) → (ws : List Write) → AreChanges ws → body ≡ changes_body ws → ⊥
none_counted body rest count fits is wrong ws are says =
    let counted = (counts body rest count fits is ws are says).counted in
    let few = batch_few ws are in
    let some = are.batch.some in
    ⊎_elim (λ (none : count ≡ 0). omega (arith, counted, some, none))
    (λ (many : max_records < count). omega (arith, counted, few, many)) wrong

series_of : (last body rest : List ℕ) (count : ℕ) → count < 2 ^ 32 → body ≡ big_bytes 4 count ++ rest → (ws : List Write)
    → AreChanges ws → IsAbove last ws → body ≡ changes_body ws → IsSeriesAbove last rest count ws
series_of last body rest count fits is ws are above says =
    let c = counts body rest count fits is ws are says in
    record {
      series = record { counted = sym c.counted; lawful = are.lawful; spelled = c.behind };
      rise = rise_of last ws above (of_test (is_sorted key_cmp ws) are.rising);
    }

-- No such records stand behind the count.
pub none_series : (last body rest : List ℕ) (count : ℕ) → count < 2 ^ 32 → body ≡ big_bytes 4 count ++ rest
    → ((ws : List Write) → IsSeriesAbove last rest count ws → ⊥) → (ws : List Write) → AreChanges ws → IsAbove last ws
    → body ≡ changes_body ws → ⊥
none_series last body rest count fits is none ws are above says =
    none ws (series_of last body rest count fits is ws are above says)

-- Two or more have too many bytes.
pub none_light : (last body rest : List ℕ) (count : ℕ) (read : List Write) → count < 2 ^ 32 → body ≡ big_bytes 4 count ++ rest
    → IsSeriesAbove last rest count read → 1 < count → max_bytes < size_of read → (ws : List Write) → AreChanges ws
    → IsAbove last ws → body ≡ changes_body ws → ⊥
none_light last body rest count read fits is found many heavy ws are above says =
    let own = (series_of last body rest count fits is ws are above says).series in
    let same : read ≡ ws = one_series (records_spelling record_format) read ws found.series.lawful own.lawful
    (found.series.counted ∙ sym own.counted) (sym found.series.spelled ∙ own.spelled) in
    let size : size_of read ≡ size_of ws = ap size_of same in
    ⊎_elim (λ (one : length ws ≡ 1). omega (arith, own.counted, one, many))
    (λ (both : (length ws ≤ max_records) × (size_of ws ≤ max_bytes)). let light = both.1 in omega (arith, light, size, heavy))
    are.batch.bounds

pub light_so : (count bytes : ℕ) (ws : List Write) → bytes ≡ size_of ws → ((1 < count) × (bytes ≤ max_bytes)) ⊎ (count ≤ 1)
    → (count ≤ 1) ⊎ (size_of ws ≤ max_bytes)
light_so count bytes ws is either = ⊎_elim
    (λ (many : (1 < count) × (bytes ≤ max_bytes)). let light = many.1 in inr (omega (arith, is, light)))
    (λ (one : count ≤ 1). inl one) either

-- They are a batch's.
pub changes_found : (last body rest : List ℕ) (count : ℕ) (ws : List Write) → body ≡ big_bytes 4 count ++ rest
    → IsSeriesAbove last rest count ws → 1 ≤ count → count ≤ max_records → (count ≤ 1) ⊎ (size_of ws ≤ max_bytes)
    → AreChanges ws × IsAbove last ws × (body ≡ changes_body ws)
changes_found last body rest count ws is found some few light =
    let counted = found.series.counted in
    let bounds : (length ws ≡ 1) ⊎ ((length ws ≤ max_records) × (size_of ws ≤ max_bytes)) =
    ⊎_elim (λ (one : count ≤ 1). inl (omega (arith, counted, one, some)))
    (λ (small : size_of ws ≤ max_bytes). inr (omega (arith, counted, few), small)) light in (
      record {
        batch = record { some = omega (arith, counted, some); bounds = bounds };
        lawful = found.series.lawful;
        rising = is_true (is_sorted key_cmp ws) (sorted_of last ws found.rise);
      },
      above_of last ws found.rise,
      is ∙ ap (λ (n : ℕ). big_bytes 4 n ++ rest) (sym counted)
          ∙ ap (λ (l : List ℕ). big_bytes 4 (length ws) ++ l) found.series.spelled ∙ sym (body_is ws),
    )
