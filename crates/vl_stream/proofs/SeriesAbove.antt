-- Records whose keys rise, as they are read from the left.
use Rattle.std.specs.Prelude.{◌≡◌, ℕ, ◌+◌, ◌<◌, ◌≤◌, T, Bool, true, false, ◌&&◌, List, [], ◌∷◌, ◌++◌, length, drop, take, ◌-◌}
use Rattle.std.specs.Prelude.{refl}
use Rattle.std.proofs.Common.{sym, ap, subst, ◌∙◌, append_assoc, length-append, arith}
use Rattle.std.specs.FinMap.{is_sorted}
use Rattle.std.specs.FinMap.Entries.{below_all}
use Rattle.std.specs.Ordering.{is_lt}
use Rattle.std.specs.Cmp.Lexicographic.{nat_list_cmp_total}
use Rattle.std.specs.declared.cmp.Ordering.{Ordering}
use Rattle.std.specs.declared.cmp.Ordering.TheVariants.{Less, Equal, Greater}
use Rattle.std.proofs.lemmas.List.{append-nil, drop_at, take_rest}
use Rattle.vl_stream.specs.Batches.{Write}
use Rattle.vl_stream.specs.Pieces.{record_format}
use Rattle.vl_stream.specs.Reading.{IsSeriesAbove, RiseFrom}
use Rattle.vl_stream.specs.Streams.{IsAbove, last_key}
use Rattle.vl_model.specs.Frames.{record_length}
use Rattle.vl_model.specs.Keys.{key_cmp}
use Rattle.vl_model.specs.declared.change.Change.{Change}
use Rattle.vl_seglog.specs.Commit.{AreRecords, records_bytes, records_spelling}
use Rattle.vl_seglog.specs.Record.{IsRecord, IsSpelled, record_bytes}
use Rattle.vl_seglog.specs.Series.{IsSeries}
use Rattle.vl_seglog.specs.laws.RecordLaws.{length-record_bytes}

-- so many records were read, the last of which has this key, and the rest is still to be read
pub record SoFar (from bytes : List ℕ) (count : ℕ) (read : List Write) (rest before : List ℕ) : Type 0 where
  pub counted : length read ≡ count
  pub lawful : AreRecords record_format read
  pub spelled : bytes ≡ records_bytes record_format read ++ rest
  pub rise : RiseFrom from read
  pub last : before ≡ last_key from read

-- ---- lists

bytes-append : (a b : List Write)
    → records_bytes record_format (a ++ b) ≡ records_bytes record_format a ++ records_bytes record_format b
bytes-append [] b = refl
bytes-append (w ∷ a) b = ap (λ (r : List ℕ). record_bytes record_format w.0 w.1 ++ r) (bytes-append a b)
    ∙ sym (append_assoc (record_bytes record_format w.0 w.1) (records_bytes record_format a) (records_bytes record_format b))

lawful-more : (a : List Write) (w : Write) → AreRecords record_format a → IsRecord record_format w.0 w.1
    → AreRecords record_format (a ++ w ∷ [])
lawful-more [] w p q = (q, tt)
lawful-more (x ∷ a) w p q = (p.0, lawful-more a w p.1 q)

rise-more : (from : List ℕ) (a : List Write) (w : Write) → RiseFrom from a → T (is_lt (key_cmp (last_key from a) w.0))
    → RiseFrom from (a ++ w ∷ [])
rise-more from [] w p less = (less, tt)
rise-more from (x ∷ a) w p less = (p.0, rise-more x.0 a w p.1 less)

last-more : (from : List ℕ) (a : List Write) (w : Write) → last_key from (a ++ w ∷ []) ≡ w.0
last-more from [] w = refl
last-more from (x ∷ a) w = last-more x.0 a w

-- behind some that rise the next is above the last of these
rise_there : (from : List ℕ) (a : List Write) (w : Write) (later : List Write) → RiseFrom from (a ++ w ∷ later)
    → T (is_lt (key_cmp (last_key from a) w.0))
rise_there from [] w later p = p.0
rise_there from (x ∷ a) w later p = rise_there x.0 a w later p.1

-- ---- one more

pub record TookOne (bytes : List ℕ) (n : ℕ) (key : List ℕ) (change : Change) : Type 0 where
  pub within : n ≤ length bytes
  pub spelled : bytes ≡ record_bytes record_format key change ++ drop n bytes

pub took_one : (bytes : List ℕ) (n : ℕ) (key : List ℕ) (change : Change) → IsSpelled record_format bytes key change
    → n ≡ record_length record_format key change → TookOne bytes n key change
took_one bytes n key change s size =
    let len = length-record_bytes record_format key change in
    let whole : length bytes ≡ length (record_bytes record_format key change) + length s.rest = ap length s.parts
    ∙ length-append (record_bytes record_format key change) s.rest in
    let behind : drop n bytes ≡ s.rest =
    ap (drop n) s.parts ∙ drop_at (record_bytes record_format key change) s.rest n (len ∙ sym size) in
    record {
      within = omega (arith, whole, len, size);
      spelled = s.parts ∙ ap (λ (r : List ℕ). record_bytes record_format key change ++ r) (sym behind);
    }

pub read_one : (from bytes : List ℕ) (count : ℕ) (read now : List Write) (rest before : List ℕ) (n : ℕ) (key : List ℕ)
    (change : Change) → SoFar from bytes count read rest before → IsSpelled record_format rest key change
    → n ≡ record_length record_format key change → T (is_lt (key_cmp before key)) → now ≡ read ++ (key, change) ∷ []
    → SoFar from bytes (count + 1) now (drop n rest) key
read_one from bytes count read now rest before n key change so_far s size less pushed =
    let took = took_one rest n key change s size in
    let w : Write = (key, change) in
    let one : records_bytes record_format (w ∷ []) ≡ record_bytes record_format key change =
    append-nil (record_bytes record_format key change) in
    subst (λ (r : List Write). SoFar from bytes (count + 1) r (drop n rest) key) (sym pushed) (record {
      counted = length-append read (w ∷ []) ∙ ap (λ (n : ℕ). n + 1) so_far.counted;
      lawful = lawful-more read w so_far.lawful s.lawful;
      spelled = so_far.spelled ∙ ap (λ (r : List ℕ). records_bytes record_format read ++ r) took.spelled
          ∙ sym (append_assoc (records_bytes record_format read) (record_bytes record_format key change) (drop n rest))
          ∙ ap (λ (r : List ℕ). (records_bytes record_format read ++ r) ++ drop n rest) (sym one)
          ∙ ap (λ (r : List ℕ). r ++ drop n rest) (sym (bytes-append read (w ∷ [])));
      rise = rise-more from read w so_far.rise (subst (λ (k : List ℕ). T (is_lt (key_cmp k key))) so_far.last less);
      last = sym (last-more from read w);
    })

-- the same of copies; and the rest as a slice has it
pub read_copy : (from bytes : List ℕ) (count : ℕ) (read now : List Write) (rest before : List ℕ) (n : ℕ) (key copy : List ℕ)
    (change copied : Change)
    → SoFar from bytes count read rest before → IsSpelled record_format rest key change
    → n ≡ record_length record_format key change → T (is_lt (key_cmp before key)) → copy ≡ key → copied ≡ change
    → now ≡ read ++ (copy, copied) ∷ [] → SoFar from bytes (count + 1) now (take (length rest - n) (drop n rest)) key
read_copy from bytes count read now rest before n key copy change copied so_far s size less same_key same_change pushed =
    subst (λ (r : List ℕ). SoFar from bytes (count + 1) now r key) (sym (take_rest rest n))
    (read_one from bytes count read now rest before n key change so_far s size less
    (pushed ∙ ap (λ (k : List ℕ). read ++ (k, copied) ∷ []) same_key ∙ ap (λ (x : Change). read ++ (key, x) ∷ []) same_change))

-- ---- where there are none

-- what a series has behind the records that were read
record Behind (read items : List Write) (rest : List ℕ) : Type 0 where
  later : List Write
  split : items ≡ read ++ later
  lawful : AreRecords record_format later
  spelled : rest ≡ records_bytes record_format later

behind : (read items : List Write) (rest : List ℕ) → AreRecords record_format read → AreRecords record_format items
    → length read ≤ length items → records_bytes record_format read ++ rest ≡ records_bytes record_format items
    → Behind read items rest
behind [] items rest p q le e = record { later = items; split = refl; lawful = q; spelled = e }
behind (r ∷ read) [] rest p q le e = absurd (omega arith)
behind (r ∷ read) (x ∷ items) rest p q le e =
    let same = (records_spelling record_format).one r x (records_bytes record_format read ++ rest)
    (records_bytes record_format items) p.0 q.0
    (sym (append_assoc (record_bytes record_format r.0 r.1) (records_bytes record_format read) rest) ∙ e) in
    let b = behind read items rest p.1 q.1 (omega (arith, le)) same.1 in
    record {
      later = b.later;
      split = ap (λ (y : Write). y ∷ items) (sym same.0) ∙ ap (λ (ys : List Write). r ∷ ys) b.split;
      lawful = b.lawful;
      spelled = b.spelled;
    }

behind_so_far : (from bytes : List ℕ) (count total : ℕ) (read items : List Write) (rest before : List ℕ)
    → SoFar from bytes count read rest before → count ≤ total → IsSeries (records_spelling record_format) bytes total items
    → Behind read items rest
behind_so_far from bytes count total read items rest before so_far le series =
    behind read items rest so_far.lawful series.lawful (omega (arith, so_far.counted, series.counted, le))
    (sym so_far.spelled ∙ series.spelled)

later_counted : (from bytes : List ℕ) (count total : ℕ) (read items : List Write) (rest before : List ℕ)
    (so_far : SoFar from bytes count read rest before) (series : IsSeries (records_spelling record_format) bytes total items)
    (b : Behind read items rest) → count + length b.later ≡ total
later_counted from bytes count total read items rest before so_far series b =
    omega (arith, so_far.counted, series.counted, ap length b.split, length-append read b.later)

-- no record stands at the front of the rest
pub none_cut : (from bytes : List ℕ) (count total : ℕ) (read : List Write) (rest before : List ℕ)
    → SoFar from bytes count read rest before → count < total
    → ((key : List ℕ) (change : Change) → IsSpelled record_format rest key change → ⊥)
    → (items : List Write) → IsSeriesAbove from bytes total items → ⊥
none_cut from bytes count total read rest before so_far less none items is =
    let b = behind_so_far from bytes count total read items rest before so_far (omega (arith, less)) is.series in
    by b.later (later_counted from bytes count total read items rest before so_far is.series b) b.lawful b.spelled
  where
    by : (later : List Write) → count + length later ≡ total → AreRecords record_format later
        → rest ≡ records_bytes record_format later → ⊥
    by [] counted lawful e = omega (arith, counted, less)
    by (w ∷ later) counted lawful e =
        none w.0 w.1 (record { lawful = lawful.0; rest = records_bytes record_format later; parts = e })

-- the record at the front of the rest isn't above
pub none_above : (from bytes : List ℕ) (count total : ℕ) (read : List Write) (rest before : List ℕ) (key : List ℕ)
    (change : Change) → SoFar from bytes count read rest before → count < total → IsSpelled record_format rest key change
    → (T (is_lt (key_cmp before key)) → ⊥) → (items : List Write) → IsSeriesAbove from bytes total items → ⊥
none_above from bytes count total read rest before key change so_far less s not_less items is =
    let b = behind_so_far from bytes count total read items rest before so_far (omega (arith, less)) is.series in
    by b.later b.split (later_counted from bytes count total read items rest before so_far is.series b) b.lawful b.spelled
  where
    by : (later : List Write) → items ≡ read ++ later → count + length later ≡ total → AreRecords record_format later
        → rest ≡ records_bytes record_format later → ⊥
    by [] split counted lawful e = omega (arith, counted, less)
    by (w ∷ later) split counted lawful e =
        let same = (records_spelling record_format).one (key, change) w s.rest (records_bytes record_format later) s.lawful
        lawful.0
        (sym s.parts ∙ e) in
        let above : T (is_lt (key_cmp (last_key from read) w.0)) =
        rise_there from read w later (subst (RiseFrom from) split is.rise) in
        not_less (subst (λ (k : List ℕ). T (is_lt (key_cmp k key))) (sym so_far.last)
        (subst (λ (x : Write). T (is_lt (key_cmp (last_key from read) x.0))) (sym same.0) above))

-- bytes are left over
pub none_over : (from bytes : List ℕ) (count total : ℕ) (read : List Write) (rest before : List ℕ)
    → SoFar from bytes count read rest before → count ≡ total → 0 < length rest → (items : List Write)
    → IsSeriesAbove from bytes total items → ⊥
none_over from bytes count total read rest before so_far same some items is =
    let b = behind_so_far from bytes count total read items rest before so_far (omega (arith, same)) is.series in
    by b.later (later_counted from bytes count total read items rest before so_far is.series b) b.spelled
  where
    by : (later : List Write) → count + length later ≡ total → rest ≡ records_bytes record_format later → ⊥
    by [] counted e = omega (arith, some, ap length e)
    by (w ∷ later) counted e = omega (arith, counted, same)

-- ---- tests of two keys

pub is_below : (order of : Ordering) (test : Bool) → order ≡ of → test ≡ is_lt order → test ≡ true → T (is_lt of)
is_below order of test same says is = subst T (sym (sym (ap is_lt same) ∙ sym says ∙ is)) tt

pub not_below : (order of : Ordering) (test : Bool) → order ≡ of → test ≡ is_lt order → test ≡ false → T (is_lt of) → ⊥
not_below order of test same says is less = subst T (sym (ap is_lt same) ∙ sym says ∙ is) less

-- ---- rising one by one, and above all

is_less : (o : Ordering) → T (is_lt o) → o ≡ Less
is_less Less t = refl
is_less Equal t = absurd t
is_less Greater t = absurd t

both_parts : (a b : Bool) → T a → T b → T (a && b)
both_parts true b p q = q
both_parts false b p q = absurd p

below_all_of : (key : List ℕ) (ws : List Write) → RiseFrom key ws → T (below_all key_cmp key ws)
below_all_of key [] rise = tt
below_all_of key (w ∷ ws) rise =
    both_parts (is_lt (key_cmp key w.0)) (below_all key_cmp key ws) rise.0
    (below_all_of key ws (from_below key w.0 ws rise.0 rise.1))
  where
    from_below : (low high : List ℕ) (xs : List Write) → T (is_lt (key_cmp low high)) → RiseFrom high xs → RiseFrom low xs
    from_below low high [] less rise = tt
    from_below low high (x ∷ xs) less rise =
        let first : key_cmp low x.0 ≡ Less =
        nat_list_cmp_total.trans low high x.0 (is_less (key_cmp low high) less) (is_less (key_cmp high x.0) rise.0) in
        (subst (λ (o : Ordering). T (is_lt o)) (sym first) tt, rise.1)

pub sorted_of : (key : List ℕ) (ws : List Write) → RiseFrom key ws → T (is_sorted key_cmp ws)
sorted_of key [] rise = tt
sorted_of key (w ∷ ws) rise =
    both_parts (below_all key_cmp w.0 ws) (is_sorted key_cmp ws) (below_all_of w.0 ws rise.1) (sorted_of w.0 ws rise.1)

pub above_of : (key : List ℕ) (ws : List Write) → RiseFrom key ws → IsAbove key ws
above_of key [] rise = tt
above_of key (w ∷ ws) rise = rise.0

first_part : (a b : Bool) → T (a && b) → T a
first_part true b p = tt
first_part false b p = absurd p

second_part : (a b : Bool) → T (a && b) → T b
second_part true b p = p
second_part false b p = absurd p

pub rise_of : (key : List ℕ) (ws : List Write) → IsAbove key ws → T (is_sorted key_cmp ws) → RiseFrom key ws
rise_of key [] above sorted = tt
rise_of key (w ∷ ws) above sorted = (
  above,
  rise_of w.0 ws (next ws (first_part (below_all key_cmp w.0 ws) (is_sorted key_cmp ws) sorted))
      (second_part (below_all key_cmp w.0 ws) (is_sorted key_cmp ws) sorted),
)
  where
    next : (xs : List Write) → T (below_all key_cmp w.0 xs) → IsAbove w.0 xs
    next [] below = tt
    next (x ∷ xs) below = first_part (is_lt (key_cmp w.0 x.0)) (below_all key_cmp w.0 xs) below
