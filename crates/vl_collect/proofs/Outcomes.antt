-- What a batch comes to, record by record.
use Rattle.std.proofs.Common.{◌≡◌, ℕ, ◌+◌, ◌<◌, ◌≤◌, List, [], ◌∷◌, ◌++◌, length, drop}
use Rattle.std.proofs.Common.{drop_of_length-le, get_or, ap, sym, ◌∙◌, arith, append_assoc}
use Rattle.std.proofs.lemmas.List.{append-nil, drop_more, length-append, length-map, map-append}
use Rattle.std.proofs.lemmas.List.Sums.{sum_by-append, sum_by-cons}
use Rattle.std.specs.Prelude.{Bool, true, false, Some, None}
use Rattle.vl_collect.specs.Taking.{behind, candidate_of, candidates, one_of, outcome, record_of, records_as}
use Rattle.vl_collect.specs.declared.batch.Found.{Found}
use Rattle.vl_engine_model.specs.Logs.{LogRecord}
use Rattle.vl_engine_model.specs.Relocation.{Batched, Candidate, batch_with, found_in, has_room, taken_from, value_lengths, with_first}
use Rattle.vl_model.specs.Keys.{value_length}
use Rattle.vl_model.specs.declared.entry.Entry.{Entry}
use Rattle.vl_seglog.specs.declared.frame.ReadRecord.{ReadRecord}

lengths-one : (c : Candidate) → value_lengths (c ∷ []) ≡ value_length c.moved.value
lengths-one c =
    let sum = sum_by-cons (λ (d : Candidate). value_length d.moved.value) c [] in
    omega (arith, sum)

module _ (base : List Entry) (segment : ℕ) where
  -- by what is found of the first record
  abbrev step : List Candidate → LogRecord → List LogRecord → List Candidate → Batched
  step cs r rs f =
      let n = length cs in
      let b = value_lengths cs in
      behind cs (batch_with (has_room n b (value_lengths f)) f (taken_from base segment n b rs)
      (taken_from base segment (n + 1) (b + value_lengths f) rs) ([], r ∷ rs))

  pub skipped : (cs : List Candidate) (r : LogRecord) (rs : List LogRecord) → found_in base segment r ≡ []
      → outcome base segment cs (r ∷ rs) ≡ outcome base segment cs rs
  skipped cs r rs none = ap (step cs r rs) none

  pub took : (cs : List Candidate) (c : Candidate) (r : LogRecord) (rs : List LogRecord)
      → found_in base segment r ≡ c ∷ [] → has_room (length cs) (value_lengths cs) (value_length c.moved.value) ≡ true
      → outcome base segment cs (r ∷ rs) ≡ outcome base segment (cs ++ c ∷ []) rs
  took cs c r rs one room =
      let n = length cs in
      let b = value_lengths cs in
      let m = value_lengths (c ∷ []) in
      let f = c ∷ [] in
      let fits : has_room n b m ≡ true = ap (has_room n b) (lengths-one c) ∙ room in
      let T : ℕ → ℕ → Batched = λ n b. taken_from base segment n b rs in
      let count : n + 1 ≡ length (cs ++ f) = sym (length-append cs f) in
      let sum : b + m ≡ value_lengths (cs ++ f) = sym (sum_by-append (λ (d : Candidate). value_length d.moved.value) cs f) in
      ap (step cs r rs) one
      ∙ ap (λ (t : Bool). behind cs (batch_with t f (T n b) (T (n + 1) (b + m)) ([], r ∷ rs))) fits
      ∙ ap (λ (k : ℕ). behind cs (with_first c (T k (b + m)))) count
      ∙ ap (λ (k : ℕ). behind cs (with_first c (T (length (cs ++ f)) k))) sum
      ∙ ap (λ (all : List Candidate). (all, (T (length (cs ++ f)) (value_lengths (cs ++ f))).1))
      (sym (append_assoc cs f (T (length (cs ++ f)) (value_lengths (cs ++ f))).0))

  pub stopped : (cs : List Candidate) (c : Candidate) (r : LogRecord) (rs : List LogRecord)
      → found_in base segment r ≡ c ∷ [] → has_room (length cs) (value_lengths cs) (value_length c.moved.value) ≡ false
      → outcome base segment cs (r ∷ rs) ≡ (cs, r ∷ rs)
  stopped cs c r rs one full =
      let n = length cs in
      let b = value_lengths cs in
      let f = c ∷ [] in
      let fits : has_room n b (value_lengths f) ≡ false = ap (has_room n b) (lengths-one c) ∙ full in
      ap (step cs r rs) one
      ∙ ap (λ (t : Bool). behind cs
      (batch_with t f (taken_from base segment n b rs) (taken_from base segment (n + 1) (b + value_lengths f) rs) ([], r ∷ rs))) fits
      ∙ ap (λ (all : List Candidate). (all, r ∷ rs)) (append-nil cs)

  pub ended : (cs : List Candidate) → outcome base segment cs [] ≡ (cs, [])
  ended cs = ap (λ (all : List Candidate). (all, [])) (append-nil cs)

-- the records from one on
pub records_at : (rs : List ReadRecord) (i : ℕ) (r : ReadRecord) → i < length rs → r ≡ get_or rs i r
    → records_as (drop i rs) ≡ record_of r ∷ records_as (drop (i + 1) rs)
records_at rs i r within is =
    ap records_as (drop_more rs i r within) ∙ ap (λ (x : ReadRecord). record_of x ∷ records_as (drop (i + 1) rs)) (sym is)

pub records_end : (rs : List ReadRecord) (i : ℕ) → length rs ≤ i → records_as (drop i rs) ≡ []
records_end rs i behind = ap records_as (drop_of_length-le rs behind)

length-candidates : (xs : List Found) → length (candidates xs) ≡ length xs
length-candidates xs = length-map xs candidate_of

module _ (base : List Entry) (segment : ℕ) (rs : List ReadRecord) (i : ℕ) (r : ReadRecord) (within : i < length rs)
    (is : r ≡ get_or rs i r) (taken : List Found) where
  -- the record at which a batch is isn't one of those that are found
  pub passed_by : one_of None ≡ found_in base segment (record_of r) → (others : List LogRecord)
      → outcome base segment (candidates taken) (records_as (drop i rs) ++ others)
      ≡ outcome base segment (candidates taken) (records_as (drop (i + 1) rs) ++ others)
  passed_by none others =
      ap (λ (l : List LogRecord). outcome base segment (candidates taken) (l ++ others)) (records_at rs i r within is)
      ∙ skipped base segment (candidates taken) (record_of r) (records_as (drop (i + 1) rs) ++ others) (sym none)

  module _ (x : Found) (one : one_of (Some x) ≡ found_in base segment (record_of r)) where
    -- it is taken
    pub taken_in : has_room (length taken) (value_lengths (candidates taken)) (value_length x.moved.value) ≡ true
        → (others : List LogRecord) → outcome base segment (candidates taken) (records_as (drop i rs) ++ others)
        ≡ outcome base segment (candidates (taken ++ x ∷ [])) (records_as (drop (i + 1) rs) ++ others)
    taken_in room others =
        let rest = records_as (drop (i + 1) rs) ++ others in
        ap (λ (l : List LogRecord). outcome base segment (candidates taken) (l ++ others)) (records_at rs i r within is)
        ∙ took base segment (candidates taken) (candidate_of x) (record_of r) rest (sym one)
        (ap (λ (n : ℕ). has_room n (value_lengths (candidates taken)) (value_length x.moved.value)) (length-candidates taken) ∙ room)
        ∙ ap (λ (cs : List Candidate). outcome base segment cs rest) (sym (map-append candidate_of taken (x ∷ [])))

    -- there is no room for it
    pub left_out : has_room (length taken) (value_lengths (candidates taken)) (value_length x.moved.value) ≡ false
        → (others : List LogRecord) → outcome base segment (candidates taken) (records_as (drop i rs) ++ others)
        ≡ (candidates taken, records_as (drop i rs) ++ others)
    left_out full others =
        let rest = records_as (drop (i + 1) rs) ++ others in
        ap (λ (l : List LogRecord). outcome base segment (candidates taken) (l ++ others)) (records_at rs i r within is)
        ∙ stopped base segment (candidates taken) (candidate_of x) (record_of r) rest (sym one)
        (ap (λ (n : ℕ). has_room n (value_lengths (candidates taken)) (value_length x.moved.value)) (length-candidates taken) ∙ full)
        ∙ ap (λ (l : List LogRecord). (candidates taken, l ++ others)) (sym (records_at rs i r within is))
