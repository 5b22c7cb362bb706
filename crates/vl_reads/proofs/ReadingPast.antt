-- What a read of the past is answered, exit by exit.
use Rattle.std.proofs.Common.{◌≡◌, ℕ, ◌+◌, ◌≤◌, ◌<◌, Bool, true, false, cond, List, [], refl, ap, sym, ◌∙◌, subst, arith}
use Rattle.std.proofs.lemmas.Bool.Decides.{nat_tests}
use Rattle.std.specs.Prelude.{◌==◌, nat_le, nat_lt, if◌then◌else◌, length, min, Option, Some, None, Result, Ok, Err, IsErrAnd, ⊤}
use Rattle.vl_disk.specs.Faults.{HasCause}
use Rattle.vl_disk.specs.declared.name.Name.{Name}
use Rattle.vl_reads.specs.Past.{IsWithin, ReadsPast, ShowsPast, as_at_fail, as_failed_at, beginning, if_above}
use Rattle.vl_version.specs.LiesOver.{IsInMemory}
use Rattle.vl_reads.specs.declared.fails.AtFail.{AtFail}
use Rattle.vl_reads.specs.declared.fails.AtFail.TheVariants as why
use Rattle.vl_reads.specs.declared.past.Past.{Past}
use Rattle.vl_reads.specs.laws.PastLaws.{above_more}
use Rattle.vl_engine_model.specs.AtAnswer.{Ahead, AtAnswer, Dropped, EmptyKey, Found, KeyTooLong, at_answer, at_answer_by}
use Rattle.vl_model.specs.History.{History, value_at}
use Rattle.vl_model.specs.Keys.{Stored}
use Rattle.vl_model.specs.Limits.{max_key_bytes}
use Rattle.vl_model.specs.Numbers.{at_least, low_of, nth_below}
use Rattle.vl_model.specs.Versions.{low, versions_in}
use Rattle.vl_model.specs.Winners.{Logs, resolved_at, winner}
use Rattle.vl_model.specs.declared.entry.Entry.{Entry}
use Rattle.vl_table.specs.Kept.{Files}
use Rattle.vl_table.specs.KeptBlocks.{AreKept, ReadsOf}
use Rattle.vl_table.specs.declared.block_reader.BlockReader.{BlockReader}
use Rattle.vl_txn.specs.Refusals.{refused_key, unless}
use Rattle.vl_txn.specs.declared.key_fail.KeyFail.{KeyFail}
use Rattle.vl_txn.specs.declared.key_fail.KeyFail.TheVariants as keys
use Rattle.vl_version.specs.Answers.{Gives}
use Rattle.vl_version.specs.Faults.{Failed}
use Rattle.vl_version.specs.Near.{AreNear}
use Rattle.vl_version.specs.Past.{IsVersion, SeeksVersion}
use Rattle.vl_version.specs.Sources.{HasEntries, in_memory, tables_in}
use Rattle.vl_disk.specs.declared.read_fault.ReadFault.{ReadFault as VersionFault}
use Rattle.vl_disk.specs.declared.read_fault.ReadFault.TheVariants as fault
use Rattle.vl_version.specs.declared.version.Version.{Version}

-- ---- the least number

module _ {H R : Type 0} (bytes : H → Option (List ℕ)) (faults : R → ℕ) (version : Version H) (key : List ℕ) (past : Past) (at : ℕ) where
  -- what is looked for
  abbrev pub least_in : List Entry → Option ℕ
  least_in es = if_above at (low_of (versions_in es key) past.floor past.keep past.since)

  abbrev oldest_in : List Entry → Option ℕ
  oldest_in es = nth_below (versions_in es key) (past.floor + 1) past.keep

  -- It is known without reading,
  pub low_known : (b : BlockReader R) (o : Option ℕ)
      → ((ns : List ℕ) → o ≡ if_above at (low_of ns past.floor past.keep past.since))
      → SeeksVersion bytes faults version least_in b b (Ok o)
  low_known b o is = record {
    cause = record { later = omega arith; rose = λ failed. absurd failed; steady = λ fine. refl };
    near = λ untabled failed. failed;
    kept = λ files reads. reads.kept;
    answers = λ files es logs reads has. is (versions_in es key);
  }

  -- or a version couldn't be looked for,
  pub low_failed : (old new : BlockReader R) (e : VersionFault) (r : Result (Option ℕ) VersionFault) → IsErrAnd r (λ f. f ≡ e)
      → SeeksVersion bytes faults version oldest_in old new (Err e) → SeeksVersion bytes faults version least_in old new r
  low_failed old new e (Ok found) failed seeks = absurd failed
  low_failed old new e (Err f) failed seeks =
      subst (λ (g : VersionFault). SeeksVersion bytes faults version least_in old new (Err g)) (sym failed) (record {
        cause = seeks.cause;
        near = seeks.near;
        kept = seeks.kept;
        answers = λ files es logs reads has. same_fault (oldest_in es) (least_in es) e (seeks.answers files es logs reads has);
      })
    where
      same_fault : (a b : Option ℕ) (g : VersionFault) → IsVersion a (Err g) → IsVersion b (Err g)
      same_fault a b fault.NoMemory is = tt
      same_fault a b (fault.Disk name) is = tt
      same_fault a b (fault.Damaged name place) is = is

  -- or it is by the oldest version of those that are kept.
  pub low_found : (old new : BlockReader R) (o found : Option ℕ) → 2 ≤ past.keep
      → found ≡ if_above at (min past.floor (at_least past.since o))
      → SeeksVersion bytes faults version oldest_in old new (Ok o) → SeeksVersion bytes faults version least_in old new (Ok found)
  low_found old new o found more is seeks = record {
    cause = seeks.cause;
    near = λ untabled failed. failed;
    kept = seeks.kept;
    answers = λ files es logs reads has.
        is ∙ above_more (versions_in es key) past.floor past.keep past.since at more o (seeks.answers files es logs reads has);
  }

-- ---- by what it is refused

module _ (number least : ℕ) (value : Option Stored) (key : List ℕ) (at : ℕ) where
  abbrev behind : AtAnswer
  behind = if nat_lt number at then Ahead number else (if nat_lt at least then Dropped least else Found value)

  abbrev by_long : Bool → AtAnswer
  by_long long = if long then KeyTooLong else behind

  abbrev by_empty : Bool → AtAnswer
  by_empty empty = if empty then EmptyKey else by_long (nat_lt max_key_bytes (length key))

  abbrev refused_by : Bool → Bool → Option KeyFail
  refused_by empty fits = if empty then Some keys.EmptyKey else (if fits then None else Some keys.KeyTooLong)

  -- by the refusal of the key
  abbrev by_refusal : Option KeyFail → AtAnswer
  by_refusal None = behind
  by_refusal (Some keys.EmptyKey) = EmptyKey
  by_refusal (Some keys.KeyTooLong) = KeyTooLong

  answered : at_answer_by number least value key at ≡ by_refusal (refused_key key)
  answered = by (length key == 0) refl (nat_le (length key) max_key_bytes) refl
    where
      by : (empty : Bool) → (length key == 0) ≡ empty → (fits : Bool) → nat_le (length key) max_key_bytes ≡ fits
          → at_answer_by number least value key at ≡ by_refusal (refused_key key)
      by true is fits within =
          ap by_empty is ∙ sym (ap (λ (b : Bool). by_refusal (refused_by b (nat_le (length key) max_key_bytes))) is)
      by false is true within =
          let short : nat_lt max_key_bytes (length key) ≡ false = grind (arith, nat_tests, within) in
          ap by_empty is ∙ ap by_long short
          ∙ sym (ap (λ (b : Bool). by_refusal (refused_by b (nat_le (length key) max_key_bytes))) is
          ∙ ap (λ (b : Bool). by_refusal (refused_by false b)) within)
      by false is false within =
          let long : nat_lt max_key_bytes (length key) ≡ true = grind (arith, nat_tests, within) in
          ap by_empty is ∙ ap by_long long
          ∙ sym (ap (λ (b : Bool). by_refusal (refused_by b (nat_le (length key) max_key_bytes))) is
          ∙ ap (λ (b : Bool). by_refusal (refused_by false b)) within)

  pub answered_refused : (refusal : Option KeyFail) → refused_key key ≡ refusal
      → at_answer_by number least value key at ≡ by_refusal refusal
  answered_refused refusal is = answered ∙ ap by_refusal is

  pub answered_ahead : refused_key key ≡ None → number < at → at_answer_by number least value key at ≡ Ahead number
  answered_ahead allowed above =
      let is : nat_lt number at ≡ true = grind (arith, nat_tests, above) in
      answered_refused None allowed
      ∙ ap (λ (b : Bool). cond b (Ahead number) (if nat_lt at least then Dropped least else Found value)) is

  by_least : refused_key key ≡ None → at ≤ number
      → at_answer_by number least value key at ≡ (if nat_lt at least then Dropped least else Found value)
  by_least allowed within =
      let is : nat_lt number at ≡ false = grind (arith, nat_tests, within) in
      answered_refused None allowed
      ∙ ap (λ (b : Bool). cond b (Ahead number) (if nat_lt at least then Dropped least else Found value)) is

  -- below the least number it was dropped,
  pub answered_dropped : refused_key key ≡ None → at ≤ number → (found : ℕ) → Some found ≡ if_above at least
      → at_answer_by number least value key at ≡ Dropped found
  answered_dropped allowed within found is = by_least allowed within ∙ by (nat_lt at least) is
    where
      by : (b : Bool) → Some found ≡ cond b (Some least) None → cond b (Dropped least) (Found value) ≡ Dropped found
      by true same = ap Dropped (sym (inner found least same))
        where
          inner : (m n : ℕ) → Some m ≡ Some n → m ≡ n
          inner m n e = cc
      by false same = absurd cc

  -- and from there on it is found
  pub answered_found : refused_key key ≡ None → at ≤ number → None ≡ if_above at least
      → (least ≤ at) × (at_answer_by number least value key at ≡ Found value)
  answered_found allowed within is = by (nat_lt at least) refl is
    where
      by : (b : Bool) → nat_lt at least ≡ b → None ≡ cond b (Some least) None
          → (least ≤ at) × (at_answer_by number least value key at ≡ Found value)
      by true below same = absurd cc
      by false below same = (
        (grind (arith, nat_tests, below)),
        by_least allowed within ∙ ap (λ (b : Bool). cond b (Dropped least) (Found value)) below,
      )

-- ---- each exit

module _ {H R : Type 0} (bytes : H → Option (List ℕ)) (faults : R → ℕ) (version : Version H) (past : Past) (number : ℕ) (key : List ℕ)
    (at : ℕ) where
  abbrev Reads : BlockReader R → BlockReader R → Result (Option Stored) AtFail → Type 0
  Reads old new result = ReadsPast bytes faults version past number key at old new result

  abbrev Seeks : BlockReader R → BlockReader R → Result (Option ℕ) VersionFault → Type 0
  Seeks old new result = SeeksVersion bytes faults version (least_in bytes faults version key past at) old new result

  still : (b : BlockReader R) (failed : Type 0) → (failed → ⊥) → HasCause (faults b.reader) (faults b.reader) failed
  still b failed never = record { later = omega arith; rose = λ did. absurd (never did); steady = λ fine. refl }

  handed : (old new : BlockReader R) (e : AtFail) (r : Result (Option Stored) AtFail) → IsErrAnd r (λ f. f ≡ e) → Reads old new (Err e)
      → Reads old new r
  handed old new e (Ok value) failed is = absurd failed
  handed old new e (Err f) failed is = subst (λ (g : AtFail). Reads old new (Err g)) (sym failed) is

  -- the key is refused,
  pub refused_past : (b : BlockReader R) (refusal : KeyFail) (r : Result (Option Stored) AtFail) → refused_key key ≡ Some refusal
      → IsErrAnd r (λ f. f ≡ as_at_fail refusal) → Reads b b r
  refused_past b refusal r is failed = handed b b (as_at_fail refusal) r failed (by refusal is)
    where
      by : (w : KeyFail) → refused_key key ≡ Some w → Reads b b (Err (as_at_fail w))
      by keys.EmptyKey same = record {
        cause = still b ⊥ (λ e. e);
        near = λ memory did. did;
        kept = λ files reads. reads.kept;
        refused = same;
        answers = λ files h reads shows.
            answered_refused number (low h past.floor past.keep past.since key) (value_at h at key) key at (Some keys.EmptyKey) same;
      }
      by keys.KeyTooLong same = record {
        cause = still b ⊥ (λ e. e);
        near = λ memory did. did;
        kept = λ files reads. reads.kept;
        refused = same;
        answers = λ files h reads shows.
            answered_refused number (low h past.floor past.keep past.since key) (value_at h at key) key at (Some keys.KeyTooLong) same;
      }

  -- or the number is ahead,
  pub ahead_past : (b : BlockReader R) → refused_key key ≡ None → number < at → Reads b b (Err (why.Ahead number))
  ahead_past b allowed above = record {
    cause = still b ⊥ (λ e. e);
    near = λ memory did. did;
    kept = λ files reads. reads.kept;
    refused = (allowed, refl, above);
    answers = λ files h reads shows.
        answered_ahead number (low h past.floor past.keep past.since key) (value_at h at key) key at allowed above;
  }

  by_fault : (T : Type 0) (old new : BlockReader R) (e : VersionFault) → IsWithin number key at
      → HasCause (faults old.reader) (faults new.reader) (Failed {T = T} (Err e))
      → (IsInMemory version → Failed {T = T} (Err e) → ⊥)
      → ((files : Files) → ReadsOf bytes files old (tables_in version) → AreKept files new)
      → ((files : Files) (h : History) → ReadsOf bytes files old (tables_in version) → ShowsPast bytes version past number h
      → (name : Name) (place : ℕ) → e ≡ fault.Damaged name place → ⊥)
      → Reads old new (Err (as_failed_at e))
  by_fault T old new fault.NoMemory within cause near kept sound =
      record { cause = cause; near = near; kept = kept; refused = within; answers = λ files h reads shows. tt }
  by_fault T old new (fault.Disk name) within cause near kept sound =
      record { cause = cause; near = near; kept = kept; refused = within; answers = λ files h reads shows. tt }
  by_fault T old new (fault.Damaged name place) within cause near kept sound =
      record {
        cause = cause;
        near = near;
        kept = kept;
        refused = within;
        answers = λ files h reads shows. sound files h
            reads shows name place refl;
      }

  -- or the least number wasn't found,
  pub sought_past : (old new : BlockReader R) (e : VersionFault) (r : Result (Option Stored) AtFail) → IsWithin number key at
      → IsErrAnd r (λ f. f ≡ as_failed_at e) → Seeks old new (Err e) → Reads old new r
  sought_past old new e r within failed seeks =
      handed old new (as_failed_at e) r failed
      (by_fault (Option ℕ) old new e within seeks.cause (λ memory. seeks.near memory.tables) seeks.kept
      (λ files h reads shows name place is.
      subst (λ (f : VersionFault). IsVersion (least_in bytes faults version key past at shows.entries_of) (Err f)) is
      (seeks.answers files shows.entries_of shows.logs reads shows.has)))

  -- what is found is by the history
  low_is : (o : Option ℕ) (old new : BlockReader R) → Seeks old new (Ok o) → (files : Files) (h : History)
      → ReadsOf bytes files old (tables_in version) → ShowsPast bytes version past number h
      → o ≡ if_above at (low h past.floor past.keep past.since key)
  low_is o old new seeks files h reads shows =
      seeks.answers files shows.entries_of shows.logs reads shows.has ∙ ap (if_above at) (shows.exact key)

  -- or the number is below it,
  pub dropped_past : (old new : BlockReader R) (o : Option ℕ) (least : ℕ) → IsWithin number key at → o ≡ Some least
      → Seeks old new (Ok o) → Reads old new (Err (why.Dropped least))
  dropped_past old new o least within is seeks = record {
    cause = seeks.cause;
    near = λ memory did. did;
    kept = seeks.kept;
    refused = within;
    answers = λ files h reads shows.
        answered_dropped number (low h past.floor past.keep past.since key) (value_at h at key) key at within.0 within.1 least
        (sym is ∙ low_is o old new seeks files h reads shows);
  }

  module _ (old mid new : BlockReader R) (o : Option ℕ) (within : IsWithin number key at) (none : o ≡ None)
      (seeks : Seeks old mid (Ok o)) where
    on : (files : Files) → ReadsOf bytes files old (tables_in version) → ReadsOf bytes files mid (tables_in version)
    on files reads = record { kept = seeks.kept files reads; told = reads.told }

    leads : (files : Files) (h : History) → ReadsOf bytes files old (tables_in version) → (shows : ShowsPast bytes version past number h)
        → (at_answer h (beginning past) number key at ≡ Found (value_at h at key))
        × (resolved_at shows.logs (winner shows.entries_of key at) ≡ Some (value_at h at key))
    leads files h reads shows =
        let is = answered_found number (low h past.floor past.keep past.since key) (value_at h at key) key at within.0 within.1
        (sym none ∙ low_is o old mid seeks files h reads shows) in
        (is.1, shows.shows.values key at is.0 within.1)

    -- or what it had there is read,
    pub found_past : (value : Option Stored) → HasCause (faults mid.reader) (faults new.reader) ⊥
        → ((files : Files) → ReadsOf bytes files mid (tables_in version) → AreKept files new)
        → ((files : Files) (es : List Entry) (logs : Logs) → ReadsOf bytes files mid (tables_in version)
        → HasEntries bytes version es logs → Gives logs (winner es key at) (Ok value))
        → Reads old new (Ok value)
    found_past value cause kept gives = record {
      cause = subst (λ (n : ℕ). HasCause n (faults new.reader) ⊥) (seeks.cause.steady (λ e. e)) cause;
      near = λ memory did. did;
      kept = λ files reads. kept files (on files reads);
      refused = within;
      answers = λ files h reads shows.
          let is = leads files h reads shows in
          is.0 ∙ ap Found (inner (value_at h at key) value (sym is.1 ∙ gives files shows.entries_of shows.logs (on files reads) shows.has));
    }
      where
        inner : (v w : Option Stored) → Some v ≡ Some w → v ≡ w
        inner v w e = cc

    -- or that wasn't read.
    pub failed_past : (e : VersionFault) (r : Result (Option Stored) AtFail) → IsErrAnd r (λ f. f ≡ as_failed_at e)
        → HasCause (faults mid.reader) (faults new.reader) (Failed {T = Option Stored} (Err e))
        → (tables_in version ≡ [] → AreNear (in_memory version) → Failed {T = Option Stored} (Err e) → ⊥)
        → ((files : Files) → ReadsOf bytes files mid (tables_in version) → AreKept files new)
        → ((files : Files) (es : List Entry) (logs : Logs) → ReadsOf bytes files mid (tables_in version)
        → HasEntries bytes version es logs → Gives logs (winner es key at) (Err e))
        → Reads old new r
    failed_past e r failed cause near kept gives =
        handed old new (as_failed_at e) r failed
        (by_fault (Option Stored) old new e within
        (subst (λ (n : ℕ). HasCause n (faults new.reader) (Failed {T = Option Stored} (Err e))) (seeks.cause.steady (λ never. never)) cause)
        (λ memory. near memory.tables memory.near) (λ files reads. kept files (on files reads))
        (λ files h reads shows name place is.
        let led = leads files h reads shows in
        let astray = subst (λ (f : VersionFault). Gives shows.logs (winner shows.entries_of key at) (Err f)) is
        (gives files shows.entries_of shows.logs (on files reads) shows.has) in
        apart (value_at h at key) (sym led.1 ∙ astray.0)))
      where
        apart : (v : Option Stored) → Some v ≡ None → ⊥
        apart v e = cc

-- a key that passes isn't refused
pub allowed_key : (refusal : Option KeyFail) (u : ⊤) → Ok u ≡ unless refusal → refusal ≡ None
allowed_key None u is = refl
allowed_key (Some w) u is = absurd (apart u w is)
  where
    apart : (v : ⊤) (f : KeyFail) → Ok v ≡ Err f → ⊥
    apart v f e = cc
