-- Which reads ask for files: those through a reader, within the limits, of what it hasn't written itself.
use Rattle.std.proofs.Common.{◌≡◌, ◌∙◌, ◌≤◌, ap, arith, sym, subst, refl, ℕ, Bool, true, false, List, [], length}
use Rattle.std.proofs.lemmas.Bool.Decides.{nat_tests}
use Rattle.std.specs.FinMap.{find, get, get-entries}
use Rattle.std.specs.Global.{Global}
use Rattle.std.specs.Prelude.{Option, None, Some, Result, Ok, Err, Vec, if◌then◌else◌, nat_le, ◌==◌}
use Rattle.vl_engine_model.specs.Store.Lines.{Name}
use Rattle.vl_engine_model.specs.Store.Things as store
use Rattle.vl_engine_model.specs.declared.layout.Layout.{Layout}
use Rattle.vl_model.specs.History.{History}
use Rattle.vl_model.specs.Keys.{Row, Stored, is_key_length, key_cmp}
use Rattle.vl_model.specs.Limits.{max_key_bytes}
use Rattle.vl_model.specs.declared.change.Change.{Change}
use Rattle.vl_reads.specs.Past.{IsWithin}
use Rattle.vl_reads.specs.Reading.{either, refused_bounds}
use Rattle.vl_reads.specs.declared.fails.AtFail.TheVariants as gone
use Rattle.vl_reads.specs.declared.fails.AtFail.{AtFail}
use Rattle.vl_reads.specs.declared.fails.ReadFail.TheVariants as unread
use Rattle.vl_reads.specs.declared.fails.ReadFail.{ReadFail}
use Rattle.vl_reads.specs.declared.past.Past.{Past}
use Rattle.vl_replay.specs.AsCalled.{AnswersGet, AnswersPast, AnswersScan, ReadsBack, ReadsKey, ReadsRows}
use Rattle.vl_replay_laws.specs.Standing.{Corresponds, past_answer, read_answer}
use Rattle.vl_replay_laws.specs.declared.open.Thing.TheVariants.{Transaction, View}
use Rattle.vl_replay_laws.specs.declared.open.Thing.{Thing}
use Rattle.vl_replay_laws.specs.laws.Names.Reading.{its_transaction, its_view}
use Rattle.vl_script.specs.declared.answer.Answer.{Answer}
use Rattle.vl_engine_model.specs.Store.Commits.{Changes}
use Rattle.vl_engine_model.specs.Rulings.Commit.{Transaction as ATxn}
use Rattle.vl_script_model.specs.Exchanges.{ScansAt}
use Rattle.vl_script_model.specs.Failing.{AsksForKey, AsksForRows, ReadsUpTo}
use Rattle.vl_script_model.specs.Halts.{HaltsByRead}
use Rattle.vl_script_model.specs.declared.fails.Halt.{Halt}
use Rattle.vl_table.specs.declared.block_reader.BlockReader.{BlockReader}
use Rattle.vl_txn.specs.Refusals.{refused_bound, refused_key}
use Rattle.vl_txn.specs.declared.key_fail.KeyFail.{KeyFail}
use Rattle.vl_version.specs.declared.version.Version.{Version}

-- ---- limits

both_pass : {X : Type 0} (p q : X) (a b : Bool) → (if a then Some p else if b then None else Some q) ≡ None → (a ≡ false) × (b ≡ true)
both_pass p q true b is = cc
both_pass p q false false is = cc
both_pass p q false true is = (refl, refl)

key_length : (n : ℕ) → (n == 0) ≡ false → nat_le n max_key_bytes ≡ true → is_key_length n ≡ true
key_length n some short = grind (arith, nat_tests)

key_within : (key : List ℕ) → refused_key key ≡ None → is_key_length (length key) ≡ true
key_within key is =
    let parts = both_pass _ _ (length key == 0) (nat_le (length key) max_key_bytes) is in
    key_length (length key) parts.0 parts.1

one_passes : {X : Type 0} (q : X) (b : Bool) → (if b then None else Some q) ≡ None → b ≡ true
one_passes q false is = cc
one_passes q true is = refl

bound_length : (n : ℕ) → nat_le n max_key_bytes ≡ true → n ≤ max_key_bytes
bound_length n short = grind (arith, nat_tests)

bound_within : (bound : List ℕ) → refused_bound bound ≡ None → length bound ≤ max_key_bytes
bound_within bound is = bound_length (length bound) (one_passes _ (nat_le (length bound) max_key_bytes) is)

none_left : {X : Type 0} (o : Option X) → ((x : X) → o ≡ Some x → ⊥) → o ≡ None
none_left None none = refl
none_left (Some x) none = absurd (none x refl)

-- ---- a read that failed

module _ {H R : Type 0} (bytes : H → Option (List ℕ)) (faults : R → ℕ) (version : Version H) (old new : BlockReader R) where
  met_key : (number : ℕ) (written : Option Change) (key : List ℕ) (tell : Option Stored → Answer) (read : Result (Option Stored) ReadFail)
      → ReadsKey bytes version number written old new faults key read → HaltsByRead (read_answer tell read)
      → (refused_key key ≡ None) × (written ≡ None)
  met_key number written key tell (Ok value) reads halts = absurd halts
  met_key number written key tell (Err unread.EmptyKey) reads halts = absurd halts
  met_key number written key tell (Err unread.KeyTooLong) reads halts = absurd halts
  met_key number written key tell (Err unread.NoMemory) reads halts = absurd halts
  met_key number written key tell (Err (unread.Disk name)) reads halts = (reads.refused, none_left written reads.own)
  met_key number written key tell (Err (unread.Damaged name place)) reads halts = (reads.refused, none_left written reads.own)

  met_back : (past : Past) (number : ℕ) (key : List ℕ) (at : ℕ) (read : Result (Option Stored) AtFail)
      → ReadsBack bytes version past number old new faults key at read → HaltsByRead (past_answer read) → IsWithin number key at
  met_back past number key at (Ok value) reads halts = absurd halts
  met_back past number key at (Err gone.EmptyKey) reads halts = absurd halts
  met_back past number key at (Err gone.KeyTooLong) reads halts = absurd halts
  met_back past number key at (Err (gone.Ahead read)) reads halts = absurd halts
  met_back past number key at (Err (gone.Dropped least)) reads halts = absurd halts
  met_back past number key at (Err gone.NoMemory) reads halts = absurd halts
  met_back past number key at (Err (gone.Disk name)) reads halts = reads.refused
  met_back past number key at (Err (gone.Damaged name place)) reads halts = reads.refused

  met_rows : (low high : List ℕ) (tell : Vec Row Global → Answer) (read : Result (Vec Row Global) ReadFail)
      → ReadsRows bytes version old new faults low high read → HaltsByRead (read_answer tell read) → refused_bounds low high ≡ None
  met_rows low high tell (Ok rows) reads halts = absurd halts
  met_rows low high tell (Err unread.EmptyKey) reads halts = absurd halts
  met_rows low high tell (Err unread.KeyTooLong) reads halts = absurd halts
  met_rows low high tell (Err unread.NoMemory) reads halts = absurd halts
  met_rows low high tell (Err (unread.Disk name)) reads halts = reads.refused
  met_rows low high tell (Err (unread.Damaged name place)) reads halts = reads.refused

some_none : {X : Type 0} (x : X) → Some x ≡ None → ⊥
some_none x e = cc

both_bounds : (low high : List ℕ) → refused_bounds low high ≡ None → (length low ≤ max_key_bytes) × (length high ≤ max_key_bytes)
both_bounds low high is = of (refused_bound low) refl
  where
    of : (o : Option KeyFail) → refused_bound low ≡ o → (length low ≤ max_key_bytes) × (length high ≤ max_key_bytes)
    of None low_is = (bound_within low low_is, bound_within high (sym (ap (λ (o : Option KeyFail). either o (refused_bound high)) low_is) ∙ is))
    of (Some why) low_is = absurd (some_none why (sym (ap (λ (o : Option KeyFail). either o (refused_bound high)) low_is) ∙ is))

-- ---- through a name

module _ {H R : Type 0} (bytes : H → Option (List ℕ)) (faults : R → ℕ) (h : History) (l : Layout) (thing : Option store.Thing)
    (new : Option (Thing H R)) (name : Name) (result : Result Answer Halt) (halts : HaltsByRead result) where
  pub asks_key : (old : Option (Thing H R)) (with_tag : Bool) (key : List ℕ) → Corresponds bytes h l old thing
      → AnswersGet bytes old new faults name with_tag key result → AsksForKey thing key
  asks_key None with_tag key is answered = absurd (subst (λ (r : Result Answer Halt). HaltsByRead r) answered halts)
  asks_key (Some (View view)) with_tag key is (read, (after, there, kept, reads), answered) =
      let (b, thing_is, sees, live, near, began) = its_view bytes h l view thing is in
      let (within, free) = met_key bytes faults view.version view.reader after.reader view.number None key _ read reads
      (subst (λ (r : Result Answer Halt). HaltsByRead r) answered halts) in
      subst (λ (o : Option store.Thing). AsksForKey o key) (sym thing_is) (key_within key within, (view.number, refl))
  asks_key (Some (Transaction txn)) with_tag key is (read, (after, there, kept, reads), answered) =
      let (t, b, thing_is, its, began) = its_transaction bytes h l txn thing is in
      let (within, free) = met_key bytes faults txn.version txn.reader after.reader txn.number (get txn.writes key) key _ read reads
      (subst (λ (r : Result Answer Halt). HaltsByRead r) answered halts) in
      subst (λ (o : Option store.Thing). AsksForKey o key) (sym thing_is) (
        key_within key within,
        (
          t.number,
          (refl, sym (get-entries txn.writes key ∙ ap (λ (u : ATxn). find key_cmp key u.writes) its.same) ∙ free),
        ),
      )

  pub asks_back : (old : Option (Thing H R)) (key : List ℕ) (at : ℕ) → Corresponds bytes h l old thing
      → AnswersPast bytes old new faults name key at result → (is_key_length (length key) ≡ true) × ReadsUpTo thing at
  asks_back None key at is answered = absurd (subst (λ (r : Result Answer Halt). HaltsByRead r) answered halts)
  asks_back (Some (View view)) key at is (read, (after, there, kept, reads), answered) =
      let (b, thing_is, sees, live, near, began) = its_view bytes h l view thing is in
      let (within, below) = met_back bytes faults view.version view.reader after.reader view.past view.number key at read reads
      (subst (λ (r : Result Answer Halt). HaltsByRead r) answered halts) in
      (key_within key within, subst (λ (o : Option store.Thing). ReadsUpTo o at) (sym thing_is) below)
  asks_back (Some (Transaction txn)) key at is (read, (after, there, kept, reads), answered) =
      let (t, b, thing_is, its, began) = its_transaction bytes h l txn thing is in
      let (within, below) = met_back bytes faults txn.version txn.reader after.reader txn.past txn.number key at read reads
      (subst (λ (r : Result Answer Halt). HaltsByRead r) answered halts) in (
        key_within key within,
        subst (λ (o : Option store.Thing). ReadsUpTo o at) (sym thing_is) (subst (λ (u : ATxn). at ≤ u.number) its.same below),
      )

  pub asks_rows : (old : Option (Thing H R)) (low high : List ℕ) → Corresponds bytes h l old thing
      → AnswersScan bytes old new faults name low high result → AsksForRows thing low high
  asks_rows None low high is answered = absurd (subst (λ (r : Result Answer Halt). HaltsByRead r) answered halts)
  asks_rows (Some (View view)) low high is (read, (after, there, kept, reads), answered) =
      let (b, thing_is, sees, live, near, began) = its_view bytes h l view thing is in
      let bounds = both_bounds low high (met_rows bytes faults view.version view.reader after.reader low high _ read reads
      (subst (λ (r : Result Answer Halt). HaltsByRead r) answered halts)) in (
        bounds.0,
        bounds.1,
        subst (λ (o : Option store.Thing). (own : Changes) × (number : ℕ) × ScansAt o own number) (sym thing_is)
            ([], view.number, (refl, refl)),
      )
  asks_rows (Some (Transaction txn)) low high is (read, (after, there, kept, reads), answered) =
      let (t, b, thing_is, its, began) = its_transaction bytes h l txn thing is in
      let bounds = both_bounds low high (met_rows bytes faults txn.version txn.reader after.reader low high _ read reads
      (subst (λ (r : Result Answer Halt). HaltsByRead r) answered halts)) in (
        bounds.0,
        bounds.1,
        subst (λ (o : Option store.Thing). (own : Changes) × (number : ℕ) × ScansAt o own number) (sym thing_is)
            (t.writes, t.number, (refl, refl)),
      )
