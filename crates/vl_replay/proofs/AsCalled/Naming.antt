-- A read through a name is answered what it gave: the thing is read in its place, and stands there still.
use Rattle.std.proofs.Common.{◌≡◌, ◌+◌, ◌∙◌, ap, sym, subst, refl, ℕ, zero, suc, Bool, true, false, cond, List, [], ◌∷◌}
use Rattle.std.specs.Prelude.{Option, None, Some, Result, Ok, Vec, slice_index_or, slice_set}
use Rattle.std.specs.FinMap.{get}
use Rattle.std.specs.Global.{Global}
use Rattle.std.specs.Option.{option_map}
use Rattle.std.specs.Ordering.{eq_by_cmp}
use Rattle.vl_engine_model.specs.Store.Lines.{Name}
use Rattle.vl_model.specs.Keys.{Row, Stored, key_cmp}
use Rattle.vl_reads.specs.Reading.{NotesNothing, OnlyNotes, OnlyReads}
use Rattle.vl_reads.specs.declared.fails.AtFail.{AtFail}
use Rattle.vl_reads.specs.declared.fails.ReadFail.{ReadFail}
use Rattle.vl_reads.specs.declared.txn.Txn.{Txn}
use Rattle.vl_reads.specs.declared.view.View.{View as EngineView}
use Rattle.vl_replay_laws.specs.Standing.{open_in, past_answer, place_of, read_answer, value_answer}
use Rattle.vl_replay_laws.specs.declared.open.Open.{Open}
use Rattle.vl_replay_laws.specs.declared.open.Thing.{Thing}
use Rattle.vl_replay_laws.specs.declared.open.Thing.TheVariants.{Transaction, View}
use Rattle.vl_replay_laws.specs.laws.Names.Lookups.{behind_some, on_false, on_true, own_name, place_none, place_there}
use Rattle.vl_replay_laws.specs.laws.Names.Placing.{place_named}
use Rattle.vl_script.specs.declared.answer.Answer.{Answer}
use Rattle.vl_script.specs.declared.answer.Answer.TheVariants as answers
use Rattle.vl_script_model.specs.declared.fails.Halt.{Halt}
use Rattle.vl_replay.specs.AsCalled.{AnswersGet, AnswersPast, AnswersScan, ReadsBack, ReadsKey, ReadsRows}

module _ {H R : Type 0} where
  -- Another thing of the same name stands at its place.
  pub found_at : (name : Name) (os : List (Open H R)) (at : ℕ) (o : Open H R) → o.name ≡ name → place_of name os ≡ Some at
      → open_in (slice_set os at o) name ≡ Some o.thing
  found_at name [] at o own is = absurd cc
  found_at name (p ∷ os) at o own is = of (eq_by_cmp key_cmp name p.name) refl at is (λ n there. found_at name os n o own there)
    where
      of : (b : Bool) → eq_by_cmp key_cmp name p.name ≡ b → (at : ℕ)
          → cond b (Some 0) (option_map (λ n. n + 1) (place_of name os)) ≡ Some at
          → ((n : ℕ) → place_of name os ≡ Some n → open_in (slice_set os n o) name ≡ Some o.thing)
          → open_in (slice_set (p ∷ os) at o) name ≡ Some o.thing
      of true test zero place later =
          on_true (eq_by_cmp key_cmp name o.name) (Some o.thing) (open_in os name)
          (subst (λ (n : Name). eq_by_cmp key_cmp name n ≡ true) (sym own) (own_name name))
      of true test (suc n) place later = absurd cc
      of false test at place later =
          let (n, there, same) = behind_some (place_of name os) at place in
          subst (λ (k : ℕ). open_in (slice_set (p ∷ os) k o) name ≡ Some o.thing) (sym same)
          (on_false (eq_by_cmp key_cmp name p.name) (Some p.thing) (open_in (slice_set os n o) name) test ∙ later n there)

module _ {H R : Type 0} (bytes : H → Option (List ℕ)) (faults : R → ℕ) (os : List (Open H R))
    -- the names as the call had them, and the name as it had it
    (slice : List (Open H R)) (value : slice ≡ os) (q name : Name) (same : q ≡ name) where
  place_is : (found : Option ℕ) → place_of q slice ≡ found → place_of name os ≡ found
  place_is found is = sym (ap (λ (n : Name). place_of n os) same) ∙ sym (ap (place_of q) value) ∙ is

  -- ---- the name isn't in use

  pub none_read : place_of q slice ≡ None → (new : Option (Thing H R)) (with_tag : Bool) (key : List ℕ)
      → AnswersGet bytes (open_in os name) new faults name with_tag key (Ok (answers.Unknown name))
  none_read is new with_tag key =
      subst (λ (old : Option (Thing H R)). AnswersGet bytes old new faults name with_tag key (Ok (answers.Unknown name)))
      (sym (place_none name os (place_is None is))) refl

  pub none_read_back : place_of q slice ≡ None → (new : Option (Thing H R)) (key : List ℕ) (number : ℕ)
      → AnswersPast bytes (open_in os name) new faults name key number (Ok (answers.Unknown name))
  none_read_back is new key number =
      subst (λ (old : Option (Thing H R)). AnswersPast bytes old new faults name key number (Ok (answers.Unknown name)))
      (sym (place_none name os (place_is None is))) refl

  pub none_scanned : place_of q slice ≡ None → (new : Option (Thing H R)) (low high : List ℕ)
      → AnswersScan bytes (open_in os name) new faults name low high (Ok (answers.Unknown name))
  none_scanned is new low high =
      subst (λ (old : Option (Thing H R)). AnswersScan bytes old new faults name low high (Ok (answers.Unknown name)))
      (sym (place_none name os (place_is None is))) refl

  -- ---- it is, and stands at this place

  module _ (at : ℕ) (is : place_of q slice ≡ Some at) (o : Open H R) (there : o ≡ slice_index_or os at o) where
    pub thing_there : (thing : Thing H R) → o.thing ≡ thing → open_in os name ≡ Some thing
    thing_there thing thing_is =
        let (left, found, within) = place_there name os at (place_is (Some at) is) in
        found o ∙ ap (λ (p : Open H R). Some p.thing) (sym there) ∙ ap (λ (x : Thing H R). Some x) thing_is

    pub thing_behind : (new : Thing H R) → open_in (slice_set os at (record { name = o.name; thing = new })) name ≡ Some new
    thing_behind new =
        let p : Open H R = record { name = o.name; thing = new } in
        let named : o.name ≡ name = ap (λ (w : Open H R). w.name) there ∙ place_named name os at (place_is (Some at) is) o in
        found_at name os at p named (place_is (Some at) is)

    -- what it was and what it is then, in its place
    abbrev pub then : Thing H R → Option (Thing H R)
    then new = open_in (slice_set os at (record { name = o.name; thing = new })) name

    pub view_reads : (view after : EngineView H R) → o.thing ≡ View view → OnlyReads view after
        → (k key : List ℕ) → k ≡ key → (with_tag : Bool)
        → (read : Result (Option Stored) ReadFail) (result : Result Answer Halt) → result ≡ read_answer (value_answer with_tag) read
        → ReadsKey bytes view.version view.number None view.reader after.reader faults k read
        → AnswersGet bytes (open_in os name) (then (View after)) faults name with_tag key result
    view_reads view after thing_is kept k key same_key with_tag read result answered reads =
        subst (λ (old : Option (Thing H R)). AnswersGet bytes old (then (View after)) faults name with_tag key result)
        (sym (thing_there (View view) thing_is)) (
          read,
          (
            after,
            thing_behind (View after),
            kept,
            subst (λ (x : List ℕ). ReadsKey bytes view.version view.number None view.reader after.reader faults x read) same_key reads,
          ),
          answered,
        )

    pub txn_reads : (txn after : Txn H R) → o.thing ≡ Transaction txn → OnlyNotes txn after
        → (k key : List ℕ) → k ≡ key → (with_tag : Bool)
        → (read : Result (Option Stored) ReadFail) (result : Result Answer Halt) → result ≡ read_answer (value_answer with_tag) read
        → ReadsKey bytes txn.version txn.number (get txn.writes k) txn.reader after.reader faults k read
        → AnswersGet bytes (open_in os name) (then (Transaction after)) faults name with_tag key result
    txn_reads txn after thing_is kept k key same_key with_tag read result answered reads =
        subst (λ (old : Option (Thing H R)). AnswersGet bytes old (then (Transaction after)) faults name with_tag key result)
        (sym (thing_there (Transaction txn) thing_is)) (
          read,
          (
            after,
            thing_behind (Transaction after),
            kept,
            subst (λ (x : List ℕ). ReadsKey bytes txn.version txn.number (get txn.writes x) txn.reader after.reader faults x read) same_key
                reads,
          ),
          answered,
        )

    pub view_reads_back : (view after : EngineView H R) → o.thing ≡ View view → OnlyReads view after
        → (k key : List ℕ) → k ≡ key → (number : ℕ)
        → (read : Result (Option Stored) AtFail) (result : Result Answer Halt) → result ≡ past_answer read
        → ReadsBack bytes view.version view.past view.number view.reader after.reader faults k number read
        → AnswersPast bytes (open_in os name) (then (View after)) faults name key number result
    view_reads_back view after thing_is kept k key same_key number read result answered reads =
        subst (λ (old : Option (Thing H R)). AnswersPast bytes old (then (View after)) faults name key number result)
        (sym (thing_there (View view) thing_is)) (
          read,
          (
            after,
            thing_behind (View after),
            kept,
            subst (λ (x : List ℕ). ReadsBack bytes view.version view.past view.number view.reader after.reader faults x number read)
                same_key reads,
          ),
          answered,
        )

    pub txn_reads_back : (txn after : Txn H R) → o.thing ≡ Transaction txn → NotesNothing txn after
        → (k key : List ℕ) → k ≡ key → (number : ℕ)
        → (read : Result (Option Stored) AtFail) (result : Result Answer Halt) → result ≡ past_answer read
        → ReadsBack bytes txn.version txn.past txn.number txn.reader after.reader faults k number read
        → AnswersPast bytes (open_in os name) (then (Transaction after)) faults name key number result
    txn_reads_back txn after thing_is kept k key same_key number read result answered reads =
        subst (λ (old : Option (Thing H R)). AnswersPast bytes old (then (Transaction after)) faults name key number result)
        (sym (thing_there (Transaction txn) thing_is)) (
          read,
          (
            after,
            thing_behind (Transaction after),
            kept,
            subst (λ (x : List ℕ). ReadsBack bytes txn.version txn.past txn.number txn.reader after.reader faults x number read)
                same_key reads,
          ),
          answered,
        )

    pub view_scans : (view after : EngineView H R) → o.thing ≡ View view → OnlyReads view after
        → (a low : List ℕ) → a ≡ low → (b high : List ℕ) → b ≡ high
        → (read : Result (Vec Row Global) ReadFail) (result : Result Answer Halt) → result ≡ read_answer (λ rows. answers.Rows rows) read
        → ReadsRows bytes view.version view.reader after.reader faults a b read
        → AnswersScan bytes (open_in os name) (then (View after)) faults name low high result
    view_scans view after thing_is kept a low same_low b high same_high read result answered reads =
        subst (λ (old : Option (Thing H R)). AnswersScan bytes old (then (View after)) faults name low high result)
        (sym (thing_there (View view) thing_is)) (
          read,
          (
            after,
            thing_behind (View after),
            kept,
            subst (λ (x : List ℕ). ReadsRows bytes view.version view.reader after.reader faults x high read) same_low
                (subst (λ (x : List ℕ). ReadsRows bytes view.version view.reader after.reader faults a x read) same_high reads),
          ),
          answered,
        )

    pub txn_scans : (txn after : Txn H R) → o.thing ≡ Transaction txn → OnlyNotes txn after
        → (a low : List ℕ) → a ≡ low → (b high : List ℕ) → b ≡ high
        → (read : Result (Vec Row Global) ReadFail) (result : Result Answer Halt) → result ≡ read_answer (λ rows. answers.Rows rows) read
        → ReadsRows bytes txn.version txn.reader after.reader faults a b read
        → AnswersScan bytes (open_in os name) (then (Transaction after)) faults name low high result
    txn_scans txn after thing_is kept a low same_low b high same_high read result answered reads =
        subst (λ (old : Option (Thing H R)). AnswersScan bytes old (then (Transaction after)) faults name low high result)
        (sym (thing_there (Transaction txn) thing_is)) (
          read,
          (
            after,
            thing_behind (Transaction after),
            kept,
            subst (λ (x : List ℕ). ReadsRows bytes txn.version txn.reader after.reader faults x high read) same_low
                (subst (λ (x : List ℕ). ReadsRows bytes txn.version txn.reader after.reader faults a x read) same_high reads),
          ),
          answered,
        )
