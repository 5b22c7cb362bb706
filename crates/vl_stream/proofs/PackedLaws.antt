-- Records are put into a stream, one after the other.
use Rattle.std.specs.Prelude.{◌≡◌, ◌⊎◌, ◌<◌, ◌≤◌, ℕ, ◌+◌, Bool, true, false, ◌&&◌, nat_le, nat_lt}
use Rattle.std.specs.Prelude.{List, [], ◌∷◌, ◌++◌, map, length, Option, Result, Ok, Err, IfOk, OnOk, refl}
use Rattle.std.proofs.Common.{sym, ap, subst, ◌∙◌, inl, inr, append_assoc, append-nil, length-append, arith}
use Rattle.std.proofs.lemmas.Bool.Decides.{nat_tests}
use Rattle.std.proofs.lemmas.List.{map-append}
use Rattle.vl_stream.specs.Batches.{AreBatches, IsBatch, IsFull, Write, batches, joined, joins}
use Rattle.vl_stream.specs.Batches.{max_bytes, max_records, size_of, value_size}
use Rattle.vl_stream.proofs.Sizes.{size-append}
use Rattle.vl_stream.specs.Grammar.{stream_grammar}
use Rattle.vl_stream.specs.Packing.{Packs, PacksOn, admits}
use Rattle.vl_stream.specs.Pieces.{End, Piece, Records}
use Rattle.vl_stream.specs.Streams.{frames}
use Rattle.vl_stream.specs.laws.BatchLaws.{joined-more, one_parting}
use Rattle.vl_stream.specs.laws.TakingLaws.{takes_none, takes_then}
use Rattle.vl_disk.specs.declared.errors.DiskFail.{DiskFail}
use Rattle.vl_frame.specs.Runs.{item_frame, run_bytes}
use Rattle.vl_frame.specs.laws.RunLaws.{run_bytes-more}
use Rattle.vl_io.specs.Sink.{Takes}
use Rattle.vl_model.specs.declared.change.Change.{Change}

-- what a test of joining says
joins_says : (count bytes : ℕ) (w : Write) → joins count bytes w ≡ true
    → (count < max_records) × (bytes + value_size w ≤ max_bytes)
joins_says count bytes w is = by (nat_lt count max_records) (nat_le (bytes + value_size w) max_bytes) refl refl is
  where
    by : (a b : Bool) → nat_lt count max_records ≡ a → nat_le (bytes + value_size w) max_bytes ≡ b → (a && b) ≡ true
        → (count < max_records) × (bytes + value_size w ≤ max_bytes)
    by true true p q e = (grind (arith, nat_tests, p), grind (arith, nat_tests, q))
    by true false p q e = absurd (cc)
    by false b p q e = absurd (cc)

joins_denies : (count bytes : ℕ) (w : Write) → joins count bytes w ≡ false
    → (max_records ≤ count) ⊎ (max_bytes < bytes + value_size w)
joins_denies count bytes w is = by (nat_lt count max_records) (nat_le (bytes + value_size w) max_bytes) refl refl is
  where
    by : (a b : Bool) → nat_lt count max_records ≡ a → nat_le (bytes + value_size w) max_bytes ≡ b → (a && b) ≡ false
        → (max_records ≤ count) ⊎ (max_bytes < bytes + value_size w)
    by true true p q e = absurd (cc)
    by true false p q e = inr (grind (arith, nat_tests, q))
    by false b p q e = inl (grind (arith, nat_tests, p))

-- ---- batches with one record more

-- the last batch gets another record
last_grows : (bs : List (List Write)) (v : Write) (vs : List Write) (b : List Write) → IsBatch (v ∷ b)
    → AreBatches (bs ++ (v ∷ vs) ∷ []) → AreBatches (bs ++ (v ∷ b) ∷ [])
last_grows [] v vs b is all = (is, tt, tt)
last_grows (c ∷ []) v vs b is all = (all.0, all.1, (is, tt, tt))
last_grows (c ∷ [] ∷ bs) v vs b is all = absurd all.1
last_grows (c ∷ (d ∷ ds) ∷ bs) v vs b is all = (all.0, all.1, last_grows ((d ∷ ds) ∷ bs) v vs b is all.2)

-- behind a last batch that is full for it a record begins another
last_full : (bs : List (List Write)) (b : List Write) (w : Write) → IsFull b w → AreBatches (bs ++ b ∷ [])
    → AreBatches ((bs ++ b ∷ []) ++ (w ∷ []) ∷ [])
last_full [] b w full all = (all.0, full, (record { some = omega arith; bounds = inl refl }, tt, tt))
last_full (c ∷ []) [] w full all = absurd all.1
last_full (c ∷ []) (v ∷ b) w full all = (all.0, all.1, last_full [] (v ∷ b) w full all.2)
last_full (c ∷ [] ∷ bs) b w full all = absurd all.1
last_full (c ∷ (d ∷ ds) ∷ bs) b w full all = (all.0, all.1, last_full ((d ∷ ds) ∷ bs) b w full all.2)

none_joined : (bs : List (List Write)) → AreBatches bs → joined bs ≡ [] → bs ≡ []
none_joined [] all none = refl
none_joined ([] ∷ bs) all none = absurd (let some = all.0.some in omega (arith, some))
none_joined ((w ∷ b) ∷ bs) all none = absurd (cc)

-- a batch with a record that joins it is one
grown : (v : Write) (vs : List Write) (w : Write) → joins (length (v ∷ vs)) (size_of (v ∷ vs)) w ≡ true
    → IsBatch ((v ∷ vs) ++ w ∷ [])
grown v vs w is =
    let says = joins_says (length (v ∷ vs)) (size_of (v ∷ vs)) w is in
    record {
      some = omega arith;
      bounds = inr (
        omega (arith, says.0, length-append vs (w ∷ [])),
        omega (arith, says.1, size-append vs (w ∷ [])),
      );
    }

-- ---- one record is put in

-- the first
pub puts_first : (at count : ℕ) (bytes : List ℕ) (ws : List Write) (w : Write) → Packs at count [] bytes ws
    → Packs at (count + 1) (w ∷ []) bytes (ws ++ w ∷ [])
puts_first at count bytes ws w p =
    let none : ws ≡ [] = p.first refl in
    let nothing : p.done ≡ [] = none_joined p.done p.parted (p.all ∙ none) in
    record {
      done = p.done;
      parted = subst (λ (d : List (List Write)). AreBatches (d ++ (w ∷ []) ∷ [])) (sym nothing)
          (record { some = omega arith; bounds = inl refl }, tt, tt);
      first = λ e. absurd (cc);
      all = joined-more p.done (w ∷ []) ∙ ap (λ (l : List Write). l ++ w ∷ []) p.all;
      written = p.written;
      place = p.place;
      counted = omega (arith, p.counted, length-append ws (w ∷ []));
    }

-- one that joins those that wait
pub puts_beside : (at count : ℕ) (v : Write) (vs : List Write) (bytes : List ℕ) (ws : List Write) (w : Write)
    → Packs at count (v ∷ vs) bytes ws → joins (length (v ∷ vs)) (size_of (v ∷ vs)) w ≡ true
    → Packs at (count + 1) ((v ∷ vs) ++ w ∷ []) bytes (ws ++ w ∷ [])
puts_beside at count v vs bytes ws w p is = record {
  done = p.done;
  parted = last_grows p.done v vs (vs ++ w ∷ []) (grown v vs w is) p.parted;
  first = λ e. absurd (cc);
  all = joined-more p.done ((v ∷ vs) ++ w ∷ []) ∙ sym (append_assoc (joined p.done) (v ∷ vs) (w ∷ []))
      ∙ ap (λ (l : List Write). l ++ w ∷ []) (sym (joined-more p.done (v ∷ vs)) ∙ p.all);
  written = p.written;
  place = p.place;
  counted = omega (arith, p.counted, length-append ws (w ∷ []));
}

-- the frame of those that wait is written
written_more : (at : ℕ) (bytes : List ℕ) (done : List (List Write)) (piece : Piece)
    → bytes ≡ run_bytes stream_grammar 0 16 (map Records done) → at ≡ 16 + length bytes
    → bytes ++ item_frame stream_grammar 0 at piece ≡ run_bytes stream_grammar 0 16 (map Records done ++ piece ∷ [])
written_more at bytes done piece written place =
    let front : List ℕ = run_bytes stream_grammar 0 16 (map Records done) in
    ap (λ (n : ℕ). bytes ++ item_frame stream_grammar 0 n piece) (place ∙ ap (λ (l : List ℕ). 16 + length l) written)
    ∙ ap (λ (l : List ℕ). l ++ item_frame stream_grammar 0 (16 + length front) piece) written
    ∙ sym (run_bytes-more stream_grammar 0 16 (map Records done) piece)

batch_written : (at : ℕ) (bytes : List ℕ) (done : List (List Write)) (b : List Write)
    → bytes ≡ run_bytes stream_grammar 0 16 (map Records done) → at ≡ 16 + length bytes
    → bytes ++ item_frame stream_grammar 0 at (Records b) ≡ run_bytes stream_grammar 0 16 (map Records (done ++ b ∷ []))
batch_written at bytes done b written place =
    written_more at bytes done (Records b) written place
    ∙ ap (run_bytes stream_grammar 0 16) (sym (map-append Records done (b ∷ [])))

-- one for which those that wait are full
pub puts_behind : (at next count : ℕ) (v : Write) (vs : List Write) (bytes : List ℕ) (ws : List Write) (w : Write)
    → Packs at count (v ∷ vs) bytes ws → joins (length (v ∷ vs)) (size_of (v ∷ vs)) w ≡ false
    → next ≡ at + length (item_frame stream_grammar 0 at (Records (v ∷ vs)))
    → Packs next (count + 1) (w ∷ []) (bytes ++ item_frame stream_grammar 0 at (Records (v ∷ vs))) (ws ++ w ∷ [])
puts_behind at next count v vs bytes ws w p is place =
    let b : List Write = v ∷ vs in
    record {
      done = p.done ++ b ∷ [];
      parted = last_full p.done b w (joins_denies (length b) (size_of b) w is) p.parted;
      first = λ e. absurd (cc);
      all = joined-more (p.done ++ b ∷ []) (w ∷ []) ∙ ap (λ (l : List Write). l ++ w ∷ []) p.all;
      written = batch_written at bytes p.done b p.written p.place;
      place = omega (arith, place, p.place, length-append bytes (item_frame stream_grammar 0 at (Records b)));
      counted = omega (arith, p.counted, length-append ws (w ∷ []));
    }

-- ---- the end

parted_so : (bs : List (List Write)) (ws : List Write) → AreBatches bs → joined bs ≡ ws → batches ws ≡ bs
parted_so bs ws all is = ap batches (sym is) ∙ one_parting bs all

-- nothing waits
pub ends_so : (at count number : ℕ) (bytes : List ℕ) (ws : List Write) → Packs at count [] bytes ws
    → bytes ++ item_frame stream_grammar 0 at (End number count) ≡ frames stream_grammar number ws
ends_so at count number bytes ws p =
    written_more at bytes p.done (End number count) p.written p.place
    ∙ ap (λ (n : ℕ). run_bytes stream_grammar 0 16 (map Records p.done ++ End number n ∷ [])) p.counted
    ∙ ap (λ (bs : List (List Write)). run_bytes stream_grammar 0 16 (map Records bs ++ End number (length ws) ∷ []))
    (sym (parted_so p.done ws p.parted p.all))

-- a batch waits, and is written first
pub ends_behind : (at next count number : ℕ) (v : Write) (vs : List Write) (bytes : List ℕ) (ws : List Write)
    → Packs at count (v ∷ vs) bytes ws → next ≡ at + length (item_frame stream_grammar 0 at (Records (v ∷ vs)))
    → bytes ++ (item_frame stream_grammar 0 at (Records (v ∷ vs)) ++ item_frame stream_grammar 0 next (End number count))
    ≡ frames stream_grammar number ws
ends_behind at next count number v vs bytes ws p place =
    let b : List Write = v ∷ vs in
    let frame : List ℕ = item_frame stream_grammar 0 at (Records b) in
    sym (append_assoc bytes frame (item_frame stream_grammar 0 next (End number count)))
    ∙ written_more next (bytes ++ frame) (p.done ++ b ∷ []) (End number count)
    (batch_written at bytes p.done b p.written p.place)
    (omega (arith, place, p.place, length-append bytes frame))
    ∙ ap (λ (n : ℕ). run_bytes stream_grammar 0 16 (map Records (p.done ++ b ∷ []) ++ End number n ∷ [])) p.counted
    ∙ ap (λ (bs : List (List Write)). run_bytes stream_grammar 0 16 (map Records bs ++ End number (length ws) ∷ []))
    (sym (parted_so (p.done ++ b ∷ []) ws p.parted p.all))

-- ---- by the test

pub puts : (at count : ℕ) (waiting : List Write) (key : List ℕ) (change : Change) (bytes : List ℕ) (ws : List Write)
    → Packs at count waiting bytes ws → admits waiting change ≡ true
    → Packs at (count + 1) (waiting ++ (key, change) ∷ []) bytes (ws ++ (key, change) ∷ [])
puts at count [] key change bytes ws p is = puts_first at count bytes ws (key, change) p
puts at count (v ∷ vs) key change bytes ws p is = puts_beside at count v vs bytes ws (key, change) p is

pub puts_next : (at next count : ℕ) (waiting : List Write) (key : List ℕ) (change : Change) (bytes : List ℕ) (ws : List Write)
    → Packs at count waiting bytes ws → admits waiting change ≡ false
    → next ≡ at + length (item_frame stream_grammar 0 at (Records waiting))
    → Packs next (count + 1) ((key, change) ∷ []) (bytes ++ item_frame stream_grammar 0 at (Records waiting))
    (ws ++ (key, change) ∷ [])
puts_next at next count [] key change bytes ws p is place = absurd (cc)
puts_next at next count (v ∷ vs) key change bytes ws p is place =
    puts_behind at next count v vs bytes ws (key, change) p is place

-- ---- as a caller sees it

-- without a frame
pub added_beside : (held : Option (List ℕ)) (at next count total : ℕ) (waiting now : List Write) (key : List ℕ)
    (change : Change) (bytes : List ℕ) (ws : List Write) → Packs at count waiting bytes ws → admits waiting change ≡ true
    → next ≡ at → total ≡ count + 1 → now ≡ waiting ++ (key, change) ∷ []
    → PacksOn held held bytes (λ (got : List ℕ). Packs next total now got (ws ++ (key, change) ∷ []))
added_beside held at next count total waiting now key change bytes ws p is place counted pushed =
    let w : Write = (key, change) in
    record {
      more = [];
      takes = takes_none held;
      packs = subst (λ (l : List ℕ). Packs next total now l (ws ++ w ∷ [])) (sym (append-nil bytes))
          (subst (λ (n : ℕ). Packs n total now bytes (ws ++ w ∷ [])) (sym place)
          (subst (λ (n : ℕ). Packs at n now bytes (ws ++ w ∷ [])) (sym counted)
          (subst (λ (l : List Write). Packs at (count + 1) l bytes (ws ++ w ∷ [])) (sym pushed)
          (puts at count waiting key change bytes ws p is))));
    }

-- behind a frame
pub added_next : (held after : Option (List ℕ)) (at next count total : ℕ) (waiting now : List Write) (key : List ℕ)
    (change : Change) (bytes : List ℕ) (ws : List Write) → Packs at count waiting bytes ws → admits waiting change ≡ false
    → Takes held after (item_frame stream_grammar 0 at (Records waiting))
    → next ≡ at + length (item_frame stream_grammar 0 at (Records waiting)) → total ≡ count + 1
    → now ≡ (key, change) ∷ []
    → PacksOn held after bytes (λ (got : List ℕ). Packs next total now got (ws ++ (key, change) ∷ []))
added_next held after at next count total waiting now key change bytes ws p is takes place counted pushed =
    let w : Write = (key, change) in
    let frame : List ℕ = item_frame stream_grammar 0 at (Records waiting) in
    record {
      more = frame;
      takes = takes;
      packs = subst (λ (n : ℕ). Packs next n now (bytes ++ frame) (ws ++ w ∷ [])) (sym counted)
          (subst (λ (l : List Write). Packs next (count + 1) l (bytes ++ frame) (ws ++ w ∷ []))
          (sym pushed) (puts_next at next count waiting key change bytes ws p is place));
    }

-- the end, where nothing waits
pub ended_so : (held after : Option (List ℕ)) (at count number : ℕ) (bytes : List ℕ) (ws : List Write)
    → Packs at count [] bytes ws → Takes held after (item_frame stream_grammar 0 at (End number count))
    → PacksOn held after bytes (λ (got : List ℕ). got ≡ frames stream_grammar number ws)
ended_so held after at count number bytes ws p takes = record {
  more = item_frame stream_grammar 0 at (End number count);
  takes = takes;
  packs = ends_so at count number bytes ws p;
}

-- and where a batch does
pub ended_behind : (held mid after : Option (List ℕ)) (at next count number : ℕ) (v : Write) (vs : List Write) (bytes : List ℕ)
    (ws : List Write) → Packs at count (v ∷ vs) bytes ws
    → Takes held mid (item_frame stream_grammar 0 at (Records (v ∷ vs)))
    → next ≡ at + length (item_frame stream_grammar 0 at (Records (v ∷ vs)))
    → Takes mid after (item_frame stream_grammar 0 next (End number count))
    → PacksOn held after bytes (λ (got : List ℕ). got ≡ frames stream_grammar number ws)
ended_behind held mid after at next count number v vs bytes ws p first place second = record {
  more = item_frame stream_grammar 0 at (Records (v ∷ vs)) ++ item_frame stream_grammar 0 next (End number count);
  takes = takes_then held mid after _ _ first second;
  packs = ends_behind at next count number v vs bytes ws p place;
}

-- ---- as a call answers

-- the end, where nothing waits
pub answers_end : (result : Result ℕ DiskFail) (held after : Option (List ℕ)) (at count number : ℕ) (waiting : List Write)
    (bytes : List ℕ) (ws : List Write) → Packs at count waiting bytes ws → length waiting ≡ 0
    → OnOk result (Takes held after (item_frame stream_grammar 0 at (End number count)))
    → IfOk result (λ (n : ℕ). n ≡ count)
    → IfOk result (λ (n : ℕ).
    (n ≡ length ws) × PacksOn held after bytes (λ (got : List ℕ). got ≡ frames stream_grammar number ws))
answers_end (Err why) held after at count number waiting bytes ws p none put counted = tt
answers_end (Ok n) held after at count number [] bytes ws p none put counted =
    (counted ∙ p.counted, ended_so held after at count number bytes ws p put)
answers_end (Ok n) held after at count number (v ∷ vs) bytes ws p none put counted = absurd (omega (arith, none))

-- and where a batch was put first
pub answers_behind : (result : Result ℕ DiskFail) (held mid after : Option (List ℕ)) (at next count total number : ℕ)
    (waiting : List Write) (bytes : List ℕ) (ws : List Write) → Packs at count waiting bytes ws → 0 < length waiting
    → Takes held mid (item_frame stream_grammar 0 at (Records waiting))
    → next ≡ at + length (item_frame stream_grammar 0 at (Records waiting)) → total ≡ count
    → OnOk result (Takes mid after (item_frame stream_grammar 0 next (End number total)))
    → IfOk result (λ (n : ℕ). n ≡ total)
    → IfOk result (λ (n : ℕ).
    (n ≡ length ws) × PacksOn held after bytes (λ (got : List ℕ). got ≡ frames stream_grammar number ws))
answers_behind (Err why) held mid after at next count total number waiting bytes ws p some first place same put counted = tt
answers_behind (Ok n) held mid after at next count total number [] bytes ws p some first place same put counted =
    absurd (omega (arith, some))
answers_behind (Ok n) held mid after at next count total number (v ∷ vs) bytes ws p some first place same put counted = (
  counted ∙ same ∙ p.counted,
  ended_behind held mid after at next count number v vs bytes ws p first place
      (subst (λ (m : ℕ). Takes mid after (item_frame stream_grammar 0 next (End number m))) same put),
)
