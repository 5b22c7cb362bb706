-- Moved records of which no two are of one key and version.
use Rattle.std.proofs.Common.{◌≡◌, ◌≢◌, ℕ, ◌<◌, List, [], ◌∷◌, ◌++◌, length, map, refl, ap, sym, subst, ◌∙◌, arith}
use Rattle.std.proofs.lemmas.Bool.{and_parts}
use Rattle.std.proofs.lemmas.Bool.Decides.{nat_tests}
use Rattle.std.specs.List.{AllByRecursion, Contains, filter}
use Rattle.std.specs.Prelude.{Bool, true, false, ◌==◌, nat_le, Option, Some, None, if◌then◌else◌}
use Rattle.std.proofs.Common.{get_or, take}
use Rattle.std.proofs.lemmas.List.{get_or-map, length-map}
use Rattle.std.proofs.lemmas.List.Elements.{All-get_or, Contains-get_or}
use Rattle.vl_collect.proofs.Rising.{AreBelow, before_one}
use Rattle.vl_collect.specs.Batches.{IsBatch, IsLawful}
use Rattle.vl_collect.specs.Taking.{candidate_of, candidates}
use Rattle.vl_collect.specs.declared.batch.Found.{Found}
use Rattle.vl_model.specs.Formats.{log_format}
use Rattle.vl_engine_model.specs.Relocation.{Candidate, is_moved, moved_of}
use Rattle.vl_model.specs.Winners.{exact, is_far_to, leads_to, wins_exactly}
use Rattle.vl_model.specs.declared.entry.Body.{Body}
use Rattle.vl_model.specs.declared.entry.Body.TheVariants.{Inline, Gone, Far, Logged}
use Rattle.vl_model.specs.declared.entry.Entry.{Entry}
use Rattle.vl_model.specs.declared.log_frame.Moved.{Moved}
use Rattle.vl_seglog.specs.Moves.{AreOnce, IsElsewhere, IsMoved}

-- ---- one more

elsewhere_from : (m a : Moved) (ms : List Moved) → IsElsewhere a ms → (m.version ≡ a.version → m.key ≢ a.key) → IsElsewhere a (ms ++ m ∷ [])
elsewhere_from m a [] all one = (one, tt)
elsewhere_from m a (b ∷ ms) all one = (all.0, elsewhere_from m a ms all.1 one)

pub once_more : (m : Moved) (ms : List Moved) → AreOnce ms → IsElsewhere m ms → AreOnce (ms ++ m ∷ [])
once_more m [] once apart = (tt, tt)
once_more m (a ∷ ms) once apart =
    (elsewhere_from m a ms once.0 (λ version key. apart.0 (sym version) (sym key)), once_more m ms once.1 apart.1)

-- ---- two that win exactly

-- an entry leads to one place
one_place : (segment a b : ℕ) (body : Body) → is_far_to segment a body ≡ true → is_far_to segment b body ≡ true → a ≡ b
one_place segment a b (Inline value) one other = absurd cc
one_place segment a b Gone one other = absurd cc
one_place segment a b (Logged value p) one other = absurd cc
one_place segment a b (Far p) one other =
    let first = (and_parts (p.segment == segment) (p.place == a) one).1 in
    let second = (and_parts (p.segment == segment) (p.place == b) other).1 in
    grind (arith, nat_tests, first, second)

one_led_to : (segment a b : ℕ) (o : Option Entry) → leads_to segment a o ≡ true → leads_to segment b o ≡ true → a ≡ b
one_led_to segment a b None one other = absurd cc
one_led_to segment a b (Some e) one other = one_place segment a b e.body one other

module _ (es : List Entry) (segment last : ℕ) (c : Candidate) (moves : is_moved es segment last c ≡ true) where
  wins : (d : Candidate) → is_moved es segment last d ≡ true → wins_exactly es segment d.moved.key d.moved.version d.place ≡ true
  wins d is = (and_parts (wins_exactly es segment d.moved.key d.moved.version d.place) (nat_le d.moved.version last) is).0

  not_this : (d : Candidate) → d.place < c.place → is_moved es segment last d ≡ true → d.moved.version ≡ c.moved.version
      → d.moved.key ≢ c.moved.key
  not_this d below is version key =
      let first : leads_to segment d.place (exact es c.moved.key c.moved.version) ≡ true =
      subst (λ (v : ℕ). leads_to segment d.place (exact es c.moved.key v) ≡ true) version
      (subst (λ (k : List ℕ). leads_to segment d.place (exact es k d.moved.version) ≡ true) key (wins d is)) in
      let same = one_led_to segment d.place c.place (exact es c.moved.key c.moved.version) first (wins c moves) in
      omega (arith, below, same)

  -- of those before it none is of its key and version
  pub apart_from : (cs : List Candidate) → AreBelow c.place cs → IsElsewhere c.moved (moved_of es segment last cs)
  apart_from [] below = tt
  apart_from (d ∷ cs) below = by (is_moved es segment last d) refl (apart_from cs below.1)
    where
      by : (b : Bool) → is_moved es segment last d ≡ b → IsElsewhere c.moved (moved_of es segment last cs)
          → IsElsewhere c.moved (map (λ (x : Candidate). x.moved)
          (if b then d ∷ filter (is_moved es segment last) cs else filter (is_moved es segment last) cs))
      by true is rest = (not_this d below.0 is, rest)
      by false is rest = rest

-- ---- of a batch

module _ (es : List Entry) (segment last : ℕ) (xs : List Found) (is_batch : IsBatch xs) (batch : List Candidate)
    (are : candidates xs ≡ batch) (i : ℕ) (x : Found) (within : i < length xs) (is : x ≡ get_or xs i x) where
  -- what is moved of those before it has none of its key and version
  pub is_apart : is_moved es segment last (candidate_of x) ≡ true → (moved : List Moved) → moved ≡ moved_of es segment last (take i batch)
      → IsElsewhere x.moved moved
  is_apart moves moved so_far =
      let below : AreBelow x.place (take i batch) =
      subst (λ (cs : List Candidate). AreBelow x.place (take i cs)) are (before_one 0 xs i x is_batch.rising within is) in
      subst (λ (ms : List Moved). IsElsewhere x.moved ms) (sym so_far)
      (apart_from es segment last (candidate_of x) moves (take i batch) below)

  -- it is one of the batch's
  pub is_among : Contains (map (λ (c : Candidate). c.moved) batch) x.moved
  is_among =
      let ms : List Moved = map (λ (c : Candidate). c.moved) (candidates xs) in
      let long : length ms ≡ length xs =
      length-map (candidates xs) (λ (c : Candidate). c.moved) ∙ length-map xs candidate_of in
      let placed : i < length (candidates xs) = omega (arith, within, length-map xs candidate_of) in
      let found : get_or ms i x.moved ≡ x.moved =
      get_or-map (λ (c : Candidate). c.moved) (candidates xs) i (candidate_of x) x.moved placed
      ∙ ap (λ (c : Candidate). c.moved) (get_or-map candidate_of xs i x (candidate_of x) within)
      ∙ ap (λ (f : Found). f.moved) (sym is) in
      subst (λ (cs : List Candidate). Contains (map (λ (c : Candidate). c.moved) cs) x.moved) are
      (subst (Contains ms) found (Contains-get_or ms i x.moved (omega (arith, within, long))))

  pub is_lawful : IsMoved log_format x.moved
  is_lawful = subst IsLawful (sym is) (All-get_or IsLawful xs i x within is_batch.lawful)

-- one more that is lawful
pub all_more : (ms : List Moved) (m : Moved) → AllByRecursion (IsMoved log_format) ms → IsMoved log_format m
    → AllByRecursion (IsMoved log_format) (ms ++ m ∷ [])
all_more [] m all one = (one, tt)
all_more (a ∷ ms) m all one = (all.0, all_more ms m all.1 one)
