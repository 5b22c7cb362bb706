-- The batches of a list are the only ones that have as many records as the bounds allow.
use Rattle.std.specs.Prelude.{◌≡◌, ◌⊎◌, ◌<◌, ◌≤◌, ℕ, ◌+◌, Bool, true, false, ◌&&◌, nat_le, nat_lt}
use Rattle.std.specs.Prelude.{List, [], ◌∷◌, ◌++◌, length, refl}
use Rattle.std.proofs.Common.{sym, ap, subst, ◌∙◌, cond, inl, inr, ⊎_elim, append_assoc, append-nil, arith}
use Rattle.std.proofs.lemmas.Bool.Decides.{nat_tests}
use Rattle.vl_stream.specs.Batches.{AreBatches, AreBatchesOf, IsBatch, IsFullFor, Write, batches, batches_from, joined, joins}
use Rattle.vl_stream.specs.Batches.{max_bytes, max_records, size_of, value_size, with_first}

abbrev pub FullFrom : (count bytes : ℕ) → List (List Write) → Type 0
FullFrom count bytes [] = Unit {0}
FullFrom count bytes ([] ∷ bs) = ⊥
FullFrom count bytes ((w ∷ b) ∷ bs) = (max_records ≤ count) ⊎ (max_bytes < bytes + value_size w)

-- an open batch that has so many may get these records too, and no more of those behind it
pub record Goes (count bytes : ℕ) (more : List Write) (bs : List (List Write)) : Type 0 where
  pub bounds : (more ≡ []) ⊎ ((count + length more ≤ max_records) × (bytes + size_of more ≤ max_bytes))
  pub full : FullFrom (count + length more) (bytes + size_of more) bs
  pub rest : AreBatches bs

true_false : true ≡ false → ⊥
true_false is = cc

joins_not : (count bytes : ℕ) (w : Write) → (max_records ≤ count) ⊎ (max_bytes < bytes + value_size w) → joins count bytes w ≡ false
joins_not count bytes w full = by (nat_lt count max_records) (nat_le (bytes + value_size w) max_bytes) refl refl
  where
    by : (a b : Bool) → nat_lt count max_records ≡ a → nat_le (bytes + value_size w) max_bytes ≡ b → (a && b) ≡ false
    by false b p q = refl
    by true false p q = refl
    by true true p q = absurd (⊎_elim
        (λ (many : max_records ≤ count). let few : count < max_records = grind (arith, nat_tests, p) in omega (arith, many, few))
        (λ (long : max_bytes < bytes + value_size w).
        let short : bytes + value_size w ≤ max_bytes = grind (arith, nat_tests, q) in omega (arith, long, short)) full)

joins_yes : (count bytes : ℕ) (w : Write) → count < max_records → bytes + value_size w ≤ max_bytes → joins count bytes w ≡ true
joins_yes count bytes w few short = by (nat_lt count max_records) (nat_le (bytes + value_size w) max_bytes) refl refl
  where
    by : (a b : Bool) → nat_lt count max_records ≡ a → nat_le (bytes + value_size w) max_bytes ≡ b → (a && b) ≡ true
    by true true p q = refl
    by false b p q = absurd (grind (arith, nat_tests, p, few))
    by true false p q = absurd (grind (arith, nat_tests, q, short))

-- ---- a list is parted so

full_same : (c d : ℕ) (bytes size : ℕ) (bs : List (List Write)) → c ≡ d → bytes ≡ size → FullFrom c bytes bs → FullFrom d size bs
full_same c d bytes size bs is same full =
    subst (λ (n : ℕ). FullFrom d n bs) same (subst (λ (n : ℕ). FullFrom n bytes bs) is full)

walk : (rest : List Write) (bs : List (List Write)) → ((c d : ℕ) → FullFrom c d bs → batches_from c d rest ≡ [] ∷ bs)
    → (count bytes : ℕ) (more : List Write)
    → (more ≡ []) ⊎ ((count + length more ≤ max_records) × (bytes + size_of more ≤ max_bytes))
    → FullFrom (count + length more) (bytes + size_of more) bs
    → batches_from count bytes (more ++ rest) ≡ more ∷ bs
walk rest bs base count bytes [] bounds full =
    base count bytes (full_same (count + 0) count (bytes + 0) bytes bs (omega arith) (omega arith) full)
walk rest bs base count bytes (v ∷ more) bounds full =
    let both = inside bounds in
    let many = both.0 in
    let long = both.1 in
    let yes = joins_yes count bytes v (omega (arith, many)) (omega (arith, long)) in
    let later = walk rest bs base (count + 1) (bytes + value_size v) more (inr (omega (arith, many), omega (arith, long)))
    (full_same (count + length (v ∷ more)) (count + 1 + length more) (bytes + size_of (v ∷ more)) (bytes + value_size v + size_of more) bs
    (omega arith) (omega arith) full) in
    ap (λ (t : Bool). cond t (with_first v (batches_from (count + 1) (bytes + value_size v) (more ++ rest)))
    ([] ∷ with_first v (batches_from 1 (value_size v) (more ++ rest)))) yes
    ∙ ap (with_first v) later
  where
    none : {A : Type 0} → v ∷ more ≡ [] → A
    none is = absurd cc

    inside : (v ∷ more ≡ []) ⊎ ((count + length (v ∷ more) ≤ max_records) × (bytes + size_of (v ∷ more) ≤ max_bytes))
        → (count + length (v ∷ more) ≤ max_records) × (bytes + size_of (v ∷ more) ≤ max_bytes)
    inside b = ⊎_elim (λ (is : v ∷ more ≡ []). none is)
        (λ (both : (count + length (v ∷ more) ≤ max_records) × (bytes + size_of (v ∷ more) ≤ max_bytes)). both) b

-- the first record's batch, as one that goes on
opened : (w : Write) (b : List Write) → IsBatch (w ∷ b)
    → (b ≡ []) ⊎ ((1 + length b ≤ max_records) × (value_size w + size_of b ≤ max_bytes))
opened w b is = ⊎_elim
    (λ (one : length (w ∷ b) ≡ 1). inl (alone b one))
    (λ (both : (length (w ∷ b) ≤ max_records) × (size_of (w ∷ b) ≤ max_bytes)).
    let many = both.0 in let long = both.1 in inr (omega (arith, many), omega (arith, long)))
    is.bounds
  where
    alone : (xs : List Write) → length (w ∷ xs) ≡ 1 → xs ≡ []
    alone [] one = refl
    alone (x ∷ xs) one = absurd (omega (arith, one))

full_of : (b : List Write) (bs : List (List Write)) → IsFullFor b bs → FullFrom (length b) (size_of b) bs
full_of b [] full = tt
full_of b ([] ∷ bs) full = absurd full
full_of b ((w ∷ c) ∷ bs) full = full

forced : (bs : List (List Write)) → AreBatches bs → (c d : ℕ) → FullFrom c d bs → batches_from c d (joined bs) ≡ [] ∷ bs
forced [] are c d full = refl
forced ([] ∷ bs) are c d full = absurd full
forced ((w ∷ b) ∷ bs) are c d full =
    let no = joins_not c d w full in
    let later = walk (joined bs) bs (forced bs are.2) 1 (value_size w) b (opened w b are.0)
    (full_same (length (w ∷ b)) (1 + length b) (size_of (w ∷ b)) (value_size w + size_of b) bs (omega arith) (omega arith)
    (full_of (w ∷ b) bs are.1)) in
    ap (λ (t : Bool). cond t (with_first w (batches_from (c + 1) (d + value_size w) (b ++ joined bs)))
    ([] ∷ with_first w (batches_from 1 (value_size w) (b ++ joined bs)))) no
    ∙ ap (λ gs. [] ∷ with_first w gs) later

-- Batches that are as the bounds ask are the ones of what they have together.
pub one_parting : (bs : List (List Write)) → AreBatches bs → batches (joined bs) ≡ bs
one_parting [] are = refl
one_parting ([] ∷ bs) are = let some = are.0.some in absurd (omega (arith, some))
one_parting ((w ∷ b) ∷ bs) are =
    ap (with_first w) (walk (joined bs) bs (forced bs are.2) 1 (value_size w) b (opened w b are.0)
    (full_same (length (w ∷ b)) (1 + length b) (size_of (w ∷ b)) (value_size w + size_of b) bs (omega arith) (omega arith)
    (full_of (w ∷ b) bs are.1)))

-- ---- and its batches are as the bounds ask

pub record Parts (count bytes : ℕ) (ws : List Write) : Type 0 where
  pub more : List Write
  pub bs : List (List Write)
  pub is : batches_from count bytes ws ≡ more ∷ bs
  pub goes : Goes count bytes more bs
  pub whole : more ++ joined bs ≡ ws

joins_parts : (count bytes : ℕ) (w : Write) → joins count bytes w ≡ true
    → (count < max_records) × (bytes + value_size w ≤ max_bytes)
joins_parts count bytes w is = by (nat_lt count max_records) (nat_le (bytes + value_size w) max_bytes) refl refl is
  where
    by : (a b : Bool) → nat_lt count max_records ≡ a → nat_le (bytes + value_size w) max_bytes ≡ b → (a && b) ≡ true
        → (count < max_records) × (bytes + value_size w ≤ max_bytes)
    by true true p q is = (grind (arith, nat_tests, p), grind (arith, nat_tests, q))
    by false b p q is = absurd (true_false (sym is))
    by true false p q is = absurd (true_false (sym is))

joins_else : (count bytes : ℕ) (w : Write) → joins count bytes w ≡ false
    → (max_records ≤ count) ⊎ (max_bytes < bytes + value_size w)
joins_else count bytes w is = by (nat_lt count max_records) (nat_le (bytes + value_size w) max_bytes) refl refl is
  where
    by : (a b : Bool) → nat_lt count max_records ≡ a → nat_le (bytes + value_size w) max_bytes ≡ b → (a && b) ≡ false
        → (max_records ≤ count) ⊎ (max_bytes < bytes + value_size w)
    by true true p q is = absurd (true_false is)
    by false b p q is = inl (let many : max_records ≤ count = grind (arith, nat_tests, p) in many)
    by true false p q is = inr (let long : max_bytes < bytes + value_size w = grind (arith, nat_tests, q) in long)

-- a record and what goes on behind it are a batch
batch_of : (w : Write) (b : List Write) → (b ≡ []) ⊎ ((1 + length b ≤ max_records) × (value_size w + size_of b ≤ max_bytes))
    → IsBatch (w ∷ b)
batch_of w b bounds = record {
  some = omega arith;
  bounds = ⊎_elim (λ (none : b ≡ []). inl (ap (λ (xs : List Write). length (w ∷ xs)) none))
      (λ (both : (1 + length b ≤ max_records) × (value_size w + size_of b ≤ max_bytes)).
      let many = both.0 in let long = both.1 in inr (omega (arith, many), omega (arith, long)))
      bounds;
}

full_for : (b : List Write) (bs : List (List Write)) → FullFrom (length b) (size_of b) bs → IsFullFor b bs
full_for b [] full = tt
full_for b ([] ∷ bs) full = absurd full
full_for b ((w ∷ c) ∷ bs) full = full

pub parts : (ws : List Write) (count bytes : ℕ) → Parts count bytes ws
parts [] count bytes = record {
  more = [];
  bs = [];
  is = refl;
  goes = record { bounds = inl refl; full = tt; rest = tt };
  whole = refl;
}
parts (w ∷ ws) count bytes = by (joins count bytes w) refl (λ c b. parts ws c b)
  where
    by : (t : Bool) → joins count bytes w ≡ t → ((c b : ℕ) → Parts c b ws) → Parts count bytes (w ∷ ws)
    by true fits later =
        let p = later (count + 1) (bytes + value_size w) in
        let both = joins_parts count bytes w fits in
        let few = both.0 in
        let short = both.1 in
        record {
          more = w ∷ p.more;
          bs = p.bs;
          is = ap (λ (t : Bool). cond t (with_first w (batches_from (count + 1) (bytes + value_size w) ws))
              ([] ∷ with_first w (batches_from 1 (value_size w) ws))) fits
              ∙ ap (with_first w) p.is;
          goes = record {
            bounds = inr (⊎_elim
                (λ (none : p.more ≡ []).
                let length_is : length p.more ≡ 0 = ap length none in
                let size_is : size_of p.more ≡ 0 = ap size_of none in
                (omega (arith, length_is, few), omega (arith, size_is, short)))
                (λ (more : (count + 1 + length p.more ≤ max_records) × (bytes + value_size w + size_of p.more ≤ max_bytes)).
                let many = more.0 in let long = more.1 in (omega (arith, many), omega (arith, long)))
                p.goes.bounds);
            full = full_same (count + 1 + length p.more) (count + length (w ∷ p.more)) (bytes + value_size w + size_of p.more)
                (bytes + size_of (w ∷ p.more)) p.bs (omega arith) (omega arith) p.goes.full;
            rest = p.goes.rest;
          };
          whole = ap (λ (xs : List Write). w ∷ xs) p.whole;
        }
    by false apart later =
        let p = later 1 (value_size w) in
        record {
          more = [];
          bs = (w ∷ p.more) ∷ p.bs;
          is = ap (λ (t : Bool). cond t (with_first w (batches_from (count + 1) (bytes + value_size w) ws))
              ([] ∷ with_first w (batches_from 1 (value_size w) ws))) apart
              ∙ ap (λ gs. [] ∷ with_first w gs) p.is;
          goes = record {
            bounds = inl refl;
            full = full_now (joins_else count bytes w apart);
            rest = (
              batch_of w p.more p.goes.bounds,
              full_for (w ∷ p.more) p.bs (full_same (1 + length p.more) (length (w ∷ p.more)) (value_size w + size_of p.more)
                  (size_of (w ∷ p.more)) p.bs (omega arith) (omega arith) p.goes.full),
              p.goes.rest,
            );
          };
          whole = ap (λ (xs : List Write). w ∷ xs) p.whole;
        }
      where
        full_now : (max_records ≤ count) ⊎ (max_bytes < bytes + value_size w)
            → (max_records ≤ count + 0) ⊎ (max_bytes < bytes + 0 + value_size w)
        full_now e = ⊎_elim (λ (many : max_records ≤ count). inl (omega (arith, many)))
            (λ (long : max_bytes < bytes + value_size w). inr (omega (arith, long))) e

-- The batches of a list have just it together, and are as the bounds ask.
pub batches_whole : (ws : List Write) → joined (batches ws) ≡ ws
batches_whole [] = refl
batches_whole (w ∷ ws) =
    let p = parts ws 1 (value_size w) in
    ap (λ gs. joined (with_first w gs)) p.is ∙ ap (λ (xs : List Write). w ∷ xs) p.whole

pub batches_lawful : (ws : List Write) → AreBatches (batches ws)
batches_lawful [] = tt
batches_lawful (w ∷ ws) =
    let p = parts ws 1 (value_size w) in
    subst AreBatches (ap (with_first w) (sym p.is)) (
      batch_of w p.more p.goes.bounds,
      full_for (w ∷ p.more) p.bs (full_same (1 + length p.more) (length (w ∷ p.more)) (value_size w + size_of p.more)
          (size_of (w ∷ p.more)) p.bs (omega arith) (omega arith) p.goes.full),
      p.goes.rest,
    )

-- So they are the batches of it, and no others are.
pub are_batches : (ws : List Write) → AreBatchesOf ws (batches ws)
are_batches ws = record { are = batches_lawful ws; whole = batches_whole ws }

pub one_parting_of : (ws : List Write) (bs : List (List Write)) → AreBatchesOf ws bs → bs ≡ batches ws
one_parting_of ws bs of = sym (one_parting bs of.are) ∙ ap batches of.whole

-- ---- a batch more

pub joined-more : (bs : List (List Write)) (b : List Write) → joined (bs ++ b ∷ []) ≡ joined bs ++ b
joined-more [] b = append-nil b
joined-more (c ∷ bs) b = ap (λ (l : List Write). c ++ l) (joined-more bs b) ∙ sym (append_assoc c (joined bs) b)
