-- Laws of the versions of a history: they stay, none is above the last number, and a commit has its own.
use Rattle.std.proofs.Common.{◌≡◌, ℕ, ◌+◌, ◌≤◌, Bool, true, false, cond, ◌||◌, List, [], ◌∷◌, ◌++◌, length, map, refl}
use Rattle.std.proofs.Common.{ap, sym, ◌∙◌, subst, arith, append_assoc}
use Rattle.std.proofs.lemmas.Bool.Decides.{nat_tests}
use Rattle.std.specs.Prelude.{nat_le, is_some, ◌==◌}
use Rattle.std.specs.List.{filter, AllByRecursion}
use Rattle.std.specs.FinMap.{get, entries}
use Rattle.vl_model.specs.Keys.{Writes}
use Rattle.vl_model.specs.History.{History, Past, Extends, last_number, with_commit}
use Rattle.vl_model.specs.Numbers.{has, AreAmong}
use Rattle.vl_model.specs.Versions.{Numbered, numbered, all_numbered, naming, versions}

pub has-append : (n : ℕ) (xs ys : List ℕ) → has n (xs ++ ys) ≡ (has n xs || has n ys)
has-append n [] ys = refl
has-append n (x ∷ xs) ys = ap (λ b. (x == n) || b) (has-append n xs ys) ∙ or_assoc (x == n) (has n xs) (has n ys)
  where
    or_assoc : (a b c : Bool) → (a || (b || c)) ≡ ((a || b) || c)
    or_assoc true b c = refl
    or_assoc false b c = refl

naming-append : (key : List ℕ) (xs ys : List Numbered) → naming key (xs ++ ys) ≡ naming key xs ++ naming key ys
naming-append key [] ys = refl
naming-append key (x ∷ xs) ys =
    elim (is_some (get x.1 key)) as
    (λ b. map (λ (c : Numbered). c.0)
    (cond b (x ∷ filter (λ (c : Numbered). is_some (get c.1 key)) (xs ++ ys))
    (filter (λ (c : Numbered). is_some (get c.1 key)) (xs ++ ys)))
    ≡ map (λ (c : Numbered). c.0)
    (cond b (x ∷ filter (λ (c : Numbered). is_some (get c.1 key)) xs)
    (filter (λ (c : Numbered). is_some (get c.1 key)) xs)) ++ naming key ys) [
      | true ↦ ap (λ ns. x.0 ∷ ns) (naming-append key xs ys)
      | false ↦ naming-append key xs ys
    ]

numbered-append : (number : ℕ) (xs ys : List Writes) → numbered number (xs ++ ys) ≡ numbered number xs ++ numbered (number + length xs) ys
numbered-append number [] ys = let same : number ≡ number + 0 = omega arith in ap (λ k. numbered k ys) same
numbered-append number (x ∷ xs) ys =
    let same : number + 1 + length xs ≡ number + length (x ∷ xs) = omega arith in
    ap (λ cs. (number, x) ∷ cs) (numbered-append (number + 1) xs ys ∙ ap (λ k. numbered (number + 1) xs ++ numbered k ys) same)

-- the versions with later commits are those without them, and those of the later ones
pub versions-more : (h : History) (later : List Writes) (key : List ℕ)
    → versions (record { first = h.first; base = h.base; commits = h.commits ++ later }) key ≡ versions h key ++ naming
    key (numbered (h.first + 1 + length h.commits) later)
versions-more h later key =
    ap (λ (cs : List Numbered). naming key (filter (λ (c : Numbered). nat_le c.0 h.first) (entries h.base) ++ cs))
    (numbered-append (h.first + 1) h.commits later)
    ∙ ap (naming key) (sym (append_assoc (filter (λ (c : Numbered). nat_le c.0 h.first) (entries h.base))
    (numbered (h.first + 1) h.commits) (numbered (h.first + 1 + length h.commits) later)))
    ∙ naming-append key (all_numbered h) (numbered (h.first + 1 + length h.commits) later)

pub versions-extends_as : (least most : History) (e : Extends least most) (key : List ℕ)
    → versions most key ≡ versions least key ++ naming key (numbered (least.first + 1 + length least.commits) e.later)
versions-extends_as least most e key =
    ap (λ (b : ℕ). naming key (filter (λ (c : Numbered). nat_le c.0 b) (entries most.base) ++ numbered (b + 1) most.commits)) e.first
    ∙ ap (λ (p : Past). naming key
    (filter (λ (c : Numbered). nat_le c.0 least.first) (entries p) ++ numbered (least.first + 1) most.commits)) e.base
    ∙ ap (λ (cs : List Writes). naming key
    (filter (λ (c : Numbered). nat_le c.0 least.first) (entries least.base) ++ numbered (least.first + 1) cs)) e.commits
    ∙ versions-more least e.later key

pub versions-stay : (least most : History) → Extends least most → (key : List ℕ) → AreAmong (versions least key) (versions most key)
versions-stay least most e key n there =
    let more = naming key (numbered (least.first + 1 + length least.commits) e.later) in
    subst (λ (ns : List ℕ). has n ns ≡ true) (sym (versions-extends_as least most e key))
    (has-append n (versions least key) more ∙ ap (λ b. b || has n more) there)

pub versions-with_commit : (h : History) (writes : Writes) (key : List ℕ)
    → versions (with_commit h writes) key ≡ versions h key ++ naming key ((h.first + 1 + length h.commits, writes) ∷ [])
versions-with_commit h writes key = versions-more h (writes ∷ []) key

-- a commit has a version of each key that it names
pub has-commit : (h : History) (writes : Writes) (key : List ℕ) → is_some (get writes key) ≡ true
    → has (last_number h + 1) (versions (with_commit h writes) key) ≡ true
has-commit h writes key named =
    let number = h.first + 1 + length h.commits in
    let same : (number == last_number h + 1) ≡ true = grind (arith, nat_tests) in
    let there : has (last_number h + 1) (naming key ((number, writes) ∷ [])) ≡ true =
    ap (λ b. has (last_number h + 1) (map (λ (c : Numbered). c.0) (cond b ((number, writes) ∷ []) []))) named ∙ ap (λ b. b || false) same in
    subst (λ (ns : List ℕ). has (last_number h + 1) ns ≡ true) (sym (versions-with_commit h writes key))
    (has-append (last_number h + 1) (versions h key) (naming key ((number, writes) ∷ []))
    ∙ ap (λ b. has (last_number h + 1) (versions h key) || b) there ∙ or_true (has (last_number h + 1) (versions h key)))
  where
    or_true : (a : Bool) → (a || true) ≡ true
    or_true true = refl
    or_true false = refl

-- ---- none is above the last number

up_has : (n : ℕ) (key : List ℕ) (cs : List Numbered) → AllByRecursion (λ (c : Numbered). c.0 ≤ n) cs → (m : ℕ)
    → has m (naming key cs) ≡ true → m ≤ n
up_has n key [] up m there = absurd cc
up_has n key (c ∷ cs) up m there = by_test (is_some (get c.1 key)) (up_has n key cs up.1 m) there
  where
    here : (b : Bool) → (c.0 == m) ≡ b → (has m (naming key cs) ≡ true → m ≤ n) → (b || has m (naming key cs)) ≡ true → m ≤ n
    here true is later there = let u = up.0 in let same : c.0 ≡ m = grind (arith, nat_tests) in omega (arith, u, same)
    here false is later there = later there

    by_test : (b : Bool) → (has m (naming key cs) ≡ true → m ≤ n)
        → has m (map (λ (x : Numbered). x.0)
        (cond b (c ∷ filter (λ (x : Numbered). is_some (get x.1 key)) cs)
        (filter (λ (x : Numbered). is_some (get x.1 key)) cs))) ≡ true → m ≤ n
    by_test true later there = here (c.0 == m) refl later there
    by_test false later there = later there

filtered_up : (b n : ℕ) (cs : List Numbered) → b ≤ n
    → AllByRecursion (λ (c : Numbered). c.0 ≤ n) (filter (λ (c : Numbered). nat_le c.0 b) cs)
filtered_up b n [] le = tt
filtered_up b n (c ∷ cs) le =
    elim (nat_le c.0 b) as (λ t. nat_le c.0 b ≡ t
    → AllByRecursion (λ (x : Numbered). x.0 ≤ n)
    (cond t (c ∷ filter (λ (x : Numbered). nat_le x.0 b) cs) (filter (λ (x : Numbered). nat_le x.0 b) cs))) [
      | true ↦ λ is. ((let low : c.0 ≤ b = grind (arith, nat_tests) in omega (arith, low, le)), filtered_up b n cs le)
      | false ↦ λ is. filtered_up b n cs le
    ] refl

numbered_up : (number n : ℕ) (ws : List Writes) → number + length ws ≤ n + 1
    → AllByRecursion (λ (c : Numbered). c.0 ≤ n) (numbered number ws)
numbered_up number n [] le = tt
numbered_up number n (w ∷ ws) le = (omega (arith, le), numbered_up (number + 1) n ws (omega (arith, le)))

both_up : (n : ℕ) (xs ys : List Numbered) → AllByRecursion (λ (c : Numbered). c.0 ≤ n) xs
    → AllByRecursion (λ (c : Numbered). c.0 ≤ n) ys → AllByRecursion (λ (c : Numbered). c.0 ≤ n) (xs ++ ys)
both_up n [] ys p q = q
both_up n (x ∷ xs) ys p q = (p.0, both_up n xs ys p.1 q)

pub versions-up : (h : History) (key : List ℕ) (m : ℕ) → has m (versions h key) ≡ true → m ≤ last_number h
versions-up h key =
    up_has (last_number h) key (all_numbered h)
    (both_up (last_number h) (filter (λ (c : Numbered). nat_le c.0 h.first) (entries h.base)) (numbered (h.first + 1) h.commits)
    (filtered_up h.first (last_number h) (entries h.base) (omega arith))
    (numbered_up (h.first + 1) (last_number h) h.commits (omega arith)))
