-- What all shops together come to.
use Rattle.std.proofs.Common.{◌≡◌, inl, inr, ℕ, suc, ◌+◌, ◌^◌, ◌≤◌, ◌<◌, true, false, List, [], ◌∷◌, ◌++◌, length, map, take, drop, refl, ap, sym, ◌∙◌, subst, arith}
use Rattle.std.proofs.lemmas.Bool.{false≢true}
use Rattle.std.specs.Prelude.{IfErr, IfOk, OnOk, Option, None, Some, Result, Ok, Err, slice_index_or}
use Rattle.std.specs.List.{AllByRecursion, AllZip}
use Rattle.vl_drive.proofs.Meeting.{met_less}
use Rattle.vl_drive.proofs.Modesty.{idle_modest, idle_new, modest_more}
use Rattle.vl_drive.proofs.Playing.{on_itself, on_then, trouble_since}
use Rattle.atomic_table.specs.Seated.{TableId}
use Rattle.vl_drive.specs.Clients.{AreDriven, AreDrivenBehind, HasMet, HasOpened, HasPlayed, IsNewAt, count_all}
use Rattle.vl_drive.specs.Knowing.{GoesOn, Knows}
use Rattle.vl_drive.specs.Modest.{AreModest, IsModest}
use Rattle.vl_drive.specs.Numbers.{transfer_in}
use Rattle.vl_drive.specs.Players.{AreReady, AreSeated, Gathers, HasActed, HasEnd, IsCauseOfOne, IsFew, IsSeated, IsStopped, KeepsUp, LeavesModest, all_commits, all_conflicts}
use Rattle.vl_drive.specs.Players.{IsLast, commits_of, conflicts_of, is_done, is_fault, last_of, shop_of}
use Rattle.vl_drive.specs.Playing.{HasScored, IsCause, IsTrouble}
use Rattle.vl_drive.specs.Steps.{is_ended, is_put}
use Rattle.vl_drive.specs.declared.client.Score.{Score}
use Rattle.vl_drive.specs.declared.clients.DriveFail.{DriveFail}
use Rattle.vl_drive.specs.declared.clients.DriveFail.TheVariants as fails
use Rattle.vl_drive.specs.declared.clients.Player.{Player}
use Rattle.vl_drive.specs.declared.trouble.Cause.{Cause}
use Rattle.vl_drive.specs.declared.trouble.Cause.TheVariants as cause
use Rattle.vl_drive.specs.declared.trouble.Trouble.{Trouble}
use Rattle.vl_drive.specs.declared.trouble.Trouble.TheVariants as trouble
use Rattle.vl_engine_model.specs.declared.lock_history.LockEntry.{LockEntry}

-- ---- lists

-- what is so at each place is so of both lists
pub each_zip : {X : Type 0} (R : X → X → Type 0) (xs ys : List X) → length ys ≡ length xs
    → ((i : ℕ) (d : X) → i < length xs → R (slice_index_or xs i d) (slice_index_or ys i d)) → AllZip R xs ys
each_zip R [] [] same each = tt
each_zip R [] (y ∷ ys) same each = absurd (omega arith)
each_zip R (x ∷ xs) [] same each = absurd (omega arith)
each_zip R (x ∷ xs) (y ∷ ys) same each =
    (each 0 x (omega arith), each_zip R xs ys (omega (arith, same)) (λ i d less. each (suc i) d (omega (arith, less))))

-- ---- ends

-- what ended well has a score
score_of : (P : Score → Type 0) (end : Result Score Trouble) → is_done end ≡ true → IfOk end P
    → (score : Score) × (end ≡ Ok score) × P score
score_of P (Ok score) well is = (score, refl, is)
score_of P (Err why) well is = absurd (false≢true well)

trouble_of : (P : Trouble → Type 0) (end : Result Score Trouble) (why : Trouble) → end ≡ Err why → IfErr end P → P why
trouble_of P end why is holds = subst (λ (r : Result Score Trouble). IfErr r P) is holds

-- ---- shops

module _ {S : Type 0} (knows : S → Knows) where
  abbrev known : List (Player S) → List Knows
  known ps = map knows (map shop_of ps)

  -- shops that did nothing more, and the last one
  pub on_last : (xs : List S) (v : Knows) (x : S) → GoesOn v (knows x)
      → AllZip GoesOn (map knows xs ++ v ∷ []) (map knows (xs ++ x ∷ []))
  on_last [] v x on = (on, tt)
  on_last (y ∷ ys) v x on = (on_itself (knows y), on_last ys v x on)

  pub cause_last : (why : Cause) (xs : List S) (v : Knows) (x : S) → IsCause v (knows x) why
      → IsCauseOfOne why (map knows xs ++ v ∷ []) (map knows (xs ++ x ∷ []))
  cause_last why [] v x is = inl is
  cause_last why (y ∷ ys) v x is = inr (cause_last why ys v x is)

module _ {S : Type 0} (knows : S → Knows) (txns seed : ℕ) (note : List LockEntry) where
  none_left : (ps : List (Player S)) (last : Player S) → AllZip (HasActed knows txns seed) (ps ++ last ∷ []) [] → ⊥
  none_left [] last zip = zip
  none_left (p ∷ ps) last zip = zip

  -- ---- all go on

  pub all_on : (client : ℕ) (vs : List Knows) (v : Knows) (ps : List (Player S)) (last : Player S) (qs : List (Player S))
      → AreSeated knows note client vs ps → KeepsUp knows note v last → AllZip (HasActed knows txns seed) (ps ++ last ∷ []) qs
      → AllZip GoesOn (vs ++ v ∷ []) (known knows qs)
  all_on client [] v [] last [] seated keeps zip = absurd zip
  all_on client [] v [] last (q ∷ []) seated keeps zip = (on_then v (knows last.shop) (knows q.shop) keeps.on zip.0.on, tt)
  all_on client [] v [] last (q ∷ r ∷ qs) seated keeps zip = absurd zip.1
  all_on client [] v (p ∷ ps) last qs seated keeps zip = absurd seated
  all_on client (u ∷ vs) v [] last qs seated keeps zip = absurd seated
  all_on client (u ∷ vs) v (p ∷ ps) last [] seated keeps zip = absurd zip
  all_on client (u ∷ vs) v (p ∷ ps) last (q ∷ qs) seated keeps zip =
      (on_then u (knows p.shop) (knows q.shop) seated.0.on zip.0.on, all_on (client + 1) vs v ps last qs seated.1 keeps zip.1)

  -- ---- all are modest

  pub all_modest : (client : ℕ) (vs : List Knows) (v : Knows) (ps : List (Player S)) (last : Player S) (qs : List (Player S))
      → AreSeated knows note client vs ps → KeepsUp knows note v last → AllZip (HasActed knows txns seed) (ps ++ last ∷ []) qs
      → AreModest txns (known knows qs)
  all_modest client [] v [] last [] seated keeps zip = absurd zip
  all_modest client [] v [] last (q ∷ []) seated keeps zip =
      (zip.0.still_modest keeps.keeps (modest_more 0 txns (knows last.shop) (omega arith) keeps.modest), tt)
  all_modest client [] v [] last (q ∷ r ∷ qs) seated keeps zip = absurd zip.1
  all_modest client [] v (p ∷ ps) last qs seated keeps zip = absurd seated
  all_modest client (u ∷ vs) v [] last qs seated keeps zip = absurd seated
  all_modest client (u ∷ vs) v (p ∷ ps) last [] seated keeps zip = absurd zip
  all_modest client (u ∷ vs) v (p ∷ ps) last (q ∷ qs) seated keeps zip =
      (zip.0.modest seated.0.plays seated.0.own, all_modest (client + 1) vs v ps last qs seated.1 keeps zip.1)

  -- ---- all have ended well

  -- the clients have played, and the counts are theirs
  abbrev Plays : (client : ℕ) → List (Player S) → Type 0
  Plays client qs = AreDrivenBehind note seed txns client (known knows qs) × (all_commits qs ≡ count_all is_put (known knows qs))
      × (all_conflicts qs ≡ count_all is_ended (known knows qs))

  last_plays : (client : ℕ) (v : Knows) (p q : Player S) → KeepsUp knows note v p → HasActed knows txns seed p q
      → is_done q.end ≡ true → Plays client (q ∷ [])
  last_plays client v p q keeps acted well =
      let x = score_of (λ (s : Score). (s.commits ≡ 0) × (s.conflicts ≡ 0) × HasOpened note (knows q.shop)) q.end well
      (acted.kept_up keeps.keeps note keeps.opened) in
      let commits = ap commits_of x.1 in
      let conflicts = ap conflicts_of x.1 in
      let none = x.2.0 in
      let none_too = x.2.1 in
      (x.2.2, omega (arith, commits, none), omega (arith, conflicts, none_too))

  one_plays : (client : ℕ) (v : Knows) (p q r : Player S) (qs : List (Player S)) → IsSeated knows note client v p
      → HasActed knows txns seed p q → is_done q.end ≡ true → Plays (client + 1) (r ∷ qs) → Plays client (q ∷ r ∷ qs)
  one_plays client v p q r qs seat acted well rest =
      let x = score_of (λ (s : Score). HasScored (transfer_in seed p.client) txns s.commits s.conflicts (knows q.shop)) q.end well
      (acted.played seat.plays seat.own) in
      let met = score_of (λ (s : Score). HasMet (knows p.shop).seen (knows q.shop)) q.end well (acted.met seat.plays seat.own) in
      let commits = ap commits_of x.1 ∙ x.2.commits_are in
      let conflicts = ap conflicts_of x.1 ∙ x.2.conflicts_are in
      let commits_too = rest.1 in
      let conflicts_too = rest.2 in (
        (
          subst (λ c. HasPlayed (transfer_in seed c) txns (knows q.shop)) seat.number x.2.played,
          met_less note (knows p.shop).seen (knows q.shop) seat.met met.2,
          rest.0,
        ),
        omega (arith, commits, commits_too),
        omega (arith, conflicts, conflicts_too),
      )

  pub all_play : (client : ℕ) (vs : List Knows) (v : Knows) (ps : List (Player S)) (last : Player S) (qs : List (Player S))
      → AreSeated knows note client vs ps → KeepsUp knows note v last → AllZip (HasActed knows txns seed) (ps ++ last ∷ []) qs
      → AllByRecursion (λ (q : Player S). is_done q.end ≡ true) qs → Plays client qs
  all_play client [] v [] last [] seated keeps zip well = absurd zip
  all_play client [] v [] last (q ∷ []) seated keeps zip well = last_plays client v last q keeps zip.0 well.0
  all_play client [] v [] last (q ∷ r ∷ qs) seated keeps zip well = absurd zip.1
  all_play client [] v (p ∷ ps) last qs seated keeps zip well = absurd seated
  all_play client (u ∷ vs) v [] last qs seated keeps zip well = absurd seated
  all_play client (u ∷ vs) v (p ∷ ps) last [] seated keeps zip well = absurd zip
  all_play client (u ∷ vs) v (p ∷ ps) last (q ∷ []) seated keeps zip well = absurd (none_left ps last zip.1)
  all_play client (u ∷ vs) v (p ∷ ps) last (q ∷ r ∷ qs) seated keeps zip well =
      one_plays client u p q r qs seated.0 zip.0 well.0 (all_play (client + 1) vs v ps last (r ∷ qs) seated.1 keeps zip.1 well.1)

  -- ---- one has stopped

  cause_of : (why : Cause) (v : Knows) (p q : Player S) → GoesOn v (knows p.shop) → HasActed knows txns seed p q
      → q.end ≡ Err (trouble.Stopped why) → IsCause v (knows q.shop) why
  cause_of why v p q on acted is =
      trouble_since v (knows p.shop) (knows q.shop) (trouble.Stopped why) on
      (trouble_of (IsTrouble (knows p.shop) (knows q.shop)) q.end (trouble.Stopped why) is acted.trouble)

  pub one_stops : (why : Cause) (client : ℕ) (vs : List Knows) (v : Knows) (ps : List (Player S)) (last : Player S) (qs : List (Player S))
      → AreSeated knows note client vs ps → KeepsUp knows note v last → AllZip (HasActed knows txns seed) (ps ++ last ∷ []) qs
      → HasEnd (trouble.Stopped why) qs → IsCauseOfOne why (vs ++ v ∷ []) (known knows qs)
  one_stops why client [] v [] last [] seated keeps zip has = absurd zip
  one_stops why client [] v [] last (q ∷ []) seated keeps zip (inl is) = inl (cause_of why v last q keeps.on zip.0 is)
  one_stops why client [] v [] last (q ∷ []) seated keeps zip (inr has) = absurd has
  one_stops why client [] v [] last (q ∷ r ∷ qs) seated keeps zip has = absurd zip.1
  one_stops why client [] v (p ∷ ps) last qs seated keeps zip has = absurd seated
  one_stops why client (u ∷ vs) v [] last qs seated keeps zip has = absurd seated
  one_stops why client (u ∷ vs) v (p ∷ ps) last [] seated keeps zip has = absurd zip
  one_stops why client (u ∷ vs) v (p ∷ ps) last (q ∷ qs) seated keeps zip (inl is) =
      inl (cause_of why u p q seated.0.on zip.0 is)
  one_stops why client (u ∷ vs) v (p ∷ ps) last (q ∷ qs) seated keeps zip (inr has) =
      inr (one_stops why (client + 1) vs v ps last qs seated.1 keeps zip.1 has)

-- ---- one more

module _ {S : Type 0} (knows : S → Knows) (note : List LockEntry) where
  pub seated_more : (client : ℕ) (vs : List Knows) (ps : List (Player S)) (v : Knows) (p : Player S)
      → AreSeated knows note client vs ps → IsSeated knows note (client + length vs) v p
      → AreSeated knows note client (vs ++ v ∷ []) (ps ++ p ∷ [])
  seated_more client [] [] v p seated seat = (subst (λ n. IsSeated knows note n v p) (omega arith) seat, tt)
  seated_more client [] (q ∷ ps) v p seated seat = absurd seated
  seated_more client (u ∷ vs) [] v p seated seat = absurd seated
  seated_more client (u ∷ vs) (q ∷ ps) v p seated seat =
      (seated.0, seated_more (client + 1) vs ps v p seated.1 (subst (λ n. IsSeated knows note n v p) (omega arith) seat))

  pub seated_length : (client : ℕ) (vs : List Knows) (ps : List (Player S)) → AreSeated knows note client vs ps
      → length ps ≡ length vs
  seated_length client [] [] seated = refl
  seated_length client [] (p ∷ ps) seated = absurd seated
  seated_length client (v ∷ vs) [] seated = absurd seated
  seated_length client (v ∷ vs) (p ∷ ps) seated = ap suc (seated_length (client + 1) vs ps seated.1)

module _ {S : Type 0} where
  pub commits_more : (ps : List (Player S)) (p : Player S) → all_commits (ps ++ p ∷ []) ≡ all_commits ps + commits_of p.end
  commits_more [] p = omega arith
  commits_more (q ∷ ps) p = let rest = commits_more ps p in omega (arith, rest)

  pub conflicts_more : (ps : List (Player S)) (p : Player S) → all_conflicts (ps ++ p ∷ []) ≡ all_conflicts ps + conflicts_of p.end
  conflicts_more [] p = omega arith
  conflicts_more (q ∷ ps) p = let rest = conflicts_more ps p in omega (arith, rest)

  has_more : (why : Trouble) (ps : List (Player S)) (p : Player S) → HasEnd why ps → HasEnd why (ps ++ p ∷ [])
  has_more why [] p has = absurd has
  has_more why (q ∷ ps) p (inl is) = inl is
  has_more why (q ∷ ps) p (inr has) = inr (has_more why ps p has)

  has_now : (why : Trouble) (ps : List (Player S)) (p : Player S) → p.end ≡ Err why → HasEnd why (ps ++ p ∷ [])
  has_now why [] p is = inl is
  has_now why (q ∷ ps) p is = inr (has_now why ps p is)

  done_more : (ps : List (Player S)) (p : Player S) → AllByRecursion (λ (q : Player S). is_done q.end ≡ true) ps
      → is_done p.end ≡ true → AllByRecursion (λ (q : Player S). is_done q.end ≡ true) (ps ++ p ∷ [])
  done_more [] p all is = (is, tt)
  done_more (q ∷ ps) p all is = (all.0, done_more ps p all.1 is)

  pub last_more : (last : Option Trouble) (ps : List (Player S)) (p : Player S) → IsLast last ps → IsLast (last_of last p.end) (ps ++ p ∷ [])
  last_more last ps p is = by p.end refl last is
    where
      by : (end : Result Score Trouble) → p.end ≡ end → (t : Option Trouble) → IsLast t ps → IsLast (last_of t end) (ps ++ p ∷ [])
      by (Ok score) at None is = done_more ps p is (ap is_done at)
      by (Ok score) at (Some why) is = has_more why ps p is
      by (Err why) at t is = has_now why ps p at

-- ---- lists in a loop

pub map_more : {X Y : Type 0} (f : X → Y) (xs : List X) (x : X) → map f (xs ++ x ∷ []) ≡ map f xs ++ f x ∷ []
map_more f [] x = refl
map_more f (y ∷ ys) x = ap (λ zs. f y ∷ zs) (map_more f ys x)

pub map_length : {X Y : Type 0} (f : X → Y) (xs : List X) → length (map f xs) ≡ length xs
map_length f [] = refl
map_length f (x ∷ xs) = ap suc (map_length f xs)

pub nothing_left : {X : Type 0} (xs : List X) → length xs ≡ 0 → xs ≡ []
nothing_left [] none = refl
nothing_left (x ∷ xs) none = absurd (omega arith)

-- ---- before the threads

module _ {S : Type 0} (knows : S → Knows) (store : TableId) where
  pub new_front : (xs : List S) (x : S) → AllByRecursion (IsNewAt store) (map knows (xs ++ x ∷ []))
      → AllByRecursion (IsNewAt store) (map knows xs)
  new_front [] x all = tt
  new_front (y ∷ ys) x all = (all.0, new_front ys x all.1)

  pub new_last : (xs : List S) (x : S) → AllByRecursion (IsNewAt store) (map knows (xs ++ x ∷ [])) → IsNewAt store (knows x)
  new_last [] x all = all.0
  new_last (y ∷ ys) x all = new_last ys x all.1

  pub new_modest : (turns : ℕ) (xs : List S) → AllByRecursion (IsNewAt store) (map knows xs) → AreModest turns (map knows xs)
  new_modest turns [] all = tt
  new_modest turns (x ∷ xs) all =
      (modest_more 0 turns (knows x) (omega arith) (idle_modest 0 (knows x) (idle_new (knows x) all.0.own)), new_modest turns xs all.1)

pub modest_last : {S : Type 0} (knows : S → Knows) (turns : ℕ) (xs : List S) (x : S) → AreModest turns (map knows xs)
    → IsModest turns (knows x) → AreModest turns (map knows (xs ++ x ∷ []))
modest_last knows turns [] x all is = (is, tt)
modest_last knows turns (y ∷ ys) x all is = (all.0, modest_last knows turns ys x all.1 is)

-- ---- behind them

-- all have driven, and the counts are theirs
abbrev pub HaveDriven : {S : Type 0} (knows : S → Knows) (txns seed : ℕ) → List (Player S) → Type 0
HaveDriven knows txns seed qs = AreDriven seed txns (known knows qs) × (all_commits qs ≡ count_all is_put (known knows qs))
    × (all_conflicts qs ≡ count_all is_ended (known knows qs))

few_end : (txns : ℕ) → txns < 2 ^ 32 → (end : Result Score Trouble) → IfOk end (λ (s : Score). s.commits + s.conflicts ≤ txns)
    → commits_of end + conflicts_of end < 2 ^ 32
few_end txns fits (Ok score) count = omega (arith, fits, count)
few_end txns fits (Err why) count = omega arith

pub all_few : {S : Type 0} (knows : S → Knows) (txns seed : ℕ) (ps qs : List (Player S)) → txns < 2 ^ 32
    → AllZip (HasActed knows txns seed) ps qs → AllByRecursion IsFew qs
all_few knows txns seed [] [] fits zip = tt
all_few knows txns seed [] (q ∷ qs) fits zip = absurd zip
all_few knows txns seed (p ∷ ps) [] fits zip = absurd zip
all_few knows txns seed (p ∷ ps) (q ∷ qs) fits zip =
    (few_end txns fits q.end zip.0.count, all_few knows txns seed ps qs fits zip.1)

module _ {S : Type 0} (knows : S → Knows) (txns seed : ℕ) (vs : List Knows) (v u : Knows) (on : GoesOn v u)
    (ps qs : List (Player S)) (ready : AreReady knows vs u ps) (zip : AllZip (HasActed knows txns seed) ps qs) where
  keeps : KeepsUp knows u.seen v ready.1
  keeps = record {
    keeps = ready.4.keeps;
    on = on_then v u (knows ready.1.shop) on ready.4.on;
    opened = ready.4.opened;
    modest = ready.4.modest;
  }

  parted : AllZip (HasActed knows txns seed) (ready.0 ++ ready.1 ∷ []) qs
  parted = subst (λ xs. AllZip (HasActed knows txns seed) xs qs) ready.2 zip

  pub end_on : AllZip GoesOn (vs ++ v ∷ []) (known knows qs)
  end_on = all_on knows txns seed u.seen 0 vs v ready.0 ready.1 qs ready.3 keeps parted

  pub end_driven : AllByRecursion (λ (q : Player S). is_done q.end ≡ true) qs
      → HaveDriven knows txns seed qs
  end_driven well =
      let plays = all_play knows txns seed u.seen 0 vs v ready.0 ready.1 qs ready.3 keeps parted well in
      ((u.seen, plays.0), plays.1, plays.2)

  stopped_as : (fail : DriveFail S) → Gathers qs fail → IsStopped knows (vs ++ v ∷ []) fail
  stopped_as fails.NoMemory gathers = tt
  stopped_as (fails.Stopped shops why) gathers =
      let same = sym (ap (map knows) gathers.0) in (
        subst (AllZip GoesOn (vs ++ v ∷ [])) same end_on,
        subst (IsCauseOfOne why (vs ++ v ∷ [])) same
            (one_stops knows txns seed u.seen why 0 vs v ready.0 ready.1 qs ready.3 keeps parted gathers.1),
      )

  pub end_stopped : {A : Type 0} (result : Result A (DriveFail S)) → IfErr result (Gathers qs)
      → IfErr result (IsStopped knows (vs ++ v ∷ []))
  end_stopped (Ok r) gathers = gathers
  end_stopped (Err fail) gathers = stopped_as fail gathers

  left_modest : (fail : DriveFail S) → Gathers qs fail → LeavesModest knows txns fail
  left_modest fails.NoMemory gathers = tt
  left_modest (fails.Stopped shops why) gathers =
      subst (AreModest txns) (sym (ap (map knows) gathers.0)) (all_modest knows txns seed u.seen 0 vs v ready.0 ready.1 qs ready.3 keeps parted)

  pub end_modest : {A : Type 0} (result : Result A (DriveFail S)) → IfErr result (Gathers qs)
      → IfErr result (LeavesModest knows txns)
  end_modest (Ok r) gathers = gathers
  end_modest (Err fail) gathers = left_modest fail gathers

-- ---- sure shops

no_fault : (why : Cause) (v w : Knows) → GoesOn v w → v.sure ≡ true → IsCause v w why → is_fault why ≡ false
no_fault cause.Disk v w on sure is = let same = on.sure sure in absurd (omega (arith, same, is))
no_fault (cause.Damaged name place) v w on sure is = let same = on.sure sure in absurd (omega (arith, same, is))
no_fault cause.TooMany v w on sure is = refl
no_fault cause.Exhausted v w on sure is = refl

pub sure_of : (why : Cause) (vs ws : List Knows) → AllZip GoesOn vs ws → AllByRecursion (λ (v : Knows). v.sure ≡ true) vs
    → IsCauseOfOne why vs ws → is_fault why ≡ false
sure_of why [] ws zip sure is = absurd is
sure_of why (v ∷ vs) [] zip sure is = absurd is
sure_of why (v ∷ vs) (w ∷ ws) zip sure (inl is) = no_fault why v w zip.0 sure.0 is
sure_of why (v ∷ vs) (w ∷ ws) zip sure (inr is) = sure_of why vs ws zip.1 sure.1 is

-- ---- one thread

pub kept_of : (P : Type 0) (r : Result Score Trouble) → IfOk r (λ (s : Score). (s.commits ≡ 0) × (s.conflicts ≡ 0)) → OnOk r P
    → IfOk r (λ (s : Score). (s.commits ≡ 0) × (s.conflicts ≡ 0) × P)
kept_of P (Ok score) none is = (none.0, none.1, is)
kept_of P (Err why) none is = none

pub none_up : (n : ℕ) (r : Result Score Trouble) → IfOk r (λ (s : Score). (s.commits ≡ 0) × (s.conflicts ≡ 0))
    → IfOk r (λ (s : Score). s.commits + s.conflicts ≤ n)
none_up n (Ok score) none = let a = none.0 in let b = none.1 in omega (arith, a, b)
none_up n (Err why) none = none

pub count_up : (n : ℕ) (r : Result Score Trouble) → IfOk r (λ (s : Score). s.commits + s.conflicts ≡ n)
    → IfOk r (λ (s : Score). s.commits + s.conflicts ≤ n)
count_up n (Ok score) is = omega (arith, is)
count_up n (Err why) is = is

-- what is written back through a slice of a whole list
pub written_back : {X : Type 0} (n : ℕ) (s items : List X) → n ≡ length items → length s ≡ length items
    → take n (s ++ drop (length s) items) ≡ s
written_back n s items is long = subst (λ m. take m (s ++ drop (length s) items) ≡ s) (sym is) (back s items long)
  where
    back : {Y : Type 0} (t all : List Y) → length t ≡ length all → take (length all) (t ++ drop (length t) all) ≡ t
    back [] [] long = refl
    back [] (y ∷ all) long = absurd (omega arith)
    back (y ∷ t) [] long = absurd (omega arith)
    back (y ∷ t) (z ∷ all) long = ap (λ xs. y ∷ xs) (back t all (omega (arith, long)))

-- ---- what comes back

abbrev AllDone : {S : Type 0} → List (Player S) → Type 0
AllDone {S} qs = AllByRecursion (λ (q : Player S). is_done q.end ≡ true) qs

pub on_by : {S A E : Type 0} (r : Result A E) (items : A → List S) (knows : S → Knows) (qs : List (Player S)) (vs : List Knows)
    → AllZip GoesOn vs (known knows qs) → IfOk r (λ (a : A). items a ≡ map shop_of qs)
    → IfOk r (λ (a : A). AllZip GoesOn vs (map knows (items a)))
on_by (Ok a) items knows qs vs zip is = subst (λ xs. AllZip GoesOn vs (map knows xs)) (sym is) zip
on_by (Err e) items knows qs vs zip is = is

pub driven_by : {S A E : Type 0} (r : Result A E) (items : A → List S) (knows : S → Knows) (txns seed : ℕ) (qs : List (Player S))
    → (AllDone qs → HaveDriven knows txns seed qs) → IfOk r (λ (a : A). items a ≡ map shop_of qs) → IfOk r (λ (a : A). AllDone qs)
    → IfOk r (λ (a : A). AreDriven seed txns (map knows (items a)))
driven_by (Ok a) items knows txns seed qs ends is well = subst (λ xs. AreDriven seed txns (map knows xs)) (sym is) (ends well).0
driven_by (Err e) items knows txns seed qs ends is well = is

pub commits_by : {S A E : Type 0} (r : Result A E) (items : A → List S) (count : A → ℕ) (knows : S → Knows) (txns seed : ℕ)
    (qs : List (Player S)) → (AllDone qs → HaveDriven knows txns seed qs) → IfOk r (λ (a : A). items a ≡ map shop_of qs)
    → IfOk r (λ (a : A). AllDone qs) → IfOk r (λ (a : A). count a ≡ all_commits qs)
    → IfOk r (λ (a : A). count a ≡ count_all is_put (map knows (items a)))
commits_by (Ok a) items count knows txns seed qs ends is well sum =
    sum ∙ (ends well).1 ∙ ap (λ xs. count_all is_put (map knows xs)) (sym is)
commits_by (Err e) items count knows txns seed qs ends is well sum = sum

pub conflicts_by : {S A E : Type 0} (r : Result A E) (items : A → List S) (count : A → ℕ) (knows : S → Knows) (txns seed : ℕ)
    (qs : List (Player S)) → (AllDone qs → HaveDriven knows txns seed qs) → IfOk r (λ (a : A). items a ≡ map shop_of qs)
    → IfOk r (λ (a : A). AllDone qs) → IfOk r (λ (a : A). count a ≡ all_conflicts qs)
    → IfOk r (λ (a : A). count a ≡ count_all is_ended (map knows (items a)))
conflicts_by (Ok a) items count knows txns seed qs ends is well sum =
    sum ∙ (ends well).2 ∙ ap (λ xs. count_all is_ended (map knows xs)) (sym is)
conflicts_by (Err e) items count knows txns seed qs ends is well sum = sum
