-- What threads with shops come to.
use Rattle.std.specs.Prelude.{◌≡◌, ◌≤◌, ◌<◌, ◌⊎◌, ℕ, ◌+◌, ◌^◌, ◌++◌, Bool, false, true, List, [], ◌∷◌, map}
use Rattle.std.specs.Prelude.{IfErr, IfOk, OnOk, Result, Ok, Err, Option, None, Some}
use Rattle.std.specs.List.{AllByRecursion, AllZip}
use Rattle.vl_drive.specs.Clients.{HasMet, HasOpened}
use Rattle.vl_drive.specs.Knowing.{GoesOn, Knows}
use Rattle.vl_drive.specs.Modest.{AreModest, IsModest}
use Rattle.vl_drive.specs.Numbers.{transfer_in}
use Rattle.vl_drive.specs.Playing.{HasScored, IsCause, IsTrouble}
use Rattle.vl_drive.specs.declared.client.Score.{Score}
use Rattle.vl_drive.specs.declared.clients.DriveFail.{DriveFail}
use Rattle.vl_drive.specs.declared.clients.DriveFail.TheVariants as fails
use Rattle.vl_drive.specs.declared.clients.Player.{Player}
use Rattle.vl_drive.specs.declared.trouble.Cause.{Cause}
use Rattle.vl_drive.specs.declared.trouble.Cause.TheVariants as cause
use Rattle.vl_drive.specs.declared.trouble.Trouble.{Trouble}
use Rattle.vl_drive.specs.declared.trouble.Trouble.TheVariants as trouble
use Rattle.vl_engine_model.specs.declared.lock_history.LockEntry.{LockEntry}
use mathlib.Core.List.{IsPrefix}

-- ---- troubles

-- one of the shops had this cause on its way
abbrev pub IsCauseOfOne : Cause → List Knows → List Knows → Type 0
IsCauseOfOne why [] ws = ⊥
IsCauseOfOne why (v ∷ vs) [] = ⊥
IsCauseOfOne why (v ∷ vs) (w ∷ ws) = IsCause v w why ⊎ IsCauseOfOne why vs ws

-- a failure of the disk, or damage
abbrev pub is_fault : Cause → Bool
is_fault cause.Disk = true
is_fault (cause.Damaged name place) = true
is_fault cause.TooMany = false
is_fault cause.Exhausted = false

module _ {S : Type 0} (knows : S → Knows) where
  -- the shops come back, and one of them had the cause
  abbrev pub IsStopped : List Knows → DriveFail S → Type 0
  IsStopped vs fails.NoMemory = Unit {0}
  IsStopped vs (fails.Stopped shops why) =
      AllZip GoesOn vs (map knows shops.items) × IsCauseOfOne why vs (map knows shops.items)

  -- and are modest
  abbrev pub LeavesModest : (turns : ℕ) → DriveFail S → Type 0
  LeavesModest turns fails.NoMemory = Unit {0}
  LeavesModest turns (fails.Stopped shops why) = AreModest turns (map knows shops.items)

  -- ---- players

  -- a client before its first turn, with what it knew when it was handed in; it has met this note
  pub record IsSeated (note : List LockEntry) (client : ℕ) (v : Knows) (p : Player S) : Type 0 where
    pub number : p.client ≡ client
    pub plays : p.keeps_up ≡ false
    pub on : GoesOn v (knows p.shop)
    pub own : (knows p.shop).own ≡ []
    pub met : IsPrefix note (knows p.shop).seen

  -- these are clients, which count from this number on
  abbrev pub AreSeated : (note : List LockEntry) → (client : ℕ) → List Knows → List (Player S) → Type 0
  AreSeated note client [] [] = Unit {0}
  AreSeated note client [] (p ∷ ps) = ⊥
  AreSeated note client (v ∷ vs) [] = ⊥
  AreSeated note client (v ∷ vs) (p ∷ ps) = IsSeated note client v p × AreSeated note (client + 1) vs ps

  -- the last one, which made the first commit and noted it
  pub record KeepsUp (note : List LockEntry) (v : Knows) (p : Player S) : Type 0 where
    pub keeps : p.keeps_up ≡ true
    pub on : GoesOn v (knows p.shop)
    pub opened : HasOpened note (knows p.shop)
    pub modest : IsModest 0 (knows p.shop)

  -- clients, and behind them the one that keeps up; what this one has seen is noted
  abbrev pub AreReady : (vs : List Knows) → Knows → List (Player S) → Type 0
  AreReady vs v ps = (clients : List (Player S)) × (last : Player S)
      × (ps ≡ clients ++ last ∷ []) × AreSeated v.seen 0 vs clients × KeepsUp v.seen v last

  -- what a thread did: a client took its turns, or the store was kept up
  pub record HasActed (txns seed : ℕ) (p q : Player S) : Type 0 where
    pub on : GoesOn (knows p.shop) (knows q.shop)
    pub played : p.keeps_up ≡ false → (knows p.shop).own ≡ []
        → IfOk q.end (λ score. HasScored (transfer_in seed p.client) txns score.commits score.conflicts (knows q.shop))
    pub met : p.keeps_up ≡ false → (knows p.shop).own ≡ []
        → OnOk q.end (HasMet (knows p.shop).seen (knows q.shop))
    pub kept_up : p.keeps_up ≡ true → (note : List LockEntry) → HasOpened note (knows p.shop)
        → IfOk q.end (λ score. (score.commits ≡ 0) × (score.conflicts ≡ 0) × HasOpened note (knows q.shop))
    pub modest : p.keeps_up ≡ false → (knows p.shop).own ≡ [] → IsModest txns (knows q.shop)
    pub still_modest : p.keeps_up ≡ true → IsModest txns (knows p.shop) → IsModest txns (knows q.shop)
    pub count : IfOk q.end (λ score. score.commits + score.conflicts ≤ txns)
    pub trouble : IfErr q.end (IsTrouble (knows p.shop) (knows q.shop))

-- ---- what they came to

abbrev pub commits_of : Result Score Trouble → ℕ
commits_of (Ok score) = score.commits
commits_of (Err why) = 0

abbrev pub conflicts_of : Result Score Trouble → ℕ
conflicts_of (Ok score) = score.conflicts
conflicts_of (Err why) = 0

-- the trouble after one more end
abbrev pub last_of : Option Trouble → Result Score Trouble → Option Trouble
last_of last (Ok score) = last
last_of last (Err why) = Some why

abbrev pub is_done : Result Score Trouble → Bool
is_done (Ok score) = true
is_done (Err why) = false

module _ {S : Type 0} where
  abbrev pub all_commits : List (Player S) → ℕ
  all_commits [] = 0
  all_commits (p ∷ ps) = commits_of p.end + all_commits ps

  abbrev pub all_conflicts : List (Player S) → ℕ
  all_conflicts [] = 0
  all_conflicts (p ∷ ps) = conflicts_of p.end + all_conflicts ps

  abbrev pub shop_of : Player S → S
  shop_of p = p.shop

  -- not more turns than a number of 32 bits can have
  abbrev pub IsFew : Player S → Type 0
  IsFew p = commits_of p.end + conflicts_of p.end < 2 ^ 32

  -- it is the trouble of one of these
  abbrev pub HasEnd : Trouble → List (Player S) → Type 0
  HasEnd why [] = ⊥
  HasEnd why (p ∷ ps) = (p.end ≡ Err why) ⊎ HasEnd why ps

  -- this is one's trouble; where it is none, none has any
  abbrev pub IsLast : Option Trouble → List (Player S) → Type 0
  IsLast None ps = AllByRecursion (λ (p : Player S). is_done p.end ≡ true) ps
  IsLast (Some why) ps = HasEnd why ps

  -- the shops come back, and one had this trouble
  abbrev pub Gathers : List (Player S) → DriveFail S → Type 0
  Gathers ps fails.NoMemory = Unit {0}
  Gathers ps (fails.Stopped shops why) = (shops.items ≡ map shop_of ps) × HasEnd (trouble.Stopped why) ps
