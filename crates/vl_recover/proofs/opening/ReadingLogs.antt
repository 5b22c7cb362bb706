-- Logs are read, one after the other.
use Rattle.std.proofs.Common.{◌≡◌, ℕ, ◌+◌, ◌<◌, ◌≤◌, Bool, true, false, List, [], ◌∷◌, ◌++◌, map, refl, sym, ap, ◌∙◌, subst, arith}
use Rattle.std.proofs.lemmas.Bool.Decides.{nat_tests}
use Rattle.std.specs.Prelude.{Contains, IfSome, IsSome, Option, None, Some, Result, Ok, Err, nat_lt}
use Rattle.std.specs.FinMap.{get}
use Rattle.std.specs.Option.{option_map}
use Rattle.std.proofs.Common.{append_assoc}
use Rattle.std.specs.List.{AllZip}
use Rattle.std.proofs.lemmas.List.{append-nil, map-append}
use Rattle.vl_disk.specs.Crash.{Image}
use Rattle.vl_disk.specs.Disk.{Lists}
use Rattle.vl_disk.specs.DiskState.{DiskState, File}
use Rattle.vl_disk.specs.Started.{IsRead}
use Rattle.vl_disk.specs.declared.name.Name.{Name}
use Rattle.vl_disk.specs.declared.name.Name.TheVariants.{Log}
use Rattle.vl_engine_model.specs.Logs.{new_segment}
use Rattle.vl_engine_model.specs.Rulings.Flush.{covered_by}
use Rattle.vl_engine_model.specs.declared.segment.Segment.{Segment}
use Rattle.vl_model.specs.declared.log_frame.LogFrame.{LogFrame}
use Rattle.vl_recover.specs.opening.Answers.{HeldLog, held_log}
use Rattle.vl_recover.specs.opening.Counting.{walked_before, walked_by, walked_log}
use Rattle.vl_recover.specs.opening.Finding.{last_log, last_of}
use Rattle.vl_recover.specs.laws.opening.OpeningLaws.{one_standing}
use Rattle.vl_recover.specs.laws.repairing.StageLaws.{err_ok, ok_apart, ok_same}
use Rattle.vl_recover.specs.opening.HeldFiles.{AreWaiting, but_last}
use Rattle.vl_recover.specs.opening.LogsSoFar.{AreHeldSoFar, AreLogsFound, AreReadSoFar, FindsOneMore}
use Rattle.vl_recover.specs.opening.LogsSoFar.{HasOneMore, HoldsMore, IsHeldSo, IsHeldWhere}
use Rattle.vl_recover.specs.opening.LogsSoFar.{followed_of, held_list, number_before, waits_with, walk_of}
use Rattle.vl_recover.specs.opening.Named.{IsGreatestIn, IsLeastOf, IsLogFrom}
use Rattle.vl_recover.specs.opening.Opening.{IsNextLog, StandingLogs}
use Rattle.vl_recover.specs.opening.Results.{frozen_log}
use Rattle.vl_recover.specs.opening.Stages.{on_ok}
use Rattle.vl_recover.specs.opening.Walk.{LogDamage, StandingLog, counted_whole, filled, format_of, in_log, walked, walked_on, with_frames}
use Rattle.vl_recover.specs.opening.Counting.{counted_log}
use Rattle.vl_recover.specs.declared.found.DamagePlace.{DamagePlace}
use Rattle.vl_recover.specs.declared.found.LastLog.{LastLog}
use Rattle.vl_recover.specs.declared.found.LogsFound.{LogsFound}
use Rattle.vl_recover.proofs.opening.WaitingLogs.{covered_behind, stays_damaged, waiting_more, walk_covers, walked_covers}
use Rattle.vl_manifest.specs.declared.waiting.Waiting.{Waiting}
use Rattle.vl_seglog.specs.LogReading.{ReadsLog}
use Rattle.vl_seglog.specs.declared.sealed.SealedLog.{SealedLog}

-- ---- the walk, a log at a time

walked_on-more : (n : ℕ) (p : StandingLog) (ps : List StandingLog) (q : StandingLog)
    → walked_on n p (ps ++ q ∷ []) ≡ walked_log false (walked_before (walked_log true (Ok n) p) ps) q
walked_on-more n p [] q = refl
walked_on-more n p (r ∷ rs) q = by (λ m. walked_on-more m r rs q) (in_log p.number (counted_whole n p.reading))
  where
    by : ((m : ℕ) → walked_on m r (rs ++ q ∷ []) ≡ walked_log false (walked_before (walked_log true (Ok m) r) rs) q)
        → (x : Result ℕ LogDamage) → on_ok (λ m. walked_on m r (rs ++ q ∷ [])) x ≡ walked_log false
        (walked_before (walked_log true x r) rs) q
    by on (Ok m) = on m
    by on (Err d) = ap (λ (x : Result ℕ LogDamage). walked_log false x q) (sym (stays_damaged d rs))

walked_before-more : (before : Result ℕ LogDamage) (qs : List StandingLog) (q : StandingLog)
    → walked_before before (qs ++ q ∷ []) ≡ walked_log true (walked_before before qs) q
walked_before-more before [] q = refl
walked_before-more before (p ∷ ps) q = walked_before-more (walked_log true before p) ps q

walked_more : (followed : Bool) (n : ℕ) (qs : List StandingLog) (q : StandingLog)
    → walked_by followed n (qs ++ q ∷ []) ≡ walked_log followed (walked_before (Ok n) qs) q
walked_more true n qs q = walked_before-more (Ok n) qs q
walked_more false n [] q = refl
walked_more false n (p ∷ ps) q = walked_on-more n p ps q

walked_none : (followed : Bool) (n : ℕ) → Ok n ≡ walked_by followed n []
walked_none true n = refl
walked_none false n = refl

filled-append : (ps qs : List StandingLog) → filled (ps ++ qs) ≡ filled ps ++ filled qs
filled-append [] qs = refl
filled-append (p ∷ ps) qs = by (filled-append ps qs) p.reading.frames
  where
    by : filled (ps ++ qs) ≡ filled ps ++ filled qs → (frames : List LogFrame)
        → with_frames p.number p.reading.header frames (filled (ps ++ qs)) ≡ with_frames p.number p.reading.header frames
        (filled ps) ++ filled qs
    by rest [] = rest
    by rest (f ∷ fs) = ap (λ (ss : List Segment). new_segment (format_of p.reading.header) p.number (f ∷ fs) ∷ ss) rest

last_of-push : (qs : List StandingLog) (q : StandingLog) → last_of (qs ++ q ∷ []) ≡ Some q
last_of-push [] q = refl
last_of-push (p ∷ []) q = refl
last_of-push (p ∷ r ∷ rs) q = last_of-push (r ∷ rs) q

-- ---- what waits

walk_is : (r : Result ℕ DamagePlace) (n : ℕ) → walk_of r ≡ Ok n → r ≡ Ok n
walk_is (Ok m) n e = ap Ok (ok_same {E = LogDamage} m n e)
walk_is (Err d) n e = absurd (err_ok _ n e)

module _ {H : Type 0} (covered : ℕ) (followed : Bool) (logs : List StandingLog) (log : StandingLog) (old new : LogsFound H)
    (so : AreReadSoFar covered true logs old) (one_more : HasOneMore log followed old new) where
  waits_more : (number : ℕ) → new.number ≡ Ok number → AreWaiting covered new.waiting.items (filled (logs ++ log ∷ []))
  waits_more number is =
      let walks : walked_log followed (walk_of old.number) log ≡ Ok number = sym one_more.number ∙ ap walk_of is in
      let (m, before, here) = ok_apart (λ (m : ℕ). in_log log.number (counted_log followed m log.reading)) (walk_of old.number) number
      walks in
      let behind : covered_behind covered (filled logs) ≡ m = walk_covers covered m logs (sym so.number ∙ before) in
      let up = ap (λ (c : ℕ). covered_by log.reading.frames c) behind ∙ walked_covers followed m number log here in
      let more = waiting_more covered number old.waiting.items (filled logs) log (so.waiting m (walk_is old.number m before)) up in
      let named : new.waiting.items ≡ old.waiting.items ++ waits_with log.number number log.reading.frames =
      one_more.waiting ∙ ap (λ (r : Result ℕ DamagePlace). old.waiting.items ++ waits_with log.number (number_before r)
      log.reading.frames) is in
      subst (AreWaiting covered new.waiting.items) (sym (filled-append logs (log ∷ [])))
      (subst (λ (ws : List Waiting). AreWaiting covered ws (filled logs ++ filled (log ∷ []))) (sym named) more)

  so_far_more : AreReadSoFar covered followed (logs ++ log ∷ []) new
  so_far_more = record {
    number = one_more.number ∙ ap (λ (x : Result ℕ LogDamage). walked_log followed x log) so.number
        ∙ sym (walked_more followed covered logs log);
    frozen = one_more.frozen ∙ ap (λ (hs : List HeldLog). hs ++ map held_log (filled (log ∷ []))) so.frozen
        ∙ sym (map-append held_log (filled logs) (filled (log ∷ []))) ∙ ap (map held_log) (sym (filled-append logs (log ∷ [])));
    waiting = waits_more;
    last = one_more.last ∙ ap (option_map last_log) (sym (last_of-push logs log));
  }

-- ---- what is held

zip_push : {A B : Type 0} (R : A → B → Type 0) (xs : List A) (ys : List B) (x : A) (y : B) → AllZip R xs ys → R x y
    → AllZip R (xs ++ x ∷ []) (ys ++ y ∷ [])
zip_push R [] [] x y all one = (one, tt)
zip_push R [] (z ∷ ys) x y all one = absurd all
zip_push R (z ∷ xs) [] x y all one = absurd all
zip_push R (z ∷ xs) (w ∷ ys) x y all one = (all.0, zip_push R xs ys x y all.1 one)

pub but_last-push : {A : Type 0} (xs : List A) (x : A) → but_last (xs ++ x ∷ []) ≡ xs
but_last-push [] x = refl
but_last-push (y ∷ []) x = refl
but_last-push (y ∷ z ∷ zs) x = ap (λ (ws : List _). y ∷ ws) (but_last-push (z ∷ zs) x)

-- one log more
pub holds_more : {H : Type 0} (bytes_of : H → Option (List ℕ)) (image : Image) (q : StandingLog) (number : ℕ) (format : Option ℕ)
    (followed : Bool)
    (held : Option (SealedLog H)) (old new : List (SealedLog H)) → q.number ≡ number → format ≡ q.reading.header
    → IsHeldWhere bytes_of image number format followed held → new ≡ old ++ held_list held → HoldsMore bytes_of image followed q old new
holds_more bytes_of image q number format true None old new at of is more = absurd is
holds_more bytes_of image q number format true (Some log) old new at of is more = (
  log,
  record {
    number_is = is.number_is ∙ sym at;
    format_is = is.format_is ∙ ap format_of of;
    told = is.told ∙ ap (λ (n : ℕ). get image (Log n)) (sym at);
  },
  more,
)
holds_more {H = H} bytes_of image q number format false held old new at of none more =
    more ∙ ap (λ (o : Option (SealedLog H)). old ++ held_list o) none ∙ append-nil old

held_more : {H : Type 0} (bytes_of : H → Option (List ℕ)) (image : Image) (lower : List (SealedLog H)) (logs : List StandingLog)
    (log : StandingLog)
    (old new : List (SealedLog H)) (followed : Bool) → AreHeldSoFar bytes_of image lower true logs old
    → HoldsMore bytes_of image followed log old new
    → AreHeldSoFar bytes_of image lower followed (logs ++ log ∷ []) new
held_more bytes_of image lower logs log old new true so (held, is, more) = record {
  upper = so.upper ++ held ∷ [];
  split = more ∙ ap (λ (ls : List (SealedLog _)). ls ++ held ∷ []) so.split ∙ append_assoc lower so.upper (held ∷ []);
  are = zip_push (IsHeldSo bytes_of image) so.upper logs held log so.are is;
}
held_more bytes_of image lower logs log old new false so same = record {
  upper = so.upper;
  split = same ∙ so.split;
  are = subst (AllZip (IsHeldSo bytes_of image) so.upper) (sym (but_last-push logs log)) so.are;
}

-- ---- the logs of an image, a log at a time

-- another log is named from a number on, or none
abbrev pub IsFollowed : List Name → ℕ → Bool → Type 0
IsFollowed names least true = (n : ℕ) × IsLogFrom names least n
IsFollowed names least false = (n : ℕ) → IsLogFrom names least n → ⊥

one_or_none : (names : List Name) (least : ℕ) (a b : Bool) → IsFollowed names least a → IsFollowed names least b → a ≡ b
one_or_none names least true true p q = refl
one_or_none names least true false p q = absurd (q p.0 p.1)
one_or_none names least false true p q = absurd (p q.0 q.1)
one_or_none names least false false p q = refl

-- a log below the greatest is followed
pub follows : (names : List Name) (number greatest : ℕ) → IsGreatestIn names Log greatest → (followed : Bool)
    → (followed ≡ nat_lt number greatest) → IsFollowed names (number + 1) followed
follows names number greatest is true lt =
    let below : number < greatest = grind (arith, nat_tests) in
    (greatest, (is.is_there (omega (arith, below)), omega (arith, below)))
follows names number greatest is false lt = λ n from.
    let most = is.above n from.0 in
    let past : greatest ≤ number = grind (arith, nat_tests) in
    let above = from.1 in
    omega (arith, most, past, above)

-- the logs before a number were read, and are held
pub record AreReadUpTo {H : Type 0} (bytes_of : H → Option (List ℕ)) (image : Image) (names : List Name) (head covered least : ℕ)
    (lower : List (SealedLog H)) (read : LogsFound H) : Type 0 where
  pub logs : List StandingLog
  pub standing : (rest : List StandingLog) → StandingLogs image least rest → StandingLogs image head (logs ++ rest)
  pub so_far : (followed : Bool) → IsFollowed names least followed → AreReadSoFar covered followed logs read
  pub held : (followed : Bool) → IsFollowed names least followed → AreHeldSoFar bytes_of image lower followed logs read.sealed.items

module _ (image : Image) (names : List Name) (named : (name : Name) → IsSome (get image name) → Contains names name) where
  pub not_named : (name : Name) → (Contains names name → ⊥) → get image name ≡ None
  not_named name none = by (get image name) refl
    where
      by : (left : Option (List ℕ)) → get image name ≡ left → left ≡ None
      by None is = refl
      by (Some bytes) is = absurd (none (named name (subst IsSome (sym is) refl)))

  module _ {H : Type 0} (bytes_of : H → Option (List ℕ)) (lower : List (SealedLog H)) where
    pub none_read : (head covered : ℕ) (read : LogsFound H) → read.number ≡ Ok covered → read.frozen.items ≡ [] → read.waiting.items ≡ []
        → read.sealed.items ≡ lower → read.last ≡ None → AreReadUpTo bytes_of image names head covered head lower read
    none_read head covered read number frozen waiting sealed last = record {
      logs = [];
      standing = λ rest standing. standing;
      so_far = λ followed is. record {
        number = ap walk_of number ∙ walked_none followed covered;
        frozen = ap (map frozen_log) frozen;
        waiting = λ n e. subst (λ (ws : List Waiting). AreWaiting covered ws []) (sym waiting) tt;
        last = last;
      };
      held = λ followed is. record { upper = []; split = sealed ∙ sym (append-nil lower); are = none followed };
    }
      where
        none : (followed : Bool) → AllZip (IsHeldSo bytes_of image) [] (followed_of followed [])
        none true = tt
        none false = tt

    pub one_read : (head covered least number : ℕ) (followed : Bool) (old new : LogsFound H)
        → AreReadUpTo bytes_of image names head covered least lower old
        → IsLeastOf (IsLogFrom names least) (Some number) → IsFollowed names (number + 1) followed
        → FindsOneMore bytes_of image number followed old new → AreReadUpTo bytes_of image names head covered (number + 1) lower new
    one_read head covered least number followed old new so first second on = record {
      logs = so.logs ++ on.log ∷ [];
      standing = λ rest standing. subst (StandingLogs image head) (sym (append_assoc so.logs (on.log ∷ []) rest))
          (so.standing (on.log ∷ rest) (here, subst (λ (n : ℕ). StandingLogs image (n + 1) rest) (sym on.number_is) standing));
      so_far = λ other is_other. subst (λ (b : Bool). AreReadSoFar covered b (so.logs ++ on.log ∷ []) new)
          (one_or_none names (number + 1) followed other second is_other)
          (so_far_more covered followed so.logs on.log old new (so.so_far true (number, first.0)) on.one_more);
      held = λ other is_other. subst (λ (b : Bool). AreHeldSoFar bytes_of image lower b (so.logs ++ on.log ∷ []) new.sealed.items)
          (one_or_none names (number + 1) followed other second is_other)
          (held_more bytes_of image lower so.logs on.log old.sealed.items new.sealed.items followed (so.held true (number, first.0))
          on.held);
    }
      where
        here : IsNextLog image least on.log
        here = record {
          from = let from = first.0.1 in let same = on.number_is in omega (arith, from, same);
          between = λ m above below. not_named (Log m) (λ c. let most = first.1 m (c, above) in let same = on.number_is in omega
              (arith, most, same, below));
          bytes = on.bytes;
          stands = ap (λ (n : ℕ). get image (Log n)) on.number_is ∙ on.stands;
          length_is = on.length_is;
          reads = subst (λ (n : ℕ). ReadsLog n on.bytes on.log.reading) (sym on.number_is) on.reads;
        }

    module _ (head covered least : ℕ) (read : LogsFound H) (so : AreReadUpTo bytes_of image names head covered least lower read)
        (none : IsLeastOf (IsLogFrom names least) None) where
      standing_all : StandingLogs image head so.logs
      standing_all = subst (StandingLogs image head) (append-nil so.logs)
          (so.standing [] (λ m above. not_named (Log m) (λ c. none m (c, above))))

      pub all_read : AreLogsFound image head covered read
      all_read = record { logs = so.logs; standing = standing_all; are_read = so.so_far false none }

      -- these are the logs that stand
      module _ (logs : List StandingLog) (standing : StandingLogs image head logs) where
        same : so.logs ≡ logs
        same = one_standing image head so.logs logs standing_all standing

        pub all_held : AreHeldSoFar bytes_of image lower false logs read.sealed.items
        all_held = subst (λ (qs : List StandingLog). AreHeldSoFar bytes_of image lower false qs read.sealed.items) same (so.held false none)

        pub all_wait : (number : ℕ) → walked covered logs ≡ Ok number → AreWaiting covered read.waiting.items (filled logs)
        all_wait number walk =
            let are = so.so_far false none in
            subst (λ (qs : List StandingLog). AreWaiting covered read.waiting.items (filled qs)) same
            (are.waiting number (walk_is read.number number (are.number ∙ ap (walked covered) same ∙ walk)))

none_is_some : IsSome {T = File} None → ⊥
none_is_some e = cc

-- what a read gives of the files that are listed
pub listed : (image : Image) (disk : DiskState) (names : List Name) → IsRead image disk → Lists names disk → (name : Name)
    → IsSome (get image name) → Contains names name
listed image disk names read lists name some = (lists.all name).1 (by (get disk.standing name) refl)
  where
    by : (file : Option File) → get disk.standing name ≡ file → IsSome file
    by (Some file) is = refl
    by None is = absurd (none_is_some (subst IsSome (read.each name ∙ ap (option_map (λ (file : File). file.bytes)) is) some))

pub last_named : (names : List Name) (number : ℕ) (last : Option LastLog) → Contains names (Log number)
    → IfSome last (λ q. q.number ≡ number) → IfSome last (λ q. Contains names (Log q.number))
last_named names number None named is = tt
last_named names number (Some q) named is = subst (λ (n : ℕ). Contains names (Log n)) (sym is) named
