-- Opening depends on what leads an image, on the tables that are named and the logs that these lead into, and on the logs
-- from head on.
use Rattle.std.specs.Prelude.{◌≡◌, ◌≢◌, ◌⊎◌, ◌≤◌, ◌<◌, ℕ, ◌+◌, if◌then◌else◌, List, [], ◌∷◌, None, Some, Result, Ok}
use Rattle.std.specs.Prelude.{Err, refl, true, Bool, false, nat_le, Option}
use Rattle.std.specs.FinMap.{get}
use Rattle.std.proofs.Common.{sym, ap, subst, ◌∙◌, arith, inl, inr, ⊎_elim}
use Rattle.std.proofs.lemmas.Bool.{cases_eq}
use Rattle.vl_disk.specs.Crash.{Image}
use Rattle.vl_disk.specs.laws.NameMap.{same_or_other}
use Rattle.vl_disk.specs.declared.name.Name.{Name}
use Rattle.vl_disk.specs.declared.name.Name.TheVariants.{Log, Table, Manifest}
use Rattle.vl_manifest.specs.Current.{IsCurrent, StandsReadable}
use Rattle.vl_manifest.specs.Formats.{gone_format}
use Rattle.vl_manifest.specs.States.{as_read}
use Rattle.vl_manifest.specs.declared.state.ManifestState.{ManifestState}
use Rattle.vl_model.specs.declared.log_frame.LogFrame.{LogFrame}
use Rattle.vl_recover.specs.crash.Alike.{OpensLike, SameNeeded, SameState, ShowsAs}
use Rattle.vl_seglog.specs.LogReading.{LogReading, ReadsLog}
use Rattle.vl_seglog.specs.laws.LogReadingLaws.{one_log_reading}
use Rattle.vl_recover.specs.opening.Opening.{Bare, FoundTable, Heading, Headless, IsAmong, IsBare, IsHeaded, IsNamed}
use Rattle.vl_recover.specs.opening.Opening.{IsNextLog, Led, NamedLevel, NamedLevels, NamedLogs, NamedTable}
use Rattle.vl_recover.specs.opening.Opening.{NewerFormat, Newest, NotAStore, Opening, Refusal, Says, StandingLogs}
use Rattle.vl_recover.specs.opening.Opening.{key_before, led_into}
use Rattle.vl_recover.specs.laws.opening.OpeningLaws.{IsOpened, is_opened, opened, opening_made, some_none, some_same}
use Rattle.vl_recover.specs.laws.repairing.StageLaws.{ok_with}
use Rattle.vl_recover.specs.laws.opening.ContentLaws.{SameContent, same_counted, same_filled, walk_more}
use Rattle.vl_recover.specs.opening.Walk.{StandingLog, counted_behind, counted_whole, filled, in_log, standing_log, walked, with_frames}

-- ---- states and images that are alike

pub same_state : (s : ManifestState) → SameState s s
same_state s = record { levels = refl; head = refl; covered = refl; keep = refl; since = refl; gone = omega arith }

pub state_then : (a b c : ManifestState) → SameState a b → SameState b c → SameState a c
state_then a b c p q = record {
  levels = p.levels ∙ q.levels;
  head = p.head ∙ q.head;
  covered = p.covered ∙ q.covered;
  keep = p.keep ∙ q.keep;
  since = p.since ∙ q.since;
  gone = (let one = p.gone in let other = q.gone in omega (arith, one, other));
}

-- what a format reads of a state is the same
pub read_same : (format : ℕ) (s : ManifestState) → s.gone ≤ (as_read format s).gone → SameState (as_read format s) s
read_same format s gone = by (nat_le gone_format format) gone
  where
    by : (b : Bool) → s.gone ≤ (if b then s else record s { gone = s.covered }).gone
        → SameState (if b then s else record s { gone = s.covered }) s
    by true more = same_state s
    by false more = record { levels = refl; head = refl; covered = refl; keep = refl; since = refl; gone = more }

pub shows_same : (o : Opening) → ShowsAs o o
shows_same o = record { state = same_state o.state; levels = refl; logs = refl; number = refl }

pub shows_then : (a b c : Opening) → ShowsAs a b → ShowsAs b c → ShowsAs a c
shows_then a b c p q = record {
  state = state_then a.state b.state c.state p.state q.state;
  levels = p.levels ∙ q.levels;
  logs = p.logs ∙ q.logs;
  number = p.number ∙ q.number;
}

pub like_same : (image : Image) → OpensLike image image
like_same image o opens = (o, opens, shows_same o, record { tables = λ n named. refl; logs = λ n among. refl })

pub like_then : (a b c : Image) → OpensLike a b → OpensLike b c → OpensLike a c
like_then a b c p q o opens =
    let (mid, opens_mid, as_o, need_o) = q o opens in
    let (top, opens_top, as_mid, need_mid) = p mid opens_mid in (
      top,
      opens_top,
      shows_then top mid o as_mid as_o,
      record {
        tables = λ n named.
            need_mid.tables n (subst (λ (l : List (List ℕ)). IsNamed l n) (sym as_o.state.levels) named) ∙ need_o.tables n named;
        logs = λ n among.
            need_mid.logs n (subst (λ (l : List (List FoundTable)). IsAmong (led_into l) n) (sym as_o.levels) among)
            ∙ need_o.logs n among;
      },
    )

-- ---- tables, and the logs that they lead into

module _ (image other : Image) where
  table_kept : (before : Option (List ℕ)) (n : ℕ) (t : FoundTable) → get image (Table n) ≡ get other (Table n)
      → NamedTable other before n (Ok t) → NamedTable image before n (Ok t)
  table_kept before n t same (stands, above) = (
    record { numbered = stands.numbered; bytes = stands.bytes; stands = same ∙ stands.stands; reads = stands.reads },
    above,
  )

  level_kept : (deeper : Bool) (before : Option (List ℕ)) (ns : List ℕ) (ts : List FoundTable)
      → ((n : ℕ) → IsAmong ns n → get image (Table n) ≡ get other (Table n))
      → NamedLevel deeper other before ns (Ok ts) → NamedLevel deeper image before ns (Ok ts)
  level_kept deeper before [] ts same is = is
  level_kept deeper before (n ∷ ns) ts same (t, named, (others, rest, e)) = (
    t,
    table_kept before n t (same n (inl refl)) named,
    (others, level_kept deeper (key_before deeper t) ns others (λ m among. same m (inr among)) rest, e),
  )

  -- Tables read the same where they have the same bytes,
  pub levels_kept : (deeper : Bool) (levels : List (List ℕ)) (found : List (List FoundTable))
      → ((n : ℕ) → IsNamed levels n → get image (Table n) ≡ get other (Table n))
      → NamedLevels deeper other levels (Ok found) → NamedLevels deeper image levels (Ok found)
  levels_kept deeper [] found same is = is
  levels_kept deeper (ns ∷ levels) found same (ts, named, (others, rest, e)) = (
    ts,
    level_kept deeper None ns ts (λ m among. same m (inl among)) named,
    (others, levels_kept true levels others (λ m among. same m (inr among)) rest, e),
  )

  -- and so do the logs that they lead into.
  pub led_logs_kept : (ns : List ℕ) → ((n : ℕ) → IsAmong ns n → get image (Log n) ≡ get other (Log n))
      → NamedLogs other ns (Ok tt) → NamedLogs image ns (Ok tt)
  led_logs_kept [] same is = is
  led_logs_kept (n ∷ ns) same (u, (bytes, stands, header), rest) = (
    tt,
    (bytes, same n (inl refl) ∙ stands, header),
    led_logs_kept ns (λ m among. same m (inr among)) rest,
  )

-- ---- opening alike

-- the logs from a number on have the frames that these have, and count as they do
pub record Alike (image : Image) (least : ℕ) (others : List StandingLog) : Type 0 where
  pub standing : List StandingLog
  pub stands : StandingLogs image least standing
  pub logs : filled standing ≡ filled others
  pub walk : (n number : ℕ) → walked n others ≡ Ok number → walked n standing ≡ Ok number

-- how an image opens as an opening of another, of which this was found
pub record OpensAs (image other : Image) (o : Opening) (found : List StandingLog) : Type 0 where
  pub heading : Heading
  pub state : ManifestState
  pub headed : IsHeaded image heading
  pub says : Says heading (Ok state)
  pub same : SameState state o.state
  pub needed : SameNeeded image other o
  pub alike : Alike image o.state.head found

-- An image that opens by the same tables and logs, whatever leads it, opens like another.
pub like_by : (image other : Image)
    → ((o : Opening) (is : IsOpened other o) → OpensAs image other o is.standing) → OpensLike image other
like_by image other by o opens =
    let is = opened other o opens in
    let here = by o is in
    let p = opening_made here.state o.levels here.alike.standing o.number in (
      p,
      is_opened image p (record {
        heading = here.heading;
        headed = here.headed;
        says = here.says;
        levels = subst (λ (l : List (List ℕ)). NamedLevels false image l (Ok o.levels)) (sym here.same.levels)
            (levels_kept image other false o.state.levels o.levels here.needed.tables is.levels);
        led = led_logs_kept image other (led_into o.levels) here.needed.logs is.led;
        standing = here.alike.standing;
        stands = subst (λ (n : ℕ). StandingLogs image n here.alike.standing) (sym here.same.head) here.alike.stands;
        walk = ap (λ (n : ℕ). walked n here.alike.standing) here.same.covered
            ∙ here.alike.walk o.state.covered o.number is.walk;
        logs_are = refl;
      }),
      record { state = here.same; levels = refl; logs = here.alike.logs ∙ sym is.logs_are; number = refl },
      here.needed,
    )

-- ---- what leads

pub log_manifest : (m n : ℕ) → Log m ≡ Manifest n → ⊥
log_manifest m n e = cc

pub manifest_same : (m n : ℕ) → Manifest m ≡ Manifest n → m ≡ n
manifest_same m n e = cc

pub log_same : (m n : ℕ) → Log m ≡ Log n → m ≡ n
log_same m n e = cc

-- the same manifests can be read
pub record SameLead (image other : Image) : Type 0 where
  pub there : (n : ℕ) (bytes : List ℕ) → StandsReadable other n bytes → StandsReadable image n bytes
  pub back : (n : ℕ) (bytes : List ℕ) → StandsReadable image n bytes → StandsReadable other n bytes

pub same_lead : (image other : Image) → ((n : ℕ) → get image (Manifest n) ≡ get other (Manifest n)) → SameLead image other
same_lead image other same = record {
  there = λ n bytes r. record { stands = same n ∙ r.stands; readable = r.readable };
  back = λ n bytes r. record { stands = sym (same n) ∙ r.stands; readable = r.readable };
}

-- but for one name the images are the same
abbrev pub SameBut : Name → Image → Image → Type 0
SameBut name image other = (q : Name) → q ≢ name → get image q ≡ get other q

module _ (image other : Image) where
  pub led_kept : SameLead image other → (n : ℕ) (bytes : List ℕ) → IsCurrent other n bytes
      → IsCurrent image n bytes
  led_kept same n bytes current = record {
    here = same.there n bytes current.here;
    greatest = λ m others r. current.greatest m others (same.back m others r);
  }

  pub bare_kept : SameLead image other → ((n : ℕ) → get image (Log n) ≡ get other (Log n))
      → ((n : ℕ) → get image (Table n) ≡ get other (Table n)) → IsBare other → IsBare image
  bare_kept same logs tables bare = record {
    none = λ n bytes r. bare.none n bytes (same.back n bytes r);
    no_log = λ n. logs n ∙ bare.no_log n;
    no_table = λ n. tables n ∙ bare.no_table n;
  }

  -- a manifest other than the one that may differ
  readable_still : (k n : ℕ) (bytes : List ℕ) → SameBut (Manifest k) image other → Manifest n ≢ Manifest k
      → StandsReadable image n bytes → StandsReadable other n bytes
  readable_still k n bytes same apart r =
      record { stands = sym (same (Manifest n) apart) ∙ r.stands; readable = r.readable }

  readable_again : (k n : ℕ) (bytes : List ℕ) → SameBut (Manifest k) image other → Manifest n ≢ Manifest k
      → StandsReadable other n bytes → StandsReadable image n bytes
  readable_again k n bytes same apart r =
      record { stands = same (Manifest n) apart ∙ r.stands; readable = r.readable }

  -- Images lead alike that differ in a manifest that neither of them can read.
  pub lead_over : (k : ℕ) → SameBut (Manifest k) image other
      → ((bytes : List ℕ) → StandsReadable image k bytes → ⊥)
      → ((bytes : List ℕ) → StandsReadable other k bytes → ⊥) → SameLead image other
  lead_over k same not_now not_there = record {
    there = λ n bytes r. ⊎_elim
        (λ (e : Manifest n ≡ Manifest k).
        absurd (not_there bytes (subst (λ (m : ℕ). StandsReadable other m bytes) (manifest_same n k e) r)))
        (λ (apart : Manifest n ≢ Manifest k). readable_again k n bytes same apart r)
        (same_or_other (Manifest n) (Manifest k));
    back = λ n bytes r. ⊎_elim
        (λ (e : Manifest n ≡ Manifest k).
        absurd (not_now bytes (subst (λ (m : ℕ). StandsReadable image m bytes) (manifest_same n k e) r)))
        (λ (apart : Manifest n ≢ Manifest k). readable_still k n bytes same apart r)
        (same_or_other (Manifest n) (Manifest k));
  }

  -- A new manifest above all that could be read is current.
  pub led_anew : (k : ℕ) (bytes : List ℕ) → SameBut (Manifest k) image other → StandsReadable image k bytes
      → ((m : ℕ) (others : List ℕ) → StandsReadable other m others → m ≤ k) → IsCurrent image k bytes
  led_anew k bytes same reads below = record {
    here = reads;
    greatest = λ n others r. ⊎_elim
        (λ (e : Manifest n ≡ Manifest k). let is : n ≡ k = manifest_same n k e in omega (arith, is))
        (λ (apart : Manifest n ≢ Manifest k). below n others (readable_still k n others same apart r))
        (same_or_other (Manifest n) (Manifest k));
  }

-- ---- logs

-- The log with this number stands in both images, with the same content each time.
pub record SameFrames (image other : Image) (number : ℕ) : Type 0 where
  pub now : List ℕ
  pub was : List ℕ
  pub reads : LogReading
  pub read : LogReading
  pub stands : get image (Log number) ≡ Some now
  pub stood : get other (Log number) ≡ Some was
  pub reads_now : ReadsLog number now reads
  pub read_was : ReadsLog number was read
  pub same : SameContent reads read

-- the log with this number stands in one image and not in the other, and has no frames
pub record NewLog (image other : Image) (number : ℕ) : Type 0 where
  pub bytes : List ℕ
  pub reading : LogReading
  pub stands : get image (Log number) ≡ Some bytes
  pub none : get other (Log number) ≡ None
  pub reads : ReadsLog number bytes reading
  pub empty : reading.frames ≡ []

-- above this number no log stands
abbrev pub NoLogAbove : ℕ → Image → Type 0
NoLogAbove number image = (m : ℕ) → number < m → get image (Log m) ≡ None

-- a last log from a number on ends with its frames
abbrev pub LastIsWhole : ℕ → Image → Type 0
LastIsWhole least image = (number : ℕ) (bytes : List ℕ) (reading : LogReading) → least ≤ number
    → get image (Log number) ≡ Some bytes → ReadsLog number bytes reading → NoLogAbove number image
    → reading.whole ≡ true

-- Logs from a number on are alike, and there are some.
pub record AlikeSome (image : Image) (least : ℕ) (others : List StandingLog) : Type 0 where
  pub first : StandingLog
  pub behind : List StandingLog
  pub standing : StandingLogs image least (first ∷ behind)
  pub logs : filled (first ∷ behind) ≡ filled others
  pub walk : (n number : ℕ) → walked n others ≡ Ok number → walked n (first ∷ behind) ≡ Ok number

pub alike_some : (image : Image) (least : ℕ) (others : List StandingLog) → AlikeSome image least others → Alike image least others
alike_some image least others a =
    record { standing = a.first ∷ a.behind; stands = a.standing; logs = a.logs; walk = a.walk }

module _ (image other : Image) where
  next_kept : (least : ℕ) (log : StandingLog)
      → ((m : ℕ) → least ≤ m → m < log.number + 1 → get image (Log m) ≡ get other (Log m))
      → IsNextLog other least log → IsNextLog image least log
  next_kept least log same next = record {
    from = next.from;
    between = λ m from less. same m from (omega (arith, less)) ∙ next.between m from less;
    bytes = next.bytes;
    stands = same log.number next.from (omega arith) ∙ next.stands;
    length_is = next.length_is;
    reads = next.reads;
  }

  -- The same logs stand where each stands with the same bytes.
  pub standing_kept : (least : ℕ) (logs : List StandingLog)
      → ((m : ℕ) → least ≤ m → get image (Log m) ≡ get other (Log m))
      → StandingLogs other least logs → StandingLogs image least logs
  standing_kept least [] same none = λ m from. same m from ∙ none m from
  standing_kept least (log ∷ logs) same (next, rest) =
      let from = next.from in (
        next_kept least log (λ m above less. same m above) next,
        standing_kept (log.number + 1) logs (λ m above. same m (omega (arith, from, above))) rest,
      )

  -- a log that is the same before others that are alike
  behind_one : (least : ℕ) (q p : StandingLog) (ps : List StandingLog)
      → ((m : ℕ) → least ≤ m → m < q.number + 1 → get image (Log m) ≡ get other (Log m))
      → IsNextLog other least q → AlikeSome image (q.number + 1) (p ∷ ps) → AlikeSome image least (q ∷ p ∷ ps)
  behind_one least q p ps same next rest = record {
    first = q;
    behind = rest.first ∷ rest.behind;
    standing = (next_kept least q same next, rest.standing);
    logs = ap (with_frames q.number q.reading.header q.reading.frames) rest.logs;
    walk = λ n number e. ok_with (λ m. walked m (p ∷ ps)) (λ m. walked m (rest.first ∷ rest.behind)) number number
        (λ m. rest.walk m number) (in_log q.number (counted_whole n q.reading)) e;
  }

  module _ (k : ℕ) (same : SameBut (Log k) image other) (none_above : NoLogAbove k other) where
    same_log : (m : ℕ) → m ≢ k → get image (Log m) ≡ get other (Log m)
    same_log m apart = same (Log m) (λ e. apart (log_same m k e))

    -- Logs are alike of which only the last one reads otherwise, with the same frames.
    pub last_alike : SameFrames image other k → (least : ℕ) (logs : List StandingLog) → least ≤ k
        → StandingLogs other least logs → AlikeSome image least logs
    last_alike both least [] from none = absurd (some_none both.was (sym both.stood ∙ none k from))
    last_alike both least (q ∷ []) from (next, none) =
        let not_less : k < q.number → ⊥ =
        λ less. some_none both.was (sym both.stood ∙ next.between k from less) in
        let not_more : q.number < k → ⊥ =
        λ less. some_none both.was (sym both.stood ∙ none k (omega (arith, less))) in
        let at : q.number ≡ k = omega (arith, not_less, not_more) in
        let bytes : next.bytes ≡ both.was = some_same next.bytes both.was
        (sym next.stands ∙ ap (λ (n : ℕ). get other (Log n)) at ∙ both.stood) in
        let reads : ReadsLog k both.was q.reading =
        subst (λ (x : List ℕ). ReadsLog k x q.reading) bytes
        (subst (λ (n : ℕ). ReadsLog n next.bytes q.reading) at next.reads) in
        let reading : q.reading ≡ both.read =
        one_log_reading k both.was q.reading both.read reads both.read_was in
        let content : SameContent both.reads q.reading = subst (SameContent both.reads) (sym reading) both.same in
        record {
          first = standing_log k both.now both.reads;
          behind = [];
          standing = (
            record {
              from = from;
              between = λ m above less.
                  same_log m (omega (arith, less)) ∙ next.between m above (omega (arith, less, at));
              bytes = both.now;
              stands = both.stands;
              length_is = refl;
              reads = both.reads_now;
            },
            λ m above. same_log m (omega (arith, above)) ∙ none m (omega (arith, above, at)),
          );
          logs = same_filled both.reads q.reading content k []
              ∙ ap (λ (m : ℕ). with_frames m q.reading.header q.reading.frames []) (sym at);
          walk = λ n number e.
              ap (in_log k) (same_counted both.reads q.reading content n)
              ∙ ap (λ (m : ℕ). in_log m (counted_behind q.reading.header n q.reading.frames)) (sym at) ∙ e;
        }
    last_alike both least (q ∷ p ∷ ps) from (next, (after, rest)) =
        let not_less : k < q.number → ⊥ =
        λ less. some_none both.was (sym both.stood ∙ next.between k from less) in
        let not_here : k ≡ q.number → ⊥ =
        λ e. (let up = after.from in some_none after.bytes
        (sym after.stands ∙ none_above p.number (omega (arith, e, up)))) in
        let above : q.number < k = omega (arith, not_less, not_here) in
        behind_one least q p ps (λ m a b. same_log m (omega (arith, b, above))) next
        (last_alike both (q.number + 1) (p ∷ ps) (omega (arith, above)) (after, rest))

    -- Logs are alike where one without frames stands behind them more, and the last of them is whole.
    pub one_more : NewLog image other k → (least : ℕ) (logs : List StandingLog) → least ≤ k
        → StandingLogs other least logs → LastIsWhole least other → AlikeSome image least logs
    one_more new least [] from none whole = record {
      first = standing_log k new.bytes new.reading;
      behind = [];
      standing = (
        record {
          from = from;
          between = λ m above less. same_log m (omega (arith, less)) ∙ none m above;
          bytes = new.bytes;
          stands = new.stands;
          length_is = refl;
          reads = new.reads;
        },
        λ m above. same_log m (omega (arith, above)) ∙ none m (omega (arith, from, above)),
      );
      logs = ap (λ (fs : List LogFrame). with_frames k new.reading.header fs []) new.empty;
      walk = λ n number e.
          ap (λ (fs : List LogFrame). in_log k (counted_behind new.reading.header n fs)) new.empty ∙ e;
    }
    one_more new least (q ∷ []) from (next, none) whole =
        let up = next.from in
        let below : q.number < k = low (cases_eq q.number k) in
        let last = whole q.number next.bytes q.reading up next.stands next.reads
        (λ m above. none m (omega (arith, above))) in
        record {
          first = q;
          behind = standing_log k new.bytes new.reading ∷ [];
          standing = (
            next_kept least q (λ m above less. same_log m (omega (arith, less, below))) next,
            (
              record {
                from = omega (arith, below);
                between = λ m above less. same_log m (omega (arith, less)) ∙ none m above;
                bytes = new.bytes;
                stands = new.stands;
                length_is = refl;
                reads = new.reads;
              },
              λ m above. same_log m (omega (arith, above)) ∙ none m (omega (arith, above, below)),
            ),
          );
          logs = ap (with_frames q.number q.reading.header q.reading.frames)
              (ap (λ (fs : List LogFrame). with_frames k new.reading.header fs []) new.empty);
          walk = λ n number e. walk_more k n number q.number q.reading new.reading new.empty last e;
        }
      where
        low : (q.number ≡ k) ⊎ (q.number ≢ k) → q.number < k
        low either = ⊎_elim
            (λ (e : q.number ≡ k). absurd (some_none next.bytes
            (sym next.stands ∙ ap (λ (n : ℕ). get other (Log n)) e ∙ new.none)))
            (λ (apart : q.number ≢ k).
            let not : k < q.number → ⊥ = λ less. some_none next.bytes (sym next.stands ∙ none_above q.number less) in
            omega (arith, apart, not))
            either
    one_more new least (q ∷ p ∷ ps) from (next, (after, rest)) whole =
        let up = next.from in
        let more = after.from in
        let not_below : k < p.number → ⊥ =
        λ less. some_none after.bytes (sym after.stands ∙ none_above p.number less) in
        behind_one least q p ps (λ m a b. same_log m (omega (arith, b, more, not_below))) next
        (one_more new (q.number + 1) (p ∷ ps) (omega (arith, more, not_below)) (after, rest)
        (λ number bytes reading above. whole number bytes reading (omega (arith, above, up))))

-- ---- what opens alike

pub no_state : {S : Type 0} (s : S) (why : Refusal) → ◌≡◌ {A = Result S Refusal} (Ok s) (Err why) → ⊥
no_state s why e = cc

module _ (image other : Image) where
  -- the same logs are alike
  pub logs_alike : (least : ℕ) (logs : List StandingLog) → ((m : ℕ) → least ≤ m → get image (Log m) ≡ get other (Log m))
      → StandingLogs other least logs → Alike image least logs
  logs_alike least logs same stands = record {
    standing = logs;
    stands = standing_kept image other least logs same stands;
    logs = refl;
    walk = λ n number e. e;
  }

  -- An image opens like one in which the same manifests can be read, and the same logs and tables stand.
  pub like_lead : SameLead image other → ((m : ℕ) → get image (Log m) ≡ get other (Log m))
      → ((m : ℕ) → get image (Table m) ≡ get other (Table m)) → OpensLike image other
  like_lead same logs tables = like_by image other (λ o is. record {
    heading = is.heading;
    state = o.state;
    headed = heads o is.heading is.headed is.says;
    says = is.says;
    same = same_state o.state;
    needed = record { tables = λ n named. tables n; logs = λ n among. logs n };
    alike = logs_alike o.state.head is.standing (λ m from. logs m) is.stands;
  })
    where
      heads : (o : Opening) (h : Heading) → IsHeaded other h → Says h (Ok o.state) → IsHeaded image h
      heads o Bare bare says = bare_kept image other same logs tables bare
      heads o (Led n bytes) current says = led_kept image other same n bytes current
      heads o Headless headed says = absurd (no_state o.state NotAStore says)
      heads o (Newest format) headed says = absurd (no_state o.state (NewerFormat format) says)

  -- An image whose heading says what the other opened by opens like it, where logs and tables are the same.
  pub like_new : (h : Heading) (s : ManifestState) → IsHeaded image h → Says h (Ok s)
      → ((o : Opening) → IsOpened other o → SameState s o.state)
      → ((m : ℕ) → get image (Log m) ≡ get other (Log m))
      → ((m : ℕ) → get image (Table m) ≡ get other (Table m)) → OpensLike image other
  like_new h s headed says same logs tables = like_by image other (λ o is. record {
    heading = h;
    state = s;
    headed = headed;
    says = says;
    same = same o is;
    needed = record { tables = λ n named. tables n; logs = λ n among. logs n };
    alike = logs_alike o.state.head is.standing (λ m from. logs m) is.stands;
  })
