-- What is seen of the past stays, and which least number is above another one.
use Rattle.std.proofs.Common.{◌≡◌, ℕ, zero, suc, ◌+◌, ◌≤◌, ◌<◌, Bool, true, false, cond, List, refl, ap, sym, ◌∙◌, subst, arith}
use Rattle.std.proofs.lemmas.Bool.Decides.{nat_tests}
use Rattle.std.specs.Prelude.{◌==◌, min, nat_lt, Option, Some, None}
use Rattle.vl_reads.specs.Past.{ShowsPast, if_above}
use Rattle.vl_reads.specs.declared.past.Past.{Past}
use Rattle.vl_engine_model.specs.laws.LowStays.{low_stays}
use Rattle.vl_engine_model.specs.laws.LowShows.{shows-extends}
use Rattle.vl_model.specs.History.{Extends, History, last_number}
use Rattle.vl_model.specs.Numbers.{at_least, low_of, nth_below}
use Rattle.vl_model.specs.Versions.{low}
use Rattle.vl_model.specs.laws.HistoryLaws.{last_number-extends}
use Rattle.vl_model.specs.laws.NumberLaws.{low-floor}
use Rattle.vl_version.specs.declared.version.Version.{Version}

-- What is seen of the past stays, whatever is committed later.
pub past_later : {H : Type 0} (bytes : H → Option (List ℕ)) (version : Version H) (past : Past) (number : ℕ) (least most : History)
    → Extends least most → number ≤ last_number least → ShowsPast bytes version past number least
    → ShowsPast bytes version past number most
past_later bytes version past number least most extends known is =
    let later = last_number-extends least most extends in
    let up = is.floor in
    let lows = λ (key : List ℕ). low_stays least most extends past.floor past.keep past.since key up in
    let shows = shows-extends is.logs is.entries_of least most (λ key. low least past.floor past.keep past.since key) number extends known
    is.shows in
    record {
      entries_of = is.entries_of;
      logs = is.logs;
      has = is.has;
      shows = record {
        values = λ key n above below.
            shows.values key n (subst (λ (m : ℕ). m ≤ n) (lows key) above) below;
        meaning = shows.meaning;
        resolves = shows.resolves;
        gone_once = shows.gone_once;
      };
      exact = λ key. is.exact key ∙ sym (lows key);
      floor = omega (arith, later, up);
    }

-- ---- what is above a number

-- from the floor on no number is below the least one
pub above_floor : (ns : List ℕ) (floor keep since at : ℕ) → floor ≤ at → None ≡ if_above at (low_of ns floor keep since)
above_floor ns floor keep since at up =
    let le = low-floor ns floor keep since in
    let not_below : nat_lt at (low_of ns floor keep since) ≡ false = grind (arith, nat_tests, le, up) in
    ap (λ (b : Bool). cond b (Some (low_of ns floor keep since)) None) (sym not_below)

low_of_one : (ns : List ℕ) (floor keep since : ℕ) → keep ≤ 1 → low_of ns floor keep since ≡ floor
low_of_one ns floor zero since few = omega arith
low_of_one ns floor (suc zero) since few = refl
low_of_one ns floor (suc (suc v)) since few = absurd (omega (arith, few))

-- where one version is kept it is the floor
pub above_one : (ns : List ℕ) (floor keep since at : ℕ) → keep ≤ 1 → at < floor
    → Some floor ≡ if_above at (low_of ns floor keep since)
above_one ns floor keep since at few less =
    let is : nat_lt at floor ≡ true = grind (arith, nat_tests, less) in
    ap (λ (b : Bool). cond b (Some floor) None) (sym is) ∙ sym (ap (if_above at) (low_of_one ns floor keep since few))

-- where more are kept it is by the oldest of them
pub above_more : (ns : List ℕ) (floor keep since at : ℕ) → 2 ≤ keep → (o : Option ℕ) → o ≡ nth_below ns (floor + 1) keep
    → if_above at (min floor (at_least since o)) ≡ if_above at (low_of ns floor keep since)
above_more ns floor keep since at more o is =
    let other : (keep == 1) ≡ false = grind (arith, nat_tests, more) in
    ap (λ (p : Option ℕ). if_above at (min floor (at_least since p))) is
    ∙ ap (λ (b : Bool). if_above at (cond b floor (min floor (at_least since (nth_below ns (floor + 1) keep))))) (sym other)
