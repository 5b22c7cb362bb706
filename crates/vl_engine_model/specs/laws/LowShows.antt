-- What is shown from low on: each step that leaves the sources showing keeps it, whatever floor there is then.
use Rattle.std.proofs.Common.{◌≡◌, ◌⊎◌, inl, inr, ⊎_elim, ℕ, ◌≤◌, Bool, true, false, cond, List, [], ◌∷◌, refl, ap, sym, ◌∙◌, subst, arith}
use Rattle.std.specs.Prelude.{min, nat_lt, Some}
use Rattle.std.proofs.lemmas.Bool.Decides.{nat_tests}
use Rattle.std.specs.List.{filter}
use Rattle.vl_model.specs.History.{History, Extends, last_number, value_at}
use Rattle.vl_model.specs.laws.HistoryLaws.{last_number-extends, value_at-extends}
use Rattle.vl_model.specs.Winners.{Logs, winner, resolved_at}
use Rattle.vl_model.specs.declared.entry.Entry.{Entry}
use Rattle.vl_engine_model.specs.Merging.{Sourced, inputs_of}
use Rattle.vl_engine_model.specs.Rising.{put_by}
use Rattle.vl_engine_model.specs.Shows.{Shows}
use Rattle.vl_engine_model.specs.Sources.{floor, least_number}
use Rattle.vl_engine_model.specs.declared.layout.Layout.{Layout}
use Rattle.vl_engine_model.specs.declared.live.Live.{Live}
use Rattle.vl_model.specs.Numbers.{since_kept}
use Rattle.vl_model.specs.laws.NumberLaws.{low-floor, low-rises, low-kept}
use Rattle.vl_model.specs.Versions.{versions, low}
use Rattle.vl_model.specs.laws.VersionLaws.{versions-stay}
use Rattle.vl_engine_model.specs.laws.MergeShows.{shows_installed, shows_merged}
use Rattle.vl_engine_model.specs.laws.FromLow.{past_low}
use Rattle.vl_engine_model.specs.Marks.{Marked, all_of, kept_of, marked_inputs, marked_outside, AreJustified, plain, marks}
use Rattle.vl_engine_model.specs.Shown.{AreOf, Fits}

-- what is shown is shown from a greater number on
pub shows_from : (logs : Logs) (es : List Entry) (h : History) (from from' : List ℕ → ℕ) (to : ℕ)
    → ((key : List ℕ) → from key ≤ from' key) → Shows logs es h from to → Shows logs es h from' to
shows_from logs es h from from' to later shows = record {
  values = λ key number low high. shows.values key number (let l = later key in omega (arith, l, low)) high;
  meaning = shows.meaning;
  resolves = shows.resolves;
  gone_once = shows.gone_once;
}

-- what is shown up to a number stays, whatever is committed later
pub shows-extends : (logs : Logs) (es : List Entry) (least most : History) (from : List ℕ → ℕ) (to : ℕ) → Extends least most
    → to ≤ last_number least → Shows logs es least from to → Shows logs es most from to
shows-extends logs es least most from to e le shows = record {
  values = λ key number low high. shows.values key number low high ∙ ap Some (sym (value_at-extends least most e number key (omega arith)));
  meaning = shows.meaning;
  resolves = shows.resolves;
  gone_once = shows.gone_once;
}

-- ---- low

pub low_at_one : (h : History) (f since : ℕ) (key : List ℕ) → low h f 1 since key ≡ f
low_at_one h f since key = refl

pub low_up : (h : History) (f keep since : ℕ) (key : List ℕ) → low h f keep since key ≤ f
low_up h f keep since key = low-floor (versions h key) f keep since

pub low_rises : (least most : History) → Extends least most → (f f' keep since : ℕ) (key : List ℕ) → f ≤ f'
    → low least f keep since key ≤ low most f' keep since key
low_rises least most e f f' keep since key le = low-rises (versions least key) (versions most key)
    (versions-stay least most e key) f f' keep since le

-- ---- steps

-- a history that later commits made, over a later floor
pub shows_later : (logs : Logs) (es : List Entry) (least most : History) → Extends least most → (f f' keep since to : ℕ) → f ≤ f'
    → Shows logs es most (low least f keep since) to → Shows logs es most (low most f' keep since) to
shows_later logs es least most e f f' keep since to le =
    shows_from logs es most (low least f keep since) (low most f' keep since) to (λ key. low_rises least most e f f' keep since key le)

-- a change of v
pub shows_keep : (logs : Logs) (es : List Entry) (h : History) (f keep since v to : ℕ) → f ≤ last_number h
    → Shows logs es h (low h f keep since) to
    → Shows logs es h (low h f v (since_kept (last_number h) keep since v)) to
shows_keep logs es h f keep since v to le =
    shows_from logs es h (low h f keep since) (low h f v (since_kept (last_number h) keep since v)) to
    (λ key. low-kept (versions h key) f (last_number h) keep since v le)

-- a merge that is put in place, at once or later, where v and the floor may be others by then
pub shows_merge : (logs : Logs) (ms : List Marked) (keep at : ℕ) → 1 ≤ keep → (h : History) (f v since to : ℕ)
    → at ≤ f → (v ≤ keep) ⊎ (at ≤ since) → AreOf h (marked_inputs ms)
    → AreJustified keep (marked_inputs ms) (marked_outside ms) at [] ms
    → Shows logs (all_of ms) h (low h f v since) to → Shows logs (kept_of ms) h (low h f v since) to
shows_merge logs ms keep at some h f v since to up kept of =
    shows_installed keep logs ms at h (low h f v since) to
    (λ key number from. past_low keep some (marked_inputs ms) at key (versions h key) (of key) f v since up kept number from)

pub shows_merge_at_once : (logs : Logs) (keep : ℕ) (ss : List Sourced) (at : ℕ) (h : History) (since to : ℕ) → 1 ≤ keep
    → AreOf h (inputs_of ss) → Shows logs (plain ss) h (low h at keep since) to
    → Shows logs (kept_of (marks keep ss at)) h (low h at keep since) to
shows_merge_at_once logs keep ss at h since to some of =
    shows_merged keep logs ss at h (low h at keep since) to
    (λ key number from. past_low keep some (inputs_of ss) at key (versions h key) (of key) at keep since (omega arith)
    (inl (omega arith)) number from)

-- a read of the past
pub shows_at : (logs : Logs) (es : List Entry) (h : History) (f v since to : ℕ) → Shows logs es h (low h f v since) to
    → (key : List ℕ) (number : ℕ) → low h f v since key ≤ number → number ≤ to
    → resolved_at logs (winner es key number) ≡ Some (value_at h number key)
shows_at logs es h f v since to shows key number from up = shows.values key number from up

-- what an engine shows an image shows whose floor is the last number
pub shows_opened : (logs : Logs) (es : List Entry) (h : History) (f v since : ℕ) → f ≤ last_number h
    → Shows logs es h (low h f v since) (last_number h) → Shows logs es h (low h (last_number h) v since) (last_number h)
shows_opened logs es h f v since le =
    shows_from logs es h (low h f v since) (low h (last_number h) v since) (last_number h)
    (λ key. low-rises (versions h key) (versions h key) (λ n there. there) f (last_number h) v since le)

-- ---- floors

least-up : (n : ℕ) (xs : List Live) → least_number n xs ≤ n
least-up n [] = omega arith
least-up n (x ∷ xs) = let u = least-up n xs in omega (arith, u)

pub floor-up : (l : Layout) (h : History) → floor l h ≤ last_number h
floor-up l h = least-up (last_number h) l.live

least-rises : (m n : ℕ) (xs : List Live) → m ≤ n → least_number m xs ≤ least_number n xs
least-rises m n [] le = le
least-rises m n (x ∷ xs) le = let u = least-rises m n xs le in omega (arith, u)

least-ended : (n : ℕ) (p : Live → Bool) (xs : List Live) → least_number n xs ≤ least_number n (filter p xs)
least-ended n p [] = omega arith
least-ended n p (x ∷ xs) =
    let u = least-ended n p xs in
    elim (p x) as (λ b. least_number n (x ∷ xs) ≤ least_number n (cond b (x ∷ filter p xs) (filter p xs)))
    [ true ↦ omega (arith, u) | false ↦ omega (arith, u) ]

-- it rises where some end and commits come, and stays where one begins at the last number
pub floor-rises : (l l' : Layout) (least most : History) → Extends least most → (p : Live → Bool) → l'.live ≡ filter p l.live
    → floor l least ≤ floor l' most
floor-rises l l' least most e p live =
    let a = least-rises (last_number least) (last_number most) l.live (last_number-extends least most e) in
    let b = least-ended (last_number most) p l.live in
    subst (λ (xs : List Live). least_number (last_number least) l.live ≤ least_number (last_number most) xs) (sym live)
    (omega (arith, a, b))

least-put : (n : ℕ) (x : Live) (xs : List Live)
    → least_number n (put_by (λ (y : Live). y.ticket) x xs) ≡ min x.number (least_number n xs)
least-put n x [] = refl
least-put n x (y ∷ ys) =
    let later = least-put n x ys in
    elim (nat_lt y.ticket x.ticket) as
    (λ b. least_number n (cond b (y ∷ put_by (λ (z : Live). z.ticket) x ys) (x ∷ y ∷ ys)) ≡ min x.number
    (min y.number (least_number n ys))) [
      | true ↦ omega (arith, later)
      | false ↦ refl
    ]

pub floor-begun : (l l' : Layout) (h : History) (x : Live) → x.number ≡ last_number h
    → l'.live ≡ put_by (λ (y : Live). y.ticket) x l.live → floor l' h ≡ floor l h
floor-begun l l' h x at live =
    let u = floor-up l h in
    let put = least-put (last_number h) x l.live in
    ap (λ (xs : List Live). least_number (last_number h) xs) live ∙ omega (arith, u, at, put)

-- ---- what an open job asks of v and since

pub fits-planned : (v since at : ℕ) → Fits v at v since
fits-planned v since at = inl (omega arith)

-- a change of v leaves it so, where the job's floor is at most the last number and since too
pub fits-keep : (keep at v since w last : ℕ) → at ≤ last → since ≤ last → Fits keep at v since → Fits keep at w (since_kept last v since w)
fits-keep keep at v since w last low known fits = by_less (nat_lt v w) refl
  where
    by_less : (b : Bool) → nat_lt v w ≡ b → (w ≤ keep) ⊎ (at ≤ cond b last since)
    by_less true is = inr low
    by_less false is = let fewer : w ≤ v = grind (arith, nat_tests) in ⊎_elim
        (λ (few : v ≤ keep). inl (omega (arith, few, fewer))) (λ (old : at ≤ since). inr old) fits

-- since is never above the last number
pub since-up : (v since w last : ℕ) → since ≤ last → since_kept last v since w ≤ last
since-up v since w last le = elim (nat_lt v w) as (λ b. cond b last since ≤ last) [ true ↦ omega arith | false ↦ le ]
