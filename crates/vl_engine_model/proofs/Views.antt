-- As many views as may live, begun one by one by a script, and one more.
use Rattle.std.proofs.Common.{◌≡◌, ℕ, zero, suc, ◌+◌, ◌≤◌, ◌<◌, Bool, true, false, cond, not, List, [], ◌∷◌, ◌++◌}
use Rattle.std.proofs.Common.{length, refl, ap, sym, ◌∙◌, arith}
use Rattle.std.proofs.lemmas.Bool.Decides.{nat_tests}
use Rattle.std.specs.Prelude.{Option, Some, None, ◌==◌, nat_le, nat_lt, if◌then◌else◌}
use Rattle.std.specs.Ordering.{eq_by_cmp}
use Rattle.vl_model.specs.Keys.{key_cmp}
use Rattle.vl_model.specs.Limits.{max_live}
use Rattle.vl_model.specs.laws.WinnerLaws.{same_key}
use Rattle.vl_model.specs.History.{last_number}
use Rattle.vl_engine_model.specs.AtAnswer.{Beginning, beginning_of}
use Rattle.vl_engine_model.specs.Rising.{put_by}
use Rattle.vl_engine_model.specs.Ruling.{leaving, pin_of}
use Rattle.vl_engine_model.specs.Rulings.Begin as begin
use Rattle.vl_engine_model.specs.Rulings.Begin.{begun}
use Rattle.vl_engine_model.specs.Sources.{least_number}
use Rattle.vl_engine_model.specs.Store.Commits.{history_in}
use Rattle.vl_engine_model.specs.Store.Dispatch.{answers, new_store, step_of}
use Rattle.vl_engine_model.specs.Store.Lines.{Answer, Line, Name, Number, TooMany, View}
use Rattle.vl_engine_model.specs.Store.Reading.{a_view, begin_as, begun_by}
use Rattle.vl_engine_model.specs.Store.Things.{AView, State, Step, Thing, thing_in, without_name}
use Rattle.vl_engine_model.specs.Tickets.{free_from, tickets_of}
use Rattle.vl_engine_model.specs.declared.live.Live.{Live}

abbrev store : State
store = new_store 1073741824

abbrev name_of : ℕ → Name
name_of n = n ∷ []

-- so many that live, of which the first has this ticket
abbrev living : ℕ → ℕ → List Live
living ticket zero = []
living ticket (suc count) = record { ticket = ticket; number = 0; pin = pin_of store.layout } ∷ living (ticket + 1) count

abbrev beginning : Beginning
beginning = record { floor = 0; keep = 1; since = 0 }

abbrev named_views : ℕ → List (Name × Thing)
named_views zero = []
named_views (suc count) = (name_of count, AView (record { ticket = count; number = 0 }) beginning) ∷ named_views count

-- the new store, with so many views
abbrev with_views : ℕ → State
with_views count = record { commits = store.commits; layout = record store.layout { live = living 0 count }; things = named_views count }

-- ---- tickets

next_free : (ticket count : ℕ) → free_from ticket (tickets_of (living ticket count)) ≡ ticket + count
next_free ticket zero = omega arith
next_free ticket (suc count) =
    let here : (ticket == ticket) ≡ true = grind (arith, nat_tests) in
    let later = next_free (ticket + 1) count in
    ap (λ b. if b then free_from (ticket + 1) (tickets_of (living (ticket + 1) count)) else ticket) here ∙ later ∙ (omega arith)

one_more : (ticket count : ℕ)
    → put_by (λ (x : Live). x.ticket) (record { ticket = ticket + count; number = 0; pin = pin_of store.layout })
    (living ticket count) ≡ living ticket (suc count)
one_more ticket zero = ap (λ (n : ℕ). record { ticket = n; number = 0; pin = pin_of store.layout } ∷ []) (omega arith)
one_more ticket (suc count) =
    let less : nat_lt ticket (ticket + suc count) ≡ true = grind (arith, nat_tests) in
    let moved : ticket + suc count ≡ (ticket + 1) + count = omega arith in
    let first : Live = record { ticket = ticket; number = 0; pin = pin_of store.layout } in
    let new : Live = record { ticket = ticket + suc count; number = 0; pin = pin_of store.layout } in
    ap (λ b. if b then first ∷ put_by (λ (x : Live). x.ticket) new (living (ticket + 1) count) else new ∷ first ∷ living
    (ticket + 1) count) less
    ∙ ap (λ (n : ℕ). first ∷ put_by (λ (x : Live). x.ticket)
    (record { ticket = n; number = 0; pin = pin_of store.layout }) (living (ticket + 1) count)) moved
    ∙ ap (λ (xs : List Live). first ∷ xs) (one_more (ticket + 1) count)

as_many : (ticket count : ℕ) → length (living ticket count) ≡ count
as_many ticket zero = refl
as_many ticket (suc count) = let later = as_many (ticket + 1) count in omega (arith, later)

at_nothing : (ticket count : ℕ) → least_number 0 (living ticket count) ≡ 0
at_nothing ticket zero = refl
at_nothing ticket (suc count) = let later = at_nothing (ticket + 1) count in omega (arith, later)

-- ---- names

other_name : (n m : ℕ) → m < n → eq_by_cmp key_cmp (name_of n) (name_of m) ≡ false
other_name n m less = by (eq_by_cmp key_cmp (name_of n) (name_of m)) refl
  where
    by : (b : Bool) → eq_by_cmp key_cmp (name_of n) (name_of m) ≡ b → b ≡ false
    by false is = refl
    by true is = let same : n ≡ m = cc (same_key (name_of n) (name_of m) is) in absurd (omega (arith, same, less))

is_free : (n count : ℕ) → count ≤ n → thing_in (named_views count) (name_of n) ≡ None
is_free n zero low = refl
is_free n (suc count) low =
    ap (λ b. if b then Some (AView (record { ticket = count; number = 0 }) beginning) else thing_in (named_views count)
    (name_of n)) (other_name n count (omega arith))
    ∙ is_free n count (omega arith)

all_stay : (n count : ℕ) → count ≤ n → without_name (name_of n) (named_views count) ≡ named_views count
all_stay n zero low = refl
all_stay n (suc count) low =
    ap (λ b. cond (not b) ((name_of count, AView (record { ticket = count; number = 0 }) beginning) ∷ without_name
    (name_of n) (named_views count)) (without_name (name_of n) (named_views count))) (other_name n count (omega arith))
    ∙ ap (λ (ts : List (Name × Thing)). (name_of count, AView (record { ticket = count; number = 0 }) beginning) ∷ ts)
    (all_stay n count (omega arith))

-- ---- a step

abbrev begun_as : ℕ → ℕ → List Live → List (Name × Thing) → State
begun_as n floor live things = record {
  commits = store.commits;
  layout = record store.layout { live = live };
  things = (name_of n, AView (record { ticket = n; number = 0 }) (record { floor = floor; keep = 1; since = 0 })) ∷ things;
}

abbrev step_as : ℕ → ℕ → List Live → List (Name × Thing) → Step
step_as n floor live things = record { answer = Number 0; state = begun_as n floor live things; calls = 0 }

-- by whether as many live as may, and by the free ticket
abbrev by_room : ℕ → ℕ → Bool → Step
by_room count ticket full =
    let l = (with_views count).layout in
    let h = history_in store.commits in
    let r = if full then leaving begin.TooMany h l else leaving (begin.Begun ticket (last_number h)) h (begun l ticket (last_number h)) in
    begun_by (with_views count) (name_of count) (a_view (beginning_of r.layout h)) r r.answer

one_view : (count : ℕ) → count < max_live → step_of (with_views count) (View (name_of count)) ≡ record
    { answer = Number 0; state = with_views (suc count); calls = 0 }
one_view count room =
    let many = as_many 0 count in
    let not_full : nat_le max_live (length (living 0 count)) ≡ false = grind (arith, nat_tests, many, room) in
    let at_end : 0 + count ≡ count = omega arith in
    let ticket : free_from 0 (tickets_of (living 0 count)) ≡ count = next_free 0 count ∙ at_end in
    let live : put_by (λ (x : Live). x.ticket) (record { ticket = count; number = 0; pin = pin_of store.layout })
    (living 0 count) ≡ living 0 (suc count) =
    ap (λ (n : ℕ). put_by (λ (x : Live). x.ticket) (record { ticket = n; number = 0; pin = pin_of store.layout })
    (living 0 count)) (sym at_end) ∙ one_more 0 count in
    ap (λ (o : Option Thing). begin_as (with_views count) (name_of count) a_view o) (is_free count count (omega arith))
    ∙ ap (by_room count (free_from 0 (tickets_of (living 0 count)))) not_full
    ∙ ap (λ (n : ℕ). by_room count n false) ticket
    ∙ ap (λ (xs : List Live). step_as count (least_number 0 xs) xs (without_name (name_of count) (named_views count))) live
    ∙ ap (λ (n : ℕ). step_as count n (living 0 (suc count)) (without_name (name_of count) (named_views count))) (at_nothing 0 (suc count))
    ∙ ap (λ (ts : List (Name × Thing)). step_as count 0 (living 0 (suc count)) ts) (all_stay count count (omega arith))

-- ---- all of them

-- views by the names from this one on
abbrev views : ℕ → ℕ → List Line
views first zero = []
views first (suc count) = View (name_of first) ∷ views (suc first) count

abbrev all_begun : ℕ → List Answer
all_begun zero = []
all_begun (suc count) = Number 0 ∷ all_begun count

answered : (first count : ℕ) (more : List Line) → first + count ≤ max_live
    → answers (with_views first) (views first count ++ more) ≡ all_begun count ++ answers (with_views (first + count)) more
answered first zero more within = ap (λ (n : ℕ). answers (with_views n) more) (omega arith)
answered first (suc count) more within =
    ap (λ (x : Step). x.answer ∷ answers x.state (views (suc first) count ++ more)) (one_view first (omega (arith, within)))
    ∙ ap (λ (xs : List Answer). Number 0 ∷ xs) (answered (suc first) count more (omega (arith, within)))
    ∙ ap (λ (n : ℕ). Number 0 ∷ (all_begun count ++ answers (with_views n) more)) (omega arith)

refused : answers (with_views 1024) (View (name_of 1024) ∷ []) ≡ TooMany ∷ []
refused =
    ap (λ (o : Option Thing). (begin_as (with_views 1024) (name_of 1024) a_view o).answer ∷ []) (is_free 1024 1024 (omega arith))
    ∙ ap (λ (b : Bool). (by_room 1024 (free_from 0 (tickets_of (living 0 1024))) b).answer ∷ [])
    (let many = as_many 0 1024 in let full : nat_le max_live (length (living 0 1024)) ≡ true = grind (arith, nat_tests, many) in full)

as_many_as_may : answers store (views 0 1024 ++ View (name_of 1024) ∷ []) ≡ all_begun 1024 ++ TooMany ∷ []
as_many_as_may = answered 0 1024 (View (name_of 1024) ∷ []) (omega arith) ∙ ap (λ (xs : List Answer). all_begun 1024 ++ xs) refused
