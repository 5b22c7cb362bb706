-- What is pinned stays what a layout has: where something begins and ends, and by which number files are held.
use Rattle.std.specs.Prelude.{◌≡◌, ◌≤◌, ℕ, ◌+◌, ◌==◌, min, max, Bool, true, false, not, ◌||◌, nat_le, nat_lt, List, [], ◌∷◌, ◌++◌}
use Rattle.std.specs.Prelude.{map, Option, None, Some, unwrap_or, refl}
use Rattle.std.specs.Cmp.{unsigned_tied}
use Rattle.std.specs.FinMap.{put}
use Rattle.std.specs.FinMap.Entries.{by_order}
use Rattle.std.specs.List.{filter, list_any}
use Rattle.std.specs.Option.{option_map}
use Rattle.std.specs.Ordering.{eq_by_cmp, nat_cmp}
use Rattle.std.specs.declared.cmp.Ordering.{Ordering}
use Rattle.std.specs.declared.cmp.Ordering.TheVariants.{Greater, Less}
use Rattle.std.proofs.Common.{sym, ap, ◌∙◌, cond, arith}
use Rattle.std.proofs.lemmas.Bool.Decides.{nat_tests}
use Rattle.vl_engine_model.specs.Rising.{IsRising, put_by}
use Rattle.vl_engine_model.specs.Ruling.{ended, pin_of}
use Rattle.vl_engine_model.specs.Rulings.Begin.{begun}
use Rattle.vl_engine_model.specs.Rulings.Sweep.{is_held, job_pin, pass_pin, pins as pins_of}
use Rattle.vl_engine_model.specs.Tickets as tickets
use Rattle.vl_engine_model.specs.Tickets.{has_ticket, tickets_of}
use Rattle.vl_engine_model.specs.declared.file_name.Retired.{Retired}
use Rattle.vl_engine_model.specs.declared.job.OpenJob.{OpenJob}
use Rattle.vl_engine_model.specs.declared.job.OpenPass.{OpenPass}
use Rattle.vl_engine_model.specs.declared.layout.Layout.{Layout}
use Rattle.vl_engine_model.specs.declared.live.Live.{Live}
use Rattle.vl_engine_model.specs.declared.live.Pin.{Pin}
use Rattle.vl_engine_model.specs.laws.RisingLaws.{map-filter}
use Rattle.vl_engine_model_laws.specs.laws.Files.{any-append, any-map, or_false}
use Rattle.vl_engine_model_laws.specs.laws.Lives.{free_one}
use Rattle.vl_oracle.specs.LiveTickets as oracle
use Rattle.vl_oracle.specs.LiveTickets.{LiveTickets, Ticket, floor_of, least_number}
use Rattle.vl_pins.specs.Pins.{ArePinsOf, bound_of, least, pinned_of, raised}
use Rattle.vl_pins.specs.declared.pins.Pins.{Pins}

-- ---- what begins

-- the free ticket is the layout's
same_free : (n : ℕ) (xs : List Live) → oracle.free_from n (pinned_of xs) ≡ tickets.free_from n (tickets_of xs)
same_free n [] = refl
same_free n (x ∷ xs) = ap (λ (m : ℕ). cond (x.ticket == n) m n) (same_free (n + 1) xs)

module _ (ticket number : ℕ) (pin : Pin) where
  abbrev new : Live
  new = record { ticket = ticket; number = number; pin = pin }

  abbrev put_so : Live → List Ticket → Ordering → List Ticket
  put_so x ts order = by_order order ((ticket, pin.epoch) ∷ (x.ticket, x.pin.epoch) ∷ ts)
      ((x.ticket, pin.epoch) ∷ ts) ((x.ticket, x.pin.epoch) ∷ put nat_cmp ticket pin.epoch ts)

  pinned-begun : (xs : List Live) → has_ticket ticket (tickets_of xs) ≡ false
      → pinned_of (put_by (λ (x : Live). x.ticket) (record { ticket = ticket; number = number; pin = pin }) xs)
      ≡ put nat_cmp ticket pin.epoch (pinned_of xs)
  pinned-begun [] free = refl
  pinned-begun (x ∷ xs) free =
      let parts = or_false (x.ticket == ticket) (has_ticket ticket (tickets_of xs)) free in
      by (nat_lt x.ticket ticket) refl parts.0 (pinned-begun xs parts.1)
    where
      by : (b : Bool) → nat_lt x.ticket ticket ≡ b → (x.ticket == ticket) ≡ false
          → pinned_of (put_by (λ (y : Live). y.ticket) new xs) ≡ put nat_cmp ticket pin.epoch (pinned_of xs)
          → pinned_of (cond b (x ∷ put_by (λ (y : Live). y.ticket) new xs) (new ∷ x ∷ xs))
          ≡ put nat_cmp ticket pin.epoch ((x.ticket, x.pin.epoch) ∷ pinned_of xs)
      by true is other later =
          let order : nat_cmp ticket x.ticket ≡ Greater = grind (arith, nat_tests, is) in
          ap (λ (ts : List Ticket). (x.ticket, x.pin.epoch) ∷ ts) later ∙ sym (ap (put_so x (pinned_of xs)) order)
      by false is other later =
          let order : nat_cmp ticket x.ticket ≡ Less = grind (arith, nat_tests, is, other) in
          sym (ap (put_so x (pinned_of xs)) order)

  -- What is put among others and taken out again leaves them.
  begun-ended : (xs : List Live) → has_ticket ticket (tickets_of xs) ≡ false
      → filter (λ (x : Live). not (x.ticket == ticket)) (put_by (λ (x : Live). x.ticket)
      (record { ticket = ticket; number = number; pin = pin }) xs) ≡ xs
  begun-ended [] free = ap (λ (b : Bool). cond (not b) (new ∷ []) []) (itself ticket)
    where
      itself : (n : ℕ) → (n == n) ≡ true
      itself n = grind (arith, nat_tests)
  begun-ended (x ∷ xs) free =
      let parts = or_false (x.ticket == ticket) (has_ticket ticket (tickets_of xs)) free in
      by (nat_lt x.ticket ticket) parts.0 (begun-ended xs parts.1) (kept xs parts.1)
    where
      itself : (n : ℕ) → (n == n) ≡ true
      itself n = grind (arith, nat_tests)

      others : List Live → List Live
      others ys = filter (λ (y : Live). not (y.ticket == ticket)) ys

      kept : (ys : List Live) → has_ticket ticket (tickets_of ys) ≡ false → others ys ≡ ys
      kept [] none = refl
      kept (y ∷ ys) none =
          let parts = or_false (y.ticket == ticket) (has_ticket ticket (tickets_of ys)) none in
          ap (λ (b : Bool). cond (not b) (y ∷ others ys) (others ys)) parts.0 ∙ ap (λ (zs : List Live). y ∷ zs) (kept ys parts.1)

      by : (b : Bool) → (x.ticket == ticket) ≡ false
          → others (put_by (λ (y : Live). y.ticket) new xs) ≡ xs → others xs ≡ xs
          → others (cond b (x ∷ put_by (λ (y : Live). y.ticket) new xs) (new ∷ x ∷ xs)) ≡ x ∷ xs
      by true other later same =
          ap (λ (c : Bool). cond (not c) (x ∷ others (put_by (λ (y : Live). y.ticket) new xs))
          (others (put_by (λ (y : Live). y.ticket) new xs))) other
          ∙ ap (λ (ys : List Live). x ∷ ys) later
      by false other later same =
          ap (λ (c : Bool). cond (not c) (new ∷ others (x ∷ xs)) (others (x ∷ xs))) (itself ticket)
          ∙ ap (λ (c : Bool). cond (not c) (x ∷ others xs) (others xs)) other
          ∙ ap (λ (ys : List Live). x ∷ ys) same

same_max : (a b : ℕ) → a ≤ b → max a b ≡ b
same_max a b le = omega (arith, le)

module _ (pins : Pins) (l : Layout) (are : ArePinsOf pins l) where
  abbrev risen : LiveTickets
  risen = raised l.epoch pins.live

  last_risen : risen.last ≡ l.epoch
  last_risen = same_max pins.live.last l.epoch are.last

  -- The pins stay where the present number is noted,
  pub pins_raised : ArePinsOf (record pins { live = raised l.epoch pins.live }) l
  pins_raised = record {
    live = are.live;
    merge = are.merge;
    pass = are.pass;
    last = let e = last_risen in omega (arith, e);
  }

  module _ (rising : IsRising (λ (x : Live). x.ticket) l.live) (number : ℕ) where
    abbrev ticket : ℕ
    ticket = tickets.free_ticket (tickets_of l.live)

    free_is : oracle.free_ticket risen ≡ ticket
    free_is = ap (oracle.free_from 0) are.live ∙ same_free 0 l.live

    -- where something begins,
    pub pins_begun : ArePinsOf (record pins { live = oracle.begun (raised l.epoch pins.live) })
        (begun l (tickets.free_ticket (tickets_of l.live)) number)
    pins_begun = record {
      live = (λ i. put nat_cmp (free_is i) (last_risen i) (are.live i))
          ∙ sym (pinned-begun ticket number (pin_of l) l.live (free_one l.live rising));
      merge = are.merge;
      pass = are.pass;
      last = let e = last_risen in omega (arith, e);
    }

  -- where something ends,
  pub pins_ended : (ticket : ℕ) → ArePinsOf (record pins { live = oracle.ended ticket pins.live }) (ended ticket l)
  pins_ended ticket = record {
    live = ap (filter (λ (t : Ticket). not (eq_by_cmp nat_cmp ticket t.0))) are.live ∙ sym (map-filter
        (λ (x : Live). (x.ticket, x.pin.epoch)) (λ (x : Live). not (x.ticket == ticket))
        (λ (t : Ticket). not (eq_by_cmp nat_cmp ticket t.0))
        (λ x. ap not (unsigned_tied ticket x.ticket ∙ turned ticket x.ticket)) l.live);
    merge = are.merge;
    pass = are.pass;
    last = are.last;
  }
    where
      turned : (m n : ℕ) → (m == n) ≡ (n == m)
      turned m n = grind (arith, nat_tests)

-- and where it ends before the layout has it.
pub pins_begun_ended : (pins : Pins) (l : Layout) → ArePinsOf pins l → IsRising (λ (x : Live). x.ticket) l.live
    → ArePinsOf (record pins {
      live = oracle.ended (oracle.free_ticket pins.live)
          (oracle.begun (raised l.epoch pins.live));
    }) l
pins_begun_ended pins l are rising =
    let t = tickets.free_ticket (tickets_of l.live) in
    let then = pins_ended (record pins { live = oracle.begun (raised l.epoch pins.live) }) (begun l t 0)
    (pins_begun pins l are rising 0) (oracle.free_ticket pins.live) in
    let free : oracle.free_ticket pins.live ≡ t = ap (oracle.free_from 0) are.live ∙ same_free 0 l.live in
    record {
      live = then.live ∙ ap (λ (n : ℕ). pinned_of (ended n (begun l t 0)).live) free
          ∙ ap pinned_of (begun-ended t 0 (pin_of l) l.live (free_one l.live rising));
      merge = are.merge;
      pass = are.pass;
      last = then.last;
    }

-- ---- what is held

below_min : (a b n : ℕ) → nat_lt (min a b) n ≡ (nat_lt a n || nat_lt b n)
below_min a b n = by (nat_lt (min a b) n) (nat_lt a n) (nat_lt b n) refl refl refl
  where
    by : (p q r : Bool) → nat_lt (min a b) n ≡ p → nat_lt a n ≡ q → nat_lt b n ≡ r → p ≡ (q || r)
    by true true r x y z = refl
    by true false true x y z = refl
    by false false false x y z = refl
    by true false false x y z = absurd (grind (arith, nat_tests))
    by false true r x y z = absurd (grind (arith, nat_tests))
    by false false true x y z = absurd (grind (arith, nat_tests))

module _ (last n : ℕ) (old : n ≤ last) where
  -- the least of some numbers, or the last one, is below n where one of them is
  floor_below : (ts : List Ticket) → nat_lt (unwrap_or (least_number ts) last) n ≡ list_any (λ (t : Ticket). nat_lt t.1 n) ts
  floor_below [] = grind (arith, nat_tests, old)
  floor_below (t ∷ ts) = by (least_number ts) (floor_below ts)
    where
      none_below : nat_lt last n ≡ false
      none_below = grind (arith, nat_tests, old)

      or_none : (b : Bool) → (b || false) ≡ b
      or_none true = refl
      or_none false = refl

      by : (o : Option ℕ) → nat_lt (unwrap_or o last) n ≡ list_any (λ (u : Ticket). nat_lt u.1 n) ts
          → nat_lt (unwrap_or (option_map (min t.1) o) t.1) n ≡ (nat_lt t.1 n || list_any (λ (u : Ticket). nat_lt u.1 n) ts)
      by None later = sym (or_none (nat_lt t.1 n)) ∙ ap (λ (b : Bool). nat_lt t.1 n || b) (sym none_below ∙ later)
      by (Some m) later = below_min t.1 m n ∙ ap (λ (b : Bool). nat_lt t.1 n || b) later

or_turned : (a b c : Bool) → (a || (b || c)) ≡ (c || (a || b))
or_turned true true true = refl
or_turned true true false = refl
or_turned true false true = refl
or_turned true false false = refl
or_turned false true true = refl
or_turned false true false = refl
or_turned false false true = refl
or_turned false false false = refl

or_none_there : (a b : Bool) → a ≡ (false || a)
or_none_there a b = refl

module _ (l : Layout) (r : Retired) (old : r.epoch ≤ l.epoch) where
  abbrev n : ℕ
  n = r.epoch

  abbrev is_below : Pin → Bool
  is_below p = nat_lt p.epoch n

  job_below : (o : Option OpenJob) (m : ℕ)
      → nat_lt (least (option_map (λ (j : OpenJob). j.pin.epoch) o) m) n ≡ (list_any is_below (job_pin o) || nat_lt m n)
  job_below None m = refl
  job_below (Some j) m = below_min j.pin.epoch m n ∙ ap (λ (b : Bool). b || nat_lt m n) (sym (or_false_is (is_below j.pin)))
    where
      or_false_is : (b : Bool) → (b || false) ≡ b
      or_false_is true = refl
      or_false_is false = refl

  pass_below : (o : Option OpenPass) (m : ℕ)
      → nat_lt (least (option_map (λ (p : OpenPass). p.pin.epoch) o) m) n ≡ (list_any is_below (pass_pin o) || nat_lt m n)
  pass_below None m = refl
  pass_below (Some p) m = below_min p.pin.epoch m n ∙ ap (λ (b : Bool). b || nat_lt m n) (sym (or_false_is (is_below p.pin)))
    where
      or_false_is : (b : Bool) → (b || false) ≡ b
      or_false_is true = refl
      or_false_is false = refl

  live_any : (xs : List Live) → list_any (λ (t : Ticket). nat_lt t.1 n) (pinned_of xs)
      ≡ list_any is_below (map (λ (x : Live). x.pin) xs)
  live_any [] = refl
  live_any (x ∷ xs) = ap (λ (b : Bool). is_below x.pin || b) (live_any xs)

  -- A pin holds the file exactly where the least number that is pinned is below that of its retirement.
  held_below : (pins : Pins) → ArePinsOf pins l → is_held (pins_of l) r ≡ nat_lt (bound_of l.epoch pins) n
  held_below pins are =
      any-append is_below (map (λ (x : Live). x.pin) l.live ++ job_pin l.job) (pass_pin l.pass)
      ∙ ap (λ (b : Bool). b || list_any is_below (pass_pin l.pass)) (any-append is_below (map (λ (x : Live). x.pin) l.live) (job_pin l.job))
      ∙ turned (list_any is_below (map (λ (x : Live). x.pin) l.live)) (list_any is_below (job_pin l.job))
      (list_any is_below (pass_pin l.pass))
      ∙ ap (λ (b : Bool). list_any is_below (job_pin l.job) || (list_any is_below (pass_pin l.pass) || b)) (sym floor_is)
      ∙ ap (λ (b : Bool). list_any is_below (job_pin l.job) || b) (sym (pass_below l.pass (floor_of risen_now)))
      ∙ sym (job_below l.job _)
      ∙ (λ i. nat_lt (least (sym are.merge i) (least (sym are.pass i) (floor_of risen_now))) n)
    where
      risen_now : LiveTickets
      risen_now = raised l.epoch pins.live

      turned : (a b c : Bool) → ((a || b) || c) ≡ (b || (c || a))
      turned true true c = refl
      turned true false true = refl
      turned true false false = refl
      turned false true c = refl
      turned false false true = refl
      turned false false false = refl

      floor_is : nat_lt (floor_of risen_now) n ≡ list_any is_below (map (λ (x : Live). x.pin) l.live)
      floor_is =
          (λ i. nat_lt (unwrap_or (least_number (are.live i)) (same_max pins.live.last l.epoch are.last i)) n)
          ∙ floor_below l.epoch n old (pinned_of l.live) ∙ live_any l.live

  pub free_up_to : (pins : Pins) → ArePinsOf pins l
      → not (is_held (pins_of l) r) ≡ nat_le r.epoch (bound_of l.epoch pins)
  free_up_to pins are = ap not (held_below pins are) ∙ test (bound_of l.epoch pins) n
    where
      test : (a b : ℕ) → not (nat_lt a b) ≡ nat_le b a
      test a b = by (nat_lt a b) (nat_le b a) refl refl
        where
          by : (p q : Bool) → nat_lt a b ≡ p → nat_le b a ≡ q → not p ≡ q
          by true false x y = refl
          by false true x y = refl
          by true true x y = absurd (grind (arith, nat_tests))
          by false false x y = absurd (grind (arith, nat_tests))
