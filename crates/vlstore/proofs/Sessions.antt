-- A turn of a session, from its take to its give.
use Rattle.std.proofs.Common.{◌≡◌, ℕ, List, [], ◌∷◌, ◌++◌, refl, sym, ap, ◌∙◌, subst, append_assoc}
use Rattle.std.specs.Prelude.{Bool, if◌then◌else◌, Option, None, Some, is_some}
use Rattle.atomic_table.specs.Seated.{TableId}
use Rattle.atomic_table.specs.declared.shared.Seat.{Seat}
use Rattle.vl_engine_model.specs.Decides.{Decides, Effects, Failed, Otherwise, Outcome}
use Rattle.vl_engine_model.specs.LockHistory.{IsLegal, entries_by, last_layout}
use Rattle.vl_engine_model.specs.Ruling.{Ruling}
use Rattle.vl_engine_model.specs.declared.file_name.FileName.{FileName}
use Rattle.vl_engine_model.specs.declared.layout.Layout.{Layout}
use Rattle.vl_engine_model.specs.declared.lock_history.LockEntry.{LockEntry}
use Rattle.vl_model.specs.History.{History}
use Rattle.vlstore.specs.Entries.{Done, entry_of}
use Rattle.vlstore.specs.Knowing.{GoesOn, IsSession, Knows, Looked, Stepped, own_in, session_in}
use Rattle.vlstore.specs.Lists.{history_by, layout_by}
use Rattle.vlstore.specs.Standing.{AreLasting, IsBehind, Parts}
use Rattle.vlstore.specs.declared.locked.Origin.{Origin}
use Rattle.vl_turn.specs.Entries.{Owned, own_after, with_entry}
use Rattle.vl_turn.specs.Steps.{MayEnter}
use Rattle.vl_turn.specs.Tokens.{Begins, IsTokenOf}
use Rattle.vl_turn.specs.Views.{entered, gave}
use Rattle.vl_turn.specs.declared.view.View.{View}
use mathlib.Core.List.{IsPrefix}

abbrev pub by : LockEntry → ℕ
by e = e.session

-- what is so of one is so of the other
pub over : {K : Type 0} {k k' : K} → k ≡ k' → (P : K → Type 0) → P k → P k'
over same P is = subst P same is

prefix_more : (xs ys : List LockEntry) (e : Option LockEntry) → IsPrefix xs ys → IsPrefix xs (with_entry ys e)
prefix_more xs ys None p = p
prefix_more xs ys (Some e) p = (p.0 ++ e ∷ [], sym (append_assoc xs p.0 (e ∷ [])) ∙ ap (λ zs. zs ++ e ∷ []) p.1)

no_more : (xs : List LockEntry) → xs ++ [] ≡ xs
no_more [] = refl
no_more (x ∷ xs) = ap (λ ys. x ∷ ys) (no_more xs)

prefix_same : (xs ys : List LockEntry) → ys ≡ xs → IsPrefix xs ys
prefix_same xs ys same = ([], no_more xs ∙ sym same)

own_with : (s : ℕ) (own : List LockEntry) (e : Option LockEntry)
    → own_after (record { number = s; entries = own } ∷ []) e ≡ record { number = s; entries = with_entry own e } ∷ []
own_with s own None = refl
own_with s own (Some e) = refl

-- it enters exactly where something was done
pub may_enter : {T : Type 0} (v : View T LockEntry) (s : ℕ) (own : List LockEntry) (done : Done) (enters : Bool)
    → v.owns ≡ record { number = s; entries = own } ∷ [] → enters ≡ is_some done
    → MayEnter by v (entry_of (session_in v.owns) done) (if enters then 1 else 0)
may_enter v s own None enters is same = ap (λ (b : Bool). if b then 1 else 0) same
may_enter v s own (Some done) enters is same = (
  ap (λ (b : Bool). if b then 1 else 0) same,
  (own, is ∙ ap (λ (n : ℕ). record { number = n; entries = own } ∷ []) (sym (ap session_in is))),
)

pub owns_in_turn : {T : Type 0} (meaning : T → T → List LockEntry → Type 0) (name : TableId) (start value : T)
    (before : Seat (Option T) (View T LockEntry)) (v : View T LockEntry) (is : IsSession name start before)
    → Begins meaning by start before.me.0 v value → v.owns ≡ record { number = is.session; entries = is.own } ∷ []
owns_in_turn {T} meaning name start value before v is begins = ap (λ (u : View T LockEntry). u.owns) begins.is ∙ is.owns

-- a halt lasts through steps
halt_lasts : {H : Type 0} (bytes : H → Option (List ℕ)) (l : Layout) (before more : List LockEntry) (name : FileName)
    → AreLasting bytes l (before ++ more) → (last_layout l before).halted ≡ Some name
    → (last_layout l (before ++ more)).halted ≡ Some name
halt_lasts bytes l [] [] name last halted = halted
halt_lasts bytes l [] (e ∷ more) name last halted = halt_lasts bytes e.layout [] more name last.1 (last.0.halt name halted)
halt_lasts bytes l (e ∷ before) more name last halted = halt_lasts bytes e.layout before more name last.1 halted

still_halted : {H : Type 0} (bytes : H → Option (List ℕ)) (o : Origin) (before list : List LockEntry) (name : FileName)
    → AreLasting bytes o.layout list → IsPrefix before list → (layout_by o before).halted ≡ Some name
    → (layout_by o list).halted ≡ Some name
still_halted bytes o before list name last p halted =
    subst (λ (es : List LockEntry). (layout_by o es).halted ≡ Some name) p.1
    (halt_lasts bytes o.layout before p.0 name (subst (AreLasting bytes o.layout) (sym p.1) last) halted)

-- what a session knows, by its token
abbrev pub knowing : {T : Type 0} → TableId → Origin → Bool → Seat (Option T) (View T LockEntry) → Knows
knowing name origin tells token = record {
  store = name;
  origin = origin;
  tells = tells;
  session = session_in token.me.0.owns;
  seen = token.me.0.seen;
  own = own_in token.me.0.owns;
}

module _ {T : Type 0} (meaning : T → T → List LockEntry → Type 0) (name : TableId) (start : T) (origin : Origin) (tells : Bool)
    (value : T) (before after : Seat (Option T) (View T LockEntry)) (v : View T LockEntry) (e : Option LockEntry)
    (is : IsSession name start before) (begins : Begins meaning by start before.me.0 v value)
    (gave_is : after.me.0 ≡ gave (entered v e)) where
  owns_now : v.owns ≡ record { number = is.session; entries = is.own } ∷ []
  owns_now = owns_in_turn meaning name start value before v is begins

  owns_after : after.me.0.owns ≡ record { number = is.session; entries = with_entry is.own e } ∷ []
  owns_after = ap (λ (u : View T LockEntry). u.owns) gave_is ∙ (ap (λ os. own_after os e) owns_now ∙ own_with is.session is.own e)

  pub seen_after : after.me.0.seen ≡ with_entry v.seen e
  seen_after = ap (λ (u : View T LockEntry). u.seen) gave_is

  pub session_after : IsTokenOf name start after → IsSession name start after
  session_after token_of = record { token_of = token_of; session = is.session; own = with_entry is.own e; owns = owns_after }

  number_before : session_in before.me.0.owns ≡ is.session
  number_before = ap session_in is.owns

  pub own_is : own_in after.me.0.owns ≡ with_entry (own_in before.me.0.owns) e
  own_is = ap own_in owns_after ∙ ap (λ own. with_entry own e) (sym (ap own_in is.owns))

  pub on_after : GoesOn (knowing name origin tells before) (knowing name origin tells after)
  on_after = record {
    store = refl;
    origin = refl;
    tells = refl;
    session = ap session_in owns_after ∙ sym number_before;
    seen = subst (IsPrefix before.me.0.seen) (sym seen_after) (prefix_more before.me.0.seen v.seen e begins.later);
    own = subst (IsPrefix (own_in before.me.0.owns)) (sym own_is)
        (prefix_more (own_in before.me.0.owns) (own_in before.me.0.owns) e (prefix_same _ _ refl));
  }

  pub number_now : session_in after.me.0.owns ≡ session_in v.owns
  number_now = ap session_in owns_after ∙ sym (ap session_in owns_now)

  -- its own steps are all of its in the list
  pub own_whole : own_in before.me.0.owns ≡ entries_by (session_in before.me.0.owns) v.seen
  own_whole =
      ap own_in is.owns ∙ ((subst (Owned by v.seen) owns_now begins.owns).0
      ∙ ap (λ (n : ℕ). entries_by n v.seen) (sym number_before))

  same_number : session_in v.owns ≡ session_in before.me.0.owns
  same_number = ap session_in owns_now ∙ sym number_before

  module _ {A : Type 0} (ruling : Layout → History → Ruling A) (entry : ℕ → Layout → History → Outcome A → Option LockEntry)
      (outcome : Outcome A) where
    -- a step, as the ruling has it
    pub stepped_after : {H L : Type 0} {bytes : H → Option (List ℕ)} {sure : Type 0} {x : Parts H L}
        (stands : History → Layout → Type 0) (otherwise : Otherwise) (effects : Effects)
        → e ≡ entry (session_in v.owns) (layout_by origin v.seen) (history_by origin v.seen) outcome
        → Decides stands (history_by origin v.seen) (layout_by origin v.seen) (ruling (layout_by origin v.seen) (history_by origin v.seen))
        otherwise outcome effects
        → IsLegal origin.number (with_entry v.seen e) → IsBehind bytes sure origin v.seen x
        → (sure → (file : FileName) → outcome ≡ Failed file → ⊥)
        → Stepped sure (knowing name origin tells before) (knowing name origin tells after) ruling entry outcome
    stepped_after {bytes = bytes} stands otherwise effects is_entry decides legal is_behind cause =
        let l = layout_by origin v.seen in
        let h = history_by origin v.seen in
        let entered_is : e ≡ entry (session_in before.me.0.owns) l h outcome = is_entry ∙ ap (λ n. entry n l h outcome) same_number in
        record {
          before = v.seen;
          later = begins.later;
          mine = own_whole;
          answer = λ a at. (decides.answered a at).0;
          failed = λ file at. (decides.failed file at).0;
          seen = seen_after ∙ ap (with_entry v.seen) entered_is;
          own = own_is ∙ ap (with_entry (own_in before.me.0.owns)) entered_is;
          legal = subst (IsLegal origin.number) (sym seen_after) legal;
          halted = λ file was. still_halted bytes origin before.me.0.seen v.seen file is_behind.last begins.later was;
          unfailing = cause;
          runs = is_behind.runs;
        }

-- a turn that entered nothing
module _ {T : Type 0} (meaning : T → T → List LockEntry → Type 0) (name : TableId) (start : T) (origin : Origin) (tells : Bool)
    (value : T) (before after : Seat (Option T) (View T LockEntry)) (v : View T LockEntry) (is : IsSession name start before)
    (begins : Begins meaning by start before.me.0 v value) (gave_is : after.me.0 ≡ gave (entered v None)) where
  pub looked_after : (answered : Layout → History → Type 0) → IsLegal origin.number v.seen
      → answered (layout_by origin v.seen) (history_by origin v.seen)
      → Looked (knowing name origin tells before) (knowing name origin tells after) answered
  looked_after answered legal answer =
      let same : after.me.0.seen ≡ v.seen = seen_after meaning name start origin tells value before after v None is begins gave_is in
      record {
        own = own_is meaning name start origin tells value before after v None is begins gave_is;
        mine = own_whole meaning name start origin tells value before after v None is begins gave_is
            ∙ ap (entries_by (session_in before.me.0.owns)) (sym same);
        legal = subst (IsLegal origin.number) (sym same) legal;
        answer = subst (λ (es : List LockEntry). answered (layout_by origin es) (history_by origin es)) (sym same) answer;
      }
