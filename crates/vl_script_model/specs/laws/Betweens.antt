-- Histories that go on, and what is shown between two of them.
use Rattle.std.proofs.Common.{◌≡◌, ◌≤◌, List, [], ◌∷◌, ◌++◌, length, refl, sym, ◌∙◌, ap, append-nil, append_assoc, length-append, arith}
use Rattle.vl_model.specs.Keys.{Writes}
use Rattle.vl_model.specs.History.{Extends, History, last_number, with_commit}
use Rattle.vl_disk.specs.Crash.{Image}
use Rattle.vl_script_model.specs.Between.{Showing, ShowsBetween}
use Rattle.vl_script_model.specs.Durable.{StaysShown}

pub extends_same : (h k : History) → k ≡ h → Extends h k
extends_same h k same = record {
  first = ap (λ (x : History). x.first) same;
  base = ap (λ (x : History). x.base) same;
  later = [];
  commits = ap (λ (x : History). x.commits) same ∙ sym (append-nil h.commits);
}

pub extends_itself : (h : History) → Extends h h
extends_itself h = extends_same h h refl

pub extends_one : (h k : History) (writes : Writes) → k ≡ with_commit h writes → Extends h k
extends_one h k writes is = record {
  first = ap (λ (x : History). x.first) is;
  base = ap (λ (x : History). x.base) is;
  later = writes ∷ [];
  commits = ap (λ (x : History). x.commits) is;
}

pub extends_then : (a b c : History) → Extends a b → Extends b c → Extends a c
extends_then a b c one two = record {
  first = two.first ∙ one.first;
  base = two.base ∙ one.base;
  later = one.later ++ two.later;
  commits = two.commits ∙ ap (λ (cs : List Writes). cs ++ two.later) one.commits ∙ append_assoc a.commits one.later two.later;
}

pub last-extends : (h k : History) → Extends h k → last_number h ≤ last_number k
last-extends h k e =
    let first = e.first in let count = ap length e.commits in let both = length-append h.commits e.later in omega arith

-- what is shown between two histories is shown between an earlier and a later one
pub between_wider : (shows : Showing) → StaysShown shows → (least less more most : History) → Extends least less → Extends more most
    → (image : Image) → ShowsBetween shows less more image → ShowsBetween shows least most image
between_wider shows stays least less more most lower upper image (m, low, high, shown) =
    let l = last-extends least less lower in
    let u = last-extends more most upper in
    (m, omega arith, omega arith, stays more most upper image m high shown)

pub between_exactly : (shows : Showing) (h : History) (image : Image) → shows image h (last_number h) → ShowsBetween shows h h image
between_exactly shows h image shown = (last_number h, omega arith, omega arith, shown)
