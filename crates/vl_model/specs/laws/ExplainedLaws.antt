-- What was read stays explained, whatever is committed later.
use Rattle.std.proofs.Common.{◌≡◌, ◌≤◌, ℕ, ◌-◌, List, [], ◌∷◌, take, ap, sym, ◌∙◌, arith}
use Rattle.std.proofs.lemmas.List.{take-append-le}
use Rattle.std.specs.Prelude.{min}
use Rattle.std.specs.FinMap.{empty}
use Rattle.vl_model.specs.Keys.{Writes}
use Rattle.vl_model.specs.History.{Past, History, Extends, known_up_to, pairs_after, contents_at, last_number}
use Rattle.vl_model.specs.Reads.{Read, KeyRead, RangeRead, rows_of, IsExplainedRead, IsExplained}
use Rattle.vl_model.specs.laws.HistoryLaws.{value_at-extends}

pub contents_at-extends : (least most : History) → Extends least most → (n : ℕ) → n ≤ last_number least
    → contents_at most n ≡ contents_at least n
contents_at-extends least most e n le =
    ap (λ (b : ℕ). pairs_after (pairs_after empty (known_up_to (min n b) most.base)) (take (n - b) most.commits)) e.first
    ∙ ap (λ (base : Past). pairs_after (pairs_after empty (known_up_to (min n least.first) base))
    (take (n - least.first) most.commits)) e.base
    ∙ ap (λ (cs : List Writes). pairs_after (pairs_after empty (known_up_to (min n least.first) least.base))
    (take (n - least.first) cs)) e.commits
    ∙ ap (λ (cs : List Writes). pairs_after (pairs_after empty (known_up_to (min n least.first) least.base)) cs)
    (take-append-le (n - least.first) least.commits e.later (omega arith))

explained_read : (least most : History) → Extends least most → (n : ℕ) → n ≤ last_number least → (read : Read)
    → IsExplainedRead least n read → IsExplainedRead most n read
explained_read least most e n le (KeyRead key answer) is = is ∙ sym (value_at-extends least most e n key le)
explained_read least most e n le (RangeRead scan) is = is ∙ ap (λ pairs. rows_of pairs scan) (sym (contents_at-extends least most e n le))

pub explained-extends : (least most : History) → Extends least most → (n : ℕ) → n ≤ last_number least → (reads : List Read)
    → IsExplained least n reads → IsExplained most n reads
explained-extends least most e n le [] all = all
explained-extends least most e n le (read ∷ reads) all =
    (explained_read least most e n le read all.0, explained-extends least most e n le reads all.1)
