use Rattle.std.proofs.Common.{sym, ap, ◌∙◌, slice_get, rules}
use Rattle.std.proofs.lemmas.List.Sorted.{IsPartitionPoint-from_clause}
use Rattle.std.specs.Option.{option_copied}
use Rattle.vl_model.specs.laws.Places.{parted_at, point-prefix, slice_get-lent, slice_get-prefix}
use Rattle.vl_version.proofs.LogLaws.{if_number, if_number-other, if_number-same, is_lower, log_in-place, rising-parted}
use Rattle.vl_version.proofs.NamingLaws.{log_among}
use Rattle.vl_version.proofs.resolve.log_of.Goals as goal
use Rattle.vl_version.proofs.resolve.log_of.Goals.{in_default-via-in-Some+else-log-number, in_default-via-in_default}

pub returns-in-Some-clause-found : goal.returns-in-Some-clause-found
returns-in-Some-clause-found g c rising =
    let number = c.args.number in
    let logs = c.args.logs.now in
    let test = is_lower {H = g.row.H.Denot} number in
    let point = IsPartitionPoint-from_clause test _ _ c.partition_point-at.ensures.partitioned
    (parted_at test logs (rising-parted number logs rising)) (λ a r q k. search rules) in
    let at = point-prefix test logs _ c.partition_point-at.ensures.bound point in
    let found = slice_get-lent logs _ c.get.result c.get.ensures.lookup ∙ ap (slice_get logs) at ∙ slice_get-prefix test logs in
    sym (if_number-same number c.in-Some.log.now c.if-log-number.true)
    ∙ ap (λ r. if_number number (option_copied r)) (sym c.in-Some.is)
    ∙ ap (if_number number) found ∙ log_in-place number logs rising

pub returns-in_default-clause-found : goal.returns-in_default-clause-found
returns-in_default-clause-found g c rising =
    let number = c.args.number in
    let logs = c.args.logs.now in
    let test = is_lower {H = g.row.H.Denot} number in
    let point = IsPartitionPoint-from_clause test _ _ c.partition_point-at.ensures.partitioned
    (parted_at test logs (rising-parted number logs rising)) (λ a r q k. search rules) in
    let at = point-prefix test logs _ c.partition_point-at.ensures.bound point in
    let found = slice_get-lent logs _ c.get.result c.get.ensures.lookup ∙ ap (slice_get logs) at ∙ slice_get-prefix test logs in
    let is = ap (if_number number) found ∙ log_in-place number logs rising in
    elim c.in_default.branch [
      | in_default-via-in-Some+else-log-number w ↦
          sym (if_number-other number w.in-Some.log.now w.if-log-number.false)
          ∙ ap (λ r. if_number number (option_copied r)) (sym w.in-Some.is) ∙ is
      | in_default-via-in_default w ↦ ap (λ r. if_number number (option_copied r)) (sym w.in_default.is) ∙ is
    ]

pub returns-in-Some-clause-among : goal.returns-in-Some-clause-among
returns-in-Some-clause-among g c =
    let logs = c.args.logs.now in
    log_among logs _ c.in-Some.log.now
    (sym (slice_get-lent logs _ c.get.result c.get.ensures.lookup) ∙ ap option_copied c.in-Some.is)
