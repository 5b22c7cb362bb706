-- The steps that sessions made under the commit lock, one after the other, and the history and
-- layout that they come to.
use Rattle.std.specs.Prelude.{◌≡◌, ◌≢◌, ℕ, ◌+◌, ◌==◌, Bool, false, true, ◌&&◌, not, if◌then◌else◌, List, [], ◌∷◌, map}
use Rattle.std.specs.Prelude.{Option, Some, None, IsTrue, is_some}
use Rattle.std.specs.Option.{option_map}
use Rattle.std.specs.List.{filter, list_any}
use Rattle.std.specs.FinMap.{from_sorted, is_sorted}
use Rattle.vl_model.specs.Keys.{Writes, key_cmp}
use Rattle.vl_model.specs.History.{Past, History}
use Rattle.vl_engine_model.specs.Rising.{put_by}
use Rattle.vl_engine_model.specs.Tickets.{Ticket, tickets_of, has_ticket}
use Rattle.vl_engine_model.specs.declared.job.Job.{Job}
use Rattle.vl_engine_model.specs.declared.job.OpenJob.{OpenJob}
use Rattle.vl_engine_model.specs.declared.job.OpenPass.{OpenPass}
use Rattle.vl_engine_model.specs.declared.layout.Layout.{Layout}
use Rattle.vl_engine_model.specs.declared.lock_history.LockEntry.{LockEntry}
use Rattle.vl_engine_model.specs.declared.lock_history.LockStep.{LockStep}
use Rattle.vl_engine_model.specs.declared.lock_history.LockStep.TheVariants.{Begun, Put, Ended, Planned, JobEnded, Picked, PassEnded, Changed}

-- ---- what is open

-- a ticket that is open, the session that began it, and the number at which it reads
pub record OpenTicket : Type 0 where
  pub session : ℕ
  pub ticket : ℕ
  pub number : ℕ

-- what is open: tickets, which rise; a job and the session that planned it; the segment of a pass and
-- the session that began it
pub record OpenThings : Type 0 where
  pub tickets : List OpenTicket
  pub job : Option (ℕ × Job)
  pub pass : Option (ℕ × ℕ)

abbrev pub nothing_open : OpenThings
nothing_open = record { tickets = []; job = None; pass = None }

-- the ticket that this session began
abbrev pub is_of : ℕ → ℕ → OpenTicket → Bool
is_of session ticket t = (t.session == session) && (t.ticket == ticket)

abbrev pub closed : ℕ → ℕ → List OpenTicket → List OpenTicket
closed session ticket ts = filter (λ t. not (is_of session ticket t)) ts

abbrev pub opened : ℕ → ℕ → ℕ → List OpenTicket → List OpenTicket
opened session ticket number ts =
    put_by (λ (t : OpenTicket). t.ticket) (record { session = session; ticket = ticket; number = number }) ts

abbrev pub tickets_after : ℕ → LockStep → List OpenTicket → List OpenTicket
tickets_after session (Begun ticket number) ts = opened session ticket number ts
tickets_after session (Put ticket number writes) ts = closed session ticket ts
tickets_after session (Ended ticket) ts = closed session ticket ts
tickets_after session Planned ts = ts
tickets_after session JobEnded ts = ts
tickets_after session Picked ts = ts
tickets_after session PassEnded ts = ts
tickets_after session Changed ts = ts

-- the job of a layout, and the segment of its pass
abbrev pub job_in : Layout → Option Job
job_in l = option_map (λ (j : OpenJob). j.job) l.job

abbrev pub segment_in : Layout → Option ℕ
segment_in l = option_map (λ (p : OpenPass). p.segment) l.pass

abbrev pub job_after : ℕ → LockStep → Layout → Option (ℕ × Job) → Option (ℕ × Job)
job_after session (Begun ticket number) l job = job
job_after session (Put ticket number writes) l job = job
job_after session (Ended ticket) l job = job
job_after session Planned l job = option_map (λ (j : Job). (session, j)) (job_in l)
job_after session JobEnded l job = None
job_after session Picked l job = job
job_after session PassEnded l job = job
job_after session Changed l job = job

abbrev pub pass_after : ℕ → LockStep → Layout → Option (ℕ × ℕ) → Option (ℕ × ℕ)
pass_after session (Begun ticket number) l pass = pass
pass_after session (Put ticket number writes) l pass = pass
pass_after session (Ended ticket) l pass = pass
pass_after session Planned l pass = pass
pass_after session JobEnded l pass = pass
pass_after session Picked l pass = option_map (λ (s : ℕ). (session, s)) (segment_in l)
pass_after session PassEnded l pass = None
pass_after session Changed l pass = pass

abbrev pub things_after : LockEntry → OpenThings → OpenThings
things_after e o = record {
  tickets = tickets_after e.session e.step o.tickets;
  job = job_after e.session e.step e.layout o.job;
  pass = pass_after e.session e.step e.layout o.pass;
}

-- what is open behind some steps, where this was before
abbrev pub open_things : OpenThings → List LockEntry → OpenThings
open_things o [] = o
open_things o (e ∷ es) = open_things (things_after e o) es

-- the same of each kind by itself
abbrev pub open_tickets : List OpenTicket → List LockEntry → List OpenTicket
open_tickets ts [] = ts
open_tickets ts (e ∷ es) = open_tickets (tickets_after e.session e.step ts) es

abbrev pub open_job : Option (ℕ × Job) → List LockEntry → Option (ℕ × Job)
open_job job [] = job
open_job job (e ∷ es) = open_job (job_after e.session e.step e.layout job) es

abbrev pub open_pass : Option (ℕ × ℕ) → List LockEntry → Option (ℕ × ℕ)
open_pass pass [] = pass
open_pass pass (e ∷ es) = open_pass (pass_after e.session e.step e.layout pass) es

-- ---- the history

abbrev pub put_after : LockStep → List Writes → List Writes
put_after (Begun ticket number) later = later
put_after (Put ticket number writes) later = from_sorted writes ∷ later
put_after (Ended ticket) later = later
put_after Planned later = later
put_after JobEnded later = later
put_after Picked later = later
put_after PassEnded later = later
put_after Changed later = later

abbrev pub commits_of : List LockEntry → List Writes
commits_of [] = []
commits_of (e ∷ es) = put_after e.step (commits_of es)

-- the history whose commits are the writes of these steps, over what there was at a number
abbrev pub history_of : Past → ℕ → List LockEntry → History
history_of base number es = record { first = number; base = base; commits = commits_of es }

-- the layout behind the last step; behind none the one at the start
abbrev pub last_layout : Layout → List LockEntry → Layout
last_layout l [] = l
last_layout l (e ∷ es) = last_layout e.layout es

-- ---- what is lawful

abbrev pub number_after : LockStep → ℕ → ℕ
number_after (Begun ticket number) last = last
number_after (Put ticket number writes) last = number
number_after (Ended ticket) last = last
number_after Planned last = last
number_after JobEnded last = last
number_after Picked last = last
number_after PassEnded last = last
number_after Changed last = last

-- the number of the last commit of some steps, where this was the last before
abbrev pub last_from : ℕ → List LockEntry → ℕ
last_from last [] = last
last_from last (e ∷ es) = last_from (number_after e.step last) es

abbrev pub tickets_in : List OpenTicket → List Ticket
tickets_in ts = map (λ (t : OpenTicket). (t.ticket, t.number)) ts

-- the ticket is open, and this session began it
abbrev pub IsOpen : ℕ → ℕ → List OpenTicket → Type 0
IsOpen session ticket ts = list_any (is_of session ticket) ts ≡ true

-- the one that is open is this session's
abbrev pub IsOwn : {X : Type 0} → ℕ → Option (ℕ × X) → Type 0
IsOwn session None = ⊥
IsOwn session (Some x) = x.0 ≡ session

-- A step is lawful behind the commit with this number and with these things open. What begins has a
-- ticket that isn't open and reads at that number; what commits or ends has an open one that its
-- session began, and a commit has the next number and some writes. A job is planned, and a pass begun,
-- where none is open; only the session that did so ends it.
abbrev pub IsLegalStep : ℕ → OpenThings → ℕ → LockStep → Type 0
IsLegalStep last o session (Begun ticket number) =
    (has_ticket ticket (tickets_in o.tickets) ≡ false) × (number ≡ last)
IsLegalStep last o session (Put ticket number writes) =
    IsOpen session ticket o.tickets × (number ≡ last + 1) × (writes ≢ []) × IsTrue (is_sorted key_cmp writes)
IsLegalStep last o session (Ended ticket) = IsOpen session ticket o.tickets
IsLegalStep last o session Planned = o.job ≡ None
IsLegalStep last o session JobEnded = IsOwn session o.job
IsLegalStep last o session Picked = o.pass ≡ None
IsLegalStep last o session PassEnded = IsOwn session o.pass
IsLegalStep last o session Changed = Unit {0}

-- what lives in a layout, and its job and pass, are just what is open
pub record HasOpen (o : OpenThings) (l : Layout) : Type 0 where
  pub live : tickets_of l.live ≡ tickets_in o.tickets
  pub job : job_in l ≡ option_map (λ (j : ℕ × Job). j.1) o.job
  pub pass : segment_in l ≡ option_map (λ (p : ℕ × ℕ). p.1) o.pass

-- behind a plan a job is open in the layout, and behind a pick a pass
abbrev pub HasBegun : LockStep → Layout → Type 0
HasBegun (Begun ticket number) l = Unit {0}
HasBegun (Put ticket number writes) l = Unit {0}
HasBegun (Ended ticket) l = Unit {0}
HasBegun Planned l = is_some (job_in l) ≡ true
HasBegun JobEnded l = Unit {0}
HasBegun Picked l = is_some (segment_in l) ≡ true
HasBegun PassEnded l = Unit {0}
HasBegun Changed l = Unit {0}

pub record IsLegalEntry (last : ℕ) (o : OpenThings) (e : LockEntry) : Type 0 where
  pub step : IsLegalStep last o e.session e.step
  pub layout : HasOpen (things_after e o) e.layout
  pub begun : HasBegun e.step e.layout

abbrev pub IsLegalFrom : ℕ → OpenThings → List LockEntry → Type 0
IsLegalFrom last o [] = Unit {0}
IsLegalFrom last o (e ∷ es) =
    IsLegalEntry last o e × IsLegalFrom (number_after e.step last) (things_after e o) es

-- steps behind the commit with this number, before which nothing was open
abbrev pub IsLegal : ℕ → List LockEntry → Type 0
IsLegal number es = IsLegalFrom number nothing_open es

-- ---- one session's

-- a session's own steps, of all
abbrev pub entries_by : ℕ → List LockEntry → List LockEntry
entries_by session es = filter (λ (e : LockEntry). e.session == session) es

abbrev pub tickets_by : ℕ → List OpenTicket → List OpenTicket
tickets_by session ts = filter (λ (t : OpenTicket). t.session == session) ts

-- the number at which what has this ticket reads
abbrev pub number_of : ℕ → List OpenTicket → Option ℕ
number_of ticket [] = None
number_of ticket (t ∷ ts) = if t.ticket == ticket then Some t.number else number_of ticket ts
