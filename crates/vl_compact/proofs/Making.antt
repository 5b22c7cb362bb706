-- What a job has once it has made one table more, and once nothing is left.
use Rattle.std.proofs.Common.{◌≡◌, ℕ, zero, suc, ◌+◌, ◌<◌, ◌≤◌, Bool, true, false, List, [], ◌∷◌, ◌++◌, length, take, drop}
use Rattle.std.proofs.Common.{refl, ap, sym, subst, ◌∙◌, arith, append-nil, length-append, Option, Some, None}
use Rattle.std.proofs.lemmas.List.{length-map}
use Rattle.std.proofs.lemmas.List.Sums.{sum_by-cons}
use Rattle.std.specs.Arc.{arc_value}
use Rattle.std.specs.List.{AllZip, flat_map}
use Rattle.std.specs.Option.{ForSome}
use Rattle.std.specs.Prelude.{map, unwrap_or, Vec}
use Rattle.std.specs.Global.{Global}
use Rattle.vl_table.specs.body.Bytes.{table_bytes}
use Rattle.vl_model.specs.Cutting.{joined}
use Rattle.vl_table.specs.body.Footer.{Foot}
use Rattle.vl_table.specs.body.Shapes.{IsShapeOf}
use Rattle.vl_table.specs.declared.body.shape.TableShape.{TableShape}
use Rattle.vl_compact.proofs.Zips.{zip_length, zip_push}
use Rattle.vl_compact.specs.Filling.{Fills, IsWhole}
use Rattle.vl_compact.specs.FirstTable.{first_table}
use Rattle.vl_compact.specs.Keeps.{AreRulesOf, GivesNext, place_in, stage}
use Rattle.vl_compact.specs.Keys.{all_named, behind, is_past, named_of, up_to}
use Rattle.vl_compact.specs.Next.{IsFirstOf}
use Rattle.vl_compact.specs.Progress.{Answers, Has, HasAll, HasTaken, IsFresh, IsJobOf, IsSettled, IsTableFile, done_by, left_behind}
use Rattle.vl_compact.specs.Progress.{made_of}
use Rattle.vl_compact.specs.Racing.{entry_count}
use Rattle.vl_compact.specs.Walking.{spent, walk}
use Rattle.vl_compact.specs.laws.BehindLaws.{merged_entries-behind, needless-behind}
use Rattle.vl_compact.specs.laws.ProgressLaws.{all_there, last_past, merged_entries-in_order, next_output}
use Rattle.vl_compact.specs.laws.ProgressLaws.{one_missing, others_first, parted-rising, up_to-further}
use Rattle.vl_compact.specs.declared.files.Lent.{Lent}
use Rattle.vl_compact.specs.declared.files.Synced.{Synced}
use Rattle.vl_compact.specs.declared.fill.Filled.{Filled}
use Rattle.vl_compact.specs.declared.job.Job.{Job}
use Rattle.vl_compact.specs.declared.last.Last.{Last}
use Rattle.vl_compact.specs.declared.next.Next.{Next}
use Rattle.vl_compact.specs.declared.rules.Rules.{Rules}
use Rattle.vl_compact.specs.Laid.{AreTablesOf}
use Rattle.vl_disk.specs.DiskState.{File, settled}
use Rattle.vl_disk.specs.declared.writer.Writer.{Ghosts}
use Rattle.vl_engine_model.specs.Jobs.{AreOutputs}
use Rattle.vl_engine_model.specs.Merging.{merged_entries, needless, outputs}
use Rattle.vl_engine_model.specs.Sources.{numbers_of, table_entries}
use Rattle.vl_engine_model.specs.Tables.{cut_into_tables}
use Rattle.vl_engine_model.specs.declared.table.Table as laid
use Rattle.vl_engine_model.specs.declared.job.Job as laid_job
use Rattle.vl_merge.specs.Marked.{Marked}
use Rattle.vl_model.specs.Merging.{merged}
use Rattle.vl_model.specs.Conflicts.{Named}
use Rattle.vl_model.specs.Entries.{in_order}
use Rattle.vl_model.specs.Formats.{table_format}
use Rattle.vl_model.specs.declared.entry.Entry.{Entry}
use Rattle.vl_model.specs.declared.way.Way.TheVariants.{Up}
use Rattle.vl_table.specs.Tables.{number_of}
use Rattle.vl_table.specs.declared.table.Table.{Table}
use Rattle.vl_model.specs.laws.OrderLaws.{rising-in_order}

-- ---- lists

suc_more : (i : ℕ) → suc i + 1 ≡ suc (i + 1)
suc_more i = omega arith

take_more : {A : Type 0} (n : ℕ) (xs : List A) (y : A) (rest : List A) → drop n xs ≡ y ∷ rest → take (n + 1) xs ≡ take n xs ++ y ∷ []
take_more zero [] y rest is = absurd (let no_such : [] ≡ y ∷ rest = is in cc)
take_more zero (x ∷ xs) y rest is = ap (take 1) is
take_more (suc n) [] y rest is = absurd (let no_such : [] ≡ y ∷ rest = is in cc)
take_more (suc n) (x ∷ xs) y rest is = ap (λ k. take k (x ∷ xs)) (suc_more n) ∙ ap (λ l. x ∷ l) (take_more n xs y rest is)

short_take : {A : Type 0} (n : ℕ) (xs : List A) → length (take n xs) ≤ length xs
short_take zero xs = omega arith
short_take (suc n) [] = omega arith
short_take (suc n) (x ∷ xs) = let later = short_take n xs in omega (arith, later)

take_all : {A : Type 0} (xs : List A) → take (length xs) xs ≡ xs
take_all [] = refl
take_all (x ∷ xs) = ap (λ l. x ∷ l) (take_all xs)

length_more : {A : Type 0} (xs : List A) (x : A) → length (xs ++ x ∷ []) ≡ length xs + 1
length_more [] x = refl
length_more (y ∷ ys) x = let later = length_more ys x in omega (arith, later)

named_both : (es fs : List Entry) → all_named (es ++ fs) ≡ all_named es ++ all_named fs
named_both [] fs = refl
named_both (e ∷ es) fs = ap (λ l. named_of e ∷ l) (named_both es fs)

none_up_to : (es : List Entry) → up_to None es ≡ []
none_up_to [] = refl
none_up_to (e ∷ es) = none_up_to es

-- ---- a job

module _ {V H W : Type 0} (writer : Ghosts W) (bytes : H → Option (List ℕ)) (has : V → List ℕ → List Marked → Type 0) where
  -- at first it has nothing, and all is behind
  pub begun : {g : _} (job : Job V H W g) (j : laid_job.Job) → IsJobOf writer bytes has job j → job.made.items ≡ []
      → job.needless.items ≡ [] → job.after ≡ None → job.ended ≡ false → Has writer bytes has job j
  begun job j is made none after ended = record {
    is = is;
    made = subst (λ l. AllZip (IsTableFile writer) l (take (length l) (outputs j))) (sym made) tt;
    others = ap (λ l. drop (length l) (outputs j)) made ∙ others_first (merged_entries j)
        ∙ ap (λ (o : Option (List ℕ)). cut_into_tables (behind o (merged_entries j))) (sym after);
    needless_are =
        none ∙ ap all_named (sym (none_up_to (in_order (needless j))))
        ∙ ap (λ (o : Option (List ℕ)). all_named (up_to o (in_order (needless j)))) (sym after)
        ∙ ap (λ b. all_named (done_by b job.after (in_order (needless j)))) (sym ended);
    ended = λ is. absurd (let no_such : true ≡ false = sym is ∙ ended in cc);
  }

  -- where a table is missing it hasn't ended
  not_ended : {g : _} (job : Job V H W g) (j : laid_job.Job) → Has writer bytes has job j → length job.made.items < length (outputs j)
      → job.ended ≡ false
  not_ended job j h short = by job.ended refl
    where
      by : (b : Bool) → job.ended ≡ b → job.ended ≡ false
      by true is = let all = h.ended is in absurd (omega (arith, short, all))
      by false is = is

  -- it has all of its merge at the end
  pub has_all : {g : _} (job : Job V H W g) (j : laid_job.Job) → Has writer bytes has job j → job.ended ≡ true
      → HasAll writer bytes has job j
  has_all job j h ended = record {
    is = h.is;
    made = subst (AllZip (IsTableFile writer) job.made.items)
        (ap (λ n. take n (outputs j)) (h.ended ended) ∙ take_all (outputs j)) h.made;
    needless_are = h.needless_are ∙ ap (λ b. all_named (done_by b job.after (in_order (needless j)))) ended;
  }

  -- and then its tables are the outputs
  pub all_made : {g : _} (job : Job V H W g) (j : laid_job.Job) → HasAll writer bytes has job j → AreOutputs j (made_of job j)
  all_made {g} job j h = record {
    numbers = map (λ (t : Synced W g). t.number) job.made.items;
    tables = refl;
    enough = length-map job.made.items (λ (t : Synced W g). t.number) ∙ zip_length (IsTableFile writer) job.made.items (outputs j) h.made;
  }

  -- what it keeps behind its key
  kept_is : (j : laid_job.Job) (after : Option (List ℕ)) (es : List Entry) → 1 ≤ j.keep → walk j None (left_behind j after) ≡ es
      → behind after (merged_entries j) ≡ es
  kept_is j after es some is = sym (merged_entries-behind j after some) ∙ is

  -- ---- what it begins with

  numbers_same : (tables : List (Table H)) (ts : List laid.Table) → AreTablesOf bytes tables ts
      → map (λ (t : Table H). number_of t) tables ≡ numbers_of ts
  numbers_same [] [] are = refl
  numbers_same [] (t ∷ ts) are = absurd are
  numbers_same (table ∷ tables) [] are = absurd are
  numbers_same (table ∷ tables) (t ∷ ts) are =
      ap (λ n. n ∷ map (λ (u : Table H). number_of u) tables) are.0.number ∙ ap (λ l. t.number ∷ l) (numbers_same tables ts are.1)

  pub rules_of : {g : _} (job : Job V H W g) (j : laid_job.Job) → IsJobOf writer bytes has job j → (rules : Rules)
      → rules.inputs.items ≡ map (λ (t : Table H). number_of t) job.inputs.tables.items → rules.floor ≡ job.floor → rules.keep ≡ job.keep
      → AreRulesOf rules j
  rules_of job j is rules inputs floor keep = record {
    inputs = inputs ∙ numbers_same job.inputs.tables.items is.tables is.inputs ∙ sym is.numbers;
    floor = floor ∙ is.floor;
    keep = keep ∙ is.keep;
  }

  pub left_told : {g : _} (job : Job V H W g) (j : laid_job.Job) → IsJobOf writer bytes has job j → (left : Option (List Entry))
      → ((ts : List laid.Table) → AreTablesOf bytes job.inputs.tables.items ts
      → left ≡ Some (merged Up (behind job.after (flat_map table_entries ts)))) → left ≡ Some (left_behind j job.after)
  left_told job j is left told =
      told is.tables is.inputs ∙ ap (λ es. Some (merged Up (behind job.after es))) (sym is.entries)

  -- ---- ready

  -- a table is missing where one is kept
  missing : {g : _} (job : Job V H W g) (j : laid_job.Job) → Has writer bytes has job j → (e : Entry) (more : List Entry)
      → walk j None (left_behind j job.after) ≡ e ∷ more → length job.made.items < length (outputs j)
  missing job j h e more kept =
      one_missing (length job.made.items) (merged_entries j) job.after e more h.others
      (kept_is j job.after (e ∷ more) h.is.some kept)

  -- one is kept
  pub ready_more : {g : _} {C : Type 0} (left : C → Option (List Entry)) (job : Job V H W g) (j : laid_job.Job)
      → Has writer bytes has job j → (next : Next C) → IsFirstOf left j (left_behind j job.after) next
      → Answers writer bytes has left job j (Some next)
  ready_more {C = C} left job j h next first = record {
    state = h;
    all = tt;
    first = λ n is. subst (IsFirstOf left j (left_behind j job.after)) (ap (λ (o : Option (Next C)). unwrap_or o next) is) first;
    missing = λ n is. missing job j h next.first (walk j (place_in next.keeping.last) first.gives.rest) first.gives.goes.kept;
  }

  -- none is
  module _ {g : _} {C : Type 0} (left : C → Option (List Entry)) (job : Job V H W g) (j : laid_job.Job) where
    none_left : Has writer bytes has job j → HasAll writer bytes has job j → Answers writer bytes has left job j None
    none_left h all = record {
      state = h;
      all = all;
      first = λ n is. absurd (let no_such : None ≡ Some n = is in cc);
      missing = λ n is. absurd (let no_such : None ≡ Some n = is in cc);
    }

    -- also where it has ended
    pub ended_already : Has writer bytes has job j → job.ended ≡ true → Answers writer bytes has left job j None
    ended_already h ended = none_left h (has_all job j h ended)

  pub ready_none : {g : _} {C : Type 0} (left : C → Option (List Entry)) (job : Job V H W g) (j : laid_job.Job) → Has writer bytes has job j
      → (at : Option Last) (found : List Named) (now : Option (List Entry))
      → GivesNext j (stage None (left_behind j job.after) []) at now found None → job.ended ≡ false
      → (deletions : Vec Named Global) → deletions.items ≡ job.needless.items ++ found
      → Answers writer bytes has left (record job { needless = deletions; ended = true }) j None
  ready_none left job j h at found now n going deletions are =
      let es : List Entry = merged_entries j in
      let count : ℕ = length job.made.items in
      let x : List Entry = in_order (needless j) in
      let within : count ≤ length (outputs j) =
      (let same = zip_length (IsTableFile writer) job.made.items (take count (outputs j)) h.made in
      let short = short_take count (outputs j) in omega (arith, same, short)) in
      let nothing : walk j None (left_behind j job.after) ≡ [] = n.goes.kept ∙ ap (walk j (place_in at)) n.none in
      let all : count ≡ length (outputs j) = all_there count es job.after within h.others (kept_is j job.after [] h.is.some nothing) in
      let passed : found ≡ all_named (spent j None (left_behind j job.after)) =
      sym (n.goes.found_are ∙ ap (λ (fs : List Entry). found ++ all_named (spent j (place_in at) fs)) n.none ∙ append-nil found) in
      let found_all : deletions.items ≡ all_named x =
      are ∙ ap (λ l. job.needless.items ++ l) passed
      ∙ ap (λ l. l ++ all_named (spent j None (left_behind j job.after)))
      (h.needless_are ∙ ap (λ b. all_named (done_by b job.after x)) going)
      ∙ ap (λ l. all_named (up_to job.after x) ++ all_named l) (needless-behind j job.after h.is.some)
      ∙ sym (named_both (up_to job.after x) (behind job.after x))
      ∙ ap all_named (parted-rising job.after x (rising-in_order (needless j))) in
      let is : IsJobOf writer bytes has (record job { needless = deletions; ended = true }) j =
      record {
        tables = h.is.tables;
        inputs = h.is.inputs;
        numbers = h.is.numbers;
        base = h.is.base;
        entries = h.is.entries;
        target = h.is.target;
        floor = h.is.floor;
        keep = h.is.keep;
        some = h.is.some;
      } in
      none_left left (record job { needless = deletions; ended = true }) j
      (record { is = is; made = h.made; others = h.others; needless_are = found_all; ended = λ _. all })
      (record {
        is = is;
        made = subst (AllZip (IsTableFile writer) job.made.items) (ap (λ m. take m (outputs j)) all ∙ take_all (outputs j)) h.made;
        needless_are = found_all;
      })

  -- ---- one table more

  -- what was written is durable
  pub synced_fills : {g : _} (j : laid_job.Job) (left : List Entry) (lent synced : Lent W g) (filled : Filled)
      → (f : Fills writer j left lent filled)
      → synced.number ≡ lent.number
      → ForSome (writer.file synced.writer) (λ x. x ≡ settled (table_bytes table_format lent.number (first_table (f.first ∷ f.more)).0))
      → Fills writer j left synced filled
  synced_fills j left lent synced filled f number file =
      let es : List Entry = (first_table (f.first ∷ f.more)).0 in
      record {
        first = f.first;
        more = f.more;
        kept = f.kept;
        whole = record {
          format = f.whole.format;
          shape_is = subst (λ n. IsShapeOf n es (arc_value filled.shape)) (sym number) f.whole.shape_is;
          file = λ x told. ap (λ (y : File). y.bytes) (file x told) ∙ ap (λ n. table_bytes table_format n es) (sym number);
        };
        last = f.last;
        found_are = f.found_are;
      }

  -- nothing stands in a fresh file
  pub fresh_bytes : {g : _} (lent : Lent W g) → IsFresh writer lent → ForSome (writer.file lent.writer) (λ x. x.bytes ≡ [])
  fresh_bytes lent fresh = λ x told. ap (λ (y : File). y.bytes) (fresh x told)

  shape_same : {g : _} (table : Synced W g) (filled : Filled) → table.shape ≡ filled.shape → arc_value table.shape ≡ arc_value filled.shape
  shape_same table filled is = ap arc_value is

  -- the file is that of a table
  file_is : {g : _} (lent : Lent W g) (filled : Filled) (es : List Entry)
      → IsWhole writer lent es (arc_value filled.shape) → IsSettled writer lent
      → (table : Synced W g) → table.number ≡ lent.number → table.writer ≡ lent.writer → table.shape ≡ filled.shape
      → IsTableFile writer table es
  file_is lent filled es whole settled_is table number same shape = record {
    format = ap (λ (s : TableShape). s.format) (shape_same table filled shape) ∙ whole.format;
    shape = subst (λ (s : TableShape). IsShapeOf table.number es s) (sym (shape_same table filled shape))
        (subst (λ n. IsShapeOf n es (arc_value filled.shape)) (sym number) whole.shape_is);
    file = λ f told.
        let there = ap (λ w. writer.file w) (sym same) ∙ told in
        settled_is f there ∙ ap settled (whole.file f there ∙ ap (λ n. table_bytes table_format n es) (sym number));
  }

  pub makes_one : {g : _} (job : Job V H W g) (j : laid_job.Job) → Has writer bytes has job j → (lent : Lent W g) (filled : Filled)
      → Fills writer j (left_behind j job.after) lent filled → IsSettled writer lent → (made : Vec (Synced W g) Global)
      → HasTaken lent filled job.made.items made.items
      → (deletions : Vec Named Global) → deletions.items ≡ job.needless.items ++ filled.found.items
      → Has writer bytes has (record job { after = Some filled.last; made = made; needless = deletions }) j
  makes_one job j h lent filled fills settled_is made taken deletions are =
      let es : List Entry = merged_entries j in
      let n : ℕ = length job.made.items in
      let x : List Entry = in_order (needless j) in
      let going : job.ended ≡ false = not_ended job j h (missing job j h fills.first fills.more fills.kept) in
      let left : behind job.after es ≡ fills.first ∷ fills.more = kept_is j job.after (fills.first ∷ fills.more) h.is.some fills.kept in
      let table : List Entry = (first_table (fills.first ∷ fills.more)).0 in
      let next = next_output es job.after fills.first fills.more left n (merged_entries-in_order j) h.others in
      let count : length made.items ≡ n + 1 = ap length taken.made ∙ length_more job.made.items taken.table in
      let taken_more : take (n + 1) (outputs j) ≡ take n (outputs j) ++ table ∷ [] = take_more n (outputs j) table
      (drop (n + 1) (outputs j)) next.0 in
      let past : is_past job.after filled.last ≡ true =
      ap (is_past job.after) fills.last ∙ last_past es job.after fills.first fills.more left in
      record {
        is = record {
          tables = h.is.tables;
          inputs = h.is.inputs;
          numbers = h.is.numbers;
          base = h.is.base;
          entries = h.is.entries;
          target = h.is.target;
          floor = h.is.floor;
          keep = h.is.keep;
          some = h.is.some;
        };
        made = subst (AllZip (IsTableFile writer) made.items) (sym (ap (λ m. take m (outputs j)) count ∙ taken_more))
            (subst (λ l. AllZip (IsTableFile writer) l (take n (outputs j) ++ table ∷ [])) (sym taken.made)
            (zip_push (IsTableFile writer) job.made.items (take n (outputs j)) taken.table table h.made
            (file_is lent filled table fills.whole settled_is taken.table taken.number taken.writer taken.shape)));
        others = ap (λ m. drop m (outputs j)) count ∙ next.1 ∙ ap (λ k. cut_into_tables (behind (Some k) es)) (sym fills.last);
        needless_are =
            are
            ∙ ap (λ l. l ++ filled.found.items) (h.needless_are ∙ ap (λ b. all_named (done_by b job.after x)) going)
            ∙ ap (λ l. all_named (up_to job.after x) ++ l)
            (fills.found_are ∙ ap (λ l. all_named (up_to (Some filled.last) l)) (needless-behind j job.after h.is.some))
            ∙ sym (named_both (up_to job.after x) (up_to (Some filled.last) (behind job.after x)))
            ∙ ap all_named (sym (up_to-further job.after filled.last x (rising-in_order (needless j)) past))
            ∙ ap (λ b. all_named (done_by b (Some filled.last) x)) (sym going);
        ended = λ ended. absurd (let no_such : true ≡ false = sym ended ∙ going in cc);
      }

-- ---- how many

module _ {W : Type 0} (writer : Ghosts W) where
  pub counted_by : {g : _} (tables : List (Synced W g)) (ess : List (List Entry)) → AllZip (IsTableFile writer) tables ess
      → entry_count tables ≡ length (joined ess)
  counted_by [] [] zip = refl
  counted_by [] (es ∷ ess) zip = absurd zip
  counted_by (t ∷ ts) [] zip = absurd zip
  counted_by {g} (t ∷ ts) (es ∷ ess) zip =
      sum_by-cons (λ (s : Synced W g). (arc_value s.shape).footer.count) t ts
      ∙ ap (λ n. n + entry_count ts) (ap (λ (f : Foot). f.head.count) zip.0.shape.foot)
      ∙ ap (λ n. length es + n) (counted_by ts ess zip.1)
      ∙ sym (length-append es (joined ess))
