-- What a disk that holds a state leaves.
use Rattle.vl_engine_laws.specs.Shown.{Shown}
use Rattle.vl_engine_laws.specs.laws.HeldLaws.{held_opens_again, held_shown}
use Rattle.vl_engine_laws.specs.laws.ShownLaws.{shown_later}
use Rattle.vl_script_model.specs.Durable.{LeavesItsHistory, StaysShown}
use Rattle.vl_script_model.specs.Sequential.{history_of}
use Rattle.vl_script_model.specs.Stored.{IsStored}

pub stored_exactly : LeavesItsHistory IsStored Shown
stored_exactly = record {
  leaves = λ s disk stored image left.
      held_shown stored.base s.store.layout (history_of s) stored.is_base stored.tidy disk stored.holds image left.left;
  may_open = λ s disk stored.
      held_opens_again stored.base s.store.layout (history_of s) stored.is_base disk stored.tidy.levels stored.holds;
}

pub shown_stays : StaysShown Shown
shown_stays h k more image m up shown = shown_later h k more image m up shown
