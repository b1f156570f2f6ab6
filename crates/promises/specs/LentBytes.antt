-- Demand 3 of the bytes themselves: the pairs that planning leaves in the lent buffer, written one after the other into the slices that the
-- host lends, with Vsyncs anywhere among them. What the calls answer at each cut, spelled out: `Said`.
use Rattle.std.specs.Prelude.{◌≡◌, List, [], ◌∷◌, ℕ, ◌*◌, ◌<◌, length, take}
use Rattle.chip.specs.declared.Chip.{Chip}
use Rattle.chip.specs.Machine.{Write}
use Rattle.views.specs.Entry.{Lent, SliceAnswer, state_of, enter_of, turn_of}
use Rattle.views.specs.Sized.{LentSized}
use Rattle.views.specs.Faces.{Faces}
use Rattle.writes.specs.List.{pairs_of}
use Rattle.plan.specs.Plan.{plan_of, plan_buffer}
use Rattle.cut.specs.Run.{Event, write, vsync, cut, event}
use Rattle.cut.specs.Demand.{Cut}

-- what planning leaves in the lent buffer, by the count that it answers: the bytes, and the pairs that they are
abbrev pub bytes_left : List ℕ → List ℕ → List ℕ → List ℕ
bytes_left input image buffer = take (2 * (plan_of input image buffer).count) (plan_buffer input image buffer)

abbrev pub pairs_left : List ℕ → List ℕ → List ℕ → List Write
pairs_left input image buffer = pairs_of (bytes_left input image buffer)

-- an event over the four slices that the host lends: the number that the call answers, and what it leaves
abbrev pub enters : Event → Lent → SliceAnswer
enters (write w) l = enter_of l w.address w.value
enters vsync l = turn_of l

-- the slices after these events over them; one that is refused changes nothing
abbrev pub entered : List Event → Lent → Lent
entered [] l = l
entered (e ∷ es) l = entered es (enters e l).slices

-- cut, planned again with another buffer "on the registers as the cut left them", cut again, and so on: the slices as the last cut leaves
-- them
abbrev pub entered_cuts : List Cut → Lent → Lent
entered_cuts [] l = l
entered_cuts (c ∷ cs) l = entered_cuts cs (entered (take c.place c.events) l)

-- a run over slices that hold the state s: no event is refused (7, 13), the slices keep their lengths, at every cut they hold the state of
-- the machine's own run, and what the calls answer of them is what the machine has in use
pub record OverSlices (es : List Event) (l : Lent) (s : Chip) : Type 0 where
  pub taken : (k : ℕ) → k < length es → (enters (event es k) (entered (take k es) l)).refusal ≡ 0
  pub sized : (k : ℕ) → LentSized (entered (take k es) l)
  pub state : (k : ℕ) → state_of (entered (take k es) l) ≡ cut es s k
  pub answers : (k : ℕ) → Faces (cut es s k)
