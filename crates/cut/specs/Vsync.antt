-- Request 04 of document 02, in its words: what is old where a change waits at the start, and which runs are finished.
use Rattle.std.specs.Prelude.{◌≡◌, Bool, true, false, cond, not, ◌&&◌, List, [], ◌∷◌, ◌++◌, ◌<◌, eqb, length}
use Rattle.lists.specs.Find.{every}
use Rattle.matrix.specs.Matrix.{fields}
use Rattle.chip.specs.declared.Chip.{Chip}
use Rattle.chip.specs.Machine.{Write, avi, audio, matrix, packets, up, registers_of, held, in_use, coefficients}
use Rattle.cut.specs.Run.{Event, write, vsync, writes_of, InUse}

-- ---- what is old

-- a change waits: a lowered coefficient hold whose Vsync has not come
abbrev pub change_waits : Chip → Bool
change_waits s = not (held s) && s.waiting

-- a Vsync comes among these events, and no write before it raises the coefficient hold, 0x1A[5]
abbrev pub turned_over : List Event → Bool
turned_over [] = false
turned_over (vsync ∷ es) = true
turned_over (write w ∷ es) = not (eqb w.address 0x1A && up matrix w.value) && turned_over es

-- "If a change waits at the start, old means the coefficients in use until its Vsync and the waiting ones after it; if the hold is raised
-- before that Vsync, the change is dropped and old stays the coefficients in use." The events so far, from s. The waiting ones are those in
-- the registers of the start. Of the packets old is what is in use at the start.
abbrev pub old : List Event → Chip → InUse
old es s = record {
  avi = in_use packets avi s;
  audio = in_use packets audio s;
  matrix = cond (change_waits s && turned_over es) (fields (registers_of matrix s.image)) (coefficients s);
}

-- ---- a finished run

-- a list's writes with one Vsync just before the last, as a host sends it
abbrev pub waited : List Write → List Event
waited [] = []
waited (w ∷ []) = vsync ∷ write w ∷ []
waited (w ∷ v ∷ ws) = write w ∷ waited (v ∷ ws)

-- no write of these is to the register of the coefficient hold
abbrev pub leaves_hold : List Write → Bool
leaves_hold = every (λ w. not (eqb w.address 0x1A))

-- "The host waits for one Vsync between the lowered coefficient hold and the opening write; a run without that event is not a finished one":
-- a Vsync with no write to 0x1A after it, and with the opening write still to come. (That the last write to 0x1A lowers the hold, and the
-- last of all opens, and that this is the very place: `Room`.)
pub record FinishedRun (ws : List Write) (es : List Event) : Type 0 where
  pub runs : writes_of es ≡ ws
  pub before : List Event
  pub after : List Event
  pub waits : es ≡ before ++ vsync ∷ after
  pub lowered : leaves_hold (writes_of after) ≡ true
  pub unopened : 0 < length (writes_of after)
