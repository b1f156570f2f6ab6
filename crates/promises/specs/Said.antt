-- Demand 3, in what the calls answer over lent slices at each cut of a run.
use Rattle.std.specs.Prelude.{◌≡◌, ◌⊎◌, cond, ◌&&◌, List, ◌∷◌, ◌++◌, ℕ, ◌<◌, ◌≤◌, length, get_or, take, drop}
use Rattle.matrix.specs.Coefficient.{coefficient_bytes}
use Rattle.frames.specs.Frames.{avi_frame}
use Rattle.request.specs.declared.Request.{Request}
use Rattle.request.specs.Read.{read_of}
use Rattle.chip.specs.declared.Chip.{Chip}
use Rattle.chip.specs.Machine.{Write}
use Rattle.views.specs.Numbered.{Mute}
use Rattle.views.specs.Entry.{Lent, state_of, turn_of}
use Rattle.views.specs.View.{sent_of, mute_of}
use Rattle.views.specs.Converter.{matrix_out}
use Rattle.views.specs.Sized.{LentSized}
use Rattle.plan.specs.Plan.{plan_of}
use Rattle.cut.specs.Run.{Event, event, writes_of, writes_by, Either}
use Rattle.cut.specs.Vsync.{change_waits, turned_over, waited, FinishedRun}
use Rattle.plan.specs.Places.{audio_packet}
use Rattle.promises.specs.LentBytes.{pairs_left, enters, entered}
use Rattle.promises.specs.AnyCut.{Headed}

-- request 04, what is old after some events: the slices as they were lent; but where a change waited there and its Vsync has come before
-- the hold is raised, as that Vsync left them
abbrev pub old_slices : List Event → Lent → Lent
old_slices es l = cond (change_waits (state_of l) && turned_over es) (turn_of l).slices l

-- what the calls answer of the slices: the packets, the mute, and the matrix in any lent bytes that have room for mode and coefficients
abbrev pub avi_sent : Lent → List ℕ
avi_sent l = sent_of l.image l.packet 0

abbrev pub audio_sent : Lent → List ℕ
audio_sent l = sent_of l.image l.packet 1

abbrev pub mute_said : Lent → Mute
mute_said l = mute_of l.image l.packet

abbrev pub matrix_said : List ℕ → Lent → List ℕ
matrix_said out l = matrix_out l.image l.coefficients (get_or l.mark 0 0) out

-- "the picture is muted, and .. each all old or all new", by the calls; the mode, which stands before the coefficients, acts at once
pub record SaidBetween (old new t : Lent) : Type 0 where
  pub muted : mute_said t ≡ record { refusal = 0; mute = 1 }
  pub avi : Either (avi_sent old) (avi_sent new) (avi_sent t)
  pub audio : Either (audio_sent old) (audio_sent new) (audio_sent t)
  pub matrix : (out : List ℕ) → 25 ≤ length out
      → Either (drop 1 (matrix_said out old)) (drop 1 (matrix_said out new)) (drop 1 (matrix_said out t))

-- "all are new and the picture is open", by the calls. "AVI header 0x82, 0x02, 0x0D; audio header 0x84, 0x01, 0x0A"
pub record SaidAfter (r : Request) (t : Lent) : Type 0 where
  pub opened : mute_said t ≡ record { refusal = 0; mute = 2 }
  pub head_avi : Headed 0x02 0x0D (avi_sent t)
  pub head_audio : Headed 0x01 0x0A (audio_sent t)
  pub avi : drop 2 (avi_sent t) ≡ drop 3 (avi_frame r.video)
  pub audio : drop 2 (audio_sent t) ≡ drop 3 (audio_packet r.sound)
  pub matrix : (out : List ℕ) → 25 ≤ length out
      → matrix_said out t ≡ (r.matrix.mode ∷ coefficient_bytes r.matrix.coefficients) ++ drop 25 out

-- a run, from the slices as they are lent; `was` is what is old after some events, and new is what the pairs leave with one Vsync just
-- before the last
pub record Entering (was : List Event → Lent) (es : List Event) (l : Lent) : Type 0 where
  -- no event is refused (7, 13), and the slices keep their lengths
  pub taken : (k : ℕ) → k < length es → (enters (event es k) (entered (take k es) l)).refusal ≡ 0
  pub sized : (k : ℕ) → LentSized (entered (take k es) l)
  -- "Before the first write nothing has moved.", but by Vsync; and planning is lent the image by `&`
  pub before : (k : ℕ) → writes_by es k ≡ 0 → (entered (take k es) l ≡ l) ⊎ (entered (take k es) l ≡ (turn_of l).slices)
  -- "From the first write until the last the picture is muted, and .. each all old or all new."
  pub between : (k : ℕ) → 0 < writes_by es k → writes_by es k < length (writes_of es)
      → SaidBetween (was (take k es)) (entered (waited (writes_of es)) l) (entered (take k es) l)

-- the pairs of a request, with Vsyncs anywhere among them
pub record Followed (r : Request) (ws : List Write) (l : Lent) : Type 0 where
  pub entering : (es : List Event) → writes_of es ≡ ws → Entering (λ fs. old_slices fs l) es l
  -- "After the last, all are new and the picture is open.", of a finished run
  pub ended : (es : List Event) → FinishedRun ws es → SaidAfter r (entered es l)
  -- a run that is not finished has opened the picture all the same, and all are new after one Vsync more
  pub opened : (es : List Event) → writes_of es ≡ ws → mute_said (entered es l) ≡ record { refusal = 0; mute = 2 }
  pub late : (es : List Event) → writes_of es ≡ ws → SaidAfter r (turn_of (entered es l)).slices

-- of an accepted request, over slices of the machine's lengths that hold the state
abbrev pub Said : Type 0
Said =
    (input buffer : List ℕ) (s : Chip) → (plan_of input s.image buffer).refusal ≡ 0
    → (l : Lent) → LentSized l → state_of l ≡ s → Followed (read_of input).request (pairs_left input s.image buffer) l
