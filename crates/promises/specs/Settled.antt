-- Document 01, "What each entry point owes": which outcome each entry point's promise allows, and that it allows no other.
use Rattle.std.specs.Prelude.{◌≡◌, cond, List, ◌++◌, ℕ, ◌+◌, eqb, length, drop, replicate, Float}
use Rattle.registers.specs.declared.Class.{Class}
use Rattle.registers.specs.Classes.{class_at}
use Rattle.registers.specs.ByColumns.{Classifies}
use Rattle.video.specs.declared.Video.{Video}
use Rattle.clock.specs.Numbered.{Clock}
use Rattle.clock.specs.Numbered.{Pair}
use Rattle.clock.specs.Answers.{clock_of, GivesClock}
use Rattle.clock.specs.Found.{pair_of, GivesPair}
use Rattle.frames.specs.Numbered.{Avi}
use Rattle.frames.specs.Numbered.{Audio}
use Rattle.frames.specs.Answers.{avi_of, audio_of, GivesAvi, GivesAudio}
use Rattle.matrix.specs.Numbered.{Pixel}
use Rattle.matrix.specs.Preview.{preview_of, Previews}
use Rattle.meter.specs.Numbered.{Metered}
use Rattle.meter.specs.Found.{meter_of, meter_buffer, Meters}
use Rattle.request.specs.Numbered.{Checked}
use Rattle.pipe.specs.Numbered.{Piped}
use Rattle.pipe.specs.Found.{take_of, take_pipe, end_pipe_of, end_pipe, TakesPart, EndsPipe}
use Rattle.line.specs.Words.{line_text, Prints, answer_text, PrintsAnswer}
use Rattle.line.specs.Verdict.{verdict_text, PrintsVerdict}
use Rattle.request.specs.declared.Request.{Request}
use Rattle.request.specs.Read.{read_of, pair_for, ncts_of, Reads, Pairs, PairsInput}
use Rattle.chip.specs.declared.Chip.{Chip}
use Rattle.chip.specs.Numbered.{Wrote}
use Rattle.chip.specs.Write.{lent_as, write_of, vsync_of}
use Rattle.chip.specs.Write.{Hands}
use Rattle.chip.specs.Turn.{Turned}
use Rattle.views.specs.Numbered.{Part}
use Rattle.views.specs.Numbered.{Mute}
use Rattle.views.specs.Numbered.{Count}
use Rattle.views.specs.Entry.{marked, Lent, SliceAnswer, enter_of, turn_of, Writes, Turns}
use Rattle.views.specs.View.{view_refusal, sent_of, sent_part, mute_of, Sends, Places, Refuses, Mutes}
use Rattle.views.specs.Converter.{matrix_answer, matrix_out, ShowsMatrix}
use Rattle.plan.specs.Numbered.{Planned}
use Rattle.plan.specs.Plan.{plan_of, plan_buffer, Plans}
use Rattle.decode.specs.Numbered.{Decoded}
use Rattle.decode.specs.Decode.{decode_of, decoded_buffer, Decodes}
use Rattle.vendor.specs.Numbered.{Verdict}
use Rattle.vendor.specs.Found.{vet_of, Vets}
use Rattle.station.specs.declared.CountOut.{CountOut}
use Rattle.station.specs.declared.PairOut.{PairOut}
use Rattle.station.specs.declared.PixelOut.{PixelOut}
use Rattle.station.specs.declared.PipedOut.{PipedOut}
use Rattle.station.specs.declared.machine.PartOut.{PartOut}
use Rattle.station.specs.declared.machine.StateOut.{StateOut}
use Rattle.station.specs.declared.machine.VerdictOut.{VerdictOut}
use Rattle.station.specs.declared.machine.ClassOut.{ClassOut}
use Rattle.station.specs.Face.{StationPlan, StationDecode, StationNcts}
use Rattle.station.specs.Matrices.{StationPreview, StationMeter}
use Rattle.station.specs.Pipe.{StationPipeTake, StationPipeEnd}
use Rattle.station.specs.Vet.{StationVet}
use Rattle.station.specs.Machine.{StationWrite, StationVsync, StationSent, StationMute, StationMatrix, StationClass}

-- "the result and each lent byte are settled by the promise: any two outcomes it allows are proved equal"
abbrev pub Settles : {A : Type 0} → (A → Type 0) → Type 0
Settles {A} Allows = (x y : A) → Allows x → Allows y → x ≡ y

-- a promise allows this outcome, and with it no other
abbrev pub Only : {A : Type 0} → (A → Type 0) → A → Type 0
Only Allows a = Allows a × Settles Allows

-- What the contract of each entry point allows: the result and, where a lent buffer may change, what is left in it. Each predicate is the
-- one that the function's own `ensures` has; the outcome is said by the definitions that the demands and the theorems speak of. So a weaker
-- contract makes its line false, and so does one of another answer.
pub record Settled : Type 0 where
  pub plan : (request image writes : List ℕ)
      → Only {A = Planned × List ℕ} (λ o. Plans request image writes o.0 o.1)
      (plan_of request image writes, plan_buffer request image writes)
  pub decode : (image request : List ℕ)
      → Only {A = Decoded × List ℕ} (λ o. Decodes image request o.0 o.1) (decode_of image request, decoded_buffer image request)
  pub read : (request : List ℕ) → Only {A = Checked} (Reads request) (read_of request)
  pub ncts : (request : List ℕ) → Only {A = Pair} (PairsInput request) (ncts_of request)
  pub pairs : (r : Request) → Only {A = Pair} (Pairs r) (pair_for r)
  -- the program's line stands at the front of 80 bytes, the others 0
  pub line : (request : List ℕ)
      → let text : List ℕ = line_text request in
      Only {A = ℕ × List ℕ} (λ o. Prints request o.0 o.1) (length text, text ++ drop (length text) (replicate 80 0))
  -- and so do the line of a request that came in parts, and that of a verdict
  pub answer : (refusal : ℕ) (request : List ℕ)
      → let text : List ℕ = answer_text refusal request in
      Only {A = ℕ × List ℕ} (λ o. PrintsAnswer refusal request o.0 o.1) (length text, text ++ drop (length text) (replicate 80 0))
  pub verdict : (refusal place : ℕ)
      → let text : List ℕ = verdict_text refusal place in
      Only {A = ℕ × List ℕ} (λ o. PrintsVerdict refusal place o.0 o.1) (length text, text ++ drop (length text) (replicate 80 0))
  pub preview : (matrix : List ℕ) (a b c : ℕ) → Only {A = Pixel} (Previews matrix a b c) (preview_of matrix a b c)
  pub meter : (numbers : List Float) (buffer : List ℕ)
      → Only {A = Metered × List ℕ} (λ o. Meters numbers buffer o.0 o.1) (meter_of numbers buffer, meter_buffer numbers buffer)
  -- a part of a request, and its end
  pub take : (pipe part : List ℕ) → Only {A = Piped × List ℕ} (λ o. TakesPart pipe part o.0 o.1) (take_of pipe part, take_pipe pipe part)
  pub end : (pipe : List ℕ) → Only {A = Piped × List ℕ} (λ o. EndsPipe pipe o.0 o.1) (end_pipe_of pipe, end_pipe pipe)
  pub clock : (video : Video) → Only {A = Clock} (GivesClock video) (clock_of video)
  pub pair : (video : Video) (rate coherent : ℕ) → Only {A = Pair} (GivesPair video rate coherent) (pair_of video rate coherent)
  pub avi : (video : Video) → Only {A = Avi} (GivesAvi video) (avi_of video)
  pub audio : (channels : ℕ) → Only {A = Audio} (GivesAudio channels) (audio_of channels)
  pub write : (s : Chip) (address value : ℕ) → Only {A = Wrote} (Hands s address value) (write_of s address value)
  pub turn : (s : Chip) → Only {A = Chip} (Turned s) (vsync_of s)
  -- over slices: the number, and the four slices
  pub enter : (l : Lent) (address value : ℕ)
      → let e : SliceAnswer = enter_of l address value in Only {A = ℕ × Lent} (λ o. Writes l address value o.0 o.1) (e.refusal, e.slices)
  pub vsync : (l : Lent) → let e : SliceAnswer = turn_of l in Only {A = ℕ × Lent} (λ o. Turns l o.0 o.1) (e.refusal, e.slices)
  -- the part: its bytes, and where it starts, by where the two slices start, "whichever the chip reads"; and the same in numbers
  pub sent : (image packet : List ℕ) (which : ℕ) (i p : ℕ × ℕ)
      → let part : Part = sent_part image packet which in
      let slice : ℕ × ℕ = cond (eqb part.held 1) p i in
      Only {A = List ℕ × (ℕ × ℕ)} (λ o. Sends image packet which i p o.0 o.1)
      (sent_of image packet which, (slice.0, part.start + slice.1))
  pub part : (image packet : List ℕ) (which : ℕ) → Only {A = Part} (Places image packet which) (sent_part image packet which)
  pub refusal : (image packet : List ℕ) (which : ℕ) → Only {A = ℕ} (Refuses image packet which) (view_refusal image packet which)
  pub mute : (image packet : List ℕ) → Only {A = Mute} (Mutes image packet) (mute_of image packet)
  pub matrix : (image buffer : List ℕ) (mark : ℕ) (out : List ℕ)
      → Only {A = Count × List ℕ} (λ o. ShowsMatrix image buffer mark out o.0 o.1)
      (matrix_answer image buffer out, matrix_out image buffer mark out)
  -- a vendor's list on a state: document 02, request 03
  pub vet : (s : Chip) (list : List ℕ) → Only {A = Verdict} (Vets s list) (vet_of s list)
  pub class : (address : ℕ) → Only {A = Class} (Classifies address) (class_at address)
  -- the fourteen exported calls: field by field what the library answers
  pub station_plan : (request image writes : List ℕ)
      → let p : Planned = plan_of request image writes in
      Only {A = CountOut × List ℕ} (λ o. StationPlan request image writes o.0 o.1)
      (record { refusal = p.refusal; count = p.count }, plan_buffer request image writes)
  pub station_decode : (image request : List ℕ)
      → let d : Decoded = decode_of image request in
      Only {A = CountOut × List ℕ} (λ o. StationDecode image request o.0 o.1)
      (record { refusal = d.refusal; count = d.count }, decoded_buffer image request)
  pub station_ncts : (request : List ℕ)
      → let p : Pair = ncts_of request in
      Only {A = PairOut} (StationNcts request) (record { refusal = p.refusal; n = p.n; cts = p.cts })
  pub station_preview : (matrix : List ℕ) (a b c : ℕ)
      → let p : Pixel = preview_of matrix a b c in
      Only {A = PixelOut} (StationPreview matrix a b c) (record { refusal = p.refusal; a = p.a; b = p.b; c = p.c })
  pub station_meter : (numbers : List Float) (matrix : List ℕ)
      → let m : Metered = meter_of numbers matrix in
      Only {A = CountOut × List ℕ} (λ o. StationMeter numbers matrix o.0 o.1)
      (record { refusal = m.refusal; count = m.count }, meter_buffer numbers matrix)
  pub station_pipe_take : (pipe part : List ℕ)
      → let p : Piped = take_of pipe part in
      Only {A = PipedOut × List ℕ} (λ o. StationPipeTake pipe part o.0 o.1)
      (record { refusal = p.refusal; answered = p.answered; count = p.count }, take_pipe pipe part)
  pub station_pipe_end : (pipe : List ℕ)
      → let p : Piped = end_pipe_of pipe in
      Only {A = PipedOut × List ℕ} (λ o. StationPipeEnd pipe o.0 o.1)
      (record { refusal = p.refusal; answered = p.answered; count = p.count }, end_pipe pipe)
  pub station_write : (l : Lent) (address value : ℕ)
      → let e : SliceAnswer = enter_of l address value in
      Only {A = ℕ × Lent} (λ o. StationWrite l address value o.0 o.1) (e.refusal, e.slices)
  pub station_vsync : (l : Lent)
      → let e : SliceAnswer = turn_of l in Only {A = ℕ × Lent} (λ o. StationVsync l o.0 o.1) (e.refusal, e.slices)
  pub station_sent : (image packet : List ℕ) (which : ℕ)
      → let p : Part = sent_part image packet which in
      Only {A = PartOut} (StationSent image packet which)
      (record { refusal = p.refusal; held = p.held; start = p.start; len = p.len })
  pub station_mute : (image packet : List ℕ)
      → let m : Mute = mute_of image packet in
      Only {A = StateOut} (StationMute image packet) (record { refusal = m.refusal; mute = m.mute })
  pub station_matrix : (image coefficients : List ℕ) (mark : ℕ) (matrix : List ℕ)
      → let c : Count = matrix_answer image coefficients matrix in
      Only {A = CountOut × List ℕ} (λ o. StationMatrix image coefficients mark matrix o.0 o.1)
      (record { refusal = c.refusal; count = c.count }, matrix_out image coefficients mark matrix)
  pub station_vet : (image packet coefficients : List ℕ) (mark : ℕ) (list : List ℕ)
      → let v : Verdict = vet_of (lent_as image packet coefficients (marked mark)) list in
      Only {A = VerdictOut} (StationVet image packet coefficients mark list) (record { refusal = v.refusal; place = v.place })
  pub station_class : (address : ℕ)
      → let c : Class = class_at address in
      Only {A = ClassOut} (StationClass address)
      (record { read_only = c.read_only; mandated = c.mandated; named = c.named; free = c.free; bits = c.bits })
