-- The line is refused as N and CTS are, and cut as they are. Assumes nothing.
use mathlib.Core.Path.{◌≡◌, refl}
use mathlib.Core.List.{List}
use Prim.Native.Nat.{ℕ}
use borrow.Author.Tests.{ne_eqb}
use Rattle.refusals.specs.declared.Refusal.{Refusal}
use Rattle.refusals.specs.Numbered.{refusal_number}
use Rattle.refusals.proofs.Tests.{numbered}
use Rattle.clock.specs.Answers.{no_pair, the_pair}
use Rattle.refusals.proofs.Told.{refusal_some}
use Rattle.request.specs.declared.Request.{Request}
use Rattle.request.specs.Read.{read_of, ncts_of, pair_for}
use Rattle.request.proofs.Coherent.{rows}
use Rattle.request.proofs.Cut.{lengths}
use lib.ListN.{get_or, replicate}
use Rattle.std.specs.Prelude.{Result, Ok, Err}
use Rattle.std.specs.Result.{result_unwrap_or}
use Rattle.video.specs.declared.Video.{Video}
use Rattle.frames.specs.Answers.{avi_of, avi_told}
use Rattle.line.specs.declared.Shown.{Shown}
use Rattle.line.specs.Numbered.{Line, shown_line}
use Rattle.line.specs.Line.{audio_checksum, accepted_line, refused_line, line_of, Lines}

-- the line of a request that rows 1 to 6, 17 or 20 refuse, of one that row 9 does, and of an accepted one
pub refused_first : (input : List ℕ) (e : Refusal) → (read_of input).refusal ≡ refusal_number e → refused_line (refusal_number e) ≡ line_of input
unfolding line_of ncts_of
refused_first input e f = let n = ne_eqb (refusal_number e) 0 (refusal_some e) in rw (f, n, n)

module _ (input : List ℕ) (r : Request) (f : read_of input ≡ record { refusal = 0; request = r }) where
  pub refused_last : (e : Refusal) → no_pair (refusal_number e) ≡ pair_for r → refused_line (refusal_number e) ≡ line_of input
  unfolding line_of ncts_of
  refused_last e g = rw (f, ← g, ne_eqb (refusal_number e) 0 (refusal_some e))

  pub given : (shown : Shown) → the_pair shown.n shown.cts ≡ pair_for r → shown.vic ≡ r.video.vic
      → shown.avi ≡ get_or (avi_of r.video).bytes 3 0 → shown.audio ≡ audio_checksum r.sound → shown_line shown ≡ line_of input
  unfolding line_of ncts_of
  given shown p v a s = rw (f, ← p, v, a, s)

-- the checksum of the frame of a video, and 0 where there is none
pub third : (video : Video) (frame : Result (List ℕ) Refusal) → avi_told frame ≡ avi_of video
    → get_or (result_unwrap_or frame (replicate 17 0)) 3 0 ≡ get_or (avi_of video).bytes 3 0
third video (Ok bytes) e = rw (← e)
third video (Err x) e = rw (← e)

-- what is printed is refused as N and CTS are
same_number : (input : List ℕ) → (line_of input).refusal ≡ (ncts_of input).refusal
unfolding line_of
same_number input = numbered refused_line (accepted_line (read_of input).request (ncts_of input)) (λ (l : Line). l.refusal) (ncts_of input).refusal (λ _. refl) refl

pub lines : (input : List ℕ) → Lines input
unfolding line_of
lines input =
    record {
      given = λ b. rw (same_number input) ((rows input).ncts b);
      cut = λ n h. rw ((lengths input).ncts n h, (lengths input).read n h);
    }
