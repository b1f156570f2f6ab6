-- `plan::Wanted::with_frames` meets its contract. Assumes nothing.
use mathlib.Core.Path.{◌≡◌, ap, ◌∙◌}
use mathlib.Core.List.{List}
use Prim.Native.Nat.{ℕ}
use lib.ListN.{take, drop}
use Rattle.frames.specs.Frames.{avi_frame}
use Rattle.plan.specs.Places.{audio_packet}
use Rattle.plan.specs.Wanted.{laid_bytes, stores}
use Rattle.plan.proofs.Allowed.{in_range}
use Rattle.plan.proofs.Made.{frames_made}
use Rattle.plan.proofs.Stored.{more, rest}
use borrow.Author.Rules.{rules}
use Rattle.plan.proofs.Wanted.with_frames.Goals as goal

pub returns : goal.returns
returns c pair =
    let a = c.args.accepted in
    let r = a.request in
    let out : List ℕ = c.args.self.now.bytes in
    let audio : take 13 (drop 1 c.audio_bytes-audio.result) ≡ drop 1 c.audio_bytes-audio.result = rest 13 c.audio_bytes-audio.result (search rules) in
    let video : take 16 (drop 1 c.avi_bytes-video.result) ≡ drop 1 c.avi_bytes-video.result = rest 16 c.avi_bytes-video.result (search rules) in
    more out (laid_bytes 0x52 (drop 1 (avi_frame r.video))) (laid_bytes 0x70 (drop 1 (audio_packet r.sound)))
    (rw (video, c.avi_bytes-video.ensures) at c.laid.ensures) (rw (audio, c.audio_bytes-audio.ensures) at c.laid-2.ensures)
    ∙ ap (stores out) (frames_made r pair (in_range a (search rules)).video)
