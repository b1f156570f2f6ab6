-- `plan::Accepted::audio_bytes` meets its contract, by the two kinds of sound. Assumes nothing.
use mathlib.Core.Path.{◌≡◌, refl, ◌∙◌}
use Rattle.plan.specs.Places.{in_cc, in_ca}
use Rattle.frames.specs.Audio.{audio_frame, audio_off_frame}
use Rattle.plan.proofs.Frame.{audio_ok}
use borrow.Author.Rules.{rules}
use Rattle.plan.proofs.Allowed.{in_range}
use Rattle.plan.proofs.Accepted.audio_bytes.Goals as goal

pub unwrap-requires : goal.unwrap-requires
unwrap-requires c = rw (audio_ok _ (rw c.in-On.is at (in_range c.args.self (search rules)).sound).1 _ c.audio_of.ensures) refl

pub returns-in-Off : goal.returns-in-Off
unfolding audio_off_frame
returns-in-Off c = let cc : in_cc c.args.self.request.sound ≡ 0 = search rules in
    let ca : in_ca c.args.self.request.sound ≡ 0 = search rules in
    c.audio_off.ensures ∙ rw (cc, ca)

pub returns-in-On : goal.returns-in-On
unfolding audio_frame
returns-in-On c =
    let e = audio_ok _ (rw c.in-On.is at (in_range c.args.self (search rules)).sound).1 _ c.audio_of.ensures in
    let f : c.unwrap.result ≡ audio_frame c.in-On.channels = cc in
    rw c.in-On.is f
