-- `meter::is_finite` meets its contract. Assumes nothing.
use mathlib.Core.Path.{◌≡◌, refl, sym}
use mathlib.Core.Bool.{true, false}
use lib.Ieee.{Float, nan, inf, fin, binary32, lt, neg, of_bits}
use lib.Ieee.Scale.{finite}
use Rattle.meter.proofs.is_finite.Goals as goal

below : (x : Float) → lt x (of_bits binary32 2139095040) ≡ true → lt (neg (of_bits binary32 2139095040)) x ≡ finite x
unfolding lt of_bits neg
below nan _ = refl
below (inf true) _ = refl
below (inf false) h = sym h
below (fin s m e) _ = refl

pub returns-then-x : goal.returns-then-x
returns-then-x c = below c.args.x c.if-x.true

above : (x : Float) → lt x (of_bits binary32 2139095040) ≡ false → lt x (of_bits binary32 2139095040) ≡ finite x
unfolding lt of_bits
above nan _ = refl
above (inf true) h = h
above (inf false) _ = refl
above (fin s m e) _ = refl

pub returns-else-x : goal.returns-else-x
returns-else-x c = above c.args.x c.if-x.false
