-- What every mode's row says of its aspect and its colorimetry: one test over the table; how large C, Q and PR are; and the three
-- fields of data byte 5. Assumes nothing.
use Rattle.std.proofs.Common.{◌≡◌, ℕ, zero, suc, ◌+◌, ◌*◌, ◌/◌, ◌%◌, ◌≤◌, Bool, true, false, cond, ◌&&◌, eqb, leb, [], ◌∷◌, get_or, refl, inl, arith, lit≤, leb-true}
use Rattle.lists.proofs.Both.{both_left, both_right}
use Rattle.lists.proofs.Decides.{at_most}
use Rattle.lists.proofs.Find.{found}
use Rattle.video.specs.declared.Mode.{Mode}
use Rattle.video.specs.declared.Video.{Video}
use Rattle.video.specs.Modes.{modes, unlisted, mode_of}
use Rattle.video.specs.Video.{repetition, ycc_quantisation, content_type}
use Rattle.video.specs.Tests.{shown_outside}
use Rattle.video.proofs.Fits.{is_shown_outside}
use Rattle.frames.specs.Frames.{colorimetry, quantisation, repeats}

pub record Small (m : Mode) : Type 0 where
  pub aspect : m.aspect ≤ 2
  pub colorimetry : m.colorimetry ≤ 2

abbrev fits : Mode → Bool
fits m = leb m.aspect 2 && leb m.colorimetry 2

pub mode_small : (vic : ℕ) → Small (mode_of vic)
unfolding mode_of
mode_small vic =
    let m : Mode = mode_of vic in
    let a : Bool = leb m.aspect 2 in
    let b : Bool = leb m.colorimetry 2 in
    let t : (a && b) ≡ true = found fits (λ m. eqb m.vic vic) unlisted modes refl refl in
    record { aspect = leb-true _ _ (both_left a b t); colorimetry = leb-true _ _ (both_right a b t) }

pub colour_small : (m : Mode) (encoding : ℕ) → Small m → colorimetry m encoding ≤ 2
colour_small m encoding s = go (eqb encoding 0)
  where
    go : (b : Bool) → cond b 0 m.colorimetry ≤ 2
    go true = lit≤ tt
    go false = s.colorimetry

pub quantisation_small : (v : Video) → quantisation v ≤ 2
quantisation_small v = go (eqb v.encoding 0) (eqb v.range 0)
  where
    go : (b c : Bool) → cond b (cond c 1 2) 0 ≤ 2
    go true true = lit≤ tt
    go true false = lit≤ tt
    go false c = lit≤ tt

pub repeats_small : (v : Video) → repeats v ≤ 3
repeats_small v = go (repetition v)
  where
    go : (n : ℕ) → get_or (0 ∷ 1 ∷ 3 ∷ []) n 0 ≤ 3
    go zero = lit≤ tt
    go (suc zero) = lit≤ tt
    go (suc (suc zero)) = lit≤ tt
    go (suc (suc (suc n))) = lit≤ tt

abbrev pub fifth : Video → ℕ
fifth v = ycc_quantisation v * 64 + content_type v * 16 + repeats v

pub record Fifth (v : Video) : Type 0 where
  pub yq : fifth v / 64 % 4 ≡ ycc_quantisation v
  pub cn : fifth v / 16 % 4 ≡ content_type v
  pub pr : fifth v % 16 ≡ repeats v

pub fields : (v : Video) → Fifth v
fields v =
    let p = repeats_small v in
    record { yq = omega (arith, p); cn = omega (arith, p); pr = omega (arith, p) }

-- what a video that may be shown has, and its mode
pub encoding_small : (v : Video) → shown_outside v ≡ false → v.encoding ≤ 2
encoding_small v h = at_most 2 v.encoding (λ e. (is_shown_outside v).fails h (inl e))

pub second_small : (m : Mode) (v : Video) → m ≡ mode_of v.vic → (colorimetry m v.encoding ≤ 2) × (m.aspect ≤ 2)
second_small m v e = let s : Small m = rw e (mode_small v.vic) in (colour_small m v.encoding s, s.aspect)
