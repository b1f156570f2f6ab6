-- An AVI frame names the video that it was made for. Assumes nothing.
use Rattle.std.proofs.Common.{◌≡◌, ℕ, ◌+◌, ◌*◌, ◌/◌, ◌%◌, ◌≤◌, Bool, true, false, cond, eqb, [], ◌∷◌, get_or, sym, refl, ap, ◌∙◌, inl, inr, arith, eqb-true}
use borrow.Author.Tests.{eqb-false}
use Rattle.bits.proofs.Below.{at_below}
use Rattle.video.specs.declared.Video.{Video}
use Rattle.video.specs.Fits.{VideoFits}
use Rattle.video.specs.Video.{depth, repetition, ycc_quantisation, content_type, AsksE, answered_edition}
use Rattle.video.proofs.Fits.{encoding_fits, range_fits, range_limited, repetition_fits, no_more}
use Rattle.video.proofs.Alike.{parts, exceptions}
use Rattle.frames.specs.Frames.{quantisation, avi_payload}
use Rattle.frames.specs.Named.{edition_named, video_named}
use Rattle.frames.specs.Theorems.{NamedBack}
use Rattle.frames.proofs.Small.{fifth, fields}

-- the high bit of Q
range_back : (v : Video) → VideoFits v → quantisation v * 4 / 8 % 2 ≡ v.range
range_back v f = go (eqb v.encoding 0) refl (eqb v.range 0) refl
  where
    go : (b : Bool) → eqb v.encoding 0 ≡ b → (c : Bool) → eqb v.range 0 ≡ c → cond b (cond c 1 2) 0 * 4 / 8 % 2 ≡ v.range
    go true e true h = sym (eqb-true v.range 0 h)
    go true e false h = omega (arith, range_fits v f, eqb-false v.range 0 h)
    go false e c h = sym (range_limited v f (eqb-false v.encoding 0 e))

-- the repetition by PR
repetition_back : (n : ℕ) → n ≤ 2 → (get_or (0 ∷ 1 ∷ 3 ∷ []) n 0 + 1) / 2 ≡ n
repetition_back n h = eqb-true _ _ (at_below (λ n. eqb ((get_or (0 ∷ 1 ∷ 3 ∷ []) n 0 + 1) / 2) n) 3 n refl (omega arith))

module _ (v : Video) (f : VideoFits v) where
  pixel_back : (fifth v % 16 + 1) / 2 * 16 + depth v % 16 ≡ v.pixel
  pixel_back = rw ((fields v).pr, repetition_back (repetition v) (repetition_fits v f)) (omega arith)

  -- with E's bits the byte is E's, unless it is D's, where nothing of E is asked for
  edition_back : edition_named (fifth v) ≡ answered_edition v.edition
  edition_back = rw ((fields v).yq, (fields v).cn) (go (eqb (ycc_quantisation v) 0) refl (eqb (content_type v) 0) refl)
    where
      e : ℕ
      e = 1 + ycc_quantisation v * 4 + content_type v * 16

      as_asked : AsksE v → answered_edition e ≡ answered_edition v.edition
      as_asked asks =
          let whole : e ≡ v.edition = omega (arith, parts v.edition, no_more v f, (exceptions.as_e v f asks).0) in
          ap answered_edition whole

      go : (b : Bool) → eqb (ycc_quantisation v) 0 ≡ b → (c : Bool) → eqb (content_type v) 0 ≡ c → answered_edition e ≡ answered_edition v.edition
      go false q c t = as_asked (inl (eqb-false _ _ q))
      go true q false t = as_asked (inr (eqb-false _ _ t))
      go true q true t =
          let one : e ≡ 1 = omega (arith, eqb-true (ycc_quantisation v) 0 q, eqb-true (content_type v) 0 t) in
          ap answered_edition one ∙ sym (exceptions.as_d v f none)
        where
          none : AsksE v → ⊥
          none (inl n) = n (eqb-true _ _ q)
          none (inr n) = n (eqb-true _ _ t)

pub named : NamedBack
named v f =
    let w : Video = video_named v.link (depth v) (avi_payload v) in
    let encoding : w.encoding ≡ v.encoding = omega (arith, encoding_fits v f) in
    let range = range_back v f in
    let pixel = pixel_back v f in
    let edition = edition_back v f in
    λ i. record {
      vic = v.vic;
      family = 0;
      encoding = encoding i;
      link = v.link;
      range = range i;
      pixel = pixel i;
      edition = edition i;
    }
