-- What is answered of a video leaves out the family, and an E that asks for nothing. Assumes nothing.
use mathlib.Core.Path.{◌≡◌, refl, sym, ap, ◌∙◌}
use mathlib.Core.Logic.{◌≢◌, ◌⊎◌, inl, inr, ⊎_elim}
use mathlib.Core.Bool.{Bool, true, false, cond}
use Prim.Native.Nat.{ℕ, ◌+◌, ◌*◌, ◌/◌, ◌%◌, ◌≤◌}
use native.Mathlib.Omega.{arith}
use lib.Dec.{eqb}
use borrow.Author.Tests.{eqb-true, eqb-false, ne_eqb}
use Rattle.video.specs.declared.Video.{Video}
use Rattle.video.specs.Video.{edition_number, ycc_quantisation, content_type, AsksE, answered_edition, answered}
use Rattle.video.specs.Fits.{VideoFits}
use Rattle.video.specs.Exception.{SameBut, Exception}
use Rattle.video.proofs.Fits.{edition_fits, no_more, asked_under_e}

-- a byte of 0 or 1 asks for nothing, and where nothing is asked for it is one of them
asks_none : (v : Video) → v.edition ≤ 1 → AsksE v → ⊥
asks_none v h (inl q) = q (omega arith)
asks_none v h (inr t) = t (omega arith)

-- a number that is not different from 0 is 0
is_zero : (n : ℕ) → (n ≢ 0 → ⊥) → n ≡ 0
is_zero n h = go (eqb n 0) refl
  where
    go : (b : Bool) → eqb n 0 ≡ b → n ≡ 0
    go true e = eqb-true n 0 e
    go false e = absurd (h (eqb-false n 0 e))

-- the byte by its four parts
pub parts : (n : ℕ) → n ≡ n % 4 + n / 4 % 4 * 4 + n / 16 % 4 * 16 + n / 64 * 64
parts n =
    let a : n / 4 / 4 ≡ n / 16 = omega arith in
    let b : n / 16 / 4 ≡ n / 64 = omega arith in
    omega (arith, a, b)

pub none_asked : (v : Video) → VideoFits v → (AsksE v → ⊥) → v.edition ≤ 1
none_asked v f none =
    omega (
      arith,
      parts v.edition,
      edition_fits v f,
      no_more v f,
      is_zero (ycc_quantisation v) (λ q. none (inl q)),
      is_zero (content_type v) (λ t. none (inr t)),
    )

as_d_lem : (v : Video) → VideoFits v → (AsksE v → ⊥) → answered_edition v.edition ≡ 0
as_d_lem v f none = go (eqb v.edition 1) refl
  where
    go : (b : Bool) → eqb v.edition 1 ≡ b → cond b 0 v.edition ≡ 0
    go true e = refl
    go false e = omega (arith, none_asked v f none, eqb-false v.edition 1 e)

as_e_lem : (v : Video) → VideoFits v → AsksE v → (edition_number v ≡ 1) × (answered_edition v.edition ≡ v.edition)
as_e_lem v f asks =
    (omega (arith, edition_fits v f, asked_under_e v f asks), rw (ne_eqb v.edition 1 (λ e. asks_none v (omega (arith, e)) asks)))

-- two edition bytes that are answered alike
alike : (v w : Video) → answered_edition v.edition ≡ answered_edition w.edition
    → (v.edition ≡ w.edition) ⊎ ((AsksE v → ⊥) × (AsksE w → ⊥))
alike v w = go (eqb v.edition 1) refl (eqb w.edition 1) refl
  where
    go : (b : Bool) → eqb v.edition 1 ≡ b → (c : Bool) → eqb w.edition 1 ≡ c
        → cond b 0 v.edition ≡ cond c 0 w.edition → (v.edition ≡ w.edition) ⊎ ((AsksE v → ⊥) × (AsksE w → ⊥))
    go true d true e h = inl (eqb-true _ _ d ∙ sym (eqb-true _ _ e))
    go true d false e h = inr (asks_none v (omega (arith, eqb-true v.edition 1 d)), asks_none w (omega (arith, h)))
    go false d true e h = inr (asks_none v (omega (arith, h)), asks_none w (omega (arith, eqb-true w.edition 1 e)))
    go false d false e h = inl h

same : (v w : Video) → answered v ≡ answered w → SameBut v w
same v w p =
    record {
      vic = ap (λ (x : Video). x.vic) p;
      encoding = ap (λ (x : Video). x.encoding) p;
      link = ap (λ (x : Video). x.link) p;
      range = ap (λ (x : Video). x.range) p;
      pixel = ap (λ (x : Video). x.pixel) p;
      edition = alike v w (ap (λ (x : Video). x.edition) p);
    }

back : (v w : Video) → VideoFits v → VideoFits w → SameBut v w → answered v ≡ answered w
back v w f g s =
    let edition : answered_edition v.edition ≡ answered_edition w.edition =
    ⊎_elim (ap answered_edition) (λ none. as_d_lem v f none.0 ∙ sym (as_d_lem w g none.1)) s.edition in
    λ i. record {
      vic = s.vic i;
      family = 0;
      encoding = s.encoding i;
      link = s.link i;
      range = s.range i;
      pixel = s.pixel i;
      edition = edition i;
    }

pub exceptions : Exception
exceptions = record { only = λ v w f g. (same v w, back v w f g); as_d = as_d_lem; as_e = as_e_lem }
