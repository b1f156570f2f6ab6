-- Where the VIC stands: by the places that a walk answers; and a wish that is put there is the request with that VIC and family. Assumes nothing.
use mathlib.Core.Path.{◌≡◌, refl, sym, ap, subst, ◌∙◌}
use mathlib.Core.Logic.{◌≢◌}
use mathlib.Core.List.{List, [], ◌∷◌, ◌++◌}
use Prim.Native.Nat.{ℕ, suc, ◌+◌, ◌<◌, ◌≤◌}
use native.Mathlib.Omega.{arith}
use Rattle.std.proofs.lemmas.Bool.Decides.{nat_tests}
use lib.ListN.{get_or, length, set, take, length-append}
use lib.Seq.{length-take-le}
use Rattle.request.specs.Sections.{Bodies, Walk, ends, not_allowed, whole, walked, in_turn, by_name}
use Rattle.request.specs.Numbered.{BodyEnds}
use Rattle.request.specs.Places.{ends_from, places_of}
use Rattle.request.specs.Bytes.{laid}
use Rattle.request.specs.Walks.{Sectioned}
use Rattle.request.proofs.Opened.{request_walks}
use Rattle.lists.specs.Over.{over}
use Rattle.lists.proofs.Copied.{over_whole}
use Rattle.edid.specs.Wish.{Wish, wished, placed_in, in_place}
use Rattle.edid.specs.Found.{vic_in, vic_at}

first_end : (bodies : List (List ℕ)) → in_turn (by_name bodies) ≡ bodies → get_or (ends_from 0 bodies) 0 0 + 1 ≡ suc (suc (length (by_name bodies).wiring))
first_end bodies e = subst (λ (b : List (List ℕ)). get_or (ends_from 0 b) 0 0 + 1 ≡ suc (suc (length (by_name bodies).wiring))) e (omega arith)

pub place : (input : List ℕ) → (places_of (walked input)).refusal ≡ 0 → get_or (places_of (walked input)).ends 0 0 + 1 ≡ vic_in (walked input)
place input z = go (walked input) refl z
  where
    go : (w : Walk) → walked input ≡ w → (places_of w).refusal ≡ 0 → get_or (places_of w).ends 0 0 + 1 ≡ vic_in w
    go ends e z = absurd (omega (arith, z))
    go not_allowed e z = absurd (omega (arith, z))
    go (whole bodies rest) e z = first_end bodies ((request_walks input).each bodies rest e)

-- and by what the call answers
module _ (input : List ℕ) where
  pub place_told : (l : List ℕ) → record { refusal = 0; ends = l } ≡ places_of (walked input) → get_or l 0 0 + 1 ≡ vic_in (walked input)
  place_told l h = ap (λ (p : BodyEnds). get_or p.ends 0 0 + 1) h ∙ place input (sym (ap (λ (p : BodyEnds). p.refusal) h))

-- two bytes behind some others
beside : (wi : List ℕ) (n v f : ℕ) (t : List ℕ) (x y : ℕ)
    → set (set (wi ++ (n ∷ v ∷ f ∷ t)) (suc (length wi)) x) (suc (suc (length wi))) y ≡ wi ++ (n ∷ x ∷ y ∷ t)
beside [] n v f t x y = refl
beside (a ∷ wi) n v f t x y = ap (λ (l : List ℕ). a ∷ l) (beside wi n v f t x y)

put_in : (w : Wish) (wi vi more : List ℕ) → length vi ≡ 7
    → set (set (length wi ∷ (wi ++ (length vi ∷ (vi ++ more)))) (suc (suc (length wi))) w.vic) (suc (suc (suc (length wi)))) w.family
    ≡ length wi ∷ (wi ++ (length (wished w vi) ∷ (wished w vi ++ more)))
put_in w wi [] more h = absurd (omega arith)
put_in w wi (v ∷ []) more h = absurd (omega arith)
put_in w wi (v ∷ f ∷ vs) more h = ap (λ (l : List ℕ). length wi ∷ l) (beside wi (length (v ∷ f ∷ vs)) v f (vs ++ more) w.vic w.family)

-- a walk that finds all sections: they stand in the input
module _ (input : List ℕ) (bodies : List (List ℕ)) (rest : List ℕ) (e : walked input ≡ whole bodies rest) where
  abbrev b : Bodies
  b = by_name bodies

  pub sectioned : Sectioned input (by_name bodies) rest
  sectioned = ((request_walks input).whole (by_name bodies) rest).0 (e ∙ ap (λ (l : List (List ℕ)). whole l rest) (sym ((request_walks input).each bodies rest e)))

  -- the VIC and the family stand before the input's end
  pub inside : suc (suc (suc (length (by_name bodies).wiring))) < length input
  inside =
      let s = sectioned in
      let m = ap length s.made in
      let v = length-append b.video (laid (b.audio ∷ b.matrix ∷ []) rest) in
      let w = length-append b.wiring (length b.video ∷ (b.video ++ laid (b.audio ∷ b.matrix ∷ []) rest)) in
      omega (arith, m, v, w, s.video_counted)

  -- and a wish that is put there is in its place
  pub put : (w : Wish) → set (set input (suc (suc (length (by_name bodies).wiring))) w.vic) (suc (suc (suc (length (by_name bodies).wiring)))) w.family ≡ placed_in w input (whole bodies rest)
  put w =
      ap (λ (l : List ℕ). set (set l (suc (suc (length b.wiring))) w.vic) (suc (suc (suc (length b.wiring)))) w.family) sectioned.made
      ∙ put_in w b.wiring b.video (laid (b.audio ∷ b.matrix ∷ []) rest) sectioned.video_counted

-- the same of any input that has such a place
module _ (input : List ℕ) (n : vic_in (walked input) ≢ 0) where
  pub within : suc (vic_in (walked input)) < length input
  within = go (walked input) refl n
    where
      go : (w : Walk) → walked input ≡ w → vic_in w ≢ 0 → suc (vic_in w) < length input
      go ends e h = absurd (h refl)
      go not_allowed e h = absurd (h refl)
      go (whole bodies rest) e h = inside input bodies rest e

  pub placed : (w : Wish) → set (set input (vic_in (walked input)) w.vic) (suc (vic_in (walked input))) w.family ≡ in_place w input
  unfolding in_place
  placed w = go (walked input) refl n
    where
      go : (k : Walk) → walked input ≡ k → vic_in k ≢ 0 → set (set input (vic_in k) w.vic) (suc (vic_in k)) w.family ≡ placed_in w input k
      go ends e h = absurd (h refl)
      go not_allowed e h = absurd (h refl)
      go (whole bodies rest) e h = put input bodies rest e w

-- the place that the code works with: that of an input which is no longer than any request
module _ (input : List ℕ) (at : ℕ) (e : vic_at input ≡ at) (n : at ≢ 0) where
  some_place : (length input ≤ 51) × (vic_in (walked input) ≡ at)
  some_place = (grind (arith, nat_tests), grind (arith, nat_tests))

  pub short : length input ≤ 51
  short = some_place.0

  there : vic_in (walked input) ≢ 0
  there z = n (sym some_place.1 ∙ z)

  pub room : at + 1 < length input
  room = omega (arith, within input there, some_place.1)

  pub in_place_lem : (w : Wish) → set (set input at w.vic) (at + 1) w.family ≡ in_place w input
  in_place_lem w =
      let s : suc at ≡ at + 1 = omega arith in
      rw (sym s) (subst (λ (k : ℕ). set (set input k w.vic) (suc k) w.family ≡ in_place w input) some_place.1 (placed input there w))

-- a copy of it
pub copied : (input out : List ℕ) → length input ≤ length out → over input (take (length input) out) ≡ input
copied input out h = over_whole input (take (length input) out) (sym (length-take-le (length input) out h))

pub bounded : (input : List ℕ) → vic_in (walked input) ≤ length input
bounded input = go (walked input) refl
  where
    go : (w : Walk) → walked input ≡ w → vic_in w ≤ length input
    go ends e = omega arith
    go not_allowed e = omega arith
    go (whole bodies rest) e = omega (arith, inside input bodies rest e)
