-- What a wiring section is answered, byte by byte: rows of the table of IDs against the rows in numbers. A code above 3 is told apart from no
-- other, nor is an ID above 8, so one test over the codes 0 to 4 and the IDs 0 to 9 decides. Assumes nothing.
use mathlib.Core.Path.{◌≡◌, refl, sym, ◌∙◌, subst}
use mathlib.Core.Bool.{Bool, true, false, false≢true, cond, not, ◌&&◌, ◌||◌, beq}
use mathlib.Core.List.{List, [], ◌∷◌}
use Prim.Native.Nat.{ℕ, ◌+◌, ◌*◌, ◌<◌, ◌≤◌}
use native.Mathlib.Omega.{arith}
use lib.Dec.{eqb, leb, ltb}
use lib.ListN.{get_or, length, drop, get_or-eq_default}
use borrow.Author.Tests.{eqb-true, lt-ltb, le-ltb, ltb-true, ltb-false, leb-true}
use Rattle.lists.specs.Among.{among}
use Rattle.lists.specs.Find.{every}
use Rattle.lists.proofs.Both.{both_left, both_right, beq_true}
use Rattle.lists.proofs.Find.{every_or}
use Rattle.lists.proofs.Place.{by_place, by_place_lem}
use Rattle.bits.proofs.Below.{below, at_below}
use Rattle.matrix.specs.Matrix.{Bytes}
use Rattle.wiring.specs.declared.Kind.{Kind}
use Rattle.wiring.specs.declared.Wires.{Wires}
use Rattle.wiring.specs.Kinds.{kinds, no_kind, kind_of, rgb_in, most_sync}
use Rattle.wiring.specs.Wiring.{wiring_in, wires, wires_of}
use Rattle.wiring.specs.Tests.{undrawn, sync_beyond, wiring_outside}
use Rattle.request.specs.Read.{converts_in}
use Rattle.promises.specs.EachByte.{in_none, drawn, syncs_inside, wiring_inside, colour_rows, of_wiring}
use Rattle.promises.proofs.Choices.{alike, choices, chosen}

-- ---- 5

-- a number, with k for it and for all above
abbrev cap : ℕ → ℕ → ℕ
cap k n = cond (ltb n k) n k

below_cap : (k n : ℕ) → k ≤ 4 → ltb n k ≡ ltb (cap 4 n) k
below_cap k n h = go (ltb n 4) refl
  where
    go : (b : Bool) → ltb n 4 ≡ b → ltb n k ≡ ltb (cond b n 4) k
    go true e = refl
    go false e = le-ltb n k (omega (arith, h, ltb-false n 4 e)) ∙ sym (le-ltb 4 k h)

above_cap : (k n : ℕ) → k ≤ 3 → ltb k n ≡ ltb k (cap 4 n)
above_cap k n h = go (ltb n 4) refl
  where
    go : (b : Bool) → ltb n 4 ≡ b → ltb k n ≡ ltb k (cond b n 4)
    go true e = refl
    go false e = lt-ltb k n (omega (arith, h, ltb-false n 4 e)) ∙ sym (lt-ltb k 4 (omega (arith, h)))

kind_cap : (n : ℕ) → kind_of n ≡ kind_of (cap 9 n)
unfolding kind_of
kind_cap n = go (ltb n 9) refl
  where
    go : (b : Bool) → ltb n 9 ≡ b → kind_of n ≡ kind_of (cond b n 9)
    go true e = refl
    go false e = get_or-eq_default kinds no_kind (ltb-false n 9 e)

each : (test : Kind → Bool) → every test kinds ≡ true → test no_kind ≡ true → (input : ℕ) → test (kind_of input) ≡ true
unfolding kind_of
each test = every_or test kinds no_kind

in_cap : (k : ℕ) (l : List ℕ) → below (λ n. beq (among n l) (among (cap k n) l)) 256 ≡ true → (n : ℕ) → n < 256 → among n l ≡ among (cap k n) l
in_cap k l t n h = alike (λ n. among n l) (λ n. among (cap k n) l) t n h

abbrev codes : List ℕ
codes = 0 ∷ 1 ∷ 2 ∷ 3 ∷ 4 ∷ []

abbrev inputs : List ℕ
inputs = 0 ∷ 1 ∷ 2 ∷ 3 ∷ 4 ∷ 5 ∷ 6 ∷ 7 ∷ 8 ∷ 9 ∷ []

abbrev known : List ℕ
known = 0 ∷ 1 ∷ 2 ∷ 3 ∷ 4 ∷ 5 ∷ 6 ∷ 7 ∷ 8 ∷ []

is_code : (n : ℕ) → n < 256 → among (cap 4 n) codes ≡ true
is_code n h = at_below (λ n. among (cap 4 n) codes) 256 n refl h

is_input : (n : ℕ) → n < 256 → among (cap 9 n) inputs ≡ true
is_input n h = at_below (λ n. among (cap 9 n) inputs) 256 n refl h

-- what the table of IDs says of a count and four fields, sync values aside
abbrev misses : ℕ → ℕ → ℕ → ℕ → ℕ → Bool
misses count i d s j = undrawn (kind_of i) (wires i d s j 0 0 0 0) || not (eqb count (kind_of i).count)

abbrev tells : List ℕ → Bool
tells five =
    beq (misses (get_or five 0 0) (get_or five 1 0) (get_or five 2 0) (get_or five 3 0) (get_or five 4 0)) (in_none drawn five)
    && (in_none drawn five || among (get_or five 1 0) known)

abbrev tells_in : List (List ℕ)
tells_in = (4 ∷ 12 ∷ []) ∷ inputs ∷ codes ∷ codes ∷ codes ∷ []

all_told : choices tells_in tells ≡ true
unfolding kind_of
all_told = refl

module _ (i d s j : ℕ) (hi : i < 256) (hd : d < 256) (hs : s < 256) (hj : j < 256) where
  misses_cap : (count : ℕ) → misses count i d s j ≡ misses count (cap 9 i) (cap 4 d) (cap 4 s) (cap 4 j)
  misses_cap count =
      let k : Kind = kind_of (cap 9 i) in
      rw (
        kind_cap i,
        below_cap k.least d (leb-true _ _ (each (λ k. leb k.least 4) refl refl (cap 9 i))),
        above_cap 3 d (omega arith),
        below_cap k.first s (leb-true _ _ (each (λ k. leb k.first 4) refl refl (cap 9 i))),
        above_cap k.last s (leb-true _ _ (each (λ k. leb k.last 3) refl refl (cap 9 i))),
        above_cap k.ways j (leb-true _ _ (each (λ k. leb k.ways 3) refl refl (cap 9 i))),
      )

  drawn_cap : (count : ℕ) → in_none drawn (count ∷ i ∷ d ∷ s ∷ j ∷ []) ≡ in_none drawn (count ∷ cap 9 i ∷ cap 4 d ∷ cap 4 s ∷ cap 4 j ∷ [])
  drawn_cap count =
      rw (
        in_cap 9 (1 ∷ 6 ∷ []) refl i hi,
        in_cap 9 (3 ∷ 7 ∷ []) refl i hi,
        in_cap 9 (5 ∷ []) refl i hi,
        in_cap 9 (2 ∷ []) refl i hi,
        in_cap 9 (4 ∷ 8 ∷ []) refl i hi,
        in_cap 4 (1 ∷ 2 ∷ 3 ∷ []) refl d hd,
        in_cap 4 (1 ∷ 2 ∷ 3 ∷ []) refl s hs,
        in_cap 4 (1 ∷ 2 ∷ []) refl s hs,
        in_cap 4 (0 ∷ 1 ∷ 2 ∷ []) refl j hj,
        in_cap 4 (0 ∷ []) refl j hj,
      )

  module _ (count : ℕ) (c : among count (4 ∷ 12 ∷ []) ≡ true) where
    abbrev five : List ℕ
    five = count ∷ cap 9 i ∷ cap 4 d ∷ cap 4 s ∷ cap 4 j ∷ []

    its_tests : tells five ≡ true
    its_tests = chosen tells_in tells five refl all_told (rw (c, is_input i hi, is_code d hd, is_code s hs, is_code j hj))

    told : misses count i d s j ≡ in_none drawn (count ∷ i ∷ d ∷ s ∷ j ∷ [])
    told =
        misses_cap count
        ∙ beq_true _ _ (both_left (beq (misses count (cap 9 i) (cap 4 d) (cap 4 s) (cap 4 j)) (in_none drawn five)) _ its_tests)
        ∙ sym (drawn_cap count)

    is_known : in_none drawn (count ∷ i ∷ d ∷ s ∷ j ∷ []) ≡ false → among i known ≡ true
    is_known e =
        in_cap 9 known refl i hi
        ∙ second (in_none drawn five) _ (sym (drawn_cap count) ∙ e)
        (both_right (beq (misses count (cap 9 i) (cap 4 d) (cap 4 s) (cap 4 j)) (in_none drawn five)) _ its_tests)
      where
        second : (a b : Bool) → a ≡ false → (a || b) ≡ true → b ≡ true
        second true b e t = absurd (false≢true (sym e))
        second false b e t = t

-- the high byte of a sync value decides
sync_high : (high low : ℕ) → high < 256 → low < 256 → ltb 1023 (high * 256 + low) ≡ not (among high (0 ∷ 1 ∷ 2 ∷ 3 ∷ []))
sync_high high low h l = go (ltb 3 high) refl ∙ alike (ltb 3) (λ n. not (among n (0 ∷ 1 ∷ 2 ∷ 3 ∷ []))) refl high h
  where
    go : (b : Bool) → ltb 3 high ≡ b → ltb 1023 (high * 256 + low) ≡ ltb 3 high
    go true e = lt-ltb 1023 (high * 256 + low) (omega (arith, ltb-true 3 high e)) ∙ sym e
    go false e = le-ltb 1023 (high * 256 + low) (omega (arith, ltb-false 3 high e)) ∙ sym e

no_sync : (a b : Bool) → (a || (b || false)) ≡ not (not (a || b) && true)
no_sync true b = refl
no_sync false true = refl
no_sync false false = refl

with_sync : (a b s y : Bool) → (b ≡ false → s ≡ not y) → (a || (b || s)) ≡ not (not (a || b) && y)
with_sync true b s y h = refl
with_sync false true s y h = refl
with_sync false false s y h = h refl

four_highs : (a b c d : Bool) → (not a || (not b || (not c || not d))) ≡ not (a && (b && (c && (d && true))))
four_highs false b c d = refl
four_highs true false c d = refl
four_highs true true false d = refl
four_highs true true true true = refl
four_highs true true true false = refl

zero_beyond : (most : ℕ) → (ltb most 0 || (ltb most 0 || (ltb most 0 || ltb most 0))) ≡ false
zero_beyond most = rw (le-ltb most 0 (omega arith))

it_is : (n m : ℕ) → not (eqb n m) ≡ false → m ≡ n
it_is n m e = go (eqb n m) refl e
  where
    go : (b : Bool) → eqb n m ≡ b → not b ≡ false → m ≡ n
    go true t f = sym (eqb-true n m t)
    go false t f = absurd (false≢true (sym f))

-- what is proved of a wiring section: row 5 is as the rows in numbers say; the ID that it names; and that this one is known
pub record Wired (l : List ℕ) : Type 0 where
  pub inside : wiring_outside (wiring_in l) ≡ not (wiring_inside l)
  pub input : (wires_of (wiring_in l)).input ≡ get_or l 0 0
  pub known : wiring_inside l ≡ true → among (get_or l 0 0) known ≡ true

not_not : (b : Bool) → not b ≡ true → b ≡ false
not_not true e = absurd (false≢true e)
not_not false e = refl

module _ (w : List ℕ) (h : Bytes w) where
  abbrev at : ℕ → ℕ
  at i = get_or w i 0

  by_four : Wired (by_place 0 4 w)
  unfolding wiring_outside
  by_four =
      let k : Kind = kind_of (at 0) in
      let m : Bool = undrawn k (wires (at 0) (at 1) (at 2) (at 3) 0 0 0 0) in
      record {
        inside =
            rw (← told (at 0) (at 1) (at 2) (at 3) (h 0) (h 1) (h 2) (h 3) 4 refl, zero_beyond (most_sync k.count))
            (no_sync m (not (eqb 4 k.count)));
        input = refl;
        known = λ t. is_known (at 0) (at 1) (at 2) (at 3) (h 0) (h 1) (h 2) (h 3) 4 refl (not_not _ (both_left _ _ t));
      }

  by_twelve : Wired (by_place 0 12 w)
  unfolding wiring_outside
  by_twelve =
      let k : Kind = kind_of (at 0) in
      let m : Bool = undrawn k (wires (at 0) (at 1) (at 2) (at 3) 0 0 0 0) in
      let n : Wires = wires (at 0) (at 1) (at 2) (at 3) (at 4 * 256 + at 5) (at 6 * 256 + at 7) (at 8 * 256 + at 9) (at 10 * 256 + at 11) in
      let low : List ℕ = 0 ∷ 1 ∷ 2 ∷ 3 ∷ [] in
      record {
        inside =
            rw (← told (at 0) (at 1) (at 2) (at 3) (h 0) (h 1) (h 2) (h 3) 12 refl)
            (with_sync m (not (eqb 12 k.count)) (sync_beyond (most_sync k.count) n) (syncs_inside (drop 4 (by_place 0 12 w)))
            (λ e.
            rw (
              it_is 12 k.count e,
              sync_high (at 4) (at 5) (h 4) (h 5),
              sync_high (at 6) (at 7) (h 6) (h 7),
              sync_high (at 8) (at 9) (h 8) (h 9),
              sync_high (at 10) (at 11) (h 10) (h 11),
            )
            (four_highs (among (at 4) low) (among (at 6) low) (among (at 8) low) (among (at 10) low))));
        input = refl;
        known = λ t. is_known (at 0) (at 1) (at 2) (at 3) (h 0) (h 1) (h 2) (h 3) 12 refl (not_not _ (both_left _ _ t));
      }

none : (w : List ℕ) → length w ≡ 0 → Wired w
unfolding wiring_outside kind_of
none [] e = record { inside = refl; input = refl; known = λ t. refl }
none (x ∷ w) e = absurd (omega arith)

pub wired : (w : List ℕ) → Bytes w → of_wiring w → Wired w
wired w h t = go (eqb (length w) 0) refl (eqb (length w) 4) refl (eqb (length w) 12) refl
  where
    go : (a : Bool) → eqb (length w) 0 ≡ a → (b : Bool) → eqb (length w) 4 ≡ b → (c : Bool) → eqb (length w) 12 ≡ c → Wired w
    go true e b f c g = none w (eqb-true _ _ e)
    go false e true f c g = subst Wired (by_place_lem 4 w (eqb-true _ _ f)) (by_four w h)
    go false e false f true g = subst Wired (by_place_lem 12 w (eqb-true _ _ g)) (by_twelve w h)
    go false e false f false g = absurd (false≢true (rw (e, f, g) at t))

-- ---- 6: ID, encoding, and the count of the matrix

abbrev converting : List ℕ → Bool
converting three =
    beq (converts_in (rgb_in (get_or three 0 0)) (eqb (get_or three 1 0) 0) && eqb (get_or three 2 0) 0) (in_none colour_rows three)

abbrev converting_in : List (List ℕ)
converting_in = known ∷ (0 ∷ 1 ∷ 2 ∷ []) ∷ (0 ∷ 25 ∷ []) ∷ []

all_converting : choices converting_in converting ≡ true
unfolding kind_of
all_converting = refl

pub converts : (i encoding matrix : ℕ) → among i known ≡ true → among encoding (0 ∷ 1 ∷ 2 ∷ []) ≡ true → among matrix (0 ∷ 25 ∷ []) ≡ true
    → (converts_in (rgb_in i) (eqb encoding 0) && eqb matrix 0) ≡ in_none colour_rows (i ∷ encoding ∷ matrix ∷ [])
converts i encoding matrix a b c = beq_true _ _ (chosen converting_in converting (i ∷ encoding ∷ matrix ∷ []) refl all_converting (rw (a, b, c)))
