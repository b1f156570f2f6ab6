-- Each byte of a request, and what is answered for it: a test for each byte at its 256 values, and one of what goes together. Assumes nothing.
use mathlib.Core.Path.{◌≡◌, refl, sym, ap, ap₂, ◌∙◌}
use mathlib.Core.Logic.{◌≢◌, ◌⊎◌, inl, inr}
use mathlib.Core.Bool.{Bool, true, false, false≢true, cond, not, ◌&&◌, ◌||◌, beq}
use mathlib.Core.List.{List, [], ◌∷◌, ◌++◌, append-nil}
use Prim.Native.Nat.{ℕ, zero, suc, ◌+◌, ◌*◌, ◌<◌, ◌≤◌, ◌/◌, ◌%◌}
use native.Mathlib.Omega.{arith}
use lib.Dec.{eqb, leb, ltb}
use lib.ListN.{get_or, length, take}
use borrow.Author.Tests.{eqb-true, eq-eqb, ne_eqb, lt-ltb, le-ltb, ltb-true, ltb-false, leb-true, leb-false, le-leb, lt-leb}
use Rattle.lists.specs.Among.{among}
use Rattle.lists.proofs.Both.{both_left, both_right, beq_true}
use Rattle.bits.proofs.Below.{at_below}
use Rattle.ratio.specs.Terms.{euclid, divisor_of}
use Rattle.video.specs.declared.Video.{Video}
use Rattle.video.specs.Video.{video_in}
use Rattle.video.specs.Modes.{mode_of}
use Rattle.video.specs.Tests.{edition_outside, video_outside, shown_outside, video_combined, shown_combined}
use Rattle.clock.specs.Clocks.{tmds}
use Rattle.clock.specs.Answers.{above_limit, clock_of}
use Rattle.clock.specs.Pairs.{reference, recommended_of}
use Rattle.clock.specs.Found.{nearest_k, nearest_in, nearest_of, exactly, coherent_of, pair_of}
use Rattle.blanking.specs.Found.{highest_of, beyond}
use Rattle.matrix.specs.Matrix.{Bytes}
use Rattle.matrix.specs.Tests.{within, in_range, is_allowed}
use Rattle.sound.specs.declared.Sound.TheVariants.{Off, On}
use Rattle.sound.specs.Sound.{sound_of}
use Rattle.sound.specs.Tests.{is_on, sound_outside}
use Rattle.wiring.specs.Kinds.{rgb_in}
use Rattle.request.specs.Numbered.{Checked}
use Rattle.request.specs.declared.Request.{Request}
use Rattle.request.specs.Sections.{sections, Bodies, Walk, walked}
use Rattle.request.specs.Walks.{fits}
use Rattle.request.specs.Bytes.{laid}
use Rattle.request.specs.Request.{present, request_in}
use Rattle.request.specs.Read.{outside, converts_in, combined, judged, checked, limited, read_of, pair_for, ncts_of}
use Rattle.request.proofs.Walks.{walks}
use Rattle.request.proofs.Ordered.{limit_there, accepted}
use Rattle.promises.specs.EachByte.{in_theirs, in_none, vics, depth_bytes, edition_bytes, bits_under_d, video_bytes, sound_bytes}
use Rattle.promises.specs.EachByte.{mode_bytes, high_bytes, high_inside, matrix_inside, together, too_fast, will_not_fit, without_pair, bytes_of, inside_to, apart_to, answer_to, pair_to, Answers, EachByte}
use Rattle.promises.specs.EachByte.{wiring_inside, of_wiring, of_sound, of_matrix}
use Rattle.promises.proofs.Choices.{alike, each_of, choices, chosen}
use Rattle.promises.proofs.Wired.{wired, converts}

-- ---- 4

families : (vic : ℕ) → vic < 256 → (mode_of vic).families ≡ cond (among vic (vics 1)) 2 (cond (among vic (vics 0)) 1 0)
unfolding mode_of
families vic h =
    eqb-true _ _ (at_below (λ n. eqb (mode_of n).families (cond (among n (vics 1)) 2 (cond (among n (vics 0)) 1 0))) 256 vic refl h)

offers : (vic family : ℕ) → vic < 256 → ltb family (mode_of vic).families ≡ among vic (vics family)
offers vic family h = ap (ltb family) (families vic h) ∙ go family (among vic (vics 1)) refl (among vic (vics 0)) refl
  where
    go : (family : ℕ) (b : Bool) → among vic (vics 1) ≡ b → (c : Bool) → among vic (vics 0) ≡ c
        → ltb family (cond b 2 (cond c 1 0)) ≡ among vic (vics family)
    go zero true e c k = sym (each_of (λ n. among n (vics 0)) (vics 1) vic refl e)
    go zero false e true k = sym k
    go zero false e false k = sym k
    go (suc zero) true e c k = sym e
    go (suc zero) false e true k = sym e
    go (suc zero) false e false k = sym e
    go (suc (suc n)) b e c k = le-ltb (suc (suc n)) (cond b 2 (cond c 1 0)) (small b c)
      where
        small : (b c : Bool) → cond b 2 (cond c 1 0) ≤ suc (suc n)
        small true c = omega arith
        small false true = omega arith
        small false false = omega arith

-- ---- 5

-- in the table's order, with the two halves of the depth byte together
in_order : (l d e r p q : Bool) → (l || (d || (e || (r || (p || q))))) ≡ (e || (l || (r || ((d || p) || q))))
in_order true d true r p q = refl
in_order true d false r p q = refl
in_order false true true r p q = refl
in_order false true false true p q = refl
in_order false true false false p q = refl
in_order false false e r p q = refl

five_bytes : (a b c d e : Bool) → (not a || (not b || (not c || (not d || not e)))) ≡ not (a && (b && (c && (d && (e && true)))))
five_bytes false b c d e = refl
five_bytes true false c d e = refl
five_bytes true true false d e = refl
five_bytes true true true false e = refl
five_bytes true true true true true = refl
five_bytes true true true true false = refl

three_bytes : (a b c : Bool) → (not a || (not b || not c)) ≡ not (a && (b && (c && true)))
three_bytes false b c = refl
three_bytes true false c = refl
three_bytes true true true = refl
three_bytes true true false = refl

module _ (vic family encoding link range pixel edition : ℕ) (h : Bytes (vic ∷ family ∷ encoding ∷ link ∷ range ∷ pixel ∷ edition ∷ [])) where
  abbrev v : Video
  v = video_in (vic ∷ family ∷ encoding ∷ link ∷ range ∷ pixel ∷ edition ∷ [])

  video_inside : video_outside v ≡ not (in_theirs video_bytes (encoding ∷ link ∷ range ∷ pixel ∷ edition ∷ []))
  unfolding video_outside shown_outside
  video_inside =
      let a : ltb 2 encoding ≡ not (among encoding (0 ∷ 1 ∷ 2 ∷ [])) = alike (ltb 2) (λ n. not (among n (0 ∷ 1 ∷ 2 ∷ []))) refl encoding (h 2) in
      let b : ltb 1 link ≡ not (among link (0 ∷ 1 ∷ [])) = alike (ltb 1) (λ n. not (among n (0 ∷ 1 ∷ []))) refl link (h 3) in
      let c : ltb 1 range ≡ not (among range (0 ∷ 1 ∷ [])) = alike (ltb 1) (λ n. not (among n (0 ∷ 1 ∷ []))) refl range (h 4) in
      let d : (ltb 2 (pixel % 16) || ltb 2 (pixel / 16)) ≡ not (among pixel depth_bytes) =
      alike (λ n. ltb 2 (n % 16) || ltb 2 (n / 16)) (λ n. not (among n depth_bytes)) refl pixel (h 5) in
      let e : edition_outside v ≡ not (among edition (edition_bytes ++ bits_under_d)) =
      alike (λ n. ltb 1 (n % 4) || (ltb 1 (n / 4 % 4) || ltb 0 (n / 64))) (λ n. not (among n (edition_bytes ++ bits_under_d))) refl edition (h 6) in
      in_order (ltb 1 link) (ltb 2 (pixel % 16)) (ltb 2 encoding) (ltb 1 range) (ltb 2 (pixel / 16)) (edition_outside v)
      ∙ rw (a, b, c, d, e)
      (five_bytes (among encoding (0 ∷ 1 ∷ 2 ∷ [])) (among link (0 ∷ 1 ∷ [])) (among range (0 ∷ 1 ∷ [])) (among pixel depth_bytes)
      (among edition (edition_bytes ++ bits_under_d)))

sound_inside : (sound : List ℕ) → among (length sound) (0 ∷ 3 ∷ []) ≡ true → Bytes sound
    → sound_outside (sound_of sound) ≡ not (in_theirs sound_bytes sound)
sound_inside [] t h = refl
sound_inside (r ∷ []) t h = absurd (false≢true t)
sound_inside (r ∷ c ∷ []) t h = absurd (false≢true t)
sound_inside (r ∷ c ∷ k ∷ []) t h =
    let x : ltb 6 r ≡ not (among r (0 ∷ 1 ∷ 2 ∷ 3 ∷ 4 ∷ 5 ∷ 6 ∷ [])) =
    alike (ltb 6) (λ n. not (among n (0 ∷ 1 ∷ 2 ∷ 3 ∷ 4 ∷ 5 ∷ 6 ∷ []))) refl r (h 0) in
    let y : (not (eqb c 2) && not (eqb c 8)) ≡ not (among c (2 ∷ 8 ∷ [])) =
    alike (λ n. not (eqb n 2) && not (eqb n 8)) (λ n. not (among n (2 ∷ 8 ∷ []))) refl c (h 1) in
    let z : ltb 1 k ≡ not (among k (0 ∷ 1 ∷ [])) = alike (ltb 1) (λ n. not (among n (0 ∷ 1 ∷ []))) refl k (h 2) in
    rw (x, y, z) (three_bytes (among r (0 ∷ 1 ∷ 2 ∷ 3 ∷ 4 ∷ 5 ∷ 6 ∷ [])) (among c (2 ∷ 8 ∷ [])) (among k (0 ∷ 1 ∷ [])))
sound_inside (r ∷ c ∷ k ∷ x ∷ more) t h =
    let n : ℕ = length (r ∷ c ∷ k ∷ x ∷ more) in
    absurd (false≢true (rw (ne_eqb n 0 (omega arith), ne_eqb n 3 (omega arith)) at t))

on_where : (sound : List ℕ) → is_on (sound_of sound) ≡ not (eqb (length sound) 0)
on_where sound = go (eqb (length sound) 0)
  where
    go : (b : Bool) → is_on (cond b Off (On (get_or sound 0 0) (get_or sound 1 0) (get_or sound 2 0))) ≡ not b
    go true = refl
    go false = refl

-- the high byte decides
by_high : (high low : ℕ) → high < 256 → low < 256 → within (high * 256 + low) ≡ among high high_bytes
by_high high low h l = rw (least, most) (alike (λ n. ltb n 16 || leb 240 n) (λ n. among n high_bytes) refl high h)
  where
    least : ltb (high * 256 + low) 4096 ≡ ltb high 16
    least = go (ltb high 16) refl
      where
        go : (b : Bool) → ltb high 16 ≡ b → ltb (high * 256 + low) 4096 ≡ b
        go true e = let k = ltb-true high 16 e in lt-ltb (high * 256 + low) 4096 (omega arith)
        go false e = let k = ltb-false high 16 e in le-ltb (high * 256 + low) 4096 (omega arith)

    most : leb 61440 (high * 256 + low) ≡ leb 240 high
    most = go (leb 240 high) refl
      where
        go : (b : Bool) → leb 240 high ≡ b → leb 61440 (high * 256 + low) ≡ b
        go true e = let k = leb-true 240 high e in le-leb 61440 (high * 256 + low) (omega arith)
        go false e = let k = leb-false 240 high e in lt-leb 61440 (high * 256 + low) (omega arith)

high_inside_lem : (l : List ℕ) → Bytes l → in_range l ≡ high_inside l
unfolding in_range
high_inside_lem [] h = refl
high_inside_lem (high ∷ []) h = refl
high_inside_lem (high ∷ low ∷ more) h = rw (by_high high low (h 0) (h 1), high_inside_lem more (λ i. h (suc (suc i))))

matrix_inside_lem : (m : List ℕ) → among (length m) (0 ∷ 25 ∷ []) ≡ true → Bytes m → (present m && not (is_allowed m)) ≡ not (matrix_inside m)
unfolding is_allowed
matrix_inside_lem [] t h = refl
matrix_inside_lem (mode ∷ more) t h =
    let l : eqb (length (mode ∷ more)) 0 ≡ false = ne_eqb (length (mode ∷ more)) 0 (omega arith) in
    let k : eqb (length (mode ∷ more)) 25 ≡ true = go (eqb (length (mode ∷ more)) 25) (rw l at t) in
    let x : leb mode 2 ≡ among mode mode_bytes = alike (λ n. leb n 2) (λ n. among n mode_bytes) refl mode (h 0) in
    rw (l, k, x, high_inside_lem more (λ i. h (suc i)))
  where
    go : (b : Bool) → (b || false) ≡ true → b ≡ true
    go true e = refl
    go false e = e

-- ---- 6 and 17

-- encoding, link, range, depth byte, edition byte; and the count of the sound
abbrev apart : List ℕ → List ℕ → Bool
apart five counts =
    let v : Video = video_in (0 ∷ 0 ∷ five) in
    beq ((eqb v.link 0 && not (eqb (get_or counts 0 0) 0)) || video_combined v) (in_none together (five ++ counts))

all_apart : choices video_bytes (λ five. choices ((0 ∷ 3 ∷ []) ∷ []) (apart five)) ≡ true
unfolding video_combined shown_combined
all_apart = refl

-- VIC and depth byte
abbrev fast : ℕ → List ℕ → Bool
fast family two =
    beq (above_limit (tmds (video_in (get_or two 0 0 ∷ family ∷ 0 ∷ 0 ∷ 0 ∷ get_or two 1 0 ∷ 0 ∷ [])))) (not (in_none too_fast two))

all_fast : (choices (vics 0 ∷ depth_bytes ∷ []) (fast 0) && choices (vics 1 ∷ depth_bytes ∷ []) (fast 1)) ≡ true
unfolding tmds mode_of divisor_of euclid
all_fast = refl

-- ---- 20

-- channels, rate, VIC and depth byte
abbrev full : List ℕ → Bool
full four = beq (beyond (get_or four 2 0) (get_or four 3 0 / 16) (On (get_or four 1 0) (get_or four 0 0) 0)) (not (in_none will_not_fit four))

abbrev full_rows : List (List ℕ)
full_rows = (2 ∷ 8 ∷ []) ∷ (0 ∷ 1 ∷ 2 ∷ 3 ∷ 4 ∷ 5 ∷ 6 ∷ []) ∷ vics 0 ∷ depth_bytes ∷ []

all_full : choices full_rows full ≡ true
unfolding highest_of beyond
all_full = refl

-- ---- 9

-- VIC, depth byte, rate, coherent
abbrev paired : ℕ → List ℕ → Bool
paired family four =
    let vic : ℕ = get_or four 0 0 in
    let pixel : ℕ = get_or four 1 0 in
    let rate : ℕ = get_or four 2 0 in
    not (in_none too_fast (vic ∷ pixel ∷ []))
    || eqb (pair_of (video_in (vic ∷ family ∷ 0 ∷ 0 ∷ 0 ∷ pixel ∷ 0 ∷ [])) rate (get_or four 3 0)).refusal
    (cond (eqb (get_or four 3 0) 1 && not (in_none without_pair (vic ∷ family ∷ pixel ∷ rate ∷ []))) 9 0)

abbrev sound_rows : List (List ℕ)
sound_rows = (0 ∷ 1 ∷ 2 ∷ 3 ∷ 4 ∷ 5 ∷ 6 ∷ []) ∷ (0 ∷ 1 ∷ []) ∷ []

all_paired : (choices (vics 0 ∷ depth_bytes ∷ sound_rows) (paired 0) && choices (vics 1 ∷ depth_bytes ∷ sound_rows) (paired 1)) ≡ true
unfolding tmds mode_of divisor_of euclid clock_of reference recommended_of nearest_k nearest_in nearest_of exactly coherent_of pair_of
all_paired = refl

-- ---- all of them

module _ (wiring : List ℕ) (vic family encoding link range pixel edition : ℕ) (sound matrix : List ℕ)
    (hw : Bytes wiring) (h : Bytes (vic ∷ family ∷ encoding ∷ link ∷ range ∷ pixel ∷ edition ∷ [])) (hs : Bytes sound) (hm : Bytes matrix)
    (w : of_wiring wiring) (s : of_sound sound) (m : of_matrix matrix)
  where
    abbrev asked : Video
    asked = video_in (vic ∷ family ∷ encoding ∷ link ∷ range ∷ pixel ∷ edition ∷ [])

    abbrev five : List ℕ
    five = encoding ∷ link ∷ range ∷ pixel ∷ edition ∷ []

    abbrev input : List ℕ
    input = bytes_of wiring vic family encoding link range pixel edition sound matrix

    abbrev asking : List ℕ → Bodies
    asking x = record { wiring = wiring; video = vic ∷ family ∷ five; audio = x; matrix = matrix }

    abbrev b : Bodies
    b = asking sound

    read_judged : read_of input ≡ limited (judged b)
    unfolding read_of walked
    read_judged =
        let bodies : List (List ℕ) = wiring ∷ (vic ∷ family ∷ five) ∷ sound ∷ matrix ∷ [] in
        let f : fits sections bodies ≡ true = rw (w, s, m) in
        ap (λ (w : Walk). limited (checked w)) (((walks sections input).whole bodies []).1 (f, rw (append-nil matrix)))

    abbrev inside : Bool
    inside = inside_to wiring vic family encoding link range pixel edition sound matrix

    not_all : (a b c d : Bool) → (not a || (not b || (not c || not d))) ≡ not (a && (b && (c && d)))
    not_all false b c d = refl
    not_all true false c d = refl
    not_all true true false d = refl
    not_all true true true d = refl

    is_inside : outside b ≡ not inside
    unfolding outside
    is_inside =
        rw ((wired wiring hw w).inside, video_inside vic family encoding link range pixel edition h, sound_inside sound s hs, matrix_inside_lem matrix m hm)
        (not_all (wiring_inside wiring) (in_theirs video_bytes five) (in_theirs sound_bytes sound) (matrix_inside matrix))

    -- of what is inside: the wiring, the video, the sound
    its_wiring : inside ≡ true → wiring_inside wiring ≡ true
    its_wiring i = both_left (wiring_inside wiring) _ i

    its_video : inside ≡ true → in_theirs video_bytes five ≡ true
    its_video i = both_left (in_theirs video_bytes five) _ (both_right (wiring_inside wiring) _ i)

    its_sound : inside ≡ true → in_theirs sound_bytes sound ≡ true
    its_sound i = both_left (in_theirs sound_bytes sound) _ (both_right (in_theirs video_bytes five) _ (both_right (wiring_inside wiring) _ i))

    its_depth : in_theirs video_bytes five ≡ true → among pixel depth_bytes ≡ true
    its_depth i =
        let t = both_right (among range (0 ∷ 1 ∷ [])) _ (both_right (among link (0 ∷ 1 ∷ [])) _ (both_right (among encoding (0 ∷ 1 ∷ 2 ∷ [])) _ i)) in
        both_left (among pixel depth_bytes) _ t

    abbrev alone : Bool
    alone = apart_to wiring vic family encoding link range pixel edition sound matrix

    goes_together : inside ≡ true → combined b ≡ alone
    unfolding combined video_combined shown_combined
    goes_together i =
        let t = chosen video_bytes (λ five. choices ((0 ∷ 3 ∷ []) ∷ []) (apart five)) five refl all_apart (its_video i) in
        let x = wired wiring hw w in
        let e = both_left (among encoding (0 ∷ 1 ∷ 2 ∷ [])) _ (its_video i) in
        ap₂ ◌||◌
        (ap (λ (n : ℕ). converts_in (rgb_in n) (eqb encoding 0) && eqb (length matrix) 0) x.input
        ∙ converts (get_or wiring 0 0) encoding (length matrix) (x.known (its_wiring i)) e m)
        (rw (on_where sound) (beq_true _ _ (chosen ((0 ∷ 3 ∷ []) ∷ []) (apart five) (length sound ∷ []) refl t (rw s))))

    too_fast_lem : (f : ℕ) → family ≡ f → among vic (vics f) ≡ true → among pixel depth_bytes ≡ true
        → above_limit (tmds asked) ≡ not (in_none too_fast (vic ∷ pixel ∷ []))
    unfolding tmds
    too_fast_lem zero e o p =
        rw e (beq_true _ _ (chosen (vics 0 ∷ depth_bytes ∷ []) (fast 0) (vic ∷ pixel ∷ []) refl (both_left _ _ all_fast) (rw (o, p))))
    too_fast_lem (suc zero) e o p =
        rw e (beq_true _ _ (chosen (vics 1 ∷ depth_bytes ∷ []) (fast 1) (vic ∷ pixel ∷ []) refl
        (both_right (choices (vics 0 ∷ depth_bytes ∷ []) (fast 0)) _ all_fast) (rw (o, p))))
    too_fast_lem (suc (suc n)) e o p = absurd (false≢true o)

    its_vic : (f : ℕ) → among vic (vics f) ≡ true → among vic (vics 0) ≡ true
    its_vic zero o = o
    its_vic (suc zero) o = each_of (λ n. among n (vics 0)) (vics 1) vic refl o
    its_vic (suc (suc n)) o = absurd (false≢true o)

    too_much_there : (x : List ℕ) → among (length x) (0 ∷ 3 ∷ []) ≡ true → in_theirs sound_bytes x ≡ true → among vic (vics family) ≡ true
        → among pixel depth_bytes ≡ true → beyond vic (pixel / 16) (sound_of x) ≡ not (in_none will_not_fit (get_or x 1 0 ∷ get_or x 0 0 ∷ vic ∷ pixel ∷ []))
    unfolding beyond
    too_much_there [] t i o p = refl
    too_much_there (r ∷ []) t i o p = absurd (false≢true t)
    too_much_there (r ∷ c ∷ []) t i o p = absurd (false≢true t)
    too_much_there (r ∷ c ∷ k ∷ []) t i o p =
        let rate = both_left (among r (0 ∷ 1 ∷ 2 ∷ 3 ∷ 4 ∷ 5 ∷ 6 ∷ [])) _ i in
        let channels = both_left (among c (2 ∷ 8 ∷ [])) _ (both_right (among r (0 ∷ 1 ∷ 2 ∷ 3 ∷ 4 ∷ 5 ∷ 6 ∷ [])) _ i) in
        beq_true _ _ (chosen full_rows full (c ∷ r ∷ vic ∷ pixel ∷ []) refl all_full (rw (channels, rate, its_vic family o, p)))
    too_much_there (r ∷ c ∷ k ∷ x ∷ more) t i o p =
        let n : ℕ = length (r ∷ c ∷ k ∷ x ∷ more) in
        absurd (false≢true (rw (ne_eqb n 0 (omega arith), ne_eqb n 3 (omega arith)) at t))

    abbrev full_up : Bool
    full_up = not (in_none will_not_fit (get_or sound 1 0 ∷ get_or sound 0 0 ∷ vic ∷ pixel ∷ []))

    -- past 4 and 5: 6 by what goes together, and else 17 by the clock and 20 by the room
    last_two : among vic (vics family) ≡ true → inside ≡ true → (c : Bool) → combined b ≡ c
        → (limited (judged b)).refusal ≡ cond c 6 (cond (not (in_none too_fast (vic ∷ pixel ∷ []))) 17 (cond full_up 20 0))
    unfolding judged
    last_two o i true k = rw (offers vic family (h 0) ∙ o, is_inside ∙ ap not i, k)
    last_two o i false k =
        let z : (judged b).refusal ≡ 0 = rw (offers vic family (h 0) ∙ o, is_inside ∙ ap not i, k) in
        let v = its_video i in
        let l : eqb (clock_of asked).refusal 17 ≡ not (in_none too_fast (vic ∷ pixel ∷ [])) = limit_there b z ∙ too_fast_lem family refl o (its_depth v) in
        let n : beyond vic (pixel / 16) (sound_of sound) ≡ full_up =
        too_much_there sound s (its_sound i) o (its_depth v) in
        rw (offers vic family (h 0) ∙ o, is_inside ∙ ap not i, k) (ap₂ (λ (t u : Bool). cond t 17 (cond u 20 0)) l n)

    read : (read_of input).refusal ≡ answer_to wiring vic family encoding link range pixel edition sound matrix
    unfolding judged
    read = ap (λ (c : Checked). c.refusal) read_judged ∙ go (among vic (vics family)) refl inside refl
      where
        go : (a : Bool) → among vic (vics family) ≡ a → (i : Bool) → inside ≡ i → (limited (judged b)).refusal
            ≡ cond (not a) 4 (cond (not i) 5
            (cond alone 6 (cond (not (in_none too_fast (vic ∷ pixel ∷ []))) 17 (cond full_up 20 0))))
        go false o i e = rw (offers vic family (h 0) ∙ o)
        go true o false e = rw (offers vic family (h 0) ∙ o, is_inside ∙ ap not e)
        go true o true e = last_two o e alone (goes_together e)

    -- none is given: the VIC, every byte, and the clock
    none : (a b c d e : Bool) → ◌≡◌ {A = ℕ} (cond (not a) 4 (cond (not b) 5 (cond c 6 (cond d 17 (cond e 20 0))))) 0 → (a ≡ true) × (b ≡ true) × (d ≡ false)
    none false b c d e z = absurd (omega arith)
    none true false c d e z = absurd (omega arith)
    none true true true d e z = absurd (omega arith)
    none true true false true e z = absurd (omega arith)
    none true true false false true z = absurd (omega arith)
    none true true false false false z = (refl, refl, refl)

    module _ (z : answer_to wiring vic family encoding link range pixel edition sound matrix ≡ 0) where
      abbrev permitted : (among vic (vics family) ≡ true) × (inside ≡ true) × (not (in_none too_fast (vic ∷ pixel ∷ [])) ≡ false)
      permitted =
          none (among vic (vics family)) inside alone (not (in_none too_fast (vic ∷ pixel ∷ []))) full_up z

      request : (read_of input).request ≡ request_in b
      request =
          ap (λ (c : Checked). c.request) read_judged
          ∙ (accepted b (ap (λ (c : Checked). c.refusal) (sym read_judged) ∙ read ∙ z)).request

      abbrev number_for : ℕ → ℕ → ℕ
      number_for rate coherent = cond (eqb coherent 1 && not (in_none without_pair (vic ∷ family ∷ pixel ∷ rate ∷ []))) 9 0

      second : (a b : Bool) → a ≡ false → (a || b) ≡ true → b ≡ true
      second true b e t = absurd (false≢true (sym e))
      second false b e t = t

      pair_of_lem : (f rate coherent : ℕ) → family ≡ f → in_theirs (vics f ∷ depth_bytes ∷ sound_rows) (vic ∷ pixel ∷ rate ∷ coherent ∷ []) ≡ true
          → (pair_of asked rate coherent).refusal ≡ number_for rate coherent
      unfolding pair_of clock_of tmds
      pair_of_lem zero rate coherent e i =
          let t = chosen (vics 0 ∷ depth_bytes ∷ sound_rows) (paired 0) (vic ∷ pixel ∷ rate ∷ coherent ∷ []) refl (both_left _ _ all_paired) i in
          rw e (eqb-true (pair_of (video_in (vic ∷ 0 ∷ 0 ∷ 0 ∷ 0 ∷ pixel ∷ 0 ∷ [])) rate coherent).refusal _
          (second (not (in_none too_fast (vic ∷ pixel ∷ []))) _ permitted.2 t))
      pair_of_lem (suc zero) rate coherent e i =
          let t = chosen (vics 1 ∷ depth_bytes ∷ sound_rows) (paired 1) (vic ∷ pixel ∷ rate ∷ coherent ∷ []) refl
          (both_right (choices (vics 0 ∷ depth_bytes ∷ sound_rows) (paired 0)) _ all_paired) i in
          rw e (eqb-true (pair_of (video_in (vic ∷ 1 ∷ 0 ∷ 0 ∷ 0 ∷ pixel ∷ 0 ∷ [])) rate coherent).refusal _
          (second (not (in_none too_fast (vic ∷ pixel ∷ []))) _ permitted.2 t))
      pair_of_lem (suc (suc n)) rate coherent e i = absurd (false≢true i)

      sound_pair : (x : List ℕ) → among (length x) (0 ∷ 3 ∷ []) ≡ true → in_theirs sound_bytes x ≡ true
          → (pair_for (request_in (asking x))).refusal ≡ number_for (get_or x 0 0) (get_or x 2 0)
      unfolding pair_for
      sound_pair [] t i = refl
      sound_pair (r ∷ []) t i = absurd (false≢true t)
      sound_pair (r ∷ c ∷ []) t i = absurd (false≢true t)
      sound_pair (r ∷ c ∷ k ∷ []) t i =
          let d : among pixel depth_bytes ≡ true = its_depth (its_video permitted.1) in
          let more = both_right (among r (0 ∷ 1 ∷ 2 ∷ 3 ∷ 4 ∷ 5 ∷ 6 ∷ [])) _ i in
          pair_of_lem family r k refl
          (rw (permitted.0, d, both_left (among r (0 ∷ 1 ∷ 2 ∷ 3 ∷ 4 ∷ 5 ∷ 6 ∷ [])) _ i, both_left (among k (0 ∷ 1 ∷ [])) _ (both_right (among c (2 ∷ 8 ∷ [])) _ more)))
      sound_pair (r ∷ c ∷ k ∷ x ∷ more) t i =
          let n : ℕ = length (r ∷ c ∷ k ∷ x ∷ more) in
          absurd (false≢true (rw (ne_eqb n 0 (omega arith), ne_eqb n 3 (omega arith)) at t))

      pair : (ncts_of input).refusal ≡ pair_to wiring vic family encoding link range pixel edition sound matrix
      unfolding ncts_of
      pair = rw (read ∙ z, request) (sound_pair sound s (its_sound permitted.1))

    answers : Answers wiring vic family encoding link range pixel edition sound matrix
    answers =
        record {
          read = read;
          pair = pair;
          board = λ z e. ap (λ (r : Request). r.wiring) (request z) ∙ rw (eq-eqb (length wiring) 0 e);
          four = λ z e. ap (λ (r : Request). r.wiring) (request z) ∙ rw (ne_eqb (length wiring) 0 (omega arith), ne_eqb (length wiring) 12 (omega arith));
          twelve = λ z e. ap (λ (r : Request). r.wiring) (request z) ∙ rw (ne_eqb (length wiring) 0 (omega arith), eq-eqb (length wiring) 12 e);
          video = λ z. ap (λ (r : Request). r.video) (request z);
          silent = λ z e. ap (λ (r : Request). r.sound) (request z) ∙ rw (eq-eqb (length sound) 0 e);
          sounding = λ z e. ap (λ (r : Request). r.sound) (request z) ∙ rw (ne_eqb (length sound) 0 (omega arith));
        }

-- ---- the counts

module _ (bodies : List (List ℕ)) (n : ℕ) (rest : List ℕ) where
  not_counted : length bodies < 4 → fits (take (length bodies) sections) bodies ≡ true → among n (get_or sections (length bodies) []) ≡ false
      → (read_of (laid bodies (n ∷ rest))).refusal ≡ 2
  unfolding read_of walked
  not_counted l f a =
      ap (λ (w : Walk). (limited (checked w)).refusal) ((walks sections (laid bodies (n ∷ rest))).not_allowed.1
      (record { begun = record { bodies = bodies; left = n ∷ rest; some = l; fitting = f; made = refl }; present = omega arith; refused = a }))

-- ---- an input that ends early, or goes on

module _ (bodies : List (List ℕ)) (left : List ℕ) where
  ended : length bodies < 4 → fits (take (length bodies) sections) bodies ≡ true
      → (length left ≡ 0) ⊎ ((among (get_or left 0 0) (get_or sections (length bodies) []) ≡ true) × (length left ≤ get_or left 0 0))
      → (read_of (laid bodies left)).refusal ≡ 1
  unfolding read_of walked
  ended l f e =
      ap (λ (w : Walk). (limited (checked w)).refusal) ((walks sections (laid bodies left)).ends.1
      (record { begun = record { bodies = bodies; left = left; some = l; fitting = f; made = refl }; there = e }))

  goes_on_lem : fits sections bodies ≡ true → length left ≢ 0 → (read_of (laid bodies left)).refusal ≡ 3
  unfolding read_of walked
  goes_on_lem f e = ap (λ (w : Walk). (limited (checked w)).refusal) (((walks sections (laid bodies left)).whole bodies left).1 (f, refl)) ∙ rw (ne_eqb (length left) 0 e)

-- 4 and 12 are among the counts of a wiring
allows_it : (n : ℕ) → among n (4 ∷ 12 ∷ []) ≡ true → among n (0 ∷ 4 ∷ 12 ∷ []) ≡ true
allows_it n a = go (eqb n 0)
  where
    go : (b : Bool) → (b || among n (4 ∷ 12 ∷ [])) ≡ true
    go true = refl
    go false = a

pub each_byte : EachByte
each_byte =
    record {
      bytes = answers;
      wiring_count = λ n rest a. not_counted [] n rest (omega arith) refl a;
      video_count = λ wiring n rest w h. not_counted (wiring ∷ []) n rest (omega arith) (rw w) (rw (ne_eqb n 7 h));
      sound_count = λ wiring video n rest w v a. not_counted (wiring ∷ video ∷ []) n rest (omega arith) (rw (w, v)) a;
      matrix_count = λ wiring video sound n rest w v s a. not_counted (wiring ∷ video ∷ sound ∷ []) n rest (omega arith) (rw (w, v, s)) a;
      no_wiring = ended [] [] (omega arith) refl (inl refl);
      in_wiring = λ n rest a h. ended [] (n ∷ rest) (omega arith) refl (inr (allows_it n a, omega arith));
      no_video = λ wiring w. ended (wiring ∷ []) [] (omega arith) (rw w) (inl refl);
      in_video = λ wiring rest w h. ended (wiring ∷ []) (7 ∷ rest) (omega arith) (rw w) (inr (refl, omega arith));
      no_sound = λ wiring video w v. ended (wiring ∷ video ∷ []) [] (omega arith) (rw (w, v)) (inl refl);
      in_sound = λ wiring video rest w v h. ended (wiring ∷ video ∷ []) (3 ∷ rest) (omega arith) (rw (w, v)) (inr (refl, omega arith));
      no_matrix = λ wiring video sound w v s. ended (wiring ∷ video ∷ sound ∷ []) [] (omega arith) (rw (w, v, s)) (inl refl);
      in_matrix = λ wiring video sound rest w v s h.
          ended (wiring ∷ video ∷ sound ∷ []) (25 ∷ rest) (omega arith) (rw (w, v, s)) (inr (refl, omega arith));
      after = λ wiring video sound matrix byte rest w v s m.
          goes_on_lem (wiring ∷ video ∷ sound ∷ matrix ∷ []) (byte ∷ rest) (rw (w, v, s, m)) (λ e. omega arith);
    }
