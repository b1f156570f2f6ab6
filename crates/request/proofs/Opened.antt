-- What the code's walk says of a request: its bodies by their places in the input. Assumes nothing.
--     sectioned    document 01's sentence, of the sections of a request
--     there        the body of each section at its place, where none is refused
--     asked         what is asked, by the code's walk
use mathlib.Core.Path.{◌≡◌, refl, sym, ap, subst, ◌∙◌}
use mathlib.Core.Logic.{◌⊎◌, inl, inr}
use mathlib.Core.Bool.{Bool, true, false, cond, ◌&&◌, ◌||◌, or-false}
use mathlib.Core.List.{List, [], ◌∷◌}
use Prim.Native.Nat.{ℕ, suc, ◌+◌, ◌-◌, ◌≤◌, ◌<◌}
use native.Mathlib.Omega.{arith}
use lib.Dec.{eqb}
use lib.ListN.{length, take, drop, get_or}
use borrow.Author.Tests.{eqb-true, eqb-false, eq-eqb}
use Rattle.lists.specs.Among.{among}
use Rattle.lists.proofs.Both.{both_left, both_right}
use Rattle.wiring.specs.Kinds.{four_count, twelve_count}
use Rattle.video.specs.Video.{video_count}
use Rattle.sound.specs.Sound.{audio_count}
use Rattle.request.specs.Numbered.{BodyEnds}
use Rattle.request.specs.Sections.{Bodies, in_turn, by_name, bodies_in, Walk, ends, not_allowed, whole, walked, sections, matrix_count}
use Rattle.request.specs.Bytes.{laid}
use Rattle.request.specs.Walks.{fits, Sectioned, RequestWalks}
use Rattle.request.specs.Places.{ends_from, places_of, EndsAt}
use Rattle.request.specs.Numbered.{emptied}
use Rattle.request.specs.Read.{judged, checked, ask_of}
use Rattle.request.proofs.Walks.{as_many, walks}
use Rattle.request.proofs.Counted.{span, Counted, counted}
use Rattle.request.proofs.Kth.{in_bounds, kth}

-- one of some counts
one_of : (n a : ℕ) → among n (a ∷ []) ≡ true → n ≡ a
one_of n a t = eqb-true n a (sym (or-false (eqb n a)) ∙ t)

either_of : (n a b : ℕ) → among n (a ∷ b ∷ []) ≡ true → (n ≡ a) ⊎ (n ≡ b)
either_of n a b t = go (eqb n a) refl t
  where
    go : (x : Bool) → eqb n a ≡ x → (x || among n (b ∷ [])) ≡ true → (n ≡ a) ⊎ (n ≡ b)
    go true e t = inl (eqb-true n a e)
    go false e t = inr (one_of n b t)

among_two : (n a b : ℕ) → (n ≡ a) ⊎ (n ≡ b) → among n (a ∷ b ∷ []) ≡ true
among_two n a b (inl e) = rw (eq-eqb n a e)
among_two n a b (inr e) = go (eqb n a)
  where
    go : (x : Bool) → (x || among n (b ∷ [])) ≡ true
    go true = refl
    go false = rw (eq-eqb n b e)

one_of_three : (n a b c : ℕ) → among n (a ∷ b ∷ c ∷ []) ≡ true → (n ≡ a) ⊎ (n ≡ b) ⊎ (n ≡ c)
one_of_three n a b c t = go (eqb n a) refl t
  where
    go : (x : Bool) → eqb n a ≡ x → (x || among n (b ∷ c ∷ [])) ≡ true → (n ≡ a) ⊎ (n ≡ b) ⊎ (n ≡ c)
    go true e t = inl (eqb-true n a e)
    go false e t = inr (either_of n b c t)

among_three : (n a b c : ℕ) → (n ≡ a) ⊎ (n ≡ b) ⊎ (n ≡ c) → among n (a ∷ b ∷ c ∷ []) ≡ true
among_three n a b c (inl e) = rw (eq-eqb n a e)
among_three n a b c (inr t) = go (eqb n a)
  where
    go : (x : Bool) → (x || among n (b ∷ c ∷ [])) ≡ true
    go true = refl
    go false = among_two n b c t

module _ (input : List ℕ) (b : Bodies) (rest : List ℕ) where
  apart : fits sections (in_turn b) ≡ true → input ≡ laid (in_turn b) rest → Sectioned input b rest
  apart f e =
      let w : Bool = among (length b.wiring) (0 ∷ four_count ∷ twelve_count ∷ []) in
      let v : Bool = among (length b.video) (video_count ∷ []) in
      let a : Bool = among (length b.audio) (0 ∷ audio_count ∷ []) in
      let m : Bool = among (length b.matrix) (0 ∷ matrix_count ∷ []) in
      let d : (v && (a && (m && true))) ≡ true = both_right w _ f in
      let g : (a && (m && true)) ≡ true = both_right v _ d in
      let h : (m && true) ≡ true = both_right a _ g in
      record {
        wiring_counted = one_of_three (length b.wiring) 0 four_count twelve_count (both_left w _ f);
        video_counted = one_of (length b.video) video_count (both_left v _ d);
        audio_counted = either_of (length b.audio) 0 audio_count (both_left a _ g);
        matrix_counted = either_of (length b.matrix) 0 matrix_count (both_left m _ h);
        made = e;
      }

  together : Sectioned input b rest → fits sections (in_turn b) ≡ true
  together s =
      rw (
        among_three (length b.wiring) 0 four_count twelve_count s.wiring_counted,
        eq-eqb (length b.video) video_count s.video_counted,
        among_two (length b.audio) 0 audio_count s.audio_counted,
        among_two (length b.matrix) 0 matrix_count s.matrix_counted,
      )

  pub sectioned : walked input ≡ whole (in_turn b) rest → Sectioned input b rest
  unfolding walked
  sectioned e = let w = ((walks sections input).whole (in_turn b) rest).0 e in apart w.0 w.1

  found_whole : Sectioned input b rest → walked input ≡ whole (in_turn b) rest
  unfolding walked
  found_whole s = ((walks sections input).whole (in_turn b) rest).1 (together s, s.made)

-- a body for each section
each_named : (bodies : List (List ℕ)) → length bodies ≡ length sections → in_turn (by_name bodies) ≡ bodies
each_named [] l = absurd (omega arith)
each_named (w ∷ []) l = absurd (omega arith)
each_named (w ∷ v ∷ []) l = absurd (omega arith)
each_named (w ∷ v ∷ a ∷ []) l = absurd (omega arith)
each_named (w ∷ v ∷ a ∷ m ∷ []) l = refl
each_named (w ∷ v ∷ a ∷ m ∷ x ∷ more) l = absurd (omega arith)

pub request_walks : (input : List ℕ) → RequestWalks input
unfolding walked
request_walks input =
    record {
      each = λ bodies rest e. each_named bodies (as_many sections bodies (((walks sections input).whole bodies rest).0 e).0);
      whole = λ b rest. (sectioned input b rest, found_whole input b rest);
    }

-- where a walk found all sections, the body of section k: after its count, which stands where the body before it ends
pub record There (s found : List ℕ) (k : ℕ) : Type 0 where
  pub before : get_or (0 ∷ found) k 0 < get_or found k 0
  pub within : get_or found k 0 ≤ length s
  pub body : take (get_or found k 0 - suc (get_or (0 ∷ found) k 0)) (drop (suc (get_or (0 ∷ found) k 0)) s) ≡ get_or (in_turn (bodies_in (walked s))) k []

module _ (s found : List ℕ) (e : EndsAt s found) where
  pub there : (k : ℕ) → k < length sections → There s found k
  unfolding walked
  there k h = go (walked s) refl e
    where
      go : (w : Walk) → walked s ≡ w → record { refusal = 0; ends = found } ≡ places_of w → There s found k
      go ends f q = absurd (omega (arith, ap (λ (x : BodyEnds). x.refusal) q))
      go not_allowed f q = absurd (omega (arith, ap (λ (x : BodyEnds). x.refusal) q))
      go (whole bodies rest) f q =
          let w = ((walks sections s).whole bodies rest).0 f in
          let n : length bodies ≡ length sections = as_many sections bodies w.0 in
          let p : found ≡ ends_from 0 bodies = ap (λ (x : BodyEnds). x.ends) q in
          let i = in_bounds 0 bodies rest k (omega arith) in
          let b : take (get_or found k 0 - suc (get_or (0 ∷ found) k 0)) (drop (suc (get_or (0 ∷ found) k 0)) s) ≡ get_or bodies k [] = rw (p, w.1) (kth [] bodies rest k (omega arith)) in
          record {
            before = rw p i.0;
            within = rw (p, w.1) (omega (arith, i.1));
            body = b ∙ ap (λ (l : List (List ℕ)). get_or l k []) (sym (each_named bodies n)) ∙ ap (λ (w : Walk). get_or (in_turn (bodies_in w)) k []) (sym f);
          }

  -- and the bytes after them: with none, what is asked is what the bodies say
  pub asked : ask_of s ≡ cond (eqb (get_or found 3 0) (length s)) (judged (bodies_in (walked s))) (emptied 3)
  unfolding walked
  asked = go (walked s) refl e
    where
      go : (w : Walk) → walked s ≡ w → record { refusal = 0; ends = found } ≡ places_of w
          → checked w ≡ cond (eqb (get_or found 3 0) (length s)) (judged (bodies_in w)) (emptied 3)
      go ends f q = absurd (omega (arith, ap (λ (x : BodyEnds). x.refusal) q))
      go not_allowed f q = absurd (omega (arith, ap (λ (x : BodyEnds). x.refusal) q))
      go (whole bodies rest) f q =
          let c : length s ≡ span bodies + length rest = (subst (Counted sections (length s)) f (counted sections s)).0 in
          let n : length bodies ≡ length sections = as_many sections bodies (((walks sections s).whole bodies rest).0 f).0 in
          let p : found ≡ ends_from 0 bodies = ap (λ (x : BodyEnds). x.ends) q in
          let l : get_or found 3 0 ≡ span bodies = ap (λ (l : List ℕ). get_or l 3 0) p ∙ last bodies n in
          by (eqb (length rest) 0) refl (eqb (get_or found 3 0) (length s)) refl l c
        where
          last : (bodies : List (List ℕ)) → length bodies ≡ length sections → get_or (ends_from 0 bodies) 3 0 ≡ span bodies
          last [] n = absurd (omega arith)
          last (w ∷ []) n = absurd (omega arith)
          last (w ∷ v ∷ []) n = absurd (omega arith)
          last (w ∷ v ∷ a ∷ []) n = absurd (omega arith)
          last (w ∷ v ∷ a ∷ m ∷ []) n = omega arith
          last (w ∷ v ∷ a ∷ m ∷ x ∷ more) n = absurd (omega arith)

          by : (a : Bool) → eqb (length rest) 0 ≡ a → (b : Bool) → eqb (get_or found 3 0) (length s) ≡ b → get_or found 3 0 ≡ span bodies
              → length s ≡ span bodies + length rest → checked (whole bodies rest) ≡ cond b (judged (by_name bodies)) (emptied 3)
          by true x true y l c = rw x
          by true x false y l c = absurd (eqb-false (get_or found 3 0) (length s) y (omega (arith, eqb-true (length rest) 0 x)))
          by false x true y l c = absurd (eqb-false (length rest) 0 x (omega (arith, eqb-true (get_or found 3 0) (length s) y)))
          by false x false y l c = rw x
