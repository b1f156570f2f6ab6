-- The loop over the table of sections: what it has found after some turns, and what each way out of a turn says. Assumes nothing.
use mathlib.Core.Path.{◌≡◌, refl, sym, ap, ◌∙◌}
use mathlib.Core.Bool.{true, false}
use mathlib.Core.List.{List, [], ◌∷◌, ◌++◌}
use Prim.Native.Nat.{ℕ, suc, ◌+◌, ◌-◌, ◌≤◌, ◌<◌}
use native.Mathlib.Numerals.{add-one}
use native.Mathlib.Omega.{arith}
use lib.ListN.{length, take, drop, get_or, set, length-append, length-drop, drop_of_length-le}
use lib.Seq.{drop-cons, drop-drop, length-take-le, take_all, take-suc-set}
use borrow.Author.Tests.{le-leb}
use Rattle.lists.specs.Among.{among}
use Rattle.request.specs.Sections.{ends, not_allowed, whole, after, walk, walked, sections}
use Rattle.request.specs.Places.{ends_from, places_of}
use Rattle.request.proofs.Walks.{joined, joined_ends, joined_refused, joined_whole, joined_more, none_left, cut_short, not_counted}
use Rattle.request.proofs.Counted.{span}

-- an end more
ends_more : (at : ℕ) (bodies : List (List ℕ)) (b : List ℕ) → ends_from at (bodies ++ (b ∷ [])) ≡ ends_from at bodies ++ ((at + span bodies + suc (length b)) ∷ [])
ends_more at [] b = let e : at + 0 + suc (length b) ≡ at + suc (length b) = omega arith in rw e
ends_more at (x ∷ bs) b =
    let e : at + (suc (length x) + span bs) + suc (length b) ≡ at + suc (length x) + span bs + suc (length b) = omega arith in
    rw (ends_more (at + suc (length x)) bs b, e)

span_more : (bodies : List (List ℕ)) (b : List ℕ) → span (bodies ++ (b ∷ [])) ≡ span bodies + suc (length b)
span_more [] b = omega arith
span_more (x ∷ bs) b = omega (arith, span_more bs b)

-- after k turns: the bodies of the first k sections, their ends, and the walk that is left
pub record Turned (s ends : List ℕ) (place k : ℕ) : Type 0 where
  pub bodies : List (List ℕ)
  pub counted : length bodies ≡ k
  pub placed : place ≡ span bodies
  pub stored : take k ends ≡ ends_from 0 bodies
  pub walks : walked s ≡ joined bodies (walk (drop k sections) (drop place s))

pub begin : (s found : List ℕ) → Turned s found 0 0
unfolding walked
begin s found = record { bodies = []; counted = refl; placed = refl; stored = refl; walks = refl }

module _ (s found : List ℕ) (place k : ℕ) (t : Turned s found place k) (h : k < length sections) where
  counts : List ℕ
  counts = get_or sections k []

  more : List (List ℕ)
  more = drop (suc k) sections

  from_here : walked s ≡ joined t.bodies (walk (counts ∷ more) (drop place s))
  unfolding counts more
  from_here = t.walks ∙ ap (λ (l : List (List ℕ)). joined t.bodies (walk l (drop place s))) (drop-cons sections k [] h)

  pub out_of_bytes : length s ≤ place → walked s ≡ ends
  out_of_bytes l = from_here ∙ rw (drop_of_length-le s l, none_left counts more) (joined_ends t.bodies)

  module _ (l : place < length s) where
    at_count : walked s ≡ joined t.bodies (walk (counts ∷ more) (get_or s place 0 ∷ drop (suc place) s))
    at_count = from_here ∙ rw (drop-cons s place 0 l)

    pub refused : among (get_or s place 0) (get_or sections k []) ≡ false → walked s ≡ not_allowed
    unfolding counts
    refused a = at_count ∙ rw (not_counted counts more (get_or s place 0) (drop (suc place) s) a) (joined_refused t.bodies)

    module _ (a : among (get_or s place 0) (get_or sections k []) ≡ true) where
      pub too_short : length s - (place + 1) < get_or s place 0 → walked s ≡ ends
      unfolding counts
      too_short b =
          let c : length (drop (suc place) s) < get_or s place 0 = simp length-drop (omega arith) in
          at_count ∙ rw (cut_short counts more (get_or s place 0) (drop (suc place) s) a c) (joined_ends t.bodies)

      module _ (b : get_or s place 0 ≤ length s - (place + 1)) (room : k < length found) where
        body : List ℕ
        body = take (get_or s place 0) (drop (suc place) s)

        sized : length body ≡ get_or s place 0
        unfolding body
        sized = length-take-le (get_or s place 0) (drop (suc place) s) (simp length-drop (omega arith))

        went_on : walk (counts ∷ more) (get_or s place 0 ∷ drop (suc place) s) ≡ after body (walk more (drop (place + 1 + get_or s place 0) s))
        unfolding walk counts body
        went_on =
            let c : get_or s place 0 ≤ length (drop (suc place) s) = simp length-drop (omega arith) in
            rw (a, le-leb _ _ c, drop-drop, add-one)

        pub turn : Turned s (set found k (place + 1 + get_or s place 0)) (place + 1 + get_or s place 0) (k + 1)
        unfolding more
        turn =
            let e : 0 + span t.bodies + suc (length body) ≡ place + 1 + get_or s place 0 = omega (arith, sized, t.placed) in
            record {
              bodies = t.bodies ++ (body ∷ []);
              counted = simp length-append (omega (arith, t.counted));
              placed = omega (arith, sized, t.placed, span_more t.bodies body);
              stored = rw (add-one, take-suc-set found k (place + 1 + get_or s place 0) room, t.stored, ends_more 0 t.bodies body, e);
              walks = at_count ∙ rw (went_on, add-one k, joined_more t.bodies body);
            }

module _ (s found : List ℕ) (place k : ℕ) (t : Turned s found place k) (e : k ≡ length sections) (l : length found ≡ length sections) where
  all_found : walked s ≡ whole t.bodies (drop place s)
  unfolding walk
  all_found = t.walks ∙ rw e (joined_whole t.bodies (drop place s))

  pub last : record { refusal = 0; ends = found } ≡ places_of (walked s)
  last =
      let f : found ≡ ends_from 0 t.bodies = sym (take_all k found (omega arith)) ∙ t.stored in
      rw (all_found, f)
