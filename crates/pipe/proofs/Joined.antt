-- Bytes put behind one another, and what a pipe's own test says. Assumes nothing.
use mathlib.Core.Path.{◌≡◌, refl, sym, ap, ◌∙◌}
use mathlib.Core.Logic.{◌≢◌, ◌⊎◌, inl, inr}
use mathlib.Core.Bool.{Bool, true, false, ◌&&◌}
use mathlib.Core.List.{List, [], ◌++◌, append-nil, append_assoc}
use Prim.Native.Nat.{ℕ, suc, ◌+◌, ◌-◌, ◌≤◌, min}
use native.Mathlib.Omega.{arith}
use lib.Dec.{eqb, leb, ltb}
use lib.ListN.{length, take, drop, length-append, length-drop, drop_of_length-le}
use borrow.Rule.Slice.PartMut.{put_mid, mid_of, post_of}
use lib.Seq.{paste, take-paste, take-append-add, take-append-le, take_all, length-take-le, drop-drop}
use borrow.Author.Tests.{eqb-true, leb-true, ltb-true, ltb-false, eq-eqb, ne_eqb, le-leb}
use Rattle.lists.specs.Over.{over}
use Rattle.lists.proofs.Both.{both_left, both_right}
use Rattle.lists.proofs.Copied.{over_shorter, over_front}
use Rattle.request.specs.Sections.{longest}
use Rattle.pipe.specs.Bytes.{pipe_length, count_in, answer_in, so_far}
use Rattle.pipe.specs.Found.{is_pipe, is_open}

-- after the last turn: all the bytes, or as many as there is room for
as_many : (room : ℕ) (d : List ℕ) (at : ℕ) (bytes : List ℕ) (i : ℕ) → length d ≡ room → i ≤ length bytes → at + i ≤ room
    → (room - at ≤ i) ⊎ (length bytes ≤ i) → take (at + i) (paste d at bytes i) ≡ take room (take at d ++ bytes)
as_many room d at bytes i l h k e = take-paste d at bytes i (omega arith) h ∙ sym (go e)
  where
    m : length (take at d) ≡ at
    m = length-take-le at d (omega arith)

    go : (room - at ≤ i) ⊎ (length bytes ≤ i) → take room (take at d ++ bytes) ≡ take at d ++ take i bytes
    go (inl f) =
        let q : room ≡ length (take at d) + i = omega (arith, m) in
        ap (λ (n : ℕ). take n (take at d ++ bytes)) q ∙ take-append-add (take at d) bytes i
    go (inr f) =
        rw (take_all i bytes f)
        (take_all room (take at d ++ bytes) (omega (arith, m, length-append (take at d) bytes)))

-- as the code puts them there
pub put_behind : (room at i : ℕ) (d bytes out : List ℕ) → length d ≡ room → at ≤ room → out ≡ over bytes (mid_of at (room - at) d)
    → i ≡ min (length bytes) (room - at) → take (at + i) (put_mid at (room - at) d out) ≡ take room (take at d ++ bytes)
put_behind room at i d bytes out l h e m =
    let k : length (drop at d) ≡ room - at = rw (length-drop at d, l) in
    let f = ap (over bytes) (take_all (room - at) (drop at d) (omega arith)) in
    let o : out ≡ take i bytes ++ drop (at + i) d = e ∙ f ∙ sym (over_shorter bytes (drop at d) i (omega arith)) ∙ rw drop-drop in
    let p : post_of at (room - at) d ≡ [] = drop_of_length-le (drop at d) (omega arith) in
    let q : put_mid at (room - at) d out ≡ paste d at bytes i = rw (o, p, append-nil, append_assoc) in
    rw q (as_many room d at bytes i l (omega arith) (omega arith) (go (ltb (length bytes) (room - at)) refl))
  where
    go : (b : Bool) → ltb (length bytes) (room - at) ≡ b → (room - at ≤ i) ⊎ (length bytes ≤ i)
    go true p = let h = ltb-true _ _ p in inr (omega arith)
    go false p = let h = ltb-false _ _ p in inl (omega arith)

-- what the test of a pipe says
pub of_length : (pipe : List ℕ) → is_pipe pipe ≡ true → length pipe ≡ pipe_length
of_length pipe t = eqb-true (length pipe) pipe_length (both_left (eqb (length pipe) pipe_length) (leb (count_in pipe) longest) t)

pub counted : (pipe : List ℕ) → is_pipe pipe ≡ true → count_in pipe ≤ longest
counted pipe t = leb-true (count_in pipe) longest (both_right (eqb (length pipe) pipe_length) (leb (count_in pipe) longest) t)

pub a_pipe : (pipe : List ℕ) → length pipe ≡ pipe_length → count_in pipe ≤ longest → is_pipe pipe ≡ true
a_pipe pipe l k = rw (eq-eqb (length pipe) pipe_length l, le-leb (count_in pipe) longest k)

-- and that of an open one
pub open_is : (pipe : List ℕ) → is_open pipe ≡ true → (is_pipe pipe ≡ true) × (answer_in pipe ≡ 0)
open_is pipe t = (both_left (is_pipe pipe) (eqb (answer_in pipe) 0) t, eqb-true (answer_in pipe) 0 (both_right (is_pipe pipe) (eqb (answer_in pipe) 0) t))

pub is_open_lem : (pipe : List ℕ) → is_pipe pipe ≡ true → answer_in pipe ≡ 0 → is_open pipe ≡ true
is_open_lem pipe t z = rw (t, eq-eqb (answer_in pipe) 0 z)

pub not_open : (pipe : List ℕ) → answer_in pipe ≢ 0 → is_open pipe ≡ false
not_open pipe z = go (is_pipe pipe)
  where
    go : (a : Bool) → (a && eqb (answer_in pipe) 0) ≡ false
    go true = ne_eqb (answer_in pipe) 0 z
    go false = refl

pub length_so_far : (pipe : List ℕ) → is_pipe pipe ≡ true → length (so_far pipe) ≡ count_in pipe
length_so_far pipe t = length-take-le (count_in pipe) pipe (omega (arith, of_length pipe t, counted pipe t))

-- the request so far at the front, and a part behind it
pub joined : (bytes part d front out : List ℕ) (i : ℕ) → length d ≡ suc longest → length bytes ≤ longest → front ≡ over bytes d
    → out ≡ over part (mid_of (length bytes) (suc longest - length bytes) front) → i ≡ min (length part) (suc longest - length bytes)
    → take (length bytes + i) (put_mid (length bytes) (suc longest - length bytes) front out) ≡ take (suc longest) (bytes ++ part)
joined bytes part d front out i l h f e m =
    let g : front ≡ bytes ++ drop (length bytes) d = f ∙ over_front bytes d (omega (arith, l, h)) in
    let k : length front ≡ suc longest = rw g (omega (arith, length-append bytes (drop (length bytes) d), length-drop (length bytes) d, l, h)) in
    let t : take (length bytes) front ≡ bytes = rw (g, take-append-le (length bytes) bytes (drop (length bytes) d) (omega arith)) (take_all (length bytes) bytes (omega arith)) in
    put_behind (suc longest) (length bytes) i front part out k (omega (arith, h)) e m ∙ ap (λ (x : List ℕ). take (suc longest) (x ++ part)) t
