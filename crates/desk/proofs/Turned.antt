-- The turns of the program's loop: parts go into the pipe, and each that goes on leaves more bytes there. Assumes nothing.
use mathlib.Core.Path.{◌≡◌, refl, sym, ap, subst, ◌∙◌}
use mathlib.Core.Bool.{Bool, true, false, not}
use mathlib.Core.List.{List, [], ◌∷◌, ◌++◌}
use Prim.Native.Nat.{ℕ, ◌-◌, ◌<◌}
use native.Mathlib.Omega.{arith}
use lib.Dec.{eqb}
use lib.ListN.{length}
use borrow.Author.Tests.{eqb-true, eqb-false, not-true}
use Rattle.lists.proofs.Both.{both_left, both_right}
use Rattle.request.specs.Sections.{longest}
use Rattle.pipe.specs.Bytes.{count_in, fresh}
use Rattle.pipe.specs.Found.{take_of, take_pipe}
use Rattle.pipe.specs.Pipe.{OpenPipe, fed, after_parts}
use Rattle.pipe.proofs.Grows.{takes_more}
use Rattle.desk.specs.Turns.{goes_on, SomePart, AllParts}

-- while the loop goes on: some parts, and no answer yet
pub record Reading (pipe : List ℕ) : Type 0 where
  pub parts : List (List ℕ)
  pub taken : pipe ≡ after_parts parts
  pub still : OpenPipe pipe

pub begun : Reading fresh
begun = record { parts = []; taken = refl; still = record { one = record { long = refl; counted = omega arith }; unanswered = refl } }

-- one part more
fed_one : (pipe : List ℕ) (parts : List (List ℕ)) (part : List ℕ) → take_pipe (fed pipe parts) part ≡ fed pipe (parts ++ (part ∷ []))
fed_one pipe [] part = refl
fed_one pipe (p ∷ parts) part = fed_one (take_pipe pipe p) parts part

-- a part that goes on is not empty, and not answered
grows : (pipe part : List ℕ) → OpenPipe pipe → goes_on pipe part ≡ true → OpenPipe (take_pipe pipe part) × (count_in pipe < count_in (take_pipe pipe part))
grows pipe part o g =
    let z : length part ≡ 0 → ⊥ = eqb-false (length part) 0 (not-true (eqb (length part) 0) (both_left (not (eqb (length part) 0)) _ g)) in
    takes_more pipe part o (eqb-true (take_of pipe part).answered 0 (both_right (not (eqb (length part) 0)) _ g)) (omega arith)

module _ (pipe : List ℕ) (more : Bool) (left : List ℕ) (r : Reading pipe) (s : SomePart pipe more left) where
  part_taken : left ≡ after_parts (r.parts ++ (s.part ∷ []))
  part_taken = s.turned.1 ∙ ap (λ (p : List ℕ). take_pipe p s.part) r.taken ∙ fed_one fresh r.parts s.part

  grown : more ≡ true → OpenPipe left × (count_in pipe < count_in left)
  grown e =
      subst (λ (l : List ℕ). OpenPipe l × (count_in pipe < count_in l)) (sym s.turned.1) (grows pipe s.part r.still (sym s.turned.0 ∙ e))

  pub reads_on : more ≡ true → Reading left
  reads_on e = record { parts = r.parts ++ (s.part ∷ []); taken = part_taken; still = (grown e).0 }

  pub stops : more ≡ false → AllParts left
  stops e =
      record {
        parts = r.parts;
        last = s.part;
        taken = part_taken;
        stopped = ap (λ (p : List ℕ). goes_on p s.part) (sym r.taken) ∙ sym s.turned.0 ∙ e;
      }

  pub fewer : more ≡ true → longest - count_in left < longest - count_in pipe
  fewer e = let g = grown e in omega (arith, g.1, g.0.one.counted)
