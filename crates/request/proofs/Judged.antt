-- What the code finds of the bodies, by what they ask for. Assumes nothing.
use mathlib.Core.Path.{◌≡◌, refl, sym, ap, ◌∙◌}
use mathlib.Core.Bool.{Bool, true, false, false≢true, cond, not, ◌&&◌, or-true}
use mathlib.Core.List.{List}
use Prim.Native.Nat.{ℕ}
use lib.Dec.{eqb}
use lib.ListN.{length}
use borrow.Author.Tests.{ne_eqb, eqb-true}
use Rattle.refusals.specs.Tests.{lowest}
use Rattle.refusals.proofs.Tests.{none_at}
use Rattle.wiring.specs.declared.Wiring.{Wiring}
use Rattle.wiring.specs.Wiring.{wiring_in}
use Rattle.wiring.specs.Tests.{wiring_outside}
use Rattle.video.specs.declared.Video.{Video}
use Rattle.video.specs.Video.{video_in}
use Rattle.video.specs.Tests.{video_outside}
use Rattle.sound.specs.declared.Sound.{Sound}
use Rattle.sound.specs.Sound.{sound_of}
use Rattle.sound.specs.Tests.{sound_outside}
use Rattle.matrix.specs.declared.Matrix.{Matrix}
use Rattle.matrix.specs.Matrix.{matrix_of, no_matrix}
use Rattle.matrix.specs.Tests.{is_allowed, matrix_in_range}
use Rattle.matrix.specs.Read.{allowed_matrix}
use Rattle.request.specs.declared.MatrixKind.{MatrixKind}
use Rattle.request.specs.Fields.{is_missing, is_out_of_range}
use Rattle.request.specs.Sections.{Bodies}
use Rattle.request.specs.Request.{present}
use Rattle.request.specs.Numbered.{emptied}
use Rattle.request.specs.Read.{outside_in, combined_in, outside, combined, field_tests, fields_tests, judged}
use Rattle.request.proofs.Inside.{bodies_inside}

-- a body that is empty is not allowed
absent : (m : List ℕ) → present m ≡ false → is_allowed m ≡ false
unfolding is_allowed
absent m e = go (eqb (length m) 0) refl e
  where
    go : (b : Bool) → eqb (length m) 0 ≡ b → not b ≡ false → is_allowed m ≡ false
    go true q f = rw (eqb-true (length m) 0 q)
    go false q f = absurd (false≢true (sym f))

-- where row 5 does not apply, what is read of the matrix's body is what the body says
as_present : (m : List ℕ) → (present m && not (is_allowed m)) ≡ false → allowed_matrix m ≡ cond (present m) (matrix_of m) no_matrix
as_present m e = go (present m) refl (is_allowed m) refl e
  where
    go : (p : Bool) → present m ≡ p → (q : Bool) → is_allowed m ≡ q → (p && not q) ≡ false → cond q (matrix_of m) no_matrix ≡ cond p (matrix_of m) no_matrix
    go true x true y f = refl
    go true x false y f = absurd (false≢true (sym f))
    go false x q y f = rw (sym y ∙ absent m x)

matrix_read : (b : Bodies) → outside b ≡ false → allowed_matrix b.matrix ≡ cond (present b.matrix) (matrix_of b.matrix) no_matrix
matrix_read b e = as_present b.matrix (bodies_inside b e).matrix

-- what is judged, by what the code finds of each body
module _ (b : Bodies) (w : Wiring) (v : Video) (s : Sound) (l : List ℕ) (n : ℕ)
    (d : w ≡ wiring_in b.wiring) (e : v ≡ video_in b.video) (f : s ≡ sound_of b.audio) (g : l ≡ b.matrix)
    (number : n ≡ lowest (field_tests v (outside_in w v s (present l && not (is_allowed l))) (combined_in w v s (eqb (length l) 0)))) where
  its_number : n ≡ lowest (fields_tests b)
  unfolding outside combined
  its_number = number ∙ rw (d, e, f, g)

  pub refused : (n ≡ 0 → ⊥) → emptied n ≡ judged b
  unfolding judged
  refused x = rw (← its_number, ne_eqb n 0 x)

  pub taken : (m : Matrix) → n ≡ 0 → m ≡ allowed_matrix l → record { refusal = 0; request = record { wiring = w; video = v; sound = s; matrix = m } } ≡ judged b
  unfolding judged
  taken m x k =
      let z : lowest (fields_tests b) ≡ 0 = sym its_number ∙ x in
      rw (z, d, e, f, k, g, matrix_read b (none_at (fields_tests b) 1 z))

-- and of a request in hand: of a matrix outside its range it is not asked whether there is none
outside_anyhow : (w : Wiring) (v : Video) (s : Sound) → outside_in w v s true ≡ true
outside_anyhow w v s = rw (or-true (sound_outside s), or-true (video_outside v), or-true (wiring_outside w))

pub number_in_hand : (w : Wiring) (v : Video) (s : Sound) (m : Matrix) (k : MatrixKind) (n : ℕ)
    → is_out_of_range k ≡ not (matrix_in_range m) → (matrix_in_range m ≡ true → is_missing k ≡ eqb m.on 0)
    → n ≡ lowest (field_tests v (outside_in w v s (is_out_of_range k)) (combined_in w v s (is_missing k)))
    → n ≡ lowest (field_tests v (outside_in w v s (not (matrix_in_range m))) (combined_in w v s (eqb m.on 0)))
number_in_hand w v s m k n out missing number = go (matrix_in_range m) refl
  where
    go : (t : Bool) → matrix_in_range m ≡ t → n ≡ lowest (field_tests v (outside_in w v s (not (matrix_in_range m))) (combined_in w v s (eqb m.on 0)))
    go true e = number ∙ rw (out, missing e)
    go false e =
        let o : is_out_of_range k ≡ true = out ∙ ap not e in
        number ∙ rw (o, e, outside_anyhow w v s)
